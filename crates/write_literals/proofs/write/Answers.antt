-- `write_literals::write` meets its contract.
use Rattle.write_literals.proofs.Linking.{written}
use Rattle.write_literals.proofs.write.Goals as goal

pub returns : goal.returns
returns c = written c.args.work.now c.args.key c.args.g c.args.n c.args.at c.args.link c.args.first c.args.second c.requires.0 c.requires.1 c.requires.2 c.requires.4 c.requires.5
