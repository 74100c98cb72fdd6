-- `utf8::lowest` meets its contract.
use borrow.Author.Tests.{eq-eqb, ne_eqb}
use Rattle.laws.specs.Utf8.{lowest}
use Rattle.utf8.proofs.lowest.Goals as goal

pub returns-then-b-eq224 : goal.returns-then-b-eq224
unfolding lowest
returns-then-b-eq224 c = rw (eq-eqb c.args.b 0xe0 c.if-b-eq224.true)

pub returns-then-b-eq240 : goal.returns-then-b-eq240
unfolding lowest
returns-then-b-eq240 c = rw (ne_eqb c.args.b 0xe0 c.if-b-eq224.false, eq-eqb c.args.b 0xf0 c.if-b-eq240.true)

pub returns : goal.returns
unfolding lowest
returns c = rw (ne_eqb c.args.b 0xe0 c.if-b-eq224.false, ne_eqb c.args.b 0xf0 c.if-b-eq240.false)
