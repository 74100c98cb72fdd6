-- `Slice::write` meets its contract.
use Rattle.write_bytes.proofs.Stores.{part_plain, part-room, part_ended}
use Rattle.write_bytes.proofs.as_bytes.SliceAsBytes.write.Goals as goal

pub returns-then-not-self : goal.returns-then-not-self
returns-then-not-self c = part_plain c.args.out.now c.args.at c.args.self.bytes.now c.args.self.ended c.copy.ensures c.requires c.if-not-self.true

pub bounds-out-at : goal.bounds-out-at
bounds-out-at c = part-room c.args.out.now c.args.at c.args.self.bytes.now c.args.self.ended c.copy.ensures c.requires c.if-not-self.false

pub returns : goal.returns
returns c = part_ended c.args.out.now c.args.at c.args.self.bytes.now c.args.self.ended c.copy.ensures c.requires c.if-not-self.false
