-- `utf8::highest` meets its contract.
use borrow.Author.Tests.{eq-eqb, ne_eqb}
use Rattle.laws.specs.Utf8.{highest}
use Rattle.utf8.proofs.highest.Goals as goal

pub returns-then-b-eq237 : goal.returns-then-b-eq237
unfolding highest
returns-then-b-eq237 c = rw (eq-eqb c.args.b 0xed c.if-b-eq237.true)

pub returns-then-b-eq244 : goal.returns-then-b-eq244
unfolding highest
returns-then-b-eq244 c = rw (ne_eqb c.args.b 0xed c.if-b-eq237.false, eq-eqb c.args.b 0xf4 c.if-b-eq244.true)

pub returns : goal.returns
unfolding highest
returns c = rw (ne_eqb c.args.b 0xed c.if-b-eq237.false, ne_eqb c.args.b 0xf4 c.if-b-eq244.false)
