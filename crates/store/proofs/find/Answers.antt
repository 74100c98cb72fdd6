-- `store::find` meets its contract. The table from keys to slots says whether the key has one.
use mathlib.Core.Path.{refl, sym}
use Rattle.store.proofs.Slots.{find_none, find-is}
use Rattle.store.proofs.find.Goals as goal

pub returns-then-work-key-eq0-clause-result_value : goal.returns-then-work-key-eq0-clause-result_value
returns-then-work-key-eq0-clause-result_value c = sym (find_none c.args.work.now c.requires.0 c.args.key c.if-work-key-eq0.true)

pub returns-clause-result_value : goal.returns-clause-result_value
returns-clause-result_value c = find-is c.args.work.now c.requires.0 c.args.key c.requires.1 c.if-work-key-eq0.false refl refl
