-- `write_search::same8` meets its contract.
use mathlib.Core.Path.{sym, ◌∙◌}
use borrow.Author.Tests.{eqb-true}
use Rattle.write_search.proofs.Hashing.{same-eight}
use Rattle.write_search.proofs.same8.Goals as goal

pub returns : goal.returns
returns c = λ e. same-eight c.args.pool.now (λ i. (c.type_inv.pool i).fits) c.args.a c.args.b (sym c.word8.ensures.0 ∙ eqb-true _ _ e ∙ c.word8-2.ensures.0)
