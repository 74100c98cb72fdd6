-- `store::forget` meets its contract.
use Rattle.std.proofs.Common.{refl}
use Rattle.store.proofs.Zeros.{filled-is}
use Rattle.store.proofs.forget.Goals as goal

pub returns : goal.returns
returns c = filled-is 1155 61 c.args.work.now c.fill.new.self refl c.requires (c.fill.ensures.after (λ y e. e))
