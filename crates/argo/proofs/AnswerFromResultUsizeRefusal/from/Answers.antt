-- The two numbers of what a call answers: 0 and the count, or the refusal's.
use mathlib.Core.Path.{refl}
use Rattle.format.specs.Answer.{number, second}
use Rattle.argo.proofs.AnswerFromResultUsizeRefusal.from.Goals as goal

pub returns-in-Ok : goal.returns-in-Ok
unfolding number second
returns-in-Ok c = rw c.in-Ok.is (record { number = refl; second = refl })

pub returns-in-Err : goal.returns-in-Err
unfolding number second
returns-in-Err c = rw c.in-Err.is (record { number = c.number.ensures; second = c.second.ensures })
