-- A refusal as a row that was looked at: all but the numbers is 0.
use mathlib.Core.Path.{refl}
use Rattle.format.specs.Answer.{number, second}
use Rattle.argo.specs.Exported.{words_of, value_of}
use Rattle.argo.proofs.SeenFromRefusal.from.Goals as goal

pub returns : goal.returns
unfolding number second words_of value_of
returns c = record { number = c.number.ensures; second = c.second.ensures; words = refl; value = refl }
