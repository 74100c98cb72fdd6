-- A place as the code has it.
use Rattle.format.specs.Row.{Place}
use Rattle.format.specs.declared.place.Place as code

abbrev pub place_of : code.Place → Place
place_of p = record { start = p.start; size = p.size }
