use Rattle.std.proofs.Common.{◌≡◌, ◌-◌, Some}
use Rattle.edit_fields.specs.Reading.{repeated, repeated_on}
use Rattle.edit_fields.proofs.reading.Reading.repeated.Given as goal

abbrev pub invariant-loop-turn : goal.invariant-loop-turn
invariant-loop-turn l = repeated l.fn.count l.fn.symbol l.fn.self ≡ repeated_on (l.count - l.turn) l.symbol (Some l.reading)
