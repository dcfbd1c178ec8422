use Rattle.std.proofs.Common.{◌≡◌, ◌++◌, replicate}
use Rattle.edit_fields.proofs.symbols.Symbols.repeat.Given as goal

abbrev pub invariant-loop-turn : goal.invariant-loop-turn
invariant-loop-turn l = l.self ≡ l.fn.self ++ replicate l.turn l.symbol
