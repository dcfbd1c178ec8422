use Rattle.std.proofs.Common.{◌≡◌, ◌++◌, drop}
use Rattle.overlap_trail.specs.notes.Trail.{moves_text}
use Rattle.overlap_trail.proofs.notes.level.add_moves.Given as goal

abbrev pub invariant-loop-moved : goal.invariant-loop-moved
invariant-loop-moved l = l.text ++ moves_text (drop l.moved-index l.moves) ≡ l.fn.text ++ moves_text l.moves
