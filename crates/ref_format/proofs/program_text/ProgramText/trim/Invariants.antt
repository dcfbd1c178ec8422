use Rattle.std.proofs.Common.{◌≡◌, length}
use Rattle.ref_format.specs.Joining.{unspaced_end}
use Rattle.ref_format.proofs.program_text.ProgramText.trim.Given as goal

abbrev pub invariant-loop-self : goal.invariant-loop-self
invariant-loop-self l = unspaced_end l.self ≡ unspaced_end l.initial.self

abbrev pub decreases-loop-self : goal.decreases-loop-self
decreases-loop-self l = length l.self
