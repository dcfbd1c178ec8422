use Rattle.std.proofs.Common.{◌≡◌, length}
use Rattle.cob_tree.specs.declared.program.Program.{Program}
use Rattle.cobol_run.specs.Frames.{pending_of}
use Rattle.cobol_run.proofs.frames.leave_frames.Given as goal

abbrev pub invariant-loop-below : goal.invariant-loop-below
invariant-loop-below l = (program : Program) → pending_of program l.below ≡ pending_of program l.initial.below

abbrev pub decreases-loop-below : goal.decreases-loop-below
decreases-loop-below l = length l.below
