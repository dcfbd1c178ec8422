use Rattle.std.proofs.Common.{◌≡◌, length}
use Rattle.cob_tree.specs.declared.program.Program.{Program}
use Rattle.cobol_run.specs.Frames.{pending_of}
use Rattle.cobol_run.proofs.frames.pop_return.Given as goal

abbrev pub invariant-loop-frame : goal.invariant-loop-frame
invariant-loop-frame l = (program : Program) → pending_of program l.below ≡ pending_of program l.initial.below

abbrev pub decreases-loop-frame : goal.decreases-loop-frame
decreases-loop-frame l = length l.below
