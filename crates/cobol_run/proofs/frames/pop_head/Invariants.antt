use Rattle.std.proofs.Common.{◌≡◌, ℕ, length}
use Rattle.cob_tree.specs.declared.program.Program.{Program}
use Rattle.cobol_run.specs.Frames.{rest_of, pending_of}
use Rattle.cobol_run.proofs.frames.pop_head.Given as goal

abbrev pub invariant-loop-frame : goal.invariant-loop-frame
invariant-loop-frame l = record {
  rest : (last : ℕ) → rest_of last l.below ≡ rest_of last l.initial.below;
  pending : (program : Program) → pending_of program l.below ≡ pending_of program l.initial.below;
}

abbrev pub decreases-loop-frame : goal.decreases-loop-frame
decreases-loop-frame l = length l.below
