use Rattle.std.proofs.Common.{◌≡◌, ℕ, length}
use Rattle.cob_tree.specs.declared.program.Program.{Program}
use Rattle.control_flow_theory.specs.language.Items.{from_loop}
use Rattle.cobol_run.specs.Frames.{rest_of, pending_of}
use Rattle.cobol_run.proofs.frames.leave_turns.Given as goal

abbrev pub invariant-loop-frame : goal.invariant-loop-frame
invariant-loop-frame l = record {
  rest : (last : ℕ) → from_loop l.cycle (rest_of last l.below) ≡ from_loop l.cycle (rest_of last l.initial.below);
  pending : (program : Program) → pending_of program l.below ≡ pending_of program l.initial.below;
}

abbrev pub decreases-loop-frame : goal.decreases-loop-frame
decreases-loop-frame l = length l.below
