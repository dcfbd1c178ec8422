-- Programs whose flow has no fault, as they run.
use Rattle.std.specs.Prelude.{ℕ, List}
use Rattle.cob_tree.specs.declared.program.Program.{Program}
use Rattle.control_flow_theory.specs.semantics_agree.Same.{EndsFairly}
use Rattle.cobol_theory.specs.cobol_meaning.Runs.{Files, source_run}
use Rattle.cobol_read.specs.Reading.{Reads}
use Rattle.restructure_core.specs.Flow.{HasFlowFault}

-- a program that is read and no flow path of which comes to a fault goes on or stops, over all files
-- and after however many steps
abbrev pub FaultlessRunsEndFairly : Type 0
FaultlessRunsEndFairly =
    (bytes : List ℕ) (program : Program) → Reads bytes program → (HasFlowFault program → ⊥) →
    (files : Files) (steps : ℕ) → EndsFairly (source_run program files steps).standing
