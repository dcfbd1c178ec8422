-- Laws of what programs mean.
use Rattle.std.specs.Prelude.{ℕ, ◌≡◌}
use Rattle.cob_tree.specs.declared.program.Program.{Program}
use Rattle.control_flow_theory.specs.language.Control.{control_of}
use Rattle.control_flow_theory.specs.language.Structured.{IsStructuredControl}
use Rattle.control_flow_theory.specs.semantics.Outcome.{FlowFault, Faulted}
use Rattle.control_flow_theory.specs.runs.Run.{Over}
use Rattle.cobol_theory.specs.cobol_meaning.Runs.{Files, source_run}
use Rattle.cobol_theory.specs.cobol_meaning.Same.{SameBehaviour}

-- a structured program behaves as itself
abbrev pub StructuredBehavesAsItself : Type 0
StructuredBehavesAsItself =
    (program : Program) → IsStructuredControl (control_of program) → SameBehaviour program program

-- the run of a structured program never meets a fault of its flow
abbrev pub StructuredMeetsNoFault : Type 0
StructuredMeetsNoFault =
    (program : Program) → IsStructuredControl (control_of program) →
    (files : Files) (steps : ℕ) (fault : FlowFault) →
    (source_run program files steps).standing ≡ Over (Faulted fault) → ⊥
