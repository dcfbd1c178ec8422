-- The two meanings of a structured program.
use Rattle.std.specs.Prelude.{ℕ, ◌≡◌, ◌↔◌}
use Rattle.cob_tree.specs.declared.program.Program.{Program}
use Rattle.control_flow_theory.specs.language.Control.{control_of}
use Rattle.control_flow_theory.specs.language.Structured.{IsStructuredControl}
use Rattle.control_flow_theory.specs.runs.Run.{Begins, Over}
use Rattle.control_flow_theory.specs.runs.Tied.{Tied}
use Rattle.control_flow_theory.specs.semantics.Outcome.{How, Run, Stopped, Trace}
use Rattle.cobol_theory.specs.cobol_meaning.Runs.{Files, source_run, structural_run}

-- over all files each meaning of a structured program covers the other within a number of times as
-- many steps, which is chosen before the files and the steps: it has shown all that the other has,
-- and where the other is over it is the same run
abbrev pub MeaningsAreTied : Type 0
MeaningsAreTied =
    (program : Program) → IsStructuredControl (control_of program) →
    Tied (source_run program) (structural_run program)

-- within some steps it stops so, with these files left, and has shown this
abbrev pub StopsWith : (ℕ → Run Files) → How → Files → Trace → Type 0
StopsWith run how left trace =
    (n : ℕ) × ((run n).standing ≡ Over (Stopped how left)) × ((run n).trace ≡ trace)

-- over all files both stop in the same ways, with the same files left and the same trace
abbrev pub MeaningsStopAlike : Type 0
MeaningsStopAlike =
    (program : Program) → IsStructuredControl (control_of program) →
    (files : Files) (how : How) (left : Files) (trace : Trace) →
    StopsWith (source_run program files) how left trace
    ↔ StopsWith (structural_run program files) how left trace

-- within some steps it has shown this, and maybe more
abbrev pub ShowsFirst : (ℕ → Run Files) → Trace → Type 0
ShowsFirst run trace = (n : ℕ) × Begins trace (run n).trace

-- over all files what one has shown within some steps the other has shown within some, whether or
-- not they ever stop
abbrev pub MeaningsShowAlike : Type 0
MeaningsShowAlike =
    (program : Program) → IsStructuredControl (control_of program) →
    (files : Files) (trace : Trace) →
    ShowsFirst (source_run program files) trace ↔ ShowsFirst (structural_run program files) trace
