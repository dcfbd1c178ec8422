-- What sources that are structured programs come to as they are run.
use Rattle.std.specs.Prelude.{ℕ, ◌≡◌, ◌+◌, ◌*◌, ◌≤◌, true, List, [], Ok}
use Rattle.cob_base.specs.Sink.{SinkCall}
use Rattle.cob_tree.specs.declared.program.Program.{Program}
use Rattle.struct_form.specs.Structured.{IsStructured}
use Rattle.control_flow_theory.specs.runs.Run.{Over}
use Rattle.control_flow_theory.specs.semantics.Outcome.{How, Stopped}
use Rattle.cobol_theory.specs.cobol_meaning.Runs.{Files, structural_run}
use Rattle.cobol_read.specs.Reading.{Reads}
use Rattle.cobol_run.specs.declared.running.Ran.{Ran}
use Rattle.cobol_run.specs.Over.{TellFiles}
use Rattle.cobol_run.specs.PlainTests.{is_plain}
use Rattle.cobol_run.specs.structured_runs.Shown.{ShowsNested, ShowsNestedOver}
use Rattle.restructure_core.specs.run.Answers.{Comes, ComesOver}
use Rattle.restructure_core.specs.run.Bench.{BenchCall, devices_after, devices_before}
use Rattle.restructure_core.specs.Pipeline.{IsResultText}
use Rattle.structured_run_laws.specs.Runs.{EndsSo}

-- the program that these bytes are came to this as it was run, which is what its nested statements
-- mean over the files that the devices told
abbrev pub RanAsNested : Program → SinkCall → BenchCall → Ran → Type 0
RanAsNested program sink bench ran =
    (files : Files) → TellFiles program (devices_before bench) files →
    ShowsNestedOver program files sink [] (devices_after bench) ran

-- a structured program that is read and run
abbrev pub SourcesShowNested : Type 0
SourcesShowNested =
    (bytes : List ℕ) (program : Program) (steps : ℕ) (sink : SinkCall) (bench : BenchCall)
    (ran : Ran) → ComesOver bytes steps sink bench (Ok (record { program = program; ran = ran })) →
    IsStructured program → RanAsNested program sink bench ran

-- where it has no statements on files, over any devices, and whatever the files
abbrev pub PlainSourcesShowNested : Type 0
PlainSourcesShowNested =
    (bytes : List ℕ) (program : Program) (steps : ℕ) (sink : SinkCall) (ran : Ran) →
    Comes bytes steps sink (Ok (record { program = program; ran = ran })) →
    is_plain program ≡ true → IsStructured program → (files : Files) →
    ShowsNested program files sink ran

-- where its nested statements stop within some units, with steps enough it ends so; how many steps
-- a unit takes is chosen before the files and the units
abbrev pub SourcesReachNestedEnds : Type 0
SourcesReachNestedEnds =
    (bytes : List ℕ) (program : Program) → Reads bytes program → IsStructured program →
    (steps_per_unit : ℕ) × ((files : Files) (units steps : ℕ) (how : How) (there : Files) →
    (structural_run program files units).standing ≡ Over (Stopped how there) →
    steps_per_unit * (units + 1) ≤ steps →
    (sink : SinkCall) (bench : BenchCall) (ran : Ran) →
    ComesOver bytes steps sink bench (Ok (record { program = program; ran = ran })) →
    TellFiles program (devices_before bench) files →
    EndsSo how there (structural_run program files units).trace sink (devices_after bench) ran)

-- the text of each program that was restructured is a structured program, and so whatever it comes
-- to as it is run is what its nested statements mean
abbrev pub ResultsShowNested : Type 0
ResultsShowNested =
    (bytes : List ℕ) → IsResultText bytes →
    (program : Program) × Reads bytes program × IsStructured program
    × ((other : Program) (steps : ℕ) (sink : SinkCall) (bench : BenchCall) (ran : Ran) →
    ComesOver bytes steps sink bench (Ok (record { program = other; ran = ran })) →
    (other ≡ program) × RanAsNested program sink bench ran)
