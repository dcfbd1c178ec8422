-- How calls to run structured programs end.
use Rattle.std.specs.Prelude.{ℕ, ◌≡◌, List, [], Some}
use Rattle.cob_base.specs.Source.{SourceCall}
use Rattle.cob_base.specs.Sink.{SinkCall}
use Rattle.cob_base.specs.giving.Giving.{Takes}
use Rattle.cob_tree.specs.declared.ending.Abend.{Abend}
use Rattle.cob_tree.specs.declared.program.Program.{Program}
use Rattle.struct_form.specs.Structured.{IsStructured}
use Rattle.file_model.specs.operations.Seen.{Seen}
use Rattle.cobol_theory.specs.cobol_meaning.Runs.{Files}
use Rattle.cobol_read.specs.Reading.{Reads}
use Rattle.cobol_run.specs.declared.machine.Ending.TheVariants as ending
use Rattle.cobol_run.specs.Over.{TellFiles}
use Rattle.cobol_run.specs.structured_runs.Shown.{BeginsNested, EndsNestedOver}
use Rattle.restructure_core.specs.Pipeline.{IsResultText}
use Rattle.restructure_core.specs.run.Bench.{BenchCall, devices_after, devices_before}
use Rattle.restructure_asks.specs.declared.ask.Ask.TheVariants.{Run}
use Rattle.restructure_asks.specs.declared.refusal.Refusal.TheVariants as refusal
use Rattle.restructure_asks.specs.declared.status.Status.{Status}
use Rattle.restructure_asks.specs.declared.status.Status.TheVariants as status
use Rattle.restructure_asks.specs.Refusal.{line_of}
use Rattle.restructure_asks.specs.Tool.{EndsWithFiles}

-- what each status tells of a run of a structured program: its nested statements stop within some
-- units, display what went out, and leave the files that the devices tell; they come so to the
-- abend that was noted; or they display at least what went out. It is read, passes no limit, and
-- meets no fault of its flow.
abbrev pub TellsNested : Program → Files → SinkCall → SinkCall → List Seen → Status → Type 0
TellsNested program files out notes devices status.Done =
    EndsNestedOver program files out [] devices ending.Stopped
TellsNested program files out notes devices status.Abend =
    (abend : Abend) × Takes (line_of (refusal.Abend abend)) notes
    × EndsNestedOver program files out [] devices (ending.Abended abend)
TellsNested program files out notes devices status.Usage = ⊥
TellsNested program files out notes devices status.NotSubset = ⊥
TellsNested program files out notes devices status.Flow = ⊥
TellsNested program files out notes devices status.Limit = ⊥
TellsNested program files out notes devices _ = BeginsNested program files out

-- the source tells a structured program, and the devices that it uses tell these files
abbrev pub AskedRunsShowNested : Type 0
AskedRunsShowNested =
    (steps : ℕ) (source : SourceCall) (out notes : SinkCall) (bench : BenchCall)
    (answer : Status) → EndsWithFiles (Some (Run steps)) source out notes bench answer →
    (bytes : List ℕ) (program : Program) (files : Files) → source.told ≡ Some bytes →
    Reads bytes program → IsStructured program →
    TellFiles program (devices_before bench) files →
    TellsNested program files out notes (devices_after bench) answer

-- so does a source that tells what was restructured
abbrev pub AskedResultsShowNested : Type 0
AskedResultsShowNested =
    (bytes : List ℕ) → IsResultText bytes →
    (program : Program) × Reads bytes program × IsStructured program
    × ((steps : ℕ) (source : SourceCall) (out notes : SinkCall) (bench : BenchCall)
    (answer : Status) → EndsWithFiles (Some (Run steps)) source out notes bench answer →
    (files : Files) → source.told ≡ Some bytes →
    TellFiles program (devices_before bench) files →
    TellsNested program files out notes (devices_after bench) answer)
