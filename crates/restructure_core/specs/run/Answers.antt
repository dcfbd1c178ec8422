-- What comes of a source that is to run.
use Rattle.std.specs.Prelude.{ℕ, ◌≡◌, ◌≢◌, true, List, [], Result, Ok, Err}
use Rattle.cob_base.specs.giving.Giving.{Keeps}
use Rattle.cob_base.specs.Sink.{SinkCall}
use Rattle.cob_tree.specs.declared.program.Program.{Program}
use Rattle.struct_form.specs.Structured.{IsStructured}
use Rattle.cobol_theory.specs.cobol_meaning.Runs.{Files}
use Rattle.cobol_read.specs.declared.refusal.ReadRefusal.{ReadRefusal}
use Rattle.cobol_read.specs.declared.refusal.ReadRefusal.TheVariants as refusals
use Rattle.cobol_read.specs.Reading.{HasCause, Reads}
use Rattle.cobol_run.specs.declared.running.Ran.{Ran}
use Rattle.cobol_run.specs.declared.running.Ran.TheVariants as ran
use Rattle.cobol_run.specs.Falling.{RunFalls}
use Rattle.cobol_run.specs.Over.{RunEnds, TellFiles}
use Rattle.cobol_run.specs.Own.{IsOwn}
use Rattle.cobol_run.specs.PlainTests.{is_plain}
use Rattle.cobol_run.specs.Running.{RunsAs}
use Rattle.cobol_run.specs.structured_runs.Shown.{ShowsNestedOver}
use Rattle.restructure_core.specs.declared.run.SourceRun.{SourceRun}
use Rattle.restructure_core.specs.run.Bench.{BenchCall, StaysAsWas, devices_after, devices_before}

-- what came of a source: its program and what came of the run, or why it is no program
abbrev pub Came : Type 0
Came = Result SourceRun ReadRefusal

-- the program that the bytes are ran so, or memory ran out before, or the bytes are refused
abbrev pub Comes : List ℕ → ℕ → SinkCall → Came → Type 0
Comes bytes steps sink (Ok run) =
    Reads bytes run.program
    × (is_plain run.program ≡ true → (files : Files) → RunsAs run.program files steps sink run.ran)
Comes bytes steps sink (Err refusals.NoMemory) = Keeps sink
Comes bytes steps sink (Err refusal) =
    HasCause bytes refusal × (refusal ≢ refusals.NoMemory) × Keeps sink

-- what a run of the program leaves of the bench, and of the world where the devices that the
-- program uses tell their files; without statements on files the bench is as it was
abbrev pub RunOver : Program → ℕ → SinkCall → BenchCall → Ran → Type 0
RunOver program steps sink bench ran =
    RunEnds program steps sink bench.left bench.left_now bench.old bench.new ran
    × (is_plain program ≡ true → StaysAsWas bench)

-- what is left of the bench and of the world where the program that the bytes are is run, without a
-- word on an added item, or the bench is as it was
abbrev pub ComesOver : List ℕ → ℕ → SinkCall → BenchCall → Came → Type 0
ComesOver bytes steps sink bench (Ok run) =
    Reads bytes run.program × IsOwn run.program × RunOver run.program steps sink bench run.ran
ComesOver bytes steps sink bench (Err refusal) = StaysAsWas bench

-- where the program is structured, what it came to is what its nested statements mean over the
-- files of the devices on the bench, where those that it uses tell them: where it ended they end so
-- within some units, display what the sink gained, and leave the files that the devices tell then;
-- else they display at least what the sink gained
abbrev pub CameNested : SinkCall → BenchCall → Came → Type 0
CameNested sink bench (Ok run) =
    IsStructured run.program → (files : Files) →
    TellFiles run.program (devices_before bench) files →
    ShowsNestedOver run.program files sink [] (devices_after bench) run.ran
CameNested sink bench (Err refusal) = Unit {0}

-- the sink failed while the program displayed
abbrev pub IsWriteFault : Came → Type 0
IsWriteFault (Ok run) = run.ran ≡ ran.WriteFault
IsWriteFault (Err refusal) = ⊥

-- where a run says that a device failed, it is gone
abbrev pub CameFalls : Came → BenchCall → Type 0
CameFalls (Ok run) bench = RunFalls run.ran bench.left bench.left_now bench.old bench.new
CameFalls (Err refusal) bench = StaysAsWas bench
