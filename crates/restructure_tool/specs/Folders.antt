-- The benches of a call, and what words come to over them.
use Rattle.std.specs.Prelude.{ℕ, ◌≡◌, true, false, List, [], ◌∷◌, map, Option, codes}
use Rattle.cob_base.specs.Source.{SourceCall}
use Rattle.cob_base.specs.Sink.{SinkCall}
use Rattle.file_model.specs.operations.Seen.{Seen}
use Rattle.restructure_core.specs.run.Bench.{BenchCall}
use Rattle.restructure_asks.specs.declared.ask.Ask.{Ask}
use Rattle.restructure_asks.specs.declared.status.Status.{Status}
use Rattle.restructure_asks.specs.declared.status.Status.TheVariants as status
use Rattle.restructure_asks.specs.Ask.{ask_of}
use Rattle.restructure_asks.specs.Program.{asked_page, is_page, ShowsPage}
use Rattle.restructure_asks.specs.Tool.{Ends, EndsCompared, EndsWithFiles, IsEitherTold}

-- the bench had two devices, DISK before NULL, of which none had failed
pub record HadDiskAndNull (bench : BenchCall) : Type 0 where
  -- both were on the bench
  pub left : bench.left ≡ 2
  -- these were their names
  pub names : map (λ (device : Seen). device.name) bench.old ≡ codes "DISK" ∷ codes "NULL" ∷ []
  -- none had failed
  pub faults : map (λ (device : Seen). device.faults) bench.old ≡ 0 ∷ 0 ∷ []

-- what `tool` did for this ask, over two such benches
pub record EndsOverFolders (ask : Option Ask) (source : SourceCall) (out notes : SinkCall)
    (answer : Status) : Type 0 where
  pub bench : BenchCall
  pub second : BenchCall
  pub devices : HadDiskAndNull bench
  pub devices_too : HadDiskAndNull second
  -- what became of the source and the sinks
  pub ends : Ends ask source out notes answer
  -- what a run left of the bench
  pub over : EndsWithFiles ask source out notes bench answer
  -- what a comparison came to, and left of both benches
  pub compared : EndsCompared ask source out notes bench second answer
  -- a device that is reported as failed did fail, and is off its bench
  pub told : answer ≡ status.DeviceFault → IsEitherTold notes bench second

-- what words come to: a page where they ask for one, and else what `tool` does
pub record Serves (words : List (List ℕ)) (source : SourceCall) (out notes : SinkCall)
    (answer : Status) : Type 0 where
  pub page : is_page words ≡ true → ShowsPage (asked_page words) source out notes answer
  pub asked : is_page words ≡ false → EndsOverFolders (ask_of words) source out notes answer
