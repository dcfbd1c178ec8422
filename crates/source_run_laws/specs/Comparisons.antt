-- How calls to compare a program with what it is restructured to end.
use Rattle.std.specs.Prelude.{ℕ, ◌≡◌, ◌≢◌, List, Some}
use Rattle.cob_base.specs.Sink.{SinkCall}
use Rattle.cob_base.specs.Source.{SourceCall}
use Rattle.cobol_theory.specs.cobol_meaning.Runs.{Files}
use Rattle.cobol_run.specs.Over.{TellFiles}
use Rattle.restructure_core.specs.declared.pipeline.Done.{Done}
use Rattle.restructure_core.specs.Pipeline.{IsRestructured}
use Rattle.restructure_core.specs.run.Bench.{BenchCall, devices_before}
use Rattle.restructure_asks.specs.declared.ask.Ask.TheVariants.{Compare}
use Rattle.restructure_asks.specs.declared.status.Status.{Status}
use Rattle.restructure_asks.specs.declared.status.Status.TheVariants as status
use Rattle.restructure_asks.specs.Tool.{EndsCompared}
use Rattle.source_pairs.specs.Cut.{IsCut}

-- the bytes are a source and the text that it is restructured to, with the cut between them
pub record HasItsResult (bytes : List ℕ) : Type 0 where
  pub first : List ℕ
  pub second : List ℕ
  pub cut : IsCut bytes first second
  pub done : Done
  -- this is answered of the source
  pub restructured : IsRestructured first done
  -- what comes behind the cut is its text
  pub written : second ≡ done.text

-- where a source tells such bytes, and the devices of both benches that the programs use the same
-- files, a call to compare them never ends with DIFFER
abbrev pub AskedResultsNeverDiffer : Type 0
AskedResultsNeverDiffer =
    (steps : ℕ) (source : SourceCall) (out notes : SinkCall) (bench second : BenchCall)
    (end : Status) → EndsCompared (Some (Compare steps)) source out notes bench second end →
    (bytes : List ℕ) (files : Files) → source.told ≡ Some bytes → (both : HasItsResult bytes) →
    TellFiles both.restructured.program (devices_before bench) files →
    TellFiles both.restructured.result.made.program (devices_before second) files →
    end ≢ status.Differ
