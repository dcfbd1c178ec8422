-- What sources come to as they are run is what their nested statements mean.
use Rattle.std.proofs.Common.{◌≡◌, ℕ, List, Ok, subst}
use Rattle.cob_base.specs.Sink.{SinkCall}
use Rattle.cob_tree.specs.declared.program.Program.{Program}
use Rattle.control_flow_theory.proofs.language_lemmas.OwnStatements.{paragraphs-own}
use Rattle.end_to_end_laws.proofs.read_programs_lemmas.named_reading_lemmas.Whole.{read-named}
use Rattle.struct_form.specs.Structured.{IsStructured}
use Rattle.cobol_read.proofs.OneWay.{one_way}
use Rattle.cobol_read.specs.Reading.{Reads}
use Rattle.cobol_run.specs.declared.running.Ran.{Ran}
use Rattle.cobol_run.specs.Own.{IsOwn}
use Rattle.cobol_run.specs.structured_runs.Shown.{RunsShowNestedStatements}
use Rattle.restructure_core.specs.run.Answers.{ComesOver}
use Rattle.restructure_core.specs.run.Bench.{BenchCall}
use Rattle.restructure_core.specs.Pipeline.{IsResultText}
use Rattle.structured_run_laws.specs.Runs.{NestedEndsAreReached, RunsShowNested}
use Rattle.source_run_laws.specs.Sources.{PlainSourcesShowNested, RanAsNested, ResultsShowNested, SourcesReachNestedEnds, SourcesShowNested}

pub sources-shown : RunsShowNested → SourcesShowNested
sources-shown shows bytes program steps sink bench ran h structured files tells =
    shows program steps sink bench.left bench.left_now bench.old bench.new ran h.2.0 structured.structured h.1 files tells

pub plain-shown : RunsShowNestedStatements → PlainSourcesShowNested
plain-shown shows bytes program steps sink ran h plain structured files =
    shows program structured.structured files steps sink ran (h.1 plain files)

-- no word on an added item is in a program that is read
read-own : (bytes : List ℕ) (program : Program) → Reads bytes program → IsOwn program
read-own bytes program reads = paragraphs-own 0 program.paragraphs (read-named bytes program reads).1

pub sources-reached : NestedEndsAreReached → SourcesReachNestedEnds
sources-reached reached bytes program reads structured =
    let ends = reached program structured.structured (read-own bytes program reads) in (
      ends.0,
      λ files units steps how there stands le sink bench ran h tells.
          ends.1 files units steps how there stands le sink bench.left bench.left_now bench.old bench.new ran h.2.0 tells,
    )

-- the program of a text that was restructured
pub result-read : (bytes : List ℕ) → IsResultText bytes → (program : Program) × Reads bytes program × IsStructured program
result-read bytes h =
    let made = h.2.result.made.program in
    (made, subst (λ text. Reads text made) h.3 h.2.read_back, h.2.structured)

module _ (shows : SourcesShowNested) (bytes : List ℕ) (program : Program) (reads : Reads bytes program) (structured : IsStructured program) where
  result-shown : (other : Program) (steps : ℕ) (sink : SinkCall) (bench : BenchCall) (ran : Ran) → ComesOver bytes steps sink bench (Ok (record { program = other; ran = ran })) → (other ≡ program) × RanAsNested program sink bench ran
  result-shown other steps sink bench ran h =
      let same : other ≡ program = one_way.program bytes other program h.0 reads in
      let run : ComesOver bytes steps sink bench (Ok (record { program = program; ran = ran })) = subst (λ p. ComesOver bytes steps sink bench (Ok (record { program = p; ran = ran }))) same h in
      (same, shows bytes program steps sink bench ran run structured)

pub results-shown : SourcesShowNested → ResultsShowNested
results-shown shows bytes is =
    let made = result-read bytes is in
    (made.0, made.1, made.2, result-shown shows bytes made.0 made.1 made.2)
