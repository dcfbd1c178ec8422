-- What comes of a source is what came of the run of its program.
use Rattle.std.proofs.Common.{ℕ, List, []}
use Rattle.cob_base.specs.Sink.{SinkCall}
use Rattle.cob_tree.specs.declared.program.Program.{Program}
use Rattle.cobol_read.specs.Reading.{Reads}
use Rattle.cobol_theory.specs.cobol_meaning.Runs.{Files}
use Rattle.cobol_run.specs.declared.running.Ran.{Ran}
use Rattle.cobol_run.specs.Over.{TellFiles}
use Rattle.cobol_run.specs.structured_runs.Shown.{ShowsNestedOver}
use Rattle.struct_form.specs.Structured.{IsStructured}
use Rattle.structured_run_laws.proofs.RunLemmas.{are-shown}
use Rattle.cobol_run.specs.Own.{IsOwn}
use Rattle.control_flow_theory.proofs.language_lemmas.OwnStatements.{paragraphs-own}
use Rattle.end_to_end_laws.proofs.read_programs_lemmas.named_reading_lemmas.Whole.{read-named}
use Rattle.restructure_core.specs.run.Answers.{RunOver}
use Rattle.restructure_core.specs.run.Bench.{BenchCall, devices_after, devices_before}

-- no word on an added item stands in a program that is read
pub read_own : (bytes : List ℕ) (program : Program) → Reads bytes program → IsOwn program
read_own bytes program reads = paragraphs-own 0 program.paragraphs (read-named bytes program reads).1

-- what came of a structured program is what its nested statements mean
pub comes_nested : (bytes : List ℕ) (program : Program) (steps : ℕ) (sink : SinkCall) (bench : BenchCall) (ran : Ran) → Reads bytes program → RunOver program steps sink bench ran → IsStructured program → (files : Files) → TellFiles program (devices_before bench) files → ShowsNestedOver program files sink [] (devices_after bench) ran
comes_nested bytes program steps sink bench ran reads over structured files tells =
    are-shown program steps sink bench.left bench.left_now bench.old bench.new ran over.0 structured.structured (read_own bytes program reads) files tells
