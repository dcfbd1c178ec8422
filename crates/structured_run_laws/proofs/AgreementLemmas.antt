-- The two meanings of a structured program agree.
use Rattle.std.proofs.Common.{◌≡◌, ℕ, ◌+◌, ◌*◌, ◌++◌, ap, ◌∙◌, arith, append_assoc}
use Rattle.cob_tree.specs.declared.program.Program.{Program}
use Rattle.meanings.specs.statements.Does.{declared_in}
use Rattle.control_flow_theory.specs.language.Control.{control_of}
use Rattle.control_flow_theory.specs.language.Structured.{IsStructuredControl}
use Rattle.control_flow_theory.specs.runs.Machine.{meaning}
use Rattle.control_flow_theory.specs.runs.Run.{Begins, Covers, Over}
use Rattle.control_flow_theory.specs.runs.Tied.{Tied}
use Rattle.control_flow_theory.specs.semantics.Outcome.{How, Run, Stopped, Trace}
use Rattle.control_flow_theory.specs.semantics.Source.{source_machine}
use Rattle.control_flow_theory.specs.semantics.Structural.{structural}
use Rattle.control_flow_theory.proofs.semantics_agree_lemmas.Agreement.{structured-tied}
use Rattle.control_flow_theory.proofs.semantics_agree_lemmas.Faultless.{structured-faultless}
use Rattle.control_flow_theory.proofs.semantics_agree_lemmas.Tying.{covers-matched, tied-same}
use Rattle.cobol_theory.specs.cobol_meaning.Laws.{StructuredBehavesAsItself, StructuredMeetsNoFault}
use Rattle.cobol_theory.specs.cobol_meaning.Runs.{Files, doing_in, files_left, first_memory, source_run, structural_run}
use Rattle.structured_run_laws.specs.Agreement.{MeaningsAreTied, MeaningsShowAlike, MeaningsStopAlike, ShowsFirst, StopsWith}

-- what is tied over all memories is tied over all files
tied-from-all : (program : Program) → Tied (meaning (source_machine (doing_in (declared_in program)) files_left (control_of program))) (structural (doing_in (declared_in program)) files_left (control_of program)) → Tied (source_run program) (structural_run program)
tied-from-all program all = record {
  there = all.there;
  back = all.back;
  covered = λ files n k le. all.covered (first_memory (declared_in program) files) n k le;
  covers = λ files n k le. all.covers (first_memory (declared_in program) files) n k le;
}

pub are-tied : MeaningsAreTied
are-tied program structured =
    tied-from-all program (structured-tied (doing_in (declared_in program)) files_left (control_of program) structured)

-- a structured program behaves as itself, and meets no fault of its flow
pub behaves-as-itself : StructuredBehavesAsItself
behaves-as-itself program structured =
    tied-same (source_run program) (structural_run program) (are-tied program structured)

pub never-faulty : StructuredMeetsNoFault
never-faulty program structured files steps fault =
    structured-faultless (doing_in (declared_in program)) files_left (control_of program) structured (first_memory (declared_in program) files) steps fault

-- a run that is covered stops so with the other, and shows no more
stops-there : (first second : Run Files) (how : How) (left : Files) → Covers first second → first.standing ≡ Over (Stopped how left) → (second.standing ≡ Over (Stopped how left)) × (second.trace ≡ first.trace)
stops-there first second how left h is = (covers-matched first second h).stopped how left is

shows-there : (first second : Run Files) (trace : Trace) → Covers first second → Begins trace first.trace → Begins trace second.trace
shows-there first second trace h begins =
    (begins.0 ++ h.shows.0, h.shows.1 ∙ ap (λ t. t ++ h.shows.0) begins.1 ∙ append_assoc trace begins.0 h.shows.0)

module _ (program : Program) (structured : IsStructuredControl (control_of program)) (files : Files) where
  there-covered : (n : ℕ) → Covers (source_run program files n) (structural_run program files ((are-tied program structured).there * (n + 1)))
  there-covered n = (are-tied program structured).covered files n ((are-tied program structured).there * (n + 1)) (omega arith)

  back-covered : (n : ℕ) → Covers (structural_run program files n) (source_run program files ((are-tied program structured).back * (n + 1)))
  back-covered n = (are-tied program structured).covers files n ((are-tied program structured).back * (n + 1)) (omega arith)

  stops-nested : (how : How) (left : Files) (trace : Trace) → StopsWith (source_run program files) how left trace → StopsWith (structural_run program files) how left trace
  stops-nested how left trace h =
      let same = stops-there _ _ how left (there-covered h.0) h.1 in
      ((are-tied program structured).there * (h.0 + 1), same.0, same.1 ∙ h.2)

  stops-in-steps : (how : How) (left : Files) (trace : Trace) → StopsWith (structural_run program files) how left trace → StopsWith (source_run program files) how left trace
  stops-in-steps how left trace h =
      let same = stops-there _ _ how left (back-covered h.0) h.1 in
      ((are-tied program structured).back * (h.0 + 1), same.0, same.1 ∙ h.2)

  shows-nested : (trace : Trace) → ShowsFirst (source_run program files) trace → ShowsFirst (structural_run program files) trace
  shows-nested trace h =
      ((are-tied program structured).there * (h.0 + 1), shows-there _ _ trace (there-covered h.0) h.1)

  shows-in-steps : (trace : Trace) → ShowsFirst (structural_run program files) trace → ShowsFirst (source_run program files) trace
  shows-in-steps trace h =
      ((are-tied program structured).back * (h.0 + 1), shows-there _ _ trace (back-covered h.0) h.1)

pub stop-alike : MeaningsStopAlike
stop-alike program structured files how left trace = (
  stops-nested program structured files how left trace,
  stops-in-steps program structured files how left trace,
)

pub show-alike : MeaningsShowAlike
show-alike program structured files trace =
    (shows-nested program structured files trace, shows-in-steps program structured files trace)
