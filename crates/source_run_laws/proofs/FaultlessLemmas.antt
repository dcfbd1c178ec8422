-- A program without a fault of flow meets none as it runs.
use Rattle.std.proofs.Common.{◌≡◌, ℕ, false, if◌then◌else◌, List, [], Option, Some, None, slice_get, refl, ap, subst, sym}
use Rattle.std.specs.Prelude.{◌≢◌}
use Rattle.cob_tree.specs.declared.file.FileEntry.{FileEntry}
use Rattle.cob_tree.specs.declared.program.Program.{Program}
use Rattle.control_flow_theory.specs.language.Control.{control_of}
use Rattle.control_flow_theory.specs.language.Language.{Arith, Chooser, Depending, Evaluate, Read}
use Rattle.control_flow_theory.specs.lowering.FlowFacts.{FlowFacts, IsTold}
use Rattle.control_flow_theory.specs.lowering.flow.Paths as theory
use Rattle.control_flow_theory.specs.runs.Run.{Going, Over}
use Rattle.control_flow_theory.specs.semantics.Outcome.{Faulted, FlowFault, Lost, Returned, Standing, Stopped}
use Rattle.control_flow_theory.specs.semantics_agree.Same.{EndsFairly}
use Rattle.control_flow_theory.proofs.lowering_lemmas.flow.Linked.{not-faulty-fine}
use Rattle.control_flow_theory.proofs.rendering_lemmas.Chained.{source-sober}
use Rattle.meanings.specs.statements.Does.{declared_in}
use Rattle.meanings.specs.statements.Filing.{Declared}
use Rattle.program_facts.specs.completion.FlowFacts.{flow_facts_of, never_ends, status_missing}
use Rattle.program_points.specs.numbering.Kind.{has_no_status, never_first_of}
use Rattle.program_points.specs.paths.Flow.{IsFaulty}
use Rattle.program_points.proofs.machine_paths_lemmas.SameFaults.{faulty-here}
use Rattle.cobol_theory.specs.cobol_meaning.Acting.{acting}
use Rattle.cobol_theory.specs.cobol_meaning.Runs.{Files, doing_in, files_left, first_memory, source_run}
use Rattle.cobol_theory.proofs.cobol_parts_lemmas.Gives.{chooses}
use Rattle.cobol_theory.proofs.cobol_parts_lemmas.Skips.{skips}
use Rattle.cobol_theory.proofs.cobol_parts_lemmas.SomeArm.{gives-some}
use Rattle.cobol_theory.proofs.cobol_parts_lemmas.Sources.{source}
use Rattle.end_to_end_laws.proofs.results_lemmas.read_headline_lemmas.WellMade.{well-made}
use Rattle.cobol_read.specs.Reading.{Reads}
use Rattle.restructure_core.specs.Flow.{HasFlowFault}
use Rattle.source_run_laws.specs.Faultless.{FaultlessRunsEndFairly}

-- flow and lowering are told the same of READ
same-missing : (file : Option FileEntry) → has_no_status file ≡ status_missing file
same-missing None = refl
same-missing (Some file) = refl

same-first : (files : List FileEntry) (chooser : Chooser) → never_first_of files chooser ≡ never_ends files chooser
same-first files (Evaluate subject tests has_other) = refl
same-first files (Read file into has_end) = ap (λ b. if has_end then false else b) (same-missing (slice_get files file))
same-first files (Arith calc into) = refl
same-first files (Depending on names) = refl

same-told : (files : List FileEntry) → never_first_of files ≡ never_ends files
same-told files = λ i chooser. same-first files chooser i

-- lowering knows what the parts do
is-told : (declared : Declared) (returning : List (List ℕ)) → IsTold (flow_facts_of declared.files returning) (acting declared)
is-told declared returning = record { skips = skips declared; chooses = chooses declared }

module _ (bytes : List ℕ) (program : Program) (reads : Reads bytes program) (never : HasFlowFault program → ⊥) where
  abbrev facts : FlowFacts
  facts = flow_facts_of program.files []

  not-faulty : theory.HasFaultyRun facts (control_of program) → ⊥
  not-faulty faulty =
      let proper = (well-made bytes program reads).proper in
      never (subst (λ first. IsFaulty first (control_of program)) (sym (same-told program.files))
      (faulty-here facts (control_of program) (source (declared_in program) [] program proper.own_items proper.own_paragraphs) (gives-some (declared_in program) []) faulty))

  meets-none : (files : Files) (steps : ℕ) (fault : FlowFault) → (source_run program files steps).standing ≢ Over (Faulted fault)
  meets-none files steps fault =
      let proper = (well-made bytes program reads).proper in
      not-faulty-fine (acting (declared_in program)) files_left facts (control_of program) (is-told (declared_in program) []) (source (declared_in program) [] program proper.own_items proper.own_paragraphs) not-faulty
      (first_memory (declared_in program) files) steps fault

  ends-fairly : (files : Files) (steps : ℕ) → EndsFairly (source_run program files steps).standing
  ends-fairly files steps = by-standing (source_run program files steps).standing refl where
    by-standing : (standing : Standing Files) → (source_run program files steps).standing ≡ standing → EndsFairly standing
    by-standing Going is = tt
    by-standing (Over (Stopped how left)) is = tt
    by-standing (Over (Faulted fault)) is = absurd (meets-none files steps fault is)
    by-standing (Over (Returned left)) is = absurd (let sober = source-sober (doing_in (declared_in program)) files_left (control_of program) (first_memory (declared_in program) files) steps in rw is at sober)
    by-standing (Over Lost) is = absurd (let sober = source-sober (doing_in (declared_in program)) files_left (control_of program) (first_memory (declared_in program) files) steps in rw is at sober)

pub faultless-fair : FaultlessRunsEndFairly
faultless-fair bytes program reads never files steps = ends-fairly bytes program reads never files steps
