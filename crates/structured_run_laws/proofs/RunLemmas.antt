-- Runs of structured programs are what nested statements mean.
use Rattle.std.proofs.Common.{◌≡◌, ℕ, List, [], take, refl, sym, ◌∙◌, subst}
use Rattle.cob_base.specs.Sink.{SinkCall}
use Rattle.cob_tree.specs.declared.program.Program.{Program}
use Rattle.control_flow_theory.specs.language.Control.{control_of}
use Rattle.control_flow_theory.specs.language.Structured.{IsStructuredControl}
use Rattle.control_flow_theory.specs.runs.Run.{Going, Over}
use Rattle.control_flow_theory.specs.semantics.Outcome.{Abend, Ending, Faulted, FlowFault, How, Normally, Stopped}
use Rattle.control_flow_theory.proofs.semantics_agree_lemmas.Tying.{covers-matched}
use Rattle.file_model.specs.World.{shelf_found}
use Rattle.file_model.specs.operations.Calls.{addresses_of}
use Rattle.file_model.specs.operations.Seen.{Seen, device_found}
use Rattle.file_model.specs.operations.Shutting.{LeavesFiles}
use Rattle.file_model.specs.operations.Standing.{SameShelf}
use Rattle.cobol_theory.specs.cobol_meaning.Acting.{abend_number}
use Rattle.cobol_theory.specs.cobol_meaning.Runs.{Files, source_run, structural_run}
use Rattle.cobol_run.specs.declared.machine.Ending as machine
use Rattle.cobol_run.specs.declared.machine.Ending.TheVariants as ending
use Rattle.cobol_run.specs.declared.running.Ran.{Ran}
use Rattle.cobol_run.specs.declared.running.Ran.TheVariants as ran
use Rattle.cobol_run.specs.Machine.{ending_seen, fault_seen}
use Rattle.cobol_run.specs.Over.{ComesTo, EndsAt, RunEnds, TellFiles}
use Rattle.cobol_run.specs.Own.{IsOwn}
use Rattle.cobol_run.specs.Points.{world_after}
use Rattle.cobol_run.specs.structured_runs.Shown.{RunsOverFilesShowNestedStatements, ShowsNestedOver}
use Rattle.cobol_run.proofs.structured_runs_lemmas.Shown.{nested-shown-over}
use Rattle.structured_run_laws.specs.Agreement.{MeaningsAreTied}
use Rattle.structured_run_laws.proofs.AgreementLemmas.{are-tied, behaves-as-itself, never-faulty}
use Rattle.structured_run_laws.specs.Runs.{EndsSo, NestedEndsAreReached, ReachesEnd, RunsShowNested}

-- where a run ended no device failed
ended-whole : (program : Program) (files : Files) (sink : SinkCall) (gone : List (List ℕ)) (devices : List Seen) (how : machine.Ending) → gone ≡ [] → ShowsNestedOver program files sink gone devices (ran.Ended how) → ShowsNestedOver program files sink [] devices (ran.Ended how)
ended-whole program files sink gone devices how none h =
    subst (λ names. ShowsNestedOver program files sink names devices (ran.Ended how)) none h

module _ (shows : RunsOverFilesShowNestedStatements) (program : Program) (steps : ℕ) (sink : SinkCall) (left left_now : ℕ) (old new : List Seen) (structured : IsStructuredControl (control_of program)) (own : IsOwn program) (files : Files) (tells : TellFiles program (take left old) files) where
  shown : (came : Ran) → (h : RunEnds program steps sink left left_now old new came) → ShowsNestedOver program files sink h.gone (take left_now new) came
  shown came h =
      shows program structured files steps sink h.gone (take left_now new) came (h.files files own tells)

  pub shown-whole : (came : Ran) → RunEnds program steps sink left left_now old new came → ShowsNestedOver program files sink [] (take left_now new) came
  shown-whole (ran.Ended how) h =
      ended-whole program files sink h.gone (take left_now new) how h.names (shown (ran.Ended how) h)
  shown-whole ran.Budget h = shown ran.Budget h
  shown-whole (ran.DeviceFault name) h = shown (ran.DeviceFault name) h
  shown-whole ran.WriteFault h = shown ran.WriteFault h
  shown-whole ran.NoMemory h = shown ran.NoMemory h

runs-shown : RunsOverFilesShowNestedStatements → RunsShowNested
runs-shown shows program steps sink left left_now old new came ends structured own files tells =
    shown-whole shows program steps sink left left_now old new structured own files tells came ends

pub are-shown : RunsShowNested
are-shown = runs-shown (nested-shown-over behaves-as-itself never-faulty)

-- ---- what nested statements come to is reached

over-same : (one other : Ending Files) → Over one ≡ Over other → one ≡ other
over-same one other h = cc

over-never : (one : Ending Files) → Over one ≡ Going → ⊥
over-never one h = cc

stopped-left : (one other : How) (left there : Files) → ◌≡◌ {A = Ending Files} (Stopped one left) (Stopped other there) → left ≡ there
stopped-left one other left there h = cc

faulted-never : (fault : FlowFault) (how : How) (there : Files) → ◌≡◌ {A = Ending Files} (Faulted fault) (Stopped how there) → ⊥
faulted-never fault how there h = cc

-- a run that ended leaves the files of its end
ends-left : (one : machine.Ending) (how : How) (left there : Files) → ending_seen one left ≡ Stopped how there → left ≡ there
ends-left ending.Stopped how left there h = stopped-left Normally how left there h
ends-left (ending.Abended abend) how left there h = stopped-left (Abend (abend_number abend)) how left there h
ends-left (ending.Faulted fault) how left there h = absurd (faulted-never (fault_seen fault) how there h)

module _ (program : Program) (files : Files) (steps : ℕ) (how : How) (there : Files) (sink : SinkCall) (devices : List Seen)
    (stands : (source_run program files steps).standing ≡ Over (Stopped how there)) where
  ends-so : (one : machine.Ending) → EndsAt program files steps sink (LeavesFiles (addresses_of program.files) [] devices) one → EndsSo how there (source_run program files steps).trace sink devices (ran.Ended one)
  ends-so one h =
      let left = (world_after program files steps).shelves in
      let is : ending_seen one left ≡ Stopped how there = over-same (ending_seen one left) (Stopped how there) (sym h.0.0 ∙ stands) in
      let same : left ≡ there = ends-left one how left there is in (
        subst (λ fs. ending_seen one fs ≡ Stopped how there) same is,
        h.0.1,
        λ name. subst (λ fs. SameShelf (device_found name devices) (shelf_found name fs)) same (h.1.same name refl),
      )

  comes-so : (gone : List (List ℕ)) (came : Ran) → gone ≡ [] → ComesTo program files steps sink (LeavesFiles (addresses_of program.files) gone devices) came → EndsSo how there (source_run program files steps).trace sink devices came
  comes-so gone (ran.Ended one) none h =
      ends-so one (subst (λ names. EndsAt program files steps sink (LeavesFiles (addresses_of program.files) names devices) one) none h)
  comes-so gone ran.Budget none h =
      over-never (Stopped how there) (sym stands ∙ h.0.0)
  comes-so gone (ran.DeviceFault name) none h = tt
  comes-so gone ran.WriteFault none h = tt
  comes-so gone ran.NoMemory none h = tt

module _ (program : Program) (own : IsOwn program) (files : Files) (steps : ℕ) (how : How) (there : Files)
    (stands : (source_run program files steps).standing ≡ Over (Stopped how there)) where
  pub reaches : ReachesEnd program steps files how there (source_run program files steps).trace
  reaches sink left left_now old new (ran.Ended one) h tells =
      comes-so program files steps how there sink (take left_now new) stands h.gone (ran.Ended one) h.names (h.files files own tells)
  reaches sink left left_now old new ran.Budget h tells =
      comes-so program files steps how there sink (take left_now new) stands h.gone ran.Budget h.names (h.files files own tells)
  reaches sink left left_now old new (ran.DeviceFault name) h tells = tt
  reaches sink left left_now old new ran.WriteFault h tells = tt
  reaches sink left left_now old new ran.NoMemory h tells = tt

ends-reached : MeaningsAreTied → NestedEndsAreReached
ends-reached tied program structured own = (
  (tied program structured).back,
  λ files units steps how there stands le.
      let same = (covers-matched (structural_run program files units) (source_run program files steps) ((tied program structured).covers files units steps le)).stopped how there stands in
      subst (λ trace. ReachesEnd program steps files how there trace) same.1 (reaches program own files steps how there same.0),
)

pub are-reached : NestedEndsAreReached
are-reached = ends-reached are-tied
