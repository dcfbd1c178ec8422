-- What runs of structured programs show is what their nested statements show.
use Rattle.std.proofs.Common.{◌≡◌, ◌+◌, ◌*◌, ℕ, zero, suc, false, List, [], ◌∷◌, ◌++◌, take, drop, refl, ap, sym, ◌∙◌, subst}
use Rattle.cob_base.specs.Sink.{SinkCall}
use Rattle.cob_tree.specs.declared.program.Program.{Program}
use Rattle.control_flow_theory.specs.language.Control.{control_of}
use Rattle.control_flow_theory.specs.language.Structured.{IsStructuredControl}
use Rattle.file_model.specs.World.{shelf_found}
use Rattle.file_model.specs.operations.Calls.{addresses_of}
use Rattle.file_model.specs.operations.Falling.{is_among}
use Rattle.file_model.specs.operations.Seen.{Seen, device_found}
use Rattle.file_model.specs.operations.Shutting.{LeavesFiles}
use Rattle.file_model.specs.operations.Standing.{SameShelf}
use Rattle.control_flow_theory.specs.runs.Run.{Over}
use Rattle.control_flow_theory.specs.semantics.Outcome.{How, Stopped, Normally, Trace}
use Rattle.control_flow_theory.specs.semantics.Outcome as outcome
use Rattle.control_flow_theory.specs.semantics_agree.Same.{IsMatchedBy}
use Rattle.cobol_theory.specs.cobol_meaning.Acting.{abend_number}
use Rattle.cobol_theory.specs.cobol_meaning.Laws.{StructuredBehavesAsItself, StructuredMeetsNoFault}
use Rattle.cobol_theory.specs.cobol_meaning.Runs.{Files, source_run, structural_run}
use Rattle.cob_base.specs.giving.Giving.{Gains}
use Rattle.cobol_run.specs.declared.machine.Ending.TheVariants as ending
use Rattle.cobol_run.specs.declared.running.Ran.{Ran}
use Rattle.cobol_run.specs.declared.running.Ran.TheVariants as ran
use Rattle.cobol_run.specs.Machine.{fault_seen}
use Rattle.cobol_run.specs.Over.{ComesTo}
use Rattle.cobol_run.specs.Points.{world_after}
use Rattle.cobol_run.specs.Running.{shown_by, displayed, RunsAs, Stands}
use Rattle.cobol_run.specs.structured_runs.Shown.{BeginsNested, ShowsNested, ShowsNestedOver, RunsOverFilesShowNestedStatements, RunsShowNestedStatements}

-- ---- lists

behind-none : (xs : List ℕ) → xs ++ [] ≡ xs
behind-none [] = refl
behind-none (x ∷ xs) = ap (λ ys. x ∷ ys) (behind-none xs)

together : (xs ys zs : List ℕ) → (xs ++ ys) ++ zs ≡ xs ++ (ys ++ zs)
together [] ys zs = refl
together (x ∷ xs) ys zs = ap (λ list. x ∷ list) (together xs ys zs)

front-and-rest : (n : ℕ) (xs : List ℕ) → take n xs ++ drop n xs ≡ xs
front-and-rest zero xs = refl
front-and-rest (suc n) [] = refl
front-and-rest (suc n) (x ∷ xs) = ap (λ ys. x ∷ ys) (front-and-rest n xs)

displayed-both : (one other : Trace) → displayed (one ++ other) ≡ displayed one ++ displayed other
displayed-both [] other = refl
displayed-both (event ∷ one) other =
    ap (λ list. shown_by event ++ list) (displayed-both one other)
    ∙ sym (together (shown_by event) (displayed one) (displayed other))

-- ---- runs

module _ (same : StructuredBehavesAsItself) (faultless : StructuredMeetsNoFault) (program : Program)
    (structured : IsStructuredControl (control_of program)) (files : Files) (sink : SinkCall) where
  abbrev units_for : ℕ → ℕ
  units_for steps = (same program structured).units_per_step * (steps + 1)

  matched : (steps : ℕ) →
      IsMatchedBy (source_run program files steps) (structural_run program files (units_for steps))
  matched steps = (same program structured).there files steps

  -- its nested statements stop in the same way, and leave the same
  stopped : (steps : ℕ) (how : How) (left : Files) →
      (source_run program files steps).standing ≡ Over (Stopped how left) →
      Gains (displayed (source_run program files steps).trace) sink →
      (units : ℕ) × ((structural_run program files units).standing ≡ Over (Stopped how left))
      × Gains (displayed (structural_run program files units).trace) sink
  stopped steps how left over gains =
      let there = (matched steps).stopped how left over in (
        units_for steps,
        there.0,
        subst (λ trace. Gains (displayed trace) sink) (sym there.1) gains,
      )

  -- and show all that a run showed, or a front of it
  shown : (steps : ℕ) (bytes rest : List ℕ) →
      displayed (source_run program files steps).trace ≡ bytes ++ rest → Gains bytes sink →
      BeginsNested program files sink
  shown steps bytes rest are gains =
      let begins = (matched steps).shown in
      let whole = ap displayed begins.1 ∙ displayed-both (source_run program files steps).trace begins.0 in (
        units_for steps,
        bytes,
        rest ++ displayed begins.0,
        whole ∙ ap (λ list. list ++ displayed begins.0) are
            ∙ together bytes rest (displayed begins.0),
        gains,
      )

  all-shown : (steps : ℕ) → Gains (displayed (source_run program files steps).trace) sink →
      BeginsNested program files sink
  all-shown steps gains =
      let bytes = displayed (source_run program files steps).trace in
      shown steps bytes [] (sym (behind-none bytes)) gains

  within-shown : (done : ℕ) (event : List ℕ) (front : ℕ) →
      (source_run program files (suc done)).trace
      ≡ (source_run program files done).trace ++ (0 ∷ event) ∷ [] →
      Gains (displayed (source_run program files done).trace ++ take front event) sink →
      BeginsNested program files sink
  within-shown done event front more gains =
      let before = displayed (source_run program files done).trace in
      let all = ap displayed more
      ∙ displayed-both (source_run program files done).trace ((0 ∷ event) ∷ [])
      ∙ ap (λ list. before ++ list) (behind-none event ∙ sym (front-and-rest front event))
      ∙ sym (together before (take front event) (drop front event)) in
      shown (suc done) (before ++ take front event) (drop front event) all gains

  shows : (steps : ℕ) (came : Ran) → RunsAs program files steps sink came →
      ShowsNested program files sink came
  shows steps (ran.Ended ending.Stopped) h = stopped steps Normally files h.0 h.1
  shows steps (ran.Ended (ending.Abended abend)) h =
      stopped steps (outcome.Abend (abend_number abend)) files h.0 h.1
  shows steps (ran.Ended (ending.Faulted fault)) h =
      faultless program structured files steps (fault_seen fault) h.0
  shows steps ran.Budget h = all-shown steps h.1
  shows steps (ran.DeviceFault name) h = absurd h
  shows steps ran.WriteFault h = within-shown h.0 h.2 h.3 h.4 h.5
  shows steps ran.NoMemory h = all-shown h.0 h.2

  -- over devices
  module _ (gone : List (List ℕ)) (devices : List Seen) where
    abbrev Tells : Files → Type 0
    Tells left = (name : List ℕ) → is_among gone name ≡ false → SameShelf (device_found name devices) (shelf_found name left)

    ends-over : (steps : ℕ) (how : How) (left : Files) →
        Stands program files steps (Over (Stopped how left)) sink → Tells left →
        (units : ℕ) × (there : Files)
        × ((structural_run program files units).standing ≡ Over (Stopped how there))
        × Gains (displayed (structural_run program files units).trace) sink × Tells there
    ends-over steps how left stands tells =
        let there = stopped steps how left stands.0 stands.1 in
        (there.0, left, there.1, there.2, tells)

    shows-over : (steps : ℕ) (came : Ran) →
        ComesTo program files steps sink (LeavesFiles (addresses_of program.files) gone devices) came →
        ShowsNestedOver program files sink gone devices came
    shows-over steps (ran.Ended ending.Stopped) h = ends-over steps Normally (world_after program files steps).shelves h.0 h.1.same
    shows-over steps (ran.Ended (ending.Abended abend)) h =
        ends-over steps (outcome.Abend (abend_number abend)) (world_after program files steps).shelves h.0 h.1.same
    shows-over steps (ran.Ended (ending.Faulted fault)) h =
        faultless program structured files steps (fault_seen fault) h.0.0
    shows-over steps ran.Budget h = all-shown steps h.0.1
    shows-over steps (ran.DeviceFault name) h = all-shown h.0 h.3
    shows-over steps ran.WriteFault h = within-shown h.0 h.2 h.3 h.4 h.5
    shows-over steps ran.NoMemory h = all-shown h.0 h.3

pub nested-shown-over :
    StructuredBehavesAsItself → StructuredMeetsNoFault → RunsOverFilesShowNestedStatements
nested-shown-over same faultless program structured files steps sink gone devices came h =
    shows-over same faultless program structured files sink gone devices steps came h

pub nested-shown : StructuredBehavesAsItself → StructuredMeetsNoFault → RunsShowNestedStatements
nested-shown same faultless program structured files steps sink came h =
    shows same faultless program structured files sink steps came h
