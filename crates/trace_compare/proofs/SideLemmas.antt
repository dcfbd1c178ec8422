-- One of two programs that run beside each other.
use Rattle.std.proofs.Common.{◌≡◌, ◌∙◌, ℕ, zero, suc, ◌+◌, ◌-◌, ◌<◌, ◌≤◌, List, [], ◌∷◌, ◌++◌, length, take, drop, Option, Some, None, Result, Ok, Err, slice_get, nat_lt, ap, append-nil, append_assoc, arith, refl, subst, sym}
use Rattle.std.proofs.Math.Seq.{drop-nil}
use Rattle.std.proofs.lemmas.Bool.{lt-ltb}
use Rattle.std.proofs.lemmas.List.{length-drop, length-map, take-append-drop}
use Rattle.std.proofs.lemmas.Option.{slice_get-map}
use Rattle.std.specs.Option.{option_map}
use Rattle.cob_act.specs.declared.files.work.FileDone.{FileDone}
use Rattle.cob_act.specs.files.Work.{bytes_moved, event_done, events_kept, verb_seen}
use Rattle.cob_base.specs.declared.memory.NoMemory.{NoMemory}
use Rattle.cob_tree.specs.declared.file.FileEntry.{FileEntry}
use Rattle.cob_tree.specs.declared.program.Program.{Program}
use Rattle.file_model.specs.World.{Filed}
use Rattle.file_model.specs.declared.table.FileRow.{FileRow}
use Rattle.file_model.specs.operations.Seen.{Seen}
use Rattle.control_flow_theory.specs.runs.Run.{Covers}
use Rattle.control_flow_theory.specs.language.Control.{control_of}
use Rattle.control_flow_theory.specs.semantics.Outcome.{Event, Trace}
use Rattle.control_flow_theory.specs.semantics.Source.{source_machine}
use Rattle.control_flow_theory.proofs.runs_lemmas.Machines.{machine-steady}
use Rattle.control_flow_theory.proofs.semantics_lemmas.Growth.{source-grows}
use Rattle.meanings.specs.statements.Does.{declared_in}
use Rattle.cobol_theory.specs.cobol_meaning.Acting.{event_seen}
use Rattle.cobol_theory.specs.cobol_meaning.Runs.{Files, State, doing_in, files_left, first_memory, source_run}
use Rattle.cobol_run.specs.declared.machine.Ending.{Ending}
use Rattle.cobol_run.specs.declared.machine.Machine.{Machine}
use Rattle.cobol_run.specs.declared.machine.StepOutcome.{StepOutcome}
use Rattle.cobol_run.specs.declared.machine.StepOutcome.TheVariants as step
use Rattle.cobol_run.specs.Events.{Ended, Tracks, TracksOn, filed_events, step_events}
use Rattle.cobol_run.specs.Falling.{StepFalls}
use Rattle.cobol_run.specs.Points.{world_after}
use Rattle.trace_compare.specs.declared.side.ComparedSide.{ComparedSide}
use Rattle.trace_compare.specs.declared.side.Advance.{Advance}
use Rattle.trace_compare.specs.Differing.{course_of}
use Rattle.trace_compare.specs.Event.{way_if}
use Rattle.trace_compare.specs.Next.{are_some}
use Rattle.trace_compare.specs.Side.{Reached, StandsAt, StepLeaves, StepsOn, Took, ended_of, pending_of}
use Rattle.trace_compare.proofs.DifferingLemmas.{behind}
use Rattle.trace_compare.proofs.EventLemmas.{way_seen}

-- ---- lists

pub drop_more : {A : Type 0} (n more : ℕ) (xs : List A) → drop (n + more) xs ≡ drop more (drop n xs)
drop_more n more [] = drop-nil (n + more) ∙ sym (drop-nil more) ∙ ap (drop more) (sym (drop-nil n))
drop_more zero more (x ∷ xs) = let e : 0 + more ≡ more = omega arith in ap (λ k. drop k (x ∷ xs)) e
drop_more (suc n) more (x ∷ xs) = let e : suc n + more ≡ suc (n + more) = omega arith in ap (λ k. drop k (x ∷ xs)) e ∙ drop_more n more xs

-- ---- the source's run

-- with more steps it shows more
pub run_covers : (program : Program) (files : Files) (done steps : ℕ) → done ≤ steps → Covers (source_run program files done) (source_run program files steps)
run_covers program files done steps within =
    machine-steady (source_machine (doing_in (declared_in program)) files_left (control_of program)) (source-grows (doing_in (declared_in program)) files_left (control_of program)) (first_memory (declared_in program) files) done steps within

-- ---- where a side stands

module _ (program : Program) (files : Files) (side : ComparedSide) (devices : List Seen) (steps : ℕ) (compared : Trace) (stands : StandsAt program files side devices steps compared) where
  pub within : stands.done ≤ steps
  within = let e = stands.counted in omega (arith, e)

  course_by : (ended : Option Ending) → side.ended ≡ ended → Reached program files side.machine devices stands.done (compared ++ pending_of side) ended → course_of (source_run program files stands.done) ≡ behind compared (pending_of side) (ended_of side)
  course_by None is tracks =
      ap (λ (s : State). course_of s.run) tracks.reached ∙ ap (λ e. behind compared (pending_of side) e) (sym (ap way_if is))
  course_by (Some ending) is ended =
      ap course_of ended.reached ∙ ap (λ e. behind compared (pending_of side) (Some e)) (way_seen ending (world_after program files stands.done).shelves) ∙ ap (λ e. behind compared (pending_of side) e) (sym (ap way_if is))

  -- what is compared of the run so far
  pub course_here : course_of (source_run program files stands.done) ≡ behind compared (pending_of side) (ended_of side)
  course_here = course_by side.ended refl stands.reached

  -- it shows as much with all steps
  pub covers_here : Covers (source_run program files stands.done) (source_run program files steps)
  covers_here = run_covers program files stands.done steps within

  -- events are taken as compared
  pub skipped : (new : ComparedSide) (count : ℕ) → new.left ≡ side.left → new.machine ≡ side.machine → new.ended ≡ side.ended → pending_of new ≡ drop count (pending_of side) →
      StandsAt program files new devices steps (compared ++ take count (pending_of side))
  skipped new count left machine ended pending = record {
    done = stands.done;
    counted = ap (λ n. stands.done + n) left ∙ stands.counted;
    reached =
        let shown : (compared ++ take count (pending_of side)) ++ pending_of new ≡ compared ++ pending_of side =
        append_assoc compared (take count (pending_of side)) (pending_of new)
        ∙ ap (λ t. compared ++ (take count (pending_of side) ++ t)) pending
        ∙ ap (λ t. compared ++ t) (take-append-drop count (pending_of side)) in
        subst (λ (m : Machine). Reached program files m devices stands.done ((compared ++ take count (pending_of side)) ++ pending_of new) new.ended) (sym machine)
        (subst (λ (e : Option Ending). Reached program files side.machine devices stands.done ((compared ++ take count (pending_of side)) ++ pending_of new) e) (sym ended)
        (subst (λ (t : Trace). Reached program files side.machine devices stands.done t side.ended) (sym shown) stands.reached));
  }

  -- the machine tracks the source, where it goes on and all is compared
  pub tracks_here : side.ended ≡ None → pending_of side ≡ [] → Tracks program files side.machine devices stands.done compared
  tracks_here going empty =
      subst (λ (t : Trace). Tracks program files side.machine devices stands.done t) (ap (λ t. compared ++ t) empty ∙ append-nil compared)
      (subst (λ (e : Option Ending). Reached program files side.machine devices stands.done (compared ++ pending_of side) e) going stands.reached)

-- ---- one more step

module _ (program : Program) (files : Files) (old new : ComparedSide) (machine : Machine) (devices : List Seen) (done steps : ℕ) (compared : Trace) (same : new.machine ≡ machine) (going : old.ended ≡ None) (counted : suc done + new.left ≡ steps) where
  stands_on : (outcome : StepOutcome) → pending_of new ≡ step_events outcome new.machine → new.ended ≡ None → Tracks program files machine devices (suc done) (compared ++ step_events outcome machine) → StandsAt program files new devices steps compared
  stands_on outcome pending ended tracks = record {
    done = suc done;
    counted = counted;
    reached =
        let shown : compared ++ step_events outcome machine ≡ compared ++ pending_of new =
        ap (λ m. compared ++ step_events outcome m) (sym same) ∙ ap (λ t. compared ++ t) (sym pending) in
        subst (λ (e : Option Ending). Reached program files new.machine devices (suc done) (compared ++ pending_of new) e) (sym ended)
        (subst (λ (m : Machine). Tracks program files m devices (suc done) (compared ++ pending_of new)) (sym same)
        (subst (λ (t : Trace). Tracks program files machine devices (suc done) t) shown tracks));
  }

  stands_ended : (ending : Ending) → pending_of new ≡ step_events (step.Over ending) new.machine → new.ended ≡ Some ending → Ended program files machine devices (suc done) (compared ++ step_events (step.Over ending) machine) ending → StandsAt program files new devices steps compared
  stands_ended ending pending is ended = record {
    done = suc done;
    counted = counted;
    reached =
        let shown : compared ++ step_events (step.Over ending) machine ≡ compared ++ pending_of new =
        ap (λ m. compared ++ step_events (step.Over ending) m) (sym same) ∙ ap (λ t. compared ++ t) (sym pending) in
        subst (λ (e : Option Ending). Reached program files new.machine devices (suc done) (compared ++ pending_of new) e) (sym is)
        (subst (λ (m : Machine). Ended program files m devices (suc done) (compared ++ pending_of new) ending) (sym same)
        (subst (λ (t : Trace). Ended program files machine devices (suc done) t ending) shown ended));
  }

  pub stepped : (made : Result StepOutcome NoMemory) (came : Advance) → Took made came old new → TracksOn program files made machine devices done compared → StepsOn came program files new devices steps compared
  stepped (Ok step.On) came took tracks =
      subst (λ (a : Advance). StepsOn a program files new devices steps compared) (sym took.0) (stands_on step.On took.1 (took.2 ∙ going) tracks)
  stepped (Ok step.Shown) came took tracks =
      subst (λ (a : Advance). StepsOn a program files new devices steps compared) (sym took.0) (stands_on step.Shown took.1 (took.2 ∙ going) tracks)
  stepped (Ok (step.Over ending)) came took tracks =
      subst (λ (a : Advance). StepsOn a program files new devices steps compared) (sym took.0) (stands_ended ending took.1 took.2 tracks)
  stepped (Ok step.Failed) came took tracks = subst (λ (a : Advance). StepsOn a program files new devices steps compared) (sym took) tt
  stepped (Err e) came took tracks = subst (λ (a : Advance). StepsOn a program files new devices steps compared) (sym took) tt

-- ---- the bench

pub step_leaves : (made : Result StepOutcome NoMemory) (came : Advance) (old new : ComparedSide) (files : List FileEntry) (left now : ℕ) (was is : List Seen) (table : List FileRow) → Took made came old new → StepFalls made files left now was is table → StepLeaves came files left now was is table
step_leaves (Ok step.On) came old new files left now was is table took falls = subst (λ (a : Advance). StepLeaves a files left now was is table) (sym took.0) falls
step_leaves (Ok step.Shown) came old new files left now was is table took falls = subst (λ (a : Advance). StepLeaves a files left now was is table) (sym took.0) falls
step_leaves (Ok (step.Over ending)) came old new files left now was is table took falls = subst (λ (a : Advance). StepLeaves a files left now was is table) (sym took.0) falls
step_leaves (Ok step.Failed) came old new files left now was is table took falls = subst (λ (a : Advance). StepLeaves a files left now was is table) (sym took) falls
step_leaves (Err e) came old new files left now was is table took falls = subst (λ (a : Advance). StepLeaves a files left now was is table) (sym took) falls

-- ---- events of the last step

pub filed_count : (machine : Machine) → length (filed_events machine) ≡ length machine.work.done.items
filed_count machine =
    length-map (events_kept machine.work) event_seen ∙ length-map machine.work.done.items (event_done machine.work.bytes.items)

-- lemmas that are named together
pub ruleset counts = (filed_count, length-drop)

pub some_long : (events : Trace) → nat_lt 0 (length events) ≡ are_some events
some_long [] = refl
some_long (event ∷ events) = lt-ltb 0 (suc (length events)) (omega arith)

pub shown_here : (event : Event) (compared at : ℕ) → at < length (drop compared (event ∷ [])) → slice_get (drop compared (event ∷ [])) at ≡ Some event
shown_here event zero zero less = refl
shown_here event zero (suc at) less = absurd (omega (arith, less))
shown_here event (suc compared) at less =
    absurd (let l : length (drop {A = Event} compared []) ≡ 0 - compared = length-drop compared [] in omega (arith, less, l))

get_drop : {A : Type 0} (xs : List A) (n at : ℕ) → slice_get (drop n xs) at ≡ slice_get xs (n + at)
get_drop xs zero at = let e : at ≡ 0 + at = omega arith in ap (slice_get xs) e
get_drop [] (suc n) at = refl
get_drop (x ∷ xs) (suc n) at = get_drop xs n at ∙ (let e : suc (n + at) ≡ suc n + at = omega arith in ap (slice_get (x ∷ xs)) e)

pub filed_here : (machine : Machine) (compared at : ℕ) (done : FileDone) (bytes : List ℕ) → slice_get machine.work.done.items (compared + at) ≡ Some done → bytes ≡ bytes_moved done.verb done.status machine.work.bytes.items →
    slice_get (drop compared (filed_events machine)) at ≡ Some (event_seen (Filed (verb_seen done.verb) done.file bytes done.status))
filed_here machine compared at done bytes here moved =
    get_drop (filed_events machine) compared at
    ∙ slice_get-map event_seen (events_kept machine.work) (compared + at)
    ∙ ap (option_map event_seen) (slice_get-map (event_done machine.work.bytes.items) machine.work.done.items (compared + at) ∙ ap (option_map (event_done machine.work.bytes.items)) here)
    ∙ ap (λ b. Some (event_seen (Filed (verb_seen done.verb) done.file b done.status))) (sym moved)
