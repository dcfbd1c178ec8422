-- A run whose events are kept, step by step.
use Rattle.std.proofs.Common.{◌≡◌, ◌∙◌, sym, subst, ap, refl, ℕ, suc, ◌+◌, ◌-◌, ◌<◌, ◌≤◌, ◌^◌, arith, Bool, IsTrue, List, [], ◌∷◌, ◌++◌, length, replicate, take, Option, None, Result, Ok, Err, slice_get}
use Rattle.std.specs.Prelude.{IfOk, IfSome}
use Rattle.cob_base.specs.declared.memory.NoMemory.{NoMemory}
use Rattle.file_model.specs.declared.operations.fault.FileFault.TheVariants as faults
use Rattle.cob_act.specs.files.Ends.{BrokeOver}
use Rattle.cob_tree.specs.declared.file.FileEntry.{FileEntry}
use Rattle.cob_tree.specs.declared.program.Program.{Program}
use Rattle.file_model.specs.declared.table.FileRow.{FileRow}
use Rattle.file_model.specs.Status.{closed_row}
use Rattle.file_model.specs.World.{World}
use Rattle.file_model.specs.operations.Calls.{addresses_of}
use Rattle.file_model.specs.operations.Falling.{AreShut, LeftOf, is_used, name_behind}
use Rattle.file_model.specs.operations.Seen.{Seen}
use Rattle.file_model.specs.operations.Shutting.{Closes}
use Rattle.file_model.proofs.operations_lemmas.ShutLemmas.{nothing_shut}
use Rattle.control_flow_theory.specs.runs.Run.{Over}
use Rattle.control_flow_theory.specs.semantics.Outcome.{Trace}
use Rattle.meanings.specs.statements.Does.{declared_in}
use Rattle.cobol_theory.specs.cobol_meaning.Runs.{Files, State, begun_in, world_with}
use Rattle.cobol_run.specs.declared.machine.Machine.{Machine}
use Rattle.cobol_run.specs.declared.machine.StepOutcome.{StepOutcome}
use Rattle.cobol_run.specs.declared.machine.StepOutcome.TheVariants as step
use Rattle.cobol_run.specs.declared.running.Ran.TheVariants as ran
use Rattle.cobol_run.specs.declared.events.Finished.TheVariants as finished
use Rattle.cobol_run.specs.Events.{FinishFalls, FinishNames, Finishes, LeftSoFar, Shows, Tracks, TracksOn, finished_by, step_events}
use Rattle.cobol_run.specs.Falling.{FellNamed, NamesFault, SameBench}
use Rattle.cobol_run.specs.Machine.{ending_seen, state_in, steps_by}
use Rattle.cobol_run.specs.Over.{FollowsOver, SoFarOver, StandsOver, TellFiles}
use Rattle.cobol_run.specs.Own.{IsOwn, OwnState}
use Rattle.cobol_run.specs.Plan.{declared_by}
use Rattle.cobol_run.specs.Running.{after}
use Rattle.cobol_run.proofs.OverRunLemmas.{next_is, own_before, stands_at_start}
use Rattle.cobol_run.proofs.ShutLemmas.{Ends, ends_of, fell_named, names_last, never_unnamed}

-- ---- at the start

pub tracks_at_start : (program : Program) (machine : Machine) (devices : List Seen) (files : Files) → declared_by machine.plan ≡ declared_in program → machine.plan.program.now ≡ program → IsTrue machine.work.keeps →
    machine.table.rows ≡ replicate (length program.files) closed_row → length program.files < 2 ^ 32 → TellFiles program devices files →
    state_in machine (world_with (declared_in program) files) [] ≡ begun_in program (declared_in program) files → Tracks program files machine devices 0 []
tracks_at_start program machine devices files declared same keeps closed few tell begun = record {
  declared = declared;
  same = same;
  keeps = keeps;
  world = world_with (declared_in program) files;
  reached = sym begun;
  stands = stands_at_start program machine devices files same closed few tell;
}

-- ---- one more step

module _ (program : Program) (files : Files) (machine : Machine) (devices : List Seen) (done : ℕ) (trace : Trace) (own : IsOwn program) (tracks : Tracks program files machine devices done trace) where
  -- with a sink of which nothing is told
  abbrev so_far : SoFarOver program files machine devices done (record { held = None; now = None; count = 0; count_now = 0 })
  so_far = record {
    declared = tracks.declared;
    same = tracks.same;
    later = omega arith;
    world = tracks.world;
    trace = trace;
    reached = tracks.reached;
    gained = refl;
    stands = tracks.stands;
  }

  here : OwnState (state_in machine tracks.world trace)
  here = own_before program files machine devices done 0 None None 0 0 so_far own

  next : after program files (suc done) ≡ steps_by machine.plan (state_in machine tracks.world trace)
  next = next_is program files machine devices done 0 None None 0 0 so_far

  module _ (new : Machine) (left : ℕ) (devices_now : List Seen) (plan : new.plan ≡ machine.plan) (keeping : new.work.keeps ≡ machine.work.keeps) where
    goes_on : (world : World) (now : Trace) → after program files (suc done) ≡ state_in new world now → StandsOver new (take left devices_now) world → Tracks program files new (take left devices_now) (suc done) now
    goes_on world now reached stands = record {
      declared = ap declared_by plan ∙ tracks.declared;
      same = ap (λ p. p.program.now) plan ∙ tracks.same;
      keeps = subst IsTrue (sym keeping) tracks.keeps;
      world = world;
      reached = reached;
      stands = stands;
    }

    go : (made : StepOutcome) → FollowsOver made new (take left devices_now) tracks.world trace (after program files (suc done)) → Shows made new trace (after program files (suc done)) → TracksOn program files (Ok made) new (take left devices_now) done trace
    go step.On on shows =
        subst (λ (t : Trace). Tracks program files new (take left devices_now) (suc done) t) (sym (ap (λ (s : State). s.run.trace) on.2) ∙ shows) (goes_on on.0 on.1 on.2 on.4)
    go step.Shown shown shows = goes_on tracks.world (trace ++ step_events step.Shown new) shown.0 shown.1
    go (step.Over ending) over shows = record {
      reached =
          over.1
          ∙ ap (λ (t : Trace). record { trace = t; standing = Over (ending_seen ending (after program files (suc done)).memory.world.shelves) }) (sym (ap (λ r. r.trace) over.1) ∙ shows);
      stands = over.3;
    }
    go step.Failed follows shows = tt

    pub advances : (result : Result StepOutcome NoMemory) →
        IfOk result (λ made. (world : World) (trace : Trace) → OwnState (state_in machine world trace) → StandsOver machine devices world → FollowsOver made new (take left devices_now) world trace (steps_by machine.plan (state_in machine world trace))) →
        IfOk result (λ made. (world : World) (trace : Trace) → OwnState (state_in machine world trace) → StandsOver machine devices world → IsTrue machine.work.keeps → Shows made new trace (steps_by machine.plan (state_in machine world trace))) →
        TracksOn program files result new (take left devices_now) done trace
    advances (Err e) follows shows = tt
    advances (Ok made) follows shows =
        go made
        (subst (λ s. FollowsOver made new (take left devices_now) tracks.world trace s) (sym next) (follows tracks.world trace here tracks.stands))
        (subst (λ s. Shows made new trace s) (sym next) (shows tracks.world trace here tracks.stands tracks.keeps))

-- ---- the bench at the end

-- no device failed
pub left_whole : (files : List FileEntry) (left now : ℕ) (old new : List Seen) (table : List FileRow) → SameBench files left now old new → LeftSoFar files left now old new table
left_whole files left now old new table same = record { gone = []; bench = same; apart = nothing_shut (addresses_of files) table }

-- one did, in a step
pub left_failed : (files : List FileEntry) (left now : ℕ) (old new : List Seen) (table : List FileRow) → BrokeOver faults.Device files left now old new table → LeftSoFar files left now old new table
left_failed files left now old new table broke = record { gone = name_behind now new ∷ []; bench = broke.0; apart = broke.1 }

module _ (files : List FileEntry) (left now : ℕ) (old new : List Seen) where
  none_gone : (names : List (List ℕ)) → left ≤ now → LeftOf (is_used (addresses_of files)) names left now old new → SameBench files left now old new
  none_gone [] still so = so
  none_gone (name ∷ names) still so = let count : now + length (name ∷ names) ≡ left = so.count in absurd (omega (arith, still, count))

  none_left : (names : List (List ℕ)) → left ≤ now → LeftOf (is_used (addresses_of files)) names left now old new → names ≡ []
  none_left [] still so = refl
  none_left (name ∷ names) still so = let count : now + length (name ∷ names) ≡ left = so.count in absurd (omega (arith, still, count))

  names_finish : (came : Result (List ℕ) NoMemory) (room at : ℕ) (later : List (List ℕ)) (last : List ℕ) → LeftOf (is_used (addresses_of files)) (later ++ last ∷ []) left now old new → at ≡ left - 1 → NamesFault room came (slice_get new at) → FinishNames (finished_by came) (later ++ last ∷ [])
  names_finish (Err e) room at later last so is named = tt
  names_finish (Ok name) room at later last so is named = names_last room (ran.DeviceFault name) (is_used (addresses_of files)) later last left now at old new so is named

  some_gone : (names : List (List ℕ)) → now < left → LeftOf (is_used (addresses_of files)) names left now old new → Ends names
  some_gone [] less so = let count : now + 0 ≡ left = so.count in absurd (omega (arith, less, count))
  some_gone (name ∷ names) less so = ends_of (name ∷ names) refl

  named_by : (came : Result (List ℕ) NoMemory) (room : ℕ) (later : List (List ℕ)) (last : List ℕ) → LeftOf (is_used (addresses_of files)) (later ++ last ∷ []) left now old new → NamesFault room came (slice_get new (left - 1)) → FinishFalls (finished_by came) room files left now old new
  named_by (Err e) room later last so named = λ fits. never_unnamed room ran.NoMemory (is_used (addresses_of files)) later last left now (left - 1) old new fits so refl named refl
  named_by (Ok name) room later last so named =
      let fell : FellNamed last left now old new = fell_named (is_used (addresses_of files)) later last left now old new so in
      let same : fell.after.name ≡ name = subst (λ (o : Option Seen). IfSome o (λ (d : Seen). d.name ≡ name)) fell.there named in
      subst (λ (n : List ℕ). FellNamed n left now old new) (sym fell.named ∙ same) fell

  -- what closing said of the files as they were given
  module _ (given : List FileEntry) (mid : ℕ) (between : List Seen) (failed : Bool) (rows : List FileRow) (same : given ≡ files) (few : length files < 2 ^ 32) (so : LeftSoFar files left mid old between rows)
      (closes : length given < 2 ^ 32 → (gone : List (List ℕ)) (n : ℕ) (was : List Seen) → AreShut gone (addresses_of given) rows → LeftOf (is_used (addresses_of given)) gone n mid was between → Closes failed (addresses_of given) gone n mid now was between new rows) where
    closed : Closes failed (addresses_of files) so.gone left mid now old between new rows
    closed =
        subst (λ (entries : List FileEntry). length entries < 2 ^ 32 → (gone : List (List ℕ)) (n : ℕ) (was : List Seen) → AreShut gone (addresses_of entries) rows → LeftOf (is_used (addresses_of entries)) gone n mid was between → Closes failed (addresses_of entries) gone n mid now was between new rows) same closes few so.gone left old so.apart so.bench

    pub ends_whole : left ≤ now → Finishes finished.Whole files so.gone left now old new (take mid between) rows
    ends_whole still = record {
      all = closed.more ++ so.gone;
      bench = closed.left_of;
      names = none_left (closed.more ++ so.gone) still closed.left_of;
      leaves = closed.files;
    }

    pub ends_named : (came : Result (List ℕ) NoMemory) (room at : ℕ) → now < left → at ≡ left - 1 → NamesFault room came (slice_get new at) → Finishes (finished_by came) files so.gone left now old new (take mid between) rows
    ends_named came room at less is named =
        let e : Ends (closed.more ++ so.gone) = some_gone (closed.more ++ so.gone) less closed.left_of in record {
          all = closed.more ++ so.gone;
          bench = closed.left_of;
          names =
              subst (FinishNames (finished_by came)) (sym e.is)
              (names_finish came room at e.later e.last (subst (λ (l : List (List ℕ)). LeftOf (is_used (addresses_of files)) l left now old new) e.is closed.left_of) is named);
          leaves = closed.files;
        }

    pub finish_whole : left ≤ now → SameBench files left now old new
    finish_whole still = none_gone (closed.more ++ so.gone) still closed.left_of

    pub finish_named : (came : Result (List ℕ) NoMemory) (room at : ℕ) → now < left → at ≡ left - 1 → NamesFault room came (slice_get new at) → FinishFalls (finished_by came) room files left now old new
    finish_named came room at less is named =
        let e : Ends (closed.more ++ so.gone) = some_gone (closed.more ++ so.gone) less closed.left_of in
        named_by came room e.later e.last
        (subst (λ (l : List (List ℕ)). LeftOf (is_used (addresses_of files)) l left now old new) e.is closed.left_of)
        (subst (λ (n : ℕ). NamesFault room came (slice_get new n)) is named)
