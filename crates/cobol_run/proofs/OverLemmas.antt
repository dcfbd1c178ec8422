-- A step over devices that tell their files.
use Rattle.meanings.specs.statements.Filing.{Operation}
use Rattle.std.proofs.Common.{◌≡◌, ℕ, Result, Ok, Err, List, ◌++◌, [], refl, sym, subst}
use Rattle.file_model.specs.declared.operations.fault.FileFault.{FileFault}
use Rattle.file_model.specs.declared.operations.fault.FileFault.TheVariants as faults
use Rattle.cob_act.specs.files.Ends.{BrokeOver}
use Rattle.cob_base.specs.declared.memory.NoMemory.{NoMemory}
use Rattle.std.specs.Prelude.{IfOk, IsErr}
use Rattle.cobol_run.specs.Falling.{StepFalls}
use Rattle.cob_tree.specs.declared.file.FileEntry.{FileEntry}
use Rattle.file_model.specs.declared.table.FileRow.{FileRow}
use Rattle.cob_act.specs.declared.acting.ActOutcome.{ActOutcome}
use Rattle.cob_act.specs.declared.acting.ActOutcome.TheVariants as done
use Rattle.cob_tree.specs.declared.stmt.Stmt.{Stmt}
use Rattle.file_model.specs.operations.Seen.{Seen}
use Rattle.file_model.specs.World.{World}
use Rattle.control_flow_theory.specs.semantics.Items.{Way}
use Rattle.control_flow_theory.specs.semantics.Outcome.{Trace}
use Rattle.control_flow_theory.specs.language.Items.{Item}
use Rattle.cobol_theory.specs.cobol_meaning.Acting.{Memory}
use Rattle.cobol_theory.specs.cobol_meaning.Runs.{State}
use Rattle.cobol_run.specs.declared.machine.Machine.{Machine}
use Rattle.cobol_run.specs.declared.machine.StepOutcome.{StepOutcome}
use Rattle.cobol_run.specs.declared.machine.StepOutcome.TheVariants as step
use Rattle.cobol_run.specs.Frames.{last_of, pending_of, rest_of}
use Rattle.control_flow_theory.specs.runs.Run.{Over}
use Rattle.cobol_run.specs.Machine.{Follows, ending_seen, goes_by, state_in, state_with}
use Rattle.cobol_run.specs.Over.{BrokeBehind, FollowsOver, StandsOver, StepBreaks, filed_way, step_done, stmt_meant}
use Rattle.cobol_run.specs.Plan.{memory_in}
use Rattle.cobol_run.specs.Running.{displayed}
use Rattle.cobol_run.proofs.DisplayLemmas.{displayed_on}

-- without a device
pub follows_over : (made : StepOutcome) (machine : Machine) (devices : List Seen) (world : World) (trace : Trace) (state : State) → Follows made machine world trace state → StandsOver machine devices world → FollowsOver made machine devices world trace state
follows_over step.On machine devices world trace state follows stands = (world, trace, follows, refl, stands)
follows_over step.Shown machine devices world trace state follows stands = (follows, stands)
follows_over (step.Over ending) machine devices world trace state follows stands = (
  trace,
  subst (λ (w : World). state.run ≡ record { trace = trace; standing = Over (ending_seen ending w.shelves) }) (sym follows.1) follows.0,
  refl,
  subst (λ (w : World). StandsOver machine devices w) (sym follows.1) stands,
)
follows_over step.Failed machine devices world trace state follows stands = absurd follows

-- a statement on files goes its way
module _ (old new : Machine) (devices : List Seen) (stmt : Stmt) (world now : World) (events : Trace) (silent : displayed events ≡ [])
    (plan : new.plan ≡ old.plan) (paragraph : new.paragraph ≡ old.paragraph) (pending : pending_of old.plan.program.now new.frames ≡ pending_of old.plan.program.now old.frames)
    (stands : StandsOver new devices now) (trace : Trace) (rest : List Item) where
  abbrev before_it : State
  before_it = state_with old rest (memory_in old.held.store world) trace

  -- as control has it
  abbrev way_of : ActOutcome → Way Memory
  way_of made = filed_way made events (memory_in new.held.store now) (rest_of (last_of old.plan.program.now old.paragraph) new.frames)

  went-on : goes_by old.plan (way_of done.Went) before_it ≡ state_in new now (trace ++ events)
  went-on = rw (plan, paragraph, pending) refl

  goes : (made : ActOutcome) → FollowsOver (step_done made) new devices world trace (goes_by old.plan (way_of made) before_it)
  goes done.Went = (now, trace ++ events, went-on, displayed_on trace events silent, stands)
  goes done.Shown = (now, trace ++ events, went-on, displayed_on trace events silent, stands)
  goes (done.Chose arm) = (now, trace ++ events, went-on, displayed_on trace events silent, stands)
  goes (done.Abended abend) = (trace ++ events, refl, displayed_on trace events silent, stands)

  pub filed_goes : (made : ActOutcome) (result : StepOutcome) → result ≡ step_done made → way_of made ≡ stmt_meant old stmt world → FollowsOver result new devices world trace (goes_by old.plan (stmt_meant old stmt world) before_it)
  filed_goes made result is meant =
      subst (λ step. FollowsOver step new devices world trace (goes_by old.plan (stmt_meant old stmt world) before_it)) (sym is)
      (subst (λ way. FollowsOver (step_done made) new devices world trace (goes_by old.plan way before_it)) meant (goes made))

-- a statement that was done doesn't break off
pub done_breaks : (machine : Machine) (world : World) (operations : List Operation) (left : ℕ) (devices : List Seen) (made : ActOutcome) (result : StepOutcome) → result ≡ step_done made → StepBreaks (Ok result) machine world operations left devices
done_breaks machine world operations left devices made result is =
    subst (λ (s : StepOutcome). StepBreaks (Ok s) machine world operations left devices) (sym is) (go made)
  where
    go : (made : ActOutcome) → StepBreaks (Ok (step_done made)) machine world operations left devices
    go done.Went = tt
    go done.Shown = tt
    go (done.Chose arm) = tt
    go (done.Abended abend) = tt

-- one that broke off: a device failed, or memory was wanted
pub broke_ok : (P : StepOutcome → Type 0) (fault : FileFault) (result : Result StepOutcome NoMemory) → (fault ≡ faults.Device → result ≡ Ok step.Failed) → (fault ≡ faults.NoMemory → IsErr result) → P step.Failed → IfOk result P
broke_ok P faults.Device result device memory failed = subst (λ (r : Result StepOutcome NoMemory). IfOk r P) (sym (device refl)) failed
broke_ok P faults.NoMemory (Err e) device memory failed = tt
broke_ok P faults.NoMemory (Ok made) device memory failed = absurd (let e = memory refl in let never : ⊥ = cc in never)

pub broke_falls : (fault : FileFault) (result : Result StepOutcome NoMemory) (files : List FileEntry) (left left_now : ℕ) (old new : List Seen) (table : List FileRow) → (fault ≡ faults.Device → result ≡ Ok step.Failed) → (fault ≡ faults.NoMemory → IsErr result) → BrokeOver fault files left left_now old new table →
    StepFalls result files left left_now old new table
broke_falls faults.Device result files left left_now old new table device memory broke = subst (λ (r : Result StepOutcome NoMemory). StepFalls r files left left_now old new table) (sym (device refl)) broke
broke_falls faults.NoMemory (Err e) files left left_now old new table device memory broke = broke.0
broke_falls faults.NoMemory (Ok made) files left left_now old new table device memory broke = absurd (let e = memory refl in let never : ⊥ = cc in never)

pub broke_breaks : (fault : FileFault) (result : Result StepOutcome NoMemory) (machine : Machine) (world : World) (operations : List Operation) (left : ℕ) (devices : List Seen) → (fault ≡ faults.Device → result ≡ Ok step.Failed) → (fault ≡ faults.NoMemory → IsErr result) →
    BrokeBehind fault machine.plan.program.now.files world operations left devices machine.table.rows → StepBreaks result machine world operations left devices
broke_breaks faults.Device result machine world operations left devices device memory broke = subst (λ (r : Result StepOutcome NoMemory). StepBreaks r machine world operations left devices) (sym (device refl)) broke
broke_breaks faults.NoMemory (Err e) machine world operations left devices device memory broke = broke
broke_breaks faults.NoMemory (Ok made) machine world operations left devices device memory broke = absurd (let e = memory refl in let never : ⊥ = cc in never)
