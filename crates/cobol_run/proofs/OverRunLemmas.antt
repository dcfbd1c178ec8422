-- What a run over devices that tell their files has come to so far.
use Rattle.std.proofs.Common.{◌≡◌, ℕ, zero, suc, ◌+◌, ◌<◌, ◌≤◌, ◌^◌, true, false, List, [], ◌∷◌, ◌++◌, length, map, replicate, take, Option, Some, IsSome, is_some, Result, Ok, Err, slice_get, arith, refl, ap, sym, ◌∙◌, subst}
use Rattle.std.specs.Prelude.{IfOk, IsTrue}
use Rattle.std.proofs.lemmas.List.{length-map, length-replicate}
use Rattle.cob_base.specs.Sink.{SinkCall}
use Rattle.cob_tree.specs.declared.program.Program.{Program}
use Rattle.cob_tree.specs.declared.file.FileEntry.{FileEntry}
use Rattle.file_model.specs.declared.table.FileRow.{FileRow}
use Rattle.file_model.specs.Attempts.{Address, closed}
use Rattle.file_model.specs.Status.{closed_row}
use Rattle.file_model.specs.World.{FileState, World, shelf_found}
use Rattle.file_model.specs.operations.Calls.{addresses_of}
use Rattle.file_model.specs.operations.Seen.{Seen, device_found}
use Rattle.file_model.specs.operations.Falling.{LeftOf, is_used}
use Rattle.file_model.specs.operations.Shutting.{LeavesFiles}
use Rattle.file_model.proofs.operations_lemmas.FallLemmas.{left_same}
use Rattle.file_model.proofs.operations_lemmas.ShutLemmas.{left_standing}
use Rattle.cob_base.specs.declared.memory.NoMemory.{NoMemory}
use Rattle.file_model.specs.declared.operations.fault.FileFault.TheVariants as faults
use Rattle.cob_act.specs.files.Ends.{gone_by}
use Rattle.meanings.specs.statements.Filing.{Declared, Operation}
use Rattle.control_flow_theory.specs.runs.Run.{Over}
use Rattle.control_flow_theory.specs.semantics.Outcome as outcome
use Rattle.cobol_theory.specs.cobol_meaning.Acting.{events_of}
use Rattle.cobol_run.specs.Points.{operations_in, world_after, world_at}
use Rattle.file_model.specs.operations.Standing as standing
use Rattle.file_model.specs.operations.Standing.{SameShelf, StandsOn, row_of}
use Rattle.cob_act.specs.files.Over.{BrokeIn, IsOver, world_behind}
use Rattle.meanings.specs.statements.Does.{declared_in}
use Rattle.control_flow_theory.specs.semantics.Outcome.{Trace}
use Rattle.control_flow_theory.specs.language.Control.{control_of}
use Rattle.control_flow_theory.specs.language.Own.{OwnAct, OwnPicker, OwnTest}
use Rattle.cobol_theory.specs.cobol_meaning.Runs.{Files, State, begun_in, doing_in, files_left, first_memory, source_run, step_in, world_with}
use Rattle.cob_base.specs.giving.Giving.{Gained, Gains, Takes}
use Rattle.cobol_run.specs.declared.machine.Ending.{Ending}
use Rattle.cobol_run.specs.declared.machine.Machine.{Machine}
use Rattle.cobol_run.specs.declared.machine.StepOutcome.{StepOutcome}
use Rattle.cobol_run.specs.declared.machine.StepOutcome.TheVariants as step
use Rattle.cobol_run.specs.declared.running.Ran.{Ran}
use Rattle.cobol_run.specs.declared.running.Ran.TheVariants as ran
use Rattle.cobol_run.specs.Falling.{NamesDevice, breaks_off}
use Rattle.cobol_run.specs.Machine.{ending_seen, state_in, steps_by}
use Rattle.cobol_run.specs.Over.{BreaksAt, BrokeBehind, ComesTo, CutAt, EndsAt, FilesEnd, FollowsOver, OpenYet, RunEnds, SoFarOver, StandsOver, StepBreaks, TellFiles}
use Rattle.cobol_run.specs.Own.{IsOwn, OwnState}
use Rattle.cobol_run.specs.Plan.{declared_by}
use Rattle.cobol_run.specs.Running.{Stands, after, begun_sink, displayed, next_state}
use Rattle.cobol_run.proofs.OwnLemmas.{own_stands}
use Rattle.cobol_run.proofs.RunningLemmas.{displayed-more, gained-more, gained-nothing, iterate-next, over-then, stays-over}
use Rattle.cobol_run.proofs.Standing.{begun-has, iterate-has}

abbrev gaining : Option (List ℕ) → Option (List ℕ) → ℕ → ℕ → SinkCall
gaining held now count count_now = record { held = held; now = now; count = count; count_now = count_now }

-- ---- at the start

row-closed : (n : ℕ) → replicate n closed_row ≡ map row_of (replicate n closed)
row-closed zero = refl
row-closed (suc n) = ap (λ rows. closed_row ∷ rows) (row-closed n)

all-closed : (n k : ℕ) (state : FileState) → slice_get (replicate n closed) k ≡ Some state → closed ≡ state
all-closed zero k state is = cc
all-closed (suc n) zero state is = cc
all-closed (suc n) (suc k) state is = all-closed n k state is

-- no file is open
closed-stands : (addresses : List Address) (devices : List Seen) (table : List FileRow) (n : ℕ) (files : Files) → table ≡ replicate n closed_row → ((name : List ℕ) → SameShelf (device_found name devices) (shelf_found name files)) →
    standing.Stands addresses devices table (record { shelves = files; files = replicate n closed })
closed-stands addresses devices table n files is same = record {
  rows = is ∙ row-closed n;
  shelves = same;
  standing = λ file address state there here. subst (λ (s : FileState). StandsOn s.row.how (device_found address.device devices) address.name s) (all-closed n file state here) tt;
  apart = λ file other address state state_there there other_there here here_there is_open is_open_there. absurd (let x : false ≡ true = subst (λ (s : FileState). IsTrue (is_some s.row.how)) (sym (all-closed n file state here)) is_open in cc);
}

pub stands_at_start : (program : Program) (machine : Machine) (devices : List Seen) (files : Files) → machine.plan.program.now ≡ program → machine.table.rows ≡ replicate (length program.files) closed_row → length program.files < 2 ^ 32 → TellFiles program devices files →
    StandsOver machine devices (world_with (declared_in program) files)
stands_at_start program machine devices files same closed few tell =
    subst (λ (p : Program). IsOver p.files devices machine.table.rows (world_with (declared_in program) files)) (sym same) (record {
      rows = ap length closed ∙ length-replicate (length program.files) closed_row;
      few = few;
      told = tell.told;
      stands = closed-stands (addresses_of program.files) devices machine.table.rows (length program.files) files closed tell.same;
    })

pub over_at_start : (program : Program) (machine : Machine) (devices : List Seen) (files : Files) (held : Option (List ℕ)) (count : ℕ) → declared_by machine.plan ≡ declared_in program → machine.plan.program.now ≡ program →
    machine.table.rows ≡ replicate (length program.files) closed_row → length program.files < 2 ^ 32 → TellFiles program devices files →
    state_in machine (world_with (declared_in program) files) [] ≡ begun_in program (declared_in program) files → SoFarOver program files machine devices 0 (gaining held held count count)
over_at_start program machine devices files held count declared same closed few tell begun = record {
  declared = declared;
  same = same;
  later = omega arith;
  world = world_with (declared_in program) files;
  trace = [];
  reached = sym begun;
  gained = gained-nothing held;
  stands = stands_at_start program machine devices files same closed few tell;
}

pub over_one_more : (program : Program) (files : Files) (machine : Machine) (devices : List Seen) (done : ℕ) (sink : SinkCall) → SoFarOver program files machine devices (suc done) sink → SoFarOver program files machine devices (done + 1) sink
over_one_more program files machine devices done sink = let e : suc done ≡ done + 1 = omega arith in subst (λ n. SoFarOver program files machine devices n sink) e

-- ---- a turn

behind_none : (world : World) (operations : List Operation) → world_behind 0 world operations ≡ world
behind_none world [] = refl
behind_none world (operation ∷ operations) = refl

none_shown : (operations : List Operation) → displayed (events_of (take 0 operations)) ≡ []
none_shown [] = refl
none_shown (operation ∷ operations) = refl

many_addresses : (files : List FileEntry) → length (addresses_of files) ≡ length files
many_addresses files = simp length-map

-- what stands over the devices is open yet
pub open_over : (machine : Machine) (devices : List Seen) (world : World) → StandsOver machine devices world → OpenYet [] machine devices world
open_over machine devices world stands =
    left_standing (addresses_of machine.plan.program.now.files) devices machine.table.rows world (stands.rows ∙ sym (many_addresses machine.plan.program.now.files)) stands.stands

-- a step that was not begun
pub not_begun : (old new : Machine) (left : ℕ) (devices : List Seen) (world : World) (operations : List Operation) → new.plan ≡ old.plan → new.table ≡ old.table → StandsOver old (take left devices) world → BrokeBehind faults.NoMemory new.plan.program.now.files world operations left devices new.table.rows
not_begun old new left devices world operations plan table stands = (
  0,
  subst (λ (w : World). BrokeIn faults.NoMemory new.plan.program.now.files w left devices new.table.rows) (sym (behind_none world operations))
      (rw (plan, table) (open_over old (take left devices) world stands)),
  none_shown operations,
)

-- a step that asks no device
pub live_breaks : (old new : Machine) (left : ℕ) (devices : List Seen) (world : World) (operations : List Operation) (result : Result StepOutcome NoMemory) → IfOk result (λ made. made ≡ step.Failed → ⊥) → new.plan ≡ old.plan → new.table ≡ old.table → StandsOver old (take left devices) world → StepBreaks result new world operations left devices
live_breaks old new left devices world operations (Err e) live plan table stands = not_begun old new left devices world operations plan table stands
live_breaks old new left devices world operations (Ok step.On) live plan table stands = tt
live_breaks old new left devices world operations (Ok step.Shown) live plan table stands = tt
live_breaks old new left devices world operations (Ok (step.Over ending)) live plan table stands = tt
live_breaks old new left devices world operations (Ok step.Failed) live plan table stands = absurd (live refl)

module _ (program : Program) (files : Files) (machine : Machine) (devices : List Seen) (done steps : ℕ) (held now : Option (List ℕ)) (count count_now : ℕ) (so_far : SoFarOver program files machine devices done (gaining held now count count_now)) where
  traced : (source_run program files done).trace ≡ so_far.trace
  traced = ap (λ (s : State). s.run.trace) so_far.reached

  world_here : world_after program files done ≡ so_far.world
  world_here = ap (λ (s : State). s.memory.world) so_far.reached

  -- the operations of the next step, as the machine has it
  abbrev operations_next : List Operation
  operations_next = operations_in (declared_by machine.plan) (state_in machine so_far.world so_far.trace)

  same_operations : operations_in (declared_in program) (after program files done) ≡ operations_next
  same_operations =
      ap (operations_in (declared_in program)) so_far.reached
      ∙ sym (ap (λ d. operations_in d (state_in machine so_far.world so_far.trace)) so_far.declared)

  -- it breaks off behind some of them, which display nothing
  pub over_breaks : (Left : World → Type 0) (some : ℕ) → done ≤ steps → displayed (events_of (take some operations_next)) ≡ [] → (last : Option (List ℕ)) (count_last : ℕ) → last ≡ now → Left (world_behind some so_far.world operations_next) → BreaksAt program files steps (gaining held last count count_last) Left
  over_breaks Left some within silent last count_last kept left = (
    done,
    some,
    within,
    subst (λ m. Gained (displayed (source_run program files done).trace) held m) (sym kept) (subst (λ trace. Gained (displayed trace) held now) (sym traced) so_far.gained),
    ap (λ ops. displayed (events_of (take some ops))) same_operations ∙ silent,
    subst Left (sym (ap (λ w. world_behind some w (operations_in (declared_in program) (after program files done))) world_here ∙ ap (world_behind some so_far.world) same_operations)) left,
  )

  -- it breaks off between two steps
  pub over_breaks_between : (Left : World → Type 0) → done ≤ steps → (last : Option (List ℕ)) (count_last : ℕ) → last ≡ now → Left so_far.world → BreaksAt program files steps (gaining held last count count_last) Left
  over_breaks_between Left within last count_last kept left =
      over_breaks Left 0 within (none_shown operations_next) last count_last kept (subst Left (sym (behind_none so_far.world operations_next)) left)

  pub over_goes_on_yet : done ≡ steps → ComesTo program files steps (gaining held now count count_now) (OpenYet [] machine devices) ran.Budget
  over_goes_on_yet end =
      subst (λ n. ComesTo program files n (gaining held now count count_now) (OpenYet [] machine devices) ran.Budget) end (
        (ap (λ (s : State). s.run.standing) so_far.reached, subst (λ trace. Gained (displayed trace) held now) (sym traced) so_far.gained),
        subst (OpenYet [] machine devices) (sym world_here) (open_over machine devices so_far.world so_far.stands),
      )

  pub own_before : IsOwn program → OwnState (state_in machine so_far.world so_far.trace)
  own_before own =
      let all = own_stands (control_of program).paragraphs own in
      subst OwnState so_far.reached (iterate-has OwnAct OwnTest OwnPicker (doing_in (declared_in program)) files_left (control_of program) all done (begun_in program (declared_in program) files) (begun-has OwnAct OwnTest OwnPicker (doing_in (declared_in program)) files_left (control_of program) all (first_memory (declared_in program) files)))

  -- the next state, as the machine has it
  pub next_is : after program files (suc done) ≡ steps_by machine.plan (state_in machine so_far.world so_far.trace)
  next_is =
      let state : State = state_in machine so_far.world so_far.trace in
      iterate-next (next_state program) done (begun_in program (declared_in program) files)
      ∙ ap (next_state program) so_far.reached
      ∙ sym (ap (λ p. step_in p (declared_by machine.plan) state) so_far.same ∙ ap (λ d. step_in program d state) so_far.declared)

  module _ (own : IsOwn program) (new : Machine) (left : ℕ) (devices_now : List Seen) (plan : new.plan ≡ machine.plan) where
    -- a step that broke off
    module _ (result : Result StepOutcome NoMemory) (breaks : (world : World) (trace : Trace) → OwnState (state_in machine world trace) → StandsOver machine devices world → StepBreaks result new world (operations_in (declared_by machine.plan) (state_in machine world trace)) left devices_now) where
      abbrev broken : StepBreaks result new so_far.world operations_next left devices_now
      broken = breaks so_far.world so_far.trace (own_before own) so_far.stands

      pub over_failed : result ≡ Ok step.Failed → done < steps → BreaksAt program files steps (gaining held now count count_now) (OpenYet (gone_by faults.Device left devices_now) new (take left devices_now))
      over_failed is within =
          let b = subst (λ r. StepBreaks r new so_far.world operations_next left devices_now) is broken in
          over_breaks (OpenYet (gone_by faults.Device left devices_now) new (take left devices_now)) b.0 (omega (arith, within)) b.2 now count_now refl b.1

      pub over_wanted : (e : NoMemory) → result ≡ Err e → done < steps → BreaksAt program files steps (gaining held now count count_now) (OpenYet [] new (take left devices_now))
      over_wanted e is within =
          let b = subst (λ r. StepBreaks r new so_far.world operations_next left devices_now) is broken in
          over_breaks (OpenYet [] new (take left devices_now)) b.0 (omega (arith, within)) b.2 now count_now refl b.1

    module _ (made : StepOutcome)
        (follows : (world : World) (trace : Trace) → OwnState (state_in machine world trace) → StandsOver machine devices world → FollowsOver made new (take left devices_now) world trace (steps_by machine.plan (state_in machine world trace))) where
      next-over : FollowsOver made new (take left devices_now) so_far.world so_far.trace (after program files (suc done))
      next-over =
          subst (λ s. FollowsOver made new (take left devices_now) so_far.world so_far.trace s) (sym next_is)
          (follows so_far.world so_far.trace (own_before own) so_far.stands)

      declared-then : declared_by new.plan ≡ declared_in program
      declared-then = ap declared_by plan ∙ so_far.declared

      same-then : new.plan.program.now ≡ program
      same-then = ap (λ p. p.program.now) plan ∙ so_far.same

      pub over_went_on : made ≡ step.On → SoFarOver program files new (take left devices_now) (suc done) (gaining held now count count_now)
      over_went_on is =
          let on = subst (λ s. FollowsOver s new (take left devices_now) so_far.world so_far.trace (after program files (suc done))) is next-over in
          record {
            declared = declared-then;
            same = same-then;
            later = so_far.later;
            world = on.0;
            trace = on.1;
            reached = on.2;
            gained = subst (λ bytes. Gained bytes held now) (sym on.3) so_far.gained;
            stands = on.4;
          }

      shown-over : made ≡ step.Shown → FollowsOver step.Shown new (take left devices_now) so_far.world so_far.trace (after program files (suc done))
      shown-over is = subst (λ s. FollowsOver s new (take left devices_now) so_far.world so_far.trace (after program files (suc done))) is next-over

      pub over_showed : made ≡ step.Shown → (mid last : Option (List ℕ)) (count_last : ℕ) → mid ≡ now → count_now ≤ count_last → Gained new.held.shown mid last → SoFarOver program files new (take left devices_now) (suc done) (gaining held last count count_last)
      over_showed is mid last count_last kept later gained =
          let shown = shown-over is in
          record {
            declared = declared-then;
            same = same-then;
            later = omega (arith, so_far.later, later);
            world = so_far.world;
            trace = so_far.trace ++ (0 ∷ new.held.shown) ∷ [];
            reached = shown.0;
            gained = subst (λ bytes. Gained bytes held last) (sym (displayed-more so_far.trace new.held.shown))
                (gained-more held now last (displayed so_far.trace) new.held.shown so_far.gained (subst (λ m. Gained new.held.shown m last) kept gained));
            stands = shown.1;
          }

      -- there is no room for what it shows
      pub over_unready : made ≡ step.Shown → done < steps → (last : Option (List ℕ)) (count_last : ℕ) → last ≡ now → BreaksAt program files steps (gaining held last count count_last) (OpenYet [] new (take left devices_now))
      over_unready is within last count_last kept =
          over_breaks_between (OpenYet [] new (take left devices_now)) (omega (arith, within)) last count_last kept (open_over new (take left devices_now) so_far.world (shown-over is).1)

      pub over_cut : made ≡ step.Shown → done < steps → (mid last : Option (List ℕ)) (count_mid count_last : ℕ) → mid ≡ now → Takes new.held.shown (gaining mid last count_mid count_last) →
          CutAt program files steps (gaining held last count count_last) (OpenYet [] new (take left devices_now))
      over_cut is within mid last count_mid count_last kept takes = (
        done,
        within,
        new.held.shown,
        takes.some,
        ap (λ (s : State). s.run.trace) (shown-over is).0 ∙ ap (λ trace. trace ++ (0 ∷ new.held.shown) ∷ []) (sym traced),
        subst (λ trace. Gained (displayed trace ++ take takes.some new.held.shown) held last) (sym traced)
            (gained-more held now last (displayed so_far.trace) (take takes.some new.held.shown) so_far.gained (subst (λ m. Gained (take takes.some new.held.shown) m last) kept takes.gained)),
        subst (OpenYet [] new (take left devices_now)) (sym world_here) (open_over new (take left devices_now) so_far.world (shown-over is).1),
      )

      pub over_ended : (ending : Ending) → made ≡ step.Over ending → done < steps → EndsAt program files steps (gaining held now count count_now) (OpenYet [] new (take left devices_now)) ending
      over_ended ending is within =
          let over = subst (λ s. FollowsOver s new (take left devices_now) so_far.world so_far.trace (after program files (suc done))) is next-over in
          let end : outcome.Ending Files = ending_seen ending (world_after program files (suc done)).shelves in
          let stays : after program files steps ≡ after program files (suc done) = over-then program files done steps end (ap (λ run. run.standing) over.1) within in
          let same : world_after program files steps ≡ world_after program files (suc done) = ap (λ (s : State). s.memory.world) stays in (
            subst (λ (w : World). Stands program files steps (Over (ending_seen ending w.shelves)) (gaining held now count count_now)) (sym same)
                (stays-over program files done steps over.0 end over.1 within held now count count_now (subst (λ bytes. Gained bytes held now) (sym over.2) so_far.gained)),
            subst (OpenYet [] new (take left devices_now)) (sym same) (open_over new (take left devices_now) (world_after program files (suc done)) over.3),
          )

-- ---- the end

module _ (program : Program) (files : Files) (steps : ℕ) (sink : SinkCall) where
  -- what is left of each world
  pub comes_with : (First Then : World → Type 0) → ((world : World) → First world → Then world) → (came : Ran) → ComesTo program files steps sink First came → ComesTo program files steps sink Then came
  comes_with First Then goes (ran.Ended ending) c = (c.0, goes (world_after program files steps) c.1)
  comes_with First Then goes ran.Budget c = (c.0, goes (world_after program files steps) c.1)
  comes_with First Then goes (ran.DeviceFault name) c = (c.0, c.1, c.2, c.3, c.4, goes (world_at program files c.0 c.1) c.5)
  comes_with First Then goes ran.WriteFault c = (c.0, c.1, c.2, c.3, c.4, c.5, goes (world_after program files c.0) c.6)
  comes_with First Then goes ran.NoMemory c = (c.0, c.1, c.2, c.3, c.4, goes (world_at program files c.0 c.1) c.5)

  -- what came to its end, but for a device that failed while files were closed
  at_end : (Left : World → Type 0) → Gains (displayed (source_run program files steps).trace) sink → Left (world_after program files steps) → BreaksAt program files steps sink Left
  at_end Left gains left =
      let ops : List Operation = operations_in (declared_in program) (after program files steps) in (
        steps,
        0,
        omega arith,
        gains,
        none_shown ops,
        subst Left (sym (behind_none (world_after program files steps) ops)) left,
      )

  ended_late : (Left : World → Type 0) (came : Ran) → breaks_off came ≡ false → ComesTo program files steps sink Left came → BreaksAt program files steps sink Left
  ended_late Left (ran.Ended ending) goes c = at_end Left c.0.1 c.1
  ended_late Left ran.Budget goes c = at_end Left c.0.1 c.1
  ended_late Left (ran.DeviceFault name) goes c = absurd (let x : true ≡ false = goes in cc)
  ended_late Left ran.WriteFault goes c = absurd (let x : true ≡ false = goes in cc)
  ended_late Left ran.NoMemory goes c = absurd (let x : true ≡ false = goes in cc)

  pub comes_late : (Left : World → Type 0) (came result : Ran) (room : ℕ) (device : Option Seen) → breaks_off came ≡ false → NamesDevice room result device → ComesTo program files steps sink Left came → ComesTo program files steps sink Left result
  comes_late Left came (ran.Ended ending) room device goes named c = absurd named
  comes_late Left came ran.Budget room device goes named c = absurd named
  comes_late Left came (ran.DeviceFault name) room device goes named c = ended_late Left came goes c
  comes_late Left came ran.WriteFault room device goes named c = absurd named
  comes_late Left came ran.NoMemory room device goes named c = ended_late Left came goes c

  -- a device failed in a step
  pub comes_failed : (Left : World → Type 0) (result : Ran) (room : ℕ) (device : Option Seen) → NamesDevice room result device → BreaksAt program files steps sink Left → ComesTo program files steps sink Left result
  comes_failed Left (ran.Ended ending) room device named c = absurd named
  comes_failed Left ran.Budget room device named c = absurd named
  comes_failed Left (ran.DeviceFault name) room device named c = c
  comes_failed Left ran.WriteFault room device named c = absurd named
  comes_failed Left ran.NoMemory room device named c = c

-- ---- nothing ran

get_replicate : (n k : ℕ) (state : FileState) → slice_get (replicate n closed) k ≡ Some state → IsSome state.row.how → ⊥
get_replicate n k state here opened_so = absurd (let x : false ≡ true = subst (λ (s : FileState). is_some s.row.how ≡ true) (sym (all-closed n k state here)) opened_so in cc)

-- the files that the devices tell, none of which is open
begun_left : (program : Program) (files : Files) (devices : List Seen) (declared : Declared) → TellFiles program devices files → LeavesFiles (addresses_of program.files) [] devices (world_with declared files)
begun_left program files devices declared tell = record {
  same = λ name none. tell.same name;
  shut = λ file address opened_so. absurd (get_replicate (length declared.files) file opened_so.state opened_so.there opened_so.open_so);
}

pub never_begun : (program : Program) (steps : ℕ) (held : Option (List ℕ)) (count left : ℕ) (devices : List Seen) → RunEnds program steps (gaining held held count count) left left devices devices ran.NoMemory
never_begun program steps held count left devices = record {
  gone = [];
  bench = left_same (is_used (addresses_of program.files)) left devices;
  names = tt;
  files = λ files own tell.
      let ops : List Operation = operations_in (declared_in program) (after program files 0) in (
        0,
        0,
        omega arith,
        gained-nothing held,
        none_shown ops,
        subst (LeavesFiles (addresses_of program.files) [] (take left devices)) (sym (behind_none (world_with (declared_in program) files) ops)) (begun_left program files (take left devices) (declared_in program) tell),
      );
}

-- ---- a whole run

pub run_ends : (program : Program) (machine : Machine) (steps : ℕ) (sink : SinkCall) (left now : ℕ) (old new : List Seen) (came : Ran) → machine.plan.program.now ≡ program → FilesEnd machine steps sink left now old new came →
    ((files : Files) → TellFiles program (take left old) files → SoFarOver program files machine (take left old) 0 (begun_sink sink)) → RunEnds program steps sink left now old new came
run_ends program machine steps sink left now old new came is so begun = record {
  gone = so.gone;
  bench = subst (λ (p : Program). LeftOf (is_used (addresses_of p.files)) so.gone left now old new) is so.bench;
  names = so.names;
  files = λ files own tell. subst (λ (p : Program). ComesTo program files steps sink (LeavesFiles (addresses_of p.files) so.gone (take now new)) came) is (so.files program files own (begun files tell));
}
