-- What a run has come to so far.
use Rattle.std.proofs.Common.{◌≡◌, ℕ, zero, suc, ◌+◌, ◌-◌, ◌<◌, ◌≤◌, false, List, [], ◌∷◌, ◌++◌, replicate, take, Option, Some, None, arith, refl, ap, sym, ◌∙◌, subst, append_assoc, append-nil}
use Rattle.cob_base.specs.Sink.{SinkCall}
use Rattle.cob_tree.specs.declared.program.Program.{Program}
use Rattle.file_model.specs.World.{World}
use Rattle.file_model.specs.Status.{closed_row}
use Rattle.meanings.specs.statements.Does.{declared_in}
use Rattle.control_flow_theory.specs.runs.Run.{Over}
use Rattle.control_flow_theory.specs.runs.Machine.{iterate}
use Rattle.control_flow_theory.specs.semantics.Outcome.{Trace}
use Rattle.control_flow_theory.specs.semantics.Outcome as outcome
use Rattle.control_flow_theory.specs.semantics.Source as source
use Rattle.control_flow_theory.specs.language.Control.{control_of}
use Rattle.control_flow_theory.specs.language.Own.{OwnTest}
use Rattle.cobol_theory.specs.cobol_meaning.Runs.{Files, State, begun_in, doing_in, files_left, first_memory, source_run, step_in, world_with}
use Rattle.cob_base.specs.giving.Giving.{Gained, Takes}
use Rattle.cobol_run.specs.declared.machine.Machine.{Machine}
use Rattle.cobol_run.specs.declared.machine.Ending.{Ending}
use Rattle.cobol_run.specs.declared.machine.StepOutcome.{StepOutcome}
use Rattle.cobol_run.specs.declared.machine.StepOutcome.TheVariants as step
use Rattle.cobol_run.specs.declared.running.Ran.TheVariants as ran
use Rattle.cobol_run.specs.Filing.{some_open}
use Rattle.cobol_run.specs.Machine.{Follows, ending_seen, state_in, steps_by}
use Rattle.cobol_run.specs.Plain.{IsPlain, PlainAct, PlainPicker, PlainState}
use Rattle.cobol_run.specs.Plan.{declared_by}
use Rattle.cobol_run.specs.Running.{BreaksOff, BreaksWithin, RunsAs, SoFar, Stands, after, displayed, next_state, shown_by}
use Rattle.cobol_run.proofs.Standing.{begun-has, iterate-has}

-- ---- files

pub none_open : (n : ℕ) → some_open (replicate n closed_row) ≡ false
none_open zero = refl
none_open (suc n) = none_open n

-- ---- steps

pub iterate-next : (step : State → State) (n : ℕ) (s : State) → iterate step (suc n) s ≡ step (iterate step n s)
iterate-next step zero s = refl
iterate-next step (suc n) s = iterate-next step n (step s)

iterate-plus : (step : State → State) (k n : ℕ) (s : State) → iterate step (k + n) s ≡ iterate step n (iterate step k s)
iterate-plus step zero n s = let e : 0 + n ≡ n = omega arith in ap (λ m. iterate step m s) e
iterate-plus step (suc k) n s = let e : suc k + n ≡ suc (k + n) = omega arith in ap (λ m. iterate step m s) e ∙ iterate-plus step k n (step s)

over-stays : (program : Program) (n : ℕ) (s : State) (ending : outcome.Ending Files) → s.run.standing ≡ Over ending → iterate (next_state program) n s ≡ s
over-stays program zero s ending over = refl
over-stays program (suc n) s ending over =
    ap (iterate (next_state program) n) (ap (λ standing. source.step_by (doing_in (declared_in program)) files_left (control_of program) standing s) over)
    ∙ over-stays program n s ending over

-- ---- what is displayed

pub displayed-more : (trace : Trace) (shown : List ℕ) → displayed (trace ++ (0 ∷ shown) ∷ []) ≡ displayed trace ++ shown
displayed-more [] shown = append-nil shown
displayed-more (event ∷ trace) shown =
    ap (λ more. shown_by event ++ more) (displayed-more trace shown) ∙ sym (append_assoc (shown_by event) (displayed trace) shown)

pub gained-nothing : (held : Option (List ℕ)) → Gained [] held held
gained-nothing None = refl
gained-nothing (Some held) = ap Some (sym (append-nil held))

pub gained-more : (held mid now : Option (List ℕ)) (first second : List ℕ) → Gained first held mid → Gained second mid now → Gained (first ++ second) held now
gained-more None mid now first second h g = subst (λ m. Gained second m now) h g
gained-more (Some held) mid now first second h g = subst (λ m. Gained second m now) h g ∙ ap Some (append_assoc held first second)

-- ---- so far

-- a run that is over after a step stays so
pub over-then : (program : Program) (files : Files) (done steps : ℕ) (ending : outcome.Ending Files) → (after program files (suc done)).run.standing ≡ Over ending → done < steps → after program files steps ≡ after program files (suc done)
over-then program files done steps ending there within =
    let rest : suc done + (steps - suc done) ≡ steps = omega (arith, within) in
    ap (after program files) (sym rest)
    ∙ iterate-plus (next_state program) (suc done) (steps - suc done) (begun_in program (declared_in program) files)
    ∙ over-stays program (steps - suc done) (after program files (suc done)) ending there

-- a run that is over after a step ends so
pub stays-over : (program : Program) (files : Files) (done steps : ℕ) (trace : Trace) (ending : outcome.Ending Files) → (after program files (suc done)).run ≡ record { trace = trace; standing = Over ending } → done < steps →
    (held now : Option (List ℕ)) (count count_now : ℕ) → Gained (displayed trace) held now → Stands program files steps (Over ending) (record { held = held; now = now; count = count; count_now = count_now })
stays-over program files done steps trace ending there within held now count count_now gained =
    let rest : suc done + (steps - suc done) ≡ steps = omega (arith, within) in
    let stays : after program files steps ≡ after program files (suc done) =
    ap (after program files) (sym rest)
    ∙ iterate-plus (next_state program) (suc done) (steps - suc done) (begun_in program (declared_in program) files)
    ∙ over-stays program (steps - suc done) (after program files (suc done)) ending (ap (λ run. run.standing) there) in
    let run : source_run program files steps ≡ record { trace = trace; standing = Over ending } = ap (λ (s : State). s.run) stays ∙ there in
    (ap (λ run. run.standing) run, subst (λ trace. Gained (displayed trace) held now) (sym (ap (λ run. run.trace) run)) gained)

pub at_start : (program : Program) (machine : Machine) (held : Option (List ℕ)) (count : ℕ) → declared_by machine.plan ≡ declared_in program → machine.plan.program.now ≡ program →
    ((files : Files) → state_in machine (world_with (declared_in program) files) [] ≡ begun_in program (declared_in program) files) → SoFar program machine 0 (record { held = held; now = held; count = count; count_now = count })
at_start program machine held count declared same begun = record {
  declared = declared;
  same = same;
  later = omega arith;
  reached = λ files plain. ([], sym (begun files), gained-nothing held);
}

pub one_more : (program : Program) (machine : Machine) (done : ℕ) (sink : SinkCall) → SoFar program machine (suc done) sink → SoFar program machine (done + 1) sink
one_more program machine done sink = let e : suc done ≡ done + 1 = omega arith in subst (λ n. SoFar program machine n sink) e

module _ (program : Program) (machine : Machine) (done steps : ℕ) (held now : Option (List ℕ)) (count count_now : ℕ) (so_far : SoFar program machine done (record { held = held; now = now; count = count; count_now = count_now })) where
  -- out of memory between two steps
  pub breaks_off : done ≤ steps → (last : Option (List ℕ)) (count_last : ℕ) → last ≡ now → (files : Files) → IsPlain program → BreaksOff program files steps (record { held = held; now = last; count = count; count_now = count_last })
  breaks_off within last count_last kept files plain =
      let r = so_far.reached files plain in
      (done, within, subst (λ m. Gained (displayed (source_run program files done).trace) held m) (sym kept) (subst (λ trace. Gained (displayed trace) held now) (sym (ap (λ (s : State). s.run.trace) r.1)) r.2))

  pub goes_on_yet : done ≡ steps → (files : Files) → IsPlain program → RunsAs program files steps (record { held = held; now = now; count = count; count_now = count_now }) ran.Budget
  goes_on_yet end files plain =
      let r = so_far.reached files plain in
      subst (λ n. RunsAs program files n (record { held = held; now = now; count = count; count_now = count_now }) ran.Budget) end
      (ap (λ (s : State). s.run.standing) r.1, subst (λ trace. Gained (displayed trace) held now) (sym (ap (λ (s : State). s.run.trace) r.1)) r.2)

  -- the state before the step is a plain one
  pub plain-before : (files : Files) (plain : IsPlain program) → PlainState (state_in machine (world_with (declared_in program) files) (so_far.reached files plain).0)
  plain-before files plain =
      let r = so_far.reached files plain in
      subst PlainState r.1 (iterate-has PlainAct OwnTest PlainPicker (doing_in (declared_in program)) files_left (control_of program) plain done (begun_in program (declared_in program) files) (begun-has PlainAct OwnTest PlainPicker (doing_in (declared_in program)) files_left (control_of program) plain (first_memory (declared_in program) files)))

  module _ (new : Machine) (plan : new.plan ≡ machine.plan) (made : StepOutcome)
      (follows : (world : World) (trace : Trace) → PlainState (state_in machine world trace) → Follows made new world trace (steps_by machine.plan (state_in machine world trace))) where
    next-follows : (files : Files) (plain : IsPlain program) → Follows made new (world_with (declared_in program) files) (so_far.reached files plain).0 (after program files (suc done))
    next-follows files plain =
        let r = so_far.reached files plain in
        let world : World = world_with (declared_in program) files in
        let state : State = state_in machine world r.0 in
        let whole : after program files (suc done) ≡ steps_by machine.plan state =
        iterate-next (next_state program) done (begun_in program (declared_in program) files)
        ∙ ap (next_state program) r.1
        ∙ sym (ap (λ p. step_in p (declared_by machine.plan) state) so_far.same ∙ ap (λ d. step_in program d state) so_far.declared) in
        subst (λ s. Follows made new world r.0 s) (sym whole)
        (follows world r.0 (plain-before files plain))

    declared-then : declared_by new.plan ≡ declared_in program
    declared-then = ap declared_by plan ∙ so_far.declared

    same-then : new.plan.program.now ≡ program
    same-then = ap (λ p. p.program.now) plan ∙ so_far.same

    pub went_on : made ≡ step.On → SoFar program new (suc done) (record { held = held; now = now; count = count; count_now = count_now })
    went_on is = record {
      declared = declared-then;
      same = same-then;
      later = so_far.later;
      reached = λ files plain. ((so_far.reached files plain).0, subst (λ s. Follows s new (world_with (declared_in program) files) (so_far.reached files plain).0 (after program files (suc done))) is (next-follows files plain), (so_far.reached files plain).2);
    }

    shown-state : made ≡ step.Shown → (files : Files) (plain : IsPlain program) → after program files (suc done) ≡ state_in new (world_with (declared_in program) files) ((so_far.reached files plain).0 ++ (0 ∷ new.held.shown) ∷ [])
    shown-state is files plain = subst (λ s. Follows s new (world_with (declared_in program) files) (so_far.reached files plain).0 (after program files (suc done))) is (next-follows files plain)

    pub showed : made ≡ step.Shown → (mid last : Option (List ℕ)) (count_last : ℕ) → mid ≡ now → count_now ≤ count_last → Gained new.held.shown mid last → SoFar program new (suc done) (record { held = held; now = last; count = count; count_now = count_last })
    showed is mid last count_last kept later gained = record {
      declared = declared-then;
      same = same-then;
      later = omega (arith, so_far.later, later);
      reached = λ files plain. (
        (so_far.reached files plain).0 ++ (0 ∷ new.held.shown) ∷ [],
        shown-state is files plain,
        subst (λ bytes. Gained bytes held last) (sym (displayed-more (so_far.reached files plain).0 new.held.shown))
            (gained-more held now last (displayed (so_far.reached files plain).0) new.held.shown (so_far.reached files plain).2 (subst (λ m. Gained new.held.shown m last) kept gained)),
      );
    }

    pub broke_within : made ≡ step.Shown → done < steps → (mid last : Option (List ℕ)) (count_mid count_last : ℕ) → mid ≡ now → Takes new.held.shown (record { held = mid; now = last; count = count_mid; count_now = count_last }) →
        (files : Files) → IsPlain program → BreaksWithin program files steps (record { held = held; now = last; count = count; count_now = count_last })
    broke_within is within mid last count_mid count_last kept takes files plain =
        let r = so_far.reached files plain in
        let before : (source_run program files done).trace ≡ r.0 = ap (λ (s : State). s.run.trace) r.1 in (
          done,
          within,
          new.held.shown,
          takes.some,
          ap (λ (s : State). s.run.trace) (shown-state is files plain) ∙ ap (λ trace. trace ++ (0 ∷ new.held.shown) ∷ []) (sym before),
          subst (λ trace. Gained (displayed trace ++ take takes.some new.held.shown) held last) (sym before)
              (gained-more held now last (displayed r.0) (take takes.some new.held.shown) r.2 (subst (λ m. Gained (take takes.some new.held.shown) m last) kept takes.gained)),
        )

    pub ended : (ending : Ending) → made ≡ step.Over ending → done < steps → (files : Files) → IsPlain program → RunsAs program files steps (record { held = held; now = now; count = count; count_now = count_now }) (ran.Ended ending)
    ended ending is within files plain =
        let r = so_far.reached files plain in
        stays-over program files done steps r.0 (ending_seen ending files) (subst (λ s. Follows s new (world_with (declared_in program) files) r.0 (after program files (suc done))) is (next-follows files plain)).0 within held now count count_now r.2

    -- no device fails
    pub never_failed : made ≡ step.Failed → (files : Files) → IsPlain program → ⊥
    never_failed is files plain = subst (λ s. Follows s new (world_with (declared_in program) files) (so_far.reached files plain).0 (after program files (suc done))) is (next-follows files plain)

-- what a step keeps where the state is a plain one, the turn keeps
pub turn_kept : (old : Machine) (Same : Type 0) (program : Program) (done : ℕ) (sink : SinkCall) → SoFar program old done sink → IsPlain program → ((world : World) (trace : Trace) → PlainState (state_in old world trace) → Same) → Same
turn_kept old Same program done sink so_far plain kept =
    let r = so_far.reached [] plain in
    kept (world_with (declared_in program) []) r.0
    (subst PlainState r.1 (iterate-has PlainAct OwnTest PlainPicker (doing_in (declared_in program)) files_left (control_of program) plain done (begun_in program (declared_in program) []) (begun-has PlainAct OwnTest PlainPicker (doing_in (declared_in program)) files_left (control_of program) plain (first_memory (declared_in program) []))))
