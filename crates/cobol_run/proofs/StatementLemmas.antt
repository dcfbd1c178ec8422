-- What a statement comes to is what control says of it.
use Rattle.std.proofs.Common.{◌≡◌, ℕ, zero, suc, ◌==◌, ◌||◌, Bool, true, false, List, [], ◌∷◌, length, map, Option, Some, None, is_some, slice_get, unwrap_or, Result, Ok, Err, refl, ap, sym, ◌∙◌, subst}
use Rattle.std.specs.Prelude.{if◌then◌else◌, IfOk}
use Rattle.std.proofs.Math.Dec.{eqb-suc-suc, eqb-suc-zero}
use Rattle.cob_base.specs.declared.memory.NoMemory.{NoMemory}
use Rattle.cob_tree.specs.declared.calc.Calc.{Calc}
use Rattle.cob_tree.specs.declared.calc.Target.{Target}
use Rattle.cob_tree.specs.declared.choice.Subject.{Subject}
use Rattle.cob_tree.specs.declared.cond.Cond.{Cond}
use Rattle.cob_tree.specs.declared.control.Control.{Control}
use Rattle.cob_tree.specs.declared.control.Control.TheVariants as control
use Rattle.cob_tree.specs.declared.place.Operand.{Operand}
use Rattle.cob_tree.specs.declared.place.Place.{Place}
use Rattle.cob_tree.specs.declared.stmt.Arms.{Arms, out-Arms}
use Rattle.cob_tree.specs.declared.stmt.When.{When, out-When}
use Rattle.cob_tree.specs.declared.stmt.Stmt.{Stmt, out-Stmt, out-roll-Stmt}
use Rattle.cob_tree.specs.declared.stmt.Stmt.TheOpen.{Stmt-F}
use Rattle.cob_tree.specs.declared.stmt.Stmt.TheVariants as stmts
use Rattle.cob_store.specs.Answer.{Answer}
use Rattle.cob_store.specs.Store.{Roots}
use Rattle.file_model.specs.World.{World}
use Rattle.meanings.specs.statements.Arithmetic.{calculated}
use Rattle.meanings.specs.statements.Does.{has_arms, of_sum}
use Rattle.meanings.specs.statements.Filing.{Declared}
use Rattle.control_flow_theory.specs.semantics.Outcome.{Tried, Got, Ends}
use Rattle.control_flow_theory.specs.semantics.Items.{Way, item_way, loop_begins, steps_on, stmt_way, tried, turn_way, way_after}
use Rattle.control_flow_theory.specs.semantics.Doing.{Doing, arm_of, giving}
use Rattle.control_flow_theory.specs.language.Language as language
use Rattle.control_flow_theory.specs.language.Control.{arith_of, arith_stmt, augmented, augmenting, arm_before, Branch, both_arms, branches_before, cell_chosen, control_in, count_from, evaluate_of, loop_of, perform_of, picker_by, seen, seen_stmts, seen_when, test_of, tests_of}
use Rattle.control_flow_theory.specs.language.Items.{Item, before, before_arm}
use Rattle.control_flow_theory.specs.language.Items as items
use Rattle.control_flow_theory.specs.language.Own.{OwnAct, OwnPicker, OwnTest}
use Rattle.control_flow_theory.proofs.language_lemmas.Rows.{seen_arith, seen_both_is, seen_evaluate, seen_if, seen_if_any, seen_loop, seen_perform, seen_when_is}
use Rattle.cobol_theory.specs.cobol_meaning.Acting.{Memory, chooses_in, chosen, does_to, tests_in}
use Rattle.cobol_theory.specs.cobol_meaning.Runs.{doing_in}
use Rattle.cobol_run.specs.declared.frame.Frame.{Frame}
use Rattle.cobol_run.specs.declared.frame.LoopProgress.{LoopProgress}
use Rattle.cobol_run.specs.declared.frame.LoopProgress.TheVariants as turning
use Rattle.cobol_run.specs.declared.held.Held.{Held}
use Rattle.cob_act.specs.declared.acting.ActOutcome.{ActOutcome}
use Rattle.cob_act.specs.declared.acting.ActOutcome.TheVariants as done
use Rattle.cobol_run.specs.Frames.{rest_of, turning_seen}
use Rattle.cobol_run.specs.Own.{ActsAlone, HeadOwn}
use Rattle.cobol_run.specs.Plain.{once_by, once_of}
use Rattle.cobol_run.specs.Plan.{did, memory_in}
use Rattle.cobol_run.specs.Standing as standing
use Rattle.cobol_run.specs.NextStep.{Leads, LeadsWhere, arm_at, arm_by, either, loop_meant, on, steps_on_meant, stmts_or_none, turn_meant, way_seen}
use Rattle.cobol_run.proofs.AlwaysLemmas.{always_holds}
use Rattle.cobol_run.proofs.WayLemmas.{do-way, if-way, test-is}

-- what was meant is what control says
pub led : (Holds : ℕ → Type 0) (result : Result ActOutcome NoMemory) (before after : List Frame) (old new : Held) (meant other : ℕ → List Item → Memory → Way Memory) →
    ((last : ℕ) (rest : List Item) (memory : Memory) → Holds last → meant last rest memory ≡ other last rest memory) →
    IfOk result (λ way. Leads way before after old new meant) → IfOk result (λ way. LeadsWhere Holds way before after old new other)
led Holds (Err e) before after old new meant other same h = tt
led Holds (Ok way) before after old new meant other same h = λ world last holds.
    h world last ∙ same last (rest_of last before) (memory_in old.store world) holds

-- what was done is the way that it goes
acted-way : (act : ActOutcome) (shown : List ℕ) (memory : Memory) (rest : List Item) → way_seen act shown memory rest ≡ tried (did act shown memory) (λ u. on rest)
acted-way done.Went shown memory rest = refl
acted-way done.Shown shown memory rest = refl
acted-way (done.Chose arm) shown memory rest = refl
acted-way (done.Abended abend) shown memory rest = refl

pub acted_ways : (result : Result ActOutcome NoMemory) (new : Held) (meant : World → Tried Memory (Unit {0})) → IfOk result (λ act. (world : World) → did act new.shown (memory_in new.store world) ≡ meant world) →
    IfOk result (λ act. (world : World) (rest : List Item) → way_seen act new.shown (memory_in new.store world) rest ≡ tried (meant world) (λ u. on rest))
acted_ways (Err e) new meant h = tt
acted_ways (Ok act) new meant h = λ world rest.
    acted-way act new.shown (memory_in new.store world) rest ∙ ap (λ t. tried t (λ u. on rest)) (h world)

-- the frames stay
pub led_beside : (Holds : ℕ → Type 0) (result : Result ActOutcome NoMemory) (frames : List Frame) (old new : Held) (meant : List Item → Memory → Way Memory) (other : ℕ → List Item → Memory → Way Memory) →
    ((last : ℕ) (rest : List Item) (memory : Memory) → Holds last → meant rest memory ≡ other last rest memory) →
    IfOk result (λ way. (world : World) (rest : List Item) → way_seen way new.shown (memory_in new.store world) rest ≡ meant rest (memory_in old.store world)) →
    IfOk result (λ way. LeadsWhere Holds way frames frames old new other)
led_beside Holds (Err e) frames old new meant other same h = tt
led_beside Holds (Ok way) frames old new meant other same h = λ world last holds.
    h world (rest_of last frames) ∙ same last (rest_of last frames) (memory_in old.store world) holds

tried-alike : {Value : Type 0} (got : Tried Memory Value) (f g : Value → Memory → Way Memory) → ((value : Value) (memory : Memory) → f value memory ≡ g value memory) → tried got f ≡ tried got g
tried-alike (Got trace value memory) f g same = ap (way_after trace) (same value memory)
tried-alike (Ends trace kind memory) f g same = refl

abbrev IsThere : {A : Type 0} → Option A → Type 0
IsThere None = ⊥
IsThere (Some a) = Unit {0}

abbrev Yes : Bool → Type 0
Yes true = Unit {0}
Yes false = ⊥

some-none : {A : Type 0} (a : A) → Some a ≡ None → ⊥
some-none a e = subst IsThere e tt

-- ---- arms

pub either-arm : (last : ℕ) (arms : Option (List Stmt)) (others : language.Arms) (rest : List Item) → before_arm (arm_before (seen_if_any last arms) others) 0 rest ≡ before (seen_stmts last (stmts_or_none arms)) rest
either-arm last None others rest = refl
either-arm last (Some stmts) others rest = refl

pub second-arm : (last : ℕ) (first : Option (List Stmt)) (others : language.Arms) (rest : List Item) → before_arm (arm_before (seen_if_any last first) others) 1 rest ≡ before_arm others 0 rest
second-arm last None others rest = refl
second-arm last (Some stmts) others rest = refl

when-arm : (last : ℕ) (whens : List When) (other : Option (List Stmt)) (arm : ℕ) (rest : List Item) →
    before_arm (branches_before (map (seen_when last) whens) (arm_before (seen_if_any last other) language.done)) arm rest ≡ before (seen_stmts last (arm_at whens other arm)) rest
when-arm last [] None zero rest = refl
when-arm last [] (Some stmts) zero rest = refl
when-arm last [] None (suc arm) rest = ap (λ b. before (seen_stmts last (arm_by None b None)) rest) (sym (eqb-suc-zero arm))
when-arm last [] (Some stmts) (suc arm) rest = ap (λ b. before (seen_stmts last (arm_by None b (Some stmts))) rest) (sym (eqb-suc-zero arm))
when-arm last (when ∷ whens) other zero rest = ap (λ branch. before (Branch.arm branch) rest) (seen_when_is last when)
when-arm last (when ∷ whens) other (suc arm) rest =
    when-arm last whens other arm rest ∙ ap (λ b. before (seen_stmts last (arm_by (slice_get whens arm) b other)) rest) (sym (eqb-suc-suc arm (length whens)))

when-tests : (last : ℕ) (whens : List When) → tests_of (map (seen_when last) whens) ≡ map (λ when. (out-When when).tests) whens
when-tests last [] = refl
when-tests last (when ∷ whens) = ap (λ branch. Branch.tests branch ∷ tests_of (map (seen_when last) whens)) (seen_when_is last when) ∙ ap (λ tests. (out-When when).tests ∷ tests) (when-tests last whens)

by-picker : (cell : Option ℕ) (counted : Bool) (chooser : language.Chooser) → OwnPicker (picker_by cell counted chooser) → picker_by cell counted chooser ≡ language.By chooser
by-picker None counted chooser h = refl
by-picker (Some cell) false chooser h = refl
by-picker (Some cell) true chooser h = absurd h

module _ (declared : Declared) where
  abbrev doing : Doing Memory
  doing = doing_in declared

  -- ---- statements that act

  pub do_led : (last : ℕ) (stmt : Stmt) (act : language.Act) → seen last stmt ≡ language.Do act → (rest : List Item) (memory : Memory) → ActsAlone stmt last →
      tried (does_to declared stmt memory) (λ u. on rest) ≡ item_way doing (items.Do (seen last stmt)) rest memory
  do_led last stmt act e rest memory plain = sym (do-way declared last stmt act e plain.0.0 rest memory)

  -- ---- IF, EVALUATE and arithmetic with phrases

  pub if_led : (last : ℕ) (cond : Cond) (met unmet : List Stmt) (rest : List Item) (memory : Memory) → ActsAlone (stmts.If cond met unmet) last →
      tried (tests_in declared cond memory) (λ holds. on (before (seen_stmts last (if holds then met else unmet)) rest)) ≡ item_way doing (items.Do (seen last (stmts.If cond met unmet))) rest memory
  if_led last cond met unmet rest memory plain =
      sym (if-way declared last cond met unmet rest memory (subst HeadOwn (seen_if last cond met unmet) plain.0.0))

  evaluate-picked : (last : ℕ) (subject : Subject) (whens : List When) (other : Option (List Stmt)) (rest : List Item) (memory : Memory) (picker : language.Picker) →
      picker ≡ language.By (language.Evaluate subject (map (λ when. (out-When when).tests) whens) (is_some other)) →
      tried (chooses_in declared (language.Evaluate subject (map (λ when. (out-When when).tests) whens) (is_some other)) memory) (λ arm. on (before (seen_stmts last (arm_at whens other arm)) rest))
      ≡ stmt_way doing (language.Choose picker (branches_before (map (seen_when last) whens) (arm_before (seen_if_any last other) language.done))) rest memory
  evaluate-picked last subject whens other rest memory picker e =
      tried-alike (chooses_in declared (language.Evaluate subject (map (λ when. (out-When when).tests) whens) (is_some other)) memory)
      (λ arm. on (before (seen_stmts last (arm_at whens other arm)) rest))
      (λ arm. on (before_arm (branches_before (map (seen_when last) whens) (arm_before (seen_if_any last other) language.done)) arm rest))
      (λ arm later. ap (λ list. on list later) (sym (when-arm last whens other arm rest)))
      ∙ ap (λ p. stmt_way doing (language.Choose p (branches_before (map (seen_when last) whens) (arm_before (seen_if_any last other) language.done))) rest memory) (sym e)

  pub evaluate_led : (last : ℕ) (subject : Subject) (whens : List When) (other : Option (List Stmt)) (rest : List Item) (memory : Memory) → ActsAlone (stmts.Evaluate subject whens other) last →
      tried (chooses_in declared (language.Evaluate subject (map (λ when. (out-When when).tests) whens) (is_some other)) memory) (λ arm. on (before (seen_stmts last (arm_at whens other arm)) rest))
      ≡ item_way doing (items.Do (seen last (stmts.Evaluate subject whens other))) rest memory
  evaluate_led last subject whens other rest memory plain =
      let picked : OwnPicker (evaluate_of subject (tests_of (map (seen_when last) whens)) (is_some other)) = subst HeadOwn (seen_evaluate last subject whens other) plain.0.0 in
      evaluate-picked last subject whens other rest memory (evaluate_of subject (tests_of (map (seen_when last) whens)) (is_some other))
      (by-picker (cell_chosen subject) (count_from 1 (tests_of (map (seen_when last) whens))) (language.Evaluate subject (tests_of (map (seen_when last) whens)) (is_some other)) picked
      ∙ ap (λ tests. language.By (language.Evaluate subject tests (is_some other))) (when-tests last whens))
      ∙ ap (λ s. item_way doing (items.Do s) rest memory) (sym (seen_evaluate last subject whens other))

  sum-alike : (memory : Memory) (store : Roots) (answer : Answer Bool) (f g : ℕ → Memory → Way Memory) → ((later : Memory) → f 0 later ≡ g 0 later) → ((later : Memory) → f 1 later ≡ g 1 later) →
      tried (chosen memory (of_sum true store answer)) f ≡ tried (chosen memory (of_sum true store answer)) g
  sum-alike memory store (Err abend) f g same other = refl
  sum-alike memory store (Ok true) f g same other = ap (way_after []) (same _)
  sum-alike memory store (Ok false) f g same other = ap (way_after []) (other _)

  arith-picked : (last : ℕ) (calc : Calc) (into : List Target) (arms : Arms) (rest : List Item) (memory : Memory) →
      tried (chooses_in declared (language.Arith calc into) memory) (λ arm. on (before (seen_stmts last (either arms (arm == 0))) rest))
      ≡ stmt_way doing (language.Choose (language.By (language.Arith calc into)) (both_arms (record { first = seen_if_any last (out-Arms arms).first; second = seen_if_any last (out-Arms arms).second }))) rest memory
  arith-picked last calc into arms rest memory =
      sum-alike memory (calculated declared.areas.items calc true into memory.store).store (calculated declared.areas.items calc true into memory.store).answer
      (λ arm. on (before (seen_stmts last (either arms (arm == 0))) rest))
      (λ arm. on (before_arm (both_arms (record { first = seen_if_any last (out-Arms arms).first; second = seen_if_any last (out-Arms arms).second })) arm rest))
      (λ later. ap (λ list. on list later) (sym (either-arm last (out-Arms arms).first _ rest)))
      (λ later. ap (λ list. on list later) (sym (second-arm last (out-Arms arms).first _ rest ∙ either-arm last (out-Arms arms).second language.done rest)))

  chooses-arith : (last : ℕ) (calc : Calc) (into : List Target) (first second : Option (List Stmt)) → (is_some first || is_some second) ≡ true →
      arith_stmt calc into (record { first = seen_if_any last first; second = seen_if_any last second })
      ≡ language.Choose (language.By (language.Arith calc into)) (both_arms (record { first = seen_if_any last first; second = seen_if_any last second }))
  chooses-arith last calc into (Some a) second h = refl
  chooses-arith last calc into None (Some b) h = refl
  chooses-arith last calc into None None h = absurd (subst Yes (sym h) tt)

  pub arith_led : (last : ℕ) (calc : Calc) (into : List Target) (arms : Arms) → has_arms arms ≡ true → (rest : List Item) (memory : Memory) →
      tried (chooses_in declared (language.Arith calc into) memory) (λ arm. on (before (seen_stmts last (either arms (arm == 0))) rest))
      ≡ item_way doing (items.Do (seen last (stmts.Arith calc into arms))) rest memory
  arith_led last calc into arms h rest memory =
      arith-picked last calc into arms rest memory
      ∙ ap (λ s. stmt_way doing s rest memory) (sym (chooses-arith last calc into (out-Arms arms).first (out-Arms arms).second h))
      ∙ ap (λ both. stmt_way doing (arith_stmt calc into both) rest memory) (sym (seen_both_is last arms))
      ∙ ap (λ s. item_way doing (items.Do s) rest memory) (sym (seen_arith last calc into arms))

  acts-arith : (last : ℕ) (calc : Calc) (into : List Target) (first second : Option (List Stmt)) → (is_some first || is_some second) ≡ false →
      arith_stmt calc into (record { first = seen_if_any last first; second = seen_if_any last second }) ≡ language.Do (arith_of calc into)
  acts-arith last calc into None None h = refl
  acts-arith last calc into (Some a) second h = absurd (subst Yes h tt)
  acts-arith last calc into None (Some b) h = absurd (subst Yes h tt)

  pub arith_alone_led : (last : ℕ) (calc : Calc) (into : List Target) (arms : Arms) → has_arms arms ≡ false → (rest : List Item) (memory : Memory) → ActsAlone (stmts.Arith calc into arms) last →
      tried (does_to declared (stmts.Arith calc into arms) memory) (λ u. on rest) ≡ item_way doing (items.Do (seen last (stmts.Arith calc into arms))) rest memory
  arith_alone_led last calc into arms h rest memory plain =
      do_led last (stmts.Arith calc into arms) (arith_of calc into)
      (seen_arith last calc into arms ∙ ap (arith_stmt calc into) (seen_both_is last arms) ∙ acts-arith last calc into (out-Arms arms).first (out-Arms arms).second h) rest memory plain

  -- ---- loops

  begins-meant : (control : Control) (c : language.Control) (body : language.Body) (rest : List Item) (memory : Memory) → control_in control ≡ Some c → loop_meant declared control body rest memory ≡ loop_begins doing c body rest memory
  begins-meant control.Once c body rest memory e = absurd (some-none c (sym e))
  begins-meant (control.Times amount) c body rest memory e = ap (λ o. loop_begins doing (unwrap_or o c) body rest memory) e
  begins-meant (control.Until after until) c body rest memory e = ap (λ o. loop_begins doing (unwrap_or o c) body rest memory) e
  begins-meant (control.Varying true item from by until) c body rest memory e = ap (λ o. loop_begins doing (unwrap_or o c) body rest memory) e
  begins-meant (control.Varying false item from by until) c body rest memory e = ap (λ o. loop_begins doing (unwrap_or o c) body rest memory) e

  loop-by : (control : Control) (o : Option language.Control) (body : language.Stmts) (rest : List Item) (memory : Memory) → control_in control ≡ o →
      loop_meant declared control (language.Nested body) rest memory ≡ stmt_way doing (loop_of o body) rest memory
  loop-by control (Some c) body rest memory e = begins-meant control c (language.Nested body) rest memory e
  loop-by control.Once None body rest memory e =
      sym (ap (λ t. tried (giving arm_of t) (λ k. on (before_arm (language.given body language.done) k rest))) (always_holds declared memory))
  loop-by (control.Times amount) None body rest memory e = absurd (some-none _ e)
  loop-by (control.Until after until) None body rest memory e = absurd (some-none _ e)
  loop-by (control.Varying after item from by until) None body rest memory e = absurd (some-none _ e)

  loop_led : (last : ℕ) (control : Control) (body : List Stmt) (rest : List Item) (memory : Memory) →
      loop_meant declared control (language.Nested (seen_stmts last body)) rest memory ≡ item_way doing (items.Do (seen last (stmts.Loop control body))) rest memory
  loop_led last control body rest memory =
      loop-by control (control_in control) (seen_stmts last body) rest memory refl
      ∙ ap (λ s. item_way doing (items.Do s) rest memory) (sym (seen_loop last control body))

  once-performed : (entry exit : ℕ) (control : Control) → once_of (stmts.Perform entry exit control) ≡ once_by entry exit control
  once-performed entry exit control = rw (ap out-Stmt (sym (stmts.rolls-Perform entry exit control)) ∙ out-roll-Stmt (Stmt-F.Perform entry exit control), once_of) refl

  perform-by : (entry exit : ℕ) (control : Control) (o : Option language.Control) (rest : List Item) (memory : Memory) → control_in control ≡ o → once_by entry exit control ≡ None →
      loop_meant declared control (language.Performed entry exit) rest memory ≡ stmt_way doing (perform_of o entry exit) rest memory
  perform-by entry exit control (Some c) rest memory e h = begins-meant control c (language.Performed entry exit) rest memory e
  perform-by entry exit control.Once None rest memory e h = absurd (some-none (record { entry = entry; exit = exit }) h)
  perform-by entry exit (control.Times amount) None rest memory e h = absurd (some-none _ e)
  perform-by entry exit (control.Until after until) None rest memory e h = absurd (some-none _ e)
  perform-by entry exit (control.Varying after item from by until) None rest memory e h = absurd (some-none _ e)

  pub perform_led : (last : ℕ) (entry exit : ℕ) (control : Control) (rest : List Item) (memory : Memory) → ActsAlone (stmts.Perform entry exit control) last →
      loop_meant declared control (language.Performed entry exit) rest memory ≡ item_way doing (items.Do (seen last (stmts.Perform entry exit control))) rest memory
  perform_led last entry exit control rest memory plain =
      perform-by entry exit control (control_in control) rest memory refl (sym (once-performed entry exit control) ∙ plain.1)
      ∙ ap (λ s. item_way doing (items.Do s) rest memory) (sym (seen_perform last entry exit control))

  -- ---- jumps

  pub seen_led : (last : ℕ) (stmt : Stmt) (there : language.Stmt) (rest : List Item) (memory : Memory) → seen last stmt ≡ there → stmt_way doing there rest memory ≡ item_way doing (items.Do (seen last stmt)) rest memory
  seen_led last stmt there rest memory e = ap (λ s. stmt_way doing s rest memory) (sym e)

  -- ---- what is left of a loop

  tested : (until : Cond) (memory : Memory) (f : Bool → Memory → Way Memory) → OwnTest (test_of until) → tried (tests_in declared until memory) f ≡ tried (Doing.test doing (test_of until) memory) f
  tested until memory f h = ap (λ t. tried t f) (sym (test-is declared until h memory))

  steps-on : (ended : Bool) (item : Place) (by : Operand) (until : Cond) (body : language.Body) (rest : List Item) (memory : Memory) → steps_on_meant declared ended item by until body rest memory ≡ steps_on doing ended (augmented item by) (test_of until) body rest memory
  steps-on true item by until body rest memory = refl
  steps-on false item by until body rest memory = refl

  pub turn_led : (last : ℕ) (turn : LoopProgress) (body : language.Body) (rest : List Item) (memory : Memory) → standing.TurningHas OwnAct OwnTest OwnPicker (turning_seen turn) →
      turn_meant declared turn body rest memory ≡ turn_way doing (turning_seen turn) body rest memory
  turn_led last (turning.Counted turns) body rest memory h = refl
  turn_led last (turning.Tests until) body rest memory h = tested until.now memory _ h
  turn_led last (turning.Steps false item by until) body rest memory h = tested until.now memory _ h.1
  turn_led last (turning.Steps true item by until) body rest memory h =
      tried-alike (does_to declared (augmenting item.now by.now) memory) _ _ (λ u later. tested until.now later _ h.1)
  turn_led last (turning.StepsAfter item by until) body rest memory h =
      tried-alike (tests_in declared until.now memory) _ (λ ended. steps_on doing ended (augmented item.now by.now) (test_of until.now) body rest) (λ ended later. steps-on ended item.now by.now until.now body rest later)
      ∙ tested until.now memory _ h.1

  -- ---- arms of the code

  pub if_answered : (stmt : Stmt) (cond : Cond) (met unmet met_now unmet_now : List Stmt) (result : Result ActOutcome NoMemory) (old_frames new_frames : List Frame) (old new : Held) → stmt ≡ stmts.If cond met unmet → met_now ≡ met → unmet_now ≡ unmet →
      IfOk result (λ way. Leads way old_frames new_frames old new (λ last rest memory. tried (tests_in declared cond memory) (λ holds. on (before (seen_stmts last (if holds then met_now else unmet_now)) rest)))) →
      IfOk result (λ way. LeadsWhere (ActsAlone stmt) way old_frames new_frames old new (λ last rest memory. item_way doing (items.Do (seen last stmt)) rest memory))
  if_answered stmt cond met unmet met_now unmet_now result old_frames new_frames old new is m u h =
      subst (λ s. IfOk result (λ way. LeadsWhere (ActsAlone s) way old_frames new_frames old new (λ last rest memory. item_way doing (items.Do (seen last s)) rest memory))) (sym is)
      (led (ActsAlone (stmts.If cond met unmet)) result old_frames new_frames old new
      (λ last rest memory. tried (tests_in declared cond memory) (λ holds. on (before (seen_stmts last (if holds then met_now else unmet_now)) rest)))
      (λ last rest memory. item_way doing (items.Do (seen last (stmts.If cond met unmet))) rest memory)
      (λ last rest memory plain. ap (λ (x : List Stmt). tried (tests_in declared cond memory) (λ holds. on (before (seen_stmts last (if holds then x else unmet_now)) rest))) m
      ∙ ap (λ (x : List Stmt). tried (tests_in declared cond memory) (λ holds. on (before (seen_stmts last (if holds then met else x)) rest))) u
      ∙ if_led last cond met unmet rest memory plain) h)

  pub evaluate_answered : (stmt : Stmt) (subject : Subject) (whens whens_now : List When) (other : Option (List Stmt)) (result : Result ActOutcome NoMemory) (old_frames new_frames : List Frame) (old new : Held) → stmt ≡ stmts.Evaluate subject whens other → whens_now ≡ whens →
      IfOk result (λ way. Leads way old_frames new_frames old new (λ last rest memory. tried (chooses_in declared (language.Evaluate subject (map (λ when. (out-When when).tests) whens_now) (is_some other)) memory) (λ arm. on (before (seen_stmts last (arm_at whens_now other arm)) rest)))) →
      IfOk result (λ way. LeadsWhere (ActsAlone stmt) way old_frames new_frames old new (λ last rest memory. item_way doing (items.Do (seen last stmt)) rest memory))
  evaluate_answered stmt subject whens whens_now other result old_frames new_frames old new is w h =
      subst (λ s. IfOk result (λ way. LeadsWhere (ActsAlone s) way old_frames new_frames old new (λ last rest memory. item_way doing (items.Do (seen last s)) rest memory))) (sym is)
      (led (ActsAlone (stmts.Evaluate subject whens other)) result old_frames new_frames old new
      (λ last rest memory. tried (chooses_in declared (language.Evaluate subject (map (λ when. (out-When when).tests) whens_now) (is_some other)) memory) (λ arm. on (before (seen_stmts last (arm_at whens_now other arm)) rest)))
      (λ last rest memory. item_way doing (items.Do (seen last (stmts.Evaluate subject whens other))) rest memory)
      (λ last rest memory plain. ap (λ list. tried (chooses_in declared (language.Evaluate subject (map (λ when. (out-When when).tests) list) (is_some other)) memory) (λ arm. on (before (seen_stmts last (arm_at list other arm)) rest))) w
      ∙ evaluate_led last subject whens other rest memory plain) h)

  pub loop_answered : (stmt : Stmt) (control : Control) (body body_now : List Stmt) (result : Result ActOutcome NoMemory) (old_frames new_frames : List Frame) (old new : Held) → stmt ≡ stmts.Loop control body → body_now ≡ body →
      IfOk result (λ way. Leads way old_frames new_frames old new (λ last rest memory. loop_meant declared control (language.Nested (seen_stmts last body_now)) rest memory)) →
      IfOk result (λ way. LeadsWhere (ActsAlone stmt) way old_frames new_frames old new (λ last rest memory. item_way doing (items.Do (seen last stmt)) rest memory))
  loop_answered stmt control body body_now result old_frames new_frames old new is b h =
      led (ActsAlone stmt) result old_frames new_frames old new
      (λ last rest memory. loop_meant declared control (language.Nested (seen_stmts last body_now)) rest memory)
      (λ last rest memory. item_way doing (items.Do (seen last stmt)) rest memory)
      (λ last rest memory alone. ap (λ (x : List Stmt). loop_meant declared control (language.Nested (seen_stmts last x)) rest memory) b
      ∙ loop_led last control body rest memory
      ∙ ap (λ s. item_way doing (items.Do (seen last s)) rest memory) (sym is)) h

  pub alone_answered : (stmt : Stmt) (calc : Calc) (into : List Target) (arms : Arms) (result : Result ActOutcome NoMemory) (frames : List Frame) (old new : Held) → stmt ≡ stmts.Arith calc into arms → has_arms arms ≡ false →
      IfOk result (λ way. (world : World) (rest : List Item) → way_seen way new.shown (memory_in new.store world) rest ≡ tried (does_to declared stmt (memory_in old.store world)) (λ u. on rest)) →
      IfOk result (λ way. LeadsWhere (ActsAlone stmt) way frames frames old new (λ last rest memory. item_way doing (items.Do (seen last stmt)) rest memory))
  alone_answered stmt calc into arms result frames old new is none h =
      led_beside (ActsAlone stmt) result frames old new
      (λ rest memory. tried (does_to declared stmt memory) (λ u. on rest))
      (λ last rest memory. item_way doing (items.Do (seen last stmt)) rest memory)
      (λ last rest memory plain. subst (λ s. tried (does_to declared s memory) (λ u. on rest) ≡ item_way doing (items.Do (seen last s)) rest memory) (sym is) (arith_alone_led last calc into arms none rest memory (subst (λ s. ActsAlone s last) is plain))) h

pub once_seen : (last entry exit : ℕ) → seen last (stmts.Perform entry exit control.Once) ≡ language.Perform entry exit
once_seen last entry exit = seen_perform last entry exit control.Once
