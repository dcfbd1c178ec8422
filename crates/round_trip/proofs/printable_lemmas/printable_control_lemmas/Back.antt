-- Where the control of statements can be printed, so can they.
use Rattle.std.proofs.Common.{◌≡◌, ℕ, Bool, true, false, ◌&&◌, List, [], ◌∷◌, map, Option, Some, None, refl, ap, sym, ◌∙◌, subst}
use Rattle.std.proofs.lemmas.Bool.{and_parts}
use Rattle.cob_tree.specs.declared.calc.Calc.{Calc}
use Rattle.cob_tree.specs.declared.calc.Calc.TheVariants as calcs
use Rattle.cob_tree.specs.declared.cond.Cond.{Cond}
use Rattle.cob_tree.specs.declared.control.Control.{Control}
use Rattle.cob_tree.specs.declared.control.Control.TheVariants as turning
use Rattle.cob_tree.specs.declared.place.Operand.{Operand}
use Rattle.cob_tree.specs.declared.place.Place.{Place}
use Rattle.cob_tree.specs.declared.calc.Target.{Target}
use Rattle.cob_tree.specs.declared.choice.Test.{Test}
use Rattle.cob_tree.specs.declared.stmt.Arms.{Arms, roll-Arms, map-Arms, fold-roll-Arms}
use Rattle.cob_tree.specs.declared.stmt.When.{When, roll-When, map-When, fold-roll-When}
use Rattle.cob_tree.specs.declared.stmt.Stmt.{Stmt, ind-Stmt, map-Stmt, roll-Stmt, fold-roll-Stmt}
use Rattle.cob_tree.specs.declared.stmt.Stmt.TheOpen.{Stmt-F, Arms-F, When-F}
use Rattle.cob_tree.specs.declared.stmt.Stmt.TheVariants as stmts
use Rattle.control_flow_theory.specs.language.All.{all}
use Rattle.control_flow_theory.specs.language.Language as language
use Rattle.control_flow_theory.specs.language.Control.{cell_of, number_written, setting, move_to, move_of, bare, lowered_cell, arith_act, picker_by, cell_chosen, count_from, tests_of, setting_item, augmenting, perform_of, test_of, arith_stmt, arm_before, else_of, stmts_of, control_in, loop_of, Branch, branches_before, Both, both_arms, both_step, branch_step, seen_step, seen, seen_when, seen_both, seen_stmts}
use Rattle.program_facts.proofs.well_scoped_lemmas.Made.{both}
use Rattle.program_facts.specs.well_scoped.Part.{if_any}
use Rattle.round_trip.specs.printable.Part.{is_printable_place, are_printable_places, is_printable_operand, are_printable_operands}
use Rattle.round_trip.specs.printable.Beside.{is_printable_cond, is_printable_control, is_printable_calc, is_printable_target, is_printable_subject}
use Rattle.round_trip.specs.printable.Statement.{stmt_step, arms_step, when_step, is_printable_stmt, are_printable_arms, is_printable_when, are_printable_stmts}
use Rattle.round_trip.proofs.printable_lemmas.Made as made
use Rattle.control_flow_theory.proofs.language_lemmas.Conditions.{cond-back}
use Rattle.control_flow_theory.proofs.language_lemmas.Unseen.{cond_of}
use Rattle.control_flow_theory.specs.language.Own.{OwnTest}
use Rattle.round_trip.specs.printable.printable_control.Prints.{are_printable_tests, chooser_prints, ActPrints, TestPrints, PickerPrints, StmtPrints, StmtsPrint, ArmsPrint}

abbrev BothPrint : Both → Type 0
BothPrint two = ArmsPrint (both_arms two)

-- ---- single statements, by what their parts are asked

out-is : (y : Stmt-F Stmt Arms When) → is_printable_stmt (roll-Stmt y) ≡ stmt_step (map-Stmt Stmt Arms When Bool Bool Bool is_printable_stmt are_printable_arms is_printable_when y)
out-is y = fold-roll-Stmt Bool Bool Bool stmt_step arms_step when_step y

display-is : (items : List Operand) (advance : Bool) → is_printable_stmt (stmts.Display items advance) ≡ true → are_printable_operands items ≡ true
display-is items advance h = sym (out-is (Stmt-F.Display items advance)) ∙ (ap is_printable_stmt (stmts.rolls-Display items advance) ∙ h)

move-is : (from : Operand) (to : List Place) → is_printable_stmt (stmts.Move from to) ≡ true → (is_printable_operand from && are_printable_places to) ≡ true
move-is from to h = sym (out-is (Stmt-F.Move from to)) ∙ (ap is_printable_stmt (stmts.rolls-Move from to) ∙ h)

arith-is : (calc : Calc) (into : List Target) (arms : Arms) → is_printable_stmt (stmts.Arith calc into arms) ≡ true →
    (is_printable_calc calc && all (map is_printable_target into) && are_printable_arms arms) ≡ true
arith-is calc into arms h = sym (out-is (Stmt-F.Arith calc into arms)) ∙ (ap is_printable_stmt (stmts.rolls-Arith calc into arms) ∙ h)

set-is : (place : Place) → is_printable_stmt (stmts.SetTrue place) ≡ true → is_printable_place place ≡ true
set-is place h = sym (out-is (Stmt-F.SetTrue place)) ∙ (ap is_printable_stmt (stmts.rolls-SetTrue place) ∙ h)

write-is : (entry : ℕ) (from : Option Operand) → is_printable_stmt (stmts.Write entry from) ≡ true → if_any is_printable_operand from ≡ true
write-is entry from h = sym (out-is (Stmt-F.Write entry from)) ∙ (ap is_printable_stmt (stmts.rolls-Write entry from) ∙ h)

rewrite-is : (entry : ℕ) (from : Option Operand) → is_printable_stmt (stmts.Rewrite entry from) ≡ true → if_any is_printable_operand from ≡ true
rewrite-is entry from h = sym (out-is (Stmt-F.Rewrite entry from)) ∙ (ap is_printable_stmt (stmts.rolls-Rewrite entry from) ∙ h)

-- ---- tests

own-test : (test : language.Test) → TestPrints test → OwnTest test
own-test (language.Holds cond) h = tt
own-test (language.Not test) h = own-test test h
own-test (language.Is cell value) h = absurd h
own-test (language.Above cell) h = absurd h

cond-prints : (test : language.Test) → TestPrints test → is_printable_cond (cond_of test) ≡ true
cond-prints (language.Holds cond) h = h
cond-prints (language.Not test) h = made.made-Not (cond_of test) (cond-prints test h)
cond-prints (language.Is cell value) h = absurd h
cond-prints (language.Above cell) h = absurd h

test-prints : (cond : Cond) → TestPrints (test_of cond) → is_printable_cond cond ≡ true
test-prints cond h = subst (λ c. is_printable_cond c ≡ true) (cond-back cond (own-test (test_of cond) h)) (cond-prints (test_of cond) h)

-- ---- moves, arithmetic and choices

-- a MOVE to one item, by the number that it writes
abbrev moving_to : (number cell : Option ℕ) → Operand → Place → language.Act
moving_to number None from to = language.Own (stmts.Move from (to ∷ []))
moving_to number (Some cell) from to = setting number from cell

moving-prints : (number cell : Option ℕ) (from : Operand) (to : Place) → ActPrints (moving_to number cell from to) →
    (is_printable_operand from && are_printable_places (to ∷ [])) ≡ true
moving-prints number None from to h = move-is from (to ∷ []) h
moving-prints None (Some cell) from to h = absurd h
moving-prints (Some value) (Some cell) from to h = absurd h

move-prints : (from : Operand) (to : List Place) → ActPrints (move_of from to) → (is_printable_operand from && are_printable_places to) ≡ true
move-prints from [] h = move-is from [] h
move-prints from (to ∷ []) h = moving-prints (number_written from) (cell_of to) from to (moved (cell_of to) h)
  where
    moved : (cell : Option ℕ) → ActPrints (move_to cell from to) → ActPrints (moving_to (number_written from) cell from to)
    moved None h = h
    moved (Some cell) h = h
move-prints from (to ∷ more ∷ others) h = move-is from (to ∷ more ∷ others) h

lowering-prints : (cell : Option ℕ) (calc : Calc) (into : List Target) → ActPrints (arith_act cell calc into) →
    (is_printable_calc calc && all (map is_printable_target into)) ≡ true
lowering-prints None calc into h = (and_parts _ (are_printable_arms bare) (arith-is calc into bare h)).0
lowering-prints (Some cell) calc into h = absurd h

arith-prints : (calc : Calc) (into : List Target) (first second : Option language.Stmts) →
    StmtPrints (arith_stmt calc into (record { first = first; second = second })) →
    ((is_printable_calc calc && all (map is_printable_target into)) ≡ true) × BothPrint (record { first = first; second = second })
arith-prints calc into None None h = (lowering-prints (lowered_cell calc into) calc into h, tt)
arith-prints calc into None (Some second) h = h
arith-prints calc into (Some first) None h = h
arith-prints calc into (Some first) (Some second) h = h

picker-prints : (cell : Option ℕ) (counted : Bool) (chooser : language.Chooser) → PickerPrints (picker_by cell counted chooser) → chooser_prints chooser ≡ true
picker-prints (Some cell) true chooser h = absurd h
picker-prints (Some cell) false chooser h = h
picker-prints None counted chooser h = h

else-prints : (stmts : List language.Stmt) → ArmsPrint (arm_before (else_of stmts) language.done) →
    StmtsPrint (stmts_of stmts)
else-prints [] h = tt
else-prints (stmt ∷ stmts) h = h.0

four : {a b c d : Bool} → a ≡ true → b ≡ true → c ≡ true → d ≡ true → (a && b && c && d) ≡ true
four h i j k = both (both (both h i) j) k

varying-prints : (item : Place) (from by : Operand) (until : Cond) → ActPrints (setting_item item from) → ActPrints (language.Own (augmenting item by)) →
    TestPrints (test_of until) → (is_printable_place item && is_printable_operand from && is_printable_operand by && is_printable_cond until) ≡ true
varying-prints item from by until s a t =
    let set = and_parts (is_printable_operand from) (are_printable_places (item ∷ [])) (move-is from (item ∷ []) s) in
    let add = and_parts _ (are_printable_arms bare) (arith-is (calcs.Add (by ∷ [])) (record { place = item; rounded = false } ∷ []) bare a) in
    let parts = and_parts (are_printable_operands (by ∷ [])) (all (map is_printable_target (record { place = item; rounded = false } ∷ []))) add.0 in
    four (and_parts (is_printable_place item) true set.1).0 set.0 (and_parts (is_printable_operand by) true parts.0).0 (test-prints until t)

loop-prints : (control : Control) (body : language.Stmts) →
    StmtPrints (loop_of (control_in control) body) → (is_printable_control control ≡ true) × StmtsPrint body
loop-prints turning.Once body h = (refl, h.1.0)
loop-prints (turning.Times amount) body h = h
loop-prints (turning.Until after until) body h = (test-prints until h.0, h.1)
loop-prints (turning.Varying after item from by until) body h = (varying-prints item from by until h.0.0 h.0.1 h.0.2, h.1)

perform-prints : (control : Control) (entry exit : ℕ) → StmtPrints (perform_of (control_in control) entry exit) → is_printable_control control ≡ true
perform-prints turning.Once entry exit h = refl
perform-prints (turning.Times amount) entry exit h = h.0
perform-prints (turning.Until after until) entry exit h = test-prints until h.0
perform-prints (turning.Varying after item from by until) entry exit h = varying-prints item from by until h.0.0 h.0.1 h.0.2

module _ (last : ℕ) where
  abbrev Such : Stmt → Type 0
  Such stmt = StmtPrints (seen last stmt) → is_printable_stmt stmt ≡ true

  abbrev SuchTwo : Arms → Type 0
  SuchTwo arms = BothPrint (seen_both last arms) → are_printable_arms arms ≡ true

  abbrev SuchOne : When → Type 0
  SuchOne when = are_printable_tests (seen_when last when).tests ≡ true → StmtsPrint (seen_when last when).arm → is_printable_when when ≡ true

  abbrev SuchStmt : Type 0
  SuchStmt = (stmt : Stmt) × Such stmt

  abbrev SuchArms : Type 0
  SuchArms = (arms : Arms) × SuchTwo arms

  abbrev SuchWhen : Type 0
  SuchWhen = (when : When) × SuchOne when

  abbrev plain : List SuchStmt → List Stmt
  plain list = map (λ e. e.0) list

  abbrev plain_whens : List SuchWhen → List When
  plain_whens whens = map (λ e. e.0) whens

  stmts-are : (xs : List SuchStmt) → StmtsPrint (stmts_of (map (seen last) (plain xs))) →
      all (map is_printable_stmt (plain xs)) ≡ true
  stmts-are [] h = refl
  stmts-are (x ∷ xs) h = both (x.1 h.0) (stmts-are xs h.1)

  whens-are : (xs : List SuchWhen) (tail : language.Arms) → all (map are_printable_tests (tests_of (map (seen_when last) (plain_whens xs)))) ≡ true →
      ArmsPrint (branches_before (map (seen_when last) (plain_whens xs)) tail) →
      (all (map is_printable_when (plain_whens xs)) ≡ true) × ArmsPrint tail
  whens-are [] tail t h = (refl, h)
  whens-are (x ∷ xs) tail t h =
      let parts = and_parts (are_printable_tests (seen_when last x.0).tests) (all (map are_printable_tests (tests_of (map (seen_when last) (plain_whens xs))))) t in
      let behind = whens-are xs tail parts.1 h.1 in
      (both (x.1 parts.0 h.0) behind.0, behind.1)

  abbrev mapped : Stmt-F SuchStmt SuchArms SuchWhen → Stmt-F Stmt Arms When
  mapped = map-Stmt SuchStmt SuchArms SuchWhen Stmt Arms When (λ e. e.0) (λ e. e.0) (λ e. e.0)

  abbrev shown : Stmt-F Stmt Arms When → language.Stmt
  shown y = seen_step last
      (map-Stmt Stmt Arms When language.Stmt Both Branch (seen last) (seen_both last) (seen_when last) y)

  abbrev told : Stmt-F Stmt Arms When → Bool
  told y = stmt_step
      (map-Stmt Stmt Arms When Bool Bool Bool is_printable_stmt are_printable_arms is_printable_when y)

  step-is : (y : Stmt-F SuchStmt SuchArms SuchWhen) → StmtPrints (shown (mapped y)) →
      told (mapped y) ≡ true
  step-is (Stmt-F.Display items advance) h = display-is items advance h
  step-is (Stmt-F.Move from to) h = move-prints from to h
  step-is (Stmt-F.Arith calc into arms) h =
      let two = seen_both last arms.0 in
      let found = arith-prints calc into two.first two.second h in
      both found.0 (arms.1 found.1)
  step-is (Stmt-F.SetTrue place) h = set-is place h
  step-is (Stmt-F.Opens openings) h = refl
  step-is (Stmt-F.Closes files) h = refl
  step-is (Stmt-F.Read file into arms) h = both h.0 (arms.1 h.1)
  step-is (Stmt-F.Write entry from) h = write-is entry from h
  step-is (Stmt-F.Rewrite entry from) h = rewrite-is entry from h
  step-is (Stmt-F.If cond met unmet) h =
      both (both (test-prints cond h.0) (stmts-are met h.1.0)) (stmts-are unmet (else-prints (map (seen last) (plain unmet)) h.1.1))
  step-is (Stmt-F.Evaluate subject whens None) h =
      let branches = map (seen_when last) (plain_whens whens) in
      let chooser = picker-prints (cell_chosen subject) (count_from 1 (tests_of branches)) (language.Evaluate subject (tests_of branches) false) h.0 in
      let parts = and_parts (is_printable_subject subject) (all (map are_printable_tests (tests_of branches))) chooser in
      both (both parts.0 (whens-are whens (language.missing language.done) parts.1 h.1).0) refl
  step-is (Stmt-F.Evaluate subject whens (Some other)) h =
      let branches = map (seen_when last) (plain_whens whens) in
      let chooser = picker-prints (cell_chosen subject) (count_from 1 (tests_of branches)) (language.Evaluate subject (tests_of branches) true) h.0 in
      let parts = and_parts (is_printable_subject subject) (all (map are_printable_tests (tests_of branches))) chooser in
      let behind = language.given (stmts_of (map (seen last) (plain other))) language.done in
      let found = whens-are whens behind parts.1 h.1 in
      both (both parts.0 found.0) (stmts-are other found.1.0)
  step-is (Stmt-F.Loop control body) h =
      let found = loop-prints control (stmts_of (map (seen last) (plain body))) h in
      both found.0 (stmts-are body found.1)
  step-is (Stmt-F.Perform entry exit control) h = perform-prints control entry exit h
  step-is (Stmt-F.Go to) h = refl
  step-is (Stmt-F.GoDepending to on) h = h
  step-is Stmt-F.NextSentence h = refl
  step-is Stmt-F.StopRun h = refl
  step-is Stmt-F.Exit h = refl
  step-is Stmt-F.ExitParagraph h = refl
  step-is Stmt-F.ExitSection h = refl
  step-is (Stmt-F.ExitPerform cycle) h = refl
  step-is Stmt-F.Continue h = refl

  stmt-layer : (y : Stmt-F SuchStmt SuchArms SuchWhen) → Such (roll-Stmt (mapped y))
  stmt-layer y h =
      let first =
      fold-roll-Stmt language.Stmt Both Branch (seen_step last) both_step branch_step (mapped y) in
      fold-roll-Stmt Bool Bool Bool stmt_step arms_step when_step (mapped y)
      ∙ step-is y (subst StmtPrints first h)

  abbrev mapped_arms : Arms-F SuchStmt SuchArms SuchWhen → Arms-F Stmt Arms When
  mapped_arms = map-Arms SuchStmt SuchArms SuchWhen Stmt Arms When (λ e. e.0) (λ e. e.0) (λ e. e.0)

  abbrev shown_arms : Arms-F Stmt Arms When → Both
  shown_arms arms = both_step (map-Arms Stmt Arms When language.Stmt Both Branch
      (seen last) (seen_both last) (seen_when last) arms)

  abbrev told_arms : Arms-F Stmt Arms When → Bool
  told_arms arms = arms_step
      (map-Arms Stmt Arms When Bool Bool Bool is_printable_stmt are_printable_arms is_printable_when arms)

  arms-are : (first second : Option (List SuchStmt)) →
      let y = mapped_arms (record { first = first; second = second }) in
      BothPrint (shown_arms y) → told_arms y ≡ true
  arms-are None None h = refl
  arms-are None (Some second) h = stmts-are second h.0
  arms-are (Some first) None h = both (stmts-are first h.0) refl
  arms-are (Some first) (Some second) h = both (stmts-are first h.0) (stmts-are second h.1.0)

  arms-layer : (first second : Option (List SuchStmt)) →
      SuchTwo (roll-Arms (mapped_arms (record { first = first; second = second })))
  arms-layer first second h =
      let y = mapped_arms (record { first = first; second = second }) in
      let begun = fold-roll-Arms language.Stmt Both Branch (seen_step last) both_step branch_step y in
      fold-roll-Arms Bool Bool Bool stmt_step arms_step when_step y
      ∙ arms-are first second (subst BothPrint begun h)

  when-layer : (tests : List Test) (list : List SuchStmt) →
      SuchOne (roll-When (map-When SuchStmt SuchArms SuchWhen Stmt Arms When
      (λ e. e.0) (λ e. e.0) (λ e. e.0) (record { tests = tests; stmts = list })))
  when-layer tests list t h =
      let y : When-F Stmt Arms When = record { tests = tests; stmts = plain list } in
      let begun = fold-roll-When language.Stmt Both Branch (seen_step last) both_step branch_step y in
      fold-roll-When Bool Bool Bool stmt_step arms_step when_step y
      ∙ both (subst (λ (b : Branch). are_printable_tests b.tests ≡ true) begun t) (stmts-are list (subst (λ (b : Branch). StmtsPrint b.arm) begun h))

  stmt-is : (stmt : Stmt) → Such stmt
  stmt-is stmt =
      ind-Stmt Such SuchTwo SuchOne
      (λ x y is. subst (λ z. Such (roll-Stmt z)) is (stmt-layer y))
      (λ x y is. subst (λ z. SuchTwo (roll-Arms z)) is (arms-layer y.first y.second))
      (λ x y is. subst (λ z. SuchOne (roll-When z)) is (when-layer y.tests y.stmts)) stmt

  pub all-printable : (list : List Stmt) → StmtsPrint (seen_stmts last list) →
      are_printable_stmts list ≡ true
  all-printable [] h = refl
  all-printable (stmt ∷ list) h = both (stmt-is stmt h.0) (all-printable list h.1)
