-- Each part of a source that can be printed may be written, where what can be printed may be.
use Rattle.std.proofs.Common.{◌≡◌, ℕ, zero, suc, Bool, true, false, ◌&&◌, List, [], ◌∷◌, map, Option, Some, None, refl, ap, sym, ◌∙◌, subst, inl}
use Rattle.std.proofs.lemmas.Bool.{and_parts}
use Rattle.cob_tree.specs.declared.calc.Calc.{Calc}
use Rattle.cob_tree.specs.declared.calc.Target.{Target}
use Rattle.cob_tree.specs.declared.choice.Test.{Test}
use Rattle.cob_tree.specs.declared.cond.Cond.{Cond, ind-Cond, map-Cond, roll-Cond, fold-roll-Cond}
use Rattle.cob_tree.specs.declared.cond.Cond.TheOpen.{Cond-F}
use Rattle.cob_tree.specs.declared.cond.Cond.TheVariants as conds
use Rattle.cob_tree.specs.declared.cond.Rel.{Rel}
use Rattle.cob_tree.specs.declared.cond.Rel.TheVariants.{Equal, Greater}
use Rattle.cob_tree.specs.declared.control.Control.{Control}
use Rattle.cob_tree.specs.declared.control.Control.TheVariants as turning
use Rattle.cob_tree.specs.declared.place.Expr.{fold-roll-Expr}
use Rattle.cob_tree.specs.declared.place.Expr.TheOpen.{Expr-F, Operand-F}
use Rattle.cob_tree.specs.declared.place.Figure.TheVariants.{Zero}
use Rattle.cob_tree.specs.declared.place.Operand.{Operand, roll-Operand, fold-roll-Operand}
use Rattle.cob_tree.specs.declared.place.Place.{Place}
use Rattle.cob_tree.specs.declared.program.Paragraph.{Paragraph}
use Rattle.cob_tree.specs.declared.program.Sentence.{Sentence}
use Rattle.cob_tree.specs.declared.stmt.Arms.{Arms, roll-Arms, map-Arms, fold-roll-Arms}
use Rattle.cob_tree.specs.declared.stmt.When.{When, out-When, roll-out-When, roll-When, map-When, fold-roll-When}
use Rattle.cob_tree.specs.declared.stmt.Stmt.{Stmt, ind-Stmt, map-Stmt, roll-Stmt, fold-roll-Stmt}
use Rattle.cob_tree.specs.declared.stmt.Stmt.TheOpen.{Stmt-F, Arms-F, When-F}
use Rattle.control_flow_theory.specs.language.All.{all}
use Rattle.control_flow_theory.specs.language.Language as language
use Rattle.control_flow_theory.specs.language.Control.{cell_of, number_written, setting, move_to, move_of, lowered_cell, arith_act, arith_stmt, arith_alone, setting_item, augmenting, relation_of, cell_in, number_in, Tested, tested_step, tested, zero_side, always, arm_before, else_of, stmts_of, control_in, loop_of, perform_of, test_of, picker_by, cell_chosen, count_from, tests_of, Branch, branches_before, Both, both_arms, both_step, branch_step, seen_step, seen, seen_when, seen_both, seen_stmts, seen_sentence, seen_paragraphs, section_last}
use Rattle.control_flow_theory.specs.lowering.FlowFacts.{FlowFacts}
use Rattle.control_flow_theory.specs.rendering.Rendering.{Naming, count_arms}
use Rattle.control_flow_theory.specs.rendering.Procedures.{Writable}
use Rattle.control_flow_theory.specs.expressible_graphs.Served.{ActIsServed, TestIsServed, PickerIsServed, StmtIsServed, StmtsAreServed, ArmsAreServed, ParagraphIsServed, ParagraphsAreServed}
use Rattle.program_facts.specs.well_scoped.Part.{if_any}
use Rattle.program_facts.proofs.well_scoped_lemmas.Made.{both}
use Rattle.round_trip.specs.printable.Part.{expr_step, operand_step, place_step, sub_step, window_step, is_printable_place, are_printable_places, is_printable_operand, is_printable_expr}
use Rattle.round_trip.specs.printable.Beside.{cond_step, is_printable_cond, is_printable_control, is_printable_calc, is_printable_target, is_printable_subject, is_printable_test}
use Rattle.round_trip.specs.printable.Statement.{stmt_step, arms_step, when_step, is_printable_stmt, are_printable_arms, is_printable_when, are_printable_stmts, is_printable_sentence, are_printable_sentences}
use Rattle.round_trip.specs.printable.Whole.{IsPrintableParagraph}
use Rattle.round_trip.proofs.printable_lemmas.Made as made
use Rattle.grammar_laws.specs.form_results.Giving.{Each}
use Rattle.round_trip.specs.printable.printable_control.Prints.{are_printable_tests, chooser_prints}
use Rattle.round_trip.specs.printable.printable_control.Written.{PartsServed}

four : (a b c d : Bool) → (a && b && c && d) ≡ true → (a ≡ true) × (b ≡ true) × (c ≡ true) × (d ≡ true)
four a b c d h =
    let i = and_parts (a && b && c) d h in
    let j = and_parts (a && b) c i.0 in
    let k = and_parts a b j.0 in (k.0, k.1, j.1, i.1)

-- zero is zero
zero-printable : is_printable_expr zero_side ≡ true
zero-printable =
    fold-roll-Expr Bool Bool Bool Bool Bool expr_step operand_step place_step sub_step window_step (Expr-F.Leaf (roll-Operand (Operand-F.Figure Zero)))
    ∙ fold-roll-Operand Bool Bool Bool Bool Bool expr_step operand_step place_step sub_step window_step (Operand-F.Figure Zero)

always-printable : is_printable_cond always ≡ true
always-printable = made.made-Relation zero_side Equal zero_side zero-printable zero-printable

module _ (naming : Naming) (kinds : Writable) (serves : PartsServed kinds) (told : FlowFacts) (range : language.Range) where
  abbrev Served : language.Stmt → Type 0
  Served stmt = StmtIsServed naming kinds told range stmt

  abbrev AllServed : language.Stmts → Type 0
  AllServed list = StmtsAreServed naming kinds told range list

  abbrev ArmsServed : language.Arms → Type 0
  ArmsServed arms = ArmsAreServed naming kinds told range arms

  abbrev BothServed : Both → Type 0
  BothServed two = ArmsServed (both_arms two)

  -- ---- parts

  relation-served : (cell : Option ℕ) (rel : Rel) (value : Option ℕ) (whole : Cond) → is_printable_cond whole ≡ true →
      TestIsServed naming kinds told range (relation_of cell rel value whole)
  relation-served None rel value whole h = serves.conds whole h
  relation-served (Some cell) Equal None whole h = serves.conds whole h
  relation-served (Some cell) Equal (Some value) whole h = tt
  relation-served (Some cell) Greater None whole h = serves.conds whole h
  relation-served (Some cell) Greater (Some zero) whole h = tt
  relation-served (Some cell) Greater (Some (suc value)) whole h = serves.conds whole h
  relation-served (Some cell) rel value whole h = serves.conds whole h

  -- the fold keeps the condition, and its test is served
  record KeptCond (cond : Cond) : Type 0 where
    same : (tested cond).cond ≡ cond
    is : is_printable_cond cond ≡ true → TestIsServed naming kinds told range (tested cond).test

  abbrev SuchCond : Type 0
  SuchCond = (cond : Cond) × KeptCond cond

  kept-by : (cond : Cond) (seen : Tested) → tested cond ≡ seen → seen.cond ≡ cond →
      (is_printable_cond cond ≡ true → TestIsServed naming kinds told range seen.test) → KeptCond cond
  kept-by cond seen e same is = record {
    same = ap (λ t. t.cond) e ∙ same;
    is = λ h. subst (λ (t : Tested). TestIsServed naming kinds told range t.test) (sym e) (is h);
  }

  cond-layer : (y : Cond-F SuchCond) → KeptCond (roll-Cond (map-Cond SuchCond Cond (λ e. e.0) y))
  cond-layer (Cond-F.Relation left rel right) =
      kept-by _ _ (fold-roll-Cond Tested tested_step (Cond-F.Relation left rel right)) (sym (conds.rolls-Relation left rel right))
      (λ h. relation-served (cell_in left) rel (number_in right) (conds.Relation left rel right) (ap is_printable_cond (sym (conds.rolls-Relation left rel right)) ∙ h))
  cond-layer (Cond-F.Class place kind not) =
      kept-by _ _ (fold-roll-Cond Tested tested_step (Cond-F.Class place kind not)) (sym (conds.rolls-Class place kind not))
      (λ h. serves.conds (conds.Class place kind not) (ap is_printable_cond (sym (conds.rolls-Class place kind not)) ∙ h))
  cond-layer (Cond-F.SignIs expr kind not) =
      kept-by _ _ (fold-roll-Cond Tested tested_step (Cond-F.SignIs expr kind not)) (sym (conds.rolls-SignIs expr kind not))
      (λ h. serves.conds (conds.SignIs expr kind not) (ap is_printable_cond (sym (conds.rolls-SignIs expr kind not)) ∙ h))
  cond-layer (Cond-F.Named place) =
      kept-by _ _ (fold-roll-Cond Tested tested_step (Cond-F.Named place)) (sym (conds.rolls-Named place))
      (λ h. serves.conds (conds.Named place) (ap is_printable_cond (sym (conds.rolls-Named place)) ∙ h))
  cond-layer (Cond-F.Not inner) =
      kept-by _ _ (fold-roll-Cond Tested tested_step (Cond-F.Not inner.0)) (ap conds.Not inner.1.same ∙ sym (conds.rolls-Not inner.0))
      (λ h. inner.1.is (sym (fold-roll-Cond Bool cond_step (Cond-F.Not inner.0)) ∙ h))
  cond-layer (Cond-F.And left right) =
      let same : conds.And (tested left.0).cond (tested right.0).cond ≡ conds.And left.0 right.0 =
      ap (λ c. conds.And c (tested right.0).cond) left.1.same ∙ ap (conds.And left.0) right.1.same in
      let back = same ∙ sym (conds.rolls-And left.0 right.0) in
      kept-by _ _ (fold-roll-Cond Tested tested_step (Cond-F.And left.0 right.0)) back
      (λ h. serves.conds (conds.And (tested left.0).cond (tested right.0).cond) (ap is_printable_cond back ∙ h))
  cond-layer (Cond-F.Or left right) =
      let same : conds.Or (tested left.0).cond (tested right.0).cond ≡ conds.Or left.0 right.0 =
      ap (λ c. conds.Or c (tested right.0).cond) left.1.same ∙ ap (conds.Or left.0) right.1.same in
      let back = same ∙ sym (conds.rolls-Or left.0 right.0) in
      kept-by _ _ (fold-roll-Cond Tested tested_step (Cond-F.Or left.0 right.0)) back
      (λ h. serves.conds (conds.Or (tested left.0).cond (tested right.0).cond) (ap is_printable_cond back ∙ h))

  test-is : (cond : Cond) → is_printable_cond cond ≡ true → TestIsServed naming kinds told range (test_of cond)
  test-is cond h = (ind-Cond KeptCond (λ x y is. subst (λ z. KeptCond (roll-Cond z)) is (cond-layer y)) cond).is h

  chooser-is : (chooser : language.Chooser) (count : ℕ) → chooser_prints chooser ≡ true →
      PickerIsServed naming kinds told range (language.By chooser) count
  chooser-is chooser count h = λ given as_many dead. serves.choosers chooser _ h

  picker-is : (cell : Option ℕ) (counted : Bool) (chooser : language.Chooser) (count : ℕ) → chooser_prints chooser ≡ true →
      PickerIsServed naming kinds told range (picker_by cell counted chooser) count
  picker-is (Some cell) true chooser count h = tt
  picker-is (Some cell) false chooser count h = chooser-is chooser count h
  picker-is None counted chooser count h = chooser-is chooser count h

  abbrev Acts : language.Act → Type 0
  Acts act = ActIsServed naming kinds told range act

  setting-acts : (number : Option ℕ) (from : Operand) (cell : ℕ) → Acts (setting number from cell)
  setting-acts None from cell = tt
  setting-acts (Some number) from cell = tt

  moving-acts : (cell : Option ℕ) (from : Operand) (to : Place) → is_printable_operand from ≡ true → is_printable_place to ≡ true → Acts (move_to cell from to)
  moving-acts None from to f t = serves.simples _ (made.made-Move from (to ∷ []) f (both t refl))
  moving-acts (Some cell) from to f t = setting-acts (number_written from) from cell

  move-acts : (from : Operand) (to : List Place) → is_printable_operand from ≡ true → are_printable_places to ≡ true → Acts (move_of from to)
  move-acts from [] f t = serves.simples _ (made.made-Move from [] f t)
  move-acts from (to ∷ []) f t = moving-acts (cell_of to) from to f (and_parts (is_printable_place to) true t).0
  move-acts from (to ∷ more ∷ others) f t = serves.simples _ (made.made-Move from (to ∷ more ∷ others) f t)

  alone-printable : (calc : Calc) (into : List Target) → is_printable_calc calc ≡ true → all (map is_printable_target into) ≡ true →
      is_printable_stmt (arith_alone calc into) ≡ true
  alone-printable calc into c t = made.made-Arith calc into _ c t (made.made-Arms None None refl refl)

  lowering-acts : (cell : Option ℕ) (calc : Calc) (into : List Target) → is_printable_calc calc ≡ true → all (map is_printable_target into) ≡ true →
      Acts (arith_act cell calc into)
  lowering-acts None calc into c t = serves.simples _ (alone-printable calc into c t)
  lowering-acts (Some cell) calc into c t = tt

  arith-served : (calc : Calc) (into : List Target) (first second : Option language.Stmts) → is_printable_calc calc ≡ true →
      all (map is_printable_target into) ≡ true → BothServed (record { first = first; second = second }) →
      Served (arith_stmt calc into (record { first = first; second = second }))
  arith-served calc into None None c t h = lowering-acts (lowered_cell calc into) calc into c t
  arith-served calc into None (Some second) c t h = (chooser-is (language.Arith calc into) _ (both c t), h)
  arith-served calc into (Some first) None c t h = (chooser-is (language.Arith calc into) _ (both c t), h)
  arith-served calc into (Some first) (Some second) c t h = (chooser-is (language.Arith calc into) _ (both c t), h)

  else-served : (list : List language.Stmt) → AllServed (stmts_of list) →
      ArmsServed (arm_before (else_of list) language.done)
  else-served [] h = tt
  else-served (stmt ∷ list) h = (h, tt)

  varying-served : (item : Place) (from by : Operand) → is_printable_place item ≡ true → is_printable_operand from ≡ true → is_printable_operand by ≡ true →
      Acts (setting_item item from) × Acts (language.Own (augmenting item by))
  varying-served item from by i f b = (
    serves.simples _ (made.made-Move from (item ∷ []) f (both i refl)),
    serves.simples _ (alone-printable _ _ (both b refl) (both i refl)),
  )

  loop-served : (control : Control) (body : language.Stmts) → is_printable_control control ≡ true → AllServed body →
      Served (loop_of (control_in control) body)
  loop-served turning.Once body c h = (serves.conds always always-printable, (h, tt))
  loop-served (turning.Times amount) body c h = (serves.amounts amount c, h)
  loop-served (turning.Until after until) body c h = (test-is until c, h)
  loop-served (turning.Varying after item from by until) body c h =
      let i = four (is_printable_place item) (is_printable_operand from) (is_printable_operand by) (is_printable_cond until) c in
      let v = varying-served item from by i.0 i.1 i.2 in
      ((v.0, v.1, test-is until i.3), h)

  perform-served : (control : Control) (entry exit : ℕ) → is_printable_control control ≡ true →
      Served (perform_of (control_in control) entry exit)
  perform-served turning.Once entry exit c = tt
  perform-served (turning.Times amount) entry exit c = (serves.amounts amount c, tt)
  perform-served (turning.Until after until) entry exit c = (test-is until c, tt)
  perform-served (turning.Varying after item from by until) entry exit c =
      let i = four (is_printable_place item) (is_printable_operand from) (is_printable_operand by) (is_printable_cond until) c in
      let v = varying-served item from by i.0 i.1 i.2 in
      ((v.0, v.1, test-is until i.3), tt)

  module _ (last : ℕ) where
    -- ---- statements

    abbrev Such : Stmt → Type 0
    Such stmt = is_printable_stmt stmt ≡ true → Served (seen last stmt)

    abbrev SuchTwo : Arms → Type 0
    SuchTwo arms = are_printable_arms arms ≡ true → BothServed (seen_both last arms)

    abbrev SuchOne : When → Type 0
    SuchOne when = is_printable_when when ≡ true → AllServed (seen_when last when).arm

    abbrev SuchStmt : Type 0
    SuchStmt = (stmt : Stmt) × Such stmt

    abbrev SuchArms : Type 0
    SuchArms = (arms : Arms) × SuchTwo arms

    abbrev SuchWhen : Type 0
    SuchWhen = (when : When) × SuchOne when

    abbrev plain : List SuchStmt → List Stmt
    plain list = map (λ e. e.0) list

    abbrev plain_whens : List SuchWhen → List When
    plain_whens whens = map (λ e. e.0) whens

    stmts-are : (xs : List SuchStmt) → all (map is_printable_stmt (plain xs)) ≡ true →
        AllServed (stmts_of (map (seen last) (plain xs)))
    stmts-are [] h = tt
    stmts-are (x ∷ xs) h =
        let parts = and_parts (is_printable_stmt x.0) (all (map is_printable_stmt (plain xs))) h in
        (x.1 parts.0, stmts-are xs parts.1)

    whens-are : (xs : List SuchWhen) (tail : language.Arms) →
        all (map is_printable_when (plain_whens xs)) ≡ true → ArmsServed tail →
        ArmsServed (branches_before (map (seen_when last) (plain_whens xs)) tail)
    whens-are [] tail h t = t
    whens-are (x ∷ xs) tail h t =
        let parts = and_parts (is_printable_when x.0) (all (map is_printable_when (plain_whens xs))) h in
        (x.1 parts.0, whens-are xs tail parts.1 t)

    when-tests : (when : When) → is_printable_when when ≡ true → are_printable_tests (seen_when last when).tests ≡ true
    when-tests when h =
        let y = out-When when in
        let same = roll-out-When when in
        let told = sym (fold-roll-When Bool Bool Bool stmt_step arms_step when_step y) ∙ (ap is_printable_when same ∙ h) in
        ap (λ (b : Branch). are_printable_tests b.tests) (ap (seen_when last) (sym same) ∙ fold-roll-When language.Stmt Both Branch (seen_step last) both_step branch_step y)
        ∙ (and_parts (all (map is_printable_test y.tests)) (all (map is_printable_stmt y.stmts)) told).0

    tests-print : (whens : List When) → all (map is_printable_when whens) ≡ true → all (map are_printable_tests (tests_of (map (seen_when last) whens))) ≡ true
    tests-print [] h = refl
    tests-print (when ∷ whens) h =
        let parts = and_parts (is_printable_when when) (all (map is_printable_when whens)) h in both (when-tests when parts.0) (tests-print whens parts.1)

    abbrev mapped : Stmt-F SuchStmt SuchArms SuchWhen → Stmt-F Stmt Arms When
    mapped =
        map-Stmt SuchStmt SuchArms SuchWhen Stmt Arms When (λ e. e.0) (λ e. e.0) (λ e. e.0)

    abbrev shown : Stmt-F Stmt Arms When → language.Stmt
    shown y = seen_step last
        (map-Stmt Stmt Arms When language.Stmt Both Branch (seen last) (seen_both last)
        (seen_when last) y)

    abbrev asked : Stmt-F Stmt Arms When → Bool
    asked y = stmt_step
        (map-Stmt Stmt Arms When Bool Bool Bool is_printable_stmt are_printable_arms is_printable_when y)

    step-is : (y : Stmt-F SuchStmt SuchArms SuchWhen) → asked (mapped y) ≡ true →
        Served (shown (mapped y))
    step-is (Stmt-F.Display items advance) h = serves.simples _ (made.made-Display items advance h)
    step-is (Stmt-F.Move from to) h =
        let parts = and_parts (is_printable_operand from) (are_printable_places to) h in move-acts from to parts.0 parts.1
    step-is (Stmt-F.Arith calc into arms) h =
        let two = seen_both last arms.0 in
        let parts = and_parts (is_printable_calc calc && all (map is_printable_target into)) (are_printable_arms arms.0) h in
        let front = and_parts (is_printable_calc calc) (all (map is_printable_target into)) parts.0 in
        arith-served calc into two.first two.second front.0 front.1 (arms.1 parts.1)
    step-is (Stmt-F.SetTrue place) h = serves.simples _ (made.made-SetTrue place h)
    step-is (Stmt-F.Opens openings) h = serves.simples _ (made.made-Opens openings)
    step-is (Stmt-F.Closes files) h = serves.simples _ (made.made-Closes files)
    step-is (Stmt-F.Read file into arms) h =
        let parts = and_parts (if_any is_printable_place into) (are_printable_arms arms.0) h in
        (chooser-is (language.Read file into _) _ parts.0, arms.1 parts.1)
    step-is (Stmt-F.Write entry from) h = serves.simples _ (made.made-Write entry from h)
    step-is (Stmt-F.Rewrite entry from) h = serves.simples _ (made.made-Rewrite entry from h)
    step-is (Stmt-F.If cond met unmet) h =
        let parts = and_parts (is_printable_cond cond && all (map is_printable_stmt (plain met))) (all (map is_printable_stmt (plain unmet))) h in
        let front = and_parts (is_printable_cond cond) (all (map is_printable_stmt (plain met))) parts.0 in (
          test-is cond front.0,
          (
            stmts-are met front.1,
            else-served (map (seen last) (plain unmet)) (stmts-are unmet parts.1),
          ),
        )
    step-is (Stmt-F.Evaluate subject whens None) h =
        let parts = and_parts (is_printable_subject subject && all (map is_printable_when (plain_whens whens))) true h in
        let front = and_parts (is_printable_subject subject) (all (map is_printable_when (plain_whens whens))) parts.0 in
        let branches = map (seen_when last) (plain_whens whens) in
        let behind = language.missing language.done in (
          picker-is (cell_chosen subject) (count_from 1 (tests_of branches)) (language.Evaluate subject (tests_of branches) false)
              (count_arms (branches_before branches behind)) (both front.0 (tests-print (plain_whens whens) front.1)),
          whens-are whens behind front.1 tt,
        )
    step-is (Stmt-F.Evaluate subject whens (Some other)) h =
        let parts = and_parts (is_printable_subject subject && all (map is_printable_when (plain_whens whens))) (all (map is_printable_stmt (plain other))) h in
        let front = and_parts (is_printable_subject subject) (all (map is_printable_when (plain_whens whens))) parts.0 in
        let branches = map (seen_when last) (plain_whens whens) in
        let behind = language.given (stmts_of (map (seen last) (plain other))) language.done in (
          picker-is (cell_chosen subject) (count_from 1 (tests_of branches)) (language.Evaluate subject (tests_of branches) true)
              (count_arms (branches_before branches behind)) (both front.0 (tests-print (plain_whens whens) front.1)),
          whens-are whens behind front.1 (stmts-are other parts.1, tt),
        )
    step-is (Stmt-F.Loop control body) h =
        let parts = and_parts (is_printable_control control) (all (map is_printable_stmt (plain body))) h in
        loop-served control (stmts_of (map (seen last) (plain body))) parts.0 (stmts-are body parts.1)
    step-is (Stmt-F.Perform entry exit control) h = perform-served control entry exit h
    step-is (Stmt-F.Go to) h = tt
    step-is (Stmt-F.GoDepending to on) h = chooser-is (language.Depending on _) _ h
    step-is Stmt-F.NextSentence h = tt
    step-is Stmt-F.StopRun h = tt
    step-is Stmt-F.Exit h = serves.simples _ made.made-Exit
    step-is Stmt-F.ExitParagraph h = tt
    step-is Stmt-F.ExitSection h = tt
    step-is (Stmt-F.ExitPerform cycle) h = tt
    step-is Stmt-F.Continue h = serves.simples _ made.made-Continue

    stmt-layer : (y : Stmt-F SuchStmt SuchArms SuchWhen) → Such (roll-Stmt (mapped y))
    stmt-layer y h =
        let begun =
        fold-roll-Stmt Bool Bool Bool stmt_step arms_step when_step (mapped y) in
        subst Served (sym
        (fold-roll-Stmt language.Stmt Both Branch (seen_step last) both_step branch_step (mapped y)))
        (step-is y (sym begun ∙ h))

    abbrev mapped_arms : Arms-F SuchStmt SuchArms SuchWhen → Arms-F Stmt Arms When
    mapped_arms =
        map-Arms SuchStmt SuchArms SuchWhen Stmt Arms When (λ e. e.0) (λ e. e.0) (λ e. e.0)

    abbrev shown_arms : Arms-F Stmt Arms When → Both
    shown_arms arms = both_step (map-Arms Stmt Arms When language.Stmt Both Branch
        (seen last) (seen_both last) (seen_when last) arms)

    abbrev tested_arms : Arms-F Stmt Arms When → Bool
    tested_arms arms = arms_step
        (map-Arms Stmt Arms When Bool Bool Bool is_printable_stmt are_printable_arms is_printable_when arms)

    arms-are : (first second : Option (List SuchStmt)) →
        let y = mapped_arms (record { first = first; second = second }) in
        tested_arms y ≡ true → BothServed (shown_arms y)
    arms-are None None h = tt
    arms-are None (Some second) h = (stmts-are second h, tt)
    arms-are (Some first) None h =
        let parts = and_parts (all (map is_printable_stmt (plain first))) true h in
        (stmts-are first parts.0, tt)
    arms-are (Some first) (Some second) h =
        let parts = and_parts (all (map is_printable_stmt (plain first)))
        (all (map is_printable_stmt (plain second))) h in
        (stmts-are first parts.0, (stmts-are second parts.1, tt))

    arms-layer : (first second : Option (List SuchStmt)) →
        SuchTwo (roll-Arms (mapped_arms (record { first = first; second = second })))
    arms-layer first second h =
        let y = mapped_arms (record { first = first; second = second }) in
        let begun = fold-roll-Arms Bool Bool Bool stmt_step arms_step when_step y in
        subst BothServed
        (sym (fold-roll-Arms language.Stmt Both Branch (seen_step last) both_step branch_step y))
        (arms-are first second (sym begun ∙ h))

    when-layer : (tests : List Test) (list : List SuchStmt) →
        SuchOne (roll-When (map-When SuchStmt SuchArms SuchWhen Stmt Arms When
        (λ e. e.0) (λ e. e.0) (λ e. e.0) (record { tests = tests; stmts = list })))
    when-layer tests list h =
        let y : When-F Stmt Arms When = record { tests = tests; stmts = plain list } in
        let begun = fold-roll-When Bool Bool Bool stmt_step arms_step when_step y in
        subst (λ (b : Branch). AllServed b.arm)
        (sym (fold-roll-When language.Stmt Both Branch (seen_step last) both_step branch_step y))
        (stmts-are list (and_parts (all (map is_printable_test tests)) (all (map is_printable_stmt (plain list))) (sym begun ∙ h)).1)

    stmt-is : (stmt : Stmt) → Such stmt
    stmt-is stmt =
        ind-Stmt Such SuchTwo SuchOne
        (λ x y is. subst (λ z. Such (roll-Stmt z)) is (stmt-layer y))
        (λ x y is. subst (λ z. SuchTwo (roll-Arms z)) is (arms-layer y.first y.second))
        (λ x y is. subst (λ z. SuchOne (roll-When z)) is (when-layer y.tests y.stmts)) stmt

    list-is : (list : List Stmt) → are_printable_stmts list ≡ true → AllServed (seen_stmts last list)
    list-is [] h = tt
    list-is (stmt ∷ list) h =
        let parts = and_parts (is_printable_stmt stmt) (are_printable_stmts list) h in
        (stmt-is stmt parts.0, list-is list parts.1)

    -- ---- sentences

    sentences-are : (sentences : List Sentence) → are_printable_sentences sentences ≡ true →
        ParagraphIsServed naming kinds told range (map (seen_sentence last) sentences)
    sentences-are [] h = tt
    sentences-are (sentence ∷ sentences) h =
        let parts = and_parts (is_printable_sentence sentence) (are_printable_sentences sentences) h in
        (inl (list-is sentence.stmts parts.0), sentences-are sentences parts.1)

  pub paragraphs-are : (number : ℕ) (paragraphs : List Paragraph) → Each IsPrintableParagraph paragraphs →
      ParagraphsAreServed naming kinds told range (seen_paragraphs number paragraphs)
  paragraphs-are number [] h = tt
  paragraphs-are number (paragraph ∷ others) h = (
    sentences-are (section_last number others) paragraph.sentences h.0.sentences,
    paragraphs-are (suc number) others h.1,
  )
