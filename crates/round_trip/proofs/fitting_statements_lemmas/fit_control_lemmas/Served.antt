-- Each part of a source whose statements fit may be written, where what passes may be.
use Rattle.std.proofs.Common.{◌≡◌, ℕ, zero, suc, Bool, true, false, ◌&&◌, List, [], ◌∷◌, map, Option, Some, None, refl, ap, sym, ◌∙◌, subst, inl}
use Rattle.std.proofs.lemmas.Bool.{and_parts}
use Rattle.cob_tree.specs.declared.calc.Calc.{Calc}
use Rattle.cob_tree.specs.declared.calc.Target.{Target}
use Rattle.cob_tree.specs.declared.choice.Test.{Test}
use Rattle.cob_tree.specs.declared.choice.Subject.{Subject}
use Rattle.cob_tree.specs.declared.cond.Cond.{Cond, ind-Cond, map-Cond, roll-Cond, fold-roll-Cond}
use Rattle.cob_tree.specs.declared.cond.Cond.TheOpen.{Cond-F}
use Rattle.cob_tree.specs.declared.cond.Cond.TheVariants as conds
use Rattle.cob_tree.specs.declared.cond.Rel.{Rel}
use Rattle.cob_tree.specs.declared.cond.Rel.TheVariants.{Equal, Greater}
use Rattle.cob_tree.specs.declared.control.Control.{Control}
use Rattle.cob_tree.specs.declared.control.Control.TheVariants as turning
use Rattle.cob_tree.specs.declared.place.Operand.{Operand}
use Rattle.cob_tree.specs.declared.place.Place.{Place}
use Rattle.cob_tree.specs.declared.program.Paragraph.{Paragraph}
use Rattle.cob_tree.specs.declared.program.Sentence.{Sentence}
use Rattle.cob_tree.specs.declared.stmt.Arms.{Arms, roll-Arms, map-Arms, fold-roll-Arms}
use Rattle.cob_tree.specs.declared.stmt.When.{When, roll-When, map-When, fold-roll-When}
use Rattle.cob_tree.specs.declared.stmt.Stmt.{Stmt, ind-Stmt, map-Stmt, roll-Stmt, fold-roll-Stmt}
use Rattle.cob_tree.specs.declared.stmt.Stmt.TheOpen.{Stmt-F, Arms-F, When-F}
use Rattle.cob_tree.specs.declared.stmt.Stmt.TheVariants as stmts
use Rattle.control_flow_theory.specs.language.All.{all}
use Rattle.control_flow_theory.specs.language.Language as language
use Rattle.control_flow_theory.specs.language.Control.{cell_of, number_written, setting, move_to, move_of, lowered_cell, arith_act, arith_stmt, arith_alone, setting_item, augmenting, relation_of, cell_in, number_in, Tested, tested_step, tested, arm_before, else_of, stmts_of, control_in, loop_of, perform_of, test_of, picker_by, cell_chosen, count_from, tests_of, Branch, branches_before, Both, both_arms, both_step, branch_step, seen_step, seen, seen_when, seen_both, seen_stmts, seen_sentence, seen_paragraphs, section_last}
use Rattle.control_flow_theory.specs.lowering.FlowFacts.{FlowFacts}
use Rattle.control_flow_theory.specs.rendering.Rendering.{Naming, count_arms}
use Rattle.control_flow_theory.specs.rendering.Procedures.{Writable}
use Rattle.control_flow_theory.specs.expressible_graphs.Served.{ActIsServed, TestIsServed, PickerIsServed, StmtIsServed, StmtsAreServed, ArmsAreServed, ParagraphIsServed, ParagraphsAreServed}
use Rattle.program_facts.specs.well_scoped.Part.{is_filled, if_any}
use Rattle.program_facts.proofs.well_scoped_lemmas.Made.{both}
use Rattle.round_trip.specs.fitting_statements.Fits.{Fits}
use Rattle.round_trip.specs.fitting_statements.Statement.{some_pass, held, fit_receiver, fit_calc, fit_control, fit_turns, fit_subject, fit_into, stmt_step, arms_step, when_step, fit_stmt, fit_arms, fit_when, are_fit_stmts, fit_sentence, are_fit_sentences, fit_paragraph, are_fit_paragraphs}
use Rattle.round_trip.specs.fitting_statements.fit_control.Fit.{without_jumps, fit_tests, fit_chooser}
use Rattle.round_trip.specs.fitting_statements.fit_control.Written.{PartsServed}
use Rattle.round_trip.proofs.fitting_statements_lemmas.fit_control_lemmas.Single.{some-names, filled-back, filled-on, calc-same, asked, out-is, is-asked, alone-fits, under, tests-fit}

module _ (fits : Fits) (naming : Naming) (kinds : Writable) (serves : PartsServed fits kinds) (told : FlowFacts) (range : language.Range) where
  abbrev Served : language.Stmt → Type 0
  Served stmt = StmtIsServed naming kinds told range stmt

  abbrev AllServed : language.Stmts → Type 0
  AllServed list = StmtsAreServed naming kinds told range list

  abbrev ArmsServed : language.Arms → Type 0
  ArmsServed arms = ArmsAreServed naming kinds told range arms

  abbrev BothServed : Both → Type 0
  BothServed two = ArmsServed (both_arms two)

  -- ---- parts

  relation-served : (cell : Option ℕ) (rel : Rel) (value : Option ℕ) (whole : Cond) → fits.cond whole ≡ true →
      TestIsServed naming kinds told range (relation_of cell rel value whole)
  relation-served None rel value whole h = serves.conds whole h
  relation-served (Some cell) Equal None whole h = serves.conds whole h
  relation-served (Some cell) Equal (Some value) whole h = tt
  relation-served (Some cell) Greater None whole h = serves.conds whole h
  relation-served (Some cell) Greater (Some zero) whole h = tt
  relation-served (Some cell) Greater (Some (suc value)) whole h = serves.conds whole h
  relation-served (Some cell) rel value whole h = serves.conds whole h

  -- the fold keeps the condition, and its test is served
  record KeptCond (cond : Cond) : Type 0 where
    same : (tested cond).cond ≡ cond
    is : fits.cond cond ≡ true → TestIsServed naming kinds told range (tested cond).test

  abbrev SuchCond : Type 0
  SuchCond = (cond : Cond) × KeptCond cond

  kept-by : (cond : Cond) (seen : Tested) → tested cond ≡ seen → seen.cond ≡ cond →
      (fits.cond cond ≡ true → TestIsServed naming kinds told range seen.test) → KeptCond cond
  kept-by cond seen e same is = record {
    same = ap (λ t. t.cond) e ∙ same;
    is = λ h. subst (λ (t : Tested). TestIsServed naming kinds told range t.test) (sym e) (is h);
  }

  cond-layer : (y : Cond-F SuchCond) → KeptCond (roll-Cond (map-Cond SuchCond Cond (λ e. e.0) y))
  cond-layer (Cond-F.Relation left rel right) =
      kept-by _ _ (fold-roll-Cond Tested tested_step (Cond-F.Relation left rel right)) (sym (conds.rolls-Relation left rel right))
      (λ h. relation-served (cell_in left) rel (number_in right) (conds.Relation left rel right) (ap fits.cond (sym (conds.rolls-Relation left rel right)) ∙ h))
  cond-layer (Cond-F.Class place kind not) =
      kept-by _ _ (fold-roll-Cond Tested tested_step (Cond-F.Class place kind not)) (sym (conds.rolls-Class place kind not))
      (λ h. serves.conds (conds.Class place kind not) (ap fits.cond (sym (conds.rolls-Class place kind not)) ∙ h))
  cond-layer (Cond-F.SignIs expr kind not) =
      kept-by _ _ (fold-roll-Cond Tested tested_step (Cond-F.SignIs expr kind not)) (sym (conds.rolls-SignIs expr kind not))
      (λ h. serves.conds (conds.SignIs expr kind not) (ap fits.cond (sym (conds.rolls-SignIs expr kind not)) ∙ h))
  cond-layer (Cond-F.Named place) =
      kept-by _ _ (fold-roll-Cond Tested tested_step (Cond-F.Named place)) (sym (conds.rolls-Named place))
      (λ h. serves.conds (conds.Named place) (ap fits.cond (sym (conds.rolls-Named place)) ∙ h))
  cond-layer (Cond-F.Not inner) =
      kept-by _ _ (fold-roll-Cond Tested tested_step (Cond-F.Not inner.0)) (ap conds.Not inner.1.same ∙ sym (conds.rolls-Not inner.0))
      (λ h. inner.1.is (serves.nots inner.0 (ap fits.cond (sym (conds.rolls-Not inner.0)) ∙ h)))
  cond-layer (Cond-F.And left right) =
      let same : conds.And (tested left.0).cond (tested right.0).cond ≡ conds.And left.0 right.0 =
      ap (λ c. conds.And c (tested right.0).cond) left.1.same ∙ ap (conds.And left.0) right.1.same in
      let back = same ∙ sym (conds.rolls-And left.0 right.0) in
      kept-by _ _ (fold-roll-Cond Tested tested_step (Cond-F.And left.0 right.0)) back
      (λ h. serves.conds (conds.And (tested left.0).cond (tested right.0).cond) (ap fits.cond back ∙ h))
  cond-layer (Cond-F.Or left right) =
      let same : conds.Or (tested left.0).cond (tested right.0).cond ≡ conds.Or left.0 right.0 =
      ap (λ c. conds.Or c (tested right.0).cond) left.1.same ∙ ap (conds.Or left.0) right.1.same in
      let back = same ∙ sym (conds.rolls-Or left.0 right.0) in
      kept-by _ _ (fold-roll-Cond Tested tested_step (Cond-F.Or left.0 right.0)) back
      (λ h. serves.conds (conds.Or (tested left.0).cond (tested right.0).cond) (ap fits.cond back ∙ h))

  test-is : (cond : Cond) → fits.cond cond ≡ true → TestIsServed naming kinds told range (test_of cond)
  test-is cond h = (ind-Cond KeptCond (λ x y is. subst (λ z. KeptCond (roll-Cond z)) is (cond-layer y)) cond).is h

  chooser-is : (chooser : language.Chooser) (count : ℕ) → fit_chooser fits chooser ≡ true →
      PickerIsServed naming kinds told range (language.By chooser) count
  chooser-is chooser count h = λ given as_many dead. serves.choosers chooser _ h

  picker-is : (cell : Option ℕ) (counted : Bool) (chooser : language.Chooser) (count : ℕ) → fit_chooser fits chooser ≡ true →
      PickerIsServed naming kinds told range (picker_by cell counted chooser) count
  picker-is (Some cell) true chooser count h = tt
  picker-is (Some cell) false chooser count h = chooser-is chooser count h
  picker-is None counted chooser count h = chooser-is chooser count h

  abbrev Acts : language.Act → Type 0
  Acts act = ActIsServed naming kinds told range act

  -- a statement without others in it doesn't jump
  single : (y : Stmt-F Stmt Arms When) (x : Stmt) → roll-Stmt y ≡ x → asked (without_jumps fits) y ≡ true → kinds.simples x ≡ true
  single y x e h = serves.simples x (is-asked (without_jumps fits) y x e ∙ h)

  setting-acts : (number : Option ℕ) (from : Operand) (cell : ℕ) → Acts (setting number from cell)
  setting-acts None from cell = tt
  setting-acts (Some number) from cell = tt

  abbrev moved : Operand → List Place → Bool
  moved from to = fits.value from && some_pass (fit_receiver fits from) to

  moving-acts : (cell : Option ℕ) (from : Operand) (to : Place) → moved from (to ∷ []) ≡ true → Acts (move_to cell from to)
  moving-acts None from to h = single (Stmt-F.Move from (to ∷ [])) _ (stmts.rolls-Move from (to ∷ [])) h
  moving-acts (Some cell) from to h = setting-acts (number_written from) from cell

  move-acts : (from : Operand) (to : List Place) → moved from to ≡ true → Acts (move_of from to)
  move-acts from [] h = single (Stmt-F.Move from []) _ (stmts.rolls-Move from []) h
  move-acts from (to ∷ []) h = moving-acts (cell_of to) from to h
  move-acts from (to ∷ more ∷ others) h = single (Stmt-F.Move from (to ∷ more ∷ others)) _ (stmts.rolls-Move from (to ∷ more ∷ others)) h

  alone-is : (calc : Calc) (into : List Target) → fit_calc fits calc into ≡ true → kinds.simples (arith_alone calc into) ≡ true
  alone-is calc into h = serves.simples _ (alone-fits (without_jumps fits) calc into (calc-same fits calc into ∙ h))

  lowering-acts : (cell : Option ℕ) (calc : Calc) (into : List Target) → fit_calc fits calc into ≡ true → Acts (arith_act cell calc into)
  lowering-acts None calc into h = alone-is calc into h
  lowering-acts (Some cell) calc into h = tt

  arith-served : (calc : Calc) (into : List Target) (first second : Option language.Stmts) → fit_calc fits calc into ≡ true →
      BothServed (record { first = first; second = second }) →
      Served (arith_stmt calc into (record { first = first; second = second }))
  arith-served calc into None None c h = lowering-acts (lowered_cell calc into) calc into c
  arith-served calc into None (Some second) c h = (chooser-is (language.Arith calc into) _ c, h)
  arith-served calc into (Some first) None c h = (chooser-is (language.Arith calc into) _ c, h)
  arith-served calc into (Some first) (Some second) c h = (chooser-is (language.Arith calc into) _ c, h)

  else-served : (list : List language.Stmt) → AllServed (stmts_of list) →
      ArmsServed (arm_before (else_of list) language.done)
  else-served [] h = tt
  else-served (stmt ∷ list) h = (h, tt)

  abbrev turned : Place → Operand → Operand → Cond → Bool
  turned item from by until = fits.number_place item && (fits.number from && (fits.number by && fits.cond until))

  varying-parts : (item : Place) (from by : Operand) (until : Cond) → turned item from by until ≡ true →
      (fits.number_place item ≡ true) × (fits.number from ≡ true) × (fits.number by ≡ true) × (fits.cond until ≡ true)
  varying-parts item from by until c =
      let i = and_parts (fits.number_place item) (fits.number from && (fits.number by && fits.cond until)) c in
      let f = and_parts (fits.number from) (fits.number by && fits.cond until) i.1 in
      let b = and_parts (fits.number by) (fits.cond until) f.1 in (i.0, f.0, b.0, b.1)

  varying-served : (item : Place) (from by : Operand) (until : Cond) → turned item from by until ≡ true →
      Acts (setting_item item from) × Acts (language.Own (augmenting item by)) × TestIsServed naming kinds told range (test_of until)
  varying-served item from by until c =
      let i = varying-parts item from by until c in (
        serves.settings item from i.0 i.1,
        alone-is _ _ (both (both i.2 refl) (both i.0 refl)),
        test-is until i.3,
      )

  loop-served : (control : Control) (body : language.Stmts) → fit_turns fits control ≡ true → AllServed body →
      Served (loop_of (control_in control) body)
  loop-served turning.Once body c h = absurd cc
  loop-served (turning.Times amount) body c h = (serves.amounts amount (and_parts (fits.whole amount) (fits.turns amount) c).0, h)
  loop-served (turning.Until after until) body c h = (test-is until c, h)
  loop-served (turning.Varying after item from by until) body c h = (varying-served item from by until c, h)

  perform-served : (control : Control) (entry exit : ℕ) → fit_control fits control ≡ true →
      Served (perform_of (control_in control) entry exit)
  perform-served turning.Once entry exit c = tt
  perform-served (turning.Times amount) entry exit c = (serves.amounts amount c, tt)
  perform-served (turning.Until after until) entry exit c = (test-is until c, tt)
  perform-served (turning.Varying after item from by until) entry exit c = (varying-served item from by until c, tt)

  module _ (last : ℕ) where
    -- ---- statements

    abbrev Such : Stmt → Type 0
    Such stmt = fit_stmt fits stmt ≡ true → Served (seen last stmt)

    abbrev SuchTwo : Arms → Type 0
    SuchTwo arms = fit_arms fits arms ≡ true → BothServed (seen_both last arms)

    abbrev SuchOne : When → Type 0
    SuchOne when = (subject : Subject) → fit_when fits when subject ≡ true → AllServed (seen_when last when).arm

    abbrev SuchStmt : Type 0
    SuchStmt = (stmt : Stmt) × Such stmt

    abbrev SuchArms : Type 0
    SuchArms = (arms : Arms) × SuchTwo arms

    abbrev SuchWhen : Type 0
    SuchWhen = (when : When) × SuchOne when

    abbrev plain : List SuchStmt → List Stmt
    plain list = map (λ e. e.0) list

    abbrev plain_whens : List SuchWhen → List When
    plain_whens whens = map (λ e. e.0) whens

    abbrev each_fit : List SuchStmt → List Bool
    each_fit list = map (fit_stmt fits) (plain list)

    stmts-are : (xs : List SuchStmt) → all (each_fit xs) ≡ true → AllServed (stmts_of (map (seen last) (plain xs)))
    stmts-are [] h = tt
    stmts-are (x ∷ xs) h =
        let parts = and_parts (fit_stmt fits x.0) (all (each_fit xs)) h in
        (x.1 parts.0, stmts-are xs parts.1)

    held-are : (xs : List SuchStmt) → held (each_fit xs) ≡ true → AllServed (stmts_of (map (seen last) (plain xs)))
    held-are xs h = stmts-are xs (and_parts (is_filled (each_fit xs)) (all (each_fit xs)) h).1

    whens-are : (subject : Subject) (xs : List SuchWhen) (tail : language.Arms) →
        all (under fits subject (plain_whens xs)) ≡ true → ArmsServed tail →
        ArmsServed (branches_before (map (seen_when last) (plain_whens xs)) tail)
    whens-are subject [] tail h t = t
    whens-are subject (x ∷ xs) tail h t =
        let parts = and_parts (fit_when fits x.0 subject) (all (under fits subject (plain_whens xs))) h in
        (x.1 subject parts.0, whens-are subject xs tail parts.1 t)

    abbrev mapped : Stmt-F SuchStmt SuchArms SuchWhen → Stmt-F Stmt Arms When
    mapped =
        map-Stmt SuchStmt SuchArms SuchWhen Stmt Arms When (λ e. e.0) (λ e. e.0) (λ e. e.0)

    abbrev shown : Stmt-F Stmt Arms When → language.Stmt
    shown y = seen_step last
        (map-Stmt Stmt Arms When language.Stmt Both Branch (seen last) (seen_both last)
        (seen_when last) y)

    -- a WHEN or more, and what stands behind them
    evaluate-served : (subject : Subject) (whens : List SuchWhen) (has_other : Bool) (tail : language.Arms) →
        (fit_subject fits subject && some_pass (λ (t : Subject → Bool). t subject) (map (fit_when fits) (plain_whens whens))) ≡ true →
        ArmsServed tail →
        let branches = map (seen_when last) (plain_whens whens) in
        PickerIsServed naming kinds told range (picker_by (cell_chosen subject) (count_from 1 (tests_of branches)) (language.Evaluate subject (tests_of branches) has_other))
        (count_arms (branches_before branches tail))
        × ArmsServed (branches_before branches tail)
    evaluate-served subject whens has_other tail h t =
        let list = plain_whens whens in
        let branches = map (seen_when last) list in
        let front = and_parts (fit_subject fits subject) (some_pass (λ (t : Subject → Bool). t subject) (map (fit_when fits) list)) h in
        let some = and_parts (is_filled (map (fit_when fits) list)) (all (under fits subject list)) front.1 in
        let filled = filled-on (λ (b : Branch). b.tests) branches (filled-on (seen_when last) list (filled-back (fit_when fits) list some.0)) in (
          picker-is (cell_chosen subject) (count_from 1 (tests_of branches)) (language.Evaluate subject (tests_of branches) has_other)
              (count_arms (branches_before branches tail)) (both front.0 (both filled (tests-fit fits last subject list some.1))),
          whens-are subject whens tail some.1 t,
        )

    step-is : (y : Stmt-F SuchStmt SuchArms SuchWhen) → asked fits (mapped y) ≡ true →
        Served (shown (mapped y))
    step-is (Stmt-F.Display items advance) h = single (Stmt-F.Display items advance) _ (stmts.rolls-Display items advance) h
    step-is (Stmt-F.Move from to) h = move-acts from to h
    step-is (Stmt-F.Arith calc into arms) h =
        let two = seen_both last arms.0 in
        let parts = and_parts (fit_calc fits calc into) (fit_arms fits arms.0) h in
        arith-served calc into two.first two.second parts.0 (arms.1 parts.1)
    step-is (Stmt-F.SetTrue place) h = single (Stmt-F.SetTrue place) _ (stmts.rolls-SetTrue place) h
    step-is (Stmt-F.Opens openings) h = single (Stmt-F.Opens openings) _ (stmts.rolls-Opens openings) h
    step-is (Stmt-F.Closes files) h = single (Stmt-F.Closes files) _ (stmts.rolls-Closes files) h
    step-is (Stmt-F.Read file into arms) h =
        let parts = and_parts (fits.file file) (if_any (fit_into fits file) into && fit_arms fits arms.0) h in
        let behind = and_parts (if_any (fit_into fits file) into) (fit_arms fits arms.0) parts.1 in
        (chooser-is (language.Read file into _) _ (both parts.0 behind.0), arms.1 behind.1)
    step-is (Stmt-F.Write entry from) h = single (Stmt-F.Write entry from) _ (stmts.rolls-Write entry from) h
    step-is (Stmt-F.Rewrite entry from) h = single (Stmt-F.Rewrite entry from) _ (stmts.rolls-Rewrite entry from) h
    step-is (Stmt-F.If cond met unmet) h =
        let parts = and_parts (fits.cond cond) (held (each_fit met) && all (each_fit unmet)) h in
        let arms = and_parts (held (each_fit met)) (all (each_fit unmet)) parts.1 in (
          test-is cond parts.0,
          (
            held-are met arms.0,
            else-served (map (seen last) (plain unmet)) (stmts-are unmet arms.1),
          ),
        )
    step-is (Stmt-F.Evaluate subject whens None) h =
        let list = plain_whens whens in
        let front = some_pass (λ (t : Subject → Bool). t subject) (map (fit_when fits) list) in
        let parts = and_parts (fit_subject fits subject) (front && true) h in
        let arms = and_parts front true parts.1 in
        evaluate-served subject whens false (language.missing language.done) (both parts.0 arms.0) tt
    step-is (Stmt-F.Evaluate subject whens (Some other)) h =
        let list = plain_whens whens in
        let front = some_pass (λ (t : Subject → Bool). t subject) (map (fit_when fits) list) in
        let parts = and_parts (fit_subject fits subject) (front && held (each_fit other)) h in
        let arms = and_parts front (held (each_fit other)) parts.1 in
        evaluate-served subject whens true (language.given (stmts_of (map (seen last) (plain other))) language.done) (both parts.0 arms.0) (held-are other arms.1, tt)
    step-is (Stmt-F.Loop control body) h =
        let parts = and_parts (fit_turns fits control) (held (each_fit body)) h in
        loop-served control (stmts_of (map (seen last) (plain body))) parts.0 (held-are body parts.1)
    step-is (Stmt-F.Perform entry exit control) h = perform-served control entry exit (and_parts (fits.range entry exit) (fit_control fits control) h).1
    step-is (Stmt-F.Go to) h = tt
    step-is (Stmt-F.GoDepending to on) h =
        let parts = and_parts (some_pass fits.label to) (fits.whole_place on) h in
        let some = and_parts (is_filled to) (all (map fits.label to)) parts.0 in
        chooser-is (language.Depending on _) _ (both (some-names to some.0) parts.1)
    step-is Stmt-F.NextSentence h = tt
    step-is Stmt-F.StopRun h = tt
    step-is Stmt-F.Exit h = single Stmt-F.Exit _ stmts.rolls-Exit refl
    step-is Stmt-F.ExitParagraph h = tt
    step-is Stmt-F.ExitSection h = tt
    step-is (Stmt-F.ExitPerform cycle) h = tt
    step-is Stmt-F.Continue h = single Stmt-F.Continue _ stmts.rolls-Continue refl

    stmt-layer : (y : Stmt-F SuchStmt SuchArms SuchWhen) → Such (roll-Stmt (mapped y))
    stmt-layer y h =
        subst Served (sym
        (fold-roll-Stmt language.Stmt Both Branch (seen_step last) both_step branch_step (mapped y)))
        (step-is y (sym (out-is fits (mapped y)) ∙ h))

    abbrev mapped_arms : Arms-F SuchStmt SuchArms SuchWhen → Arms-F Stmt Arms When
    mapped_arms =
        map-Arms SuchStmt SuchArms SuchWhen Stmt Arms When (λ e. e.0) (λ e. e.0) (λ e. e.0)

    abbrev shown_arms : Arms-F Stmt Arms When → Both
    shown_arms arms = both_step (map-Arms Stmt Arms When language.Stmt Both Branch
        (seen last) (seen_both last) (seen_when last) arms)

    abbrev asked_arms : Arms-F Stmt Arms When → Bool
    asked_arms arms = arms_step fits
        (map-Arms Stmt Arms When Bool Bool (Subject → Bool) (fit_stmt fits) (fit_arms fits) (fit_when fits) arms)

    arms-are : (first second : Option (List SuchStmt)) →
        let y = mapped_arms (record { first = first; second = second }) in
        asked_arms y ≡ true → BothServed (shown_arms y)
    arms-are None None h = tt
    arms-are None (Some second) h = (held-are second h, tt)
    arms-are (Some first) None h =
        let parts = and_parts (held (each_fit first)) true h in
        (held-are first parts.0, tt)
    arms-are (Some first) (Some second) h =
        let parts = and_parts (held (each_fit first)) (held (each_fit second)) h in
        (held-are first parts.0, (held-are second parts.1, tt))

    arms-layer : (first second : Option (List SuchStmt)) →
        SuchTwo (roll-Arms (mapped_arms (record { first = first; second = second })))
    arms-layer first second h =
        let y = mapped_arms (record { first = first; second = second }) in
        let begun = fold-roll-Arms Bool Bool (Subject → Bool) (stmt_step fits) (arms_step fits) (when_step fits) y in
        subst BothServed
        (sym (fold-roll-Arms language.Stmt Both Branch (seen_step last) both_step branch_step y))
        (arms-are first second (sym begun ∙ h))

    when-layer : (tests : List Test) (list : List SuchStmt) →
        SuchOne (roll-When (map-When SuchStmt SuchArms SuchWhen Stmt Arms When
        (λ e. e.0) (λ e. e.0) (λ e. e.0) (record { tests = tests; stmts = list })))
    when-layer tests list subject h =
        let y : When-F Stmt Arms When = record { tests = tests; stmts = plain list } in
        let begun = ap (λ (t : Subject → Bool). t subject) (fold-roll-When Bool Bool (Subject → Bool) (stmt_step fits) (arms_step fits) (when_step fits) y) in
        subst (λ (b : Branch). AllServed b.arm)
        (sym (fold-roll-When language.Stmt Both Branch (seen_step last) both_step branch_step y))
        (held-are list (and_parts (fit_tests fits subject tests) (held (each_fit list)) (sym begun ∙ h)).1)

    stmt-is : (stmt : Stmt) → Such stmt
    stmt-is stmt =
        ind-Stmt Such SuchTwo SuchOne
        (λ x y is. subst (λ z. Such (roll-Stmt z)) is (stmt-layer y))
        (λ x y is. subst (λ z. SuchTwo (roll-Arms z)) is (arms-layer y.first y.second))
        (λ x y is. subst (λ z. SuchOne (roll-When z)) is (when-layer y.tests y.stmts)) stmt

    list-is : (list : List Stmt) → are_fit_stmts fits list ≡ true → AllServed (seen_stmts last list)
    list-is [] h = tt
    list-is (stmt ∷ list) h =
        let parts = and_parts (fit_stmt fits stmt) (are_fit_stmts fits list) h in
        (stmt-is stmt parts.0, list-is list parts.1)

    -- ---- sentences

    sentences-are : (sentences : List Sentence) → are_fit_sentences fits sentences ≡ true →
        ParagraphIsServed naming kinds told range (map (seen_sentence last) sentences)
    sentences-are [] h = tt
    sentences-are (sentence ∷ sentences) h =
        let parts = and_parts (fit_sentence fits sentence) (are_fit_sentences fits sentences) h in
        (inl (list-is sentence.stmts parts.0), sentences-are sentences parts.1)

  pub paragraphs-are : (number : ℕ) (paragraphs : List Paragraph) → are_fit_paragraphs fits paragraphs ≡ true →
      ParagraphsAreServed naming kinds told range (seen_paragraphs number paragraphs)
  paragraphs-are number [] h = tt
  paragraphs-are number (paragraph ∷ others) h =
      let parts = and_parts (fit_paragraph fits paragraph) (are_fit_paragraphs fits others) h in (
        sentences-are (section_last number others) paragraph.sentences parts.0,
        paragraphs-are (suc number) others parts.1,
      )
