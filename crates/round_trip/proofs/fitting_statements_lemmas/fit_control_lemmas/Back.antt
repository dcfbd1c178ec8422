-- Where the control of statements fits, so do they.
use Rattle.std.proofs.Common.{◌≡◌, ◌≤◌, ◌+◌, ℕ, Bool, true, false, ◌&&◌, nat_le, List, [], ◌∷◌, map, Option, Some, None, refl, ap, sym, ◌∙◌, subst, arith}
use Rattle.std.proofs.lemmas.Bool.{and_parts}
use Rattle.cob_tree.specs.Depth.{largest}
use Rattle.cob_tree.specs.declared.calc.Calc.{Calc}
use Rattle.cob_tree.specs.declared.calc.Calc.TheVariants as calcs
use Rattle.cob_tree.specs.declared.calc.Target.{Target}
use Rattle.cob_tree.specs.declared.choice.Subject.{Subject}
use Rattle.cob_tree.specs.declared.choice.Test.{Test}
use Rattle.cob_tree.specs.declared.cond.Cond.{Cond, fold-roll-Cond}
use Rattle.cob_tree.specs.declared.cond.Cond.TheOpen.{Cond-F}
use Rattle.cob_tree.specs.declared.cond.Cond.TheVariants as conds
use Rattle.cob_tree.specs.declared.control.Control.{Control}
use Rattle.cob_tree.specs.declared.control.Control.TheVariants as turning
use Rattle.cob_tree.specs.declared.place.Operand.{Operand}
use Rattle.cob_tree.specs.declared.place.Place.{Place}
use Rattle.cob_tree.specs.declared.stmt.Arms.{Arms, roll-Arms, map-Arms, fold-roll-Arms}
use Rattle.cob_tree.specs.declared.stmt.When.{When, roll-When, map-When, fold-roll-When}
use Rattle.cob_tree.specs.declared.stmt.Stmt.{Stmt, ind-Stmt, map-Stmt, out-Stmt, roll-Stmt, out-roll-Stmt, fold-roll-Stmt}
use Rattle.cob_tree.specs.declared.stmt.Stmt.TheOpen.{Stmt-F, Arms-F, When-F}
use Rattle.cob_tree.specs.declared.stmt.Stmt.TheVariants as stmts
use Rattle.control_flow_theory.specs.language.All.{all}
use Rattle.control_flow_theory.specs.language.Language as language
use Rattle.control_flow_theory.specs.language.Own.{OwnTest}
use Rattle.control_flow_theory.specs.language.Control.{cell_of, number_written, setting, move_to, move_of, lowered_cell, arith_act, arith_stmt, picker_by, cell_chosen, count_from, tests_of, setting_item, augmenting, perform_of, test_of, arm_before, else_of, stmts_of, control_in, loop_of, Branch, branches_before, Both, both_arms, both_step, branch_step, seen_step, seen, seen_when, seen_both, seen_stmts}
use Rattle.control_flow_theory.proofs.language_lemmas.Conditions.{cond-back}
use Rattle.control_flow_theory.proofs.language_lemmas.Unseen.{cond_of}
use Rattle.program_facts.proofs.well_scoped_lemmas.Made.{both}
use Rattle.program_facts.specs.well_scoped.Part.{is_filled, if_any}
use Rattle.program_facts.specs.term_counts.Condition as sizes
use Rattle.program_facts.specs.term_counts.Condition.{cond_terms}
use Rattle.program_facts.specs.term_counts.Part.{control_most}
use Rattle.cob_base.specs.Limit.{max_terms}
use Rattle.program_facts.specs.term_counts.Statement as terms
use Rattle.program_facts.specs.term_counts.Statement.{stmt_most, arms_most, when_most, stmts_most}
use Rattle.round_trip.specs.fitting_statements.Fits.{Fits}
use Rattle.round_trip.specs.fitting_statements.Statement.{some_pass, held, fit_receiver, fit_calc, fit_control, fit_turns, fit_subject, fit_into, fit_numbers, fit_targets, stmt_step, arms_step, when_step, fit_stmt, fit_arms, fit_when, are_fit_stmts}
use Rattle.round_trip.specs.fitting_statements.fit_control.Fit.{fit_tests, fit_chooser, moves_by, IsFilled, ActIsFit, BeginsFit, TestIsFit, PickerIsFit, StmtFits, StmtsFit, ArmsFit}
use Rattle.round_trip.specs.fitting_statements.fit_control.Written.{CondsFit}
use Rattle.round_trip.proofs.fitting_statements_lemmas.fit_control_lemmas.Single.{filled-back, filled-on, asked, out-is, is-asked, fits-alone, under}

clash : {b : Bool} → b ≡ true → b ≡ false → ⊥
clash t f = cc

-- few enough terms
abbrev Small : ℕ → Type 0
Small terms = terms ≤ max_terms

not-terms : (cond : Cond) → cond_terms (conds.Not cond) ≡ 1 + cond_terms cond
not-terms cond = ap cond_terms (sym (conds.rolls-Not cond)) ∙ fold-roll-Cond ℕ sizes.cond_step (Cond-F.Not cond)

abbrev most_of : Stmt-F Stmt Arms When → ℕ
most_of y = terms.stmt_step (map-Stmt Stmt Arms When ℕ ℕ ℕ stmt_most arms_most when_most y)

out-most : (y : Stmt-F Stmt Arms When) → stmt_most (roll-Stmt y) ≡ most_of y
out-most y = fold-roll-Stmt ℕ ℕ ℕ terms.stmt_step terms.arms_step terms.when_step y

module _ (fits : Fits) (conds_fit : CondsFit fits) where
  abbrev BothFit : Both → Type 0
  BothFit two = ArmsFit fits (both_arms two)

  -- ---- tests

  own-test : (test : language.Test) → TestIsFit fits test → OwnTest test
  own-test (language.Holds cond) h = tt
  own-test (language.Not test) h = own-test test h
  own-test (language.Is cell value) h = absurd h
  own-test (language.Above cell) h = absurd h

  cond-fits : (test : language.Test) → TestIsFit fits test → Small (cond_terms (cond_of test)) → fits.cond (cond_of test) ≡ true
  cond-fits (language.Holds cond) h m = h
  cond-fits (language.Not test) h m =
      let more = not-terms (cond_of test) in
      conds_fit.nots (cond_of test) (cond-fits test h (omega (arith, more, m))) m
  cond-fits (language.Is cell value) h m = absurd h
  cond-fits (language.Above cell) h m = absurd h

  test-fits : (cond : Cond) → TestIsFit fits (test_of cond) → Small (cond_terms cond) → fits.cond cond ≡ true
  test-fits cond h =
      subst (λ c. Small (cond_terms c) → fits.cond c ≡ true) (cond-back cond (own-test (test_of cond) h)) (cond-fits (test_of cond) h)

  -- ---- moves, arithmetic and choices

  single : (y : Stmt-F Stmt Arms When) (x : Stmt) → roll-Stmt y ≡ x → fit_stmt fits x ≡ true → asked fits y ≡ true
  single y x e h = sym (is-asked fits y x e) ∙ h

  abbrev moved : Operand → List Place → Bool
  moved from to = fits.value from && some_pass (fit_receiver fits from) to

  -- a MOVE to one item, by the number that it writes
  abbrev moving_to : (number cell : Option ℕ) → Operand → Place → language.Act
  moving_to number None from to = language.Own (stmts.Move from (to ∷ []))
  moving_to number (Some cell) from to = setting number from cell

  moving-fits : (number cell : Option ℕ) (from : Operand) (to : Place) → ActIsFit fits (moving_to number cell from to) →
      moved from (to ∷ []) ≡ true
  moving-fits number None from to h = single (Stmt-F.Move from (to ∷ [])) _ (stmts.rolls-Move from (to ∷ [])) h
  moving-fits None (Some cell) from to h = absurd h
  moving-fits (Some value) (Some cell) from to h = absurd h

  move-fits : (from : Operand) (to : List Place) → ActIsFit fits (move_of from to) → moved from to ≡ true
  move-fits from [] h = single (Stmt-F.Move from []) _ (stmts.rolls-Move from []) h
  move-fits from (to ∷ []) h = moving-fits (number_written from) (cell_of to) from to (as-moved (cell_of to) h)
    where
      as-moved : (cell : Option ℕ) → ActIsFit fits (move_to cell from to) → ActIsFit fits (moving_to (number_written from) cell from to)
      as-moved None h = h
      as-moved (Some cell) h = h
  move-fits from (to ∷ more ∷ others) h = single (Stmt-F.Move from (to ∷ more ∷ others)) _ (stmts.rolls-Move from (to ∷ more ∷ others)) h

  lowering-fits : (cell : Option ℕ) (calc : Calc) (into : List Target) → ActIsFit fits (arith_act cell calc into) →
      fit_calc fits calc into ≡ true
  lowering-fits None calc into h = fits-alone fits calc into h
  lowering-fits (Some cell) calc into h = absurd h

  arith-fits : (calc : Calc) (into : List Target) (first second : Option language.Stmts) →
      StmtFits fits (arith_stmt calc into (record { first = first; second = second })) →
      (fit_calc fits calc into ≡ true) × BothFit (record { first = first; second = second })
  arith-fits calc into None None h = (lowering-fits (lowered_cell calc into) calc into h, tt)
  arith-fits calc into None (Some second) h = h
  arith-fits calc into (Some first) None h = h
  arith-fits calc into (Some first) (Some second) h = h

  picker-fits : (cell : Option ℕ) (counted : Bool) (chooser : language.Chooser) → PickerIsFit fits (picker_by cell counted chooser) → fit_chooser fits chooser ≡ true
  picker-fits (Some cell) true chooser h = absurd h
  picker-fits (Some cell) false chooser h = h
  picker-fits None counted chooser h = h

  else-fits : (list : List language.Stmt) → ArmsFit fits (arm_before (else_of list) language.done) →
      StmtsFit fits (stmts_of list)
  else-fits [] h = tt
  else-fits (stmt ∷ list) h = h.1

  from-fits : (item : Place) (from : Operand) → BeginsFit fits (setting_item item from) → fits.number from ≡ true
  from-fits item from h =
      sym (ap (moves_by fits) (ap out-Stmt (sym (stmts.rolls-Move from (item ∷ []))) ∙ out-roll-Stmt (Stmt-F.Move from (item ∷ [])))) ∙ h

  varying-fits : (item : Place) (from by : Operand) (until : Cond) → BeginsFit fits (setting_item item from) → ActIsFit fits (language.Own (augmenting item by)) →
      TestIsFit fits (test_of until) → Small (cond_terms until) →
      (fits.number_place item && (fits.number from && (fits.number by && fits.cond until))) ≡ true
  varying-fits item from by until s a t m =
      let into : List Target = record { place = item; rounded = false } ∷ [] in
      let parts = and_parts (fit_numbers fits (by ∷ [])) (fit_targets fits into) (fits-alone fits (calcs.Add (by ∷ [])) into a) in
      both (and_parts (fits.number_place item) true parts.1).0
      (both (from-fits item from s) (both (and_parts (fits.number by) true parts.0).0 (test-fits until t m)))

  loop-fits : (control : Control) (body : language.Stmts) → Small (control_most control) →
      StmtFits fits (loop_of (control_in control) body) → (fit_turns fits control ≡ true) × IsFilled body × StmtsFit fits body
  loop-fits turning.Once body m h = absurd (clash h.0 conds_fit.always)
  loop-fits (turning.Times amount) body m h = (both h.0 h.1.2, h.1.0, h.1.1)
  loop-fits (turning.Until after until) body m h = (test-fits until h.0 m, h.1.0, h.1.1)
  loop-fits (turning.Varying after item from by until) body m h =
      (varying-fits item from by until h.0.0 h.0.1 h.0.2 (omega (arith, m)), h.1.0, h.1.1)

  perform-fits : (control : Control) (entry exit : ℕ) → Small (control_most control) → StmtFits fits (perform_of (control_in control) entry exit) →
      (fits.range entry exit && fit_control fits control) ≡ true
  perform-fits turning.Once entry exit m h = both h refl
  perform-fits (turning.Times amount) entry exit m h = both h.1 h.0
  perform-fits (turning.Until after until) entry exit m h = both h.1 (test-fits until h.0 m)
  perform-fits (turning.Varying after item from by until) entry exit m h =
      both h.1 (varying-fits item from by until h.0.0 h.0.1 h.0.2 (omega (arith, m)))

  module _ (last : ℕ) where
    abbrev Such : Stmt → Type 0
    Such stmt = Small (stmt_most stmt) → StmtFits fits (seen last stmt) → fit_stmt fits stmt ≡ true

    abbrev SuchTwo : Arms → Type 0
    SuchTwo arms = Small (arms_most arms) → BothFit (seen_both last arms) → fit_arms fits arms ≡ true

    abbrev SuchOne : When → Type 0
    SuchOne when = (subject : Subject) → Small (when_most when) → fit_tests fits subject (seen_when last when).tests ≡ true →
        IsFilled (seen_when last when).arm → StmtsFit fits (seen_when last when).arm → fit_when fits when subject ≡ true

    abbrev SuchStmt : Type 0
    SuchStmt = (stmt : Stmt) × Such stmt

    abbrev SuchArms : Type 0
    SuchArms = (arms : Arms) × SuchTwo arms

    abbrev SuchWhen : Type 0
    SuchWhen = (when : When) × SuchOne when

    abbrev plain : List SuchStmt → List Stmt
    plain list = map (λ e. e.0) list

    abbrev plain_whens : List SuchWhen → List When
    plain_whens whens = map (λ e. e.0) whens

    abbrev each_fit : List SuchStmt → List Bool
    each_fit list = map (fit_stmt fits) (plain list)

    abbrev most : List SuchStmt → ℕ
    most list = largest (map stmt_most (plain list))

    abbrev whens_most : List SuchWhen → ℕ
    whens_most whens = largest (map when_most (plain_whens whens))

    stmts-are : (xs : List SuchStmt) → Small (most xs) → StmtsFit fits (stmts_of (map (seen last) (plain xs))) →
        all (each_fit xs) ≡ true
    stmts-are [] m h = refl
    stmts-are (x ∷ xs) m h = both (x.1 (omega (arith, m)) h.0) (stmts-are xs (omega (arith, m)) h.1)

    held-are : (xs : List SuchStmt) → Small (most xs) → IsFilled (stmts_of (map (seen last) (plain xs))) →
        StmtsFit fits (stmts_of (map (seen last) (plain xs))) → held (each_fit xs) ≡ true
    held-are [] m f h = absurd f
    held-are (x ∷ xs) m f h = stmts-are (x ∷ xs) m h

    whens-are : (subject : Subject) (xs : List SuchWhen) (tail : language.Arms) → Small (whens_most xs) →
        all (map (fit_tests fits subject) (tests_of (map (seen_when last) (plain_whens xs)))) ≡ true →
        ArmsFit fits (branches_before (map (seen_when last) (plain_whens xs)) tail) →
        (all (under fits subject (plain_whens xs)) ≡ true) × ArmsFit fits tail
    whens-are subject [] tail m t h = (refl, h)
    whens-are subject (x ∷ xs) tail m t h =
        let parts = and_parts (fit_tests fits subject (seen_when last x.0).tests) (all (map (fit_tests fits subject) (tests_of (map (seen_when last) (plain_whens xs))))) t in
        let behind = whens-are subject xs tail (omega (arith, m)) parts.1 h.2 in
        (both (x.1 subject (omega (arith, m)) parts.0 h.0 h.1) behind.0, behind.1)

    abbrev mapped : Stmt-F SuchStmt SuchArms SuchWhen → Stmt-F Stmt Arms When
    mapped = map-Stmt SuchStmt SuchArms SuchWhen Stmt Arms When (λ e. e.0) (λ e. e.0) (λ e. e.0)

    abbrev shown : Stmt-F Stmt Arms When → language.Stmt
    shown y = seen_step last
        (map-Stmt Stmt Arms When language.Stmt Both Branch (seen last) (seen_both last) (seen_when last) y)

    -- its subject and its WHENs, one at least, by the arms before the last one
    evaluate-fits : (subject : Subject) (whens : List SuchWhen) (has_other : Bool) (tail : language.Arms) → Small (whens_most whens) →
        let branches = map (seen_when last) (plain_whens whens) in
        PickerIsFit fits (picker_by (cell_chosen subject) (count_from 1 (tests_of branches)) (language.Evaluate subject (tests_of branches) has_other)) →
        ArmsFit fits (branches_before branches tail) →
        (fit_subject fits subject ≡ true) × (some_pass (λ (t : Subject → Bool). t subject) (map (fit_when fits) (plain_whens whens)) ≡ true) × ArmsFit fits tail
    evaluate-fits subject whens has_other tail m p h =
        let list = plain_whens whens in
        let branches = map (seen_when last) list in
        let chooser = picker-fits (cell_chosen subject) (count_from 1 (tests_of branches)) (language.Evaluate subject (tests_of branches) has_other) p in
        let front = and_parts (fit_subject fits subject) (some_pass (fit_tests fits subject) (tests_of branches)) chooser in
        let some = and_parts (is_filled (tests_of branches)) (all (map (fit_tests fits subject) (tests_of branches))) front.1 in
        let filled = filled-on (fit_when fits) list (filled-back (seen_when last) list (filled-back (λ (b : Branch). b.tests) branches some.0)) in
        let found = whens-are subject whens tail m some.1 h in
        (front.0, both filled found.0, found.1)

    step-is : (y : Stmt-F SuchStmt SuchArms SuchWhen) → Small (most_of (mapped y)) → StmtFits fits (shown (mapped y)) →
        asked fits (mapped y) ≡ true
    step-is (Stmt-F.Display items advance) m h = single (Stmt-F.Display items advance) _ (stmts.rolls-Display items advance) h
    step-is (Stmt-F.Move from to) m h = move-fits from to h
    step-is (Stmt-F.Arith calc into arms) m h =
        let two = seen_both last arms.0 in
        let found = arith-fits calc into two.first two.second h in
        both found.0 (arms.1 (omega (arith, m)) found.1)
    step-is (Stmt-F.SetTrue place) m h = single (Stmt-F.SetTrue place) _ (stmts.rolls-SetTrue place) h
    step-is (Stmt-F.Opens openings) m h = single (Stmt-F.Opens openings) _ (stmts.rolls-Opens openings) h
    step-is (Stmt-F.Closes files) m h = single (Stmt-F.Closes files) _ (stmts.rolls-Closes files) h
    step-is (Stmt-F.Read file into arms) m h =
        let parts = and_parts (fits.file file) (if_any (fit_into fits file) into) h.0 in
        both parts.0 (both parts.1 (arms.1 (omega (arith, m)) h.1))
    step-is (Stmt-F.Write entry from) m h = single (Stmt-F.Write entry from) _ (stmts.rolls-Write entry from) h
    step-is (Stmt-F.Rewrite entry from) m h = single (Stmt-F.Rewrite entry from) _ (stmts.rolls-Rewrite entry from) h
    step-is (Stmt-F.If cond met unmet) m h =
        both (test-fits cond h.0 (omega (arith, m)))
        (both (held-are met (omega (arith, m)) h.1.0 h.1.1) (stmts-are unmet (omega (arith, m)) (else-fits (map (seen last) (plain unmet)) h.1.2)))
    step-is (Stmt-F.Evaluate subject whens None) m h =
        let found = evaluate-fits subject whens false (language.missing language.done) (omega (arith, m)) h.0 h.1 in
        both found.0 (both found.1 refl)
    step-is (Stmt-F.Evaluate subject whens (Some other)) m h =
        let behind = language.given (stmts_of (map (seen last) (plain other))) language.done in
        let found = evaluate-fits subject whens true behind (omega (arith, m)) h.0 h.1 in
        both found.0 (both found.1 (held-are other (omega (arith, m)) found.2.0 found.2.1))
    step-is (Stmt-F.Loop control body) m h =
        let found = loop-fits control (stmts_of (map (seen last) (plain body))) (omega (arith, m)) h in
        both found.0 (held-are body (omega (arith, m)) found.1 found.2)
    step-is (Stmt-F.Perform entry exit control) m h = perform-fits control entry exit m h
    step-is (Stmt-F.Go to) m h = h
    step-is (Stmt-F.GoDepending to on) m h = both h.0 (and_parts (nat_le 1 _) (fits.whole_place on) h.1).1
    step-is Stmt-F.NextSentence m h = refl
    step-is Stmt-F.StopRun m h = refl
    step-is Stmt-F.Exit m h = refl
    step-is Stmt-F.ExitParagraph m h = refl
    step-is Stmt-F.ExitSection m h = refl
    step-is (Stmt-F.ExitPerform cycle) m h = refl
    step-is Stmt-F.Continue m h = refl

    stmt-layer : (y : Stmt-F SuchStmt SuchArms SuchWhen) → Such (roll-Stmt (mapped y))
    stmt-layer y m h =
        let first = fold-roll-Stmt language.Stmt Both Branch (seen_step last) both_step branch_step (mapped y) in
        out-is fits (mapped y) ∙ step-is y (subst Small (out-most (mapped y)) m) (subst (StmtFits fits) first h)

    abbrev mapped_arms : Arms-F SuchStmt SuchArms SuchWhen → Arms-F Stmt Arms When
    mapped_arms = map-Arms SuchStmt SuchArms SuchWhen Stmt Arms When (λ e. e.0) (λ e. e.0) (λ e. e.0)

    abbrev shown_arms : Arms-F Stmt Arms When → Both
    shown_arms arms = both_step (map-Arms Stmt Arms When language.Stmt Both Branch
        (seen last) (seen_both last) (seen_when last) arms)

    abbrev asked_arms : Arms-F Stmt Arms When → Bool
    asked_arms arms = arms_step fits
        (map-Arms Stmt Arms When Bool Bool (Subject → Bool) (fit_stmt fits) (fit_arms fits) (fit_when fits) arms)

    abbrev most_in : Arms-F Stmt Arms When → ℕ
    most_in arms = terms.arms_step (map-Arms Stmt Arms When ℕ ℕ ℕ stmt_most arms_most when_most arms)

    arms-are : (first second : Option (List SuchStmt)) →
        let y = mapped_arms (record { first = first; second = second }) in
        Small (most_in y) → BothFit (shown_arms y) → asked_arms y ≡ true
    arms-are None None m h = refl
    arms-are None (Some second) m h = held-are second (omega (arith, m)) h.0 h.1
    arms-are (Some first) None m h = both (held-are first (omega (arith, m)) h.0 h.1) refl
    arms-are (Some first) (Some second) m h =
        both (held-are first (omega (arith, m)) h.0 h.1) (held-are second (omega (arith, m)) h.2.0 h.2.1)

    arms-layer : (first second : Option (List SuchStmt)) →
        SuchTwo (roll-Arms (mapped_arms (record { first = first; second = second })))
    arms-layer first second m h =
        let y = mapped_arms (record { first = first; second = second }) in
        let begun = fold-roll-Arms language.Stmt Both Branch (seen_step last) both_step branch_step y in
        fold-roll-Arms Bool Bool (Subject → Bool) (stmt_step fits) (arms_step fits) (when_step fits) y
        ∙ arms-are first second (subst Small (fold-roll-Arms ℕ ℕ ℕ terms.stmt_step terms.arms_step terms.when_step y) m) (subst BothFit begun h)

    when-layer : (tests : List Test) (list : List SuchStmt) →
        SuchOne (roll-When (map-When SuchStmt SuchArms SuchWhen Stmt Arms When
        (λ e. e.0) (λ e. e.0) (λ e. e.0) (record { tests = tests; stmts = list })))
    when-layer tests list subject m t f h =
        let y : When-F Stmt Arms When = record { tests = tests; stmts = plain list } in
        let begun = fold-roll-When language.Stmt Both Branch (seen_step last) both_step branch_step y in
        let few = subst Small (fold-roll-When ℕ ℕ ℕ terms.stmt_step terms.arms_step terms.when_step y) m in
        ap (λ (t : Subject → Bool). t subject) (fold-roll-When Bool Bool (Subject → Bool) (stmt_step fits) (arms_step fits) (when_step fits) y)
        ∙ both (subst (λ (b : Branch). fit_tests fits subject b.tests ≡ true) begun t)
        (held-are list (omega (arith, few)) (subst (λ (b : Branch). IsFilled b.arm) begun f) (subst (λ (b : Branch). StmtsFit fits b.arm) begun h))

    stmt-is : (stmt : Stmt) → Such stmt
    stmt-is stmt =
        ind-Stmt Such SuchTwo SuchOne
        (λ x y is. subst (λ z. Such (roll-Stmt z)) is (stmt-layer y))
        (λ x y is. subst (λ z. SuchTwo (roll-Arms z)) is (arms-layer y.first y.second))
        (λ x y is. subst (λ z. SuchOne (roll-When z)) is (when-layer y.tests y.stmts)) stmt

    pub all-fit : (list : List Stmt) → Small (stmts_most list) → StmtsFit fits (seen_stmts last list) →
        are_fit_stmts fits list ≡ true
    all-fit [] m h = refl
    all-fit (stmt ∷ list) m h = both (stmt-is stmt (omega (arith, m)) h.0) (all-fit list (omega (arith, m)) h.1)
