-- In a source whose statements fit each VARYING begins with a number, and each EVALUATE has two arms.
use Rattle.std.proofs.Common.{◌≡◌, ◌≤◌, ℕ, suc, Bool, true, false, ◌&&◌, nat_le, List, [], ◌∷◌, map, Option, Some, None, ap, sym, ◌∙◌, subst, le-leb, arith}
use Rattle.std.proofs.lemmas.Bool.{and_parts}
use Rattle.cob_tree.specs.declared.calc.Calc.{Calc}
use Rattle.cob_tree.specs.declared.calc.Target.{Target}
use Rattle.cob_tree.specs.declared.choice.Test.{Test}
use Rattle.cob_tree.specs.declared.choice.Subject.{Subject}
use Rattle.cob_tree.specs.declared.cond.Cond.{Cond}
use Rattle.cob_tree.specs.declared.control.Control.{Control}
use Rattle.cob_tree.specs.declared.control.Control.TheVariants as turning
use Rattle.cob_tree.specs.declared.place.Operand.{Operand}
use Rattle.cob_tree.specs.declared.place.Place.{Place}
use Rattle.cob_tree.specs.declared.program.Paragraph.{Paragraph}
use Rattle.cob_tree.specs.declared.program.Sentence.{Sentence}
use Rattle.cob_tree.specs.declared.stmt.Arms.{Arms, roll-Arms, map-Arms, fold-roll-Arms}
use Rattle.cob_tree.specs.declared.stmt.When.{When, roll-When, map-When, fold-roll-When}
use Rattle.cob_tree.specs.declared.stmt.Stmt.{Stmt, ind-Stmt, map-Stmt, out-Stmt, roll-Stmt, out-roll-Stmt, fold-roll-Stmt}
use Rattle.cob_tree.specs.declared.stmt.Stmt.TheOpen.{Stmt-F, Arms-F, When-F}
use Rattle.cob_tree.specs.declared.stmt.Stmt.TheVariants as stmts
use Rattle.control_flow_theory.specs.language.All.{all}
use Rattle.control_flow_theory.specs.language.Language as language
use Rattle.control_flow_theory.specs.language.Control.{arith_stmt, setting_item, arm_before, else_of, stmts_of, control_in, loop_of, perform_of, picker_by, cell_chosen, count_from, tests_of, Branch, branches_before, Both, both_arms, both_step, branch_step, seen_step, seen, seen_when, seen_both, seen_stmts, seen_sentence, seen_paragraphs, section_last}
use Rattle.control_flow_theory.specs.rendering.Rendering.{count_arms}
use Rattle.program_facts.specs.well_scoped.Part.{is_filled, if_any}
use Rattle.round_trip.specs.fitting_statements.Fits.{Fits}
use Rattle.round_trip.specs.fitting_statements.Statement.{some_pass, held, fit_calc, fit_control, fit_turns, fit_subject, fit_into, stmt_step, arms_step, when_step, fit_stmt, fit_arms, fit_when, are_fit_stmts, fit_sentence, are_fit_sentences, fit_paragraph, are_fit_paragraphs}
use Rattle.round_trip.specs.fitting_statements.fit_control.Fit.{fit_tests, moves_by, moves_number}
use Rattle.round_trip.specs.fitting_statements.sound_bodies.Sound.{ActBegins, PickerIsSound, StmtIsSound, StmtsAreSound, ArmsAreSound, ParagraphIsSound, ParagraphsAreSound}
use Rattle.round_trip.proofs.fitting_statements_lemmas.fit_control_lemmas.Single.{filled-back, filled-on, asked, out-is, under}

-- ---- arms

tail-counts : (branches : List Branch) (tail : language.Arms) → count_arms tail ≤ count_arms (branches_before branches tail)
tail-counts [] tail = omega arith
tail-counts (branch ∷ branches) tail = let behind = tail-counts branches tail in omega (arith, behind)

two-arms : (branches : List Branch) (tail : language.Arms) → is_filled branches ≡ true → 1 ≤ count_arms tail →
    nat_le 2 (count_arms (branches_before branches tail)) ≡ true
two-arms [] tail filled some = absurd cc
two-arms (branch ∷ branches) tail filled some =
    let behind = tail-counts branches tail in le-leb 2 (suc (count_arms (branches_before branches tail))) (omega (arith, some, behind))

module _ (fits : Fits) where
  abbrev begins : Stmt → Bool
  begins = moves_number fits

  abbrev enough : (cell arms : ℕ) → Bool
  enough cell arms = nat_le 2 arms

  abbrev Sound : language.Stmt → Type 0
  Sound stmt = StmtIsSound begins enough stmt

  abbrev AllSound : language.Stmts → Type 0
  AllSound list = StmtsAreSound begins enough list

  abbrev ArmsSound : language.Arms → Type 0
  ArmsSound arms = ArmsAreSound begins enough arms

  abbrev BothSound : Both → Type 0
  BothSound two = ArmsSound (both_arms two)

  -- ---- parts

  begins-is : (item : Place) (from : Operand) → fits.number from ≡ true → ActBegins begins enough (setting_item item from)
  begins-is item from h =
      ap (moves_by fits) (ap out-Stmt (sym (stmts.rolls-Move from (item ∷ []))) ∙ out-roll-Stmt (Stmt-F.Move from (item ∷ []))) ∙ h

  varying-begins : (item : Place) (from by : Operand) (until : Cond) →
      (fits.number_place item && (fits.number from && (fits.number by && fits.cond until))) ≡ true → ActBegins begins enough (setting_item item from)
  varying-begins item from by until c =
      let i = and_parts (fits.number_place item) (fits.number from && (fits.number by && fits.cond until)) c in
      begins-is item from (and_parts (fits.number from) (fits.number by && fits.cond until) i.1).0

  picker-is : (cell : Option ℕ) (counted : Bool) (chooser : language.Chooser) (count : ℕ) → nat_le 2 count ≡ true →
      PickerIsSound begins enough (picker_by cell counted chooser) count
  picker-is (Some cell) true chooser count h = h
  picker-is (Some cell) false chooser count h = tt
  picker-is None counted chooser count h = tt

  arith-sound : (calc : Calc) (into : List Target) (first second : Option language.Stmts) →
      BothSound (record { first = first; second = second }) →
      Sound (arith_stmt calc into (record { first = first; second = second }))
  arith-sound calc into None None h = tt
  arith-sound calc into None (Some second) h = (tt, h)
  arith-sound calc into (Some first) None h = (tt, h)
  arith-sound calc into (Some first) (Some second) h = (tt, h)

  else-sound : (list : List language.Stmt) → AllSound (stmts_of list) →
      ArmsSound (arm_before (else_of list) language.done)
  else-sound [] h = tt
  else-sound (stmt ∷ list) h = (h, tt)

  loop-sound : (control : Control) (body : language.Stmts) → fit_turns fits control ≡ true → AllSound body →
      Sound (loop_of (control_in control) body)
  loop-sound turning.Once body c h = absurd cc
  loop-sound (turning.Times amount) body c h = (tt, h)
  loop-sound (turning.Until after until) body c h = (tt, h)
  loop-sound (turning.Varying after item from by until) body c h = (varying-begins item from by until c, h)

  perform-sound : (control : Control) (entry exit : ℕ) → fit_control fits control ≡ true →
      Sound (perform_of (control_in control) entry exit)
  perform-sound turning.Once entry exit c = tt
  perform-sound (turning.Times amount) entry exit c = (tt, tt)
  perform-sound (turning.Until after until) entry exit c = (tt, tt)
  perform-sound (turning.Varying after item from by until) entry exit c = (varying-begins item from by until c, tt)

  module _ (last : ℕ) where
    -- ---- statements

    abbrev Such : Stmt → Type 0
    Such stmt = fit_stmt fits stmt ≡ true → Sound (seen last stmt)

    abbrev SuchTwo : Arms → Type 0
    SuchTwo arms = fit_arms fits arms ≡ true → BothSound (seen_both last arms)

    abbrev SuchOne : When → Type 0
    SuchOne when = (subject : Subject) → fit_when fits when subject ≡ true → AllSound (seen_when last when).arm

    abbrev SuchStmt : Type 0
    SuchStmt = (stmt : Stmt) × Such stmt

    abbrev SuchArms : Type 0
    SuchArms = (arms : Arms) × SuchTwo arms

    abbrev SuchWhen : Type 0
    SuchWhen = (when : When) × SuchOne when

    abbrev plain : List SuchStmt → List Stmt
    plain list = map (λ e. e.0) list

    abbrev plain_whens : List SuchWhen → List When
    plain_whens whens = map (λ e. e.0) whens

    abbrev each_fit : List SuchStmt → List Bool
    each_fit list = map (fit_stmt fits) (plain list)

    stmts-are : (xs : List SuchStmt) → all (each_fit xs) ≡ true → AllSound (stmts_of (map (seen last) (plain xs)))
    stmts-are [] h = tt
    stmts-are (x ∷ xs) h =
        let parts = and_parts (fit_stmt fits x.0) (all (each_fit xs)) h in
        (x.1 parts.0, stmts-are xs parts.1)

    held-are : (xs : List SuchStmt) → held (each_fit xs) ≡ true → AllSound (stmts_of (map (seen last) (plain xs)))
    held-are xs h = stmts-are xs (and_parts (is_filled (each_fit xs)) (all (each_fit xs)) h).1

    whens-are : (subject : Subject) (xs : List SuchWhen) (tail : language.Arms) →
        all (under fits subject (plain_whens xs)) ≡ true → ArmsSound tail →
        ArmsSound (branches_before (map (seen_when last) (plain_whens xs)) tail)
    whens-are subject [] tail h t = t
    whens-are subject (x ∷ xs) tail h t =
        let parts = and_parts (fit_when fits x.0 subject) (all (under fits subject (plain_whens xs))) h in
        (x.1 subject parts.0, whens-are subject xs tail parts.1 t)

    abbrev mapped : Stmt-F SuchStmt SuchArms SuchWhen → Stmt-F Stmt Arms When
    mapped =
        map-Stmt SuchStmt SuchArms SuchWhen Stmt Arms When (λ e. e.0) (λ e. e.0) (λ e. e.0)

    abbrev shown : Stmt-F Stmt Arms When → language.Stmt
    shown y = seen_step last
        (map-Stmt Stmt Arms When language.Stmt Both Branch (seen last) (seen_both last)
        (seen_when last) y)

    -- a WHEN or more, and one arm behind them
    evaluate-sound : (subject : Subject) (whens : List SuchWhen) (has_other : Bool) (tail : language.Arms) →
        some_pass (λ (t : Subject → Bool). t subject) (map (fit_when fits) (plain_whens whens)) ≡ true →
        1 ≤ count_arms tail → ArmsSound tail →
        let branches = map (seen_when last) (plain_whens whens) in
        PickerIsSound begins enough (picker_by (cell_chosen subject) (count_from 1 (tests_of branches)) (language.Evaluate subject (tests_of branches) has_other))
        (count_arms (branches_before branches tail))
        × ArmsSound (branches_before branches tail)
    evaluate-sound subject whens has_other tail h one t =
        let list = plain_whens whens in
        let branches = map (seen_when last) list in
        let some = and_parts (is_filled (map (fit_when fits) list)) (all (under fits subject list)) h in (
          picker-is (cell_chosen subject) (count_from 1 (tests_of branches)) (language.Evaluate subject (tests_of branches) has_other)
              (count_arms (branches_before branches tail)) (two-arms branches tail (filled-on (seen_when last) list (filled-back (fit_when fits) list some.0)) one),
          whens-are subject whens tail some.1 t,
        )

    step-is : (y : Stmt-F SuchStmt SuchArms SuchWhen) → asked fits (mapped y) ≡ true →
        Sound (shown (mapped y))
    step-is (Stmt-F.Display items advance) h = tt
    step-is (Stmt-F.Move from to) h = tt
    step-is (Stmt-F.Arith calc into arms) h =
        let two = seen_both last arms.0 in
        arith-sound calc into two.first two.second (arms.1 (and_parts (fit_calc fits calc into) (fit_arms fits arms.0) h).1)
    step-is (Stmt-F.SetTrue place) h = tt
    step-is (Stmt-F.Opens openings) h = tt
    step-is (Stmt-F.Closes files) h = tt
    step-is (Stmt-F.Read file into arms) h =
        let parts = and_parts (fits.file file) (if_any (fit_into fits file) into && fit_arms fits arms.0) h in
        (tt, arms.1 (and_parts (if_any (fit_into fits file) into) (fit_arms fits arms.0) parts.1).1)
    step-is (Stmt-F.Write entry from) h = tt
    step-is (Stmt-F.Rewrite entry from) h = tt
    step-is (Stmt-F.If cond met unmet) h =
        let parts = and_parts (fits.cond cond) (held (each_fit met) && all (each_fit unmet)) h in
        let arms = and_parts (held (each_fit met)) (all (each_fit unmet)) parts.1 in
        (tt, (held-are met arms.0, else-sound (map (seen last) (plain unmet)) (stmts-are unmet arms.1)))
    step-is (Stmt-F.Evaluate subject whens None) h =
        let front = some_pass (λ (t : Subject → Bool). t subject) (map (fit_when fits) (plain_whens whens)) in
        let parts = and_parts (fit_subject fits subject) (front && true) h in
        evaluate-sound subject whens false (language.missing language.done) (and_parts front true parts.1).0 (omega arith) tt
    step-is (Stmt-F.Evaluate subject whens (Some other)) h =
        let front = some_pass (λ (t : Subject → Bool). t subject) (map (fit_when fits) (plain_whens whens)) in
        let parts = and_parts (fit_subject fits subject) (front && held (each_fit other)) h in
        let arms = and_parts front (held (each_fit other)) parts.1 in
        evaluate-sound subject whens true (language.given (stmts_of (map (seen last) (plain other))) language.done) arms.0 (omega arith) (held-are other arms.1, tt)
    step-is (Stmt-F.Loop control body) h =
        let parts = and_parts (fit_turns fits control) (held (each_fit body)) h in
        loop-sound control (stmts_of (map (seen last) (plain body))) parts.0 (held-are body parts.1)
    step-is (Stmt-F.Perform entry exit control) h = perform-sound control entry exit (and_parts (fits.range entry exit) (fit_control fits control) h).1
    step-is (Stmt-F.Go to) h = tt
    step-is (Stmt-F.GoDepending to on) h = tt
    step-is Stmt-F.NextSentence h = tt
    step-is Stmt-F.StopRun h = tt
    step-is Stmt-F.Exit h = tt
    step-is Stmt-F.ExitParagraph h = tt
    step-is Stmt-F.ExitSection h = tt
    step-is (Stmt-F.ExitPerform cycle) h = tt
    step-is Stmt-F.Continue h = tt

    stmt-layer : (y : Stmt-F SuchStmt SuchArms SuchWhen) → Such (roll-Stmt (mapped y))
    stmt-layer y h =
        subst Sound (sym
        (fold-roll-Stmt language.Stmt Both Branch (seen_step last) both_step branch_step (mapped y)))
        (step-is y (sym (out-is fits (mapped y)) ∙ h))

    abbrev mapped_arms : Arms-F SuchStmt SuchArms SuchWhen → Arms-F Stmt Arms When
    mapped_arms =
        map-Arms SuchStmt SuchArms SuchWhen Stmt Arms When (λ e. e.0) (λ e. e.0) (λ e. e.0)

    abbrev shown_arms : Arms-F Stmt Arms When → Both
    shown_arms arms = both_step (map-Arms Stmt Arms When language.Stmt Both Branch
        (seen last) (seen_both last) (seen_when last) arms)

    abbrev asked_arms : Arms-F Stmt Arms When → Bool
    asked_arms arms = arms_step fits
        (map-Arms Stmt Arms When Bool Bool (Subject → Bool) (fit_stmt fits) (fit_arms fits) (fit_when fits) arms)

    arms-are : (first second : Option (List SuchStmt)) →
        let y = mapped_arms (record { first = first; second = second }) in
        asked_arms y ≡ true → BothSound (shown_arms y)
    arms-are None None h = tt
    arms-are None (Some second) h = (held-are second h, tt)
    arms-are (Some first) None h =
        let parts = and_parts (held (each_fit first)) true h in
        (held-are first parts.0, tt)
    arms-are (Some first) (Some second) h =
        let parts = and_parts (held (each_fit first)) (held (each_fit second)) h in
        (held-are first parts.0, (held-are second parts.1, tt))

    arms-layer : (first second : Option (List SuchStmt)) →
        SuchTwo (roll-Arms (mapped_arms (record { first = first; second = second })))
    arms-layer first second h =
        let y = mapped_arms (record { first = first; second = second }) in
        let begun = fold-roll-Arms Bool Bool (Subject → Bool) (stmt_step fits) (arms_step fits) (when_step fits) y in
        subst BothSound
        (sym (fold-roll-Arms language.Stmt Both Branch (seen_step last) both_step branch_step y))
        (arms-are first second (sym begun ∙ h))

    when-layer : (tests : List Test) (list : List SuchStmt) →
        SuchOne (roll-When (map-When SuchStmt SuchArms SuchWhen Stmt Arms When
        (λ e. e.0) (λ e. e.0) (λ e. e.0) (record { tests = tests; stmts = list })))
    when-layer tests list subject h =
        let y : When-F Stmt Arms When = record { tests = tests; stmts = plain list } in
        let begun = ap (λ (t : Subject → Bool). t subject) (fold-roll-When Bool Bool (Subject → Bool) (stmt_step fits) (arms_step fits) (when_step fits) y) in
        subst (λ (b : Branch). AllSound b.arm)
        (sym (fold-roll-When language.Stmt Both Branch (seen_step last) both_step branch_step y))
        (held-are list (and_parts (fit_tests fits subject tests) (held (each_fit list)) (sym begun ∙ h)).1)

    stmt-is : (stmt : Stmt) → Such stmt
    stmt-is stmt =
        ind-Stmt Such SuchTwo SuchOne
        (λ x y is. subst (λ z. Such (roll-Stmt z)) is (stmt-layer y))
        (λ x y is. subst (λ z. SuchTwo (roll-Arms z)) is (arms-layer y.first y.second))
        (λ x y is. subst (λ z. SuchOne (roll-When z)) is (when-layer y.tests y.stmts)) stmt

    list-is : (list : List Stmt) → are_fit_stmts fits list ≡ true → AllSound (seen_stmts last list)
    list-is [] h = tt
    list-is (stmt ∷ list) h =
        let parts = and_parts (fit_stmt fits stmt) (are_fit_stmts fits list) h in
        (stmt-is stmt parts.0, list-is list parts.1)

    -- ---- sentences

    sentences-are : (sentences : List Sentence) → are_fit_sentences fits sentences ≡ true →
        ParagraphIsSound begins enough (map (seen_sentence last) sentences)
    sentences-are [] h = tt
    sentences-are (sentence ∷ sentences) h =
        let parts = and_parts (fit_sentence fits sentence) (are_fit_sentences fits sentences) h in
        (list-is sentence.stmts parts.0, sentences-are sentences parts.1)

  pub paragraphs-are : (number : ℕ) (paragraphs : List Paragraph) → are_fit_paragraphs fits paragraphs ≡ true →
      ParagraphsAreSound begins enough (seen_paragraphs number paragraphs)
  paragraphs-are number [] h = tt
  paragraphs-are number (paragraph ∷ others) h =
      let parts = and_parts (fit_paragraph fits paragraph) (are_fit_paragraphs fits others) h in (
        sentences-are (section_last number others) paragraph.sentences parts.0,
        paragraphs-are (suc number) others parts.1,
      )
