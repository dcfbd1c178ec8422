-- A program that names its own items and paragraphs is a source, as lowering takes one.
use Rattle.std.proofs.Common.{◌≡◌, ℕ, suc, ◌+◌, ◌≤◌, ◌<◌, Bool, true, false, ◌&&◌, List, [], ◌∷◌, map, length, Option, Some, None, is_some, refl, ap, sym, ◌∙◌, subst, arith}
use Rattle.std.specs.Prelude.{if◌then◌else◌}
use Rattle.std.proofs.lemmas.Bool.{and_parts, leb-true, false≢true}
use Rattle.cob_tree.specs.declared.calc.Calc.{Calc}
use Rattle.cob_tree.specs.declared.calc.Target.{Target}
use Rattle.cob_tree.specs.declared.choice.Subject.{Subject}
use Rattle.cob_tree.specs.declared.choice.Test.{Test}
use Rattle.cob_tree.specs.declared.control.Control.{Control}
use Rattle.cob_tree.specs.declared.control.Control.TheVariants as turning
use Rattle.cob_tree.specs.declared.place.Place.{Place}
use Rattle.cob_tree.specs.declared.program.Sentence.{Sentence}
use Rattle.cob_tree.specs.declared.program.Paragraph.{Paragraph}
use Rattle.cob_tree.specs.declared.program.Program.{Program}
use Rattle.cob_tree.specs.declared.stmt.Arms.{Arms, roll-Arms, map-Arms, fold-roll-Arms}
use Rattle.cob_tree.specs.declared.stmt.When.{When, roll-When, map-When, fold-roll-When}
use Rattle.cob_tree.specs.declared.stmt.Stmt.{Stmt, ind-Stmt, map-Stmt, roll-Stmt, fold-roll-Stmt}
use Rattle.cob_tree.specs.declared.stmt.Stmt.TheOpen.{Stmt-F, Arms-F, When-F}
use Rattle.meanings.specs.statements.Filing.{Declared}
use Rattle.control_flow_theory.specs.language.Language as language
use Rattle.control_flow_theory.specs.language.All.{all}
use Rattle.control_flow_theory.specs.language.Control.{arith_of, arith_stmt, arm_before, else_of, evaluate_of, picker_by, test_of, control_in, loop_of, perform_of, tests_of, Branch, branches_before, Both, both_arms, both_step, branch_step, seen_step, seen, seen_when, seen_both, seen_stmts, seen_sentence, section_last, seen_paragraphs, control_of}
use Rattle.control_flow_theory.specs.language.Own as own
use Rattle.control_flow_theory.specs.language.OwnItems.{NamesOwnItems, operand_own, place_own, option_own, places_own, cond_own, control_own, calc_own, target_own, subject_own, test_own, stmt_own, arms_own, when_own, stmts_own, sentences_own, paragraphs_own}
use Rattle.control_flow_theory.specs.language.OwnItems as items
use Rattle.control_flow_theory.proofs.language_lemmas.OwnCells.{cond-own, move-own, arith-own, evaluate-own, OwnTurns, control-own}
use Rattle.control_flow_theory.specs.lowering.FlowFacts.{FlowFacts, AllBelow, FirstMayBeMissing, OwnPicker, OwnStmt, OwnStmts, OwnArms, OwnParagraph, OwnParagraphs, IsSource, arm_count}
use Rattle.program_facts.specs.completion.FlowFacts.{flow_facts_of, width_of}
use Rattle.cobol_theory.specs.cobol_parts.Named as named
use Rattle.cobol_theory.specs.cobol_parts.Named.{turns, is_there, stmt_named, arms_named, when_named, stmts_named, sentences_named, paragraphs_named, NamesOwnParagraphs}

-- ---- numbers of paragraphs

below : (count number : ℕ) → is_there count number ≡ true → number < count
below count number = leb-true (suc number) count

all-below : (count : ℕ) (to : List ℕ) → all (map (is_there count) to) ≡ true → AllBelow count to
all-below count [] e = tt
all-below count (number ∷ to) e =
    let h = and_parts (is_there count number) (all (map (is_there count) to)) e in
    (below count number h.0, all-below count to h.1)

module _ (declared : Declared) (returning : List (List ℕ)) (count : ℕ) where
  abbrev told : FlowFacts
  told = flow_facts_of declared.files returning

  -- ---- statements with parts that fit

  arith-fits : (calc : Calc) (into : List Target) (first second : Option language.Stmts) →
      own.OwnAct (arith_of calc into) →
      OwnArms told count (both_arms (record { first = first; second = second })) →
      OwnStmt told count (arith_stmt calc into (record { first = first; second = second }))
  arith-fits calc into None None act arms = act
  arith-fits calc into None (Some second) act arms =
      (refl, arms, λ never. absurd (false≢true never))
  arith-fits calc into (Some first) None act arms =
      (refl, arms, λ never. absurd (false≢true never))
  arith-fits calc into (Some first) (Some second) act arms =
      (refl, arms, λ never. absurd (false≢true never))

  read-fits : (file : ℕ) (into : Option Place) (first second : Option language.Stmts) →
      OwnArms told count (both_arms (record { first = first; second = second })) →
      OwnStmt told count (language.Choose (language.By (language.Read file into (is_some first)))
      (both_arms (record { first = first; second = second })))
  read-fits file into None None arms = (refl, arms, λ never. tt)
  read-fits file into None (Some second) arms = (refl, arms, λ never. tt)
  read-fits file into (Some first) None arms =
      (refl, arms, λ never. absurd (false≢true never))
  read-fits file into (Some first) (Some second) arms =
      (refl, arms, λ never. absurd (false≢true never))

  loop-fits : (control : Control) (body : language.Stmts) → turns control ≡ true →
      OwnTurns (control_in control) → OwnStmts told count body →
      OwnStmt told count (loop_of (control_in control) body)
  loop-fits turning.Once body t h b = absurd (false≢true t)
  loop-fits (turning.Times amount) body t h b = (h, b)
  loop-fits (turning.Until after until) body t h b = (h, b)
  loop-fits (turning.Varying after item from by until) body t h b = (h, b)

  perform-fits : (turned : Option language.Control) (entry exit : ℕ) → OwnTurns turned →
      entry < count → exit < count → OwnStmt told count (perform_of turned entry exit)
  perform-fits None entry exit h a b = (a, b)
  perform-fits (Some control) entry exit h a b = (h, (a, b))

  picker-fits : (cell : Option ℕ) (counted : Bool) (chooser : language.Chooser) (arms : ℕ) →
      own.OwnPicker (picker_by cell counted chooser) → width_of chooser ≡ arms →
      OwnPicker told (picker_by cell counted chooser) arms
  picker-fits None counted chooser arms h e = e
  picker-fits (Some cell) false chooser arms h e = e
  picker-fits (Some cell) true chooser arms h e = absurd h

  evaluate-first : (cell : Option ℕ) (counted : Bool) (subject : Subject)
      (tests : List (List Test)) (has_other : Bool) (arms : language.Arms) →
      FirstMayBeMissing told (picker_by cell counted (language.Evaluate subject tests has_other)) arms
  evaluate-first None counted subject tests has_other arms = λ never. absurd (false≢true never)
  evaluate-first (Some cell) false subject tests has_other arms =
      λ never. absurd (false≢true never)
  evaluate-first (Some cell) true subject tests has_other arms = tt

  none-more : (n : ℕ) → 0 + n ≡ n
  none-more n = omega arith

  one-more : (a n m : ℕ) → a + n ≡ m → suc a + n ≡ suc m
  one-more a n m e = omega (arith, e)

  branch-count : (branches : List Branch) (tail : language.Arms) →
      length (tests_of branches) + arm_count tail ≡ arm_count (branches_before branches tail)
  branch-count [] tail = none-more (arm_count tail)
  branch-count (branch ∷ branches) tail =
      one-more (length (tests_of branches)) (arm_count tail) (arm_count (branches_before branches tail))
      (branch-count branches tail)

  suc-one : (n : ℕ) → suc n ≡ n + 1
  suc-one n = omega arith

  module _ (last : ℕ) (lies : last < count) where
    abbrev IsFit : Stmt → Type 0
    IsFit stmt =
        stmt_own stmt ≡ true → stmt_named count stmt ≡ true → OwnStmt told count (seen last stmt)

    abbrev AreFit : Arms → Type 0
    AreFit arms =
        arms_own arms ≡ true → arms_named count arms ≡ true →
        OwnArms told count (both_arms (seen_both last arms))

    abbrev IsFitWhen : When → Type 0
    IsFitWhen when =
        when_own when ≡ true → when_named count when ≡ true →
        OwnStmts told count (seen_when last when).arm

    abbrev SuchStmt : Type 0
    SuchStmt = (stmt : Stmt) × IsFit stmt

    abbrev SuchArms : Type 0
    SuchArms = (arms : Arms) × AreFit arms

    abbrev SuchWhen : Type 0
    SuchWhen = (when : When) × IsFitWhen when

    abbrev plain : List SuchStmt → List Stmt
    plain stmts = map (λ e. e.0) stmts

    abbrev plain_whens : List SuchWhen → List When
    plain_whens whens = map (λ e. e.0) whens

    stmts-fit : (xs : List SuchStmt) → stmts_own (plain xs) ≡ true →
        stmts_named count (plain xs) ≡ true → OwnStmts told count (seen_stmts last (plain xs))
    stmts-fit [] e f = tt
    stmts-fit (x ∷ xs) e f =
        let h = and_parts (stmt_own x.0) (stmts_own (plain xs)) e in
        let k = and_parts (stmt_named count x.0) (stmts_named count (plain xs)) f in
        (x.1 h.0 k.0, stmts-fit xs h.1 k.1)

    if-fits : (test : language.Test) (met : language.Stmts) (xs : List SuchStmt) →
        own.OwnTest test → OwnStmts told count met → stmts_own (plain xs) ≡ true →
        stmts_named count (plain xs) ≡ true →
        OwnStmt told count (language.Choose (language.If test) (language.given met
        (arm_before (else_of (map (seen last) (plain xs))) language.done)))
    if-fits test met [] t m e f = ((t, refl), (m, tt), tt)
    if-fits test met (x ∷ xs) t m e f =
        ((t, refl), (m, (stmts-fit (x ∷ xs) e f, tt)), tt)

    whens-fit : (xs : List SuchWhen) (tail : language.Arms) →
        all (map when_own (plain_whens xs)) ≡ true →
        all (map (when_named count) (plain_whens xs)) ≡ true → OwnArms told count tail →
        OwnArms told count (branches_before (map (seen_when last) (plain_whens xs)) tail)
    whens-fit [] tail e f h = h
    whens-fit (x ∷ xs) tail e f h =
        let k = and_parts (when_own x.0) (all (map when_own (plain_whens xs))) e in
        let l = and_parts (when_named count x.0) (all (map (when_named count) (plain_whens xs))) f in
        (x.1 k.0 l.0, whens-fit xs tail k.1 l.1 h)

    evaluate-fits : (subject : Subject) (branches : List Branch) (has_other : Bool)
        (tail : language.Arms) → arm_count tail ≡ 1 → subject_own subject ≡ true →
        OwnArms told count (branches_before branches tail) →
        OwnStmt told count (language.Choose (evaluate_of subject (tests_of branches) has_other)
        (branches_before branches tail))
    evaluate-fits subject branches has_other tail one s arms = (
      picker-fits _ _ (language.Evaluate subject (tests_of branches) has_other) _
          (evaluate-own subject (tests_of branches) has_other s)
          (suc-one (length (tests_of branches))
          ∙ ap (λ n. length (tests_of branches) + n) (sym one) ∙ branch-count branches tail),
      arms,
      evaluate-first _ _ subject (tests_of branches) has_other (branches_before branches tail),
    )

    -- ---- each statement, by those that it holds

    abbrev mapped : Stmt-F SuchStmt SuchArms SuchWhen → Stmt-F Stmt Arms When
    mapped =
        map-Stmt SuchStmt SuchArms SuchWhen Stmt Arms When (λ e. e.0) (λ e. e.0) (λ e. e.0)

    abbrev tested : Stmt-F Stmt Arms When → Bool
    tested y =
        items.stmt_step (map-Stmt Stmt Arms When Bool Bool Bool stmt_own arms_own when_own y)

    abbrev looked : Stmt-F Stmt Arms When → Bool
    looked y =
        named.stmt_step count (map-Stmt Stmt Arms When Bool Bool Bool (stmt_named count)
        (arms_named count) (when_named count) y)

    abbrev shown : Stmt-F Stmt Arms When → language.Stmt
    shown y =
        seen_step last (map-Stmt Stmt Arms When language.Stmt Both Branch (seen last)
        (seen_both last) (seen_when last) y)

    step-fits : (y : Stmt-F SuchStmt SuchArms SuchWhen) → tested (mapped y) ≡ true →
        looked (mapped y) ≡ true → OwnStmt told count (shown (mapped y))
    step-fits (Stmt-F.Display texts advance) e f = tt
    step-fits (Stmt-F.Move from to) e f =
        move-own from to (and_parts (operand_own from) (places_own to) e).1
    step-fits (Stmt-F.Arith calc into arms) e f =
        let both = seen_both last arms.0 in
        let h = and_parts (calc_own calc && all (map target_own into)) (arms_own arms.0) e in
        let k = and_parts (calc_own calc) (all (map target_own into)) h.0 in
        arith-fits calc into both.first both.second (arith-own calc into k.1) (arms.1 h.1 f)
    step-fits (Stmt-F.SetTrue place) e f = tt
    step-fits (Stmt-F.Opens openings) e f = tt
    step-fits (Stmt-F.Closes files) e f = tt
    step-fits (Stmt-F.Read file into arms) e f =
        let both = seen_both last arms.0 in
        read-fits file into both.first both.second
        (arms.1 (and_parts (option_own place_own into) (arms_own arms.0) e).1 f)
    step-fits (Stmt-F.Write entry from) e f = tt
    step-fits (Stmt-F.Rewrite entry from) e f = tt
    step-fits (Stmt-F.If cond met unmet) e f =
        let h = and_parts (cond_own cond && stmts_own (plain met)) (stmts_own (plain unmet)) e in
        let k = and_parts (cond_own cond) (stmts_own (plain met)) h.0 in
        let l = and_parts (stmts_named count (plain met)) (stmts_named count (plain unmet)) f in
        if-fits (test_of cond) (seen_stmts last (plain met)) unmet (cond-own cond k.0) (stmts-fit met k.1 l.0) h.1 l.1
    step-fits (Stmt-F.Evaluate subject whens None) e f =
        let h = and_parts (subject_own subject && all (map when_own (plain_whens whens))) true e in
        let k = and_parts (subject_own subject) (all (map when_own (plain_whens whens))) h.0 in
        let l = and_parts (all (map (when_named count) (plain_whens whens))) true f in
        evaluate-fits subject (map (seen_when last) (plain_whens whens)) false
        (language.missing language.done) refl k.0
        (whens-fit whens (language.missing language.done) k.1 l.0 tt)
    step-fits (Stmt-F.Evaluate subject whens (Some other)) e f =
        let h = and_parts (subject_own subject && all (map when_own (plain_whens whens)))
        (stmts_own (plain other)) e in
        let k = and_parts (subject_own subject) (all (map when_own (plain_whens whens))) h.0 in
        let l = and_parts (all (map (when_named count) (plain_whens whens)))
        (stmts_named count (plain other)) f in
        let tail : language.Arms = language.given (seen_stmts last (plain other)) language.done in
        evaluate-fits subject (map (seen_when last) (plain_whens whens)) true tail refl k.0
        (whens-fit whens tail k.1 l.0 (stmts-fit other h.1 l.1, tt))
    step-fits (Stmt-F.Loop control body) e f =
        let h = and_parts (control_own control) (stmts_own (plain body)) e in
        let l = and_parts (turns control) (stmts_named count (plain body)) f in
        loop-fits control (seen_stmts last (plain body)) l.0 (control-own control h.0)
        (stmts-fit body h.1 l.1)
    step-fits (Stmt-F.Perform entry exit control) e f =
        let l = and_parts (is_there count entry) (is_there count exit) f in
        perform-fits (control_in control) entry exit (control-own control e)
        (below count entry l.0) (below count exit l.1)
    step-fits (Stmt-F.Go to) e f = below count to f
    step-fits (Stmt-F.GoDepending to on) e f = (refl, all-below count to f, refl)
    step-fits Stmt-F.NextSentence e f = tt
    step-fits Stmt-F.StopRun e f = tt
    step-fits Stmt-F.Exit e f = tt
    step-fits Stmt-F.ExitParagraph e f = tt
    step-fits Stmt-F.ExitSection e f = lies
    step-fits (Stmt-F.ExitPerform cycle) e f = tt
    step-fits Stmt-F.Continue e f = tt

    layer : (y : Stmt-F SuchStmt SuchArms SuchWhen) → IsFit (roll-Stmt (mapped y))
    layer y e f =
        subst (OwnStmt told count)
        (sym (fold-roll-Stmt language.Stmt Both Branch (seen_step last) both_step branch_step (mapped y)))
        (step-fits y
        (sym (fold-roll-Stmt Bool Bool Bool items.stmt_step items.arms_step items.when_step (mapped y)) ∙ e)
        (sym (fold-roll-Stmt Bool Bool Bool (named.stmt_step count) (named.arms_step count)
        (named.when_step count) (mapped y)) ∙ f))

    -- ---- the arms of READ and arithmetic, and a WHEN

    abbrev mapped_arms : Arms-F SuchStmt SuchArms SuchWhen → Arms-F Stmt Arms When
    mapped_arms =
        map-Arms SuchStmt SuchArms SuchWhen Stmt Arms When (λ e. e.0) (λ e. e.0) (λ e. e.0)

    arms-by : (arms : Arms-F Stmt Arms When) (has looks : Bool) (both : Both) →
        items.arms_step (map-Arms Stmt Arms When Bool Bool Bool stmt_own arms_own when_own arms) ≡ has →
        named.arms_step count (map-Arms Stmt Arms When Bool Bool Bool (stmt_named count)
        (arms_named count) (when_named count) arms) ≡ looks →
        both_step (map-Arms Stmt Arms When language.Stmt Both Branch (seen last) (seen_both last)
        (seen_when last) arms) ≡ both →
        (has ≡ true → looks ≡ true → OwnArms told count (both_arms both)) → AreFit (roll-Arms arms)
    arms-by arms has looks both o l b h e f =
        subst (λ s. OwnArms told count (both_arms s))
        (sym (fold-roll-Arms language.Stmt Both Branch (seen_step last) both_step branch_step arms ∙ b))
        (h
        (sym (fold-roll-Arms Bool Bool Bool items.stmt_step items.arms_step items.when_step arms ∙ o) ∙ e)
        (sym (fold-roll-Arms Bool Bool Bool (named.stmt_step count) (named.arms_step count)
        (named.when_step count) arms ∙ l) ∙ f))

    arms-layer : (first second : Option (List SuchStmt)) →
        AreFit (roll-Arms (mapped_arms (record { first = first; second = second })))
    arms-layer None None =
        arms-by _ true true (record { first = None; second = None }) refl refl refl (λ e f. tt)
    arms-layer None (Some second) =
        arms-by _ (stmts_own (plain second)) (stmts_named count (plain second))
        (record { first = None; second = Some (seen_stmts last (plain second)) }) refl refl refl
        (λ e f. (stmts-fit second e f, tt))
    arms-layer (Some first) None =
        arms-by _ (stmts_own (plain first) && true) (stmts_named count (plain first) && true)
        (record { first = Some (seen_stmts last (plain first)); second = None }) refl refl refl
        (λ e f. (
          stmts-fit first (and_parts (stmts_own (plain first)) true e).0
              (and_parts (stmts_named count (plain first)) true f).0,
          tt,
        ))
    arms-layer (Some first) (Some second) =
        arms-by _ (stmts_own (plain first) && stmts_own (plain second))
        (stmts_named count (plain first) && stmts_named count (plain second))
        (record {
          first = Some (seen_stmts last (plain first));
          second = Some (seen_stmts last (plain second));
        }) refl refl refl
        (λ e f.
        let h = and_parts (stmts_own (plain first)) (stmts_own (plain second)) e in
        let k = and_parts (stmts_named count (plain first)) (stmts_named count (plain second)) f in
        (stmts-fit first h.0 k.0, (stmts-fit second h.1 k.1, tt)))

    when-layer : (tests : List Test) (stmts : List SuchStmt) →
        IsFitWhen (roll-When (map-When SuchStmt SuchArms SuchWhen Stmt Arms When (λ e. e.0)
        (λ e. e.0) (λ e. e.0) (record { tests = tests; stmts = stmts })))
    when-layer tests stmts e f =
        let y : When-F Stmt Arms When = record { tests = tests; stmts = plain stmts } in
        let h = and_parts (all (map test_own tests)) (stmts_own (plain stmts))
        (sym (fold-roll-When Bool Bool Bool items.stmt_step items.arms_step items.when_step y) ∙ e) in
        let k : stmts_named count (plain stmts) ≡ true =
        sym (fold-roll-When Bool Bool Bool (named.stmt_step count) (named.arms_step count)
        (named.when_step count) y) ∙ f in
        subst (λ (b : Branch). OwnStmts told count b.arm)
        (sym (fold-roll-When language.Stmt Both Branch (seen_step last) both_step branch_step y))
        (stmts-fit stmts h.1 k)

    stmt-fits : (stmt : Stmt) → IsFit stmt
    stmt-fits stmt =
        ind-Stmt IsFit AreFit IsFitWhen
        (λ x y is. subst (λ z. IsFit (roll-Stmt z)) is (layer y))
        (λ x y is. subst (λ z. AreFit (roll-Arms z)) is (arms-layer y.first y.second))
        (λ x y is. subst (λ z. IsFitWhen (roll-When z)) is (when-layer y.tests y.stmts)) stmt

    list-fits : (stmts : List Stmt) → stmts_own stmts ≡ true → stmts_named count stmts ≡ true →
        OwnStmts told count (seen_stmts last stmts)
    list-fits [] e f = tt
    list-fits (stmt ∷ stmts) e f =
        let h = and_parts (stmt_own stmt) (stmts_own stmts) e in
        let k = and_parts (stmt_named count stmt) (stmts_named count stmts) f in
        (stmt-fits stmt h.0 k.0, list-fits stmts h.1 k.1)

    sentences-fit : (sentences : List Sentence) → sentences_own sentences ≡ true →
        sentences_named count sentences ≡ true →
        OwnParagraph told count (map (seen_sentence last) sentences)
    sentences-fit [] e f = tt
    sentences-fit (sentence ∷ sentences) e f =
        let h = and_parts (stmts_own sentence.stmts) (sentences_own sentences) e in
        let k = and_parts (stmts_named count sentence.stmts) (sentences_named count sentences) f in
        (list-fits sentence.stmts h.0 k.0, sentences-fit sentences h.1 k.1)

  -- ---- paragraphs

  either-lies : (b : Bool) (number further : ℕ) → number < count → further < count →
      (if b then number else further) < count
  either-lies true number further l m = l
  either-lies false number further l m = m

  last-lies : (number : ℕ) (others : List Paragraph) → number + suc (length others) ≤ count →
      section_last number others < count
  last-lies number [] le = omega (arith, le)
  last-lies number (next ∷ others) le =
      either-lies (is_some next.section) number (section_last (suc number) others)
      (omega (arith, le)) (last-lies (suc number) others (omega (arith, le)))

  paragraphs-fit : (number : ℕ) (paragraphs : List Paragraph) →
      number + length paragraphs ≤ count → paragraphs_own paragraphs ≡ true →
      paragraphs_named count paragraphs ≡ true →
      OwnParagraphs told count (seen_paragraphs number paragraphs)
  paragraphs-fit number [] le e f = tt
  paragraphs-fit number (paragraph ∷ others) le e f =
      let h = and_parts (sentences_own paragraph.sentences) (paragraphs_own others) e in
      let k = and_parts (sentences_named count paragraph.sentences)
      (paragraphs_named count others) f in (
        sentences-fit (section_last number others) (last-lies number others le)
            paragraph.sentences h.0 k.0,
        paragraphs-fit (suc number) others (omega (arith, le)) h.1 k.1,
      )

paragraph-count : (number : ℕ) (paragraphs : List Paragraph) →
    length paragraphs ≡ length (seen_paragraphs number paragraphs)
paragraph-count number [] = refl
paragraph-count number (paragraph ∷ others) = ap suc (paragraph-count (suc number) others)

pub source : (declared : Declared) (returning : List (List ℕ)) (program : Program) →
    NamesOwnItems program → NamesOwnParagraphs program →
    IsSource (flow_facts_of declared.files returning) (control_of program)
source declared returning program items paragraphs =
    subst (λ count. OwnParagraphs (flow_facts_of declared.files returning) count
    (seen_paragraphs 0 program.paragraphs)) (paragraph-count 0 program.paragraphs)
    (paragraphs-fit declared returning (length program.paragraphs) 0 program.paragraphs
    (omega arith) items paragraphs)
