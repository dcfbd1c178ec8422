-- A source whose EXITs stand alone may be written without EXIT: lowering leaves them out.
use Rattle.std.proofs.Common.{◌≡◌, ℕ, suc, Bool, true, false, not, ◌||◌, List, [], ◌∷◌, map, Option, Some, None, refl, ap, sym, ◌∙◌, subst, inl, inr}
use Rattle.std.proofs.lemmas.Bool.{and_parts}
use Rattle.cob_tree.specs.declared.calc.Calc.{Calc}
use Rattle.cob_tree.specs.declared.calc.Target.{Target}
use Rattle.cob_tree.specs.declared.choice.Test.{Test}
use Rattle.cob_tree.specs.declared.control.Control.{Control}
use Rattle.cob_tree.specs.declared.control.Control.TheVariants as turning
use Rattle.cob_tree.specs.declared.place.Operand.{Operand}
use Rattle.cob_tree.specs.declared.place.Place.{Place}
use Rattle.cob_tree.specs.declared.program.Paragraph.{Paragraph}
use Rattle.cob_tree.specs.declared.program.Sentence.{Sentence}
use Rattle.cob_tree.specs.declared.stmt.Arms.{Arms, roll-Arms, map-Arms, fold-roll-Arms}
use Rattle.cob_tree.specs.declared.stmt.When.{When, roll-When, map-When, fold-roll-When}
use Rattle.cob_tree.specs.declared.stmt.Stmt.{Stmt, ind-Stmt, map-Stmt, out-Stmt, roll-Stmt, roll-out-Stmt, fold-roll-Stmt}
use Rattle.cob_tree.specs.declared.stmt.Stmt.TheOpen.{Stmt-F, Arms-F, When-F}
use Rattle.cob_tree.specs.declared.stmt.Stmt.TheVariants as stmts
use Rattle.control_flow_theory.specs.language.All.{all}
use Rattle.control_flow_theory.specs.language.Language as language
use Rattle.control_flow_theory.specs.language.Control.{cell_of, number_written, setting, move_to, move_of, lowered_cell, arith_act, arith_stmt, arm_before, else_of, stmts_of, control_in, loop_of, perform_of, test_of, evaluate_of, tests_of, Branch, branches_before, Both, both_arms, both_step, branch_step, seen_step, seen, seen_when, seen_both, seen_stmts, seen_sentence, seen_paragraphs, section_last}
use Rattle.control_flow_theory.specs.lowering.FlowFacts.{FlowFacts}
use Rattle.control_flow_theory.specs.rendering.Rendering.{Naming, count_arms}
use Rattle.control_flow_theory.specs.rendering.Procedures.{Writable}
use Rattle.control_flow_theory.specs.expressible_graphs.Served.{ActIsServed, TestIsServed, PickerIsServed, StmtIsServed, StmtsAreServed, ArmsAreServed, IsIdle, SentenceIsServed, ParagraphIsServed, ParagraphsAreServed}
use Rattle.struct_form.specs.Structured.{exitless_step, exitless_arms, exitless_when, exitless, arms_exitless, when_exitless, stmts_exitless}
use Rattle.grammar_laws.specs.short_lists.lone_exits.Alone.{is_exit, is_lone_exit, sentence_exits_alone, sentences_exit_alone, paragraph_exits_alone, paragraphs_exit_alone}

-- any part may be written but EXIT
abbrev pub no_exits : Writable
no_exits = record {
  simples = λ simple. not (is_exit simple);
  conds = λ cond. true;
  choosers = λ chooser arms. true;
  amounts = λ amount. true;
  sets = λ range cell value. true;
  compares = λ range cell value. true;
  counts = λ range cell. true;
  aboves = λ range cell. true;
  chooses = λ range cell arms. true;
}

module _ (naming : Naming) (told : FlowFacts) (range : language.Range) where
  abbrev Served : language.Stmt → Type 0
  Served stmt = StmtIsServed naming no_exits told range stmt

  abbrev AllServed : language.Stmts → Type 0
  AllServed list = StmtsAreServed naming no_exits told range list

  abbrev ArmsServed : language.Arms → Type 0
  ArmsServed arms = ArmsAreServed naming no_exits told range arms

  abbrev BothServed : Both → Type 0
  BothServed two = ArmsServed (both_arms two)

  -- ---- parts

  any-test : (test : language.Test) → TestIsServed naming no_exits told range test
  any-test (language.Holds cond) = refl
  any-test (language.Not test) = any-test test
  any-test (language.Is cell value) = tt
  any-test (language.Above cell) = tt

  any-picker : (picker : language.Picker) (arms : ℕ) →
      PickerIsServed naming no_exits told range picker arms
  any-picker (language.If test) arms = any-test test
  any-picker (language.By chooser) arms = λ given as_many dead. refl
  any-picker (language.ByCell cell) arms = tt

  abbrev Acts : language.Act → Type 0
  Acts act = ActIsServed naming no_exits told range act

  setting-acts : (number : Option ℕ) (from : Operand) (cell : ℕ) → Acts (setting number from cell)
  setting-acts None from cell = tt
  setting-acts (Some number) from cell = tt

  moving-acts : (cell : Option ℕ) (from : Operand) (to : Place) → Acts (move_to cell from to)
  moving-acts None from to = refl
  moving-acts (Some cell) from to = setting-acts (number_written from) from cell

  move-acts : (from : Operand) (to : List Place) → Acts (move_of from to)
  move-acts from [] = refl
  move-acts from (to ∷ []) = moving-acts (cell_of to) from to
  move-acts from (to ∷ more ∷ others) = refl

  lowering-acts : (cell : Option ℕ) (calc : Calc) (into : List Target) →
      Acts (arith_act cell calc into)
  lowering-acts None calc into = refl
  lowering-acts (Some cell) calc into = tt

  arith-served : (calc : Calc) (into : List Target) (first second : Option language.Stmts) →
      BothServed (record { first = first; second = second }) →
      Served (arith_stmt calc into (record { first = first; second = second }))
  arith-served calc into None None h = lowering-acts (lowered_cell calc into) calc into
  arith-served calc into None (Some second) h = ((λ given as_many dead. refl), h)
  arith-served calc into (Some first) None h = ((λ given as_many dead. refl), h)
  arith-served calc into (Some first) (Some second) h = ((λ given as_many dead. refl), h)

  else-served : (list : List language.Stmt) → AllServed (stmts_of list) →
      ArmsServed (arm_before (else_of list) language.done)
  else-served [] h = tt
  else-served (stmt ∷ list) h = (h, tt)

  loop-served : (control : Control) (body : language.Stmts) → AllServed body →
      Served (loop_of (control_in control) body)
  loop-served turning.Once body h = (refl, (h, tt))
  loop-served (turning.Times amount) body h = (refl, h)
  loop-served (turning.Until after until) body h = (any-test (test_of until), h)
  loop-served (turning.Varying after item from by until) body h =
      ((refl, refl, any-test (test_of until)), h)

  perform-served : (control : Control) (entry exit : ℕ) →
      Served (perform_of (control_in control) entry exit)
  perform-served turning.Once entry exit = tt
  perform-served (turning.Times amount) entry exit = (refl, tt)
  perform-served (turning.Until after until) entry exit = (any-test (test_of until), tt)
  perform-served (turning.Varying after item from by until) entry exit =
      ((refl, refl, any-test (test_of until)), tt)

  module _ (last : ℕ) where
    -- ---- statements

    abbrev Such : Stmt → Type 0
    Such stmt = exitless stmt ≡ true → Served (seen last stmt)

    abbrev SuchTwo : Arms → Type 0
    SuchTwo arms = arms_exitless arms ≡ true → BothServed (seen_both last arms)

    abbrev SuchOne : When → Type 0
    SuchOne when = when_exitless when ≡ true → AllServed (seen_when last when).arm

    abbrev SuchStmt : Type 0
    SuchStmt = (stmt : Stmt) × Such stmt

    abbrev SuchArms : Type 0
    SuchArms = (arms : Arms) × SuchTwo arms

    abbrev SuchWhen : Type 0
    SuchWhen = (when : When) × SuchOne when

    abbrev plain : List SuchStmt → List Stmt
    plain list = map (λ e. e.0) list

    abbrev plain_whens : List SuchWhen → List When
    plain_whens whens = map (λ e. e.0) whens

    stmts-are : (xs : List SuchStmt) → all (map exitless (plain xs)) ≡ true →
        AllServed (stmts_of (map (seen last) (plain xs)))
    stmts-are [] h = tt
    stmts-are (x ∷ xs) h =
        let parts = and_parts (exitless x.0) (all (map exitless (plain xs))) h in
        (x.1 parts.0, stmts-are xs parts.1)

    whens-are : (xs : List SuchWhen) (tail : language.Arms) →
        all (map when_exitless (plain_whens xs)) ≡ true → ArmsServed tail →
        ArmsServed (branches_before (map (seen_when last) (plain_whens xs)) tail)
    whens-are [] tail h t = t
    whens-are (x ∷ xs) tail h t =
        let parts = and_parts (when_exitless x.0) (all (map when_exitless (plain_whens xs))) h in
        (x.1 parts.0, whens-are xs tail parts.1 t)

    abbrev mapped : Stmt-F SuchStmt SuchArms SuchWhen → Stmt-F Stmt Arms When
    mapped =
        map-Stmt SuchStmt SuchArms SuchWhen Stmt Arms When (λ e. e.0) (λ e. e.0) (λ e. e.0)

    abbrev shown : Stmt-F Stmt Arms When → language.Stmt
    shown y = seen_step last
        (map-Stmt Stmt Arms When language.Stmt Both Branch (seen last) (seen_both last)
        (seen_when last) y)

    abbrev tested : Stmt-F Stmt Arms When → Bool
    tested y = exitless_step
        (map-Stmt Stmt Arms When Bool Bool Bool exitless arms_exitless when_exitless y)

    step-is : (y : Stmt-F SuchStmt SuchArms SuchWhen) → tested (mapped y) ≡ true →
        Served (shown (mapped y))
    step-is (Stmt-F.Display items advance) h = refl
    step-is (Stmt-F.Move from to) h = move-acts from to
    step-is (Stmt-F.Arith calc into arms) h =
        let two = seen_both last arms.0 in
        arith-served calc into two.first two.second (arms.1 h)
    step-is (Stmt-F.SetTrue place) h = refl
    step-is (Stmt-F.Opens openings) h = refl
    step-is (Stmt-F.Closes files) h = refl
    step-is (Stmt-F.Read file into arms) h = ((λ given as_many dead. refl), arms.1 h)
    step-is (Stmt-F.Write entry from) h = refl
    step-is (Stmt-F.Rewrite entry from) h = refl
    step-is (Stmt-F.If cond met unmet) h =
        let parts = and_parts (all (map exitless (plain met))) (all (map exitless (plain unmet))) h
        in (
          any-test (test_of cond),
          (
            stmts-are met parts.0,
            else-served (map (seen last) (plain unmet)) (stmts-are unmet parts.1),
          ),
        )
    step-is (Stmt-F.Evaluate subject whens None) h =
        let parts = and_parts (all (map when_exitless (plain_whens whens))) true h in
        let branches = map (seen_when last) (plain_whens whens) in
        let behind = language.missing language.done in (
          any-picker (evaluate_of subject (tests_of branches) false)
              (count_arms (branches_before branches behind)),
          whens-are whens behind parts.0 tt,
        )
    step-is (Stmt-F.Evaluate subject whens (Some other)) h =
        let parts = and_parts (all (map when_exitless (plain_whens whens)))
        (all (map exitless (plain other))) h in
        let branches = map (seen_when last) (plain_whens whens) in
        let behind = language.given (stmts_of (map (seen last) (plain other))) language.done in (
          any-picker (evaluate_of subject (tests_of branches) true)
              (count_arms (branches_before branches behind)),
          whens-are whens behind parts.0 (stmts-are other parts.1, tt),
        )
    step-is (Stmt-F.Loop control body) h =
        loop-served control (stmts_of (map (seen last) (plain body))) (stmts-are body h)
    step-is (Stmt-F.Perform entry exit control) h = perform-served control entry exit
    step-is (Stmt-F.Go to) h = tt
    step-is (Stmt-F.GoDepending to on) h = λ given as_many dead. refl
    step-is Stmt-F.NextSentence h = tt
    step-is Stmt-F.StopRun h = tt
    step-is Stmt-F.Exit h = absurd (let e : false ≡ true = h in cc)
    step-is Stmt-F.ExitParagraph h = tt
    step-is Stmt-F.ExitSection h = tt
    step-is (Stmt-F.ExitPerform cycle) h = tt
    step-is Stmt-F.Continue h = refl

    stmt-layer : (y : Stmt-F SuchStmt SuchArms SuchWhen) → Such (roll-Stmt (mapped y))
    stmt-layer y h =
        let begun =
        fold-roll-Stmt Bool Bool Bool exitless_step exitless_arms exitless_when (mapped y) in
        subst Served (sym
        (fold-roll-Stmt language.Stmt Both Branch (seen_step last) both_step branch_step (mapped y)))
        (step-is y (sym begun ∙ h))

    abbrev mapped_arms : Arms-F SuchStmt SuchArms SuchWhen → Arms-F Stmt Arms When
    mapped_arms =
        map-Arms SuchStmt SuchArms SuchWhen Stmt Arms When (λ e. e.0) (λ e. e.0) (λ e. e.0)

    abbrev shown_arms : Arms-F Stmt Arms When → Both
    shown_arms arms = both_step (map-Arms Stmt Arms When language.Stmt Both Branch
        (seen last) (seen_both last) (seen_when last) arms)

    abbrev tested_arms : Arms-F Stmt Arms When → Bool
    tested_arms arms = exitless_arms
        (map-Arms Stmt Arms When Bool Bool Bool exitless arms_exitless when_exitless arms)

    arms-are : (first second : Option (List SuchStmt)) →
        let y = mapped_arms (record { first = first; second = second }) in
        tested_arms y ≡ true → BothServed (shown_arms y)
    arms-are None None h = tt
    arms-are None (Some second) h = (stmts-are second h, tt)
    arms-are (Some first) None h =
        let parts = and_parts (all (map exitless (plain first))) true h in
        (stmts-are first parts.0, tt)
    arms-are (Some first) (Some second) h =
        let parts = and_parts (all (map exitless (plain first)))
        (all (map exitless (plain second))) h in
        (stmts-are first parts.0, (stmts-are second parts.1, tt))

    arms-layer : (first second : Option (List SuchStmt)) →
        SuchTwo (roll-Arms (mapped_arms (record { first = first; second = second })))
    arms-layer first second h =
        let y = mapped_arms (record { first = first; second = second }) in
        let begun = fold-roll-Arms Bool Bool Bool exitless_step exitless_arms exitless_when y in
        subst BothServed
        (sym (fold-roll-Arms language.Stmt Both Branch (seen_step last) both_step branch_step y))
        (arms-are first second (sym begun ∙ h))

    when-layer : (tests : List Test) (list : List SuchStmt) →
        SuchOne (roll-When (map-When SuchStmt SuchArms SuchWhen Stmt Arms When
        (λ e. e.0) (λ e. e.0) (λ e. e.0) (record { tests = tests; stmts = list })))
    when-layer tests list h =
        let y : When-F Stmt Arms When = record { tests = tests; stmts = plain list } in
        let begun = fold-roll-When Bool Bool Bool exitless_step exitless_arms exitless_when y in
        subst (λ (b : Branch). AllServed b.arm)
        (sym (fold-roll-When language.Stmt Both Branch (seen_step last) both_step branch_step y))
        (stmts-are list (sym begun ∙ h))

    stmt-is : (stmt : Stmt) → Such stmt
    stmt-is stmt =
        ind-Stmt Such SuchTwo SuchOne
        (λ x y is. subst (λ z. Such (roll-Stmt z)) is (stmt-layer y))
        (λ x y is. subst (λ z. SuchTwo (roll-Arms z)) is (arms-layer y.first y.second))
        (λ x y is. subst (λ z. SuchOne (roll-When z)) is (when-layer y.tests y.stmts)) stmt

    list-is : (list : List Stmt) → stmts_exitless list ≡ true → AllServed (seen_stmts last list)
    list-is [] h = tt
    list-is (stmt ∷ list) h =
        let parts = and_parts (exitless stmt) (stmts_exitless list) h in
        (stmt-is stmt parts.0, list-is list parts.1)

    -- ---- sentences

    exit-seen : seen last (roll-Stmt Stmt-F.Exit) ≡ language.Do (language.Own stmts.Exit)
    exit-seen =
        fold-roll-Stmt language.Stmt Both Branch (seen_step last) both_step branch_step Stmt-F.Exit

    rolled-exit : (y : Stmt-F Stmt Arms When) → is_exit (roll-Stmt y) ≡ true →
        seen last (roll-Stmt y) ≡ language.Do (language.Own stmts.Exit)
    rolled-exit (Stmt-F.Display items advance) h =
        absurd (let e : false ≡ true = sym (ap is_exit (stmts.rolls-Display items advance)) ∙ h in cc)
    rolled-exit (Stmt-F.Move from to) h =
        absurd (let e : false ≡ true = sym (ap is_exit (stmts.rolls-Move from to)) ∙ h in cc)
    rolled-exit (Stmt-F.Arith calc into arms) h =
        absurd (let e : false ≡ true = sym (ap is_exit (stmts.rolls-Arith calc into arms)) ∙ h in cc)
    rolled-exit (Stmt-F.SetTrue place) h =
        absurd (let e : false ≡ true = sym (ap is_exit (stmts.rolls-SetTrue place)) ∙ h in cc)
    rolled-exit (Stmt-F.Opens openings) h =
        absurd (let e : false ≡ true = sym (ap is_exit (stmts.rolls-Opens openings)) ∙ h in cc)
    rolled-exit (Stmt-F.Closes files) h =
        absurd (let e : false ≡ true = sym (ap is_exit (stmts.rolls-Closes files)) ∙ h in cc)
    rolled-exit (Stmt-F.Read file into arms) h =
        absurd (let e : false ≡ true = sym (ap is_exit (stmts.rolls-Read file into arms)) ∙ h in cc)
    rolled-exit (Stmt-F.Write entry from) h =
        absurd (let e : false ≡ true = sym (ap is_exit (stmts.rolls-Write entry from)) ∙ h in cc)
    rolled-exit (Stmt-F.Rewrite entry from) h =
        absurd (let e : false ≡ true = sym (ap is_exit (stmts.rolls-Rewrite entry from)) ∙ h in cc)
    rolled-exit (Stmt-F.If cond met unmet) h =
        absurd (let e : false ≡ true = sym (ap is_exit (stmts.rolls-If cond met unmet)) ∙ h in cc)
    rolled-exit (Stmt-F.Evaluate subject whens other) h =
        absurd (let e : false ≡ true = sym (ap is_exit (stmts.rolls-Evaluate subject whens other)) ∙ h in cc)
    rolled-exit (Stmt-F.Loop control body) h =
        absurd (let e : false ≡ true = sym (ap is_exit (stmts.rolls-Loop control body)) ∙ h in cc)
    rolled-exit (Stmt-F.Perform entry exit control) h =
        absurd (let e : false ≡ true = sym (ap is_exit (stmts.rolls-Perform entry exit control)) ∙ h in cc)
    rolled-exit (Stmt-F.Go to) h =
        absurd (let e : false ≡ true = sym (ap is_exit (stmts.rolls-Go to)) ∙ h in cc)
    rolled-exit (Stmt-F.GoDepending to on) h =
        absurd (let e : false ≡ true = sym (ap is_exit (stmts.rolls-GoDepending to on)) ∙ h in cc)
    rolled-exit Stmt-F.NextSentence h =
        absurd (let e : false ≡ true = sym (ap is_exit stmts.rolls-NextSentence) ∙ h in cc)
    rolled-exit Stmt-F.StopRun h =
        absurd (let e : false ≡ true = sym (ap is_exit stmts.rolls-StopRun) ∙ h in cc)
    rolled-exit Stmt-F.Exit h = exit-seen
    rolled-exit Stmt-F.ExitParagraph h =
        absurd (let e : false ≡ true = sym (ap is_exit stmts.rolls-ExitParagraph) ∙ h in cc)
    rolled-exit Stmt-F.ExitSection h =
        absurd (let e : false ≡ true = sym (ap is_exit stmts.rolls-ExitSection) ∙ h in cc)
    rolled-exit (Stmt-F.ExitPerform cycle) h =
        absurd (let e : false ≡ true = sym (ap is_exit (stmts.rolls-ExitPerform cycle)) ∙ h in cc)
    rolled-exit Stmt-F.Continue h =
        absurd (let e : false ≡ true = sym (ap is_exit stmts.rolls-Continue) ∙ h in cc)

    one-exit : (stmt : Stmt) → is_exit stmt ≡ true →
        seen last stmt ≡ language.Do (language.Own stmts.Exit)
    one-exit stmt =
        subst (λ (s : Stmt). is_exit s ≡ true →
        seen last s ≡ language.Do (language.Own stmts.Exit)) (roll-out-Stmt stmt)
        (rolled-exit (out-Stmt stmt))

    module _ (skipped : told.skipped stmts.Exit ≡ true) where
      idle-is : (list : List Stmt) → is_lone_exit list ≡ true →
          IsIdle naming no_exits told range (seen_stmts last list)
      idle-is [] h = absurd (let e : false ≡ true = h in cc)
      idle-is (stmt ∷ []) h = (
        language.Own stmts.Exit,
        ap (λ s. language.also s language.none) (one-exit stmt h),
        skipped,
      )
      idle-is (stmt ∷ next ∷ list) h = absurd (let e : false ≡ true = h in cc)

      sentence-is : (sentence : Sentence) → sentence_exits_alone sentence ≡ true →
          SentenceIsServed naming no_exits told range (seen_sentence last sentence)
      sentence-is sentence =
          elim (is_lone_exit sentence.stmts) as (λ b. is_lone_exit sentence.stmts ≡ b →
          (b || stmts_exitless sentence.stmts) ≡ true →
          SentenceIsServed naming no_exits told range (seen_sentence last sentence)) [
            | true ↦ λ e h. inr (idle-is sentence.stmts e)
            | false ↦ λ e h. inl (list-is sentence.stmts h)
          ] refl

      sentences-are : (sentences : List Sentence) → sentences_exit_alone sentences ≡ true →
          ParagraphIsServed naming no_exits told range (map (seen_sentence last) sentences)
      sentences-are [] h = tt
      sentences-are (sentence ∷ sentences) h =
          let parts =
          and_parts (sentence_exits_alone sentence) (sentences_exit_alone sentences) h in
          (sentence-is sentence parts.0, sentences-are sentences parts.1)

  pub paragraphs-are : told.skipped stmts.Exit ≡ true → (number : ℕ)
      (paragraphs : List Paragraph) → paragraphs_exit_alone paragraphs ≡ true →
      ParagraphsAreServed naming no_exits told range (seen_paragraphs number paragraphs)
  paragraphs-are skipped number [] h = tt
  paragraphs-are skipped number (paragraph ∷ others) h =
      let parts = and_parts (paragraph_exits_alone paragraph) (paragraphs_exit_alone others) h in (
        sentences-are (section_last number others) skipped paragraph.sentences parts.0,
        paragraphs-are skipped (suc number) others parts.1,
      )
