-- Where named parts that count by whole numbers are taken, each statement of a program is served.
use Rattle.std.proofs.Common.{◌≡◌, ℕ, suc, ◌≤◌, ◌^◌, Bool, true, false, ◌&&◌, List, [], ◌∷◌, map, length, Option, Some, None, is_some, refl, ap, sym, ◌∙◌, subst, inl, arith, ltb-true}
use Rattle.std.proofs.lemmas.Bool.{and_parts, false≢true}
use Rattle.cob_tree.specs.declared.calc.Calc.{Calc}
use Rattle.cob_tree.specs.declared.calc.Target.{Target}
use Rattle.cob_tree.specs.declared.choice.Subject.{Subject}
use Rattle.cob_tree.specs.declared.choice.Test.{Test}
use Rattle.cob_tree.specs.declared.control.Control.{Control}
use Rattle.cob_tree.specs.declared.control.Control.TheVariants as turning
use Rattle.cob_tree.specs.declared.entry.Entry.{Entry}
use Rattle.cob_tree.specs.declared.place.Place.{Place}
use Rattle.cob_tree.specs.declared.program.Sentence.{Sentence}
use Rattle.cob_tree.specs.declared.program.Paragraph.{Paragraph}
use Rattle.cob_tree.specs.declared.stmt.Arms.{Arms, fold-Arms, roll-Arms, map-Arms, fold-roll-Arms}
use Rattle.cob_tree.specs.declared.stmt.When.{When, fold-When, roll-When, map-When, fold-roll-When}
use Rattle.cob_tree.specs.declared.stmt.Stmt.{Stmt, ind-Stmt, map-Stmt, roll-Stmt, fold-roll-Stmt}
use Rattle.cob_tree.specs.declared.stmt.Stmt.TheOpen.{Stmt-F, Arms-F, When-F}
use Rattle.control_flow_theory.specs.language.Language as language
use Rattle.control_flow_theory.specs.language.All.{all}
use Rattle.control_flow_theory.specs.language.Control.{arith_stmt, arm_before, else_of, evaluate_of, picker_by, control_in, loop_of, perform_of, tests_of, Branch, branches_before, Both, both_arms, both_step, branch_step, seen_step, seen, seen_when, seen_both, seen_stmts, seen_sentence, section_last, seen_paragraphs}
use Rattle.control_flow_theory.specs.lowering.FlowFacts.{FlowFacts}
use Rattle.control_flow_theory.specs.rendering.Rendering.{Naming}
use Rattle.control_flow_theory.specs.rendering.Procedures.{Writable}
use Rattle.control_flow_theory.specs.expressible_graphs.Served.{PickerIsServed, StmtIsServed, StmtsAreServed, ArmsAreServed, ParagraphIsServed, ParagraphsAreServed}
use Rattle.program_facts.specs.well_scoped.Part.{Counts, is_filled, if_any, file_named, item_named, paragraph_named, place_named, operand_named, places_named, operands_named}
use Rattle.program_facts.specs.well_scoped.Beside.{turns, cond_named, control_named, calc_named, target_named, subject_named, test_named}
use Rattle.program_facts.specs.well_scoped.Named as named
use Rattle.program_facts.specs.well_scoped.Named.{arm, fit, opening_named, stmt_step, arms_step, when_step, stmt_named, arms_named, when_seen, stmts_named, sentence_named, sentences_named, paragraphs_named}
use Rattle.program_facts.proofs.well_scoped_lemmas.Made.{both, made-Display, made-Move, made-SetTrue, made-Opens, made-Closes, made-Write, made-Rewrite, made-Exit, made-Continue}
use Rattle.program_facts.specs.whole_counts.Whole.{control_counts_whole, whole_step, whole_arms, whole_when, stmt_counts_whole}
use Rattle.cobol_theory.specs.fit_programs.Fit.{few_step, few_arms, few_when, stmt_names_few, arms_name_few, when_names_few}
use Rattle.cobol_theory.proofs.served_programs_lemmas.Parts.{Takes, test-taken, move-taken, alone-named, arith-taken, TurnsTaken, control-taken}

module _ (naming : Naming) (kinds : Writable) (told : FlowFacts) (range : language.Range) (counts : Counts) (entries : List Entry) (takes : Takes naming kinds told range counts entries) where
  abbrev StmtServed : language.Stmt → Type 0
  StmtServed stmt = StmtIsServed naming kinds told range stmt

  abbrev StmtsServed : language.Stmts → Type 0
  StmtsServed stmts = StmtsAreServed naming kinds told range stmts

  abbrev ArmsServed : language.Arms → Type 0
  ArmsServed arms = ArmsAreServed naming kinds told range arms

  abbrev arms_whole : Arms → Bool
  arms_whole = fold-Arms Bool Bool Bool (whole_step entries) (whole_arms entries) (whole_when entries)

  abbrev when_whole : When → Bool
  when_whole = fold-When Bool Bool Bool (whole_step entries) (whole_arms entries) (whole_when entries)

  -- ---- statements with parts that are served

  arith-served : (calc : Calc) (into : List Target) (first second : Option language.Stmts) →
      calc_named counts calc ≡ true → is_filled into ≡ true → all (map (target_named counts) into) ≡ true →
      ArmsServed (both_arms (record { first = first; second = second })) →
      StmtServed (arith_stmt calc into (record { first = first; second = second }))
  arith-served calc into None None c f i arms = arith-taken naming kinds told range counts entries takes calc into (alone-named naming kinds told range counts entries takes calc into c f i)
  arith-served calc into None (Some second) c f i arms = ((λ each count first. takes.ariths calc into _ c i), arms)
  arith-served calc into (Some first) None c f i arms = ((λ each count first. takes.ariths calc into _ c i), arms)
  arith-served calc into (Some first) (Some second) c f i arms = ((λ each count first. takes.ariths calc into _ c i), arms)

  read-served : (file : ℕ) (into : Option Place) (first second : Option language.Stmts) →
      file_named counts file ≡ true → if_any (place_named counts) into ≡ true →
      ArmsServed (both_arms (record { first = first; second = second })) →
      StmtServed (language.Choose (language.By (language.Read file into (is_some first))) (both_arms (record { first = first; second = second })))
  read-served file into None None f i arms = (takes.reads file into false f i, arms)
  read-served file into None (Some second) f i arms = (takes.reads file into false f i, arms)
  read-served file into (Some first) None f i arms = (takes.reads file into true f i, arms)
  read-served file into (Some first) (Some second) f i arms = (takes.reads file into true f i, arms)

  picker-served : (cell : Option ℕ) (counted : Bool) (subject : Subject) (tests : List (List Test)) (has_other : Bool) (arms : ℕ) →
      subject_named counts subject ≡ true → all (map (λ each. all (map (test_named counts) each)) tests) ≡ true →
      PickerIsServed naming kinds told range (picker_by cell counted (language.Evaluate subject tests has_other)) arms
  picker-served None counted subject tests has_other arms s t = λ each count first. takes.evaluates subject tests has_other _ s t
  picker-served (Some cell) false subject tests has_other arms s t = λ each count first. takes.evaluates subject tests has_other _ s t
  picker-served (Some cell) true subject tests has_other arms s t = tt

  loop-served : (control : Control) (body : language.Stmts) → turns control ≡ true →
      TurnsTaken naming kinds told range counts entries takes (control_in control) → StmtsServed body → StmtServed (loop_of (control_in control) body)
  loop-served turning.Once body t h b = absurd (false≢true t)
  loop-served (turning.Times amount) body t h b = (h, b)
  loop-served (turning.Until after until) body t h b = (h, b)
  loop-served (turning.Varying after item from by until) body t h b = (h, b)

  perform-served : (turned : Option language.Control) (entry exit : ℕ) → TurnsTaken naming kinds told range counts entries takes turned → StmtServed (perform_of turned entry exit)
  perform-served None entry exit h = tt
  perform-served (Some control) entry exit h = (h, tt)

  some-names : {X : Type 0} (names : List X) → is_filled names ≡ true → 1 ≤ length names
  some-names [] e = absurd (false≢true e)
  some-names (name ∷ names) e = omega arith

  simple : (stmt : Stmt) → stmt_named counts stmt ≡ true → StmtServed (language.Do (language.Own stmt))
  simple stmt e = takes.simples stmt e

  module _ (last : ℕ) where
    abbrev IsServed : Stmt → Type 0
    IsServed stmt = stmt_named counts stmt ≡ true → stmt_counts_whole entries stmt ≡ true → stmt_names_few stmt ≡ true → StmtServed (seen last stmt)

    abbrev AreServed : Arms → Type 0
    AreServed arms = arms_named counts arms ≡ true → arms_whole arms ≡ true → arms_name_few arms ≡ true → ArmsServed (both_arms (seen_both last arms))

    abbrev IsServedWhen : When → Type 0
    IsServedWhen when =
        (when_seen counts when).named ≡ true → when_whole when ≡ true → when_names_few when ≡ true →
        (all (map (test_named counts) (seen_when last when).tests) ≡ true) × StmtsServed (seen_when last when).arm

    abbrev SuchStmt : Type 0
    SuchStmt = (stmt : Stmt) × IsServed stmt

    abbrev SuchArms : Type 0
    SuchArms = (arms : Arms) × AreServed arms

    abbrev SuchWhen : Type 0
    SuchWhen = (when : When) × IsServedWhen when

    abbrev plain : List SuchStmt → List Stmt
    plain stmts = map (λ e. e.0) stmts

    abbrev plain_whens : List SuchWhen → List When
    plain_whens whens = map (λ e. e.0) whens

    abbrev all_whole : List Stmt → Bool
    all_whole stmts = all (map (stmt_counts_whole entries) stmts)

    abbrev all_few : List Stmt → Bool
    all_few stmts = all (map stmt_names_few stmts)

    stmts-served : (xs : List SuchStmt) → stmts_named counts (plain xs) ≡ true → all_whole (plain xs) ≡ true → all_few (plain xs) ≡ true → StmtsServed (seen_stmts last (plain xs))
    stmts-served [] e f g = tt
    stmts-served (x ∷ xs) e f g =
        let h = and_parts (stmt_named counts x.0) (stmts_named counts (plain xs)) e in
        let k = and_parts (stmt_counts_whole entries x.0) (all_whole (plain xs)) f in
        let l = and_parts (stmt_names_few x.0) (all_few (plain xs)) g in
        (x.1 h.0 k.0 l.0, stmts-served xs h.1 k.1 l.1)

    -- those of an arm that isn't empty
    arm-served : (xs : List SuchStmt) → arm (map (stmt_named counts) (plain xs)) ≡ true → all_whole (plain xs) ≡ true → all_few (plain xs) ≡ true → StmtsServed (seen_stmts last (plain xs))
    arm-served xs e = stmts-served xs (and_parts (is_filled (map (stmt_named counts) (plain xs))) (stmts_named counts (plain xs)) e).1

    else-served : (xs : List SuchStmt) → stmts_named counts (plain xs) ≡ true → all_whole (plain xs) ≡ true → all_few (plain xs) ≡ true →
        ArmsServed (arm_before (else_of (map (seen last) (plain xs))) language.done)
    else-served [] e f g = tt
    else-served (x ∷ xs) e f g = (stmts-served (x ∷ xs) e f g, tt)

    abbrev seen_branches : List SuchWhen → List Branch
    seen_branches whens = map (seen_when last) (plain_whens whens)

    abbrev all_named : List SuchWhen → Bool
    all_named whens = all (map (λ when. when.named) (map (when_seen counts) (plain_whens whens)))

    whens-served : (xs : List SuchWhen) (tail : language.Arms) → all_named xs ≡ true → all (map when_whole (plain_whens xs)) ≡ true → all (map when_names_few (plain_whens xs)) ≡ true → ArmsServed tail →
        (all (map (λ each. all (map (test_named counts) each)) (tests_of (seen_branches xs))) ≡ true) × ArmsServed (branches_before (seen_branches xs) tail)
    whens-served [] tail e f g t = (refl, t)
    whens-served (x ∷ xs) tail e f g t =
        let h = and_parts (when_seen counts x.0).named (all_named xs) e in
        let k = and_parts (when_whole x.0) (all (map when_whole (plain_whens xs))) f in
        let l = and_parts (when_names_few x.0) (all (map when_names_few (plain_whens xs))) g in
        let one = x.1 h.0 k.0 l.0 in
        let rest = whens-served xs tail h.1 k.1 l.1 t in
        (both one.0 rest.0, (one.1, rest.1))

    -- what is asked of EVALUATE but for its WHEN OTHER
    evaluate-served : (subject : Subject) (whens : List SuchWhen) (has_other : Bool) (tail : language.Arms) →
        let seen = map (when_seen counts) (plain_whens whens) in
        (subject_named counts subject && (is_filled seen && all_named whens) && fit subject seen) ≡ true →
        all (map when_whole (plain_whens whens)) ≡ true → all (map when_names_few (plain_whens whens)) ≡ true → ArmsServed tail →
        StmtServed (language.Choose (evaluate_of subject (tests_of (seen_branches whens)) has_other) (branches_before (seen_branches whens) tail))
    evaluate-served subject whens has_other tail e f g t =
        let seen = map (when_seen counts) (plain_whens whens) in
        let h = (and_parts (subject_named counts subject && (is_filled seen && all_named whens)) (fit subject seen) e).0 in
        let k = and_parts (subject_named counts subject) (is_filled seen && all_named whens) h in
        let arms = whens-served whens tail (and_parts (is_filled seen) (all_named whens) k.1).1 f g t in
        (picker-served _ _ subject (tests_of (seen_branches whens)) has_other _ k.0 arms.0, arms.1)

    -- ---- each statement, by those that it holds

    abbrev mapped : Stmt-F SuchStmt SuchArms SuchWhen → Stmt-F Stmt Arms When
    mapped = map-Stmt SuchStmt SuchArms SuchWhen Stmt Arms When (λ e. e.0) (λ e. e.0) (λ e. e.0)

    abbrev looked : Stmt-F Stmt Arms When → Bool
    looked y = stmt_step counts (map-Stmt Stmt Arms When Bool Bool named.Branch (stmt_named counts) (arms_named counts) (when_seen counts) y)

    abbrev counted : Stmt-F Stmt Arms When → Bool
    counted y = whole_step entries (map-Stmt Stmt Arms When Bool Bool Bool (stmt_counts_whole entries) arms_whole when_whole y)

    abbrev few : Stmt-F Stmt Arms When → Bool
    few y = few_step (map-Stmt Stmt Arms When Bool Bool Bool stmt_names_few arms_name_few when_names_few y)

    abbrev shown : Stmt-F Stmt Arms When → language.Stmt
    shown y = seen_step last (map-Stmt Stmt Arms When language.Stmt Both Branch (seen last) (seen_both last) (seen_when last) y)

    step-served : (y : Stmt-F SuchStmt SuchArms SuchWhen) → looked (mapped y) ≡ true → counted (mapped y) ≡ true → few (mapped y) ≡ true → StmtServed (shown (mapped y))
    step-served (Stmt-F.Display operands advance) e f g =
        let h = and_parts (is_filled operands) (operands_named counts operands) e in simple _ (made-Display counts operands advance h.0 h.1)
    step-served (Stmt-F.Move from to) e f g =
        let h = and_parts (operand_named counts from) (is_filled to && places_named counts to) e in
        let k = and_parts (is_filled to) (places_named counts to) h.1 in
        move-taken naming kinds told range counts entries takes from to (simple _ (made-Move counts from to h.0 k.0 k.1))
    step-served (Stmt-F.Arith calc into arms) e f g =
        let seen = seen_both last arms.0 in
        let h = and_parts (calc_named counts calc && (is_filled into && all (map (target_named counts) into))) (arms_named counts arms.0) e in
        let k = and_parts (calc_named counts calc) (is_filled into && all (map (target_named counts) into)) h.0 in
        let l = and_parts (is_filled into) (all (map (target_named counts) into)) k.1 in
        arith-served calc into seen.first seen.second k.0 l.0 l.1 (arms.1 h.1 f g)
    step-served (Stmt-F.SetTrue place) e f g = simple _ (made-SetTrue counts place e)
    step-served (Stmt-F.Opens openings) e f g =
        let h = and_parts (is_filled openings) (all (map (opening_named counts) openings)) e in simple _ (made-Opens counts openings h.0 h.1)
    step-served (Stmt-F.Closes files) e f g =
        let h = and_parts (is_filled files) (all (map (file_named counts) files)) e in simple _ (made-Closes counts files h.0 h.1)
    step-served (Stmt-F.Read file into arms) e f g =
        let seen = seen_both last arms.0 in
        let h = and_parts (file_named counts file && if_any (place_named counts) into) (arms_named counts arms.0) e in
        let k = and_parts (file_named counts file) (if_any (place_named counts) into) h.0 in
        read-served file into seen.first seen.second k.0 k.1 (arms.1 h.1 f g)
    step-served (Stmt-F.Write entry from) e f g =
        let h = and_parts (item_named counts entry) (if_any (operand_named counts) from) e in simple _ (made-Write counts entry from h.0 h.1)
    step-served (Stmt-F.Rewrite entry from) e f g =
        let h = and_parts (item_named counts entry) (if_any (operand_named counts) from) e in simple _ (made-Rewrite counts entry from h.0 h.1)
    step-served (Stmt-F.If cond met unmet) e f g =
        let h = and_parts (cond_named counts cond && arm (map (stmt_named counts) (plain met))) (stmts_named counts (plain unmet)) e in
        let k = and_parts (cond_named counts cond) (arm (map (stmt_named counts) (plain met))) h.0 in
        let l = and_parts (all_whole (plain met)) (all_whole (plain unmet)) f in
        let m = and_parts (all_few (plain met)) (all_few (plain unmet)) g in
        (test-taken naming kinds told range counts entries takes cond k.0, (arm-served met k.1 l.0 m.0, else-served unmet h.1 l.1 m.1))
    step-served (Stmt-F.Evaluate subject whens None) e f g =
        evaluate-served subject whens false (language.missing language.done) (and_parts _ true e).0 (and_parts (all (map when_whole (plain_whens whens))) true f).0 (and_parts (all (map when_names_few (plain_whens whens))) true g).0 tt
    step-served (Stmt-F.Evaluate subject whens (Some other)) e f g =
        let h = and_parts _ (arm (map (stmt_named counts) (plain other))) e in
        let k = and_parts (all (map when_whole (plain_whens whens))) (all_whole (plain other)) f in
        let l = and_parts (all (map when_names_few (plain_whens whens))) (all_few (plain other)) g in
        evaluate-served subject whens true (language.given (seen_stmts last (plain other)) language.done) h.0 k.0 l.0 (arm-served other h.1 k.1 l.1, tt)
    step-served (Stmt-F.Loop control body) e f g =
        let h = and_parts (turns control && control_named counts control) (arm (map (stmt_named counts) (plain body))) e in
        let k = and_parts (turns control) (control_named counts control) h.0 in
        let l = and_parts (control_counts_whole entries control) (all_whole (plain body)) f in
        loop-served control (seen_stmts last (plain body)) k.0 (control-taken naming kinds told range counts entries takes control k.1 l.0) (arm-served body h.1 l.1 g)
    step-served (Stmt-F.Perform entry exit control) e f g =
        perform-served (control_in control) entry exit
        (control-taken naming kinds told range counts entries takes control (and_parts (paragraph_named counts entry && paragraph_named counts exit) (control_named counts control) e).1 f)
    step-served (Stmt-F.Go to) e f g = tt
    step-served (Stmt-F.GoDepending to on) e f g =
        let h = and_parts (is_filled to && all (map (paragraph_named counts) to)) (place_named counts on) e in
        let k = and_parts (is_filled to) (all (map (paragraph_named counts) to)) h.0 in
        λ each count first. takes.jumps on (length to) _ h.1 f (some-names to k.0) (ltb-true (length to) (10 ^ 18) g)
    step-served Stmt-F.NextSentence e f g = tt
    step-served Stmt-F.StopRun e f g = tt
    step-served Stmt-F.Exit e f g = simple _ (made-Exit counts)
    step-served Stmt-F.ExitParagraph e f g = tt
    step-served Stmt-F.ExitSection e f g = tt
    step-served (Stmt-F.ExitPerform cycle) e f g = tt
    step-served Stmt-F.Continue e f g = simple _ (made-Continue counts)

    layer : (y : Stmt-F SuchStmt SuchArms SuchWhen) → IsServed (roll-Stmt (mapped y))
    layer y e f g =
        subst StmtServed
        (sym (fold-roll-Stmt language.Stmt Both Branch (seen_step last) both_step branch_step (mapped y)))
        (step-served y
        (sym (fold-roll-Stmt Bool Bool named.Branch (stmt_step counts) (arms_step counts) (when_step counts) (mapped y)) ∙ e)
        (sym (fold-roll-Stmt Bool Bool Bool (whole_step entries) (whole_arms entries) (whole_when entries) (mapped y)) ∙ f)
        (sym (fold-roll-Stmt Bool Bool Bool few_step few_arms few_when (mapped y)) ∙ g))

    -- ---- the arms of READ and arithmetic, and a WHEN

    abbrev mapped_arms : Arms-F SuchStmt SuchArms SuchWhen → Arms-F Stmt Arms When
    mapped_arms = map-Arms SuchStmt SuchArms SuchWhen Stmt Arms When (λ e. e.0) (λ e. e.0) (λ e. e.0)

    arms-by : (arms : Arms-F Stmt Arms When) →
        (arms_step counts (map-Arms Stmt Arms When Bool Bool named.Branch (stmt_named counts) (arms_named counts) (when_seen counts) arms) ≡ true →
        whole_arms entries (map-Arms Stmt Arms When Bool Bool Bool (stmt_counts_whole entries) arms_whole when_whole arms) ≡ true →
        few_arms (map-Arms Stmt Arms When Bool Bool Bool stmt_names_few arms_name_few when_names_few arms) ≡ true →
        ArmsServed (both_arms (both_step (map-Arms Stmt Arms When language.Stmt Both Branch (seen last) (seen_both last) (seen_when last) arms)))) → AreServed (roll-Arms arms)
    arms-by arms h e f g =
        subst (λ s. ArmsServed (both_arms s))
        (sym (fold-roll-Arms language.Stmt Both Branch (seen_step last) both_step branch_step arms))
        (h
        (sym (fold-roll-Arms Bool Bool named.Branch (stmt_step counts) (arms_step counts) (when_step counts) arms) ∙ e)
        (sym (fold-roll-Arms Bool Bool Bool (whole_step entries) (whole_arms entries) (whole_when entries) arms) ∙ f)
        (sym (fold-roll-Arms Bool Bool Bool few_step few_arms few_when arms) ∙ g))

    arms-layer : (first second : Option (List SuchStmt)) → AreServed (roll-Arms (mapped_arms (record { first = first; second = second })))
    arms-layer None None = arms-by (record { first = None; second = None }) (λ e f g. tt)
    arms-layer None (Some second) = arms-by (record { first = None; second = Some (plain second) }) (λ e f g. (arm-served second e f g, tt))
    arms-layer (Some first) None =
        arms-by (record { first = Some (plain first); second = None })
        (λ e f g. (arm-served first (and_parts (arm (map (stmt_named counts) (plain first))) true e).0 (and_parts (all_whole (plain first)) true f).0 (and_parts (all_few (plain first)) true g).0, tt))
    arms-layer (Some first) (Some second) =
        arms-by (record { first = Some (plain first); second = Some (plain second) })
        (λ e f g.
        let h = and_parts (arm (map (stmt_named counts) (plain first))) (arm (map (stmt_named counts) (plain second))) e in
        let k = and_parts (all_whole (plain first)) (all_whole (plain second)) f in
        let l = and_parts (all_few (plain first)) (all_few (plain second)) g in
        (arm-served first h.0 k.0 l.0, (arm-served second h.1 k.1 l.1, tt)))

    when-layer : (tests : List Test) (stmts : List SuchStmt) →
        IsServedWhen (roll-When (map-When SuchStmt SuchArms SuchWhen Stmt Arms When (λ e. e.0) (λ e. e.0) (λ e. e.0) (record { tests = tests; stmts = stmts })))
    when-layer tests stmts e f g =
        let y : When-F Stmt Arms When = record { tests = tests; stmts = plain stmts } in
        let h = and_parts (is_filled tests && all (map (test_named counts) tests)) (arm (map (stmt_named counts) (plain stmts)))
        (sym (ap (λ b. b.named) (fold-roll-When Bool Bool named.Branch (stmt_step counts) (arms_step counts) (when_step counts) y)) ∙ e) in
        let k = sym (fold-roll-When Bool Bool Bool (whole_step entries) (whole_arms entries) (whole_when entries) y) ∙ f in
        let l = sym (fold-roll-When Bool Bool Bool few_step few_arms few_when y) ∙ g in
        subst (λ (b : Branch). (all (map (test_named counts) b.tests) ≡ true) × StmtsServed b.arm)
        (sym (fold-roll-When language.Stmt Both Branch (seen_step last) both_step branch_step y))
        ((and_parts (is_filled tests) (all (map (test_named counts) tests)) h.0).1, arm-served stmts h.1 k l)

    stmt-served : (stmt : Stmt) → IsServed stmt
    stmt-served stmt =
        ind-Stmt IsServed AreServed IsServedWhen
        (λ x y is. subst (λ z. IsServed (roll-Stmt z)) is (layer y))
        (λ x y is. subst (λ z. AreServed (roll-Arms z)) is (arms-layer y.first y.second))
        (λ x y is. subst (λ z. IsServedWhen (roll-When z)) is (when-layer y.tests y.stmts)) stmt

    list-served : (stmts : List Stmt) → stmts_named counts stmts ≡ true → all_whole stmts ≡ true → all_few stmts ≡ true → StmtsServed (seen_stmts last stmts)
    list-served [] e f g = tt
    list-served (stmt ∷ stmts) e f g =
        let h = and_parts (stmt_named counts stmt) (stmts_named counts stmts) e in
        let k = and_parts (stmt_counts_whole entries stmt) (all_whole stmts) f in
        let l = and_parts (stmt_names_few stmt) (all_few stmts) g in
        (stmt-served stmt h.0 k.0 l.0, list-served stmts h.1 k.1 l.1)

    sentences-served : (sentences : List Sentence) → sentences_named counts sentences ≡ true →
        all (map (λ sentence. all (map (stmt_counts_whole entries) sentence.stmts)) sentences) ≡ true →
        all (map (λ sentence. all (map stmt_names_few sentence.stmts)) sentences) ≡ true →
        ParagraphIsServed naming kinds told range (map (seen_sentence last) sentences)
    sentences-served [] e f g = tt
    sentences-served (sentence ∷ sentences) e f g =
        let h = and_parts (sentence_named counts sentence) (sentences_named counts sentences) e in
        let s = and_parts (is_filled sentence.stmts) (stmts_named counts sentence.stmts) h.0 in
        let k = and_parts (all_whole sentence.stmts) (all (map (λ sentence. all (map (stmt_counts_whole entries) sentence.stmts)) sentences)) f in
        let l = and_parts (all_few sentence.stmts) (all (map (λ sentence. all (map stmt_names_few sentence.stmts)) sentences)) g in
        (inl (list-served sentence.stmts s.1 k.0 l.0), sentences-served sentences h.1 k.1 l.1)

  -- ---- paragraphs

  abbrev paragraph_whole : Paragraph → Bool
  paragraph_whole paragraph = all (map (λ sentence. all (map (stmt_counts_whole entries) sentence.stmts)) paragraph.sentences)

  abbrev paragraph_few : Paragraph → Bool
  paragraph_few paragraph = all (map (λ sentence. all (map stmt_names_few sentence.stmts)) paragraph.sentences)

  pub paragraphs-served : (number : ℕ) (paragraphs : List Paragraph) → paragraphs_named counts paragraphs ≡ true → all (map paragraph_whole paragraphs) ≡ true → all (map paragraph_few paragraphs) ≡ true →
      ParagraphsAreServed naming kinds told range (seen_paragraphs number paragraphs)
  paragraphs-served number [] e f g = tt
  paragraphs-served number (paragraph ∷ others) e f g =
      let h = and_parts (sentences_named counts paragraph.sentences) (paragraphs_named counts others) e in
      let k = and_parts (paragraph_whole paragraph) (all (map paragraph_whole others)) f in
      let l = and_parts (paragraph_few paragraph) (all (map paragraph_few others)) g in
      (sentences-served (section_last number others) paragraph.sentences h.0 k.0 l.0, paragraphs-served (suc number) others h.1 k.1 l.1)
