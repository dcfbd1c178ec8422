-- Of own items control makes no word on an added one: statements.
use Rattle.std.proofs.Common.{◌≡◌, ℕ, suc, Bool, true, ◌&&◌, List, [], ◌∷◌, map, Option, Some, None, refl, sym, ◌∙◌, subst}
use Rattle.std.proofs.lemmas.Bool.{and_parts}
use Rattle.cob_tree.specs.declared.calc.Calc.{Calc}
use Rattle.cob_tree.specs.declared.calc.Target.{Target}
use Rattle.cob_tree.specs.declared.choice.Test.{Test}
use Rattle.cob_tree.specs.declared.program.Sentence.{Sentence}
use Rattle.cob_tree.specs.declared.program.Paragraph.{Paragraph}
use Rattle.cob_tree.specs.declared.stmt.Arms.{Arms, roll-Arms, map-Arms, fold-roll-Arms}
use Rattle.cob_tree.specs.declared.stmt.When.{When, roll-When, map-When, fold-roll-When}
use Rattle.cob_tree.specs.declared.stmt.Stmt.{Stmt, ind-Stmt, map-Stmt, roll-Stmt, fold-roll-Stmt}
use Rattle.cob_tree.specs.declared.stmt.Stmt.TheOpen.{Stmt-F, Arms-F, When-F}
use Rattle.control_flow_theory.specs.language.Language as language
use Rattle.control_flow_theory.specs.language.All.{all}
use Rattle.control_flow_theory.specs.language.Control.{arith_of, arith_stmt, arm_before, else_of, control_in, loop_of, perform_of, Branch, branches_before, Both, both_arms, both_step, branch_step, seen_step, seen, seen_when, seen_both, seen_stmts, seen_sentence, section_last, seen_paragraphs}
use Rattle.control_flow_theory.specs.language.Own.{OwnAct, OwnStmt, OwnStmts, OwnArms, OwnParagraph, OwnParagraphs}
use Rattle.control_flow_theory.specs.language.OwnItems.{operand_own, place_own, option_own, places_own, cond_own, control_own, calc_own, target_own, subject_own, test_own, stmt_step, arms_step, when_step, stmt_own, arms_own, when_own, stmts_own, sentences_own, paragraphs_own}
use Rattle.control_flow_theory.proofs.language_lemmas.OwnCells.{cond-own, move-own, arith-own, evaluate-own, OwnTurns, control-own}

-- Statements with parts that are own.

arith_stmt-own : (calc : Calc) (into : List Target) (first second : Option language.Stmts) → OwnAct (arith_of calc into) →
    OwnArms (both_arms (record { first = first; second = second })) → OwnStmt (arith_stmt calc into (record { first = first; second = second }))
arith_stmt-own calc into None None act arms = act
arith_stmt-own calc into None (Some second) act arms = (tt, arms)
arith_stmt-own calc into (Some first) None act arms = (tt, arms)
arith_stmt-own calc into (Some first) (Some second) act arms = (tt, arms)

loop-own : (turns : Option language.Control) (body : language.Stmts) → OwnTurns turns → OwnStmts body → OwnStmt (loop_of turns body)
loop-own None body h b = (tt, (b, tt))
loop-own (Some turns) body h b = (h, b)

perform-own : (turns : Option language.Control) (entry exit : ℕ) → OwnTurns turns → OwnStmt (perform_of turns entry exit)
perform-own None entry exit h = tt
perform-own (Some turns) entry exit h = (h, tt)

module _ (last : ℕ) where
  abbrev IsOwn : Stmt → Type 0
  IsOwn stmt = stmt_own stmt ≡ true → OwnStmt (seen last stmt)

  abbrev AreOwn : Arms → Type 0
  AreOwn arms = arms_own arms ≡ true → OwnArms (both_arms (seen_both last arms))

  abbrev IsOwnWhen : When → Type 0
  IsOwnWhen when = when_own when ≡ true → OwnStmts (seen_when last when).arm

  abbrev SuchStmt : Type 0
  SuchStmt = (stmt : Stmt) × IsOwn stmt

  abbrev SuchArms : Type 0
  SuchArms = (arms : Arms) × AreOwn arms

  abbrev SuchWhen : Type 0
  SuchWhen = (when : When) × IsOwnWhen when

  abbrev plain : List SuchStmt → List Stmt
  plain stmts = map (λ e. e.0) stmts

  abbrev plain_whens : List SuchWhen → List When
  plain_whens whens = map (λ e. e.0) whens

  stmts_own_of : (xs : List SuchStmt) → stmts_own (plain xs) ≡ true → OwnStmts (seen_stmts last (plain xs))
  stmts_own_of [] e = tt
  stmts_own_of (x ∷ xs) e =
      let h = and_parts (stmt_own x.0) (stmts_own (plain xs)) e in
      (x.1 h.0, stmts_own_of xs h.1)

  else_own_of : (xs : List SuchStmt) → stmts_own (plain xs) ≡ true → OwnArms (arm_before (else_of (map (seen last) (plain xs))) language.done)
  else_own_of [] e = tt
  else_own_of (x ∷ xs) e = (stmts_own_of (x ∷ xs) e, tt)

  whens_own_of : (xs : List SuchWhen) (tail : language.Arms) → all (map when_own (plain_whens xs)) ≡ true → OwnArms tail →
      OwnArms (branches_before (map (seen_when last) (plain_whens xs)) tail)
  whens_own_of [] tail e h = h
  whens_own_of (x ∷ xs) tail e h =
      let k = and_parts (when_own x.0) (all (map when_own (plain_whens xs))) e in
      (x.1 k.0, whens_own_of xs tail k.1 h)

  -- each statement, by those that it holds

  abbrev mapped : Stmt-F SuchStmt SuchArms SuchWhen → Stmt-F Stmt Arms When
  mapped = map-Stmt SuchStmt SuchArms SuchWhen Stmt Arms When (λ e. e.0) (λ e. e.0) (λ e. e.0)

  abbrev tested : Stmt-F Stmt Arms When → Bool
  tested y = stmt_step (map-Stmt Stmt Arms When Bool Bool Bool stmt_own arms_own when_own y)

  abbrev shown : Stmt-F Stmt Arms When → language.Stmt
  shown y = seen_step last (map-Stmt Stmt Arms When language.Stmt Both Branch (seen last) (seen_both last) (seen_when last) y)

  step_own : (y : Stmt-F SuchStmt SuchArms SuchWhen) → tested (mapped y) ≡ true → OwnStmt (shown (mapped y))
  step_own (Stmt-F.Display items advance) e = tt
  step_own (Stmt-F.Move from to) e = move-own from to (and_parts (operand_own from) (places_own to) e).1
  step_own (Stmt-F.Arith calc into arms) e =
      let both = seen_both last arms.0 in
      let h = and_parts (calc_own calc && all (map target_own into)) (arms_own arms.0) e in
      let k = and_parts (calc_own calc) (all (map target_own into)) h.0 in
      arith_stmt-own calc into both.first both.second (arith-own calc into k.1) (arms.1 h.1)
  step_own (Stmt-F.SetTrue place) e = tt
  step_own (Stmt-F.Opens openings) e = tt
  step_own (Stmt-F.Closes files) e = tt
  step_own (Stmt-F.Read file into arms) e = (tt, arms.1 (and_parts (option_own place_own into) (arms_own arms.0) e).1)
  step_own (Stmt-F.Write entry from) e = tt
  step_own (Stmt-F.Rewrite entry from) e = tt
  step_own (Stmt-F.If cond met unmet) e =
      let h = and_parts (cond_own cond && stmts_own (plain met)) (stmts_own (plain unmet)) e in
      let k = and_parts (cond_own cond) (stmts_own (plain met)) h.0 in
      (cond-own cond k.0, (stmts_own_of met k.1, else_own_of unmet h.1))
  step_own (Stmt-F.Evaluate subject whens None) e =
      let h = and_parts (subject_own subject && all (map when_own (plain_whens whens))) true e in
      let k = and_parts (subject_own subject) (all (map when_own (plain_whens whens))) h.0 in
      (evaluate-own subject _ _ k.0, whens_own_of whens (language.missing language.done) k.1 tt)
  step_own (Stmt-F.Evaluate subject whens (Some other)) e =
      let h = and_parts (subject_own subject && all (map when_own (plain_whens whens))) (stmts_own (plain other)) e in
      let k = and_parts (subject_own subject) (all (map when_own (plain_whens whens))) h.0 in
      (evaluate-own subject _ _ k.0, whens_own_of whens (language.given (seen_stmts last (plain other)) language.done) k.1 (stmts_own_of other h.1, tt))
  step_own (Stmt-F.Loop turns body) e =
      let h = and_parts (control_own turns) (stmts_own (plain body)) e in
      loop-own (control_in turns) (seen_stmts last (plain body)) (control-own turns h.0) (stmts_own_of body h.1)
  step_own (Stmt-F.Perform entry exit turns) e = perform-own (control_in turns) entry exit (control-own turns e)
  step_own (Stmt-F.Go to) e = tt
  step_own (Stmt-F.GoDepending to on) e = tt
  step_own Stmt-F.NextSentence e = tt
  step_own Stmt-F.StopRun e = tt
  step_own Stmt-F.Exit e = tt
  step_own Stmt-F.ExitParagraph e = tt
  step_own Stmt-F.ExitSection e = tt
  step_own (Stmt-F.ExitPerform cycle) e = tt
  step_own Stmt-F.Continue e = tt

  layer : (y : Stmt-F SuchStmt SuchArms SuchWhen) → IsOwn (roll-Stmt (mapped y))
  layer y e =
      subst OwnStmt (sym (fold-roll-Stmt language.Stmt Both Branch (seen_step last) both_step branch_step (mapped y)))
      (step_own y (sym (fold-roll-Stmt Bool Bool Bool stmt_step arms_step when_step (mapped y)) ∙ e))

  -- the arms of READ and arithmetic, and a WHEN

  abbrev mapped_arms : Arms-F SuchStmt SuchArms SuchWhen → Arms-F Stmt Arms When
  mapped_arms = map-Arms SuchStmt SuchArms SuchWhen Stmt Arms When (λ e. e.0) (λ e. e.0) (λ e. e.0)

  arms_by : (arms : Arms-F Stmt Arms When) (own : Bool) (both : Both) →
      arms_step (map-Arms Stmt Arms When Bool Bool Bool stmt_own arms_own when_own arms) ≡ own →
      both_step (map-Arms Stmt Arms When language.Stmt Both Branch (seen last) (seen_both last) (seen_when last) arms) ≡ both →
      (own ≡ true → OwnArms (both_arms both)) → AreOwn (roll-Arms arms)
  arms_by arms own both o b h e =
      subst (λ s. OwnArms (both_arms s)) (sym (fold-roll-Arms language.Stmt Both Branch (seen_step last) both_step branch_step arms ∙ b))
      (h (sym (fold-roll-Arms Bool Bool Bool stmt_step arms_step when_step arms ∙ o) ∙ e))

  arms_layer : (first second : Option (List SuchStmt)) → AreOwn (roll-Arms (mapped_arms (record { first = first; second = second })))
  arms_layer None None = arms_by _ true (record { first = None; second = None }) refl refl (λ e. tt)
  arms_layer None (Some second) =
      arms_by _ (stmts_own (plain second)) (record { first = None; second = Some (seen_stmts last (plain second)) }) refl refl (λ e. (stmts_own_of second e, tt))
  arms_layer (Some first) None =
      arms_by _ (stmts_own (plain first) && true) (record { first = Some (seen_stmts last (plain first)); second = None }) refl refl
      (λ e. (stmts_own_of first (and_parts (stmts_own (plain first)) true e).0, tt))
  arms_layer (Some first) (Some second) =
      arms_by _ (stmts_own (plain first) && stmts_own (plain second))
      (record { first = Some (seen_stmts last (plain first)); second = Some (seen_stmts last (plain second)) }) refl refl
      (λ e. let h = and_parts (stmts_own (plain first)) (stmts_own (plain second)) e in (stmts_own_of first h.0, (stmts_own_of second h.1, tt)))

  when_layer : (tests : List Test) (stmts : List SuchStmt) → IsOwnWhen (roll-When (map-When SuchStmt SuchArms SuchWhen Stmt Arms When (λ e. e.0) (λ e. e.0) (λ e. e.0) (record { tests = tests; stmts = stmts })))
  when_layer tests stmts e =
      let y : When-F Stmt Arms When = record { tests = tests; stmts = plain stmts } in
      let h = and_parts (all (map test_own tests)) (stmts_own (plain stmts)) (sym (fold-roll-When Bool Bool Bool stmt_step arms_step when_step y) ∙ e) in
      subst (λ (b : Branch). OwnStmts b.arm) (sym (fold-roll-When language.Stmt Both Branch (seen_step last) both_step branch_step y)) (stmts_own_of stmts h.1)

  stmt-own : (stmt : Stmt) → IsOwn stmt
  stmt-own stmt =
      ind-Stmt IsOwn AreOwn IsOwnWhen
      (λ x y is. subst (λ z. IsOwn (roll-Stmt z)) is (layer y))
      (λ x y is. subst (λ z. AreOwn (roll-Arms z)) is (arms_layer y.first y.second))
      (λ x y is. subst (λ z. IsOwnWhen (roll-When z)) is (when_layer y.tests y.stmts)) stmt

  stmts-own : (stmts : List Stmt) → stmts_own stmts ≡ true → OwnStmts (seen_stmts last stmts)
  stmts-own [] e = tt
  stmts-own (stmt ∷ stmts) e =
      let h = and_parts (stmt_own stmt) (stmts_own stmts) e in
      (stmt-own stmt h.0, stmts-own stmts h.1)

  pub sentences-own : (sentences : List Sentence) → sentences_own sentences ≡ true → OwnParagraph (map (seen_sentence last) sentences)
  sentences-own [] e = tt
  sentences-own (sentence ∷ sentences) e =
      let h = and_parts (stmts_own sentence.stmts) (sentences_own sentences) e in
      (stmts-own sentence.stmts h.0, sentences-own sentences h.1)

pub paragraphs-own : (number : ℕ) (paragraphs : List Paragraph) → paragraphs_own paragraphs ≡ true → OwnParagraphs (seen_paragraphs number paragraphs)
paragraphs-own number [] e = tt
paragraphs-own number (paragraph ∷ others) e =
    let h = and_parts (sentences_own paragraph.sentences) (paragraphs_own others) e in
    (sentences-own (section_last number others) paragraph.sentences h.0, paragraphs-own (suc number) others h.1)
