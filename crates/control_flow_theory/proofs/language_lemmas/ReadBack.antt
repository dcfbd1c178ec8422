-- A statement in which no word on an added item stands is read back from its control.
use Rattle.std.proofs.Common.{◌≡◌, ℕ, Bool, true, false, List, [], ◌∷◌, map, Option, Some, None, refl, ap, sym, ◌∙◌, subst}
use Rattle.cob_tree.specs.declared.calc.Calc.{Calc}
use Rattle.cob_tree.specs.declared.calc.Target.{Target}
use Rattle.cob_tree.specs.declared.choice.Subject.{Subject}
use Rattle.cob_tree.specs.declared.choice.Test.{Test}
use Rattle.cob_tree.specs.declared.cond.Cond.{Cond}
use Rattle.cob_tree.specs.declared.control.Control.{Control}
use Rattle.cob_tree.specs.declared.control.Control.TheVariants as control
use Rattle.cob_tree.specs.declared.place.Operand.{Operand}
use Rattle.cob_tree.specs.declared.place.Place.{Place}
use Rattle.cob_tree.specs.declared.stmt.Arms.{Arms, roll-Arms, map-Arms, fold-roll-Arms}
use Rattle.cob_tree.specs.declared.stmt.When.{When, roll-When, map-When, fold-roll-When}
use Rattle.cob_tree.specs.declared.stmt.Stmt.{Stmt, ind-Stmt, map-Stmt, roll-Stmt, out-Stmt, out-roll-Stmt}
use Rattle.cob_tree.specs.declared.stmt.Stmt.TheOpen.{Stmt-F}
use Rattle.cob_tree.specs.declared.stmt.Stmt.TheVariants.{If, Evaluate, Loop, Perform, Read, Arith, Move, rolls-Display, rolls-Move, rolls-Arith, rolls-SetTrue, rolls-Opens, rolls-Closes, rolls-Read, rolls-Write, rolls-Rewrite, rolls-If, rolls-Evaluate, rolls-Loop, rolls-Perform, rolls-Go, rolls-GoDepending, rolls-NextSentence, rolls-StopRun, rolls-Exit, rolls-ExitParagraph, rolls-ExitSection, rolls-ExitPerform, rolls-Continue}
use Rattle.control_flow_theory.specs.language.Language as language
use Rattle.control_flow_theory.specs.language.Control.{cell_of, number_written, setting, move_to, move_of, bare, arith_act, lowered_cell, arith_stmt, picker_by, count_from, cell_chosen, evaluate_of, test_of, augmenting, control_in, loop_of, perform_of, Branch, tests_of, branches_before, arm_before, else_of, Both, both_arms, both_step, branch_step, seen_step, seen, seen_when, seen_both, seen_stmts}
use Rattle.control_flow_theory.specs.language.Own.{OwnAct, OwnPicker, OwnStmt, OwnStmts, OwnArms}
use Rattle.control_flow_theory.proofs.language_lemmas.Rows.{seen_display, seen_move, seen_arith, seen_set_true, seen_opens, seen_closes, seen_read, seen_write, seen_rewrite, seen_if, seen_evaluate, seen_loop, seen_perform, seen_go, seen_go_depending, seen_next_sentence, seen_stop_run, seen_exit, seen_exit_paragraph, seen_exit_section, seen_exit_perform, seen_continue}
use Rattle.control_flow_theory.proofs.language_lemmas.Unseen.{cond_of, simple_of, varying_by, Parts, parts_of, both_back, unseen, unseen_stmts, unseen_arms}
use Rattle.control_flow_theory.proofs.language_lemmas.Conditions.{cond-back}

-- Acts, choices and loops.

setting-own : (value : Option ℕ) (from : Operand) (cell : ℕ) → OwnAct (setting value from cell) → ⊥
setting-own None from cell own = own
setting-own (Some value) from cell own = own

move_to-back : (cell : Option ℕ) (from : Operand) (to : Place) → OwnAct (move_to cell from to) → simple_of (move_to cell from to) ≡ Move from (to ∷ [])
move_to-back None from to own = refl
move_to-back (Some cell) from to own = absurd (setting-own (number_written from) from cell own)

move-back : (from : Operand) (to : List Place) → OwnAct (move_of from to) → simple_of (move_of from to) ≡ Move from to
move-back from [] own = refl
move-back from (to ∷ []) own = move_to-back (cell_of to) from to own
move-back from (to ∷ next ∷ others) own = refl

arith_act-back : (cell : Option ℕ) (calc : Calc) (into : List Target) → OwnAct (arith_act cell calc into) → simple_of (arith_act cell calc into) ≡ Arith calc into bare
arith_act-back None calc into own = refl
arith_act-back (Some cell) calc into own = absurd own

picker-own : (cell : Option ℕ) (counted : Bool) (chooser : language.Chooser) → OwnPicker (picker_by cell counted chooser) → picker_by cell counted chooser ≡ language.By chooser
picker-own None counted chooser own = refl
picker-own (Some cell) false chooser own = refl
picker-own (Some cell) true chooser own = absurd own

varying-back : (after : Bool) (item : Place) (from by : Operand) (until : Cond) → varying_by after (out-Stmt (Move from (item ∷ []))) (out-Stmt (augmenting item by)) until ≡ control.Varying after item from by until
varying-back after item from by until =
    ap (λ m. varying_by after m (out-Stmt (augmenting item by)) until) (ap out-Stmt (sym (rolls-Move from (item ∷ []))) ∙ out-roll-Stmt (Stmt-F.Move from (item ∷ [])))
    ∙ ap (λ a. varying_by after (Stmt-F.Move from (item ∷ [])) a until) (ap out-Stmt (sym (rolls-Arith _ _ bare)) ∙ out-roll-Stmt (Stmt-F.Arith _ _ bare))

-- arithmetic without phrases acts, and else chooses
arith_by : (calc : Calc) (into : List Target) (arms : Arms) (first second : Option language.Stmts) →
    (OwnArms (both_arms (record { first = first; second = second })) → both_back (unseen_arms (both_arms (record { first = first; second = second }))) ≡ arms) →
    OwnStmt (arith_stmt calc into (record { first = first; second = second })) → unseen (arith_stmt calc into (record { first = first; second = second })) ≡ Arith calc into arms
arith_by calc into arms None None kept own = arith_act-back (lowered_cell calc into) calc into own ∙ ap (Arith calc into) (kept tt)
arith_by calc into arms None (Some second) kept own = ap (Arith calc into) (kept own.1)
arith_by calc into arms (Some first) None kept own = ap (Arith calc into) (kept own.1)
arith_by calc into arms (Some first) (Some second) kept own = ap (Arith calc into) (kept own.1)

module _ (last : ℕ) where
  abbrev KeptStmt : Stmt → Type 0
  KeptStmt stmt = OwnStmt (seen last stmt) → unseen (seen last stmt) ≡ stmt

  abbrev KeptArms : Arms → Type 0
  KeptArms arms = OwnArms (both_arms (seen_both last arms)) → both_back (unseen_arms (both_arms (seen_both last arms))) ≡ arms

  abbrev KeptWhen : When → Type 0
  KeptWhen when = OwnStmts (seen_when last when).arm → roll-When (record { tests = (seen_when last when).tests; stmts = unseen_stmts (seen_when last when).arm }) ≡ when

  abbrev SuchStmt : Type 0
  SuchStmt = (stmt : Stmt) × KeptStmt stmt

  abbrev SuchArms : Type 0
  SuchArms = (arms : Arms) × KeptArms arms

  abbrev SuchWhen : Type 0
  SuchWhen = (when : When) × KeptWhen when

  abbrev plain : List SuchStmt → List Stmt
  plain stmts = map (λ e. e.0) stmts

  abbrev plain_whens : List SuchWhen → List When
  plain_whens whens = map (λ e. e.0) whens

  via : (stmt : Stmt) (shown : language.Stmt) → seen last stmt ≡ shown → (OwnStmt shown → unseen shown ≡ stmt) → KeptStmt stmt
  via stmt shown e back own = ap unseen e ∙ back (subst OwnStmt e own)

  -- lists

  stmts_back : (xs : List SuchStmt) → OwnStmts (seen_stmts last (plain xs)) → unseen_stmts (seen_stmts last (plain xs)) ≡ plain xs
  stmts_back [] own = refl
  stmts_back (x ∷ xs) own =
      ap (λ s. s ∷ unseen_stmts (seen_stmts last (plain xs))) (x.1 own.0) ∙ ap (λ ss. x.0 ∷ ss) (stmts_back xs own.1)

  if_kept : (cond : Cond) (met unmet : List SuchStmt) → OwnStmt (language.Choose (language.If (test_of cond)) (language.given (seen_stmts last (plain met)) (arm_before (else_of (map (seen last) (plain unmet))) language.done))) →
      unseen (language.Choose (language.If (test_of cond)) (language.given (seen_stmts last (plain met)) (arm_before (else_of (map (seen last) (plain unmet))) language.done))) ≡ If cond (plain met) (plain unmet)
  if_kept cond met [] own =
      ap (λ c. If c (unseen_stmts (seen_stmts last (plain met))) []) (cond-back cond own.0) ∙ ap (λ m. If cond m []) (stmts_back met own.1.0)
  if_kept cond met (u ∷ us) own =
      ap (λ c. If c (unseen_stmts (seen_stmts last (plain met))) (unseen_stmts (seen_stmts last (plain (u ∷ us))))) (cond-back cond own.0)
      ∙ ap (λ m. If cond m (unseen_stmts (seen_stmts last (plain (u ∷ us))))) (stmts_back met own.1.0)
      ∙ ap (If cond (plain met)) (stmts_back (u ∷ us) own.1.1.0)

  -- loops

  loop_kept : (turns : Control) (body : List SuchStmt) → OwnStmt (loop_of (control_in turns) (seen_stmts last (plain body))) → unseen (loop_of (control_in turns) (seen_stmts last (plain body))) ≡ Loop turns (plain body)
  loop_kept control.Once body own = ap (Loop control.Once) (stmts_back body own.1.0)
  loop_kept (control.Times amount) body own = ap (Loop (control.Times amount)) (stmts_back body own.1)
  loop_kept (control.Until after cond) body own =
      ap (λ c. Loop (control.Until after c) (unseen_stmts (seen_stmts last (plain body)))) (cond-back cond own.0)
      ∙ ap (Loop (control.Until after cond)) (stmts_back body own.1)
  loop_kept (control.Varying after item from by cond) body own =
      ap (λ t. Loop t (unseen_stmts (seen_stmts last (plain body)))) (varying-back after item from by (cond_of (test_of cond)))
      ∙ ap (λ c. Loop (control.Varying after item from by c) (unseen_stmts (seen_stmts last (plain body)))) (cond-back cond own.0.2)
      ∙ ap (Loop (control.Varying after item from by cond)) (stmts_back body own.1)

  perform_kept : (entry exit : ℕ) (turns : Control) → OwnStmt (perform_of (control_in turns) entry exit) → unseen (perform_of (control_in turns) entry exit) ≡ Perform entry exit turns
  perform_kept entry exit control.Once own = refl
  perform_kept entry exit (control.Times amount) own = refl
  perform_kept entry exit (control.Until after cond) own = ap (λ c. Perform entry exit (control.Until after c)) (cond-back cond own.0)
  perform_kept entry exit (control.Varying after item from by cond) own =
      ap (Perform entry exit) (varying-back after item from by (cond_of (test_of cond)))
      ∙ ap (λ c. Perform entry exit (control.Varying after item from by c)) (cond-back cond own.0.2)

  -- statements with arms

  -- without phrases nothing is lost
  arith_kept : (calc : Calc) (into : List Target) (arms : Arms) (both : Both) → (OwnArms (both_arms both) → both_back (unseen_arms (both_arms both)) ≡ arms) →
      OwnStmt (arith_stmt calc into both) → unseen (arith_stmt calc into both) ≡ Arith calc into arms
  arith_kept calc into arms both kept own = arith_by calc into arms both.first both.second kept own

  whens_kept : (whens : List SuchWhen) (tail : language.Arms) (other : Option (List Stmt)) →
      OwnArms (branches_before (map (seen_when last) (plain_whens whens)) tail) → (OwnArms tail → parts_of [] (unseen_arms tail) ≡ record { whens = []; other = other }) →
      parts_of (tests_of (map (seen_when last) (plain_whens whens))) (unseen_arms (branches_before (map (seen_when last) (plain_whens whens)) tail)) ≡ record { whens = plain_whens whens; other = other }
  whens_kept [] tail other own h = h own
  whens_kept (w ∷ ws) tail other own h =
      ap (λ (w' : When). record { whens = w' ∷ (parts_of (tests_of (map (seen_when last) (plain_whens ws))) (unseen_arms (branches_before (map (seen_when last) (plain_whens ws)) tail))).whens; other = (parts_of (tests_of (map (seen_when last) (plain_whens ws))) (unseen_arms (branches_before (map (seen_when last) (plain_whens ws)) tail))).other }) (w.1 own.0)
      ∙ ap (λ (p : Parts). record { whens = w.0 ∷ p.whens; other = p.other }) (whens_kept ws tail other own.1 h)

  evaluate_kept : (subject : Subject) (whens : List SuchWhen) (has : Bool) (tail : language.Arms) (other : Option (List Stmt)) →
      (OwnArms tail → parts_of [] (unseen_arms tail) ≡ record { whens = []; other = other }) →
      OwnStmt (language.Choose (evaluate_of subject (tests_of (map (seen_when last) (plain_whens whens))) has) (branches_before (map (seen_when last) (plain_whens whens)) tail)) →
      unseen (language.Choose (evaluate_of subject (tests_of (map (seen_when last) (plain_whens whens))) has) (branches_before (map (seen_when last) (plain_whens whens)) tail)) ≡ Evaluate subject (plain_whens whens) other
  evaluate_kept subject whens has tail other h own =
      let tests = tests_of (map (seen_when last) (plain_whens whens)) in
      let arms = branches_before (map (seen_when last) (plain_whens whens)) tail in
      ap (λ p. unseen (language.Choose p arms)) (picker-own (cell_chosen subject) (count_from 1 tests) (language.Evaluate subject tests has) own.0)
      ∙ ap (λ (p : Parts). Evaluate subject p.whens p.other) (whens_kept whens tail other own.1 h)

  -- each statement, by those that it holds

  layer : (y : Stmt-F SuchStmt SuchArms SuchWhen) → KeptStmt (roll-Stmt (map-Stmt SuchStmt SuchArms SuchWhen Stmt Arms When (λ e. e.0) (λ e. e.0) (λ e. e.0) y))
  layer (Stmt-F.Display items advance) = subst KeptStmt (sym (rolls-Display items advance)) (via _ _ (seen_display last items advance) (λ own. refl))
  layer (Stmt-F.SetTrue place) = subst KeptStmt (sym (rolls-SetTrue place)) (via _ _ (seen_set_true last place) (λ own. refl))
  layer (Stmt-F.Opens openings) = subst KeptStmt (sym (rolls-Opens openings)) (via _ _ (seen_opens last openings) (λ own. refl))
  layer (Stmt-F.Closes files) = subst KeptStmt (sym (rolls-Closes files)) (via _ _ (seen_closes last files) (λ own. refl))
  layer (Stmt-F.Write entry from) = subst KeptStmt (sym (rolls-Write entry from)) (via _ _ (seen_write last entry from) (λ own. refl))
  layer (Stmt-F.Rewrite entry from) = subst KeptStmt (sym (rolls-Rewrite entry from)) (via _ _ (seen_rewrite last entry from) (λ own. refl))
  layer (Stmt-F.Go to) = subst KeptStmt (sym (rolls-Go to)) (via _ _ (seen_go last to) (λ own. refl))
  layer (Stmt-F.GoDepending to on) = subst KeptStmt (sym (rolls-GoDepending to on)) (via _ _ (seen_go_depending last to on) (λ own. refl))
  layer Stmt-F.NextSentence = subst KeptStmt (sym rolls-NextSentence) (via _ _ (seen_next_sentence last) (λ own. refl))
  layer Stmt-F.StopRun = subst KeptStmt (sym rolls-StopRun) (via _ _ (seen_stop_run last) (λ own. refl))
  layer Stmt-F.Exit = subst KeptStmt (sym rolls-Exit) (via _ _ (seen_exit last) (λ own. refl))
  layer Stmt-F.ExitParagraph = subst KeptStmt (sym rolls-ExitParagraph) (via _ _ (seen_exit_paragraph last) (λ own. refl))
  layer Stmt-F.ExitSection = subst KeptStmt (sym rolls-ExitSection) (via _ _ (seen_exit_section last) (λ own. refl))
  layer (Stmt-F.ExitPerform cycle) = subst KeptStmt (sym (rolls-ExitPerform cycle)) (via _ _ (seen_exit_perform last cycle) (λ own. refl))
  layer Stmt-F.Continue = subst KeptStmt (sym rolls-Continue) (via _ _ (seen_continue last) (λ own. refl))
  layer (Stmt-F.Move from to) = subst KeptStmt (sym (rolls-Move from to)) (via _ _ (seen_move last from to) (move-back from to))
  layer (Stmt-F.Arith calc into arms) =
      subst KeptStmt (sym (rolls-Arith calc into arms.0)) (via _ _ (seen_arith last calc into arms.0) (arith_kept calc into arms.0 (seen_both last arms.0) arms.1))
  layer (Stmt-F.Read file into arms) =
      subst KeptStmt (sym (rolls-Read file into arms.0)) (via _ _ (seen_read last file into arms.0) (λ own. ap (Read file into) (arms.1 own.1)))
  layer (Stmt-F.If cond met unmet) =
      subst KeptStmt (sym (rolls-If cond (plain met) (plain unmet))) (via _ _ (seen_if last cond (plain met) (plain unmet)) (if_kept cond met unmet))
  layer (Stmt-F.Evaluate subject whens None) =
      subst KeptStmt (sym (rolls-Evaluate subject (plain_whens whens) None))
      (via _ _ (seen_evaluate last subject (plain_whens whens) None) (evaluate_kept subject whens false (language.missing language.done) None (λ own. refl)))
  layer (Stmt-F.Evaluate subject whens (Some other)) =
      subst KeptStmt (sym (rolls-Evaluate subject (plain_whens whens) (Some (plain other))))
      (via _ _ (seen_evaluate last subject (plain_whens whens) (Some (plain other)))
      (evaluate_kept subject whens true (language.given (seen_stmts last (plain other)) language.done) (Some (plain other))
      (λ own. ap (λ ss. record { whens = []; other = Some ss }) (stmts_back other own.0))))
  layer (Stmt-F.Loop control body) =
      subst KeptStmt (sym (rolls-Loop control (plain body))) (via _ _ (seen_loop last control (plain body)) (loop_kept control body))
  layer (Stmt-F.Perform entry exit control) =
      subst KeptStmt (sym (rolls-Perform entry exit control)) (via _ _ (seen_perform last entry exit control) (perform_kept entry exit control))

  -- the arms of READ and arithmetic, and a WHEN

  arms_via : (arms : Arms) (both : Both) → seen_both last arms ≡ both → (OwnArms (both_arms both) → both_back (unseen_arms (both_arms both)) ≡ arms) → KeptArms arms
  arms_via arms both e back own = ap (λ b. both_back (unseen_arms (both_arms b))) e ∙ back (subst (λ b. OwnArms (both_arms b)) e own)

  both_layer : (first second : Option (List SuchStmt)) → KeptArms (roll-Arms (map-Arms SuchStmt SuchArms SuchWhen Stmt Arms When (λ e. e.0) (λ e. e.0) (λ e. e.0) (record { first = first; second = second })))
  both_layer None None =
      arms_via _ _ (fold-roll-Arms language.Stmt Both Branch (seen_step last) both_step branch_step (record { first = None; second = None })) (λ own. refl)
  both_layer None (Some second) =
      arms_via _ _ (fold-roll-Arms language.Stmt Both Branch (seen_step last) both_step branch_step (record { first = None; second = Some (plain second) }))
      (λ own. ap (λ ss. roll-Arms (record { first = None; second = Some ss })) (stmts_back second own.0))
  both_layer (Some first) None =
      arms_via _ _ (fold-roll-Arms language.Stmt Both Branch (seen_step last) both_step branch_step (record { first = Some (plain first); second = None }))
      (λ own. ap (λ ss. roll-Arms (record { first = Some ss; second = None })) (stmts_back first own.0))
  both_layer (Some first) (Some second) =
      arms_via _ _ (fold-roll-Arms language.Stmt Both Branch (seen_step last) both_step branch_step (record { first = Some (plain first); second = Some (plain second) }))
      (λ own. ap (λ ss. roll-Arms (record { first = Some ss; second = Some (unseen_stmts (seen_stmts last (plain second))) })) (stmts_back first own.0)
      ∙ ap (λ ss. roll-Arms (record { first = Some (plain first); second = Some ss })) (stmts_back second own.1.0))

  when_via : (when : When) (branch : Branch) → seen_when last when ≡ branch → (OwnStmts branch.arm → roll-When (record { tests = branch.tests; stmts = unseen_stmts branch.arm }) ≡ when) → KeptWhen when
  when_via when branch e back own = ap (λ b. roll-When (record { tests = b.tests; stmts = unseen_stmts b.arm })) e ∙ back (subst (λ b. OwnStmts b.arm) e own)

  when_layer : (tests : List Test) (stmts : List SuchStmt) → KeptWhen (roll-When (map-When SuchStmt SuchArms SuchWhen Stmt Arms When (λ e. e.0) (λ e. e.0) (λ e. e.0) (record { tests = tests; stmts = stmts })))
  when_layer tests stmts =
      when_via _ _ (fold-roll-When language.Stmt Both Branch (seen_step last) both_step branch_step (record { tests = tests; stmts = plain stmts }))
      (λ own. ap (λ ss. roll-When (record { tests = tests; stmts = ss })) (stmts_back stmts own))

  pub stmt-back : (stmt : Stmt) → OwnStmt (seen last stmt) → unseen (seen last stmt) ≡ stmt
  stmt-back stmt =
      ind-Stmt KeptStmt KeptArms KeptWhen
      (λ x y is. subst (λ z. KeptStmt (roll-Stmt z)) is (layer y))
      (λ x y is. subst (λ z. KeptArms (roll-Arms z)) is (both_layer y.first y.second))
      (λ x y is. subst (λ z. KeptWhen (roll-When z)) is (when_layer y.tests y.stmts)) stmt

  pub stmts-back : (stmts : List Stmt) → OwnStmts (seen_stmts last stmts) → unseen_stmts (seen_stmts last stmts) ≡ stmts
  stmts-back [] own = refl
  stmts-back (stmt ∷ stmts) own =
      ap (λ s. s ∷ unseen_stmts (seen_stmts last stmts)) (stmt-back stmt own.0) ∙ ap (λ ss. stmt ∷ ss) (stmts-back stmts own.1)
