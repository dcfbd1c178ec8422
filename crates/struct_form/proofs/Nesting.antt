-- Statements nest where their control does and no EXIT stands in them.
use Rattle.std.proofs.Common.{◌≡◌, ℕ, Bool, true, ◌&&◌, List, [], ◌∷◌, map, Option, Some, None, refl, ap, ap₂, sym, ◌∙◌, subst}
use Rattle.cob_tree.specs.declared.calc.Calc.{Calc}
use Rattle.cob_tree.specs.declared.calc.Target.{Target}
use Rattle.cob_tree.specs.declared.choice.Test.{Test}
use Rattle.cob_tree.specs.declared.stmt.Arms.{Arms, roll-Arms, map-Arms, fold-roll-Arms}
use Rattle.cob_tree.specs.declared.stmt.When.{When, roll-When, map-When, fold-roll-When}
use Rattle.cob_tree.specs.declared.stmt.Stmt.{Stmt, ind-Stmt, map-Stmt, roll-Stmt, fold-roll-Stmt}
use Rattle.cob_tree.specs.declared.stmt.Stmt.TheOpen.{Stmt-F, Arms-F, When-F}
use Rattle.control_flow_theory.specs.language.Language as language
use Rattle.control_flow_theory.specs.language.All.{all}
use Rattle.control_flow_theory.specs.language.Control.{arith_stmt, arm_before, else_of, stmts_of, control_in, loop_of, perform_of, Branch, branches_before, Both, both_arms, both_step, branch_step, seen_step, seen, seen_when, seen_both, seen_stmts}
use Rattle.struct_form.specs.Structured.{exitless_step, exitless_arms, exitless_when, exitless, arms_exitless, when_exitless, stmts_exitless}
use Rattle.struct_form.specs.Nested.{names_later, nests_step, arms_step, when_step, stmt_nests, arms_nest, when_nests, stmts_nest, whens_nest}
use Rattle.struct_form.proofs.Joined.{and-true, and-assoc, interchange}
use Rattle.struct_form.proofs.ControlTests.{stmt_passes, stmts_pass, arms_pass}

module _ (such : ℕ → ℕ → Bool) where
  -- statements that may be absent
  abbrev pub passes_if : Option language.Stmts → Bool
  passes_if None = true
  passes_if (Some stmts) = stmts_pass such stmts

  arm-passes : (arm : Option language.Stmts) → arms_pass such (arm_before arm language.done) ≡ passes_if arm
  arm-passes None = refl
  arm-passes (Some arm) = and-true (stmts_pass such arm)

  else-passes : (stmts : List language.Stmt) → arms_pass such (arm_before (else_of stmts) language.done) ≡ stmts_pass such (stmts_of stmts)
  else-passes [] = refl
  else-passes (stmt ∷ stmts) = and-true (stmts_pass such (stmts_of (stmt ∷ stmts)))

  both-pass : (first second : Option language.Stmts) → arms_pass such (both_arms (record { first = first; second = second })) ≡ (passes_if first && passes_if second)
  both-pass None second = arm-passes second
  both-pass (Some first) second = ap (λ b. stmts_pass such first && b) (arm-passes second)

  arith-passes : (calc : Calc) (into : List Target) (first second : Option language.Stmts) →
      stmt_passes such (arith_stmt calc into (record { first = first; second = second })) ≡ arms_pass such (both_arms (record { first = first; second = second }))
  arith-passes calc into None None = refl
  arith-passes calc into None (Some second) = refl
  arith-passes calc into (Some first) None = refl
  arith-passes calc into (Some first) (Some second) = refl

  loop-passes : (control : Option language.Control) (body : language.Stmts) → stmt_passes such (loop_of control body) ≡ stmts_pass such body
  loop-passes None body = and-true (stmts_pass such body)
  loop-passes (Some control) body = refl

  perform-passes : (control : Option language.Control) (entry exit : ℕ) → stmt_passes such (perform_of control entry exit) ≡ such entry exit
  perform-passes None entry exit = refl
  perform-passes (Some control) entry exit = refl

module _ (count here last : ℕ) where
  abbrev AgreesStmt : Stmt → Type 0
  AgreesStmt stmt = stmt_nests count here stmt ≡ (stmt_passes (names_later count here) (seen last stmt) && exitless stmt)

  abbrev AgreesArms : Arms → Type 0
  AgreesArms arms = arms_nest count here arms ≡ (arms_pass (names_later count here) (both_arms (seen_both last arms)) && arms_exitless arms)

  abbrev AgreesWhen : When → Type 0
  AgreesWhen when = when_nests count here when ≡ (stmts_pass (names_later count here) (seen_when last when).arm && when_exitless when)

  abbrev SuchStmt : Type 0
  SuchStmt = (stmt : Stmt) × AgreesStmt stmt

  abbrev SuchArms : Type 0
  SuchArms = (arms : Arms) × AgreesArms arms

  abbrev SuchWhen : Type 0
  SuchWhen = (when : When) × AgreesWhen when

  abbrev plain : List SuchStmt → List Stmt
  plain stmts = map (λ e. e.0) stmts

  abbrev plain_whens : List SuchWhen → List When
  plain_whens whens = map (λ e. e.0) whens

  abbrev passing : language.Stmt → Bool
  passing = stmt_passes (names_later count here)

  abbrev all_pass : List Stmt → Bool
  all_pass stmts = stmts_pass (names_later count here) (seen_stmts last stmts)

  stmts_agree : (xs : List SuchStmt) → stmts_nest count here (plain xs) ≡ (all_pass (plain xs) && stmts_exitless (plain xs))
  stmts_agree [] = refl
  stmts_agree (x ∷ xs) =
      ap₂ (λ a b. a && b) x.1 (stmts_agree xs) ∙ interchange (passing (seen last x.0)) (exitless x.0) (all_pass (plain xs)) (stmts_exitless (plain xs))

  if_agrees : (met unmet : List SuchStmt) → (stmts_nest count here (plain met) && stmts_nest count here (plain unmet)) ≡
      ((all_pass (plain met) && arms_pass (names_later count here) (arm_before (else_of (map (seen last) (plain unmet))) language.done)) && (stmts_exitless (plain met) && stmts_exitless (plain unmet)))
  if_agrees met unmet =
      ap₂ (λ a b. a && b) (stmts_agree met) (stmts_agree unmet)
      ∙ interchange (all_pass (plain met)) (stmts_exitless (plain met)) (all_pass (plain unmet)) (stmts_exitless (plain unmet))
      ∙ ap (λ b. (all_pass (plain met) && b) && (stmts_exitless (plain met) && stmts_exitless (plain unmet))) (sym (else-passes (names_later count here) (map (seen last) (plain unmet))))

  abbrev branches_pass : List When → language.Arms → Bool
  branches_pass whens tail = arms_pass (names_later count here) (branches_before (map (seen_when last) whens) tail)

  whens_agree : (xs : List SuchWhen) (tail : language.Arms) (other exits : Bool) → other ≡ (arms_pass (names_later count here) tail && exits) →
      (whens_nest count here (plain_whens xs) && other) ≡ (branches_pass (plain_whens xs) tail && (all (map when_exitless (plain_whens xs)) && exits))
  whens_agree [] tail other exits h = h
  whens_agree (x ∷ xs) tail other exits h =
      and-assoc (when_nests count here x.0) (whens_nest count here (plain_whens xs)) other
      ∙ ap₂ (λ a b. a && b) x.1 (whens_agree xs tail other exits h)
      ∙ interchange (stmts_pass (names_later count here) (seen_when last x.0).arm) (when_exitless x.0) (branches_pass (plain_whens xs) tail) (all (map when_exitless (plain_whens xs)) && exits)
      ∙ ap (λ b. (stmts_pass (names_later count here) (seen_when last x.0).arm && branches_pass (plain_whens xs) tail) && b) (sym (and-assoc (when_exitless x.0) (all (map when_exitless (plain_whens xs))) exits))

  other_agrees : (xs : List SuchStmt) → stmts_nest count here (plain xs) ≡ ((all_pass (plain xs) && true) && stmts_exitless (plain xs))
  other_agrees xs = stmts_agree xs ∙ ap (λ b. b && stmts_exitless (plain xs)) (sym (and-true (all_pass (plain xs))))

  -- each statement, by those that it holds

  abbrev mapped : Stmt-F SuchStmt SuchArms SuchWhen → Stmt-F Stmt Arms When
  mapped = map-Stmt SuchStmt SuchArms SuchWhen Stmt Arms When (λ e. e.0) (λ e. e.0) (λ e. e.0)

  abbrev tested : Stmt-F Stmt Arms When → Bool
  tested y = nests_step count here (map-Stmt Stmt Arms When Bool Bool Bool (stmt_nests count here) (arms_nest count here) (when_nests count here) y)

  abbrev shown : Stmt-F Stmt Arms When → language.Stmt
  shown y = seen_step last (map-Stmt Stmt Arms When language.Stmt Both Branch (seen last) (seen_both last) (seen_when last) y)

  abbrev free : Stmt-F Stmt Arms When → Bool
  free y = exitless_step (map-Stmt Stmt Arms When Bool Bool Bool exitless arms_exitless when_exitless y)

  step_agrees : (y : Stmt-F SuchStmt SuchArms SuchWhen) → tested (mapped y) ≡ (passing (shown (mapped y)) && free (mapped y))
  step_agrees (Stmt-F.Display items advance) = refl
  step_agrees (Stmt-F.Move from to) = refl
  step_agrees (Stmt-F.Arith calc into arms) =
      let both = seen_both last arms.0 in
      arms.1 ∙ ap (λ b. b && arms_exitless arms.0) (sym (arith-passes (names_later count here) calc into both.first both.second))
  step_agrees (Stmt-F.SetTrue place) = refl
  step_agrees (Stmt-F.Opens openings) = refl
  step_agrees (Stmt-F.Closes files) = refl
  step_agrees (Stmt-F.Read file into arms) = arms.1
  step_agrees (Stmt-F.Write entry from) = refl
  step_agrees (Stmt-F.Rewrite entry from) = refl
  step_agrees (Stmt-F.If cond met unmet) = if_agrees met unmet
  step_agrees (Stmt-F.Evaluate subject whens None) = whens_agree whens (language.missing language.done) true true refl
  step_agrees (Stmt-F.Evaluate subject whens (Some other)) =
      whens_agree whens (language.given (seen_stmts last (plain other)) language.done) (stmts_nest count here (plain other)) (stmts_exitless (plain other)) (other_agrees other)
  step_agrees (Stmt-F.Loop control body) =
      stmts_agree body ∙ ap (λ b. b && stmts_exitless (plain body)) (sym (loop-passes (names_later count here) (control_in control) (seen_stmts last (plain body))))
  step_agrees (Stmt-F.Perform entry exit control) =
      sym (and-true (names_later count here entry exit)) ∙ ap (λ b. b && true) (sym (perform-passes (names_later count here) (control_in control) entry exit))
  step_agrees (Stmt-F.Go to) = refl
  step_agrees (Stmt-F.GoDepending to on) = refl
  step_agrees Stmt-F.NextSentence = refl
  step_agrees Stmt-F.StopRun = refl
  step_agrees Stmt-F.Exit = refl
  step_agrees Stmt-F.ExitParagraph = refl
  step_agrees Stmt-F.ExitSection = refl
  step_agrees (Stmt-F.ExitPerform cycle) = refl
  step_agrees Stmt-F.Continue = refl

  layer : (y : Stmt-F SuchStmt SuchArms SuchWhen) → AgreesStmt (roll-Stmt (mapped y))
  layer y =
      fold-roll-Stmt Bool Bool Bool (nests_step count here) arms_step when_step (mapped y)
      ∙ step_agrees y
      ∙ sym (ap₂ (λ s b. passing s && b)
      (fold-roll-Stmt language.Stmt Both Branch (seen_step last) both_step branch_step (mapped y))
      (fold-roll-Stmt Bool Bool Bool exitless_step exitless_arms exitless_when (mapped y)))

  -- the arms of READ and arithmetic, and a WHEN

  abbrev mapped_arms : Arms-F SuchStmt SuchArms SuchWhen → Arms-F Stmt Arms When
  mapped_arms = map-Arms SuchStmt SuchArms SuchWhen Stmt Arms When (λ e. e.0) (λ e. e.0) (λ e. e.0)

  arms_by : (arms : Arms-F Stmt Arms When) (nests exits : Bool) (both : Both) →
      arms_step (map-Arms Stmt Arms When Bool Bool Bool (stmt_nests count here) (arms_nest count here) (when_nests count here) arms) ≡ nests →
      both_step (map-Arms Stmt Arms When language.Stmt Both Branch (seen last) (seen_both last) (seen_when last) arms) ≡ both →
      exitless_arms (map-Arms Stmt Arms When Bool Bool Bool exitless arms_exitless when_exitless arms) ≡ exits →
      nests ≡ (arms_pass (names_later count here) (both_arms both) && exits) → AgreesArms (roll-Arms arms)
  arms_by arms nests exits both n b e h =
      (fold-roll-Arms Bool Bool Bool (nests_step count here) arms_step when_step arms ∙ n) ∙ h
      ∙ sym (ap₂ (λ s x. arms_pass (names_later count here) (both_arms s) && x)
      (fold-roll-Arms language.Stmt Both Branch (seen_step last) both_step branch_step arms ∙ b)
      (fold-roll-Arms Bool Bool Bool exitless_step exitless_arms exitless_when arms ∙ e))

  arms_layer : (first second : Option (List SuchStmt)) → AgreesArms (roll-Arms (mapped_arms (record { first = first; second = second })))
  arms_layer None None = arms_by _ true true _ refl refl refl refl
  arms_layer None (Some second) =
      arms_by _ (stmts_nest count here (plain second)) (stmts_exitless (plain second)) (record { first = None; second = Some (seen_stmts last (plain second)) }) refl refl refl (other_agrees second)
  arms_layer (Some first) None =
      arms_by _ (stmts_nest count here (plain first) && true) (stmts_exitless (plain first) && true) (record { first = Some (seen_stmts last (plain first)); second = None }) refl refl refl
      (and-true (stmts_nest count here (plain first)) ∙ other_agrees first ∙ ap (λ b. (all_pass (plain first) && true) && b) (sym (and-true (stmts_exitless (plain first)))))
  arms_layer (Some first) (Some second) =
      arms_by _ (stmts_nest count here (plain first) && stmts_nest count here (plain second)) (stmts_exitless (plain first) && stmts_exitless (plain second))
      (record { first = Some (seen_stmts last (plain first)); second = Some (seen_stmts last (plain second)) }) refl refl refl
      (ap₂ (λ a b. a && b) (stmts_agree first) (other_agrees second)
      ∙ interchange (all_pass (plain first)) (stmts_exitless (plain first)) (all_pass (plain second) && true) (stmts_exitless (plain second)))

  when_layer : (tests : List Test) (stmts : List SuchStmt) → AgreesWhen (roll-When (map-When SuchStmt SuchArms SuchWhen Stmt Arms When (λ e. e.0) (λ e. e.0) (λ e. e.0) (record { tests = tests; stmts = stmts })))
  when_layer tests stmts =
      let y : When-F Stmt Arms When = record { tests = tests; stmts = plain stmts } in
      fold-roll-When Bool Bool Bool (nests_step count here) arms_step when_step y
      ∙ stmts_agree stmts
      ∙ sym (ap₂ (λ (s : Branch) b. stmts_pass (names_later count here) s.arm && b)
      (fold-roll-When language.Stmt Both Branch (seen_step last) both_step branch_step y)
      (fold-roll-When Bool Bool Bool exitless_step exitless_arms exitless_when y))

  pub stmt-agrees : (stmt : Stmt) → AgreesStmt stmt
  stmt-agrees stmt =
      ind-Stmt AgreesStmt AgreesArms AgreesWhen
      (λ x y is. subst (λ z. AgreesStmt (roll-Stmt z)) is (layer y))
      (λ x y is. subst (λ z. AgreesArms (roll-Arms z)) is (arms_layer y.first y.second))
      (λ x y is. subst (λ z. AgreesWhen (roll-When z)) is (when_layer y.tests y.stmts)) stmt

  pub stmts-agree : (stmts : List Stmt) → stmts_nest count here stmts ≡ (all_pass stmts && stmts_exitless stmts)
  stmts-agree [] = refl
  stmts-agree (stmt ∷ stmts) =
      ap₂ (λ a b. a && b) (stmt-agrees stmt) (stmts-agree stmts) ∙ interchange (passing (seen last stmt)) (exitless stmt) (all_pass stmts) (stmts_exitless stmts)
