-- A statement performs what its control performs.
use Rattle.std.proofs.Common.{◌≡◌, ℕ, Bool, true, false, if◌then◌else◌, ◌==◌, List, [], ◌∷◌, map, Option, Some, None, refl, ap, ap₂, sym, ◌∙◌, subst}
use Rattle.cob_tree.specs.declared.calc.Calc.{Calc}
use Rattle.cob_tree.specs.declared.calc.Target.{Target}
use Rattle.cob_tree.specs.declared.choice.Test.{Test}
use Rattle.cob_tree.specs.declared.stmt.Arms.{Arms, roll-Arms, map-Arms, fold-roll-Arms}
use Rattle.cob_tree.specs.declared.stmt.When.{When, roll-When, map-When, fold-roll-When}
use Rattle.cob_tree.specs.declared.stmt.Stmt.{Stmt, ind-Stmt, map-Stmt, roll-Stmt, fold-roll-Stmt}
use Rattle.cob_tree.specs.declared.stmt.Stmt.TheOpen.{Stmt-F, Arms-F, When-F}
use Rattle.cob_tree.specs.declared.program.Sentence.{Sentence}
use Rattle.control_flow_theory.specs.language.Language as language
use Rattle.control_flow_theory.specs.language.Control.{arith_stmt, arm_before, else_of, stmts_of, control_in, loop_of, perform_of, Branch, branches_before, Both, both_arms, both_step, branch_step, seen_step, seen, seen_when, seen_both, seen_stmts, seen_sentence}
use Rattle.control_flow_theory.specs.language.Structured as control
use Rattle.struct_form.specs.Performed.{any, performs_step, arms_step, when_step, stmt_performs, arms_perform, when_performs, stmts_perform, whens_perform}
use Rattle.struct_form.proofs.Joined.{or-false, or-assoc}

module _ (number : ℕ) where
  else-performs : (stmts : List language.Stmt) → control.arms_perform number (arm_before (else_of stmts) language.done) ≡ control.stmts_perform number (stmts_of stmts)
  else-performs [] = refl
  else-performs (stmt ∷ stmts) = or-false (control.stmts_perform number (stmts_of (stmt ∷ stmts)))

  arith-performs : (calc : Calc) (into : List Target) (first second : Option language.Stmts) →
      control.stmt_performs number (arith_stmt calc into (record { first = first; second = second })) ≡ control.arms_perform number (both_arms (record { first = first; second = second }))
  arith-performs calc into None None = refl
  arith-performs calc into None (Some second) = refl
  arith-performs calc into (Some first) None = refl
  arith-performs calc into (Some first) (Some second) = refl

  loop-performs : (turns : Option language.Control) (body : language.Stmts) → control.stmt_performs number (loop_of turns body) ≡ control.stmts_perform number body
  loop-performs None body = or-false (control.stmts_perform number body)
  loop-performs (Some turns) body = refl

  perform-performs : (turns : Option language.Control) (entry exit : ℕ) → control.stmt_performs number (perform_of turns entry exit) ≡ (entry == number)
  perform-performs None entry exit = refl
  perform-performs (Some turns) entry exit = refl

module _ (number last : ℕ) where
  abbrev AgreesStmt : Stmt → Type 0
  AgreesStmt stmt = stmt_performs number stmt ≡ control.stmt_performs number (seen last stmt)

  abbrev AgreesArms : Arms → Type 0
  AgreesArms arms = arms_perform number arms ≡ control.arms_perform number (both_arms (seen_both last arms))

  abbrev AgreesWhen : When → Type 0
  AgreesWhen when = when_performs number when ≡ control.stmts_perform number (seen_when last when).arm

  abbrev SuchStmt : Type 0
  SuchStmt = (stmt : Stmt) × AgreesStmt stmt

  abbrev SuchArms : Type 0
  SuchArms = (arms : Arms) × AgreesArms arms

  abbrev SuchWhen : Type 0
  SuchWhen = (when : When) × AgreesWhen when

  abbrev plain : List SuchStmt → List Stmt
  plain stmts = map (λ e. e.0) stmts

  abbrev plain_whens : List SuchWhen → List When
  plain_whens whens = map (λ e. e.0) whens

  stmts_agree : (xs : List SuchStmt) → stmts_perform number (plain xs) ≡ control.stmts_perform number (seen_stmts last (plain xs))
  stmts_agree [] = refl
  stmts_agree (x ∷ xs) = ap₂ (λ a b. if a then true else b) x.1 (stmts_agree xs)

  last_agrees : (xs : List SuchStmt) → stmts_perform number (plain xs) ≡ (if control.stmts_perform number (seen_stmts last (plain xs)) then true else false)
  last_agrees xs = stmts_agree xs ∙ sym (or-false (control.stmts_perform number (seen_stmts last (plain xs))))

  whens_agree : (xs : List SuchWhen) (tail : language.Arms) (other : Bool) → other ≡ control.arms_perform number tail →
      (if whens_perform number (plain_whens xs) then true else other) ≡ control.arms_perform number (branches_before (map (seen_when last) (plain_whens xs)) tail)
  whens_agree [] tail other h = h
  whens_agree (x ∷ xs) tail other h =
      or-assoc (when_performs number x.0) (whens_perform number (plain_whens xs)) other
      ∙ ap₂ (λ a b. if a then true else b) x.1 (whens_agree xs tail other h)

  -- each statement, by those that it holds

  abbrev mapped : Stmt-F SuchStmt SuchArms SuchWhen → Stmt-F Stmt Arms When
  mapped = map-Stmt SuchStmt SuchArms SuchWhen Stmt Arms When (λ e. e.0) (λ e. e.0) (λ e. e.0)

  abbrev tested : Stmt-F Stmt Arms When → Bool
  tested y = performs_step number (map-Stmt Stmt Arms When Bool Bool Bool (stmt_performs number) (arms_perform number) (when_performs number) y)

  abbrev shown : Stmt-F Stmt Arms When → language.Stmt
  shown y = seen_step last (map-Stmt Stmt Arms When language.Stmt Both Branch (seen last) (seen_both last) (seen_when last) y)

  step_agrees : (y : Stmt-F SuchStmt SuchArms SuchWhen) → tested (mapped y) ≡ control.stmt_performs number (shown (mapped y))
  step_agrees (Stmt-F.Display items advance) = refl
  step_agrees (Stmt-F.Move from to) = refl
  step_agrees (Stmt-F.Arith calc into arms) =
      let both = seen_both last arms.0 in
      arms.1 ∙ sym (arith-performs number calc into both.first both.second)
  step_agrees (Stmt-F.SetTrue place) = refl
  step_agrees (Stmt-F.Opens openings) = refl
  step_agrees (Stmt-F.Closes files) = refl
  step_agrees (Stmt-F.Read file into arms) = arms.1
  step_agrees (Stmt-F.Write entry from) = refl
  step_agrees (Stmt-F.Rewrite entry from) = refl
  step_agrees (Stmt-F.If cond met unmet) =
      ap₂ (λ a b. if a then true else b) (stmts_agree met) (stmts_agree unmet ∙ sym (else-performs number (map (seen last) (plain unmet))))
  step_agrees (Stmt-F.Evaluate subject whens None) = whens_agree whens (language.missing language.done) false refl
  step_agrees (Stmt-F.Evaluate subject whens (Some other)) =
      whens_agree whens (language.given (seen_stmts last (plain other)) language.done) (stmts_perform number (plain other)) (last_agrees other)
  step_agrees (Stmt-F.Loop turns body) =
      stmts_agree body ∙ sym (loop-performs number (control_in turns) (seen_stmts last (plain body)))
  step_agrees (Stmt-F.Perform entry exit turns) = sym (perform-performs number (control_in turns) entry exit)
  step_agrees (Stmt-F.Go to) = refl
  step_agrees (Stmt-F.GoDepending to on) = refl
  step_agrees Stmt-F.NextSentence = refl
  step_agrees Stmt-F.StopRun = refl
  step_agrees Stmt-F.Exit = refl
  step_agrees Stmt-F.ExitParagraph = refl
  step_agrees Stmt-F.ExitSection = refl
  step_agrees (Stmt-F.ExitPerform cycle) = refl
  step_agrees Stmt-F.Continue = refl

  layer : (y : Stmt-F SuchStmt SuchArms SuchWhen) → AgreesStmt (roll-Stmt (mapped y))
  layer y =
      fold-roll-Stmt Bool Bool Bool (performs_step number) arms_step when_step (mapped y)
      ∙ step_agrees y
      ∙ sym (ap (control.stmt_performs number) (fold-roll-Stmt language.Stmt Both Branch (seen_step last) both_step branch_step (mapped y)))

  -- the arms of READ and arithmetic, and a WHEN

  abbrev mapped_arms : Arms-F SuchStmt SuchArms SuchWhen → Arms-F Stmt Arms When
  mapped_arms = map-Arms SuchStmt SuchArms SuchWhen Stmt Arms When (λ e. e.0) (λ e. e.0) (λ e. e.0)

  arms_by : (arms : Arms-F Stmt Arms When) (performs : Bool) (both : Both) →
      arms_step (map-Arms Stmt Arms When Bool Bool Bool (stmt_performs number) (arms_perform number) (when_performs number) arms) ≡ performs →
      both_step (map-Arms Stmt Arms When language.Stmt Both Branch (seen last) (seen_both last) (seen_when last) arms) ≡ both →
      performs ≡ control.arms_perform number (both_arms both) → AgreesArms (roll-Arms arms)
  arms_by arms performs both n b h =
      (fold-roll-Arms Bool Bool Bool (performs_step number) arms_step when_step arms ∙ n) ∙ h
      ∙ sym (ap (λ s. control.arms_perform number (both_arms s)) (fold-roll-Arms language.Stmt Both Branch (seen_step last) both_step branch_step arms ∙ b))

  arms_layer : (first second : Option (List SuchStmt)) → AgreesArms (roll-Arms (mapped_arms (record { first = first; second = second })))
  arms_layer None None = arms_by _ false _ refl refl refl
  arms_layer None (Some second) =
      arms_by _ (stmts_perform number (plain second)) (record { first = None; second = Some (seen_stmts last (plain second)) }) refl refl (last_agrees second)
  arms_layer (Some first) None =
      arms_by _ (if stmts_perform number (plain first) then true else false) (record { first = Some (seen_stmts last (plain first)); second = None }) refl refl
      (ap (λ a. if a then true else false) (stmts_agree first))
  arms_layer (Some first) (Some second) =
      arms_by _ (if stmts_perform number (plain first) then true else stmts_perform number (plain second))
      (record { first = Some (seen_stmts last (plain first)); second = Some (seen_stmts last (plain second)) }) refl refl
      (ap₂ (λ a b. if a then true else b) (stmts_agree first) (last_agrees second))

  when_layer : (tests : List Test) (stmts : List SuchStmt) → AgreesWhen (roll-When (map-When SuchStmt SuchArms SuchWhen Stmt Arms When (λ e. e.0) (λ e. e.0) (λ e. e.0) (record { tests = tests; stmts = stmts })))
  when_layer tests stmts =
      let y : When-F Stmt Arms When = record { tests = tests; stmts = plain stmts } in
      fold-roll-When Bool Bool Bool (performs_step number) arms_step when_step y
      ∙ stmts_agree stmts
      ∙ sym (ap (λ (s : Branch). control.stmts_perform number s.arm) (fold-roll-When language.Stmt Both Branch (seen_step last) both_step branch_step y))

  stmt-agrees : (stmt : Stmt) → AgreesStmt stmt
  stmt-agrees stmt =
      ind-Stmt AgreesStmt AgreesArms AgreesWhen
      (λ x y is. subst (λ z. AgreesStmt (roll-Stmt z)) is (layer y))
      (λ x y is. subst (λ z. AgreesArms (roll-Arms z)) is (arms_layer y.first y.second))
      (λ x y is. subst (λ z. AgreesWhen (roll-When z)) is (when_layer y.tests y.stmts)) stmt

  stmts-agree : (stmts : List Stmt) → stmts_perform number stmts ≡ control.stmts_perform number (seen_stmts last stmts)
  stmts-agree [] = refl
  stmts-agree (stmt ∷ stmts) = ap₂ (λ a b. if a then true else b) (stmt-agrees stmt) (stmts-agree stmts)

  pub sentences-agree : (sentences : List Sentence) →
      any (map (λ sentence. stmts_perform number sentence.stmts) sentences) ≡ control.paragraph_performs number (map (seen_sentence last) sentences)
  sentences-agree [] = refl
  sentences-agree (sentence ∷ sentences) = ap₂ (λ a b. if a then true else b) (stmts-agree sentence.stmts) (sentences-agree sentences)
