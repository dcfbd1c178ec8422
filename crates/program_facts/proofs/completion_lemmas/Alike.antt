-- A statement without an escape is seen alike in whatever section it stands.
use Rattle.std.proofs.Common.{◌≡◌, ℕ, Bool, true, false, if◌then◌else◌, List, [], ◌∷◌, map, Option, Some, None, is_some, refl, ap, ap₂, sym, ◌∙◌, subst}
use Rattle.cob_tree.specs.declared.calc.Calc.{Calc}
use Rattle.cob_tree.specs.declared.calc.Target.{Target}
use Rattle.cob_tree.specs.declared.choice.Test.{Test}
use Rattle.cob_tree.specs.declared.stmt.Arms.{Arms, roll-Arms, map-Arms, fold-roll-Arms}
use Rattle.cob_tree.specs.declared.stmt.When.{When, roll-When, map-When, fold-roll-When}
use Rattle.cob_tree.specs.declared.stmt.Stmt.{Stmt, ind-Stmt, map-Stmt, roll-Stmt, fold-roll-Stmt}
use Rattle.cob_tree.specs.declared.stmt.Stmt.TheOpen.{Stmt-F, Arms-F, When-F}
use Rattle.control_flow_theory.specs.language.Language as language
use Rattle.control_flow_theory.specs.language.Control.{test_of, arith_stmt, arm_before, else_of, evaluate_of, tests_of, stmts_of, control_in, loop_of, Branch, branches_before, Both, both_arms, both_step, branch_step, seen_step, seen, seen_when, seen_both, seen_stmts}
use Rattle.control_flow_theory.specs.lowering.Completes.{whole, wholes, whole_arms}

if-same : (b : Bool) → (if b then true else false) ≡ b
if-same true = refl
if-same false = refl

apart : false ≡ true → ⊥
apart e = cc

parts : (a b : Bool) → (if a then b else false) ≡ true → (a ≡ true) × (b ≡ true)
parts true b h = (refl, h)
parts false b h = absurd (apart h)

arith_whole : (calc : Calc) (into : List Target) (first second : Option language.Stmts) →
    whole (arith_stmt calc into (record { first = first; second = second })) ≡ whole_arms (both_arms (record { first = first; second = second }))
arith_whole calc into None None = refl
arith_whole calc into None (Some second) = refl
arith_whole calc into (Some first) None = refl
arith_whole calc into (Some first) (Some second) = refl

else_whole : (stmts : List language.Stmt) → whole_arms (arm_before (else_of stmts) language.done) ≡ wholes (stmts_of stmts)
else_whole [] = refl
else_whole (stmt ∷ stmts) = if-same (wholes (stmts_of (stmt ∷ stmts)))

loop_whole : (control : Option language.Control) (body : language.Stmts) → whole (loop_of control body) ≡ wholes body
loop_whole None body = if-same (wholes body)
loop_whole (Some control) body = refl

module _ (last other : ℕ) where
  abbrev AlikeStmt : Stmt → Type 0
  AlikeStmt stmt = whole (seen last stmt) ≡ true → seen last stmt ≡ seen other stmt

  abbrev AlikeArms : Arms → Type 0
  AlikeArms arms = whole_arms (both_arms (seen_both last arms)) ≡ true → seen_both last arms ≡ seen_both other arms

  abbrev AlikeWhen : When → Type 0
  AlikeWhen when = wholes (seen_when last when).arm ≡ true → seen_when last when ≡ seen_when other when

  abbrev SuchStmt : Type 0
  SuchStmt = (stmt : Stmt) × AlikeStmt stmt

  abbrev SuchArms : Type 0
  SuchArms = (arms : Arms) × AlikeArms arms

  abbrev SuchWhen : Type 0
  SuchWhen = (when : When) × AlikeWhen when

  abbrev plain : List SuchStmt → List Stmt
  plain stmts = map (λ e. e.0) stmts

  abbrev plain_whens : List SuchWhen → List When
  plain_whens whens = map (λ e. e.0) whens

  stmts_alike : (xs : List SuchStmt) → wholes (seen_stmts last (plain xs)) ≡ true → map (seen last) (plain xs) ≡ map (seen other) (plain xs)
  stmts_alike [] h = refl
  stmts_alike (x ∷ xs) h =
      let both = parts (whole (seen last x.0)) (wholes (seen_stmts last (plain xs))) h in
      ap₂ (λ s ss. s ∷ ss) (x.1 both.0) (stmts_alike xs both.1)

  whens_alike : (xs : List SuchWhen) (tail : language.Arms) → whole_arms (branches_before (map (seen_when last) (plain_whens xs)) tail) ≡ true →
      (map (seen_when last) (plain_whens xs) ≡ map (seen_when other) (plain_whens xs)) × (whole_arms tail ≡ true)
  whens_alike [] tail h = (refl, h)
  whens_alike (x ∷ xs) tail h =
      let both = parts (wholes (seen_when last x.0).arm) (whole_arms (branches_before (map (seen_when last) (plain_whens xs)) tail)) h in
      let rest = whens_alike xs tail both.1 in
      (ap₂ (λ b bs. b ∷ bs) (x.1 both.0) rest.0, rest.1)

  abbrev mapped : Stmt-F SuchStmt SuchArms SuchWhen → Stmt-F Stmt Arms When
  mapped = map-Stmt SuchStmt SuchArms SuchWhen Stmt Arms When (λ e. e.0) (λ e. e.0) (λ e. e.0)

  abbrev shown : ℕ → Stmt-F Stmt Arms When → language.Stmt
  shown at y = seen_step at (map-Stmt Stmt Arms When language.Stmt Both Branch (seen at) (seen_both at) (seen_when at) y)

  step_alike : (y : Stmt-F SuchStmt SuchArms SuchWhen) → whole (shown last (mapped y)) ≡ true → shown last (mapped y) ≡ shown other (mapped y)
  step_alike (Stmt-F.Display items advance) h = refl
  step_alike (Stmt-F.Move from to) h = refl
  step_alike (Stmt-F.Arith calc into arms) h =
      let both = seen_both last arms.0 in
      ap (arith_stmt calc into) (arms.1 (sym (arith_whole calc into both.first both.second) ∙ h))
  step_alike (Stmt-F.SetTrue place) h = refl
  step_alike (Stmt-F.Opens openings) h = refl
  step_alike (Stmt-F.Closes files) h = refl
  step_alike (Stmt-F.Read file into arms) h =
      ap (λ (both : Both). language.Choose (language.By (language.Read file into (is_some both.first))) (both_arms both)) (arms.1 h)
  step_alike (Stmt-F.Write entry from) h = refl
  step_alike (Stmt-F.Rewrite entry from) h = refl
  step_alike (Stmt-F.If cond met unmet) h =
      let both = parts (wholes (seen_stmts last (plain met))) (whole_arms (arm_before (else_of (map (seen last) (plain unmet))) language.done)) h in
      ap₂ (λ m u. language.Choose (language.If (test_of cond)) (language.given (stmts_of m) (arm_before (else_of u) language.done)))
      (stmts_alike met both.0) (stmts_alike unmet (sym (else_whole (map (seen last) (plain unmet))) ∙ both.1))
  step_alike (Stmt-F.Evaluate subject whens None) h =
      ap (λ bs. language.Choose (evaluate_of subject (tests_of bs) false) (branches_before bs (language.missing language.done)))
      (whens_alike whens (language.missing language.done) h).0
  step_alike (Stmt-F.Evaluate subject whens (Some stmts)) h =
      let both = whens_alike whens (language.given (seen_stmts last (plain stmts)) language.done) h in
      let held = (parts (wholes (seen_stmts last (plain stmts))) true both.1).0 in
      ap₂ (λ bs ss. language.Choose (evaluate_of subject (tests_of bs) true) (branches_before bs (language.given (stmts_of ss) language.done)))
      both.0 (stmts_alike stmts held)
  step_alike (Stmt-F.Loop control body) h =
      ap (λ ss. loop_of (control_in control) (stmts_of ss)) (stmts_alike body (sym (loop_whole (control_in control) (seen_stmts last (plain body))) ∙ h))
  step_alike (Stmt-F.Perform entry exit control) h = refl
  step_alike (Stmt-F.Go to) h = refl
  step_alike (Stmt-F.GoDepending to on) h = refl
  step_alike Stmt-F.NextSentence h = refl
  step_alike Stmt-F.StopRun h = refl
  step_alike Stmt-F.Exit h = refl
  step_alike Stmt-F.ExitParagraph h = refl
  step_alike Stmt-F.ExitSection h = absurd (apart h)
  step_alike (Stmt-F.ExitPerform cycle) h = refl
  step_alike Stmt-F.Continue h = refl

  stmt_layer : (y : Stmt-F SuchStmt SuchArms SuchWhen) → AlikeStmt (roll-Stmt (mapped y))
  stmt_layer y h =
      let e = fold-roll-Stmt language.Stmt Both Branch (seen_step last) both_step branch_step (mapped y) in
      e ∙ step_alike y (ap whole (sym e) ∙ h)
      ∙ sym (fold-roll-Stmt language.Stmt Both Branch (seen_step other) both_step branch_step (mapped y))

  -- the arms of READ and of arithmetic, and a WHEN

  abbrev both_of : Option (List language.Stmt) → Option (List language.Stmt) → Both
  both_of first second = both_step (record { first = first; second = second })

  abbrev mapped_arms : Arms-F SuchStmt SuchArms SuchWhen → Arms-F Stmt Arms When
  mapped_arms = map-Arms SuchStmt SuchArms SuchWhen Stmt Arms When (λ e. e.0) (λ e. e.0) (λ e. e.0)

  abbrev shown_arms : ℕ → Arms-F Stmt Arms When → Both
  shown_arms at arms = both_step (map-Arms Stmt Arms When language.Stmt Both Branch (seen at) (seen_both at) (seen_when at) arms)

  arms_alike : (first second : Option (List SuchStmt)) →
      whole_arms (both_arms (shown_arms last (mapped_arms (record { first = first; second = second })))) ≡ true →
      shown_arms last (mapped_arms (record { first = first; second = second })) ≡ shown_arms other (mapped_arms (record { first = first; second = second }))
  arms_alike None None h = refl
  arms_alike None (Some second) h =
      ap (λ ss. both_of None (Some ss)) (stmts_alike second (parts (wholes (seen_stmts last (plain second))) true h).0)
  arms_alike (Some first) None h =
      ap (λ ss. both_of (Some ss) None) (stmts_alike first (parts (wholes (seen_stmts last (plain first))) true h).0)
  arms_alike (Some first) (Some second) h =
      let both = parts (wholes (seen_stmts last (plain first))) (if wholes (seen_stmts last (plain second)) then true else false) h in
      ap₂ (λ ss ts. both_of (Some ss) (Some ts)) (stmts_alike first both.0)
      (stmts_alike second (parts (wholes (seen_stmts last (plain second))) true both.1).0)

  arms_layer : (first second : Option (List SuchStmt)) → AlikeArms (roll-Arms (mapped_arms (record { first = first; second = second })))
  arms_layer first second h =
      let y = mapped_arms (record { first = first; second = second }) in
      let e = fold-roll-Arms language.Stmt Both Branch (seen_step last) both_step branch_step y in
      e ∙ arms_alike first second (ap (λ both. whole_arms (both_arms both)) (sym e) ∙ h)
      ∙ sym (fold-roll-Arms language.Stmt Both Branch (seen_step other) both_step branch_step y)

  when_layer : (tests : List Test) (stmts : List SuchStmt) → AlikeWhen (roll-When (map-When SuchStmt SuchArms SuchWhen Stmt Arms When (λ e. e.0) (λ e. e.0) (λ e. e.0) (record { tests = tests; stmts = stmts })))
  when_layer tests stmts h =
      let y : When-F Stmt Arms When = record { tests = tests; stmts = plain stmts } in
      let made : List language.Stmt → Branch = λ ss. record { tests = tests; arm = stmts_of ss } in
      let e = fold-roll-When language.Stmt Both Branch (seen_step last) both_step branch_step y in
      e ∙ ap made (stmts_alike stmts (ap (λ (b : Branch). wholes b.arm) (sym e) ∙ h))
      ∙ sym (fold-roll-When language.Stmt Both Branch (seen_step other) both_step branch_step y)

  pub stmt-alike : (stmt : Stmt) → AlikeStmt stmt
  stmt-alike stmt =
      ind-Stmt AlikeStmt AlikeArms AlikeWhen
      (λ x y is. subst (λ z. AlikeStmt (roll-Stmt z)) is (stmt_layer y))
      (λ x y is. subst (λ z. AlikeArms (roll-Arms z)) is (arms_layer y.first y.second))
      (λ x y is. subst (λ z. AlikeWhen (roll-When z)) is (when_layer y.tests y.stmts)) stmt
