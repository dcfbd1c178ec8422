-- A statement of the program nests as what control sees of it.
use Rattle.std.proofs.Common.{◌≡◌, ℕ, suc, ◌+◌, max, Bool, true, false, List, [], ◌∷◌, map, Option, Some, None, is_some, refl, ap, ap₂, sym, ◌∙◌, subst, arith}
use Rattle.cob_tree.specs.declared.calc.Calc.{Calc}
use Rattle.cob_tree.specs.declared.calc.Target.{Target}
use Rattle.cob_tree.specs.declared.choice.Subject.{Subject}
use Rattle.cob_tree.specs.declared.choice.Test.{Test}
use Rattle.cob_tree.specs.declared.place.Place.{Place}
use Rattle.cob_tree.specs.declared.stmt.Arms.{Arms, roll-Arms, map-Arms, fold-roll-Arms}
use Rattle.cob_tree.specs.declared.stmt.When.{When, roll-When, map-When, fold-roll-When}
use Rattle.cob_tree.specs.declared.stmt.Stmt.{Stmt, ind-Stmt, map-Stmt, roll-Stmt, fold-roll-Stmt}
use Rattle.cob_tree.specs.declared.stmt.Stmt.TheOpen.{Stmt-F, Arms-F, When-F}
use Rattle.cob_tree.specs.Depth.{largest, level}
use Rattle.control_flow_theory.specs.language.Language as language
use Rattle.control_flow_theory.specs.language.Control.{test_of, arith_stmt, arm_before, else_of, stmts_of, control_in, loop_of, perform_of, picker_by, cell_chosen, count_from, evaluate_of, tests_of, Branch, branches_before, Both, both_arms, both_step, branch_step, seen_step, seen, seen_when, seen_both, seen_stmts}
use Rattle.region_rewrite.specs.written_nesting.Nesting.{leaves_out, is_nothing, arm_level, nesting, stmt_nesting, arms_nesting}
use Rattle.region_rewrite.specs.written_nesting.Own.{later_level, own_step, arms_step, when_step, own_nesting, arms_own, when_own, stmts_own, whens_own}

no_more : (n : ℕ) → max n 0 ≡ n
no_more n = omega (arith)

no_less : (n : ℕ) → max 0 n ≡ n
no_less n = omega (arith)

one_more : (n : ℕ) → suc n ≡ 1 + n
one_more n = omega (arith)

-- The two arms of READ and of arithmetic.

abbrev first_level : Option language.Stmts → ℕ
first_level None = 0
first_level (Some stmts) = suc (nesting stmts)

abbrev second_level : Option language.Stmts → ℕ
second_level None = 0
second_level (Some stmts) = arm_level true (is_nothing stmts) (nesting stmts)

abbrev both_level : Both → ℕ
both_level both = max (first_level both.first) (second_level both.second)

second_is : (second : Option language.Stmts) (picker : language.Picker) → leaves_out picker false ≡ true →
    arms_nesting picker false (arm_before second language.done) ≡ second_level second
second_is None picker h = refl
second_is (Some stmts) picker h =
    ap (λ z. max (arm_level z (is_nothing stmts) (nesting stmts)) 0) h
    ∙ no_more (arm_level true (is_nothing stmts) (nesting stmts))

read_is : (file : ℕ) (into : Option Place) (first second : Option language.Stmts) →
    arms_nesting (language.By (language.Read file into (is_some first))) true (both_arms (record { first = first; second = second }))
    ≡ both_level (record { first = first; second = second })
read_is file into None second =
    second_is second (language.By (language.Read file into false)) refl ∙ sym (no_less (second_level second))
read_is file into (Some first) second =
    ap (max (suc (nesting first))) (second_is second (language.By (language.Read file into true)) refl)

arith_is : (calc : Calc) (into : List Target) (first second : Option language.Stmts) →
    stmt_nesting (arith_stmt calc into (record { first = first; second = second })) ≡ both_level (record { first = first; second = second })
arith_is calc into None None = sym (no_less 0)
arith_is calc into None (Some second) =
    second_is (Some second) (language.By (language.Arith calc into)) refl ∙ sym (no_less (second_level (Some second)))
arith_is calc into (Some first) None =
    ap (max (suc (nesting first))) (second_is None (language.By (language.Arith calc into)) refl)
arith_is calc into (Some first) (Some second) =
    ap (max (suc (nesting first))) (second_is (Some second) (language.By (language.Arith calc into)) refl)

-- IF.

else_is : (test : language.Test) (m : ℕ) (stmts : List language.Stmt) →
    max (suc m) (arms_nesting (language.If test) false (arm_before (else_of stmts) language.done)) ≡ suc (max m (nesting (stmts_of stmts)))
else_is test m [] = let h : max (suc m) 0 ≡ suc (max m 0) = omega (arith) in h
else_is test m (stmt ∷ stmts) =
    let n = nesting (stmts_of (stmt ∷ stmts)) in
    let h : max (suc m) (max (suc n) 0) ≡ suc (max m n) = omega (arith) in h

-- EVALUATE.

keeps : (cell : Option ℕ) (counted : Bool) (subject : Subject) (tests : List (List Test)) (has_other first : Bool) →
    leaves_out (picker_by cell counted (language.Evaluate subject tests has_other)) first ≡ false
keeps None counted subject tests has_other first = refl
keeps (Some cell) true subject tests has_other first = refl
keeps (Some cell) false subject tests has_other first = refl

module _ (picker : language.Picker) (keep : (first : Bool) → leaves_out picker first ≡ false) where
  given_is : (first : Bool) (arm : language.Stmts) (others : language.Arms) →
      arms_nesting picker first (language.given arm others) ≡ max (suc (nesting arm)) (arms_nesting picker false others)
  given_is first arm others =
      ap (λ z. max (arm_level z (is_nothing arm) (nesting arm)) (arms_nesting picker false others)) (keep first)

  branches_is : (first : Bool) (branches : List Branch) (tail : language.Arms) (n : ℕ) →
      ((z : Bool) → arms_nesting picker z tail ≡ n) →
      arms_nesting picker first (branches_before branches tail) ≡ max (largest (map (λ (branch : Branch). suc (nesting branch.arm)) branches)) n
  branches_is first [] tail n h = h first ∙ sym (no_less n)
  branches_is first (branch ∷ branches) tail n h =
      let rest = largest (map (λ (b : Branch). suc (nesting b.arm)) branches) in
      let m = suc (nesting branch.arm) in
      let assoc : max m (max rest n) ≡ max (max m rest) n = omega (arith) in
      given_is first branch.arm (branches_before branches tail)
      ∙ ap (max m) (branches_is false branches tail n h) ∙ assoc

  other_is : (other : language.Stmts) (z : Bool) → arms_nesting picker z (language.given other language.done) ≡ suc (nesting other)
  other_is other z = given_is z other language.done ∙ no_more (suc (nesting other))

-- Loops.

loop_is : (control : Option language.Control) (body : language.Stmts) → stmt_nesting (loop_of control body) ≡ suc (nesting body)
loop_is None body = no_more (suc (nesting body))
loop_is (Some control) body = refl

perform_is : (control : Option language.Control) (entry exit : ℕ) → stmt_nesting (perform_of control entry exit) ≡ 0
perform_is None entry exit = refl
perform_is (Some control) entry exit = refl

module _ (last : ℕ) where
  abbrev AgreesStmt : Stmt → Type 0
  AgreesStmt stmt = stmt_nesting (seen last stmt) ≡ own_nesting stmt

  abbrev AgreesArms : Arms → Type 0
  AgreesArms arms = both_level (seen_both last arms) ≡ arms_own arms

  abbrev AgreesWhen : When → Type 0
  AgreesWhen when = suc (nesting (seen_when last when).arm) ≡ when_own when

  abbrev SuchStmt : Type 0
  SuchStmt = (stmt : Stmt) × AgreesStmt stmt

  abbrev SuchArms : Type 0
  SuchArms = (arms : Arms) × AgreesArms arms

  abbrev SuchWhen : Type 0
  SuchWhen = (when : When) × AgreesWhen when

  abbrev plain : List SuchStmt → List Stmt
  plain stmts = map (λ e. e.0) stmts

  abbrev plain_whens : List SuchWhen → List When
  plain_whens whens = map (λ e. e.0) whens

  stmts_agree : (xs : List SuchStmt) → nesting (seen_stmts last (plain xs)) ≡ stmts_own (plain xs)
  stmts_agree [] = refl
  stmts_agree (x ∷ xs) = ap₂ max x.1 (stmts_agree xs)

  whens_agree : (xs : List SuchWhen) →
      largest (map (λ (branch : Branch). suc (nesting branch.arm)) (map (seen_when last) (plain_whens xs))) ≡ whens_own (plain_whens xs)
  whens_agree [] = refl
  whens_agree (x ∷ xs) = ap₂ max x.1 (whens_agree xs)

  second_agrees : (xs : List SuchStmt) → second_level (Some (seen_stmts last (plain xs))) ≡ later_level (Some (map own_nesting (plain xs)))
  second_agrees [] = refl
  second_agrees (x ∷ xs) = ap suc (stmts_agree (x ∷ xs))

  -- each statement, by those that it holds

  abbrev mapped : Stmt-F SuchStmt SuchArms SuchWhen → Stmt-F Stmt Arms When
  mapped = map-Stmt SuchStmt SuchArms SuchWhen Stmt Arms When (λ e. e.0) (λ e. e.0) (λ e. e.0)

  abbrev deep : Stmt-F Stmt Arms When → ℕ
  deep y = own_step (map-Stmt Stmt Arms When ℕ ℕ ℕ own_nesting arms_own when_own y)

  abbrev shown : Stmt-F Stmt Arms When → language.Stmt
  shown y = seen_step last (map-Stmt Stmt Arms When language.Stmt Both Branch (seen last) (seen_both last) (seen_when last) y)

  evaluate_agrees : (subject : Subject) (xs : List SuchWhen) (has_other : Bool) (tail : language.Arms) (n : ℕ) →
      ((picker : language.Picker) → ((first : Bool) → leaves_out picker first ≡ false) → (z : Bool) → arms_nesting picker z tail ≡ n) →
      arms_nesting (evaluate_of subject (tests_of (map (seen_when last) (plain_whens xs))) has_other) true
      (branches_before (map (seen_when last) (plain_whens xs)) tail) ≡ max (whens_own (plain_whens xs)) n
  evaluate_agrees subject xs has_other tail n h =
      let branches = map (seen_when last) (plain_whens xs) in
      let tests = tests_of branches in
      let keep = keeps (cell_chosen subject) (count_from 1 tests) subject tests has_other in
      branches_is (evaluate_of subject tests has_other) keep true branches tail n (h (evaluate_of subject tests has_other) keep)
      ∙ ap (λ m. max m n) (whens_agree xs)

  step_agrees : (y : Stmt-F SuchStmt SuchArms SuchWhen) → stmt_nesting (shown (mapped y)) ≡ deep (mapped y)
  step_agrees (Stmt-F.Display items advance) = refl
  step_agrees (Stmt-F.Move from to) = refl
  step_agrees (Stmt-F.Arith calc into arms) =
      let both = seen_both last arms.0 in arith_is calc into both.first both.second ∙ arms.1
  step_agrees (Stmt-F.SetTrue place) = refl
  step_agrees (Stmt-F.Opens openings) = refl
  step_agrees (Stmt-F.Closes files) = refl
  step_agrees (Stmt-F.Read file into arms) =
      let both = seen_both last arms.0 in read_is file into both.first both.second ∙ arms.1
  step_agrees (Stmt-F.Write entry from) = refl
  step_agrees (Stmt-F.Rewrite entry from) = refl
  step_agrees (Stmt-F.If cond met unmet) =
      else_is (test_of cond) (nesting (seen_stmts last (plain met))) (map (seen last) (plain unmet))
      ∙ ap₂ (λ a b. suc (max a b)) (stmts_agree met) (stmts_agree unmet)
  step_agrees (Stmt-F.Evaluate subject whens None) =
      evaluate_agrees subject whens false (language.missing language.done) 0 (λ picker keep z. refl)
  step_agrees (Stmt-F.Evaluate subject whens (Some other)) =
      evaluate_agrees subject whens true (language.given (seen_stmts last (plain other)) language.done) (suc (nesting (seen_stmts last (plain other))))
      (λ picker keep z. other_is picker keep (seen_stmts last (plain other)) z)
      ∙ ap (λ n. max (whens_own (plain_whens whens)) (suc n)) (stmts_agree other)
      ∙ ap (max (whens_own (plain_whens whens))) (one_more (stmts_own (plain other)))
  step_agrees (Stmt-F.Loop control body) =
      loop_is (control_in control) (seen_stmts last (plain body)) ∙ ap suc (stmts_agree body)
  step_agrees (Stmt-F.Perform entry exit control) = perform_is (control_in control) entry exit
  step_agrees (Stmt-F.Go to) = refl
  step_agrees (Stmt-F.GoDepending to on) = refl
  step_agrees Stmt-F.NextSentence = refl
  step_agrees Stmt-F.StopRun = refl
  step_agrees Stmt-F.Exit = refl
  step_agrees Stmt-F.ExitParagraph = refl
  step_agrees Stmt-F.ExitSection = refl
  step_agrees (Stmt-F.ExitPerform cycle) = refl
  step_agrees Stmt-F.Continue = refl

  layer : (y : Stmt-F SuchStmt SuchArms SuchWhen) → AgreesStmt (roll-Stmt (mapped y))
  layer y =
      ap stmt_nesting (fold-roll-Stmt language.Stmt Both Branch (seen_step last) both_step branch_step (mapped y))
      ∙ step_agrees y
      ∙ sym (fold-roll-Stmt ℕ ℕ ℕ own_step arms_step when_step (mapped y))

  -- the arms of READ and arithmetic, and a WHEN

  abbrev mapped_arms : Arms-F SuchStmt SuchArms SuchWhen → Arms-F Stmt Arms When
  mapped_arms = map-Arms SuchStmt SuchArms SuchWhen Stmt Arms When (λ e. e.0) (λ e. e.0) (λ e. e.0)

  arms_by : (arms : Arms-F Stmt Arms When) (n : ℕ) (both : Both) →
      arms_step (map-Arms Stmt Arms When ℕ ℕ ℕ own_nesting arms_own when_own arms) ≡ n →
      both_step (map-Arms Stmt Arms When language.Stmt Both Branch (seen last) (seen_both last) (seen_when last) arms) ≡ both →
      both_level both ≡ n → AgreesArms (roll-Arms arms)
  arms_by arms n both hn hb h =
      ap both_level (fold-roll-Arms language.Stmt Both Branch (seen_step last) both_step branch_step arms ∙ hb)
      ∙ h ∙ sym (fold-roll-Arms ℕ ℕ ℕ own_step arms_step when_step arms ∙ hn)

  first_agrees : (xs : List SuchStmt) → first_level (Some (seen_stmts last (plain xs))) ≡ level (Some (map own_nesting (plain xs)))
  first_agrees xs = ap suc (stmts_agree xs) ∙ one_more (stmts_own (plain xs))

  arms_layer : (first second : Option (List SuchStmt)) → AgreesArms (roll-Arms (mapped_arms (record { first = first; second = second })))
  arms_layer None None = arms_by _ _ (record { first = None; second = None }) refl refl refl
  arms_layer None (Some second) =
      arms_by _ _ (record { first = None; second = Some (seen_stmts last (plain second)) }) refl refl
      (ap (max 0) (second_agrees second))
  arms_layer (Some first) None =
      arms_by _ _ (record { first = Some (seen_stmts last (plain first)); second = None }) refl refl
      (ap (λ n. max n 0) (first_agrees first))
  arms_layer (Some first) (Some second) =
      arms_by _ _ (record { first = Some (seen_stmts last (plain first)); second = Some (seen_stmts last (plain second)) }) refl refl
      (ap₂ max (first_agrees first) (second_agrees second))

  when_layer : (tests : List Test) (stmts : List SuchStmt) → AgreesWhen (roll-When (map-When SuchStmt SuchArms SuchWhen Stmt Arms When (λ e. e.0) (λ e. e.0) (λ e. e.0) (record { tests = tests; stmts = stmts })))
  when_layer tests stmts =
      let y : When-F Stmt Arms When = record { tests = tests; stmts = plain stmts } in
      ap (λ (s : Branch). suc (nesting s.arm)) (fold-roll-When language.Stmt Both Branch (seen_step last) both_step branch_step y)
      ∙ ap suc (stmts_agree stmts)
      ∙ sym (fold-roll-When ℕ ℕ ℕ own_step arms_step when_step y)

  pub stmt-agrees : (stmt : Stmt) → AgreesStmt stmt
  stmt-agrees stmt =
      ind-Stmt AgreesStmt AgreesArms AgreesWhen
      (λ x y is. subst (λ z. AgreesStmt (roll-Stmt z)) is (layer y))
      (λ x y is. subst (λ z. AgreesArms (roll-Arms z)) is (arms_layer y.first y.second))
      (λ x y is. subst (λ z. AgreesWhen (roll-When z)) is (when_layer y.tests y.stmts)) stmt
