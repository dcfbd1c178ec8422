-- A statement of the program nests as deep as what control sees of it.
use Rattle.std.proofs.Common.{◌≡◌, ℕ, suc, ◌+◌, max, Bool, true, false, List, [], ◌∷◌, map, Option, Some, None, refl, ap, ap₂, sym, ◌∙◌, subst, arith}
use Rattle.cob_tree.specs.declared.calc.Calc.{Calc}
use Rattle.cob_tree.specs.declared.calc.Target.{Target}
use Rattle.cob_tree.specs.declared.choice.Subject.{Subject}
use Rattle.cob_tree.specs.declared.choice.Test.{Test}
use Rattle.cob_tree.specs.declared.program.Paragraph.{Paragraph}
use Rattle.cob_tree.specs.declared.program.Program.{Program}
use Rattle.cob_tree.specs.declared.program.Sentence.{Sentence}
use Rattle.cob_tree.specs.declared.stmt.Arms.{Arms, roll-Arms, map-Arms, fold-roll-Arms}
use Rattle.cob_tree.specs.declared.stmt.When.{When, roll-When, map-When, fold-roll-When}
use Rattle.cob_tree.specs.declared.stmt.Stmt.{Stmt, ind-Stmt, map-Stmt, roll-Stmt, fold-roll-Stmt}
use Rattle.cob_tree.specs.declared.stmt.Stmt.TheOpen.{Stmt-F, Arms-F, When-F}
use Rattle.cob_tree.specs.Depth.{largest, level, depth_step, arms_step, when_step, stmt_depth, arms_depth, when_depth, stmts_depth, whens_depth, sentence_depth, paragraph_depth, program_depth}
use Rattle.control_flow_theory.specs.language.Language as language
use Rattle.control_flow_theory.specs.language.Control.{arith_stmt, arm_before, else_of, stmts_of, control_in, loop_of, perform_of, picker_by, cell_chosen, count_from, evaluate_of, tests_of, Branch, branches_before, Both, both_arms, both_step, branch_step, seen_step, seen, seen_when, seen_both, seen_stmts, seen_sentence, seen_paragraphs, section_last, control_of}
use Rattle.procedure_split.specs.written_depth.Levels.{least_levels, levels, stmt_levels, arms_levels, paragraph_levels, program_levels}

no_more : (n : ℕ) → max n 0 ≡ n
no_more n = omega (arith)

no_less : (n : ℕ) → max 0 n ≡ n
no_less n = omega (arith)

one_more : (n : ℕ) → suc n ≡ 1 + n
one_more n = omega (arith)

-- The two arms of READ and of arithmetic.

abbrev both_levels : Both → ℕ
both_levels both = arms_levels (both_arms both)

arith_is : (calc : Calc) (into : List Target) (first second : Option language.Stmts) →
    stmt_levels (arith_stmt calc into (record { first = first; second = second }))
    ≡ both_levels (record { first = first; second = second })
arith_is calc into None None = refl
arith_is calc into None (Some second) = no_less (both_levels (record { first = None; second = Some second }))
arith_is calc into (Some first) None = no_less (both_levels (record { first = Some first; second = None }))
arith_is calc into (Some first) (Some second) =
    no_less (both_levels (record { first = Some first; second = Some second }))

-- IF.

else_is : (m : ℕ) (stmts : List language.Stmt) →
    max 0 (max (suc m) (arms_levels (arm_before (else_of stmts) language.done)))
    ≡ 1 + max m (levels (stmts_of stmts))
else_is m [] = let h : max 0 (max (suc m) 0) ≡ 1 + max m 0 = omega (arith) in h
else_is m (stmt ∷ stmts) =
    let n = levels (stmts_of (stmt ∷ stmts)) in
    let h : max 0 (max (suc m) (max (suc n) 0)) ≡ 1 + max m n = omega (arith) in h

-- EVALUATE.

least_is : (cell : Option ℕ) (counted : Bool) (subject : Subject) (tests : List (List Test))
    (has_other : Bool) →
    least_levels (picker_by cell counted (language.Evaluate subject tests has_other)) ≡ 1
least_is None counted subject tests has_other = refl
least_is (Some cell) true subject tests has_other = refl
least_is (Some cell) false subject tests has_other = refl

abbrev branches_levels : List Branch → ℕ
branches_levels branches = largest (map (λ (branch : Branch). levels branch.arm) branches)

branches_is : (branches : List Branch) (tail : language.Arms) →
    max 1 (arms_levels (branches_before branches tail))
    ≡ max (1 + branches_levels branches) (arms_levels tail)
branches_is [] tail = refl
branches_is (branch ∷ branches) tail =
    let m = levels branch.arm in
    let rest = arms_levels (branches_before branches tail) in
    let b = branches_levels branches in
    let t = arms_levels tail in
    let behind : max 1 rest ≡ max (1 + b) t = branches_is branches tail in
    let one : max 1 (max (suc m) rest) ≡ max (suc m) (max 1 rest) = omega (arith) in
    let two : max (suc m) (max (1 + b) t) ≡ max (1 + max m b) t = omega (arith) in
    one ∙ ap (max (suc m)) behind ∙ two

evaluate_is : (subject : Subject) (branches : List Branch) (has_other : Bool)
    (tail : language.Arms) →
    stmt_levels (language.Choose (evaluate_of subject (tests_of branches) has_other)
    (branches_before branches tail))
    ≡ max (1 + branches_levels branches) (arms_levels tail)
evaluate_is subject branches has_other tail =
    let tests = tests_of branches in
    ap (λ n. max n (arms_levels (branches_before branches tail)))
    (least_is (cell_chosen subject) (count_from 1 tests) subject tests has_other)
    ∙ branches_is branches tail

-- Loops.

loop_is : (control : Option language.Control) (body : language.Stmts) →
    stmt_levels (loop_of control body) ≡ suc (levels body)
loop_is None body =
    let n = levels body in
    let h : max 0 (max (suc n) 0) ≡ suc n = omega (arith) in h
loop_is (Some control) body = refl

perform_is : (control : Option language.Control) (entry exit : ℕ) →
    stmt_levels (perform_of control entry exit) ≡ 0
perform_is None entry exit = refl
perform_is (Some control) entry exit = refl

module _ (last : ℕ) where
  abbrev AgreesStmt : Stmt → Type 0
  AgreesStmt stmt = stmt_levels (seen last stmt) ≡ stmt_depth stmt

  abbrev AgreesArms : Arms → Type 0
  AgreesArms arms = both_levels (seen_both last arms) ≡ arms_depth arms

  abbrev AgreesWhen : When → Type 0
  AgreesWhen when = levels (seen_when last when).arm ≡ when_depth when

  abbrev SuchStmt : Type 0
  SuchStmt = (stmt : Stmt) × AgreesStmt stmt

  abbrev SuchArms : Type 0
  SuchArms = (arms : Arms) × AgreesArms arms

  abbrev SuchWhen : Type 0
  SuchWhen = (when : When) × AgreesWhen when

  abbrev plain : List SuchStmt → List Stmt
  plain stmts = map (λ e. e.0) stmts

  abbrev plain_whens : List SuchWhen → List When
  plain_whens whens = map (λ e. e.0) whens

  stmts_agree : (xs : List SuchStmt) → levels (seen_stmts last (plain xs)) ≡ stmts_depth (plain xs)
  stmts_agree [] = refl
  stmts_agree (x ∷ xs) = ap₂ max x.1 (stmts_agree xs)

  whens_agree : (xs : List SuchWhen) →
      branches_levels (map (seen_when last) (plain_whens xs)) ≡ whens_depth (plain_whens xs)
  whens_agree [] = refl
  whens_agree (x ∷ xs) = ap₂ max x.1 (whens_agree xs)

  -- an arm that stands there
  arm_agrees : (xs : List SuchStmt) →
      suc (levels (seen_stmts last (plain xs))) ≡ level (Some (map stmt_depth (plain xs)))
  arm_agrees xs = ap suc (stmts_agree xs) ∙ one_more (stmts_depth (plain xs))

  -- each statement, by those that it holds

  abbrev mapped : Stmt-F SuchStmt SuchArms SuchWhen → Stmt-F Stmt Arms When
  mapped = map-Stmt SuchStmt SuchArms SuchWhen Stmt Arms When (λ e. e.0) (λ e. e.0) (λ e. e.0)

  abbrev deep : Stmt-F Stmt Arms When → ℕ
  deep y = depth_step (map-Stmt Stmt Arms When ℕ ℕ ℕ stmt_depth arms_depth when_depth y)

  abbrev shown : Stmt-F Stmt Arms When → language.Stmt
  shown y = seen_step last
      (map-Stmt Stmt Arms When language.Stmt Both Branch (seen last) (seen_both last) (seen_when last) y)

  step_agrees : (y : Stmt-F SuchStmt SuchArms SuchWhen) →
      stmt_levels (shown (mapped y)) ≡ deep (mapped y)
  step_agrees (Stmt-F.Display items advance) = refl
  step_agrees (Stmt-F.Move from to) = refl
  step_agrees (Stmt-F.Arith calc into arms) =
      let both = seen_both last arms.0 in arith_is calc into both.first both.second ∙ arms.1
  step_agrees (Stmt-F.SetTrue place) = refl
  step_agrees (Stmt-F.Opens openings) = refl
  step_agrees (Stmt-F.Closes files) = refl
  step_agrees (Stmt-F.Read file into arms) =
      no_less (both_levels (seen_both last arms.0)) ∙ arms.1
  step_agrees (Stmt-F.Write entry from) = refl
  step_agrees (Stmt-F.Rewrite entry from) = refl
  step_agrees (Stmt-F.If cond met unmet) =
      else_is (levels (seen_stmts last (plain met))) (map (seen last) (plain unmet))
      ∙ ap₂ (λ a b. 1 + max a b) (stmts_agree met) (stmts_agree unmet)
  step_agrees (Stmt-F.Evaluate subject whens None) =
      evaluate_is subject (map (seen_when last) (plain_whens whens)) false
      (language.missing language.done)
      ∙ ap (λ n. max (1 + n) 0) (whens_agree whens)
  step_agrees (Stmt-F.Evaluate subject whens (Some other)) =
      let arm = seen_stmts last (plain other) in
      evaluate_is subject (map (seen_when last) (plain_whens whens)) true
      (language.given arm language.done)
      ∙ ap₂ (λ m n. max (1 + m) n) (whens_agree whens)
      (no_more (suc (levels arm)) ∙ arm_agrees other)
  step_agrees (Stmt-F.Loop control body) =
      loop_is (control_in control) (seen_stmts last (plain body)) ∙ arm_agrees body
  step_agrees (Stmt-F.Perform entry exit control) = perform_is (control_in control) entry exit
  step_agrees (Stmt-F.Go to) = refl
  step_agrees (Stmt-F.GoDepending to on) = refl
  step_agrees Stmt-F.NextSentence = refl
  step_agrees Stmt-F.StopRun = refl
  step_agrees Stmt-F.Exit = refl
  step_agrees Stmt-F.ExitParagraph = refl
  step_agrees Stmt-F.ExitSection = refl
  step_agrees (Stmt-F.ExitPerform cycle) = refl
  step_agrees Stmt-F.Continue = refl

  layer : (y : Stmt-F SuchStmt SuchArms SuchWhen) → AgreesStmt (roll-Stmt (mapped y))
  layer y =
      ap stmt_levels (fold-roll-Stmt language.Stmt Both Branch (seen_step last) both_step branch_step (mapped y))
      ∙ step_agrees y
      ∙ sym (fold-roll-Stmt ℕ ℕ ℕ depth_step arms_step when_step (mapped y))

  -- the arms of READ and arithmetic, and a WHEN

  abbrev mapped_arms : Arms-F SuchStmt SuchArms SuchWhen → Arms-F Stmt Arms When
  mapped_arms = map-Arms SuchStmt SuchArms SuchWhen Stmt Arms When (λ e. e.0) (λ e. e.0) (λ e. e.0)

  arms_by : (arms : Arms-F Stmt Arms When) (n : ℕ) (both : Both) →
      arms_step (map-Arms Stmt Arms When ℕ ℕ ℕ stmt_depth arms_depth when_depth arms) ≡ n →
      both_step (map-Arms Stmt Arms When language.Stmt Both Branch (seen last) (seen_both last) (seen_when last) arms) ≡ both →
      both_levels both ≡ n → AgreesArms (roll-Arms arms)
  arms_by arms n both hn hb h =
      ap both_levels (fold-roll-Arms language.Stmt Both Branch (seen_step last) both_step branch_step arms ∙ hb)
      ∙ h ∙ sym (fold-roll-Arms ℕ ℕ ℕ depth_step arms_step when_step arms ∙ hn)

  arms_layer : (first second : Option (List SuchStmt)) →
      AgreesArms (roll-Arms (mapped_arms (record { first = first; second = second })))
  arms_layer None None =
      arms_by _ _ (record { first = None; second = None }) refl refl refl
  arms_layer None (Some second) =
      let arm = seen_stmts last (plain second) in
      arms_by _ _ (record { first = None; second = Some arm }) refl refl
      (no_more (suc (levels arm)) ∙ arm_agrees second
      ∙ sym (no_less (level (Some (map stmt_depth (plain second))))))
  arms_layer (Some first) None =
      arms_by _ _ (record { first = Some (seen_stmts last (plain first)); second = None }) refl refl
      (ap (λ n. max n 0) (arm_agrees first))
  arms_layer (Some first) (Some second) =
      let arm = seen_stmts last (plain second) in
      arms_by _ _
      (record { first = Some (seen_stmts last (plain first)); second = Some arm }) refl refl
      (ap₂ max (arm_agrees first) (no_more (suc (levels arm)) ∙ arm_agrees second))

  when_layer : (tests : List Test) (stmts : List SuchStmt) →
      AgreesWhen (roll-When (map-When SuchStmt SuchArms SuchWhen Stmt Arms When
      (λ e. e.0) (λ e. e.0) (λ e. e.0) (record { tests = tests; stmts = stmts })))
  when_layer tests stmts =
      let y : When-F Stmt Arms When = record { tests = tests; stmts = plain stmts } in
      ap (λ (s : Branch). levels s.arm) (fold-roll-When language.Stmt Both Branch (seen_step last) both_step branch_step y)
      ∙ stmts_agree stmts
      ∙ sym (fold-roll-When ℕ ℕ ℕ depth_step arms_step when_step y)

  stmt-agrees : (stmt : Stmt) → AgreesStmt stmt
  stmt-agrees stmt =
      ind-Stmt AgreesStmt AgreesArms AgreesWhen
      (λ x y is. subst (λ z. AgreesStmt (roll-Stmt z)) is (layer y))
      (λ x y is. subst (λ z. AgreesArms (roll-Arms z)) is (arms_layer y.first y.second))
      (λ x y is. subst (λ z. AgreesWhen (roll-When z)) is (when_layer y.tests y.stmts)) stmt

  pub list-agrees : (list : List Stmt) → stmts_depth list ≡ levels (seen_stmts last list)
  list-agrees [] = refl
  list-agrees (stmt ∷ list) = ap₂ max (sym (stmt-agrees stmt)) (list-agrees list)

  pub paragraph-agrees : (sentences : List Sentence) →
      largest (map sentence_depth sentences) ≡ paragraph_levels (map (seen_sentence last) sentences)
  paragraph-agrees [] = refl
  paragraph-agrees (sentence ∷ sentences) =
      ap₂ max (list-agrees sentence.stmts) (paragraph-agrees sentences)

paragraphs-agree : (number : ℕ) (paragraphs : List Paragraph) →
    largest (map paragraph_depth paragraphs)
    ≡ largest (map paragraph_levels (seen_paragraphs number paragraphs))
paragraphs-agree number [] = refl
paragraphs-agree number (paragraph ∷ paragraphs) =
    ap₂ max (paragraph-agrees (section_last number paragraphs) paragraph.sentences)
    (paragraphs-agree (suc number) paragraphs)

pub program-agrees : (program : Program) → program_depth program ≡ program_levels (control_of program)
program-agrees program = paragraphs-agree 0 program.paragraphs
