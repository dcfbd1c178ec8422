-- Lists of what is written, and EVALUATE.
use Rattle.std.proofs.Common.{◌≡◌, ℕ, suc, ◌+◌, ◌<◌, Bool, true, false, if◌then◌else◌, nat_lt, List, [], ◌∷◌, map, length, Option, Some, None, is_some, refl, ap, sym, ◌∙◌, subst, arith}
use Rattle.std.proofs.lemmas.List.{length-map}
use Rattle.cob_tree.specs.declared.choice.Subject.{Subject}
use Rattle.cob_tree.specs.declared.choice.Test.{Test}
use Rattle.cob_tree.specs.declared.stmt.Stmt.{Stmt}
use Rattle.cob_tree.specs.declared.stmt.Stmt.TheVariants.{Continue, Evaluate}
use Rattle.cob_tree.specs.declared.stmt.When.{When}
use Rattle.control_flow_theory.specs.language.Language as language
use Rattle.control_flow_theory.specs.language.Control.{arm_before, stmts_of, evaluate_of, tests_of, Branch, branches_before, cell_chosen, count_from, picker_by, seen, seen_when, seen_stmts}
use Rattle.control_flow_theory.proofs.language_lemmas.Rows.{seen_if_any, seen_evaluate}
use Rattle.control_flow_theory.specs.rendering.Rendering.{Empty, Continues, standing, arm_stands, written_arm}
use Rattle.cobol_theory.specs.cell_serving.Naming.{last_stands}
use Rattle.statement_builders.specs.arms.EmptyArms.{if_had, of_whens, put_arm, stands_so}
use Rattle.statement_builders.specs.arms.Choosing.{IsEvaluate}
use Rattle.statement_builders.specs.arms.Written.{Way, written, all_written, or_nothing, written_if_any, written_branch}
use Rattle.statement_builders.proofs.arms_lemmas.ChoiceRows.{continues_is}
use Rattle.body_rendering.proofs.own_statements_lemmas.OwnRows.{arms_are, arm_is, any_is, arm_row}

-- of own subjects the choice is no choice by a cell
own_choice : (cell : Option ℕ) (counted : Bool) (chooser : language.Chooser) → is_some cell ≡ false → picker_by cell counted chooser ≡ language.By chooser
own_choice None counted chooser h = refl
own_choice (Some cell) counted chooser h = absurd (let e : true ≡ false = h in cc)

within : (whens : ℕ) (has_other : Bool) (k : ℕ) → k < whens → of_whens whens has_other k ≡ Continues
within whens has_other k lt = by_case (nat_lt k whens) refl
  where
    by_case : (b : Bool) → b ≡ nat_lt k whens → (if b then Continues else if_had has_other) ≡ Continues
    by_case true e = refl
    by_case false e = absurd (grind (arith, e))

past : (whens : ℕ) (has_other : Bool) → of_whens whens has_other whens ≡ if_had has_other
past whens has_other = by_case (nat_lt whens whens) refl
  where
    by_case : (b : Bool) → b ≡ nat_lt whens whens → (if b then Continues else if_had has_other) ≡ if_had has_other
    by_case false e = refl
    by_case true e = absurd (grind (arith, e))

module _ (way : Way) where
  -- the WHENs from the one with this number on
  whens_row : (whens : ℕ) (had : Bool) (k : ℕ) (branches : List Branch) (tail : language.Arms) → k + length branches ≡ whens →
      arms_are way (of_whens whens had) k (branches_before branches tail) ≡ branches_before (map (written_branch way) branches) (arms_are way (of_whens whens had) whens tail)
  whens_row whens had k [] tail e = ap (λ n. arms_are way (of_whens whens had) n tail) (omega (arith, e))
  whens_row whens had k (branch ∷ branches) tail e =
      let rest = arms_are way (of_whens whens had) (suc k) (branches_before branches tail) in
      ap (λ empty. written_arm Continue empty true (all_written way branch.arm) rest) (within whens had k (omega (arith, e)))
      ∙ continues_is (all_written way branch.arm) rest
      ∙ ap (language.given (or_nothing way branch.arm)) (whens_row whens had (suc k) branches tail (omega (arith, e)))

  -- whether the last of these arms stands there
  last_row : (empty : ℕ → Empty) (k : ℕ) (first : Bool) (branches : List Branch) (other : Option language.Stmts) (had : Bool) → empty (k + length branches) ≡ if_had had →
      last_stands (first ∷ standing empty k (branches_before branches (arm_before other language.done))) ≡ stands_so had (arm_is way other)
  last_row empty k first [] None had h = one_missing (empty k) had (subst (λ n. empty n ≡ if_had had) (omega arith) h)
    where
      one_missing : (e : Empty) (had : Bool) → e ≡ if_had had → arm_stands e false language.none ≡ stands_so had language.none
      one_missing e true h = ap (λ x. arm_stands x false language.none) h
      one_missing e false h = ap (λ x. arm_stands x false language.none) h
  last_row empty k first [] (Some stmts) had h = one_given (empty k) stmts had (subst (λ n. empty n ≡ if_had had) (omega arith) h)
    where
      one_given : (e : Empty) (stmts : language.Stmts) (had : Bool) → e ≡ if_had had → arm_stands e true stmts ≡ stands_so had (all_written way stmts)
      one_given e language.none true h = ap (λ x. arm_stands x true language.none) h
      one_given e language.none false h = ap (λ x. arm_stands x true language.none) h
      one_given e (language.also stmt stmts) had h = refl
  last_row empty k first (branch ∷ branches) other had h =
      last_row empty (suc k) (arm_stands (empty k) true branch.arm) branches other had (subst (λ n. empty n ≡ if_had had) (omega arith) h)

  tests_row : (branches : List Branch) → tests_of (map (written_branch way) branches) ≡ tests_of branches
  tests_row [] = refl
  tests_row (branch ∷ branches) = ap (λ tests. branch.tests ∷ tests) (tests_row branches)

  last_all : (empty : ℕ → Empty) (branches : List Branch) (other : Option language.Stmts) (had : Bool) → empty (length branches) ≡ if_had had →
      last_stands (standing empty 0 (branches_before branches (arm_before other language.done))) ≡ stands_so had (arm_is way other)
  last_all empty branches other had h =
      drop_first (standing empty 0 (branches_before branches (arm_before other language.done))) (not_nil empty 0 branches other)
      ∙ last_row empty 0 true branches other had (subst (λ n. empty n ≡ if_had had) (omega arith) h)
    where
      drop_first : (stands : List Bool) → 0 < length stands → last_stands stands ≡ last_stands (true ∷ stands)
      drop_first [] h = absurd (omega (arith, h))
      drop_first (x ∷ xs) h = refl

      not_nil : (empty : ℕ → Empty) (k : ℕ) (branches : List Branch) (other : Option language.Stmts) → 0 < length (standing empty k (branches_before branches (arm_before other language.done)))
      not_nil empty k [] None = omega arith
      not_nil empty k [] (Some stmts) = omega arith
      not_nil empty k (branch ∷ branches) other = omega arith

  pub evaluate_row : (subject : Subject) (whens whens' : List When) (other : Option (List Stmt)) (stmts : List Stmt) (made : Stmt) →
      is_some (cell_chosen subject) ≡ false →
      map (seen_when 0) whens' ≡ map (written_branch way) (map (seen_when 0) whens) → seen_stmts 0 stmts ≡ written_if_any way other →
      IsEvaluate subject whens' (is_some other) (seen_stmts 0 stmts) made → seen 0 made ≡ written way (seen 0 (Evaluate subject whens other))
  evaluate_row subject whens whens' other stmts made own w o is =
      let branches = map (seen_when 0) whens in
      let tests = tests_of branches in
      let had = is_some other in
      let empty : ℕ → Empty = of_whens (length tests) had in
      let arm = seen_if_any 0 other in
      let arms = branches_before branches (arm_before arm language.done) in
      let many : 0 + length branches ≡ length tests = let h = length-map branches (λ (b : Branch). b.tests) in omega (arith, h) in
      let at_last : empty (length branches) ≡ if_had had = subst (λ n. empty n ≡ if_had had) (omega (arith, many)) (past (length tests) had) in
      let picked : List (List Test) → Bool → language.Picker = λ ts stands. evaluate_of subject ts stands in
      let by : List (List Test) → Bool → language.Picker = λ ts stands. language.By (language.Evaluate subject ts stands) in
      is
      ∙ ap (λ bs. language.Choose (picked (tests_of bs) (stands_so had (seen_stmts 0 stmts))) (branches_before bs (put_arm (if_had had) (seen_stmts 0 stmts) language.done))) w
      ∙ ap (λ s. language.Choose (picked (tests_of (map (written_branch way) branches)) (stands_so had s)) (branches_before (map (written_branch way) branches) (put_arm (if_had had) s language.done))) (o ∙ any_is way other)
      ∙ ap (λ ts. language.Choose (picked ts (stands_so had (arm_is way arm))) (branches_before (map (written_branch way) branches) (put_arm (if_had had) (arm_is way arm) language.done))) (tests_row branches)
      ∙ ap (λ picker. language.Choose picker (branches_before (map (written_branch way) branches) (put_arm (if_had had) (arm_is way arm) language.done)))
      (own_choice (cell_chosen subject) (count_from 1 tests) (language.Evaluate subject tests (stands_so had (arm_is way arm))) own)
      ∙ ap (λ stands. language.Choose (by tests stands) (branches_before (map (written_branch way) branches) (put_arm (if_had had) (arm_is way arm) language.done))) (sym (last_all empty branches arm had at_last))
      ∙ ap (λ a. language.Choose (by tests (last_stands (standing empty 0 arms))) (branches_before (map (written_branch way) branches) a))
      (sym (arm_row way empty (length tests) had arm language.done (past (length tests) had)))
      ∙ ap (language.Choose (by tests (last_stands (standing empty 0 arms)))) (sym (whens_row (length tests) had 0 branches (arm_before arm language.done) many))
      ∙ ap (λ picker. written way (language.Choose picker arms)) (sym (own_choice (cell_chosen subject) (count_from 1 tests) (language.Evaluate subject tests had) own))
      ∙ ap (written way) (sym (seen_evaluate 0 subject whens other))

  -- Lists.

  pub stmts_row : (stmts : List language.Stmt) → stmts_of (map (written way) stmts) ≡ all_written way (stmts_of stmts)
  stmts_row [] = refl
  stmts_row (stmt ∷ stmts) = ap (language.also (written way stmt)) (stmts_row stmts)
