-- Choices over lists, row by row.
use Rattle.std.proofs.Common.{◌≡◌, ℕ, zero, suc, ◌+◌, ◌-◌, ◌<◌, ◌≤◌, Bool, true, false, if◌then◌else◌, ◌==◌, List, [], ◌∷◌, ◌++◌, length, map, take, Option, Some, None, is_some, get_or, refl, ap, sym, ◌∙◌, arith, append_assoc, add-one}
use Rattle.std.proofs.lemmas.List.{length-map}
use Rattle.std.proofs.Math.ListN.{get_or-map}
use Rattle.std.specs.Prelude.{nat_lt}
use Rattle.cob_tree.specs.declared.choice.Subject.{Subject}
use Rattle.cob_tree.specs.declared.choice.Subject.TheVariants as subjects
use Rattle.cob_tree.specs.declared.choice.Test.{Test}
use Rattle.cob_tree.specs.declared.stmt.Stmt.{Stmt}
use Rattle.cob_tree.specs.declared.stmt.Stmt.TheVariants.{Continue}
use Rattle.cob_tree.specs.declared.stmt.When.{When}
use Rattle.control_flow_theory.specs.language.Language as language
use Rattle.control_flow_theory.specs.language.Language.{Stmts, none, also, Arms, done, given}
use Rattle.control_flow_theory.specs.language.Control.{Branch, tests_of, branches_before, evaluate_of, picker_by, cell_chosen, count_from, seen, seen_stmts, seen_when}
use Rattle.control_flow_theory.specs.rendering.Rendering.{Empty, Continues, Goes, arm_stands, required, and_missing}
use Rattle.statement_builders.specs.arms.EmptyArms.{if_had, of_whens, of_cell, put_arm, stands_so}
use Rattle.statement_builders.specs.arms.Choosing.{IsEvaluate}
use Rattle.statement_builders.proofs.arms_lemmas.ChoiceRows.{continues_is}
use Rattle.cobol_theory.specs.cell_serving.Naming.{last_stands, whens_of}
use Rattle.statement_builders.specs.item_words.Lists.{put_arms, stand_so, branch, branches_of, AreWhens, continued, IsAmong}

-- EVALUATE of WHENs.

-- of own subjects the choice is no choice by a cell
own_choice : (cell : Option ℕ) (counted : Bool) (chooser : language.Chooser) → is_some cell ≡ false → picker_by cell counted chooser ≡ language.By chooser
own_choice None counted chooser h = refl
own_choice (Some cell) counted chooser h = absurd (let e : true ≡ false = h in cc)

tests_are : (tests : List (List Test)) (lists : List Stmts) → length tests ≡ length lists → tests_of (branches_of tests lists) ≡ tests
tests_are [] [] e = refl
tests_are [] (stmts ∷ lists) e = refl
tests_are (each ∷ tests) [] e = absurd (omega (arith, e))
tests_are (each ∷ tests) (stmts ∷ lists) e = ap (λ more. each ∷ more) (tests_are tests lists (omega (arith, e)))

arms_are : (tests : List (List Test)) (lists : List Stmts) (others : Arms) → length tests ≡ length lists → branches_before (branches_of tests lists) others ≡ continued lists others
arms_are [] [] others e = refl
arms_are [] (stmts ∷ lists) others e = absurd (omega (arith, e))
arms_are (each ∷ tests) [] others e = absurd (omega (arith, e))
arms_are (each ∷ tests) (stmts ∷ lists) others e =
    ap (language.given (required Continue stmts)) (arms_are tests lists others (omega (arith, e)))
    ∙ sym (continues_is stmts (continued lists others))

pub among_row : (subject : Subject) (tests : List (List Test)) (lists : List Stmts) (other : Stmts) (had : Bool) (whens : List When) (made : Stmt) →
    AreWhens tests lists whens → is_some (cell_chosen subject) ≡ false → IsEvaluate subject whens had other made → IsAmong subject tests lists other had made
among_row subject tests lists other had whens made are own is =
    let stands = stands_so had other in
    let tail = put_arm (if_had had) other done in (
      are.0,
      is
          ∙ ap (λ branches. language.Choose (evaluate_of subject (tests_of branches) stands) (branches_before branches tail)) are.1
          ∙ ap (λ ts. language.Choose (evaluate_of subject ts stands) (branches_before (branches_of tests lists) tail)) (tests_are tests lists are.0)
          ∙ ap (language.Choose (evaluate_of subject tests stands)) (arms_are tests lists tail are.0)
          ∙ ap (λ picker. language.Choose picker (continued lists tail)) (own_choice (cell_chosen subject) (count_from 1 tests) (language.Evaluate subject tests stands) own),
    )

-- one WHEN more
branches_next : (tests : List (List Test)) (lists : List Stmts) (at : ℕ) (some_tests : List Test) (some : Stmts) → at < length tests → at < length lists →
    take (suc at) (branches_of tests lists) ≡ take at (branches_of tests lists) ++ branch (get_or tests at some_tests) (get_or lists at some) ∷ []
branches_next [] lists at some_tests some h g = absurd (omega (arith, h))
branches_next (each ∷ tests) [] at some_tests some h g = absurd (omega (arith, g))
branches_next (each ∷ tests) (stmts ∷ lists) zero some_tests some h g = refl
branches_next (each ∷ tests) (stmts ∷ lists) (suc at) some_tests some h g =
    ap (λ more. branch each stmts ∷ more) (branches_next tests lists at some_tests some (omega (arith, h)) (omega (arith, g)))

pub branches_all : (tests : List (List Test)) (lists : List Stmts) (at : ℕ) → length lists ≤ at → take at (branches_of tests lists) ≡ branches_of tests lists
branches_all [] lists zero most = refl
branches_all [] lists (suc at) most = refl
branches_all (each ∷ tests) [] zero most = refl
branches_all (each ∷ tests) [] (suc at) most = refl
branches_all (each ∷ tests) (stmts ∷ lists) zero most = absurd (omega (arith, most))
branches_all (each ∷ tests) (stmts ∷ lists) (suc at) most = ap (λ more. branch each stmts ∷ more) (branches_all tests lists at (omega (arith, most)))

whens_append : (old : List When) (one : When) → map (seen_when 0) (old ++ one ∷ []) ≡ map (seen_when 0) old ++ seen_when 0 one ∷ []
whens_append [] one = refl
whens_append (when ∷ old) one = ap (λ l. seen_when 0 when ∷ l) (whens_append old one)

pub whens_next : (tests : List (List Test)) (arms : List (List Stmt)) (before : List Branch) (at : ℕ) (old new : List When) (one : When) (own : List Test) (stmts : List Stmt) → at < length tests → at < length arms →
    get_or tests at own ≡ own → get_or arms at stmts ≡ stmts → new ≡ old ++ one ∷ [] → seen_when 0 one ≡ branch own (seen_stmts 0 stmts) →
    map (seen_when 0) old ≡ before ++ take at (branches_of tests (map (seen_stmts 0) arms)) → map (seen_when 0) new ≡ before ++ take (at + 1) (branches_of tests (map (seen_stmts 0) arms))
whens_next tests arms before at old new one own stmts lt less same alike e is h =
    let lists = map (seen_stmts 0) arms in
    let all = branches_of tests lists in
    let many : length lists ≡ length arms = length-map arms (seen_stmts 0) in
    let list_is : get_or lists at (seen_stmts 0 stmts) ≡ seen_stmts 0 stmts = get_or-map (seen_stmts 0) arms at stmts ∙ ap (seen_stmts 0) alike in
    let here : branch own (seen_stmts 0 stmts) ≡ branch (get_or tests at own) (get_or lists at (seen_stmts 0 stmts)) =
    ap (λ ts. branch ts (seen_stmts 0 stmts)) (sym same) ∙ ap (branch (get_or tests at own)) (sym list_is) in
    let last = branch (get_or tests at own) (get_or lists at (seen_stmts 0 stmts)) ∷ [] in
    ap (map (seen_when 0)) e
    ∙ whens_append old one
    ∙ ap (λ b. map (seen_when 0) old ++ b ∷ []) (is ∙ here)
    ∙ ap (λ l. l ++ last) h
    ∙ append_assoc before (take at all) last
    ∙ ap (λ l. before ++ l) (sym (branches_next tests lists at own (seen_stmts 0 stmts) lt (omega (arith, many, less))))
    ∙ ap (λ n. before ++ take n all) (sym (add-one at))

-- Lists of arms.

continued_row : (empty : ℕ → Empty) (most k : ℕ) (lists : List Stmts) (other : Stmts) (e : Empty) → ((n : ℕ) → n < most → empty n ≡ Continues) → empty most ≡ e → k + length lists ≡ most →
    put_arms empty k (lists ++ other ∷ []) ≡ continued lists (put_arm e other done)
continued_row empty most k [] other e among last many =
    ap (λ n. put_arm (empty n) other done) (omega (arith, many)) ∙ ap (λ x. put_arm x other done) last
continued_row empty most k (stmts ∷ lists) other e among last many =
    ap (λ x. put_arm x stmts (put_arms empty (suc k) (lists ++ other ∷ []))) (among k (omega (arith, many)))
    ∙ ap (put_arm Continues stmts) (continued_row empty most (suc k) lists other e among last (omega (arith, many)))

last_put : (empty : ℕ → Empty) (most k : ℕ) (first : Bool) (lists : List Stmts) (other : Stmts) → k + length lists ≡ most →
    last_stands (first ∷ stand_so empty k (lists ++ other ∷ [])) ≡ arm_stands (empty most) true other
last_put empty most k first [] other many = ap (λ n. arm_stands (empty n) true other) (omega (arith, many))
last_put empty most k first (stmts ∷ lists) other many = last_put empty most (suc k) (arm_stands (empty k) true stmts) lists other (omega (arith, many))

last_row : (empty : ℕ → Empty) (most : ℕ) (lists : List Stmts) (other : Stmts) → length lists ≡ most →
    last_stands (stand_so empty 0 (lists ++ other ∷ [])) ≡ arm_stands (empty most) true other
last_row empty most [] other many = ap (λ n. arm_stands (empty n) true other) (omega (arith, many))
last_row empty most (stmts ∷ lists) other many = last_put empty most 1 (arm_stands (empty 0) true stmts) lists other (omega (arith, many))

pub given_stands : (had : Bool) (stmts : Stmts) → arm_stands (if_had had) true stmts ≡ stands_so had stmts
given_stands true none = refl
given_stands false none = refl
given_stands true (also stmt stmts) = refl
given_stands false (also stmt stmts) = refl

-- what is written of arms, the last of which is WHEN OTHER
pub all_row : (empty : ℕ → Empty) (subject : Subject) (tests : List (List Test)) (lists : List Stmts) (other : Stmts) (had : Bool) (made : Stmt) →
    ((n : ℕ) → n < length tests → empty n ≡ Continues) → empty (length tests) ≡ if_had had → IsAmong subject tests lists other had made →
    seen 0 made ≡ language.Choose (language.By (language.Evaluate subject tests (last_stands (stand_so empty 0 (lists ++ other ∷ []))))) (put_arms empty 0 (lists ++ other ∷ []))
all_row empty subject tests lists other had made among last h =
    let whole : Bool → Arms → language.Stmt = λ stands arms. language.Choose (language.By (language.Evaluate subject tests stands)) arms in
    h.1
    ∙ ap (λ stands. whole stands (continued lists (put_arm (if_had had) other done)))
    (sym (last_row empty (length tests) lists other (sym h.0) ∙ ap (λ e. arm_stands e true other) last ∙ given_stands had other))
    ∙ ap (whole (last_stands (stand_so empty 0 (lists ++ other ∷ []))))
    (sym (continued_row empty (length tests) 0 lists other (if_had had) among last (omega (arith, h.0))))

-- behind arms that all continue none is written
pub missing_row : (most k : ℕ) (lists : List Stmts) → and_missing (put_arms (of_cell false most) k lists) ≡ continued lists (put_arm Goes none done)
missing_row most k [] = refl
missing_row most k (stmts ∷ lists) = missing_put stmts (put_arms (of_cell false most) (suc k) lists) ∙ ap (put_arm Continues stmts) (missing_row most (suc k) lists)
  where
    missing_put : (stmts : Stmts) (others : Arms) → and_missing (put_arm Continues stmts others) ≡ put_arm Continues stmts (and_missing others)
    missing_put none others = refl
    missing_put (also stmt stmts) others = refl

-- Which arms continue.

pub within : (whens : ℕ) (had : Bool) (k : ℕ) → k < whens → of_whens whens had k ≡ Continues
within whens had k lt = by_case (nat_lt k whens) refl
  where
    by_case : (b : Bool) → b ≡ nat_lt k whens → (if b then Continues else if_had had) ≡ Continues
    by_case true e = refl
    by_case false e = absurd (grind (arith, e))

pub past : (whens : ℕ) (had : Bool) → of_whens whens had whens ≡ if_had had
past whens had = by_case (nat_lt whens whens) refl
  where
    by_case : (b : Bool) → b ≡ nat_lt whens whens → (if b then Continues else if_had had) ≡ if_had had
    by_case false e = refl
    by_case true e = absurd (grind (arith, e))

pub cell_within : (whens k : ℕ) → k < whens → of_cell true (suc whens) k ≡ Continues
cell_within whens k lt = by_case (suc k == suc whens) refl
  where
    by_case : (b : Bool) → b ≡ (suc k == suc whens) → (if b then Goes else Continues) ≡ Continues
    by_case false e = refl
    by_case true e = absurd (grind (arith, e))

pub cell_past : (whens : ℕ) → of_cell true (suc whens) whens ≡ Goes
cell_past whens = by_case (suc whens == suc whens) refl
  where
    by_case : (b : Bool) → b ≡ (suc whens == suc whens) → (if b then Goes else Continues) ≡ Goes
    by_case true e = refl
    by_case false e = absurd (grind (arith, e))

pub stand_many : (empty : ℕ → Empty) (k : ℕ) (lists : List Stmts) → length (stand_so empty k lists) ≡ length lists
stand_many empty k [] = refl
stand_many empty k (stmts ∷ lists) = ap suc (stand_many empty (suc k) lists)

pub whens_many : (empty : ℕ → Empty) (lists : List Stmts) (other : Stmts) → whens_of true (stand_so empty 0 (lists ++ other ∷ [])) ≡ length lists
whens_many empty [] other = refl
whens_many empty (stmts ∷ lists) other = stand_many empty 1 (lists ++ other ∷ []) ∙ more lists other
  where
    more : (lists : List Stmts) (other : Stmts) → length (lists ++ other ∷ []) ≡ suc (length lists)
    more [] other = refl
    more (stmts ∷ lists) other = ap suc (more lists other)
