-- Statements with arms, row by row.
use Rattle.std.proofs.Common.{◌≡◌, ℕ, ◌<◌, Bool, true, false, ◌||◌, List, [], ◌∷◌, ◌++◌, map, length, Option, Some, None, is_some, refl, ap, sym, ◌∙◌, arith}
use Rattle.cob_tree.specs.declared.calc.Calc.{Calc}
use Rattle.cob_tree.specs.declared.calc.Target.{Target}
use Rattle.cob_tree.specs.declared.choice.Subject.{Subject}
use Rattle.cob_tree.specs.declared.cond.Cond.{Cond}
use Rattle.cob_tree.specs.declared.place.Place.{Place}
use Rattle.cob_tree.specs.declared.stmt.Arms.{Arms, roll-Arms, fold-roll-Arms, map-Arms}
use Rattle.cob_tree.specs.declared.stmt.When.{When}
use Rattle.cob_tree.specs.declared.stmt.Stmt.{Stmt}
use Rattle.cob_tree.specs.declared.stmt.Stmt.TheVariants.{Continue, If, Evaluate, Arith, Read}
use Rattle.control_flow_theory.specs.language.Language as language
use Rattle.control_flow_theory.specs.language.Control.{test_of, arm_before, else_of, stmts_of, arith_stmt, evaluate_of, tests_of, Branch, branches_before, Both, both_arms, both_step, branch_step, seen_step, seen, seen_when, seen_both, seen_stmts}
use Rattle.control_flow_theory.proofs.language_lemmas.Rows.{seen_if_any, seen_if, seen_evaluate, seen_arith, seen_read, seen_continue}
use Rattle.control_flow_theory.specs.rendering.Rendering.{Continues, Stays, Goes, required}
use Rattle.statement_builders.specs.arms.EmptyArms.{if_had, put_arm, stands_so, kept_stmts}
use Rattle.statement_builders.specs.arms.Choosing.{seen_arm, IsKept, IsIf, IsEvaluate, IsRead, IsArith}

-- Lists that are required.

pub none_continues : (stmts : List Stmt) → length stmts ≡ 0 → seen_stmts 0 (stmts ++ Continue ∷ []) ≡ required Continue (seen_stmts 0 stmts)
none_continues [] e = ap (λ s. language.also s language.none) (seen_continue 0)
none_continues (stmt ∷ stmts) e = absurd (omega (arith, e))

pub some_continue : (stmts : List Stmt) → 0 < length stmts → seen_stmts 0 stmts ≡ required Continue (seen_stmts 0 stmts)
some_continue [] h = absurd (omega (arith, h))
some_continue (stmt ∷ stmts) h = refl

-- Arms that may be left out.

some_kept : (stmts : language.Stmts) → Some (required Continue stmts) ≡ kept_stmts true stmts
some_kept language.none = refl
some_kept (language.also stmt stmts) = refl

pub continues_kept : (stmts made : List Stmt) → seen_stmts 0 made ≡ required Continue (seen_stmts 0 stmts) → IsKept true (seen_stmts 0 stmts) (Some made)
continues_kept stmts made h = ap Some h ∙ some_kept (seen_stmts 0 stmts)

pub none_goes : (stmts : List Stmt) → length stmts ≡ 0 → IsKept false (seen_stmts 0 stmts) None
none_goes [] e = refl
none_goes (stmt ∷ stmts) e = absurd (omega (arith, e))

pub some_stays : (stmts : List Stmt) → 0 < length stmts → IsKept false (seen_stmts 0 stmts) (Some stmts)
some_stays [] h = absurd (omega (arith, h))
some_stays (stmt ∷ stmts) h = refl

pub continues_is : (stmts : language.Stmts) (others : language.Arms) → put_arm Continues stmts others ≡ language.given (required Continue stmts) others
continues_is language.none others = refl
continues_is (language.also stmt stmts) others = refl

-- one that is given
pub stays_is : (stmts : language.Stmts) (others : language.Arms) → put_arm Continues stmts others ≡ put_arm Stays stmts others
stays_is language.none others = refl
stays_is (language.also stmt stmts) others = refl

kept_is : (had : Bool) (stmts : language.Stmts) (others : language.Arms) → arm_before (kept_stmts had stmts) others ≡ put_arm (if_had had) stmts others
kept_is true language.none others = refl
kept_is false language.none others = refl
kept_is true (language.also stmt stmts) others = refl
kept_is false (language.also stmt stmts) others = refl

kept_stands : (had : Bool) (stmts : language.Stmts) → is_some (kept_stmts had stmts) ≡ stands_so had stmts
kept_stands true language.none = refl
kept_stands false language.none = refl
kept_stands true (language.also stmt stmts) = refl
kept_stands false (language.also stmt stmts) = refl

arm_seen : (arm : Option (List Stmt)) → seen_if_any 0 arm ≡ seen_arm arm
arm_seen None = refl
arm_seen (Some stmts) = refl

arm_is_some : (arm : Option (List Stmt)) → is_some arm ≡ is_some (seen_arm arm)
arm_is_some None = refl
arm_is_some (Some stmts) = refl

-- IF.

else_goes : (stmts : List language.Stmt) → arm_before (else_of stmts) language.done ≡ put_arm Goes (stmts_of stmts) language.done
else_goes [] = refl
else_goes (stmt ∷ stmts) = refl

pub if_row : (cond : Cond) (met made unmet : List Stmt) → seen_stmts 0 made ≡ required Continue (seen_stmts 0 met) →
    IsIf cond (seen_stmts 0 met) (seen_stmts 0 unmet) (If cond made unmet)
if_row cond met made unmet h =
    seen_if 0 cond made unmet
    ∙ ap (λ arm. language.Choose (language.If (test_of cond)) (language.given arm (arm_before (else_of (map (seen 0) unmet)) language.done))) h
    ∙ ap (λ others. language.Choose (language.If (test_of cond)) (language.given (required Continue (seen_stmts 0 met)) others)) (else_goes (map (seen 0) unmet))
    ∙ ap (language.Choose (language.If (test_of cond))) (sym (continues_is (seen_stmts 0 met) (put_arm Goes (seen_stmts 0 unmet) language.done)))

-- EVALUATE.

pub evaluate_row : (subject : Subject) (whens : List When) (had : Bool) (stmts : language.Stmts) (other : Option (List Stmt)) →
    IsKept had stmts other → IsEvaluate subject whens had stmts (Evaluate subject whens other)
evaluate_row subject whens had stmts other h =
    let branches = map (seen_when 0) whens in
    let tests = tests_of branches in
    let whole : Bool → language.Arms → language.Stmt = λ stands arms. language.Choose (evaluate_of subject tests stands) (branches_before branches arms) in
    seen_evaluate 0 subject whens other
    ∙ ap (λ stands. whole stands (arm_before (seen_if_any 0 other) language.done)) (arm_is_some other ∙ ap is_some h ∙ kept_stands had stmts)
    ∙ ap (whole (stands_so had stmts)) (ap (λ arm. arm_before arm language.done) (arm_seen other ∙ h) ∙ kept_is had stmts language.done)

-- READ and arithmetic.

both_fields : (first second : Option (List Stmt)) → both_step (map-Arms Stmt Arms When language.Stmt Both Branch (seen 0) (seen_both 0) (seen_when 0) (record { first = first; second = second })) ≡ record { first = seen_arm first; second = seen_arm second }
both_fields None None = refl
both_fields None (Some b) = refl
both_fields (Some a) None = refl
both_fields (Some a) (Some b) = refl

both_kept : (had : Bool) (stmts others : language.Stmts) (first second : Option (List Stmt)) → IsKept had stmts first → IsKept false others second →
    seen_both 0 (roll-Arms (record { first = first; second = second })) ≡ record { first = kept_stmts had stmts; second = kept_stmts false others }
both_kept had stmts others first second h g =
    let made : Option language.Stmts → Option language.Stmts → Both = λ a b. record { first = a; second = b } in
    fold-roll-Arms language.Stmt Both Branch (seen_step 0) both_step branch_step (record { first = first; second = second })
    ∙ both_fields first second
    ∙ ap (λ a. made a (seen_arm second)) h
    ∙ ap (made (kept_stmts had stmts)) g

pub read_row : (file : ℕ) (into : Option Place) (had : Bool) (stmts others : language.Stmts) (first second : Option (List Stmt)) →
    IsKept had stmts first → IsKept false others second →
    IsRead file into had stmts others (Read file into (roll-Arms (record { first = first; second = second })))
read_row file into had stmts others first second h g =
    let chosen : Bool → language.Arms → language.Stmt = λ stands arms. language.Choose (language.By (language.Read file into stands)) arms in
    let whole : Both → language.Stmt = λ both. chosen (is_some both.first) (both_arms both) in
    seen_read 0 file into (roll-Arms (record { first = first; second = second }))
    ∙ ap whole (both_kept had stmts others first second h g)
    ∙ ap (λ stands. chosen stands (arm_before (kept_stmts had stmts) (arm_before (kept_stmts false others) language.done))) (kept_stands had stmts)
    ∙ ap (chosen (stands_so had stmts)) (kept_is had stmts (arm_before (kept_stmts false others) language.done)
    ∙ ap (put_arm (if_had had) stmts) (kept_is false others language.done))

some_kept_too : (had : Bool) (stmts : language.Stmts) (arm : Option (List Stmt)) → IsKept had stmts arm → is_some (kept_stmts had stmts) ≡ is_some arm
some_kept_too had stmts arm h = sym (arm_is_some arm ∙ ap is_some h)

arith_choice : (calc : Calc) (into : List Target) (had : Bool) (stmts others : language.Stmts) → (is_some (kept_stmts had stmts) || is_some (kept_stmts false others)) ≡ true →
    arith_stmt calc into (record { first = kept_stmts had stmts; second = kept_stmts false others })
    ≡ language.Choose (language.By (language.Arith calc into)) (put_arm (if_had had) stmts (put_arm Goes others language.done))
arith_choice calc into true language.none language.none h = refl
arith_choice calc into false language.none language.none h = absurd (let e : false ≡ true = h in cc)
arith_choice calc into true language.none (language.also other others) h = refl
arith_choice calc into false language.none (language.also other others) h = refl
arith_choice calc into true (language.also stmt stmts) language.none h = refl
arith_choice calc into false (language.also stmt stmts) language.none h = refl
arith_choice calc into true (language.also stmt stmts) (language.also other others) h = refl
arith_choice calc into false (language.also stmt stmts) (language.also other others) h = refl

pub arith_row : (calc : Calc) (into : List Target) (had : Bool) (stmts others : language.Stmts) (first second : Option (List Stmt)) →
    IsKept had stmts first → IsKept false others second → (is_some first || is_some second) ≡ true →
    IsArith calc into had stmts others (Arith calc into (roll-Arms (record { first = first; second = second })))
arith_row calc into had stmts others first second h g stands =
    seen_arith 0 calc into (roll-Arms (record { first = first; second = second }))
    ∙ ap (arith_stmt calc into) (both_kept had stmts others first second h g)
    ∙ arith_choice calc into had stmts others
    (ap (λ one. one || is_some (kept_stmts false others)) (some_kept_too had stmts first h)
    ∙ ap (λ two. is_some first || two) (some_kept_too false others second g) ∙ stands)
