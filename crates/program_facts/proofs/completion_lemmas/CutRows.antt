-- Lists of the tree's statements that are cut, row by row.
use Rattle.std.proofs.Common.{◌≡◌, ℕ, ◌+◌, ◌<◌, true, false, if◌then◌else◌, List, [], ◌∷◌, ◌++◌, map, drop, get_or, length, Option, Some, None, is_some, refl, ap, sym, ◌∙◌, add-one}
use Rattle.std.proofs.Math.Seq.{drop-cons}
use Rattle.std.proofs.lemmas.List.{map-append, append_assoc}
use Rattle.cob_tree.specs.declared.calc.Calc.{Calc}
use Rattle.cob_tree.specs.declared.calc.Target.{Target}
use Rattle.cob_tree.specs.declared.choice.Subject.{Subject}
use Rattle.cob_tree.specs.declared.choice.Test.{Test}
use Rattle.cob_tree.specs.declared.cond.Cond.{Cond}
use Rattle.cob_tree.specs.declared.control.Control.{Control}
use Rattle.cob_tree.specs.declared.place.Place.{Place}
use Rattle.cob_tree.specs.declared.stmt.Arms.{Arms, out-Arms, roll-Arms, fold-roll-Arms, map-Arms}
use Rattle.cob_tree.specs.declared.stmt.When.{When, out-When, roll-When, fold-roll-When}
use Rattle.cob_tree.specs.declared.stmt.Stmt.{Stmt}
use Rattle.cob_tree.specs.declared.stmt.Stmt.TheVariants.{If, Evaluate, Loop, Arith, Read}
use Rattle.control_flow_theory.specs.language.Language as language
use Rattle.control_flow_theory.specs.language.Control.{test_of, arm_before, else_of, stmts_of, arith_stmt, evaluate_of, control_in, loop_of, tests_of, Branch, branches_before, Both, both_arms, both_step, branch_step, seen_step, seen, seen_when, seen_both, seen_stmts}
use Rattle.control_flow_theory.proofs.language_lemmas.Rows.{seen_if_any, seen_if, seen_evaluate, seen_loop, seen_arith, seen_read, seen_both_is, seen_when_is}
use Rattle.control_flow_theory.specs.lowering.FlowFacts.{FlowFacts}
use Rattle.control_flow_theory.specs.lowering.Completes.{completes, cut, cuts, cut_arms}
use Rattle.program_facts.specs.completion.Cutting.{cut_if_any, cut_both, cut_branch}
use Rattle.program_facts.proofs.completion_lemmas.CutLemmas.{joined, joined_one, joined_none}

-- an ELSE by its statements
abbrev else_arms : language.Stmts → language.Arms
else_arms language.none = language.missing language.done
else_arms (language.also stmt stmts) = language.given (language.also stmt stmts) language.done

else_is : (stmts : List language.Stmt) → arm_before (else_of stmts) language.done ≡ else_arms (stmts_of stmts)
else_is [] = refl
else_is (stmt ∷ stmts) = refl

module _ (told : FlowFacts) where
  else_cut : (stmts : language.Stmts) → else_arms (cuts told stmts) ≡ cut_arms told (else_arms stmts)
  else_cut language.none = refl
  else_cut (language.also stmt stmts) = refl

  arith_choice : (calc : Calc) (into : List Target) (first second : Option language.Stmts) →
      arith_stmt calc into (cut_both told (record { first = first; second = second })) ≡ cut told (arith_stmt calc into (record { first = first; second = second }))
  arith_choice calc into None None = refl
  arith_choice calc into None (Some second) = refl
  arith_choice calc into (Some first) None = refl
  arith_choice calc into (Some first) (Some second) = refl

  read_choice : (file : ℕ) (into : Option Place) (both : Both) → language.Stmt
  read_choice file into both = language.Choose (language.By (language.Read file into (is_some both.first))) (both_arms both)

  read_cuts : (file : ℕ) (into : Option Place) (first second : Option language.Stmts) →
      read_choice file into (cut_both told (record { first = first; second = second })) ≡ cut told (read_choice file into (record { first = first; second = second }))
  unfolding read_choice
  read_cuts file into None None = refl
  read_cuts file into None (Some second) = refl
  read_cuts file into (Some first) None = refl
  read_cuts file into (Some first) (Some second) = refl

  loop_choice : (control : Option language.Control) (body : language.Stmts) → loop_of control (cuts told body) ≡ cut told (loop_of control body)
  loop_choice None body = refl
  loop_choice (Some control) body = refl

  tests_cut : (branches : List Branch) → tests_of (map (cut_branch told) branches) ≡ tests_of branches
  tests_cut [] = refl
  tests_cut (branch ∷ branches) = ap (λ tests. branch.tests ∷ tests) (tests_cut branches)

  branches_cut : (branches : List Branch) (others : language.Arms) → branches_before (map (cut_branch told) branches) (cut_arms told others) ≡ cut_arms told (branches_before branches others)
  branches_cut [] others = refl
  branches_cut (branch ∷ branches) others = ap (language.given (cuts told branch.arm)) (branches_cut branches others)

  other_cut : (other : Option language.Stmts) → arm_before (cut_if_any told other) language.done ≡ cut_arms told (arm_before other language.done)
  other_cut None = refl
  other_cut (Some other) = refl

  module _ (last : ℕ) where
    pub arith_row : (calc : Calc) (into : List Target) (arms made : Arms) → seen_both last made ≡ cut_both told (seen_both last arms) →
        seen last (Arith calc into made) ≡ cut told (seen last (Arith calc into arms))
    arith_row calc into arms made h =
        seen_arith last calc into made ∙ ap (arith_stmt calc into) h
        ∙ arith_choice calc into (seen_both last arms).first (seen_both last arms).second
        ∙ ap (cut told) (sym (seen_arith last calc into arms))

    pub read_row : (file : ℕ) (into : Option Place) (arms made : Arms) → seen_both last made ≡ cut_both told (seen_both last arms) →
        seen last (Read file into made) ≡ cut told (seen last (Read file into arms))
    unfolding read_choice
    read_row file into arms made h =
        seen_read last file into made ∙ ap (read_choice file into) h
        ∙ read_cuts file into (seen_both last arms).first (seen_both last arms).second
        ∙ ap (cut told) (sym (seen_read last file into arms))

    pub if_row : (cond : Cond) (met met' unmet unmet' : List Stmt) →
        seen_stmts last met' ≡ cuts told (seen_stmts last met) → seen_stmts last unmet' ≡ cuts told (seen_stmts last unmet) →
        seen last (If cond met' unmet') ≡ cut told (seen last (If cond met unmet))
    if_row cond met met' unmet unmet' h g =
        seen_if last cond met' unmet'
        ∙ ap (λ arm. language.Choose (language.If (test_of cond)) (language.given arm (arm_before (else_of (map (seen last) unmet')) language.done))) h
        ∙ ap (λ others. language.Choose (language.If (test_of cond)) (language.given (cuts told (seen_stmts last met)) others))
        (else_is (map (seen last) unmet') ∙ ap else_arms g ∙ else_cut (seen_stmts last unmet) ∙ ap (cut_arms told) (sym (else_is (map (seen last) unmet))))
        ∙ ap (cut told) (sym (seen_if last cond met unmet))

    pub loop_row : (control : Control) (body body' : List Stmt) → seen_stmts last body' ≡ cuts told (seen_stmts last body) →
        seen last (Loop control body') ≡ cut told (seen last (Loop control body))
    loop_row control body body' h =
        seen_loop last control body' ∙ ap (loop_of (control_in control)) h ∙ loop_choice (control_in control) (seen_stmts last body)
        ∙ ap (cut told) (sym (seen_loop last control body))

    pub evaluate_row : (subject : Subject) (whens whens' : List When) (other other' : Option (List Stmt)) →
        map (seen_when last) whens' ≡ map (cut_branch told) (map (seen_when last) whens) →
        seen_if_any last other' ≡ cut_if_any told (seen_if_any last other) → is_some other' ≡ is_some other →
        seen last (Evaluate subject whens' other') ≡ cut told (seen last (Evaluate subject whens other))
    evaluate_row subject whens whens' other other' h g same =
        let branches = map (seen_when last) whens in
        let others = arm_before (seen_if_any last other) language.done in
        seen_evaluate last subject whens' other'
        ∙ ap (λ has. language.Choose (evaluate_of subject (tests_of (map (seen_when last) whens')) has)
        (branches_before (map (seen_when last) whens') (arm_before (seen_if_any last other') language.done))) same
        ∙ ap (λ bs. language.Choose (evaluate_of subject (tests_of bs) (is_some other)) (branches_before bs (arm_before (seen_if_any last other') language.done))) h
        ∙ ap (λ tests. language.Choose (evaluate_of subject tests (is_some other)) (branches_before (map (cut_branch told) branches) (arm_before (seen_if_any last other') language.done))) (tests_cut branches)
        ∙ ap (λ arms. language.Choose (evaluate_of subject (tests_of branches) (is_some other)) (branches_before (map (cut_branch told) branches) arms))
        (ap (λ o. arm_before o language.done) g ∙ other_cut (seen_if_any last other))
        ∙ ap (language.Choose (evaluate_of subject (tests_of branches) (is_some other))) (branches_cut branches others)
        ∙ ap (cut told) (sym (seen_evaluate last subject whens other))

    both_fields : (first second : Option (List Stmt)) → both_step (map-Arms Stmt Arms When language.Stmt Both Branch (seen last) (seen_both last) (seen_when last) (record { first = first; second = second })) ≡ record { first = seen_if_any last first; second = seen_if_any last second }
    both_fields None None = refl
    both_fields None (Some b) = refl
    both_fields (Some a) None = refl
    both_fields (Some a) (Some b) = refl

    pub both_row : (arms : Arms) (first second : Option (List Stmt)) →
        seen_if_any last first ≡ cut_if_any told (seen_if_any last (out-Arms arms).first) →
        seen_if_any last second ≡ cut_if_any told (seen_if_any last (out-Arms arms).second) →
        seen_both last (roll-Arms (record { first = first; second = second })) ≡ cut_both told (seen_both last arms)
    both_row arms first second h g =
        let made : Option language.Stmts → Option language.Stmts → Both = λ a b. record { first = a; second = b } in
        fold-roll-Arms language.Stmt Both Branch (seen_step last) both_step branch_step (record { first = first; second = second })
        ∙ both_fields first second
        ∙ ap (λ a. made a (seen_if_any last second)) h
        ∙ ap (made (cut_if_any told (seen_if_any last (out-Arms arms).first))) g
        ∙ ap (cut_both told) (sym (seen_both_is last arms))

    pub some_row : (arm : Option (List Stmt)) (stmts stmts' : List Stmt) → arm ≡ Some stmts → seen_stmts last stmts' ≡ cuts told (seen_stmts last stmts) →
        seen_if_any last (Some stmts') ≡ cut_if_any told (seen_if_any last arm)
    some_row arm stmts stmts' is h = ap Some h ∙ ap (λ a. cut_if_any told (seen_if_any last a)) (sym is)

    pub none_row : (arm : Option (List Stmt)) → arm ≡ None → seen_if_any last None ≡ cut_if_any told (seen_if_any last arm)
    none_row arm is = ap (λ a. cut_if_any told (seen_if_any last a)) (sym is)

    drop_step : {X : Type 0} (xs : List X) (i : ℕ) (d : X) → i < length xs → drop i xs ≡ get_or xs i d ∷ drop (i + 1) xs
    drop_step xs i d lt = rw (add-one i) (drop-cons xs i d lt)

    -- behind what is made, a statement and what cutting leaves behind it
    step : (stmts : List Stmt) (i : ℕ) (stmt x : Stmt) (made : List Stmt) → i < length stmts → stmt ≡ get_or stmts i stmt →
        seen last x ≡ cut told (seen last stmt) →
        joined (seen_stmts last (made ++ x ∷ [])) (if completes told (seen last stmt) then cuts told (seen_stmts last (drop (i + 1) stmts)) else language.none)
        ≡ joined (seen_stmts last made) (cuts told (seen_stmts last (drop i stmts)))
    step stmts i stmt x made lt is h =
        let rest = cuts told (seen_stmts last (drop (i + 1) stmts)) in
        let left = if completes told (seen last stmt) then rest else language.none in
        ap (λ ss. joined (stmts_of ss) left) (map-append (seen last) made (x ∷ []))
        ∙ joined_one (map (seen last) made) (seen last x) left
        ∙ ap (λ s. joined (seen_stmts last made) (language.also s left)) h
        ∙ ap (λ s. joined (seen_stmts last made) (cuts told (language.also (seen last s) (seen_stmts last (drop (i + 1) stmts))))) is
        ∙ ap (λ ss. joined (seen_stmts last made) (cuts told (seen_stmts last ss))) (sym (drop_step stmts i stmt lt))

    pub goes_on : (stmts : List Stmt) (i : ℕ) (stmt x : Stmt) (made : List Stmt) → i < length stmts → stmt ≡ get_or stmts i stmt →
        seen last x ≡ cut told (seen last stmt) → completes told (seen last stmt) ≡ true →
        joined (seen_stmts last (made ++ x ∷ [])) (cuts told (seen_stmts last (drop (i + 1) stmts)))
        ≡ joined (seen_stmts last made) (cuts told (seen_stmts last (drop i stmts)))
    goes_on stmts i stmt x made lt is h through =
        ap (λ b. joined (seen_stmts last (made ++ x ∷ [])) (if b then cuts told (seen_stmts last (drop (i + 1) stmts)) else language.none)) (sym through)
        ∙ step stmts i stmt x made lt is h

    pub ends_here : (stmts : List Stmt) (i : ℕ) (stmt x : Stmt) (made : List Stmt) → i < length stmts → stmt ≡ get_or stmts i stmt →
        seen last x ≡ cut told (seen last stmt) → completes told (seen last stmt) ≡ false →
        seen_stmts last (made ++ x ∷ []) ≡ joined (seen_stmts last made) (cuts told (seen_stmts last (drop i stmts)))
    ends_here stmts i stmt x made lt is h stops =
        sym (joined_none (seen_stmts last (made ++ x ∷ [])))
        ∙ ap (λ b. joined (seen_stmts last (made ++ x ∷ [])) (if b then cuts told (seen_stmts last (drop (i + 1) stmts)) else language.none)) (sym stops)
        ∙ step stmts i stmt x made lt is h

    pub when_goes_on : (whens : List When) (i : ℕ) (when : When) (stmts : List Stmt) (made : List When) → i < length whens → when ≡ get_or whens i when →
        seen_stmts last stmts ≡ cuts told (seen_stmts last (out-When when).stmts) →
        map (seen_when last) (made ++ roll-When (record { tests = (out-When when).tests; stmts = stmts }) ∷ [])
        ++ map (cut_branch told) (map (seen_when last) (drop (i + 1) whens))
        ≡ map (seen_when last) made ++ map (cut_branch told) (map (seen_when last) (drop i whens))
    when_goes_on whens i when stmts made lt is h =
        let rest = map (cut_branch told) (map (seen_when last) (drop (i + 1) whens)) in
        let branch : List Test → language.Stmts → Branch = λ tests arm. record { tests = tests; arm = arm } in
        let put = roll-When (record { tests = (out-When when).tests; stmts = stmts }) in
        let one : seen_when last put ≡ cut_branch told (seen_when last (get_or whens i when)) =
        fold-roll-When language.Stmt Both Branch (seen_step last) both_step branch_step (record { tests = (out-When when).tests; stmts = stmts })
        ∙ ap (branch (out-When when).tests) h
        ∙ ap (cut_branch told) (sym (seen_when_is last when))
        ∙ ap (λ w. cut_branch told (seen_when last w)) is in
        ap (λ bs. bs ++ rest) (map-append (seen_when last) made (put ∷ []))
        ∙ append_assoc (map (seen_when last) made) (seen_when last put ∷ []) rest
        ∙ ap (λ b. map (seen_when last) made ++ b ∷ rest) one
        ∙ ap (λ ws. map (seen_when last) made ++ map (cut_branch told) (map (seen_when last) ws)) (sym (drop_step whens i when lt))
