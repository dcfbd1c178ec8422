-- Facts of the tree's statements, row by row.
use Rattle.std.proofs.Math.Seq.{drop-cons}
use Rattle.std.proofs.Common.{◌≡◌, ℕ, ◌+◌, ◌<◌, arith, add-one, drop, get_or, length, Bool, true, false, if◌then◌else◌, List, [], ◌∷◌, map, slice_get, Option, Some, None, is_some, refl, ap, sym, ◌∙◌}
use Rattle.cob_tree.specs.declared.calc.Calc.{Calc}
use Rattle.cob_tree.specs.declared.calc.Target.{Target}
use Rattle.cob_tree.specs.declared.choice.Subject.{Subject}
use Rattle.cob_tree.specs.declared.choice.Test.{Test}
use Rattle.cob_tree.specs.declared.cond.Cond.{Cond}
use Rattle.cob_tree.specs.declared.control.Control.{Control}
use Rattle.cob_tree.specs.declared.file.FileEntry.{FileEntry}
use Rattle.cob_tree.specs.declared.place.Place.{Place}
use Rattle.cob_tree.specs.declared.stmt.Arms.{Arms, out-Arms}
use Rattle.cob_tree.specs.declared.stmt.When.{When, out-When}
use Rattle.cob_tree.specs.declared.stmt.Stmt.{Stmt}
use Rattle.cob_tree.specs.declared.stmt.Stmt.TheVariants.{If, Evaluate, Loop, Arith, Read}
use Rattle.control_flow_theory.specs.language.Language as language
use Rattle.control_flow_theory.specs.language.Control.{arm_before, else_of, arith_stmt, picker_by, cell_chosen, count_from, control_in, loop_of, tests_of, Branch, branches_before, Both, both_arms, seen, seen_when, seen_both, seen_stmts}
use Rattle.control_flow_theory.proofs.language_lemmas.Rows.{seen_if_any, seen_if, seen_evaluate, seen_loop, seen_arith, seen_read, seen_both_is, seen_when_is}
use Rattle.control_flow_theory.specs.lowering.FlowFacts.{FlowFacts}
use Rattle.control_flow_theory.specs.lowering.Completes.{first_is_dead}
use Rattle.program_facts.specs.declared.completion.facts.Facts.{Facts}
use Rattle.program_facts.specs.completion.FlowFacts.{flow_facts_of, status_missing}
use Rattle.program_facts.specs.completion.Facts.{facts_of, facts_of_all, facts_of_arms, no_arms, beside, behind, missing_arm}
use Rattle.program_facts.specs.completion.Seen.{loop_facts}
use Rattle.program_facts.proofs.completion_lemmas.FactLemmas.{beside_none, beside_assoc, missing_begins, last_given, all_begin}

module _ (told : FlowFacts) (last : ℕ) where
  -- of an arm that may be missing
  abbrev pub arm_facts : Bool → Option (List Stmt) → Facts
  arm_facts is_dead arm = facts_of_arms told is_dead (arm_before (seen_if_any last arm) language.done)

  pub if_facts : (cond : Cond) (met unmet : List Stmt) →
      beside (facts_of_all told (seen_stmts last met)) (facts_of_arms told false (arm_before (else_of (map (seen last) unmet)) language.done))
      ≡ facts_of told (seen last (If cond met unmet))
  if_facts cond met unmet = ap (facts_of told) (sym (seen_if last cond met unmet))

  branches_facts : (branches : List Branch) (others : language.Arms) →
      facts_of_arms told false (branches_before branches others)
      ≡ beside (facts_of_arms told false (branches_before branches language.done)) (facts_of_arms told false others)
  branches_facts [] others = refl
  branches_facts (branch ∷ branches) others =
      ap (beside (facts_of_all told branch.arm)) (branches_facts branches others)
      ∙ sym (beside_assoc (facts_of_all told branch.arm) (facts_of_arms told false (branches_before branches language.done)) (facts_of_arms told false others))

  -- of the two arms of READ and of arithmetic
  pub both_none : (is_dead : Bool) (arms : Arms) (second : Facts) → (out-Arms arms).first ≡ None →
      second ≡ arm_facts false (out-Arms arms).second →
      missing_arm is_dead second ≡ facts_of_arms told is_dead (both_arms (seen_both last arms))
  both_none is_dead arms second absent is =
      ap (missing_arm is_dead) is
      ∙ sym (missing_begins told is_dead (arm_before (seen_if_any last (out-Arms arms).second) language.done))
      ∙ ap (λ first. facts_of_arms told is_dead (arm_before (seen_if_any last first) (arm_before (seen_if_any last (out-Arms arms).second) language.done))) (sym absent)
      ∙ ap (λ both. facts_of_arms told is_dead (both_arms both)) (sym (seen_both_is last arms))

  pub both_some : (is_dead : Bool) (arms : Arms) (stmts : List Stmt) (first second : Facts) → (out-Arms arms).first ≡ Some stmts →
      first ≡ facts_of_all told (seen_stmts last stmts) → second ≡ arm_facts false (out-Arms arms).second →
      beside first second ≡ facts_of_arms told is_dead (both_arms (seen_both last arms))
  both_some is_dead arms stmts first second present f is =
      ap (λ x. beside x second) f ∙ ap (beside (facts_of_all told (seen_stmts last stmts))) is
      ∙ ap (λ arm. facts_of_arms told is_dead (arm_before (seen_if_any last arm) (arm_before (seen_if_any last (out-Arms arms).second) language.done))) (sym present)
      ∙ ap (λ both. facts_of_arms told is_dead (both_arms both)) (sym (seen_both_is last arms))

  pub arm_none : (is_dead : Bool) → missing_arm is_dead no_arms ≡ arm_facts is_dead None
  arm_none true = refl
  arm_none false = refl

  pub arm_some : (is_dead : Bool) (stmts : List Stmt) → facts_of_all told (seen_stmts last stmts) ≡ arm_facts is_dead (Some stmts)
  arm_some is_dead stmts = sym (last_given told is_dead (seen_stmts last stmts))

  pub else_some : (stmts : List Stmt) → 0 < length stmts →
      facts_of_all told (seen_stmts last stmts) ≡ facts_of_arms told false (arm_before (else_of (map (seen last) stmts)) language.done)
  else_some [] h = absurd (omega arith)
  else_some (stmt ∷ stmts) h = sym (last_given told false (seen_stmts last (stmt ∷ stmts)))

  loop_choice : (control : Option language.Control) (body : language.Stmts) →
      loop_facts control (facts_of_all told body) ≡ facts_of told (loop_of control body)
  loop_choice None body = sym (beside_none (facts_of_all told body))
  loop_choice (Some control) body = refl

  pub loop_row : (control : Control) (body : List Stmt) →
      loop_facts (control_in control) (facts_of_all told (seen_stmts last body)) ≡ facts_of told (seen last (Loop control body))
  loop_row control body = loop_choice (control_in control) (seen_stmts last body) ∙ ap (facts_of told) (sym (seen_loop last control body))

module _ (files : List FileEntry) (returning : List (List ℕ)) (last : ℕ) where
  alive : (cell : Option ℕ) (counted : Bool) (subject : Subject) (tests : List (List Test)) (has_other : Bool) →
      first_is_dead (flow_facts_of files returning) (picker_by cell counted (language.Evaluate subject tests has_other)) ≡ false
  alive None counted subject tests has_other = refl
  alive (Some cell) true subject tests has_other = refl
  alive (Some cell) false subject tests has_other = refl

  pub evaluate_row : (subject : Subject) (whens : List When) (other : Option (List Stmt)) →
      beside (facts_of_arms (flow_facts_of files returning) false (branches_before (map (seen_when last) whens) language.done))
      (arm_facts (flow_facts_of files returning) last false other)
      ≡ facts_of (flow_facts_of files returning) (seen last (Evaluate subject whens other))
  evaluate_row subject whens other =
      let told = flow_facts_of files returning in
      let tests = tests_of (map (seen_when last) whens) in
      let arms = branches_before (map (seen_when last) whens) (arm_before (seen_if_any last other) language.done) in
      sym (branches_facts told last (map (seen_when last) whens) (arm_before (seen_if_any last other) language.done))
      ∙ ap (λ dead. facts_of_arms told dead arms) (sym (alive (cell_chosen subject) (count_from 1 tests) subject tests (is_some other)))
      ∙ ap (facts_of told) (sym (seen_evaluate last subject whens other))

  dead_read : (file : ℕ) (into : Option Place) (first : Option (List Stmt)) (is_dead : Bool) →
      is_dead ≡ (if is_some first then false else status_missing (slice_get files file)) →
      is_dead ≡ first_is_dead (flow_facts_of files returning) (language.By (language.Read file into (is_some (seen_if_any last first))))
  dead_read file into None is_dead e = e
  dead_read file into (Some stmts) is_dead e = e

  pub read_row : (file : ℕ) (into : Option Place) (arms : Arms) (is_dead : Bool) →
      is_dead ≡ (if is_some (out-Arms arms).first then false else status_missing (slice_get files file)) →
      facts_of_arms (flow_facts_of files returning) is_dead (both_arms (seen_both last arms))
      ≡ facts_of (flow_facts_of files returning) (seen last (Read file into arms))
  read_row file into arms is_dead e =
      let told = flow_facts_of files returning in
      let some_first : is_some (seen_both last arms).first ≡ is_some (seen_if_any last (out-Arms arms).first) =
      ap (λ (both : Both). is_some both.first) (seen_both_is last arms) in
      ap (λ dead. facts_of_arms told dead (both_arms (seen_both last arms)))
      (dead_read file into (out-Arms arms).first is_dead e
      ∙ ap (λ has. first_is_dead told (language.By (language.Read file into has))) (sym some_first))
      ∙ ap (facts_of told) (sym (seen_read last file into arms))

  arith_choice : (calc : Calc) (into : List Target) (first second : Option language.Stmts) →
      facts_of_arms (flow_facts_of files returning) false (both_arms (record { first = first; second = second }))
      ≡ facts_of (flow_facts_of files returning) (arith_stmt calc into (record { first = first; second = second }))
  arith_choice calc into None None = refl
  arith_choice calc into None (Some second) = refl
  arith_choice calc into (Some first) None = refl
  arith_choice calc into (Some first) (Some second) = refl

  pub arith_row : (calc : Calc) (into : List Target) (arms : Arms) →
      facts_of_arms (flow_facts_of files returning) false (both_arms (seen_both last arms))
      ≡ facts_of (flow_facts_of files returning) (seen last (Arith calc into arms))
  arith_row calc into arms =
      arith_choice calc into (seen_both last arms).first (seen_both last arms).second
      ∙ ap (facts_of (flow_facts_of files returning)) (sym (seen_arith last calc into arms))

-- one more statement, and one more WHEN

drop_step : {X : Type 0} (xs : List X) (i : ℕ) (d : X) → i < length xs → drop i xs ≡ get_or xs i d ∷ drop (i + 1) xs
drop_step xs i d lt = rw (add-one i) (drop-cons xs i d lt)

pub stmts_step : (told : FlowFacts) (last : ℕ) (stmts : List Stmt) (i : ℕ) (stmt : Stmt) (facts : Facts) → i < length stmts →
    stmt ≡ get_or stmts i stmt → facts ≡ facts_of told (seen last stmt) →
    behind facts (facts_of_all told (seen_stmts last (drop (i + 1) stmts))) ≡ facts_of_all told (seen_stmts last (drop i stmts))
stmts_step told last stmts i stmt facts lt is f =
    ap (λ x. behind x (facts_of_all told (seen_stmts last (drop (i + 1) stmts)))) (f ∙ ap (λ s. facts_of told (seen last s)) is)
    ∙ sym (ap (λ ss. facts_of_all told (seen_stmts last ss)) (drop_step stmts i stmt lt)
    ∙ all_begin told (seen last (get_or stmts i stmt)) (seen_stmts last (drop (i + 1) stmts)))

pub whens_step : (told : FlowFacts) (last : ℕ) (whens : List When) (i : ℕ) (when : When) (facts : Facts) → i < length whens →
    when ≡ get_or whens i when → facts ≡ facts_of_all told (seen_stmts last (out-When when).stmts) →
    beside facts (facts_of_arms told false (branches_before (map (seen_when last) (drop (i + 1) whens)) language.done))
    ≡ facts_of_arms told false (branches_before (map (seen_when last) (drop i whens)) language.done)
whens_step told last whens i when facts lt is f =
    let later = facts_of_arms told false (branches_before (map (seen_when last) (drop (i + 1) whens)) language.done) in
    ap (λ x. beside x later) (f ∙ ap (λ (b : Branch). facts_of_all told b.arm) (sym (seen_when_is last when)) ∙ ap (λ w. facts_of_all told (seen_when last w).arm) is)
    ∙ sym (ap (λ ws. facts_of_arms told false (branches_before (map (seen_when last) ws) language.done)) (drop_step whens i when lt))
