-- The choices of statements that are named have arms.
use Rattle.std.proofs.Common.{◌≡◌, ℕ, Bool, true, false, ◌&&◌, List, [], ◌∷◌, map, Option, Some, None, is_some, refl, ap, sym, ◌∙◌, subst}
use Rattle.std.proofs.lemmas.Bool.{and_parts}
use Rattle.cob_tree.specs.declared.calc.Calc.{Calc}
use Rattle.cob_tree.specs.declared.calc.Target.{Target}
use Rattle.cob_tree.specs.declared.place.Place.{Place}
use Rattle.cob_tree.specs.declared.choice.Subject.{Subject}
use Rattle.cob_tree.specs.declared.choice.Test.{Test}
use Rattle.cob_tree.specs.declared.stmt.Arms.{Arms, roll-Arms, map-Arms, fold-roll-Arms}
use Rattle.cob_tree.specs.declared.stmt.When.{When, roll-When, map-When, fold-roll-When}
use Rattle.cob_tree.specs.declared.stmt.Stmt.{Stmt, ind-Stmt, map-Stmt, roll-Stmt, fold-roll-Stmt}
use Rattle.cob_tree.specs.declared.stmt.Stmt.TheOpen.{Stmt-F, Arms-F, When-F}
use Rattle.control_flow_theory.specs.language.All.{all}
use Rattle.control_flow_theory.specs.language.Language as language
use Rattle.control_flow_theory.specs.language.Control.{arith_stmt, arm_before, else_of, stmts_of, control_in, loop_of, perform_of, picker_by, cell_chosen, count_from, tests_of, Branch, branches_before, Both, both_arms, both_step, branch_step, seen_step, seen, seen_when, seen_both, seen_stmts}
use Rattle.program_facts.specs.well_scoped.Part.{Counts, is_filled, if_any, file_named, place_named}
use Rattle.program_facts.specs.well_scoped.Beside.{turns, cond_named, control_named, calc_named, target_named, subject_named, test_named}
use Rattle.program_facts.specs.well_scoped.Named as named
use Rattle.program_facts.specs.well_scoped.Named.{arm, fit, stmt_step, arms_step, when_step, stmt_named, arms_named, when_seen, stmts_named}
use Rattle.procedure_split.specs.split_depth.Arms.{has_given, HasArms, StmtHasArms, StmtsHaveArms, EachArmHas}

second : (a b : Bool) → (a && b) ≡ true → b ≡ true
second a b h = (and_parts a b h).1

abbrev BothHave : Both → Type 0
BothHave both = EachArmHas (both_arms both)

arith-has : (calc : Calc) (into : List Target) (first second : Option language.Stmts) →
    BothHave (record { first = first; second = second }) →
    StmtHasArms (arith_stmt calc into (record { first = first; second = second }))
arith-has calc into None None h = tt
arith-has calc into None (Some second) h = (refl, h)
arith-has calc into (Some first) None h = (refl, h)
arith-has calc into (Some first) (Some second) h = (refl, h)

read-has : (file : ℕ) (into : Option Place) (first second : Option language.Stmts) →
    HasArms (language.By (language.Read file into (is_some first)))
    (both_arms (record { first = first; second = second }))
read-has file into None second = refl
read-has file into (Some first) second = refl

else-has : (stmts : List language.Stmt) → StmtsHaveArms (stmts_of stmts) →
    EachArmHas (arm_before (else_of stmts) language.done)
else-has [] h = tt
else-has (stmt ∷ stmts) h = (h, tt)

picker-has : (cell : Option ℕ) (counted : Bool) (subject : Subject) (tests : List (List Test))
    (has_other : Bool) (arms : language.Arms) → has_given arms ≡ true →
    HasArms (picker_by cell counted (language.Evaluate subject tests has_other)) arms
picker-has None counted subject tests has_other arms h = h
picker-has (Some cell) true subject tests has_other arms h = h
picker-has (Some cell) false subject tests has_other arms h = h

loop-has : (control : Option language.Control) (body : language.Stmts) → StmtsHaveArms body →
    StmtHasArms (loop_of control body)
loop-has None body h = (refl, (h, tt))
loop-has (Some control) body h = (tt, h)

perform-has : (control : Option language.Control) (entry exit : ℕ) →
    StmtHasArms (perform_of control entry exit)
perform-has None entry exit = tt
perform-has (Some control) entry exit = (tt, tt)

module _ (counts : Counts) (last : ℕ) where
  abbrev Such : Stmt → Type 0
  Such stmt = stmt_named counts stmt ≡ true → StmtHasArms (seen last stmt)

  abbrev SuchTwo : Arms → Type 0
  SuchTwo arms = arms_named counts arms ≡ true → BothHave (seen_both last arms)

  abbrev SuchOne : When → Type 0
  SuchOne when = (when_seen counts when).named ≡ true → StmtsHaveArms (seen_when last when).arm

  abbrev SuchStmt : Type 0
  SuchStmt = (stmt : Stmt) × Such stmt

  abbrev SuchArms : Type 0
  SuchArms = (arms : Arms) × SuchTwo arms

  abbrev SuchWhen : Type 0
  SuchWhen = (when : When) × SuchOne when

  abbrev plain : List SuchStmt → List Stmt
  plain list = map (λ e. e.0) list

  abbrev plain_whens : List SuchWhen → List When
  plain_whens whens = map (λ e. e.0) whens

  stmts-have : (xs : List SuchStmt) → stmts_named counts (plain xs) ≡ true →
      StmtsHaveArms (stmts_of (map (seen last) (plain xs)))
  stmts-have [] e = tt
  stmts-have (x ∷ xs) e =
      let h = and_parts (stmt_named counts x.0) (stmts_named counts (plain xs)) e in
      (x.1 h.0, stmts-have xs h.1)

  arm-has : (xs : List SuchStmt) → arm (map (stmt_named counts) (plain xs)) ≡ true →
      StmtsHaveArms (stmts_of (map (seen last) (plain xs)))
  arm-has xs e =
      stmts-have xs
      (second (is_filled (map (stmt_named counts) (plain xs))) (stmts_named counts (plain xs)) e)

  whens-have : (xs : List SuchWhen) (tail : language.Arms) →
      all (map (λ when. when.named) (map (when_seen counts) (plain_whens xs))) ≡ true →
      EachArmHas tail → EachArmHas (branches_before (map (seen_when last) (plain_whens xs)) tail)
  whens-have [] tail e h = h
  whens-have (x ∷ xs) tail e h =
      let k = and_parts (when_seen counts x.0).named
      (all (map (λ when. when.named) (map (when_seen counts) (plain_whens xs)))) e in
      (x.1 k.0, whens-have xs tail k.1 h)

  some-given : (xs : List SuchWhen) (tail : language.Arms) →
      is_filled (map (when_seen counts) (plain_whens xs)) ≡ true →
      has_given (branches_before (map (seen_when last) (plain_whens xs)) tail) ≡ true
  some-given [] tail e = cc
  some-given (x ∷ xs) tail e = refl

  abbrev mapped : Stmt-F SuchStmt SuchArms SuchWhen → Stmt-F Stmt Arms When
  mapped = map-Stmt SuchStmt SuchArms SuchWhen Stmt Arms When (λ e. e.0) (λ e. e.0) (λ e. e.0)

  abbrev told : Stmt-F Stmt Arms When → Bool
  told y = stmt_step counts
      (map-Stmt Stmt Arms When Bool Bool named.Branch
      (stmt_named counts) (arms_named counts) (when_seen counts) y)

  abbrev shown : Stmt-F Stmt Arms When → language.Stmt
  shown y = seen_step last
      (map-Stmt Stmt Arms When language.Stmt Both Branch (seen last) (seen_both last) (seen_when last) y)

  evaluate-has : (subject : Subject) (xs : List SuchWhen) (has_other : Bool) (tail : language.Arms)
      (behind : Bool) → EachArmHas tail →
      let seen_whens = map (when_seen counts) (plain_whens xs) in
      (subject_named counts subject && (is_filled seen_whens && all (map (λ when. when.named) seen_whens))
      && fit subject seen_whens && behind) ≡ true →
      let branches = map (seen_when last) (plain_whens xs) in
      StmtHasArms (language.Choose
      (picker_by (cell_chosen subject) (count_from 1 (tests_of branches))
      (language.Evaluate subject (tests_of branches) has_other)) (branches_before branches tail))
  evaluate-has subject xs has_other tail behind there e =
      let seen_whens = map (when_seen counts) (plain_whens xs) in
      let branches = map (seen_when last) (plain_whens xs) in
      let each = all (map (λ when. when.named) seen_whens) in
      let h = and_parts (subject_named counts subject && (is_filled seen_whens && each)
      && fit subject seen_whens) behind e in
      let k = and_parts (subject_named counts subject && (is_filled seen_whens && each))
      (fit subject seen_whens) h.0 in
      let l = and_parts (subject_named counts subject) (is_filled seen_whens && each) k.0 in
      let m = and_parts (is_filled seen_whens) each l.1 in (
        picker-has (cell_chosen subject) (count_from 1 (tests_of branches)) subject
            (tests_of branches) has_other (branches_before branches tail) (some-given xs tail m.0),
        whens-have xs tail m.1 there,
      )

  step-has : (y : Stmt-F SuchStmt SuchArms SuchWhen) → told (mapped y) ≡ true →
      StmtHasArms (shown (mapped y))
  step-has (Stmt-F.Display items advance) e = tt
  step-has (Stmt-F.Move from to) e = tt
  step-has (Stmt-F.Arith calc into arms) e =
      let two = seen_both last arms.0 in
      let h = and_parts
      (calc_named counts calc && (is_filled into && all (map (target_named counts) into)))
      (arms_named counts arms.0) e in
      arith-has calc into two.first two.second (arms.1 h.1)
  step-has (Stmt-F.SetTrue place) e = tt
  step-has (Stmt-F.Opens openings) e = tt
  step-has (Stmt-F.Closes files) e = tt
  step-has (Stmt-F.Read file into arms) e =
      let two = seen_both last arms.0 in
      let h = and_parts (file_named counts file && if_any (place_named counts) into)
      (arms_named counts arms.0) e in
      (read-has file into two.first two.second, arms.1 h.1)
  step-has (Stmt-F.Write entry from) e = tt
  step-has (Stmt-F.Rewrite entry from) e = tt
  step-has (Stmt-F.If cond met unmet) e =
      let h = and_parts (cond_named counts cond && arm (map (stmt_named counts) (plain met)))
      (stmts_named counts (plain unmet)) e in
      let k = and_parts (cond_named counts cond) (arm (map (stmt_named counts) (plain met))) h.0 in
      (refl, (arm-has met k.1, else-has (map (seen last) (plain unmet)) (stmts-have unmet h.1)))
  step-has (Stmt-F.Evaluate subject whens None) e =
      evaluate-has subject whens false (language.missing language.done) true tt e
  step-has (Stmt-F.Evaluate subject whens (Some other)) e =
      let others = arm (map (stmt_named counts) (plain other)) in
      let seen_whens = map (when_seen counts) (plain_whens whens) in
      let h = and_parts
      (subject_named counts subject && (is_filled seen_whens && all (map (λ when. when.named) seen_whens))
      && fit subject seen_whens) others e in
      evaluate-has subject whens true
      (language.given (stmts_of (map (seen last) (plain other))) language.done) others
      (arm-has other h.1, tt) e
  step-has (Stmt-F.Loop control body) e =
      let h = and_parts (turns control && control_named counts control)
      (arm (map (stmt_named counts) (plain body))) e in
      loop-has (control_in control) (stmts_of (map (seen last) (plain body))) (arm-has body h.1)
  step-has (Stmt-F.Perform entry exit control) e = perform-has (control_in control) entry exit
  step-has (Stmt-F.Go to) e = tt
  step-has (Stmt-F.GoDepending to on) e = tt
  step-has Stmt-F.NextSentence e = tt
  step-has Stmt-F.StopRun e = tt
  step-has Stmt-F.Exit e = tt
  step-has Stmt-F.ExitParagraph e = tt
  step-has Stmt-F.ExitSection e = tt
  step-has (Stmt-F.ExitPerform cycle) e = tt
  step-has Stmt-F.Continue e = tt

  layer : (y : Stmt-F SuchStmt SuchArms SuchWhen) → Such (roll-Stmt (mapped y))
  layer y e =
      subst StmtHasArms
      (sym (fold-roll-Stmt language.Stmt Both Branch (seen_step last) both_step branch_step (mapped y)))
      (step-has y
      (sym (fold-roll-Stmt Bool Bool named.Branch (stmt_step counts) (arms_step counts) (when_step counts)
      (mapped y)) ∙ e))

  arms-by : (y : Arms-F Stmt Arms When) →
      (arms_step counts (map-Arms Stmt Arms When Bool Bool named.Branch (stmt_named counts)
      (arms_named counts) (when_seen counts) y) ≡ true →
      BothHave (both_step (map-Arms Stmt Arms When language.Stmt Both Branch (seen last)
      (seen_both last) (seen_when last) y))) → SuchTwo (roll-Arms y)
  arms-by y h e =
      subst BothHave
      (sym (fold-roll-Arms language.Stmt Both Branch (seen_step last) both_step branch_step y))
      (h (sym (fold-roll-Arms Bool Bool named.Branch (stmt_step counts) (arms_step counts)
      (when_step counts) y) ∙ e))

  arms-layer : (one other : Option (List SuchStmt)) →
      SuchTwo (roll-Arms (map-Arms SuchStmt SuchArms SuchWhen Stmt Arms When
      (λ e. e.0) (λ e. e.0) (λ e. e.0) (record { first = one; second = other })))
  arms-layer None None = arms-by (record { first = None; second = None }) (λ e. tt)
  arms-layer None (Some other) =
      arms-by (record { first = None; second = Some (plain other) }) (λ e. (arm-has other e, tt))
  arms-layer (Some one) None =
      arms-by (record { first = Some (plain one); second = None })
      (λ e. (arm-has one (and_parts (arm (map (stmt_named counts) (plain one))) true e).0, tt))
  arms-layer (Some one) (Some other) =
      arms-by (record { first = Some (plain one); second = Some (plain other) })
      (λ e. let h = and_parts (arm (map (stmt_named counts) (plain one)))
      (arm (map (stmt_named counts) (plain other))) e in
      (arm-has one h.0, (arm-has other h.1, tt)))

  when-layer : (tests : List Test) (stmts : List SuchStmt) →
      SuchOne (roll-When (map-When SuchStmt SuchArms SuchWhen Stmt Arms When
      (λ e. e.0) (λ e. e.0) (λ e. e.0) (record { tests = tests; stmts = stmts })))
  when-layer tests stmts e =
      let y : When-F Stmt Arms When = record { tests = tests; stmts = plain stmts } in
      let h = and_parts (is_filled tests && all (map (test_named counts) tests))
      (arm (map (stmt_named counts) (plain stmts)))
      (sym (ap (λ b. b.named) (fold-roll-When Bool Bool named.Branch (stmt_step counts)
      (arms_step counts) (when_step counts) y)) ∙ e) in
      subst (λ (b : Branch). StmtsHaveArms b.arm)
      (sym (fold-roll-When language.Stmt Both Branch (seen_step last) both_step branch_step y))
      (arm-has stmts h.1)

  stmt-has : (stmt : Stmt) → Such stmt
  stmt-has stmt =
      ind-Stmt Such SuchTwo SuchOne
      (λ x y is. subst (λ z. Such (roll-Stmt z)) is (layer y))
      (λ x y is. subst (λ z. SuchTwo (roll-Arms z)) is (arms-layer y.first y.second))
      (λ x y is. subst (λ z. SuchOne (roll-When z)) is (when-layer y.tests y.stmts)) stmt

  pub list-has : (list : List Stmt) → stmts_named counts list ≡ true →
      StmtsHaveArms (seen_stmts last list)
  list-has [] e = tt
  list-has (stmt ∷ list) e =
      let h = and_parts (stmt_named counts stmt) (stmts_named counts list) e in
      (stmt-has stmt h.0, list-has list h.1)
