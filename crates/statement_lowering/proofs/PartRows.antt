-- What holds of the parts of a statement: they name own items, and take so many places.
use Rattle.std.proofs.Common.{◌≡◌, ℕ, zero, suc, ◌+◌, ◌<◌, ◌≤◌, Bool, true, ◌&&◌, List, [], ◌∷◌, map, drop, get_or, length, sum_by, Option, Some, None, refl, ap, ap₂, sym, ◌∙◌, arith, add-one}
use Rattle.std.proofs.Math.Seq.{drop-cons}
use Rattle.std.proofs.lemmas.Bool.{and_parts}
use Rattle.std.proofs.lemmas.List.{drop_all}
use Rattle.std.proofs.lemmas.List.Sums.{sum-map, sum_by-cons}
use Rattle.cob_tree.specs.Places.{stmt_places, arms_places, when_places, places_step}
use Rattle.cob_tree.specs.Places as places
use Rattle.cob_tree.specs.declared.calc.Calc.{Calc}
use Rattle.cob_tree.specs.declared.calc.Target.{Target}
use Rattle.cob_tree.specs.declared.choice.Subject.{Subject}
use Rattle.cob_tree.specs.declared.cond.Cond.{Cond}
use Rattle.cob_tree.specs.declared.control.Control.{Control}
use Rattle.cob_tree.specs.declared.place.Place.{Place}
use Rattle.cob_tree.specs.declared.stmt.Arms.{Arms, out-Arms, fold_out-Arms, map-Arms}
use Rattle.cob_tree.specs.declared.stmt.When.{When, out-When, fold_out-When}
use Rattle.cob_tree.specs.declared.stmt.Stmt.{Stmt, fold-roll-Stmt}
use Rattle.cob_tree.specs.declared.stmt.Stmt.TheOpen.{Stmt-F}
use Rattle.cob_tree.specs.declared.stmt.Stmt.TheVariants.{If, rolls-If, Evaluate, rolls-Evaluate, Loop, rolls-Loop, Arith, rolls-Arith, Read, rolls-Read}
use Rattle.control_flow_theory.specs.language.All.{all}
use Rattle.control_flow_theory.specs.language.OwnItems.{arms_own, calc_own, cond_own, control_own, option_own, place_own, stmt_own, stmts_own, stmt_step, arms_step, when_step, subject_own, target_own, test_own, when_own}
use Rattle.statement_lowering.specs.Arms.{phrase_own, phrase_places}

-- Own items.

pub if_own : (cond : Cond) (met unmet : List Stmt) → stmt_own (If cond met unmet) ≡ true → (stmts_own met ≡ true) × (stmts_own unmet ≡ true)
if_own cond met unmet h =
    let e = ap stmt_own (sym (rolls-If cond met unmet)) ∙ fold-roll-Stmt Bool Bool Bool stmt_step arms_step when_step (Stmt-F.If cond met unmet) in
    let both = and_parts (cond_own cond && stmts_own met) (stmts_own unmet) (sym e ∙ h) in
    ((and_parts (cond_own cond) (stmts_own met) both.0).1, both.1)

pub evaluate_own : (subject : Subject) (whens : List When) (other : Option (List Stmt)) → stmt_own (Evaluate subject whens other) ≡ true →
    (subject_own subject ≡ true) × (all (map when_own whens) ≡ true) × (phrase_own other ≡ true)
evaluate_own subject whens None h =
    let e = ap stmt_own (sym (rolls-Evaluate subject whens None)) ∙ fold-roll-Stmt Bool Bool Bool stmt_step arms_step when_step (Stmt-F.Evaluate subject whens None) in
    let both = and_parts (subject_own subject && all (map when_own whens)) true (sym e ∙ h) in
    let first = and_parts (subject_own subject) (all (map when_own whens)) both.0 in
    (first.0, first.1, refl)
evaluate_own subject whens (Some other) h =
    let e = ap stmt_own (sym (rolls-Evaluate subject whens (Some other))) ∙ fold-roll-Stmt Bool Bool Bool stmt_step arms_step when_step (Stmt-F.Evaluate subject whens (Some other)) in
    let both = and_parts (subject_own subject && all (map when_own whens)) (stmts_own other) (sym e ∙ h) in
    let first = and_parts (subject_own subject) (all (map when_own whens)) both.0 in
    (first.0, first.1, both.1)

pub read_own : (file : ℕ) (into : Option Place) (arms : Arms) → stmt_own (Read file into arms) ≡ true → arms_own arms ≡ true
read_own file into arms h =
    let e = ap stmt_own (sym (rolls-Read file into arms)) ∙ fold-roll-Stmt Bool Bool Bool stmt_step arms_step when_step (Stmt-F.Read file into arms) in
    (and_parts (option_own place_own into) (arms_own arms) (sym e ∙ h)).1

pub arith_own : (calc : Calc) (into : List Target) (arms : Arms) → stmt_own (Arith calc into arms) ≡ true → arms_own arms ≡ true
arith_own calc into arms h =
    let e = ap stmt_own (sym (rolls-Arith calc into arms)) ∙ fold-roll-Stmt Bool Bool Bool stmt_step arms_step when_step (Stmt-F.Arith calc into arms) in
    (and_parts (calc_own calc && all (map target_own into)) (arms_own arms) (sym e ∙ h)).1

pub loop_own : (control : Control) (body : List Stmt) → stmt_own (Loop control body) ≡ true → (control_own control ≡ true) × (stmts_own body ≡ true)
loop_own control body h =
    let e = ap stmt_own (sym (rolls-Loop control body)) ∙ fold-roll-Stmt Bool Bool Bool stmt_step arms_step when_step (Stmt-F.Loop control body) in
    and_parts (control_own control) (stmts_own body) (sym e ∙ h)

both_own : (first second : Option (List Stmt)) → arms_step (map-Arms Stmt Arms When Bool Bool Bool stmt_own arms_own when_own (record { first = first; second = second })) ≡ true →
    (phrase_own first ≡ true) × (phrase_own second ≡ true)
both_own None None h = (refl, refl)
both_own None (Some second) h = (refl, (and_parts true (stmts_own second) h).1)
both_own (Some first) None h = ((and_parts (stmts_own first) true h).0, refl)
both_own (Some first) (Some second) h = and_parts (stmts_own first) (stmts_own second) h

pub phrases_own : (arms : Arms) → arms_own arms ≡ true → (phrase_own (out-Arms arms).first ≡ true) × (phrase_own (out-Arms arms).second ≡ true)
phrases_own arms h = both_own (out-Arms arms).first (out-Arms arms).second (sym (fold_out-Arms Bool Bool Bool stmt_step arms_step when_step arms) ∙ h)

pub some_own : (phrase : Option (List Stmt)) (stmts : List Stmt) → phrase ≡ Some stmts → phrase_own phrase ≡ true → stmts_own stmts ≡ true
some_own phrase stmts is h = sym (ap phrase_own is) ∙ h

when_parts : (when : When) → when_own when ≡ true → stmts_own (out-When when).stmts ≡ true
when_parts when h = (and_parts (all (map test_own (out-When when).tests)) (stmts_own (out-When when).stmts) (sym (fold_out-When Bool Bool Bool stmt_step arms_step when_step when) ∙ h)).1

-- Places.

pub if_places : (cond : Cond) (met unmet : List Stmt) → stmt_places (If cond met unmet) ≡ 1 + sum_by stmt_places met + sum_by stmt_places unmet
if_places cond met unmet =
    ap stmt_places (sym (rolls-If cond met unmet)) ∙ fold-roll-Stmt ℕ ℕ ℕ places_step places.arms_step places.when_step (Stmt-F.If cond met unmet)
    ∙ ap₂ (λ a b. 1 + a + b) (sum-map stmt_places met) (sum-map stmt_places unmet)

pub evaluate_places : (subject : Subject) (whens : List When) (other : Option (List Stmt)) →
    stmt_places (Evaluate subject whens other) ≡ 1 + sum_by when_places whens + phrase_places other
evaluate_places subject whens None =
    ap stmt_places (sym (rolls-Evaluate subject whens None)) ∙ fold-roll-Stmt ℕ ℕ ℕ places_step places.arms_step places.when_step (Stmt-F.Evaluate subject whens None)
    ∙ ap (λ a. 1 + a + 0) (sum-map when_places whens)
evaluate_places subject whens (Some other) =
    ap stmt_places (sym (rolls-Evaluate subject whens (Some other))) ∙ fold-roll-Stmt ℕ ℕ ℕ places_step places.arms_step places.when_step (Stmt-F.Evaluate subject whens (Some other))
    ∙ ap₂ (λ a b. 1 + a + b) (sum-map when_places whens) (sum-map stmt_places other)

pub read_places : (file : ℕ) (into : Option Place) (arms : Arms) → stmt_places (Read file into arms) ≡ 1 + arms_places arms
read_places file into arms =
    ap stmt_places (sym (rolls-Read file into arms)) ∙ fold-roll-Stmt ℕ ℕ ℕ places_step places.arms_step places.when_step (Stmt-F.Read file into arms)

pub arith_places : (calc : Calc) (into : List Target) (arms : Arms) → stmt_places (Arith calc into arms) ≡ 1 + arms_places arms
arith_places calc into arms =
    ap stmt_places (sym (rolls-Arith calc into arms)) ∙ fold-roll-Stmt ℕ ℕ ℕ places_step places.arms_step places.when_step (Stmt-F.Arith calc into arms)

pub loop_places : (control : Control) (body : List Stmt) → stmt_places (Loop control body) ≡ 1 + sum_by stmt_places body
loop_places control body =
    ap stmt_places (sym (rolls-Loop control body)) ∙ fold-roll-Stmt ℕ ℕ ℕ places_step places.arms_step places.when_step (Stmt-F.Loop control body)
    ∙ ap (λ a. 1 + a) (sum-map stmt_places body)

both_places : (first second : Option (List Stmt)) →
    places.arms_step (map-Arms Stmt Arms When ℕ ℕ ℕ stmt_places arms_places when_places (record { first = first; second = second })) ≡ phrase_places first + phrase_places second
both_places None None = refl
both_places None (Some second) = ap (λ b. 0 + b) (sum-map stmt_places second)
both_places (Some first) None = ap (λ a. a + 0) (sum-map stmt_places first)
both_places (Some first) (Some second) = ap₂ (λ a b. a + b) (sum-map stmt_places first) (sum-map stmt_places second)

pub phrases_places : (arms : Arms) → arms_places arms ≡ phrase_places (out-Arms arms).first + phrase_places (out-Arms arms).second
phrases_places arms = fold_out-Arms ℕ ℕ ℕ places_step places.arms_step places.when_step arms ∙ both_places (out-Arms arms).first (out-Arms arms).second

pub when_sum : (when : When) → when_places when ≡ sum_by stmt_places (out-When when).stmts
when_sum when = fold_out-When ℕ ℕ ℕ places_step places.arms_step places.when_step when ∙ sum-map stmt_places (out-When when).stmts

pub stmts_left : (i : ℕ) (stmts : List Stmt) → sum_by stmt_places (drop i stmts) ≤ sum_by stmt_places stmts
stmts_left i [] = omega (arith, ap (sum_by stmt_places) (drop_all i [] (omega arith)))
stmts_left zero (stmt ∷ others) = omega arith
stmts_left (suc i) (stmt ∷ others) = omega (arith, stmts_left i others, sum_by-cons stmt_places stmt others)

pub whens_left : (i : ℕ) (whens : List When) → sum_by when_places (drop i whens) ≤ sum_by when_places whens
whens_left i [] = omega (arith, ap (sum_by when_places) (drop_all i [] (omega arith)))
whens_left zero (when ∷ others) = omega arith
whens_left (suc i) (when ∷ others) = omega (arith, whens_left i others, sum_by-cons when_places when others)

-- Of one among others.

module _ (stmts : List Stmt) (i : ℕ) (stmt : Stmt) (lt : i < length stmts) (is : stmt ≡ get_or stmts i stmt) where
  first_left : drop i stmts ≡ stmt ∷ drop (i + 1) stmts
  first_left = rw (add-one i) (drop-cons stmts i stmt lt) ∙ ap (λ s. s ∷ drop (i + 1) stmts) (sym is)

  pub stmt_in_own : stmts_own (drop i stmts) ≡ true → (stmt_own stmt ≡ true) × (stmts_own (drop (i + 1) stmts) ≡ true)
  stmt_in_own h = and_parts (stmt_own stmt) (stmts_own (drop (i + 1) stmts)) (sym (ap stmts_own first_left) ∙ h)

  pub stmt_in_places : sum_by stmt_places (drop i stmts) ≡ stmt_places stmt + sum_by stmt_places (drop (i + 1) stmts)
  stmt_in_places = ap (sum_by stmt_places) first_left ∙ sum_by-cons stmt_places stmt (drop (i + 1) stmts)

module _ (whens : List When) (i : ℕ) (when : When) (lt : i < length whens) (is : when ≡ get_or whens i when) where
  when_left : drop i whens ≡ when ∷ drop (i + 1) whens
  when_left = rw (add-one i) (drop-cons whens i when lt) ∙ ap (λ w. w ∷ drop (i + 1) whens) (sym is)

  pub when_in_own : all (map when_own (drop i whens)) ≡ true → (stmts_own (out-When when).stmts ≡ true) × (all (map when_own (drop (i + 1) whens)) ≡ true)
  when_in_own h =
      let both = and_parts (when_own when) (all (map when_own (drop (i + 1) whens))) (sym (ap (λ ws. all (map when_own ws)) when_left) ∙ h) in
      (when_parts when both.0, both.1)

  pub when_in_places : sum_by when_places (drop i whens) ≡ sum_by stmt_places (out-When when).stmts + sum_by when_places (drop (i + 1) whens)
  when_in_places =
      ap (sum_by when_places) when_left ∙ sum_by-cons when_places when (drop (i + 1) whens) ∙ ap (λ n. n + sum_by when_places (drop (i + 1) whens)) (when_sum when)
