-- What is seen of statements takes as many places as they do.
use Rattle.std.proofs.Common.{◌≡◌, ℕ, ◌+◌, ◌≤◌, length, List, [], ◌∷◌, map, sum, sum_by, Option, Some, None, refl, ap, ap₂, sym, ◌∙◌, subst, arith}
use Rattle.std.proofs.lemmas.List.Sums.{sum_by-cons}
use Rattle.cob_tree.specs.Places.{stmt_places, arms_places, when_places, places_step, arms_step, when_step}
use Rattle.cob_tree.specs.declared.calc.Calc.{Calc}
use Rattle.cob_tree.specs.declared.calc.Target.{Target}
use Rattle.cob_tree.specs.declared.choice.Test.{Test}
use Rattle.cob_tree.specs.declared.stmt.Arms.{Arms, roll-Arms, map-Arms, fold-roll-Arms}
use Rattle.cob_tree.specs.declared.stmt.When.{When, roll-When, map-When, fold-roll-When}
use Rattle.cob_tree.specs.declared.stmt.Stmt.{Stmt, ind-Stmt, map-Stmt, roll-Stmt, fold-roll-Stmt, fold_out-Stmt, out-Stmt}
use Rattle.cob_tree.specs.declared.stmt.Stmt.TheOpen.{Stmt-F, Arms-F, When-F}
use Rattle.control_flow_theory.specs.language.Language as language
use Rattle.control_flow_theory.specs.language.Control.{arith_stmt, arm_before, else_of, stmts_of, control_in, loop_of, perform_of, Branch, branches_before, Both, both_arms, both_step, branch_step, seen_step, seen, seen_when, seen_both, seen_stmts}
use Rattle.control_flow_theory.specs.lowering.Completes.{size, sizes, size_arms}

sum-cons : (n : ℕ) (ns : List ℕ) → sum (n ∷ ns) ≡ n + sum ns
sum-cons n ns = sum_by-cons (λ (m : ℕ). m) n ns

arith_size : (calc : Calc) (into : List Target) (first second : Option language.Stmts) →
    size (arith_stmt calc into (record { first = first; second = second })) ≡ 1 + size_arms (both_arms (record { first = first; second = second }))
arith_size calc into None None = refl
arith_size calc into None (Some second) = refl
arith_size calc into (Some first) None = refl
arith_size calc into (Some first) (Some second) = refl

else_size : (stmts : List language.Stmt) → size_arms (arm_before (else_of stmts) language.done) ≡ sizes (stmts_of stmts)
else_size [] = refl
else_size (stmt ∷ stmts) = omega arith

loop_size : (control : Option language.Control) (body : language.Stmts) → size (loop_of control body) ≡ 1 + sizes body
loop_size None body = omega arith
loop_size (Some control) body = refl

perform_size : (control : Option language.Control) (entry exit : ℕ) → size (perform_of control entry exit) ≡ 1
perform_size None entry exit = refl
perform_size (Some control) entry exit = refl

-- a statement takes a place
step_above : (y : Stmt-F ℕ ℕ ℕ) → 1 ≤ places_step y
step_above (Stmt-F.Display items advance) = omega arith
step_above (Stmt-F.Move from to) = omega arith
step_above (Stmt-F.Arith calc into arms) = omega arith
step_above (Stmt-F.SetTrue place) = omega arith
step_above (Stmt-F.Opens openings) = omega arith
step_above (Stmt-F.Closes files) = omega arith
step_above (Stmt-F.Read file into arms) = omega arith
step_above (Stmt-F.Write entry from) = omega arith
step_above (Stmt-F.Rewrite entry from) = omega arith
step_above (Stmt-F.If cond met unmet) = omega arith
step_above (Stmt-F.Evaluate subject whens None) = omega arith
step_above (Stmt-F.Evaluate subject whens (Some other)) = omega arith
step_above (Stmt-F.Loop control body) = omega arith
step_above (Stmt-F.Perform entry exit control) = omega arith
step_above (Stmt-F.Go to) = omega arith
step_above (Stmt-F.GoDepending to on) = omega arith
step_above Stmt-F.NextSentence = omega arith
step_above Stmt-F.StopRun = omega arith
step_above Stmt-F.Exit = omega arith
step_above Stmt-F.ExitParagraph = omega arith
step_above Stmt-F.ExitSection = omega arith
step_above (Stmt-F.ExitPerform cycle) = omega arith
step_above Stmt-F.Continue = omega arith

pub stmt_above : (stmt : Stmt) → 1 ≤ stmt_places stmt
stmt_above stmt =
    subst (λ n. 1 ≤ n) (sym (fold_out-Stmt ℕ ℕ ℕ places_step arms_step when_step stmt))
    (step_above (map-Stmt Stmt Arms When ℕ ℕ ℕ stmt_places arms_places when_places (out-Stmt stmt)))

pub stmts_above : (stmts : List Stmt) → length stmts ≤ sum_by stmt_places stmts
stmts_above [] = omega arith
stmts_above (stmt ∷ stmts) = omega (arith, stmts_above stmts, stmt_above stmt, sum_by-cons stmt_places stmt stmts)

module _ (last : ℕ) where
  abbrev FitsStmt : Stmt → Type 0
  FitsStmt stmt = size (seen last stmt) ≡ stmt_places stmt

  abbrev FitsArms : Arms → Type 0
  FitsArms arms = size_arms (both_arms (seen_both last arms)) ≡ arms_places arms

  abbrev FitsWhen : When → Type 0
  FitsWhen when = sizes (seen_when last when).arm ≡ when_places when

  abbrev SuchStmt : Type 0
  SuchStmt = (stmt : Stmt) × FitsStmt stmt

  abbrev SuchArms : Type 0
  SuchArms = (arms : Arms) × FitsArms arms

  abbrev SuchWhen : Type 0
  SuchWhen = (when : When) × FitsWhen when

  abbrev plain : List SuchStmt → List Stmt
  plain stmts = map (λ e. e.0) stmts

  abbrev plain_whens : List SuchWhen → List When
  plain_whens whens = map (λ e. e.0) whens

  stmts_fit : (xs : List SuchStmt) → sizes (seen_stmts last (plain xs)) ≡ sum (map stmt_places (plain xs))
  stmts_fit [] = refl
  stmts_fit (x ∷ xs) =
      ap₂ (λ a b. a + b) x.1 (stmts_fit xs) ∙ sym (sum-cons (stmt_places x.0) (map stmt_places (plain xs)))

  whens_fit : (xs : List SuchWhen) (tail : language.Arms) →
      size_arms (branches_before (map (seen_when last) (plain_whens xs)) tail) ≡ sum (map when_places (plain_whens xs)) + size_arms tail
  whens_fit [] tail = omega arith
  whens_fit (x ∷ xs) tail = omega (arith, x.1, whens_fit xs tail, sum-cons (when_places x.0) (map when_places (plain_whens xs)))

  abbrev mapped : Stmt-F SuchStmt SuchArms SuchWhen → Stmt-F Stmt Arms When
  mapped = map-Stmt SuchStmt SuchArms SuchWhen Stmt Arms When (λ e. e.0) (λ e. e.0) (λ e. e.0)

  abbrev shown : Stmt-F Stmt Arms When → language.Stmt
  shown y = seen_step last (map-Stmt Stmt Arms When language.Stmt Both Branch (seen last) (seen_both last) (seen_when last) y)

  abbrev counted : Stmt-F Stmt Arms When → ℕ
  counted y = places_step (map-Stmt Stmt Arms When ℕ ℕ ℕ stmt_places arms_places when_places y)

  step_fits : (y : Stmt-F SuchStmt SuchArms SuchWhen) → size (shown (mapped y)) ≡ counted (mapped y)
  step_fits (Stmt-F.Display items advance) = refl
  step_fits (Stmt-F.Move from to) = refl
  step_fits (Stmt-F.Arith calc into arms) =
      let both = seen_both last arms.0 in
      arith_size calc into both.first both.second ∙ ap (λ n. 1 + n) arms.1
  step_fits (Stmt-F.SetTrue place) = refl
  step_fits (Stmt-F.Opens openings) = refl
  step_fits (Stmt-F.Closes files) = refl
  step_fits (Stmt-F.Read file into arms) = ap (λ n. 1 + n) arms.1
  step_fits (Stmt-F.Write entry from) = refl
  step_fits (Stmt-F.Rewrite entry from) = refl
  step_fits (Stmt-F.If cond met unmet) =
      omega (arith, stmts_fit met, else_size (map (seen last) (plain unmet)), stmts_fit unmet)
  step_fits (Stmt-F.Evaluate subject whens None) = omega (arith, whens_fit whens (language.missing language.done))
  step_fits (Stmt-F.Evaluate subject whens (Some other)) =
      omega (arith, whens_fit whens (language.given (seen_stmts last (plain other)) language.done), stmts_fit other)
  step_fits (Stmt-F.Loop control body) = loop_size (control_in control) (seen_stmts last (plain body)) ∙ ap (λ n. 1 + n) (stmts_fit body)
  step_fits (Stmt-F.Perform entry exit control) = perform_size (control_in control) entry exit
  step_fits (Stmt-F.Go to) = refl
  step_fits (Stmt-F.GoDepending to on) = refl
  step_fits Stmt-F.NextSentence = refl
  step_fits Stmt-F.StopRun = refl
  step_fits Stmt-F.Exit = refl
  step_fits Stmt-F.ExitParagraph = refl
  step_fits Stmt-F.ExitSection = refl
  step_fits (Stmt-F.ExitPerform cycle) = refl
  step_fits Stmt-F.Continue = refl

  stmt_layer : (y : Stmt-F SuchStmt SuchArms SuchWhen) → FitsStmt (roll-Stmt (mapped y))
  stmt_layer y =
      ap size (fold-roll-Stmt language.Stmt Both Branch (seen_step last) both_step branch_step (mapped y))
      ∙ step_fits y
      ∙ sym (fold-roll-Stmt ℕ ℕ ℕ places_step arms_step when_step (mapped y))

  abbrev mapped_arms : Arms-F SuchStmt SuchArms SuchWhen → Arms-F Stmt Arms When
  mapped_arms = map-Arms SuchStmt SuchArms SuchWhen Stmt Arms When (λ e. e.0) (λ e. e.0) (λ e. e.0)

  abbrev shown_arms : Arms-F Stmt Arms When → Both
  shown_arms arms = both_step (map-Arms Stmt Arms When language.Stmt Both Branch (seen last) (seen_both last) (seen_when last) arms)

  abbrev counted_arms : Arms-F Stmt Arms When → ℕ
  counted_arms arms = arms_step (map-Arms Stmt Arms When ℕ ℕ ℕ stmt_places arms_places when_places arms)

  arms_fit : (first second : Option (List SuchStmt)) →
      size_arms (both_arms (shown_arms (mapped_arms (record { first = first; second = second })))) ≡ counted_arms (mapped_arms (record { first = first; second = second }))
  arms_fit None None = refl
  arms_fit None (Some second) = omega (arith, stmts_fit second)
  arms_fit (Some first) None = omega (arith, stmts_fit first)
  arms_fit (Some first) (Some second) = omega (arith, stmts_fit first, stmts_fit second)

  arms_layer : (first second : Option (List SuchStmt)) → FitsArms (roll-Arms (mapped_arms (record { first = first; second = second })))
  arms_layer first second =
      let y = mapped_arms (record { first = first; second = second }) in
      ap (λ both. size_arms (both_arms both)) (fold-roll-Arms language.Stmt Both Branch (seen_step last) both_step branch_step y)
      ∙ arms_fit first second
      ∙ sym (fold-roll-Arms ℕ ℕ ℕ places_step arms_step when_step y)

  when_layer : (tests : List Test) (stmts : List SuchStmt) → FitsWhen (roll-When (map-When SuchStmt SuchArms SuchWhen Stmt Arms When (λ e. e.0) (λ e. e.0) (λ e. e.0) (record { tests = tests; stmts = stmts })))
  when_layer tests stmts =
      let y : When-F Stmt Arms When = record { tests = tests; stmts = plain stmts } in
      ap (λ (b : Branch). sizes b.arm) (fold-roll-When language.Stmt Both Branch (seen_step last) both_step branch_step y)
      ∙ stmts_fit stmts
      ∙ sym (fold-roll-When ℕ ℕ ℕ places_step arms_step when_step y)

  pub size-seen : (stmt : Stmt) → FitsStmt stmt
  size-seen stmt =
      ind-Stmt FitsStmt FitsArms FitsWhen
      (λ x y is. subst (λ z. FitsStmt (roll-Stmt z)) is (stmt_layer y))
      (λ x y is. subst (λ z. FitsArms (roll-Arms z)) is (arms_layer y.first y.second))
      (λ x y is. subst (λ z. FitsWhen (roll-When z)) is (when_layer y.tests y.stmts)) stmt

  pub sizes-seen : (stmts : List Stmt) → sizes (seen_stmts last stmts) ≡ sum_by stmt_places stmts
  sizes-seen [] = refl
  sizes-seen (stmt ∷ stmts) =
      ap₂ (λ a b. a + b) (size-seen stmt) (sizes-seen stmts) ∙ sym (sum_by-cons stmt_places stmt stmts)
