-- The tests of statements without others in them, and of arithmetic without phrases.
use Rattle.std.proofs.Common.{◌≡◌, ℕ, suc, Bool, true, ◌&&◌, nat_le, List, [], ◌∷◌, length, map, None, refl, ap, sym, ◌∙◌, le-leb, arith}
use Rattle.std.proofs.lemmas.Bool.{and_parts}
use Rattle.cob_tree.specs.declared.calc.Calc.{Calc}
use Rattle.cob_tree.specs.declared.calc.Calc.TheVariants as calcs
use Rattle.cob_tree.specs.declared.calc.Target.{Target}
use Rattle.cob_tree.specs.declared.choice.Subject.{Subject}
use Rattle.cob_tree.specs.declared.stmt.Arms.{Arms, fold-roll-Arms}
use Rattle.cob_tree.specs.declared.stmt.Stmt.{Stmt, map-Stmt, roll-Stmt, fold-roll-Stmt}
use Rattle.cob_tree.specs.declared.stmt.Stmt.TheOpen.{Stmt-F}
use Rattle.cob_tree.specs.declared.stmt.Stmt.TheVariants as stmts
use Rattle.cob_tree.specs.declared.stmt.When.{When, out-When, roll-out-When, fold-roll-When}
use Rattle.control_flow_theory.specs.language.All.{all}
use Rattle.control_flow_theory.specs.language.Language as language
use Rattle.control_flow_theory.specs.language.Control.{bare, arith_alone, tests_of, Branch, Both, both_step, branch_step, seen_step, seen_when}
use Rattle.program_facts.specs.well_scoped.Part.{is_filled}
use Rattle.program_facts.proofs.well_scoped_lemmas.Made.{both}
use Rattle.round_trip.specs.fitting_statements.Fits.{Fits}
use Rattle.round_trip.specs.fitting_statements.Statement.{fit_calc, held, stmt_step, arms_step, when_step, fit_stmt, fit_arms, fit_when}
use Rattle.round_trip.specs.fitting_statements.fit_control.Fit.{without_jumps, fit_tests}

-- a list that isn't empty
pub some-names : (list : List ℕ) → is_filled list ≡ true → nat_le 1 (length list) ≡ true
some-names [] h = absurd cc
some-names (x ∷ list) h = le-leb 1 (suc (length list)) (omega arith)

pub filled-back : {X Y : Type 0} (f : X → Y) (list : List X) → is_filled (map f list) ≡ true → is_filled list ≡ true
filled-back f [] h = h
filled-back f (x ∷ list) h = refl

pub filled-on : {X Y : Type 0} (f : X → Y) (list : List X) → is_filled list ≡ true → is_filled (map f list) ≡ true
filled-on f [] h = h
filled-on f (x ∷ list) h = refl

pub calc-same : (fits : Fits) (calc : Calc) (into : List Target) → fit_calc (without_jumps fits) calc into ≡ fit_calc fits calc into
calc-same fits (calcs.Add operands) into = refl
calc-same fits (calcs.AddGiving operands) into = refl
calc-same fits (calcs.Subtract operands) into = refl
calc-same fits (calcs.SubtractGiving operands from) into = refl
calc-same fits (calcs.Multiply by) into = refl
calc-same fits (calcs.MultiplyGiving one by) into = refl
calc-same fits (calcs.Divide by) into = refl
calc-same fits (calcs.DivideGiving by what) into = refl
calc-same fits (calcs.Compute expr) into = refl

module _ (fits : Fits) where
  abbrev pub asked : Stmt-F Stmt Arms When → Bool
  asked y = stmt_step fits
      (map-Stmt Stmt Arms When Bool Bool (Subject → Bool) (fit_stmt fits) (fit_arms fits) (fit_when fits) y)

  pub out-is : (y : Stmt-F Stmt Arms When) → fit_stmt fits (roll-Stmt y) ≡ asked y
  out-is y = fold-roll-Stmt Bool Bool (Subject → Bool) (stmt_step fits) (arms_step fits) (when_step fits) y

  -- where it is this one
  pub is-asked : (y : Stmt-F Stmt Arms When) (x : Stmt) → roll-Stmt y ≡ x → fit_stmt fits x ≡ asked y
  is-asked y x e = ap (fit_stmt fits) (sym e) ∙ out-is y

  pub bare-fits : fit_arms fits bare ≡ true
  bare-fits = fold-roll-Arms Bool Bool (Subject → Bool) (stmt_step fits) (arms_step fits) (when_step fits) (record { first = None; second = None })

  pub alone-fits : (calc : Calc) (into : List Target) → fit_calc fits calc into ≡ true → fit_stmt fits (arith_alone calc into) ≡ true
  alone-fits calc into h = is-asked (Stmt-F.Arith calc into bare) _ (stmts.rolls-Arith calc into bare) ∙ both h bare-fits

  pub fits-alone : (calc : Calc) (into : List Target) → fit_stmt fits (arith_alone calc into) ≡ true → fit_calc fits calc into ≡ true
  fits-alone calc into h =
      (and_parts (fit_calc fits calc into) (fit_arms fits bare) (sym (is-asked (Stmt-F.Arith calc into bare) _ (stmts.rolls-Arith calc into bare)) ∙ h)).0

  -- ---- WHENs

  -- each test of a list, under a subject
  abbrev pub under : Subject → List When → List Bool
  under subject whens = map (λ (t : Subject → Bool). t subject) (map (fit_when fits) whens)

  pub when-parts : (subject : Subject) (when : When) → fit_when fits when subject ≡ true →
      (fit_tests fits subject (out-When when).tests && held (map (fit_stmt fits) (out-When when).stmts)) ≡ true
  when-parts subject when h =
      sym (ap (λ (t : Subject → Bool). t subject) (fold-roll-When Bool Bool (Subject → Bool) (stmt_step fits) (arms_step fits) (when_step fits) (out-When when)))
      ∙ (ap (λ w. fit_when fits w subject) (roll-out-When when) ∙ h)

  module _ (last : ℕ) where
    seen-tests : (when : When) → (seen_when last when).tests ≡ (out-When when).tests
    seen-tests when = ap (λ (b : Branch). b.tests)
        (ap (seen_when last) (sym (roll-out-When when)) ∙ fold-roll-When language.Stmt Both Branch (seen_step last) both_step branch_step (out-When when))

    when-tests : (subject : Subject) (when : When) → fit_when fits when subject ≡ true → fit_tests fits subject (seen_when last when).tests ≡ true
    when-tests subject when h =
        ap (fit_tests fits subject) (seen-tests when)
        ∙ (and_parts (fit_tests fits subject (out-When when).tests) (held (map (fit_stmt fits) (out-When when).stmts)) (when-parts subject when h)).0

    pub tests-fit : (subject : Subject) (whens : List When) → all (under subject whens) ≡ true →
        all (map (fit_tests fits subject) (tests_of (map (seen_when last) whens))) ≡ true
    tests-fit subject [] h = refl
    tests-fit subject (when ∷ whens) h =
        let parts = and_parts (fit_when fits when subject) (all (under subject whens)) h in
        both (when-tests subject when parts.0) (tests-fit subject whens parts.1)
