-- What statements that fit have in them, part by part.
use Rattle.std.proofs.Common.{◌≡◌, ℕ, Bool, true, List, [], ◌∷◌}
use Rattle.cob_tree.specs.declared.calc.Calc.{Calc}
use Rattle.cob_tree.specs.declared.calc.Calc.TheVariants as calcs
use Rattle.cob_tree.specs.declared.calc.Target.{Target}
use Rattle.cob_tree.specs.declared.choice.Subject.{Subject}
use Rattle.cob_tree.specs.declared.choice.Subject.TheVariants as subjects
use Rattle.cob_tree.specs.declared.choice.Test.{Test}
use Rattle.cob_tree.specs.declared.choice.Test.TheVariants as tests
use Rattle.cob_tree.specs.declared.control.Control.{Control}
use Rattle.cob_tree.specs.declared.control.Control.TheVariants as controls
use Rattle.cob_tree.specs.declared.file.Opening.{Opening}
use Rattle.cob_tree.specs.declared.place.Expr.{Expr}
use Rattle.cob_tree.specs.declared.place.Operand.{Operand}
use Rattle.cob_tree.specs.declared.place.Place.{Place}
use Rattle.cob_tree.specs.declared.stmt.Arms.{Arms, out-Arms}
use Rattle.cob_tree.specs.declared.stmt.Stmt.{Stmt, out-Stmt}
use Rattle.cob_tree.specs.declared.stmt.Stmt.TheOpen.{Stmt-F}
use Rattle.cob_tree.specs.declared.stmt.When.{When, out-When}
use Rattle.cobol_grammar.specs.declared.stmt_forms.scope.Scope.{Scope}
use Rattle.cobol_grammar.specs.stmt_forms.Loop.{looped}
use Rattle.round_trip.specs.spelling.stmt_spelling.Stmt.{IfAny, Some_of}
use Rattle.round_trip.specs.fitting_statements.Fits.{Fits}

module _ (fits : Fits) where
  -- ---- parts

  abbrev pub Receives : Operand → Place → Type 0
  Receives from place = (fits.receives place ≡ true) × (fits.moves from place ≡ true)

  abbrev pub TakesResult : (Place → Bool) → Target → Type 0
  TakesResult test target = test target.place ≡ true

  abbrev pub Targets : List Target → Type 0
  Targets into = Some_of (TakesResult fits.number_place) into

  abbrev pub Results : List Target → Type 0
  Results into = Some_of (TakesResult fits.result_place) into

  abbrev pub Value : Operand → Type 0
  Value operand = fits.value operand ≡ true

  abbrev pub Number : Operand → Type 0
  Number operand = fits.number operand ≡ true

  abbrev pub IsFile : ℕ → Type 0
  IsFile file = fits.file file ≡ true

  abbrev pub IsLabel : ℕ → Type 0
  IsLabel to = fits.label to ≡ true

  abbrev pub IsOpened : Opening → Type 0
  IsOpened opening = fits.file opening.file ≡ true

  abbrev pub FitsCalc : Calc → List Target → Type 0
  FitsCalc (calcs.Add operands) into = Some_of Number operands × Targets into
  FitsCalc (calcs.AddGiving operands) into = Some_of Number operands × Results into
  FitsCalc (calcs.Subtract operands) into = Some_of Number operands × Targets into
  FitsCalc (calcs.SubtractGiving operands from) into = Some_of Number operands × (Number from × Results into)
  FitsCalc (calcs.Multiply by) into = Number by × Targets into
  FitsCalc (calcs.MultiplyGiving one by) into = Number one × (Number by × Results into)
  FitsCalc (calcs.Divide by) into = Number by × Targets into
  FitsCalc (calcs.DivideGiving by what) into = Number by × (Number what × Results into)
  FitsCalc (calcs.Compute expr) into = (fits.expr_number expr ≡ true) × Results into

  abbrev pub FitsControl : Control → Type 0
  FitsControl controls.Once = Unit {0}
  FitsControl (controls.Times count) = fits.whole count ≡ true
  FitsControl (controls.Until after cond) = fits.cond cond ≡ true
  FitsControl (controls.Varying after item from by cond) =
      (fits.number_place item ≡ true) × (Number from × (Number by × (fits.cond cond ≡ true)))

  abbrev pub FitsTurns : Control → Type 0
  FitsTurns controls.Once = ⊥
  FitsTurns (controls.Times count) = (fits.whole count ≡ true) × (fits.turns count ≡ true)
  FitsTurns control = FitsControl control

  abbrev pub FitsSubject : Subject → Type 0
  FitsSubject subjects.True = Unit {0}
  FitsSubject subjects.False = Unit {0}
  FitsSubject (subjects.Value expr) = fits.expr_value expr ≡ true

  abbrev pub Compares : Expr → Expr → Type 0
  Compares subject expr = (fits.expr_value expr ≡ true) × (fits.compares subject expr ≡ true)

  abbrev pub FitsTest : Subject → Test → Type 0
  FitsTest subject tests.Any = Unit {0}
  FitsTest (subjects.Value expr) (tests.Value not from to) = Compares expr from × IfAny (Compares expr) to
  FitsTest (subjects.Value expr) (tests.Holds cond) = ⊥
  FitsTest subject (tests.Holds cond) = fits.cond cond ≡ true
  FitsTest subject (tests.Value not from to) = ⊥

  abbrev pub TakesRecord : ℕ → Place → Type 0
  TakesRecord file place = (fits.receives place ≡ true) × (fits.into file place ≡ true)

  abbrev pub WrittenFrom : ℕ → Operand → Type 0
  WrittenFrom entry from = (fits.value from ≡ true) × (fits.writes entry from ≡ true)

  -- ---- statements

  module _ (Held : Scope → List Stmt → Type 0) (scope : Scope) where
    abbrev pub FitsArms : Arms → Type 0
    FitsArms arms = IfAny (Held scope) (out-Arms arms).first × IfAny (Held scope) (out-Arms arms).second

    abbrev pub FitsWhen : Subject → When → Type 0
    FitsWhen subject when = Some_of (FitsTest subject) (out-When when).tests × Held scope (out-When when).stmts

    -- none, or some that are held
    abbrev pub HeldOrNone : List Stmt → Type 0
    HeldOrNone [] = Unit {0}
    HeldOrNone (stmt ∷ others) = Held scope (stmt ∷ others)

    abbrev pub FitsShape : Stmt-F Stmt Arms When → Type 0
    FitsShape (Stmt-F.Display items advance) = Some_of Value items
    FitsShape (Stmt-F.Move from to) = Value from × Some_of (Receives from) to
    FitsShape (Stmt-F.Arith calc into arms) = FitsCalc calc into × FitsArms arms
    FitsShape (Stmt-F.SetTrue place) = fits.condition_place place ≡ true
    FitsShape (Stmt-F.Opens openings) = Some_of IsOpened openings
    FitsShape (Stmt-F.Closes files) = Some_of IsFile files
    FitsShape (Stmt-F.Read file into arms) = IsFile file × (IfAny (TakesRecord file) into × FitsArms arms)
    FitsShape (Stmt-F.Write entry from) = (fits.entry_record entry ≡ true) × IfAny (WrittenFrom entry) from
    FitsShape (Stmt-F.Rewrite entry from) = (fits.entry_record entry ≡ true) × IfAny (WrittenFrom entry) from
    FitsShape (Stmt-F.If cond met unmet) = (fits.cond cond ≡ true) × (Held scope met × HeldOrNone unmet)
    FitsShape (Stmt-F.Evaluate subject whens other) =
        FitsSubject subject × (Some_of (FitsWhen subject) whens × IfAny (Held scope) other)
    FitsShape (Stmt-F.Loop control body) = FitsTurns control × Held (looped scope) body
    FitsShape (Stmt-F.Perform entry exit control) = (fits.range entry exit ≡ true) × FitsControl control
    FitsShape (Stmt-F.Go to) = IsLabel to
    FitsShape (Stmt-F.GoDepending to on) = Some_of IsLabel to × (fits.whole_place on ≡ true)
    FitsShape Stmt-F.Exit = ⊥
    FitsShape Stmt-F.ExitSection = scope.in_section ≡ true
    FitsShape (Stmt-F.ExitPerform cycle) = scope.in_loop ≡ true
    FitsShape _ = Unit {0}

    abbrev pub FitsStmt : Stmt → Type 0
    FitsStmt stmt = FitsShape (out-Stmt stmt)
