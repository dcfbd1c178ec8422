-- Statements of control whose parts pass tests, and in which no required list is empty. No word on
-- a cell is in them: in what is written each is a statement or condition on an item.
use Rattle.std.specs.Prelude.{◌≡◌, nat_le, Bool, true, false, ◌&&◌, List}
use Rattle.cob_tree.specs.declared.choice.Subject as subjects
use Rattle.cob_tree.specs.declared.choice.Test as choices
use Rattle.cob_tree.specs.declared.stmt.Arms as arms
use Rattle.cob_tree.specs.declared.stmt.Stmt as stmts
use Rattle.cob_tree.specs.declared.stmt.Stmt.{out-Stmt}
use Rattle.cob_tree.specs.declared.stmt.Stmt.TheOpen.{Stmt-F}
use Rattle.cob_tree.specs.declared.stmt.When as whens
use Rattle.control_flow_theory.specs.language.Language.{Simple, Chooser, Evaluate, Read, Arith, Depending, Act, Own, Set, Take, Lower, Test, Holds, Not, Is, Above, Picker, If, By, ByCell, Control, Times, Until, Varying, Stmt, Do, Choose, Loop, Perform, Go, GoDepending, NextSentence, ExitParagraph, ExitSection, ExitPerform, StopRun, Stmts, none, also, Arms, done, given, missing, Body, Nested, Performed}
use Rattle.program_facts.specs.well_scoped.Part.{if_any}
use Rattle.round_trip.specs.fitting_statements.Fits.{Fits}
use Rattle.round_trip.specs.fitting_statements.Statement.{some_pass, fit_calc, fit_subject, fit_test, fit_into, fit_stmt}

-- the tests, which no label and no range passes
abbrev pub without_jumps : Fits → Fits
without_jumps fits =
    record fits { label = λ number. false; range = λ entry exit. false }

-- there is a statement
abbrev pub IsFilled : Stmts → Type 0
IsFilled none = ⊥
IsFilled (also stmt stmts) = Unit {0}

module _ (fits : Fits) where
  -- the tests of a WHEN, one at least
  abbrev pub fit_tests : subjects.Subject → List choices.Test → Bool
  fit_tests subject tests = some_pass (fit_test fits subject) tests

  -- what a chooser names passes the tests; GO TO DEPENDING has a name at least
  abbrev pub fit_chooser : Chooser → Bool
  fit_chooser (Evaluate subject tests has_other) =
      fit_subject fits subject && some_pass (fit_tests subject) tests
  fit_chooser (Read file into has_end) = fits.file file && if_any (fit_into fits file) into
  fit_chooser (Arith calc into) = fit_calc fits calc into
  fit_chooser (Depending on names) = nat_le 1 names && fits.whole_place on

  -- an act is a statement that fits
  abbrev pub ActIsFit : Act → Type 0
  ActIsFit (Own simple) = fit_stmt fits simple ≡ true
  ActIsFit (Set cell value) = ⊥
  ActIsFit (Take cell amount) = ⊥
  ActIsFit (Lower cell) = ⊥

  -- the statement is a MOVE of a number, as VARYING begins with one
  abbrev pub moves_by : Stmt-F stmts.Stmt arms.Arms whens.When → Bool
  moves_by (Stmt-F.Move from to) = fits.number from
  moves_by _ = false

  -- the statement is such a MOVE
  abbrev pub moves_number : Simple → Bool
  moves_number simple = moves_by (out-Stmt simple)

  -- an act is such a MOVE
  abbrev pub BeginsFit : Act → Type 0
  BeginsFit (Own simple) = moves_number simple ≡ true
  BeginsFit (Set cell value) = ⊥
  BeginsFit (Take cell amount) = ⊥
  BeginsFit (Lower cell) = ⊥

  -- a test is a condition that passes
  abbrev pub TestIsFit : Test → Type 0
  TestIsFit (Holds cond) = fits.cond cond ≡ true
  TestIsFit (Not test) = TestIsFit test
  TestIsFit (Is cell value) = ⊥
  TestIsFit (Above cell) = ⊥

  -- what chooses passes
  abbrev pub PickerIsFit : Picker → Type 0
  PickerIsFit (If test) = TestIsFit test
  PickerIsFit (By chooser) = fit_chooser chooser ≡ true
  PickerIsFit (ByCell cell) = ⊥

  -- what VARYING's setting MOVE is to, its augmenting ADD is too
  abbrev pub ControlIsFit : Control → Type 0
  ControlIsFit (Times amount) = fits.whole amount ≡ true
  ControlIsFit (Until after test) = TestIsFit test
  ControlIsFit (Varying after set step test) = BeginsFit set × ActIsFit step × TestIsFit test

  -- the count of an inline PERFORM passes, where it has one
  abbrev pub TurnsFit : Control → Type 0
  TurnsFit (Times amount) = fits.turns amount ≡ true
  TurnsFit (Until after test) = Unit {0}
  TurnsFit (Varying after set step test) = Unit {0}

  abbrev mutual
    -- a statement does
    pub StmtFits : Stmt → Type 0
    StmtFits (Do act) = ActIsFit act
    StmtFits (Choose picker arms) = PickerIsFit picker × ArmsFit arms
    StmtFits (Loop control body) = ControlIsFit control × BodyFits control body
    StmtFits (Perform entry exit) = fits.range entry exit ≡ true
    StmtFits (Go to) = fits.label to ≡ true
    StmtFits (GoDepending to chooser) =
        (some_pass fits.label to ≡ true) × (fit_chooser chooser ≡ true)
    StmtFits NextSentence = Unit {0}
    StmtFits ExitParagraph = Unit {0}
    StmtFits (ExitSection last) = Unit {0}
    StmtFits (ExitPerform cycle) = Unit {0}
    StmtFits StopRun = Unit {0}

    -- these statements pass
    pub StmtsFit : Stmts → Type 0
    StmtsFit none = Unit {0}
    StmtsFit (also stmt stmts) = StmtFits stmt × StmtsFit stmts

    -- each arm that is given has a statement
    pub ArmsFit : Arms → Type 0
    ArmsFit done = Unit {0}
    ArmsFit (given arm others) = IsFilled arm × StmtsFit arm × ArmsFit others
    ArmsFit (missing others) = ArmsFit others

    -- the body of a loop passes, under this control
    pub BodyFits : Control → Body → Type 0
    BodyFits control (Nested stmts) = IsFilled stmts × StmtsFit stmts × TurnsFit control
    BodyFits control (Performed entry exit) = fits.range entry exit ≡ true
