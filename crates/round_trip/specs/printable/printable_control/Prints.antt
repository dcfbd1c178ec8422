-- Statements of control whose parts can be printed. There is no word on a cell in them: in what is
-- written each is a statement or condition on an item.
use Rattle.std.specs.Prelude.{◌≡◌, Bool, true, ◌&&◌, List, map}
use Rattle.cob_tree.specs.declared.choice.Test as choices
use Rattle.control_flow_theory.specs.language.All.{all}
use Rattle.control_flow_theory.specs.language.Language.{Chooser, Evaluate, Read, Arith, Depending, Act, Own, Set, Take, Lower, Test, Holds, Not, Is, Above, Picker, If, By, ByCell, Control, Times, Until, Varying, Stmt, Do, Choose, Loop, Perform, Go, GoDepending, NextSentence, ExitParagraph, ExitSection, ExitPerform, StopRun, Stmts, none, also, Arms, done, given, missing, Body, Nested, Performed}
use Rattle.program_facts.specs.well_scoped.Part.{if_any}
use Rattle.round_trip.specs.printable.Part.{is_printable_place, is_printable_operand}
use Rattle.round_trip.specs.printable.Beside.{is_printable_cond, is_printable_calc, is_printable_target, is_printable_subject, is_printable_test}
use Rattle.round_trip.specs.printable.Statement.{is_printable_stmt}

-- the tests of a WHEN
abbrev pub are_printable_tests : List choices.Test → Bool
are_printable_tests tests = all (map is_printable_test tests)

-- what chooses an arm
abbrev pub chooser_prints : Chooser → Bool
chooser_prints (Evaluate subject tests has_other) =
    is_printable_subject subject && all (map are_printable_tests tests)
chooser_prints (Read file into has_end) = if_any is_printable_place into
chooser_prints (Arith calc into) = is_printable_calc calc && all (map is_printable_target into)
chooser_prints (Depending on names) = is_printable_place on

-- an act, which is a statement
abbrev pub ActPrints : Act → Type 0
ActPrints (Own simple) = is_printable_stmt simple ≡ true
ActPrints (Set cell value) = ⊥
ActPrints (Take cell amount) = ⊥
ActPrints (Lower cell) = ⊥

-- a test, which is a condition
abbrev pub TestPrints : Test → Type 0
TestPrints (Holds cond) = is_printable_cond cond ≡ true
TestPrints (Not test) = TestPrints test
TestPrints (Is cell value) = ⊥
TestPrints (Above cell) = ⊥

-- what chooses, which is no cell
abbrev pub PickerPrints : Picker → Type 0
PickerPrints (If test) = TestPrints test
PickerPrints (By chooser) = chooser_prints chooser ≡ true
PickerPrints (ByCell cell) = ⊥

-- the control of a loop
abbrev pub ControlPrints : Control → Type 0
ControlPrints (Times amount) = is_printable_operand amount ≡ true
ControlPrints (Until after test) = TestPrints test
ControlPrints (Varying after set step test) = ActPrints set × ActPrints step × TestPrints test

abbrev mutual
  -- a statement
  pub StmtPrints : Stmt → Type 0
  StmtPrints (Do act) = ActPrints act
  StmtPrints (Choose picker arms) = PickerPrints picker × ArmsPrint arms
  StmtPrints (Loop control body) = ControlPrints control × BodyPrints body
  StmtPrints (Perform entry exit) = Unit {0}
  StmtPrints (Go to) = Unit {0}
  StmtPrints (GoDepending to chooser) = chooser_prints chooser ≡ true
  StmtPrints NextSentence = Unit {0}
  StmtPrints ExitParagraph = Unit {0}
  StmtPrints (ExitSection last) = Unit {0}
  StmtPrints (ExitPerform cycle) = Unit {0}
  StmtPrints StopRun = Unit {0}

  -- these statements can be printed
  pub StmtsPrint : Stmts → Type 0
  StmtsPrint none = Unit {0}
  StmtsPrint (also stmt stmts) = StmtPrints stmt × StmtsPrint stmts

  -- these arms can be printed
  pub ArmsPrint : Arms → Type 0
  ArmsPrint done = Unit {0}
  ArmsPrint (given arm others) = StmtsPrint arm × ArmsPrint others
  ArmsPrint (missing others) = ArmsPrint others

  -- a loop's body
  pub BodyPrints : Body → Type 0
  BodyPrints (Nested stmts) = StmtsPrint stmts
  BodyPrints (Performed entry exit) = Unit {0}
