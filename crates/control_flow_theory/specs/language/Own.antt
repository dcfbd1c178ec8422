-- There is no word on an added item in it, as in each source program.
use Rattle.std.specs.Prelude.{List, [], ◌∷◌}
use Rattle.control_flow_theory.specs.language.Language.{Act, Own, Test, Holds, Not, Is, Above, Picker, If, By, ByCell, Control, Times, Until, Varying, Stmt, Do, Choose, Loop, Stmts, none, also, Arms, done, given, missing, Body, Nested, Performed, Paragraph}

-- the act is the program's own
abbrev pub OwnAct : Act → Type 0
OwnAct (Own simple) = Unit {0}
OwnAct _ = ⊥

-- the test is on no cell
abbrev pub OwnTest : Test → Type 0
OwnTest (Holds cond) = Unit {0}
OwnTest (Not test) = OwnTest test
OwnTest (Is cell value) = ⊥
OwnTest (Above cell) = ⊥

-- what chooses is no cell, and tests none
abbrev pub OwnPicker : Picker → Type 0
OwnPicker (If test) = OwnTest test
OwnPicker (By chooser) = Unit {0}
OwnPicker (ByCell cell) = ⊥

-- the loop's control has no word on a cell
abbrev pub OwnControl : Control → Type 0
OwnControl (Times amount) = Unit {0}
OwnControl (Until after test) = OwnTest test
OwnControl (Varying after set step test) = OwnAct set × OwnAct step × OwnTest test

abbrev mutual
  -- no word on a cell is in the statement
  pub OwnStmt : Stmt → Type 0
  OwnStmt (Do act) = OwnAct act
  OwnStmt (Choose picker arms) = OwnPicker picker × OwnArms arms
  OwnStmt (Loop control body) = OwnControl control × OwnBody body
  OwnStmt _ = Unit {0}

  -- no word on a cell is in the statements
  pub OwnStmts : Stmts → Type 0
  OwnStmts none = Unit {0}
  OwnStmts (also stmt stmts) = OwnStmt stmt × OwnStmts stmts

  -- no word on a cell is in the arms
  pub OwnArms : Arms → Type 0
  OwnArms done = Unit {0}
  OwnArms (given arm others) = OwnStmts arm × OwnArms others
  OwnArms (missing others) = OwnArms others

  -- no word on a cell is in the body
  pub OwnBody : Body → Type 0
  OwnBody (Nested stmts) = OwnStmts stmts
  OwnBody (Performed entry exit) = Unit {0}

-- no word on a cell is in a paragraph
abbrev pub OwnParagraph : Paragraph → Type 0
OwnParagraph [] = Unit {0}
OwnParagraph (sentence ∷ sentences) = OwnStmts sentence × OwnParagraph sentences

-- no word on a cell is in the paragraphs
abbrev pub OwnParagraphs : List Paragraph → Type 0
OwnParagraphs [] = Unit {0}
OwnParagraphs (paragraph ∷ paragraphs) = OwnParagraph paragraph × OwnParagraphs paragraphs
