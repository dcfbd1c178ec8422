-- Where statements name cells, in the order of their text as they are written.
use Rattle.std.specs.Prelude.{ℕ, Bool, if◌then◌else◌, ◌==◌, List, [], ◌∷◌, ◌++◌, map, Option, Some, None}
use Rattle.control_flow_theory.specs.language.Language.{Act, Own, Set, Take, Lower, Test, Holds, Not, Is, Above, Picker, If, By, ByCell, Control, Times, Until, Varying, Stmt, Do, Choose, Loop, Perform, Go, GoDepending, NextSentence, ExitParagraph, ExitSection, ExitPerform, StopRun, Stmts, none, also, Arms, done, given, missing, Body, Nested, Performed}
use Rattle.control_flow_theory.specs.rendering.Rendering.{count_arms}
use Rattle.added_items.specs.declared.mentions.cell_use.CellUse.{CellUse}

-- the cell is named, and doesn't choose
abbrev pub mention : ℕ → CellUse
mention cell = record { cell = cell; arms = None }

-- the cell is named, unless the statement is left out
abbrev pub mention_unless : Bool → ℕ → List CellUse
mention_unless silent cell = if silent then [] else mention cell ∷ []

-- the cell that an act names: in a MOVE, or in SUBTRACT 1
abbrev pub act_mentions : Act → List CellUse
act_mentions (Own simple) = []
act_mentions (Set cell value) = mention cell ∷ []
act_mentions (Take cell amount) = mention cell ∷ []
act_mentions (Lower cell) = mention cell ∷ []

-- the cell that a test names
abbrev pub test_mentions : Test → List CellUse
test_mentions (Holds cond) = []
test_mentions (Not test) = test_mentions test
test_mentions (Is cell value) = mention cell ∷ []
test_mentions (Above cell) = mention cell ∷ []

-- the cell that a choice among so many arms is by
abbrev pub picker_mentions : Picker → ℕ → List CellUse
picker_mentions (If test) arms = test_mentions test
picker_mentions (By chooser) arms = []
picker_mentions (ByCell cell) arms = record { cell = cell; arms = Some arms } ∷ []

-- the cells that the control of a loop names
abbrev pub control_mentions : Control → List CellUse
control_mentions (Times amount) = []
control_mentions (Until after test) = test_mentions test
control_mentions (Varying after set step test) =
    act_mentions set ++ act_mentions step ++ test_mentions test

abbrev mutual
  -- where a statement names cells: in what a choice is by, and then in its arms; in how a loop
  -- turns, and then in its body
  pub stmt_mentions : Stmt → List CellUse
  stmt_mentions (Do act) = act_mentions act
  stmt_mentions (Choose picker arms) =
      picker_mentions picker (count_arms arms) ++ arms_mentions arms
  stmt_mentions (Loop control body) = control_mentions control ++ body_mentions body
  stmt_mentions (Perform entry exit) = []
  stmt_mentions (Go to) = []
  stmt_mentions (GoDepending to chooser) = []
  stmt_mentions NextSentence = []
  stmt_mentions ExitParagraph = []
  stmt_mentions (ExitSection last) = []
  stmt_mentions (ExitPerform cycle) = []
  stmt_mentions StopRun = []

  -- where these statements name cells
  pub cell_uses : Stmts → List CellUse
  cell_uses none = []
  cell_uses (also stmt stmts) = stmt_mentions stmt ++ cell_uses stmts

  -- where these arms name cells
  pub arms_mentions : Arms → List CellUse
  arms_mentions done = []
  arms_mentions (given arm others) = cell_uses arm ++ arms_mentions others
  arms_mentions (missing others) = arms_mentions others

  -- where the body of a loop names cells
  pub body_mentions : Body → List CellUse
  body_mentions (Nested stmts) = cell_uses stmts
  body_mentions (Performed entry exit) = []

-- the cells that statements name
abbrev pub cells_named : Stmts → List ℕ
cells_named stmts = map (λ (mention : CellUse). mention.cell) (cell_uses stmts)

-- the first number, where there is one
abbrev pub arms_or : Option ℕ → Option ℕ → Option ℕ
arms_or later None = later
arms_or later (Some arms) = Some arms

-- how many arms the first choice by the cell has among these
abbrev pub first_arms : ℕ → List CellUse → Option ℕ
first_arms cell [] = None
first_arms cell (mention ∷ cell_uses) =
    if mention.cell == cell then arms_or (first_arms cell cell_uses) mention.arms
    else first_arms cell cell_uses
