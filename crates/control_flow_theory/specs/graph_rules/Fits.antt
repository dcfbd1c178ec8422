-- What the statements of a range may name: the ranges that they perform, and the cells that they
-- read and write. No jump is among them.
use Rattle.std.specs.Prelude.{ℕ, List, [], ◌∷◌}
use Rattle.control_flow_theory.specs.language.Language.{Act, Own, Set, Take, Lower, Test, Holds, Not, Is, Above, Picker, If, By, ByCell, Control, Times, Until, Varying, Stmt, Choose, Loop, Perform, Go, GoDepending, NextSentence, ExitParagraph, ExitSection, ExitPerform, StopRun, Stmts, none, also, Arms, done, given, missing, Body, Nested, Performed, Range, Part}
use Rattle.control_flow_theory.specs.language.Language as language
use Rattle.control_flow_theory.specs.language.Items.{Turning, Counted, Tests, Steps, StepsAfter, Item, Do, SentenceEnd, Turn}
use Rattle.control_flow_theory.specs.semantics.Items.{Way, On, Halts, Into, To, ToEnd}
use Rattle.control_flow_theory.specs.semantics.Graph.{Tree, tree, End, Pick, Jump, Return, Stop, Dead, Trees, no_more, more}

module _ (Calls : Range → Type 0) (Reads Writes : ℕ → Type 0) where
  -- the act reads and writes only such cells
  abbrev pub ActFits : Act → Type 0
  ActFits (Own simple) = Unit {0}
  ActFits (Set cell value) = Writes cell
  ActFits (Take cell amount) = Writes cell
  ActFits (Lower cell) = Reads cell × Writes cell

  -- the test reads only such cells
  abbrev pub TestFits : Test → Type 0
  TestFits (Holds cond) = Unit {0}
  TestFits (Not test) = TestFits test
  TestFits (Is cell value) = Reads cell
  TestFits (Above cell) = Reads cell

  -- what chooses reads only such cells
  abbrev pub PickerFits : Picker → Type 0
  PickerFits (If test) = TestFits test
  PickerFits (By chooser) = Unit {0}
  PickerFits (ByCell cell) = Reads cell

  -- the loop's control reads and writes only such cells
  abbrev pub ControlFits : Control → Type 0
  ControlFits (Times amount) = Unit {0}
  ControlFits (Until after test) = TestFits test
  ControlFits (Varying after set step test) = ActFits set × ActFits step × TestFits test

  abbrev mutual
    -- the statement isn't a jump and names only such ranges and cells
    pub StmtFits : Stmt → Type 0
    StmtFits (language.Do act) = ActFits act
    StmtFits (Choose picker arms) = PickerFits picker × ArmsFit arms
    StmtFits (Loop control body) = ControlFits control × BodyFits body
    StmtFits (Perform entry exit) = Calls (Part entry exit)
    StmtFits (Go to) = ⊥
    StmtFits (GoDepending to chooser) = ⊥
    StmtFits NextSentence = ⊥
    StmtFits ExitParagraph = ⊥
    StmtFits (ExitSection last) = ⊥
    StmtFits (ExitPerform cycle) = ⊥
    StmtFits StopRun = Unit {0}

    -- the statements name only such ranges and cells
    pub StmtsFit : Stmts → Type 0
    StmtsFit none = Unit {0}
    StmtsFit (also stmt stmts) = StmtFits stmt × StmtsFit stmts

    -- the arms name only such ranges and cells
    pub ArmsFit : Arms → Type 0
    ArmsFit done = Unit {0}
    ArmsFit (given arm others) = StmtsFit arm × ArmsFit others
    ArmsFit (missing others) = ArmsFit others

    -- the loop's body names only such ranges and cells
    pub BodyFits : Body → Type 0
    BodyFits (Nested stmts) = StmtsFit stmts
    BodyFits (Performed entry exit) = Calls (Part entry exit)

  -- a loop's remaining turns name only such cells
  abbrev pub TurningFits : Turning → Type 0
  TurningFits (Counted turns) = Unit {0}
  TurningFits (Tests test) = TestFits test
  TurningFits (Steps reached step test) = ActFits step × TestFits test
  TurningFits (StepsAfter step test) = ActFits step × TestFits test

  -- the item of a rest names only such ranges and cells, and is no end of a sentence
  abbrev pub ItemFits : Item → Type 0
  ItemFits (Do stmt) = StmtFits stmt
  ItemFits SentenceEnd = ⊥
  ItemFits (Turn turning body) = TurningFits turning × BodyFits body

  -- the items of a rest name only such ranges and cells
  abbrev pub ItemsFit : List Item → Type 0
  ItemsFit [] = Unit {0}
  ItemsFit (item ∷ items) = ItemFits item × ItemsFit items

  abbrev mutual
    -- the tree names only such ranges and cells
    pub TreeFits : Tree → Type 0
    TreeFits (tree body end) = StmtsFit body × EndFits end

    -- the end of a tree names only such ranges and cells
    pub EndFits : End → Type 0
    EndFits (Pick picker arms) = PickerFits picker × TreesFit arms
    EndFits (Jump to) = Unit {0}
    EndFits Return = Unit {0}
    EndFits Stop = Unit {0}
    EndFits Dead = Unit {0}

    -- the trees name only such ranges and cells
    pub TreesFit : Trees → Type 0
    TreesFit no_more = Unit {0}
    TreesFit (more first others) = TreeFits first × TreesFit others

  -- what such a statement comes to goes on with such statements, and is no jump
  abbrev pub WayFits : {Memory : Type 0} → Way Memory → Type 0
  WayFits (On trace memory items) = ItemsFit items
  WayFits (Halts trace how memory) = Unit {0}
  WayFits (Into entry exit items) = Calls (Part entry exit) × ItemsFit items
  WayFits (To trace memory paragraph) = ⊥
  WayFits (ToEnd trace memory paragraph) = ⊥
