-- Cells may be numbered anew: each range's by a numbering of its own, under which no two cells are
-- one.
use Rattle.std.specs.Prelude.{ℕ, ◌≡◌, List, [], ◌∷◌}
use Rattle.control_flow_theory.specs.runs.Machine.{meaning}
use Rattle.control_flow_theory.specs.language.Language.{Act, Own, Set, Take, Lower, Test, Holds, Not, Is, Above, Picker, If, By, ByCell, Control, Times, Until, Varying, Stmt, Choose, Loop, Perform, Go, GoDepending, NextSentence, ExitParagraph, ExitSection, ExitPerform, StopRun, Stmts, none, also, Arms, done, given, missing, Body, Nested, Performed, Range}
use Rattle.control_flow_theory.specs.language.Language as language
use Rattle.control_flow_theory.specs.semantics.Doing.{Acting, Celled}
use Rattle.control_flow_theory.specs.language.Items.{Turning, Counted, Tests, Steps, StepsAfter, Item, Do, SentenceEnd, Turn}
use Rattle.control_flow_theory.specs.semantics.Graph.{Tree, tree, End, Pick, Jump, Return, Stop, Dead, Trees, no_more, more, Family}
use Rattle.control_flow_theory.specs.semantics.Walk.{walk_machine}

module _ (number : ℕ → ℕ) where
  -- an act with its cells numbered anew
  abbrev pub act_anew : Act → Act
  act_anew (Own simple) = Own simple
  act_anew (Set cell value) = Set (number cell) value
  act_anew (Take cell amount) = Take (number cell) amount
  act_anew (Lower cell) = Lower (number cell)

  -- a test with its cells numbered anew
  abbrev pub test_anew : Test → Test
  test_anew (Holds cond) = Holds cond
  test_anew (Not test) = Not (test_anew test)
  test_anew (Is cell value) = Is (number cell) value
  test_anew (Above cell) = Above (number cell)

  -- what chooses, with its cells numbered anew
  abbrev pub picker_anew : Picker → Picker
  picker_anew (If test) = If (test_anew test)
  picker_anew (By chooser) = By chooser
  picker_anew (ByCell cell) = ByCell (number cell)

  -- a loop's control with its cells numbered anew
  abbrev pub control_anew : Control → Control
  control_anew (Times amount) = Times amount
  control_anew (Until after test) = Until after (test_anew test)
  control_anew (Varying after set step test) =
      Varying after (act_anew set) (act_anew step) (test_anew test)

  abbrev mutual
    -- a statement with its cells numbered anew
    pub stmt_anew : Stmt → Stmt
    stmt_anew (language.Do act) = language.Do (act_anew act)
    stmt_anew (Choose picker arms) = Choose (picker_anew picker) (arms_anew arms)
    stmt_anew (Loop control body) = Loop (control_anew control) (body_anew body)
    stmt_anew (Perform entry exit) = Perform entry exit
    stmt_anew (Go to) = Go to
    stmt_anew (GoDepending to on) = GoDepending to on
    stmt_anew NextSentence = NextSentence
    stmt_anew ExitParagraph = ExitParagraph
    stmt_anew (ExitSection last) = ExitSection last
    stmt_anew (ExitPerform cycle) = ExitPerform cycle
    stmt_anew StopRun = StopRun

    -- statements with their cells numbered anew
    pub stmts_anew : Stmts → Stmts
    stmts_anew none = none
    stmts_anew (also stmt stmts) = also (stmt_anew stmt) (stmts_anew stmts)

    -- arms with their cells numbered anew
    pub arms_anew : Arms → Arms
    arms_anew done = done
    arms_anew (given arm others) = given (stmts_anew arm) (arms_anew others)
    arms_anew (missing others) = missing (arms_anew others)

    -- a loop's body with its cells numbered anew
    pub body_anew : Body → Body
    body_anew (Nested stmts) = Nested (stmts_anew stmts)
    body_anew (Performed entry exit) = Performed entry exit

  -- a loop's remaining turns with their cells numbered anew
  abbrev pub turning_anew : Turning → Turning
  turning_anew (Counted turns) = Counted turns
  turning_anew (Tests test) = Tests (test_anew test)
  turning_anew (Steps reached step test) = Steps reached (act_anew step) (test_anew test)
  turning_anew (StepsAfter step test) = StepsAfter (act_anew step) (test_anew test)

  -- an item of a rest with its cells numbered anew
  abbrev pub item_anew : Item → Item
  item_anew (Do stmt) = Do (stmt_anew stmt)
  item_anew SentenceEnd = SentenceEnd
  item_anew (Turn turning body) = Turn (turning_anew turning) (body_anew body)

  -- the items of a rest with their cells numbered anew
  abbrev pub items_anew : List Item → List Item
  items_anew [] = []
  items_anew (item ∷ items) = item_anew item ∷ items_anew items

  abbrev mutual
    -- the end of a tree with its cells numbered anew
    pub end_anew : End → End
    end_anew (Pick picker arms) = Pick (picker_anew picker) (trees_anew arms)
    end_anew (Jump to) = Jump to
    end_anew Return = Return
    end_anew Stop = Stop
    end_anew Dead = Dead

    -- trees with their cells numbered anew
    pub trees_anew : Trees → Trees
    trees_anew no_more = no_more
    trees_anew (more (tree body end) others) =
        more (tree (stmts_anew body) (end_anew end)) (trees_anew others)

  -- a tree with its cells numbered anew
  abbrev pub tree_anew : Tree → Tree
  tree_anew (tree body end) = tree (stmts_anew body) (end_anew end)

-- each range's cells numbered anew
abbrev pub numbered_anew : (Range → ℕ → ℕ) → Family → Family
numbered_anew numbers family =
    record {
      entry = family.entry;
      node = λ range label. tree_anew (numbers range) (family.node range label);
    }

-- the cells as they were numbered before
abbrev pub as_before : {Memory : Type 0} → (Range → ℕ → ℕ) → Celled Memory → Celled Memory
as_before numbers celled =
    record { own = celled.own; cells = λ range cell. celled.cells range (numbers range cell) }

-- how cells are numbered makes no difference to a walk
abbrev pub NumberingMakesNoDifference : Type 0 → Type 0 → Type 0
NumberingMakesNoDifference Memory Left =
    (acting : Acting Memory) (left : Memory → Left) (family : Family) (numbers : Range → ℕ → ℕ) →
    ((range : Range) (one other : ℕ) → numbers range one ≡ numbers range other → one ≡ other) →
    (range : Range) (memory : Celled Memory) (n : ℕ) →
    meaning (walk_machine acting left (numbered_anew numbers family) range) memory n
    ≡ meaning (walk_machine acting left family range) (as_before numbers memory) n
