-- Which cells a lowered program names: the counters of its loops by TIMES, each by the number of
-- its place, and no other.
use Rattle.std.specs.Prelude.{ℕ, ◌+◌, ◌≡◌, Bool, true, List, [], ◌∷◌, Some}
use Rattle.control_flow_theory.specs.language.Language.{Control, Times, Until, Varying, Stmt, Do, Choose, Loop, Perform, Go, GoDepending, NextSentence, ExitParagraph, ExitSection, ExitPerform, StopRun, Stmts, none, also, Arms, done, given, missing, Body, Nested, Performed, Paragraph, Program, Range}
use Rattle.control_flow_theory.specs.semantics.Graph.{Label}
use Rattle.control_flow_theory.specs.lowering.FlowFacts.{FlowFacts, IsSource}
use Rattle.control_flow_theory.specs.lowering.Completes.{size, sizes}
use Rattle.control_flow_theory.specs.lowering.Lower as lower
use Rattle.control_flow_theory.specs.lowering.Lowered.{total, nodes_of}
use Rattle.control_flow_theory.specs.lowering.WellFormed.{AreJustReached}
use Rattle.control_flow_theory.specs.graph_rules.Families.{Added, Count}
use Rattle.control_flow_theory.specs.graph_rules.Reduced.{kind_at}
use Rattle.control_flow_theory.specs.main_theorem.Chain.{TreeNames, NamesItsCells, lowered_graphs}

-- It holds of the place of each loop by TIMES over statements.
module _ (Holds : ℕ → Type 0) where
  -- it holds of a loop's place, where its control is TIMES
  abbrev pub ControlCounts : Control → ℕ → Type 0
  ControlCounts (Times amount) place = Holds place
  ControlCounts (Until after test) place = Unit {0}
  ControlCounts (Varying after set step test) place = Unit {0}

  abbrev mutual
    -- it holds of each such loop in a statement at this place
    pub StmtCounts : Stmt → ℕ → Type 0
    StmtCounts (Do act) place = Unit {0}
    StmtCounts (Choose picker arms) place = ArmsCount arms (place + 1)
    StmtCounts (Loop control body) place = BodyCounts body control place
    StmtCounts (Perform entry exit) place = Unit {0}
    StmtCounts (Go to) place = Unit {0}
    StmtCounts (GoDepending to chooser) place = Unit {0}
    StmtCounts NextSentence place = Unit {0}
    StmtCounts ExitParagraph place = Unit {0}
    StmtCounts (ExitSection last) place = Unit {0}
    StmtCounts (ExitPerform cycle) place = Unit {0}
    StmtCounts StopRun place = Unit {0}

    -- it holds of each such loop in statements from this place on
    pub StmtsCount : Stmts → ℕ → Type 0
    StmtsCount none place = Unit {0}
    StmtsCount (also stmt stmts) place =
        StmtCounts stmt place × StmtsCount stmts (place + size stmt)

    -- it holds of each such loop in arms from this place on
    pub ArmsCount : Arms → ℕ → Type 0
    ArmsCount done place = Unit {0}
    ArmsCount (given arm others) place = StmtsCount arm place × ArmsCount others (place + sizes arm)
    ArmsCount (missing others) place = ArmsCount others place

    -- it holds of the loop at this place and of each such loop in its body; a loop over a range has
    -- no counter
    pub BodyCounts : Body → Control → ℕ → Type 0
    BodyCounts (Nested stmts) control place =
        ControlCounts control place × StmtsCount stmts (place + 1)
    BodyCounts (Performed entry exit) control place = Unit {0}

  -- it holds of each such loop in a paragraph whose sentences begin at this place
  abbrev pub ParagraphCounts : Paragraph → ℕ → Type 0
  ParagraphCounts [] place = Unit {0}
  ParagraphCounts (sentence ∷ sentences) place =
      StmtsCount sentence place × ParagraphCounts sentences (place + sizes sentence)

  -- it holds of each such loop in paragraphs from this place on
  abbrev pub ParagraphsCount : List Paragraph → ℕ → Type 0
  ParagraphsCount [] place = Unit {0}
  ParagraphsCount (paragraph ∷ others) place =
      ParagraphCounts paragraph (place + 1) × ParagraphsCount others (place + 1 + total paragraph)

  -- it holds of each such loop in a program
  abbrev pub ProgramCounts : Program → Type 0
  ProgramCounts program = ParagraphsCount program.paragraphs 0

-- the nodes name only such cells, and hold no choice by a cell
abbrev pub NodesName : (ℕ → Type 0) → List lower.Node → Type 0
NodesName Holds [] = Unit {0}
NodesName Holds (one ∷ others) = TreeNames Holds Holds one.tree × NodesName Holds others

-- a lowered node of a source names no cell but the counter of a loop by TIMES, by the number of its
-- place, and holds no choice by a cell
abbrev pub LoweredNodesNameCounters : Type 0
LoweredNodesNameCounters =
    (told : FlowFacts) (program : Program) (range : Range) (counters : ℕ → Bool) →
    IsSource told program → ProgramCounts (λ place. counters place ≡ true) program →
    NodesName (λ place. counters place ≡ true) (nodes_of told program range)

-- the counter of this place, where its loop's head is kept, has its number among the cells of the
-- range, as a count
abbrev pub IsCounted : (Label → Bool) → (ℕ → ℕ) → List Added → ℕ → Type 0
IsCounted keep number added place =
    keep (lower.loop_head_label place) ≡ true → kind_at added (number place) ≡ Some Count

-- where the counters of kept loops are numbered and listed, each kept node names only cells of its
-- range
abbrev pub NumberedCountersAreNamed : Type 0
NumberedCountersAreNamed =
    (told : FlowFacts) (program : Program) (keep : Range → Label → Bool) (numbers : Range → ℕ → ℕ)
    (added : Range → List Added) (range : Range) →
    IsSource told program → AreJustReached told program range (keep range) →
    ProgramCounts (IsCounted (keep range) (numbers range) (added range)) program →
    NamesItsCells (lowered_graphs told program keep numbers added) range
