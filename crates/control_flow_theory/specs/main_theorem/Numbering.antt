-- A numbering of the counters of a range's kept loops, under which no two numbers are one.
use Rattle.std.specs.Prelude.{ℕ, suc, ◌+◌, Bool, if◌then◌else◌, ◌==◌, List, [], ◌∷◌, ◌++◌}
use Rattle.control_flow_theory.specs.language.Language.{Control, Times, Until, Varying, Stmt, Do, Choose, Loop, Perform, Go, GoDepending, NextSentence, ExitParagraph, ExitSection, ExitPerform, StopRun, Stmts, none, also, Arms, done, given, missing, Body, Nested, Performed, Paragraph, Program, Range}
use Rattle.control_flow_theory.specs.semantics.Graph.{Label}
use Rattle.control_flow_theory.specs.lowering.FlowFacts.{FlowFacts, IsSource}
use Rattle.control_flow_theory.specs.lowering.Completes.{size, sizes}
use Rattle.control_flow_theory.specs.lowering.Lower as lower
use Rattle.control_flow_theory.specs.lowering.Lowered.{total}
use Rattle.control_flow_theory.specs.lowering.Laws.{KeepsApart}
use Rattle.control_flow_theory.specs.lowering.WellFormed.{AreJustReached}
use Rattle.control_flow_theory.specs.graph_rules.Families.{Added, Count}
use Rattle.control_flow_theory.specs.main_theorem.Chain.{NamesItsCells, lowered_graphs}

-- the place of the cell in the list, from 0; a cell that isn't there comes after all of these
abbrev pub place_among : List ℕ → ℕ → ℕ
place_among [] cell = cell
place_among (first ∷ others) cell = if first == cell then 0 else suc (place_among others cell)

-- the places of the loops by TIMES whose heads are kept, in text order
module _ (keep : Label → Bool) where
  -- the place of a loop, where its control is TIMES and its head is kept
  abbrev pub control_counters : Control → ℕ → List ℕ
  control_counters (Times amount) place =
      if keep (lower.loop_head_label place) then place ∷ [] else []
  control_counters (Until after test) place = []
  control_counters (Varying after set step test) place = []

  abbrev mutual
    -- the places of such loops in a statement at this place
    pub stmt_counters : Stmt → ℕ → List ℕ
    stmt_counters (Do act) place = []
    stmt_counters (Choose picker arms) place = arms_counters arms (place + 1)
    stmt_counters (Loop control body) place = body_counters body control place
    stmt_counters (Perform entry exit) place = []
    stmt_counters (Go to) place = []
    stmt_counters (GoDepending to chooser) place = []
    stmt_counters NextSentence place = []
    stmt_counters ExitParagraph place = []
    stmt_counters (ExitSection last) place = []
    stmt_counters (ExitPerform cycle) place = []
    stmt_counters StopRun place = []

    -- the places of such loops in statements from this place on
    pub stmts_counters : Stmts → ℕ → List ℕ
    stmts_counters none place = []
    stmts_counters (also stmt stmts) place =
        stmt_counters stmt place ++ stmts_counters stmts (place + size stmt)

    -- the places of such loops in arms from this place on
    pub arms_counters : Arms → ℕ → List ℕ
    arms_counters done place = []
    arms_counters (given arm others) place =
        stmts_counters arm place ++ arms_counters others (place + sizes arm)
    arms_counters (missing others) place = arms_counters others place

    -- the place of a loop over statements, and those of such loops in its body
    pub body_counters : Body → Control → ℕ → List ℕ
    body_counters (Nested stmts) control place =
        control_counters control place ++ stmts_counters stmts (place + 1)
    body_counters (Performed entry exit) control place = []

  -- the places of such loops in a paragraph whose sentences begin at this place
  abbrev pub paragraph_counters : Paragraph → ℕ → List ℕ
  paragraph_counters [] place = []
  paragraph_counters (sentence ∷ sentences) place =
      stmts_counters sentence place ++ paragraph_counters sentences (place + sizes sentence)

  -- the places of such loops in paragraphs from this place on
  abbrev pub paragraphs_counters : List Paragraph → ℕ → List ℕ
  paragraphs_counters [] place = []
  paragraphs_counters (paragraph ∷ others) place =
      paragraph_counters paragraph (place + 1) ++ paragraphs_counters others
      (place + 1 + total paragraph)

-- the places of such loops in a program
abbrev pub counters_of : (Label → Bool) → Program → List ℕ
counters_of keep program = paragraphs_counters keep program.paragraphs 0

-- the kinds of these cells: each is a count
abbrev pub counts : List ℕ → List Added
counts [] = []
counts (place ∷ places) = Count ∷ counts places

-- the number of the counter of each loop: its place among those of its range that are kept
abbrev pub numbers_by : (Range → Label → Bool) → Program → Range → ℕ → ℕ
numbers_by keep program range = place_among (counters_of (keep range) program)

-- the added cells of each range: a count for each kept loop by TIMES over statements
abbrev pub added_by : (Range → Label → Bool) → Program → Range → List Added
added_by keep program range = counts (counters_of (keep range) program)

-- numbered so, no two counters of a range have one number, and each kept node names only cells of
-- its range
abbrev pub CountersCanBeNumbered : Type 0
CountersCanBeNumbered =
    (told : FlowFacts) (program : Program) (keep : Range → Label → Bool) → IsSource told program →
    KeepsApart (numbers_by keep program)
    × ((range : Range) → AreJustReached told program range (keep range) →
    NamesItsCells
    (lowered_graphs told program keep (numbers_by keep program) (added_by keep program)) range)
