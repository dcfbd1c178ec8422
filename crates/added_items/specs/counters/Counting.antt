-- The counters of a graph's loops by TIMES, and the graph in which they are numbered from 0.
use Rattle.std.specs.Prelude.{ℕ, ◌+◌, ◌≤◌, nat_le, if◌then◌else◌, ◌==◌, List, [], ◌∷◌, Option, Some, None}
use Rattle.control_flow_theory.specs.language.Language.{Test, Holds, Not, Is, Above, Picker, If, By, ByCell}
use Rattle.control_flow_theory.specs.semantics.Graph.{Label, End, Pick, Jump, Return, Stop, Dead, end_of}
use Rattle.control_flow_theory.specs.graph_rules.Reduced.{Node, Graph, each_tree}
use Rattle.control_flow_theory.specs.lowering.Lower.{loop_head_label}
use Rattle.control_flow_theory.specs.lowering.Renamed.{tree_anew}
use Rattle.control_flow_theory.specs.main_theorem.Numbering.{place_among, counts}

-- the cell that is asked for whether it is above zero

-- the cell of a test
abbrev pub tested_cell : Test → Option ℕ
tested_cell (Holds cond) = None
tested_cell (Not test) = None
tested_cell (Is cell value) = None
tested_cell (Above cell) = Some cell

-- the cell of a choice; one by the cell's value doesn't ask so
abbrev pub picked_cell : Picker → Option ℕ
picked_cell (If test) = tested_cell test
picked_cell (By chooser) = None
picked_cell (ByCell cell) = None

-- the cell of the choice at an end
abbrev pub ended_cell : End → Option ℕ
ended_cell (Pick picker arms) = picked_cell picker
ended_cell (Jump to) = None
ended_cell Return = None
ended_cell Stop = None
ended_cell Dead = None

-- the cell, where the label is the head of its loop
abbrev pub if_head : Label → Option ℕ → Option ℕ
if_head label None = None
if_head label (Some cell) = if label == loop_head_label cell then Some cell else None

-- the cell, where it isn't below this one
abbrev pub if_above : ℕ → Option ℕ → Option ℕ
if_above least None = None
if_above least (Some cell) = if nat_le least cell then Some cell else None

-- the counter of the loop whose head the node is
abbrev pub head_cell : Node → Option ℕ
head_cell node = if_head node.label (ended_cell (end_of node.tree))

-- the counter of the loop whose head the node is, where it isn't below this number
abbrev pub counter_at : ℕ → Node → Option ℕ
counter_at least node = if_above least (head_cell node)

-- the rising counters, from this one on, of the loops whose heads these nodes are
abbrev pub counters_from : ℕ → List Node → List ℕ
counters_from least [] = []
counters_from least (node ∷ nodes) = elim (counter_at least node) [
  | None ↦ counters_from least nodes
  | Some cell ↦ cell ∷ counters_from (cell + 1) nodes
]

-- the counters of the loops whose heads these nodes are
abbrev pub counters_in : List Node → List ℕ
counters_in nodes = counters_from 0 nodes

-- the cells rise, from this number on
abbrev pub Rises : ℕ → List ℕ → Type 0
Rises least [] = Unit {0}
Rises least (cell ∷ cells) = (least ≤ cell) × Rises (cell + 1) cells

-- each counter has the number of its place among them, and is an added item
abbrev pub numbered_graph : Graph → Graph
numbered_graph graph =
    let cells = counters_in graph.nodes in
    record {
      entry = graph.entry;
      nodes = each_tree (tree_anew (place_among cells)) graph.nodes;
      added = counts cells;
    }
