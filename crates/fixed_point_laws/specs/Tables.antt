-- The table of cells tells how many arms their choices have.
use Rattle.std.specs.Prelude.{ℕ, suc, ◌≡◌, ◌≤◌, ◌<◌, List, Some}
use Rattle.control_flow_theory.specs.language.Language.{Range}
use Rattle.control_flow_theory.specs.semantics.Graph.{body_of}
use Rattle.control_flow_theory.specs.graph_rules.Families.{Added}
use Rattle.control_flow_theory.specs.graph_rules.Reduced.{Graphs, kind_at, size, tree_in}
use Rattle.control_flow_theory.specs.graph_rules.Walked.{In}
use Rattle.control_flow_theory.specs.structuring.Closes.{closed_graph}
use Rattle.control_flow_theory.specs.main_theorem.Chain.{stmts_arms}
use Rattle.added_items.specs.item_table.Laws.{closed_ranges}
use Rattle.added_items.specs.item_table.Tables.{most_arms, table_of_cells}
use Rattle.fixed_point_laws.specs.Counting.{IsChosenBy}

-- the table of cells tells how many arms the first choice by each cell has, where no graph has as
-- many nodes as a state has numbers
abbrev pub TablesTellArms : Type 0
TablesTellArms =
    (order : List Range) (graphs : Graphs) →
    ((range : Range) → In range order → size (graphs range).nodes < most_arms) →
    (range : Range) → In range order → (cell : ℕ) (kind : Added) →
    kind_at (closed_graph (graphs range)).added cell ≡ Some kind → IsChosenBy kind → (arms : ℕ) →
    stmts_arms cell (body_of (tree_in (closed_graph (graphs range)).nodes
    (closed_graph (graphs range)).entry)) ≡ Some arms →
    arms ≤ suc (size (graphs range).nodes) →
    (table_of_cells (closed_ranges order graphs)).most range cell ≡ arms
