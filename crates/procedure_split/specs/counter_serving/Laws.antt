-- What is stated of the counters of graphs.
use Rattle.std.specs.Prelude.{ℕ, ◌≡◌, List, Some}
use Rattle.control_flow_theory.specs.language.Language.{Range}
use Rattle.meanings.specs.statements.Filing.{Declared}
use Rattle.cobol_theory.specs.added_items.Widened.{AddedItems}
use Rattle.control_flow_theory.specs.graph_rules.Families.{Added}
use Rattle.control_flow_theory.specs.graph_rules.Reduced.{Graph, Graphs, kind_at}
use Rattle.control_flow_theory.specs.structuring.Closes.{closed_graph}
use Rattle.cobol_theory.specs.cell_serving.Tested.{kinds_of}
use Rattle.control_flow_theory.specs.expressible_graphs.Laws.{CountersAreServed}
use Rattle.added_items.specs.item_table.Laws.{closed_ranges}
use Rattle.added_items.specs.item_table.Tables.{table_of_cells}

-- a cell of a graph is a cell of the closed graph, of the same kind
abbrev pub ClosedGraphsKeepCells : Type 0
ClosedGraphsKeepCells =
    (graph : Graph) (cell : ℕ) (kind : Added) →
    kind_at graph.added cell ≡ Some kind → kind_at (closed_graph graph).added cell ≡ Some kind

-- the counters of graphs may be written, with the table of the cells of the closed graphs
abbrev pub ClosedCountersAreServed : Type 0
ClosedCountersAreServed =
    (declared : Declared) (added : AddedItems) (order : List Range) (graphs : Graphs) →
    CountersAreServed (kinds_of declared added (table_of_cells (closed_ranges order graphs))) order
    graphs
