-- What is stated of the table of cells.
use Rattle.std.specs.Prelude.{ℕ, ◌<◌, List, map}
use Rattle.control_flow_theory.specs.language.Language.{Range}
use Rattle.meanings.specs.statements.Filing.{Declared}
use Rattle.cobol_theory.specs.added_items.Widened.{AddedItems}
use Rattle.control_flow_theory.specs.graph_rules.Reduced.{Graph, Graphs, size}
use Rattle.control_flow_theory.specs.graph_rules.Walked.{In}
use Rattle.control_flow_theory.specs.structuring.Closes.{closed_graph}
use Rattle.cobol_theory.specs.cell_serving.Entries.{AreEntries}
use Rattle.cobol_theory.specs.cell_serving.Tested.{kinds_of}
use Rattle.control_flow_theory.specs.main_theorem.Chain.{procedure_of, EachCellServed}
use Rattle.added_items.specs.item_table.Naming.{entries_for}
use Rattle.added_items.specs.item_table.Row.{CellRange}
use Rattle.added_items.specs.item_table.Tables.{most_arms, table_of_cells}

-- each cell that has an item has one of the entries, with room for its values, and each that
-- changes shares it with no other, whatever the words
abbrev pub CellsHaveEntries : Type 0
CellsHaveEntries =
    (words : List (List ℕ)) (ranges : List CellRange) →
    AreEntries (entries_for words ranges) (table_of_cells ranges)

-- the range of a graph of one node
abbrev pub cell_range : Range → Graph → CellRange
cell_range range graph =
    record { range = range; added = graph.added; body = (procedure_of range graph).body }

-- these ranges, with the cells of their closed graphs
abbrev pub closed_ranges : List Range → Graphs → List CellRange
closed_ranges order graphs = map (λ range. cell_range range (closed_graph (graphs range))) order

-- what the rules write of each cell may be written, where no graph has as many nodes as a state has
-- numbers
abbrev pub ClosedCellsAreServed : Type 0
ClosedCellsAreServed =
    (declared : Declared) (added : AddedItems) (order : List Range) (graphs : Graphs) →
    ((range : Range) → In range order → size (graphs range).nodes < most_arms) →
    EachCellServed (kinds_of declared added (table_of_cells (closed_ranges order graphs))) order
    graphs
