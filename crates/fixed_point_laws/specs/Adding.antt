-- What restructuring a result adds: nothing.
use Rattle.std.specs.Prelude.{ℕ, ◌≡◌, List, [], ◌∷◌, Some, slice_get}
use Rattle.control_flow_theory.specs.language.Language.{Program, Range}
use Rattle.control_flow_theory.specs.semantics.Graph.{Tree, end_of}
use Rattle.control_flow_theory.specs.lowering.Lowered.{lowered}
use Rattle.control_flow_theory.specs.lowering.WellFormed.{AreJustReached}
use Rattle.control_flow_theory.specs.structuring.Laws.{PlainEnd}
use Rattle.control_flow_theory.specs.main_theorem.MainTheorem.{Plan, graphs_by}
use Rattle.added_items.specs.item_table.Owners.{item_kinds}
use Rattle.added_items.specs.item_table.Naming.{entries_for}
use Rattle.added_items.specs.item_table.Row.{CellRange}

-- a graph of one node that jumps nowhere has no counter
abbrev pub LoneNodesCountNothing : Type 0
LoneNodesCountNothing =
    (plan : Plan) (program : Program) (range : Range) →
    AreJustReached plan.told program range (plan.keep range) → (tree : Tree) →
    PlainEnd (end_of tree) →
    (graphs_by plan program range).nodes
    ≡ record { label = (lowered plan.told program).entry range; tree = tree } ∷ [] →
    (graphs_by plan program range).added ≡ []

-- ranges without cells have no items
abbrev pub RangesWithoutCellsAddNothing : Type 0
RangesWithoutCellsAddNothing =
    (words : List (List ℕ)) (rows : List CellRange) →
    ((number : ℕ) (row : CellRange) → slice_get rows number ≡ Some row → row.added ≡ []) →
    (item_kinds rows ≡ []) × (entries_for words rows ≡ [])
