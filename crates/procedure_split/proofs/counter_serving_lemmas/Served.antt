-- What the table of cells has of a counter.
use Rattle.std.proofs.Common.{◌≡◌, Bool, true, false, not, ◌&&◌, ◌==◌, if◌then◌else◌, List, [], ◌∷◌, Option, Some, refl, ap, ◌∙◌}
use Rattle.std.specs.Prelude.{is_some}
use Rattle.control_flow_theory.specs.language.Language.{Range, same_range}
use Rattle.control_flow_theory.proofs.semantics_lemmas.Ranges.{same-range}
use Rattle.control_flow_theory.specs.graph_rules.Families.{Added, Count}
use Rattle.control_flow_theory.specs.graph_rules.Reduced.{Graphs, kind_at}
use Rattle.control_flow_theory.specs.graph_rules.Walked.{is_in, In}
use Rattle.control_flow_theory.specs.structuring.Closes.{closed_graph}
use Rattle.added_items.specs.item_table.Owners.{is_never, or_never}
use Rattle.added_items.specs.item_table.Laws.{cell_range, closed_ranges}
use Rattle.added_items.specs.item_table.Naming.{digits_of, is_signed}
use Rattle.added_items.specs.item_table.Row.{of_range}
use Rattle.procedure_split.specs.counter_serving.Laws.{ClosedCountersAreServed}
use Rattle.procedure_split.proofs.counter_serving_lemmas.Kept.{closed-keeps}

-- the cells of a range of the order are those of its closed graph
cells-of : (order : List Range) (graphs : Graphs) (range : Range) → In range order →
    (of_range (closed_ranges order graphs) range).added ≡ (closed_graph (graphs range)).added
cells-of [] graphs range is = cc
cells-of (first ∷ others) graphs range is =
    elim (same_range first range) as (λ b. same_range first range ≡ b → (if b then true else is_in range others) ≡ true →
    (if b then cell_range first (closed_graph (graphs first)) else of_range (closed_ranges others graphs) range).added ≡ (closed_graph (graphs range)).added) [
      | true ↦ λ e h. ap (λ r. (closed_graph (graphs r)).added) (same-range first range e)
      | false ↦ λ e h. cells-of others graphs range h
    ] refl is

-- an item with a sign, of eighteen digits, that changes
abbrev counts-by : Option Added → Bool
counts-by kind =
    is_some kind && not (is_never (or_never kind)) && is_signed (or_never kind) && digits_of (or_never kind) == 18

pub counters-served : ClosedCountersAreServed
counters-served declared added order graphs range in_order cell is =
    let found : kind_at (of_range (closed_ranges order graphs) range).added cell ≡ Some Count =
    ap (λ cells. kind_at cells cell) (cells-of order graphs range in_order) ∙ closed-keeps (graphs range) cell Count is in
    (ap counts-by found, ap is_some found)
