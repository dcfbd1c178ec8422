-- The rows of shaped ranges are those of the closed graphs, and no range stands twice in them.
use Rattle.std.proofs.Common.{◌≡◌, ℕ, zero, suc, List, [], ◌∷◌, map, length, Some, slice_get, refl, ap, ap₂, sym, ◌∙◌}
use Rattle.std.specs.Prelude.{pred}
use Rattle.cob_tree.specs.declared.program.Range as code
use Rattle.control_flow_theory.specs.language.Language.{Range}
use Rattle.control_flow_theory.specs.semantics.Graph.{body_of}
use Rattle.control_flow_theory.specs.graph_rules.Families.{Added}
use Rattle.control_flow_theory.specs.graph_rules.Reduced as reduced
use Rattle.control_flow_theory.specs.graph_rules.Reduced.{Graphs, tree_in}
use Rattle.control_flow_theory.specs.graph_rules.Walked.{is_in}
use Rattle.control_flow_theory.specs.structuring.Closes.{closed_graph}
use Rattle.control_flow_theory.proofs.rendering_lemmas.Written.{or_else}
use Rattle.control_flow_theory.specs.language.Language.{Stmts}
use Rattle.lowering_labels.specs.points.FallThrough.{seen_range}
use Rattle.region_rewrite.specs.Shaping.{first_tree}
use Rattle.added_items.specs.item_table.CellItem.{StandOnce}
use Rattle.added_items.specs.item_table.Laws.{cell_range, closed_ranges}
use Rattle.added_items.specs.item_table.Row.{CellRange}
use Rattle.procedure_split.proofs.shaped_ranges_lemmas.Keeping.{AreApart}
use Rattle.procedure_split.specs.shaped_ranges.Shaping.{IsShapedTo}
use Rattle.procedure_split.specs.declared.shaped_ranges.shaping.Closed.{Closed}
use Rattle.procedure_split.specs.Rows.{row_of, rows_of}

-- what a graph is shaped to, where the node at its entry is the one that is left
pub row-is : (range : code.Range) (graph : reduced.Graph) (one : Closed) →
    tree_in (closed_graph graph).nodes (closed_graph graph).entry
    ≡ first_tree (closed_graph graph).nodes →
    IsShapedTo graph one → row_of range one ≡ cell_range (seen_range range) (closed_graph graph)
row-is range graph one first shaped =
    ap₂ (λ (added : List Added) (body : Stmts).
    (let row : CellRange = record { range = seen_range range; added = added; body = body } in row))
    (sym shaped.added) (ap body_of (sym shaped.tree ∙ sym first))

pub row-at : (order : List code.Range) (closed : List Closed) (at : ℕ) (range : code.Range)
    (one : Closed) → slice_get order at ≡ Some range → slice_get closed at ≡ Some one →
    slice_get (rows_of order closed) at ≡ Some (row_of range one)
row-at [] closed at range one here there = cc
row-at (first ∷ order) [] at range one here there = cc
row-at (first ∷ order) (other ∷ closed) zero range one here there =
    ap₂ (λ r c. Some (row_of r c)) (ap (or_else first) here) (ap (or_else other) there)
row-at (first ∷ order) (other ∷ closed) (suc at) range one here there =
    row-at order closed at range one here there

module _ (graphs : Graphs) where
  abbrev pub closed_row : Range → CellRange
  closed_row range = cell_range range (closed_graph (graphs range))

  pub all-rows : (order : List code.Range) (closed : List Closed) →
      length closed ≡ length order →
      ((at : ℕ) (range : code.Range) (one : Closed) → slice_get order at ≡ Some range →
      slice_get closed at ≡ Some one → row_of range one ≡ closed_row (seen_range range)) →
      rows_of order closed ≡ closed_ranges (map seen_range order) graphs
  all-rows [] closed many each = refl
  all-rows (range ∷ order) [] many each = cc
  all-rows (range ∷ order) (one ∷ closed) many each =
      ap₂ (λ first others. first ∷ others) (each 0 range one refl refl)
      (all-rows order closed (ap pred many)
      (λ at other shaped here there. each (suc at) other shaped here there))

  ranges-same : (ranges : List Range) →
      map (λ (one : CellRange). one.range) (closed_ranges ranges graphs) ≡ ranges
  ranges-same [] = refl
  ranges-same (range ∷ ranges) = ap (λ others. range ∷ others) (ranges-same ranges)

  pub stand-once : (ranges : List Range) → AreApart ranges →
      StandOnce (closed_ranges ranges graphs)
  stand-once [] apart = tt
  stand-once (range ∷ ranges) apart = (
    ap (λ others. is_in range others) (ranges-same ranges) ∙ apart.0,
    stand-once ranges apart.1,
  )
