-- What writing asks, range after range.
use Rattle.std.proofs.Common.{◌≡◌, ℕ, ◌+◌, List, [], ◌∷◌, ◌++◌, length, map, take, Option, Some, ap, sym, ◌∙◌, subst, inl, inr}
use Rattle.std.specs.Prelude.{slice_get}
use Rattle.control_flow_theory.proofs.rendering_lemmas.Written.{map-get}
use Rattle.control_flow_theory.specs.main_theorem.Chain.{stmts_arms}
use Rattle.branch_tree.specs.Graph.{seen_added}
use Rattle.branch_tree.specs.Tree.{seen_body}
use Rattle.added_items.specs.mentions.CellUse.{cell_uses, first_arms}
use Rattle.added_items.specs.declared.mentions.cell_use.CellUse.{CellUse}
use Rattle.control_flow_theory.specs.graph_rules.Families.{Added}
use Rattle.added_items.specs.item_table.CellItem.{IsAsked, AreAsked}
use Rattle.added_items.specs.item_table.Owners.{kind_in}
use Rattle.added_items.specs.item_table.Row.{CellRange, kinds_of_row}
use Rattle.added_items.specs.item_table.Seen.{seen_cells, seen_ranges}
use Rattle.added_items.specs.item_table.Tables.{ends_in_other, most_by}
use Rattle.statement_builders.specs.declared.item_words.cells.CellItem.{CellItem}
use Rattle.added_items.specs.declared.item_table.row.ShapedRange.{ShapedRange}
use Rattle.added_items.proofs.item_table_lemmas.Chosen.{choices-agree}
use Rattle.added_items.proofs.item_table_lemmas.HoldingLemmas.{get-push}

abbrev pub EachAsked : (ℕ → ℕ) → ℕ → List ShapedRange → List (List CellItem) → Type 0
EachAsked number first ranges lists =
    (at : ℕ) (one : CellRange) (items : List CellItem) → slice_get (seen_ranges ranges) at ≡ Some one → slice_get lists at ≡ Some items →
    AreAsked number first (length (kinds_of_row (take at (seen_ranges ranges)))) one.added (λ cell. stmts_arms cell one.body) items

some-same : {X : Type 0} (x y : X) → Some x ≡ Some y → x ≡ y
some-same x y e = cc

pub item-asked : (number : ℕ) (arms others : Option ℕ) (kind other : Added) (found : CellItem) → arms ≡ others → kind ≡ other →
    IsAsked number (most_by arms kind) (ends_in_other kind) found → IsAsked number (most_by others other) (ends_in_other other) found
item-asked number arms others kind other found same also is =
    subst (λ k. IsAsked number (most_by others k) (ends_in_other k) found) also
    (subst (λ n. IsAsked number (most_by n kind) (ends_in_other kind) found) same is)

-- by other words for how many arms first choices have
by-arms : (number : ℕ → ℕ) (first before : ℕ) (added : List Added) (arms others : ℕ → Option ℕ) (items : List CellItem) →
    ((cell : ℕ) → arms cell ≡ others cell) → AreAsked number first before added arms items → AreAsked number first before added others items
by-arms number first before added arms others items same are = record {
  count = are.count;
  each = λ cell found is.
      subst (λ n. IsAsked (first + number (before + cell)) (most_by n (kind_in added cell)) (ends_in_other (kind_in added cell)) found)
      (same cell) (are.each cell found is);
}

pub all-more : (number : ℕ → ℕ) (first : ℕ) (ranges : List ShapedRange) (lists : List (List CellItem)) (made : List CellItem) (at : ℕ)
    (one : ShapedRange) (told : List CellUse) → slice_get ranges at ≡ Some one → told ≡ cell_uses (seen_body one.body.now.items) →
    length lists ≡ at → EachAsked number first ranges lists →
    AreAsked number first (length (kinds_of_row (take at (seen_ranges ranges)))) (map seen_added one.added.now) (λ cell. first_arms cell told) made →
    EachAsked number first ranges (lists ++ made ∷ [])
all-more number first ranges lists made at one told is tells size each last = λ k other items stands got.
    elim (get-push lists made k items got) [
      | inl there ↦ each k other items stands there
      | inr end ↦
          let here : k ≡ at = end.0 ∙ size in
          let found : slice_get (seen_ranges ranges) at ≡ Some (seen_cells one) = map-get seen_cells ranges at one is in
          let same : seen_cells one ≡ other =
          some-same (seen_cells one) other (sym found ∙ ap (slice_get (seen_ranges ranges)) (sym here) ∙ stands) in
          let mine : AreAsked number first (length (kinds_of_row (take at (seen_ranges ranges)))) (seen_cells one).added (λ cell. stmts_arms cell (seen_cells one).body) made =
          by-arms number first _ _ (λ cell. first_arms cell told) (λ cell. stmts_arms cell (seen_body one.body.now.items)) made
          (λ cell. ap (first_arms cell) tells ∙ choices-agree cell (seen_body one.body.now.items)) last in
          subst (λ (r : CellRange). AreAsked number first (length (kinds_of_row (take k (seen_ranges ranges)))) r.added (λ cell. stmts_arms cell r.body) items) same
          (subst (λ n. AreAsked number first (length (kinds_of_row (take n (seen_ranges ranges)))) (seen_cells one).added (λ cell. stmts_arms cell (seen_cells one).body) items) (sym here)
          (subst (AreAsked number first (length (kinds_of_row (take at (seen_ranges ranges)))) (seen_cells one).added (λ cell. stmts_arms cell (seen_cells one).body)) end.1 mine))
    ]
