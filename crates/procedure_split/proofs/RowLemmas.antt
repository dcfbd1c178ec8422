-- Shaped ranges, one after the other.
use Rattle.std.proofs.Common.{◌≡◌, ℕ, zero, suc, ◌+◌, ◌≤◌, List, [], ◌∷◌, ◌++◌, length, drop, Some, refl, ap, ap₂, sym, ◌∙◌, add-one, arith}
use Rattle.std.specs.Prelude.{slice_get}
use Rattle.cob_tree.specs.declared.program.Range.{Range}
use Rattle.added_items.specs.item_table.Row.{CellRange}
use Rattle.added_items.specs.item_table.Seen.{seen_cells, seen_ranges}
use Rattle.added_items.specs.declared.item_table.row.ShapedRange.{ShapedRange}
use Rattle.procedure_split.specs.declared.shaped_ranges.shaping.Closed.{Closed}
use Rattle.procedure_split.specs.Rows.{row_of, rows_of}

pub rows-length : (order : List Range) (closed : List Closed) → length closed ≡ length order →
    length (rows_of order closed) ≡ length order
rows-length [] closed many = refl
rows-length (range ∷ order) [] many = absurd (omega (arith, many))
rows-length (range ∷ order) (one ∷ closed) many =
    let fewer : length closed ≡ length order = omega (arith, many) in
    ap suc (rows-length order closed fewer)

rows-next : (order : List Range) (closed : List Closed) (at : ℕ) (range : Range) (one : Closed) →
    slice_get order at ≡ Some range → slice_get closed at ≡ Some one →
    rows_of (drop at order) (drop at closed)
    ≡ row_of range one ∷ rows_of (drop (suc at) order) (drop (suc at) closed)
rows-next [] closed at range one is also = cc
rows-next (first ∷ order) [] at range one is also = cc
rows-next (first ∷ order) (other ∷ closed) zero range one is also =
    let same : first ≡ range = cc in
    let equal : other ≡ one = cc in
    ap₂ (λ r c. row_of r c ∷ rows_of order closed) same equal
rows-next (first ∷ order) (other ∷ closed) (suc at) range one is also =
    rows-next order closed at range one is also

seen-push : (rows : List ShapedRange) (row : ShapedRange) (left : List CellRange) →
    seen_ranges (rows ++ row ∷ []) ++ left ≡ seen_ranges rows ++ seen_cells row ∷ left
seen-push [] row left = refl
seen-push (first ∷ rows) row left =
    ap (λ rs. seen_cells first ∷ rs) (seen-push rows row left)

pub rows-more : (order : List Range) (closed : List Closed) (at : ℕ) (range : Range)
    (one : Closed) (rows new : List ShapedRange) (row : ShapedRange) →
    slice_get order at ≡ Some range → slice_get closed at ≡ Some one →
    seen_cells row ≡ row_of range one → new ≡ rows ++ row ∷ [] →
    seen_ranges rows ++ rows_of (drop at order) (drop at closed) ≡ rows_of order closed →
    seen_ranges new ++ rows_of (drop (at + 1) order) (drop (at + 1) closed) ≡ rows_of order closed
rows-more order closed at range one rows new row is also seen pushed so =
    let left = rows_of (drop (suc at) order) (drop (suc at) closed) in
    ap (λ n. seen_ranges new ++ rows_of (drop n order) (drop n closed)) (add-one at)
    ∙ ap (λ rs. seen_ranges rs ++ left) pushed ∙ seen-push rows row left
    ∙ ap (λ r. seen_ranges rows ++ r ∷ left) seen
    ∙ ap (λ rs. seen_ranges rows ++ rs) (sym (rows-next order closed at range one is also)) ∙ so

none-left : (order : List Range) (closed : List Closed) (at : ℕ) → length order ≤ at →
    rows_of (drop at order) closed ≡ []
none-left [] closed zero past = refl
none-left [] closed (suc at) past = refl
none-left (range ∷ order) closed zero past = absurd (omega (arith, past))
none-left (range ∷ order) closed (suc at) past =
    none-left order closed at (let e : length order ≤ at = omega (arith, past) in e)

append-none : (rows : List CellRange) → rows ++ [] ≡ rows
append-none [] = refl
append-none (row ∷ rows) = ap (λ rs. row ∷ rs) (append-none rows)

pub rows-all : (order : List Range) (closed : List Closed) (at : ℕ) (rows : List ShapedRange) →
    length order ≤ at →
    seen_ranges rows ++ rows_of (drop at order) (drop at closed) ≡ rows_of order closed →
    seen_ranges rows ≡ rows_of order closed
rows-all order closed at rows past so =
    sym (append-none (seen_ranges rows))
    ∙ ap (λ rs. seen_ranges rows ++ rs) (sym (none-left order (drop at closed) at past)) ∙ so
