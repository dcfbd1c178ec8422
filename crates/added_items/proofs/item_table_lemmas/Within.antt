-- The places that are named are within the row.
use Rattle.std.proofs.Common.{◌≡◌, ℕ, zero, suc, ◌+◌, ◌<◌, ◌≤◌, nat_lt, true, false, if◌then◌else◌, List, [], ◌∷◌, ◌++◌, length, refl, sym, ap, ◌∙◌, subst, arith, ltb-true}
use Rattle.std.proofs.lemmas.List.{length-append}
use Rattle.added_items.specs.mentions.CellUse.{cells_named}
use Rattle.added_items.specs.item_table.Assignment.{AreWithin}
use Rattle.added_items.specs.item_table.Owners.{counted_on}
use Rattle.added_items.specs.item_table.Row.{CellRange, kinds_of_row, in_row, named_behind}

within-both : (count : ℕ) (one other : List ℕ) → AreWithin count one → AreWithin count other → AreWithin count (one ++ other)
within-both count [] other are also = also
within-both count (place ∷ one) other are also = (are.0, within-both count one other are.1 also)

within-row : (total before count : ℕ) (cells : List ℕ) → before + count ≤ total → AreWithin total (in_row before count cells)
within-row total before count [] few = tt
within-row total before count (cell ∷ cells) few =
    elim (nat_lt cell count) as (λ b. nat_lt cell count ≡ b → AreWithin total (if b then (before + cell) ∷ in_row before count cells else in_row before count cells)) [
      | true ↦ λ e. let less : cell < count = ltb-true cell count e in (omega (arith, less, few), within-row total before count cells few)
      | false ↦ λ e. within-row total before count cells few
    ] refl

within-named : (total before : ℕ) (ranges : List CellRange) → before + length (kinds_of_row ranges) ≤ total → AreWithin total (named_behind before ranges)
within-named total before [] few = tt
within-named total before (one ∷ others) few =
    let size = length-append one.added (kinds_of_row others) in
    within-both total (in_row before (length one.added) (cells_named one.body)) (named_behind (before + length one.added) others)
    (within-row total before (length one.added) (cells_named one.body) (omega (arith, size, few)))
    (within-named total (before + length one.added) others (omega (arith, size, few)))

within-counted : (total from count : ℕ) → from + count ≤ total → AreWithin total (counted_on from count)
within-counted total from zero few = tt
within-counted total from (suc count) few = (omega (arith, few), within-counted total (suc from) count (omega (arith, few)))

pub all-within : (ranges : List CellRange) → AreWithin (length (kinds_of_row ranges)) (named_behind 0 ranges ++ counted_on 0 (length (kinds_of_row ranges)))
all-within ranges =
    let total = length (kinds_of_row ranges) in
    within-both total (named_behind 0 ranges) (counted_on 0 total)
    (within-named total 0 ranges (omega arith)) (within-counted total 0 total (omega arith))

pub within-as : (ranges : List CellRange) (size count : ℕ) (places : List ℕ) → places ≡ named_behind 0 ranges ++ counted_on 0 count →
    count ≡ length (kinds_of_row ranges) → size ≡ length (kinds_of_row ranges) → AreWithin size places
within-as ranges size count places is all same =
    subst (λ n. AreWithin n places) (sym same)
    (subst (AreWithin (length (kinds_of_row ranges))) (sym (is ∙ ap (λ n. named_behind 0 ranges ++ counted_on 0 n) all)) (all-within ranges))
