-- Cells at their places in the row.
use Rattle.std.proofs.Common.{◌≡◌, ℕ, zero, suc, ◌+◌, ◌<◌, ◌≤◌, true, false, if◌then◌else◌, List, [], ◌∷◌, ◌++◌, length, map, take, get_or, Some, refl, ap, sym, ◌∙◌, arith}
use Rattle.std.specs.Prelude.{slice_get}
use Rattle.std.proofs.lemmas.List.{length-append, length-map}
use Rattle.branch_tree.specs.Tree.{seen_body}
use Rattle.added_items.specs.mentions.CellUse.{cell_uses}
use Rattle.added_items.specs.declared.mentions.cell_use.CellUse.{CellUse}
use Rattle.added_items.specs.item_table.Seen.{seen_ranges, cell_uses_of}
use Rattle.added_items.specs.declared.item_table.row.ShapedRange.{ShapedRange}
use Rattle.control_flow_theory.specs.language.Language.{Range, same_range}
use Rattle.control_flow_theory.proofs.semantics_lemmas.Ranges.{same-range}
use Rattle.control_flow_theory.specs.graph_rules.Families.{Added, Never, Flag, Count, State, Exit}
use Rattle.control_flow_theory.specs.graph_rules.Reduced.{kind_at}
use Rattle.control_flow_theory.proofs.graph_rules_lemmas.shapes.Reducing.{kind-before}
use Rattle.branch_tree.specs.Graph.{seen_added}
use Rattle.branch_tree.specs.declared.graph.Added as code
use Rattle.added_items.specs.item_table.Owners.{is_never, kind_in, first_constant_cell, owner_of}
use Rattle.added_items.specs.item_table.Row.{CellRange, of_range, cells_before, kinds_of_row}

-- ---- lists of kinds

kind-behind : (kinds more : List Added) (cell : ℕ) → kind_at (kinds ++ more) (length kinds + cell) ≡ kind_at more cell
kind-behind [] more cell = ap (kind_at more) (let e : 0 + cell ≡ cell = omega arith in e)
kind-behind (first ∷ kinds) more cell =
    ap (kind_at (first ∷ (kinds ++ more))) (let e : suc (length kinds) + cell ≡ suc (length kinds + cell) = omega arith in e)
    ∙ kind-behind kinds more cell

pub kind-within : (kinds : List Added) (cell : ℕ) (kind : Added) → kind_at kinds cell ≡ Some kind → cell < length kinds
kind-within [] cell kind is = cc
kind-within (first ∷ kinds) zero kind is = omega arith
kind-within (first ∷ kinds) (suc cell) kind is = let less = kind-within kinds cell kind is in omega arith

pub kind-there : (kinds : List Added) (cell : ℕ) → cell < length kinds → kind_at kinds cell ≡ Some (kind_in kinds cell)
kind-there [] cell within = absurd (omega (arith, within))
kind-there (first ∷ kinds) zero within = refl
kind-there (first ∷ kinds) (suc cell) within = kind-there kinds cell (omega (arith, within))

pub never-is : (kind : Added) → is_never kind ≡ true → kind ≡ Never
never-is Never is = refl
never-is Flag is = cc
never-is Count is = cc
never-is State is = cc
never-is Exit is = cc

-- at the first place of one that never changes, or past the last cell
pub first-never : (kinds : List Added) → kind_in kinds (first_constant_cell kinds) ≡ Never
first-never [] = refl
first-never (Never ∷ kinds) = refl
first-never (Flag ∷ kinds) = first-never kinds
first-never (Count ∷ kinds) = first-never kinds
first-never (State ∷ kinds) = first-never kinds
first-never (Exit ∷ kinds) = first-never kinds

-- it comes no later than any that never changes
pub never-within : (kinds : List Added) (place : ℕ) → place < length kinds → kind_in kinds place ≡ Never → first_constant_cell kinds < length kinds
never-within [] place within is = absurd (omega (arith, within))
never-within (Never ∷ kinds) place within is = omega arith
never-within (Flag ∷ kinds) zero within is = cc
never-within (Count ∷ kinds) zero within is = cc
never-within (State ∷ kinds) zero within is = cc
never-within (Exit ∷ kinds) zero within is = cc
never-within (Flag ∷ kinds) (suc place) within is = let less = never-within kinds place (omega (arith, within)) is in omega (arith, less)
never-within (Count ∷ kinds) (suc place) within is = let less = never-within kinds place (omega (arith, within)) is in omega (arith, less)
never-within (State ∷ kinds) (suc place) within is = let less = never-within kinds place (omega (arith, within)) is in omega (arith, less)
never-within (Exit ∷ kinds) (suc place) within is = let less = never-within kinds place (omega (arith, within)) is in omega (arith, less)

-- ---- whose item a cell has

pub holder-own : (kinds : List Added) (place : ℕ) → is_never (kind_in kinds place) ≡ false → owner_of kinds place ≡ place
holder-own kinds place e = ap (λ b. if b then first_constant_cell kinds else place) e

pub holder-shared : (kinds : List Added) (place : ℕ) → is_never (kind_in kinds place) ≡ true → owner_of kinds place ≡ first_constant_cell kinds
holder-shared kinds place e = ap (λ b. if b then first_constant_cell kinds else place) e

-- its item is for the same
pub holder-kind : (kinds : List Added) (place : ℕ) → kind_in kinds (owner_of kinds place) ≡ kind_in kinds place
holder-kind kinds place =
    elim (is_never (kind_in kinds place)) as (λ b. is_never (kind_in kinds place) ≡ b → kind_in kinds (if b then first_constant_cell kinds else place) ≡ kind_in kinds place) [
      | true ↦ λ e. first-never kinds ∙ sym (never-is (kind_in kinds place) e)
      | false ↦ λ e. refl
    ] refl

pub holder-within : (kinds : List Added) (place : ℕ) → place < length kinds → owner_of kinds place < length kinds
holder-within kinds place within =
    elim (is_never (kind_in kinds place)) as (λ b. is_never (kind_in kinds place) ≡ b → (if b then first_constant_cell kinds else place) < length kinds) [
      | true ↦ λ e. never-within kinds place within (never-is (kind_in kinds place) e)
      | false ↦ λ e. within
    ] refl

-- ---- ranges one after the other

found-here : (one : CellRange) (others : List CellRange) (range : Range) → same_range one.range range ≡ true → of_range (one ∷ others) range ≡ one
found-here one others range e = ap (λ b. if b then one else of_range others range) e

found-later : (one : CellRange) (others : List CellRange) (range : Range) → same_range one.range range ≡ false → of_range (one ∷ others) range ≡ of_range others range
found-later one others range e = ap (λ b. if b then one else of_range others range) e

before-here : (one : CellRange) (others : List CellRange) (range : Range) → same_range one.range range ≡ true → cells_before (one ∷ others) range ≡ 0
before-here one others range e = ap (λ b. if b then 0 else length one.added + cells_before others range) e

before-later : (one : CellRange) (others : List CellRange) (range : Range) → same_range one.range range ≡ false →
    cells_before (one ∷ others) range ≡ length one.added + cells_before others range
before-later one others range e = ap (λ b. if b then 0 else length one.added + cells_before others range) e

-- a cell of the range has the kind of its place in the row
pub row-kind : (ranges : List CellRange) (range : Range) (cell : ℕ) (kind : Added) → kind_at (of_range ranges range).added cell ≡ Some kind →
    kind_at (kinds_of_row ranges) (cells_before ranges range + cell) ≡ Some kind
row-kind [] range cell kind is = cc
row-kind (one ∷ others) range cell kind is =
    elim (same_range one.range range) as (λ b. same_range one.range range ≡ b → kind_at (kinds_of_row (one ∷ others)) (cells_before (one ∷ others) range + cell) ≡ Some kind) [
      | true ↦ λ e.
          let here : kind_at one.added cell ≡ Some kind = ap (λ (r : CellRange). kind_at r.added cell) (sym (found-here one others range e)) ∙ is in
          let at : cells_before (one ∷ others) range + cell ≡ cell = ap (λ n. n + cell) (before-here one others range e) ∙ (let z : 0 + cell ≡ cell = omega arith in z) in
          ap (kind_at (one.added ++ kinds_of_row others)) at ∙ kind-before one.added (kinds_of_row others) cell kind here
      | false ↦ λ e.
          let later : kind_at (of_range others range).added cell ≡ Some kind = ap (λ (r : CellRange). kind_at r.added cell) (sym (found-later one others range e)) ∙ is in
          let at : cells_before (one ∷ others) range + cell ≡ length one.added + (cells_before others range + cell) =
          ap (λ n. n + cell) (before-later one others range e) ∙ (let z : length one.added + cells_before others range + cell ≡ length one.added + (cells_before others range + cell) = omega arith in z) in
          ap (kind_at (one.added ++ kinds_of_row others)) at
          ∙ kind-behind one.added (kinds_of_row others) (cells_before others range + cell) ∙ row-kind others range cell kind later
    ] refl

-- two cells at one place are the same
abbrev SameCell : Range → Range → ℕ → ℕ → Type 0
SameCell range other cell other_cell = (other ≡ range) × (other_cell ≡ cell)

pub row-apart : (ranges : List CellRange) (range other : Range) (cell other_cell : ℕ) (kind other_kind : Added) →
    kind_at (of_range ranges range).added cell ≡ Some kind → kind_at (of_range ranges other).added other_cell ≡ Some other_kind →
    cells_before ranges range + cell ≡ cells_before ranges other + other_cell → (other ≡ range) × (other_cell ≡ cell)
row-apart [] range other cell other_cell kind other_kind is also_is same = cc
row-apart (one ∷ others) range other cell other_cell kind other_kind is also_is same =
    elim (same_range one.range range) as (λ b. same_range one.range range ≡ b → SameCell range other cell other_cell) [
      | true ↦ λ e.
          let here : kind_at one.added cell ≡ Some kind = ap (λ (r : CellRange). kind_at r.added cell) (sym (found-here one others range e)) ∙ is in
          let in_it = kind-within one.added cell kind here in
          let at = before-here one others range e in
          elim (same_range one.range other) as (λ b. same_range one.range other ≡ b → SameCell range other cell other_cell) [
            | true ↦ λ f.
                let at_other = before-here one others other f in
                let cells : other_cell ≡ cell = omega (arith, at, at_other, same) in
                (sym (same-range one.range other f) ∙ same-range one.range range e, cells)
            | false ↦ λ f. let at_other = before-later one others other f in absurd (omega (arith, at, at_other, same, in_it))
          ] refl
      | false ↦ λ e.
          let at = before-later one others range e in
          elim (same_range one.range other) as (λ b. same_range one.range other ≡ b → SameCell range other cell other_cell) [
            | true ↦ λ f.
                let here : kind_at one.added other_cell ≡ Some other_kind = ap (λ (r : CellRange). kind_at r.added other_cell) (sym (found-here one others other f)) ∙ also_is in
                let in_it = kind-within one.added other_cell other_kind here in
                let at_other = before-here one others other f in
                absurd (omega (arith, at, at_other, same, in_it))
            | false ↦ λ f.
                let at_other = before-later one others other f in
                row-apart others range other cell other_cell kind other_kind
                (ap (λ (r : CellRange). kind_at r.added cell) (sym (found-later one others range e)) ∙ is)
                (ap (λ (r : CellRange). kind_at r.added other_cell) (sym (found-later one others other f)) ∙ also_is)
                (omega (arith, at, at_other, same))
          ] refl
    ] refl

-- ---- kinds as code

pub kind_read : (kinds : List code.Added) (place : ℕ) (d : code.Added) → place < length kinds →
    seen_added (get_or kinds place d) ≡ kind_in (map seen_added kinds) place
kind_read [] place d within = absurd (omega (arith, within))
kind_read (first ∷ kinds) zero d within = refl
kind_read (first ∷ kinds) (suc place) d within = kind_read kinds place d (omega (arith, within))

pub kind_past : (kinds : List code.Added) (place : ℕ) → length kinds ≤ place → Never ≡ kind_in (map seen_added kinds) place
kind_past [] place past = refl
kind_past (first ∷ kinds) zero past = absurd (omega (arith, past))
kind_past (first ∷ kinds) (suc place) past = kind_past kinds place (omega (arith, past))

-- ---- the row, range after range

pub row-next : (ranges : List ShapedRange) (at : ℕ) (d : ShapedRange) → at < length ranges →
    length (kinds_of_row (take (suc at) (seen_ranges ranges))) ≡ length (kinds_of_row (take at (seen_ranges ranges))) + length (get_or ranges at d).added.now
row-next [] at d within = absurd (omega (arith, within))
row-next (first ∷ ranges) zero d within =
    length-append (map seen_added first.added.now) [] ∙ ap (λ n. n + 0) (length-map first.added.now seen_added)
    ∙ (let e : length first.added.now + 0 ≡ 0 + length first.added.now = omega arith in e)
row-next (first ∷ ranges) (suc at) d within =
    let added = map seen_added first.added.now in
    let next = row-next ranges at d (omega (arith, within)) in
    length-append added (kinds_of_row (take (suc at) (seen_ranges ranges)))
    ∙ ap (λ n. length added + n) next
    ∙ (let e : length added + (length (kinds_of_row (take at (seen_ranges ranges))) + length (get_or ranges at d).added.now)
    ≡ length added + length (kinds_of_row (take at (seen_ranges ranges))) + length (get_or ranges at d).added.now = omega arith in e)
    ∙ ap (λ n. n + length (get_or ranges at d).added.now) (sym (length-append added (kinds_of_row (take at (seen_ranges ranges)))))

pub row-front : (ranges : List CellRange) (at : ℕ) → length (kinds_of_row (take at ranges)) ≤ length (kinds_of_row ranges)
row-front [] zero = omega arith
row-front [] (suc at) = omega arith
row-front (first ∷ ranges) zero = omega arith
row-front (first ∷ ranges) (suc at) =
    omega (arith, row-front ranges at, length-append first.added (kinds_of_row (take at ranges)), length-append first.added (kinds_of_row ranges))

pub range-at : (ranges : List ShapedRange) (at : ℕ) (d : ShapedRange) → at < length ranges → slice_get ranges at ≡ Some (get_or ranges at d)
range-at [] at d within = absurd (omega (arith, within))
range-at (first ∷ ranges) zero d within = refl
range-at (first ∷ ranges) (suc at) d within = range-at ranges at d (omega (arith, within))

pub told-at : (ranges : List ShapedRange) (at : ℕ) (d : ShapedRange) (told : List CellUse) → at < length ranges →
    get_or (cell_uses_of ranges) at told ≡ cell_uses (seen_body (get_or ranges at d).body.now.items)
told-at [] at d told within = absurd (omega (arith, within))
told-at (first ∷ ranges) zero d told within = refl
told-at (first ∷ ranges) (suc at) d told within = told-at ranges at d told (omega (arith, within))
