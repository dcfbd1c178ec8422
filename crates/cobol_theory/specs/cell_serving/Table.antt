-- Which added item stands for each cell of each range.
use Rattle.std.specs.Prelude.{ℕ, ◌+◌, ◌≡◌, ◌^◌, ◌<◌, ◌≤◌, Bool, true, ℤ, pos, negsuc, length, Some, slice_get, ◌⊎◌}
use Rattle.cob_store.specs.Store.{Roots}
use Rattle.control_flow_theory.specs.language.Language.{Range}
use Rattle.control_flow_theory.specs.semantics.Doing.{Celled}
use Rattle.meanings.specs.statements.Filing.{Declared}
use Rattle.cobol_theory.specs.stored_numbers.Laws.{Fits}
use Rattle.cobol_theory.specs.cell_items.Cell.{IsCell, cell_bytes}
use Rattle.cobol_theory.specs.added_items.Widened.{AddedItems, declared_beside, with_tail}
use Rattle.cobol_theory.specs.cobol_meaning.Acting.{Memory}

-- what is known of each cell of each range: whether it has an item, which one, and of what size
pub record CellTable : Type 0 where
  -- the cells that have an item
  pub stands : Range → (cell : ℕ) → Bool
  -- those that are changed
  pub changes : Range → (cell : ℕ) → Bool
  -- the item's number among those that were added, from 0
  pub item : Range → (cell : ℕ) → ℕ
  -- how many digits the item has
  pub digits : Range → (cell : ℕ) → ℕ
  -- with a sign, for what is left of a TIMES
  pub signed : Range → (cell : ℕ) → Bool
  -- the largest value that is put into a cell without a sign
  pub most : Range → (cell : ℕ) → ℕ
  -- whether the last arm of a choice by it is WHEN OTHER
  pub ends_in_other : Range → (cell : ℕ) → Bool

-- each is a number item in a root of its own, with room for its values, and what changes shares its
-- item with no other cell
pub record AreCells (declared : Declared) (added : AddedItems) (table : CellTable) : Type 0 where
  -- each cell's item lies in a root of its own
  pub held : (range : Range) (cell : ℕ) → table.stands range cell ≡ true →
      IsCell (declared_beside added declared).areas.items
      (length declared.areas.items + table.item range cell)
      (length declared.areas.roots + table.item range cell) (table.digits range cell)
      (table.signed range cell)
  -- the largest value of a cell has so few digits
  pub room : (range : Range) (cell : ℕ) → table.stands range cell ≡ true →
      table.most range cell < 10 ^ table.digits range cell
  -- no other cell has the item of one that changes
  pub apart : (range other : Range) (cell other_cell : ℕ) → table.changes range cell ≡ true →
      table.stands other other_cell ≡ true →
      table.item other other_cell ≡ table.item range cell →
      (other ≡ range) × (other_cell ≡ cell)

-- a number stands for itself, and one below zero for zero
abbrev pub left_of : ℤ → ℕ
left_of (pos number) = number
left_of (negsuc less) = 0

-- the item holds a number that stands for the cell's value
pub record HoldsCell (digits most : ℕ) (signed : Bool) (value : ℕ) (tail : Roots) (item : ℕ)
    : Type 0 where
  -- the number that the item holds
  pub number : ℤ
  -- there is room for it
  pub fits : Fits signed digits number
  -- the item has its bytes
  pub bytes : slice_get tail item ≡ Some (cell_bytes digits signed number)
  -- it stands for the cell's value
  pub stands : left_of number ≡ value
  -- without a sign, it is no larger than what is put into the cell
  pub within : signed ≡ true ⊎ value ≤ most

-- the result's memory: the program's own, and after it the items for the cells
pub record Carries (declared : Declared) (table : CellTable) (memory : Celled Memory)
    (other : Memory) : Type 0 where
  -- what is stored after the program's own
  pub tail : Roots
  -- before it, the program's own memory
  pub own : other ≡ with_tail tail memory.own
  -- the program's own memory has all its roots
  pub long : length memory.own.store ≡ length declared.areas.roots
  -- each cell's item holds a number that stands for its value
  pub cells : (range : Range) (cell : ℕ) → table.stands range cell ≡ true →
      HoldsCell (table.digits range cell) (table.most range cell) (table.signed range cell)
      (memory.cells range cell) tail (table.item range cell)
