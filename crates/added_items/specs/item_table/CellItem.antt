-- What writing asks of the cells of shaped ranges.
use Rattle.std.specs.Prelude.{ℕ, ◌≡◌, ◌+◌, ◌^◌, ◌<◌, Bool, false, List, [], ◌∷◌, length, map, take, Option, Some, slice_get}
use Rattle.control_flow_theory.specs.language.Language.{Range}
use Rattle.control_flow_theory.specs.graph_rules.Families.{Added}
use Rattle.control_flow_theory.specs.graph_rules.Walked.{is_in}
use Rattle.control_flow_theory.specs.main_theorem.Chain.{stmts_arms}
use Rattle.added_items.specs.item_table.Owners.{kind_in}
use Rattle.added_items.specs.item_table.Row.{CellRange, kinds_of_row}
use Rattle.added_items.specs.item_table.Tables.{ends_in_other, most_by, table_of_cells}
use Rattle.statement_builders.specs.item_words.Words.{AreItems}
use Rattle.statement_builders.specs.declared.item_words.cells.CellItem.{CellItem}

-- the item with this number, into which so much is put
pub record IsAsked (number largest : ℕ) (in_other : Bool) (found : CellItem) : Type 0 where
  pub item : number ≡ found.item
  -- the item's number is below 2^31
  pub own : found.item < 2 ^ 31
  -- the largest number that is put into it
  pub most : largest ≡ found.most
  -- whether the last arm of a choice by it is WHEN OTHER
  pub ends : in_other ≡ found.ends_in_other

-- the items of a row are what is asked for: with numbers by their places in the row, from the first
-- item on, and with as many arms as first choices have
pub record AreAsked (number : ℕ → ℕ) (first before : ℕ) (added : List Added)
    (arms : ℕ → Option ℕ) (items : List CellItem) : Type 0 where
  pub count : length items ≡ length added
  -- each item is asked so of its cell
  pub each : (cell : ℕ) (found : CellItem) → slice_get items cell ≡ Some found →
      IsAsked (first + number (before + cell)) (most_by (arms cell) (kind_in added cell))
      (ends_in_other (kind_in added cell)) found

-- the lists are what writing asks of the cells of these ranges, range by range
pub record AreAllAsked (number : ℕ → ℕ) (first : ℕ) (ranges : List CellRange)
    (lists : List (List CellItem)) : Type 0 where
  pub count : length lists ≡ length ranges
  -- each list is asked so of its range
  pub each : (at : ℕ) (one : CellRange) (items : List CellItem) →
      slice_get ranges at ≡ Some one → slice_get lists at ≡ Some items →
      AreAsked number first (length (kinds_of_row (take at ranges))) one.added
      (λ cell. stmts_arms cell one.body) items

-- no range comes twice
abbrev pub StandOnce : List CellRange → Type 0
StandOnce [] = Unit {0}
StandOnce (one ∷ others) =
    (is_in one.range (map (λ (other : CellRange). other.range) others) ≡ false) × StandOnce others

-- these are the items of the cells of the ranges, by the table of cells: as many as each range has
-- cells, where no range comes twice
abbrev pub AreCellItems : ℕ → List CellRange → List (List CellItem) → Type 0
AreCellItems first ranges lists = (length lists ≡ length ranges)
    × (StandOnce ranges → (at : ℕ) (one : CellRange) (items : List CellItem) →
    slice_get ranges at ≡ Some one → slice_get lists at ≡ Some items →
    (length items ≡ length one.added)
    × ((place : Range → ℕ) → AreItems (record {
      first = first;
      table = table_of_cells ranges;
      place = place;
      range = one.range;
    }) items))
