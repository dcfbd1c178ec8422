-- The numbers of items, by the places of cells in the row.
use Rattle.std.specs.Prelude.{ℕ, ◌≡◌, ◌<◌, ◌^◌, List, length, map}
use Rattle.branch_tree.specs.Graph.{seen_added}
use Rattle.added_items.specs.item_table.Assignment.{AreHeld}
use Rattle.added_items.specs.item_table.Owners.{first_constant_cell, owner_of, holders_of, place_in}
use Rattle.added_items.specs.item_table.Row.{CellRange, kinds_of_row}
use Rattle.added_items.specs.item_table.Tables.{or_zero}
use Rattle.added_items.specs.declared.item_table.numbering.CellNumbering.{CellNumbering}

-- the parts of the numbering fit each other
pub record IsWhole (numbering : CellNumbering) : Type 0 where
  pub few : length numbering.kinds < 2 ^ 32
  -- the first cell that never changes
  pub never : numbering.never ≡ first_constant_cell (map seen_added numbering.kinds)
  -- there is a number for each cell
  pub size : length numbering.holding.numbers.items ≡ length numbering.kinds
  -- each number leads to its cell
  pub held : AreHeld numbering.holding.held numbering.holding.numbers.items

-- the number of the item of the cell at this place
abbrev pub number_at : CellNumbering → ℕ → ℕ
number_at numbering place =
    or_zero (place_in numbering.holding.held (owner_of (map seen_added numbering.kinds) place))

-- the numbering is that of these ranges
pub record IsNumbering (ranges : List CellRange) (numbering : CellNumbering) : Type 0 where
  -- its parts fit each other
  pub whole : IsWhole numbering
  -- it is of the cells of these ranges
  pub row : map seen_added numbering.kinds ≡ kinds_of_row ranges
  -- the items come in this order
  pub held : numbering.holding.held ≡ holders_of ranges
