-- The table of the cells of shaped ranges.
use Rattle.std.specs.Prelude.{ℕ, ◌+◌, min, Bool, true, false, not, List, Option, Some, None, is_some}
use Rattle.control_flow_theory.specs.language.Language.{Range}
use Rattle.control_flow_theory.specs.graph_rules.Families.{Added, Never, Flag, Count, State, Exit}
use Rattle.control_flow_theory.specs.graph_rules.Reduced.{kind_at}
use Rattle.cobol_theory.specs.cell_serving.Table.{CellTable}
use Rattle.control_flow_theory.specs.main_theorem.Chain.{stmts_arms}
use Rattle.added_items.specs.item_table.Owners.{is_never, owner_of, holders_of, kind_in, place_in}
use Rattle.added_items.specs.item_table.Naming.{digits_of, is_signed}
use Rattle.added_items.specs.item_table.Row.{CellRange, of_range, cells_before, kinds_of_row}

-- the most arms of a choice by a cell: the largest number of six digits
abbrev pub most_arms : ℕ
most_arms = 999999

-- the number, or zero where there is none
abbrev pub or_zero : Option ℕ → ℕ
or_zero None = 0
or_zero (Some number) = number

-- this number of arms, or the most that there may be
abbrev pub few_arms : Option ℕ → ℕ
few_arms arms = min (or_zero arms) most_arms

-- the largest number that is put into a cell by which the first choice has so many arms
abbrev pub most_by : Option ℕ → Added → ℕ
most_by arms Never = 1
most_by arms Flag = 1
most_by arms Count = 0
most_by arms State = few_arms arms
most_by arms Exit = few_arms arms

-- the last arm of a choice by such a cell is WHEN OTHER: by an exit it is, and a choice by a state
-- has a WHEN for each node
abbrev pub ends_in_other : Added → Bool
ends_in_other Never = false
ends_in_other Flag = false
ends_in_other Count = false
ends_in_other State = false
ends_in_other Exit = true

module _ (ranges : List CellRange) where
  -- what a cell of a range is for
  abbrev pub kind_of : Range → ℕ → Added
  kind_of range cell = kind_in (of_range ranges range).added cell

  -- the number of a cell's item, from 0, by the cell's place in the row
  abbrev pub item_at : ℕ → ℕ
  item_at place = or_zero (place_in (holders_of ranges) (owner_of (kinds_of_row ranges) place))

  -- the table of which item each cell has, and of what size
  abbrev pub table_of_cells : CellTable
  table_of_cells = record {
    stands = λ range cell. is_some (kind_at (of_range ranges range).added cell);
    changes = λ range cell. not (is_never (kind_of range cell));
    item = λ range cell. item_at (cells_before ranges range + cell);
    digits = λ range cell. digits_of (kind_of range cell);
    signed = λ range cell. is_signed (kind_of range cell);
    most = λ range cell.
        most_by (stmts_arms cell (of_range ranges range).body) (kind_of range cell);
    ends_in_other = λ range cell. ends_in_other (kind_of range cell);
  }
