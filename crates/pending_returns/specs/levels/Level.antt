-- What is kept from range to range.
use Rattle.std.specs.Prelude.{ℕ, ◌≡◌, length}
use Rattle.program_points.specs.declared.point_table.table.Table.{Table}
use Rattle.pending_returns.specs.declared.levels.reach.Reach.{Reach}
use Rattle.pending_returns.specs.declared.levels.level.Level.{Level}
use Rattle.pending_returns.specs.levels.Reach.{IsMarked}

-- marks for so many, on what is in the list
pub record Fits (count : ℕ) (reach : Reach) : Type 0 where
  -- the marks are on just what is in the list
  pub marked : IsMarked reach.places.items reach.marks.items
  pub size : length reach.marks.items ≡ count

-- marks for all places, ranges and paragraphs of the table
pub record FitsTable (table : Table) (level : Level) : Type 0 where
  pub places : Fits (length table.places) level.places
  pub calls : Fits (length table.ranges) level.calls
  pub ends : Fits (length table.starts) level.ends
