-- Laws of tables.
use Rattle.std.specs.Prelude.{ℕ, ◌≡◌, ◌<◌, Bool, true, List, [], length, Some, slice_get}
use Rattle.cob_tree.specs.declared.program.Range.{Range}
use Rattle.control_flow_theory.specs.language.Language.{Chooser, Program}
use Rattle.program_points.specs.paths.Step.{Point}
use Rattle.program_points.specs.paths.Flow.{FreePath, ReturnsIn, CallsIn, EndsIn}
use Rattle.program_points.specs.declared.point_table.table.Table.{Table}
use Rattle.program_points.specs.point_table.Table.{IsTable, ComesIn, IsSound, IsClosed}
use Rattle.pending_returns.specs.levels.Reach.{IsReach, IsCalled, IsEnded}

-- a level comes in the table just where free flow paths of the program come, and a range that
-- returns is marked so
abbrev pub TableIsExact : Type 0
TableIsExact = (never_first : Chooser → Bool) (program : Program) (table : Table) (points : ℕ →
    Point) (returns : List Bool) → IsTable never_first program table points →
    IsSound never_first program table returns →
    ((range : Range) (place : ℕ) → ComesIn table returns range place →
    FreePath never_first program range (points place) [])
    × (IsClosed table returns → (number : ℕ) (range : Range) →
    slice_get table.ranges number ≡ Some range →
    ((point : Point) → FreePath never_first program range point [] → (place : ℕ)
    × ComesIn table returns range place × (points place ≡ point)
    × (place < length table.places))
    × (ReturnsIn never_first program range → slice_get returns number ≡ Some true))

-- where the table is one of the program and its returns are exact, the places that a level comes to
-- tell what it performs and whose ends it passes
abbrev pub FactsAreExact : Type 0
FactsAreExact = (never_first : Chooser → Bool) (program : Program) (table : Table) (points : ℕ →
    Point) (returns : List Bool) (number : ℕ) (range : Range) (places : List ℕ) →
    IsTable never_first program table points → IsSound never_first program table returns →
    IsClosed table returns → slice_get table.ranges number ≡ Some range →
    IsReach table returns range places →
    ((called : Range) → CallsIn never_first program range called → (k : ℕ)
    × (slice_get table.ranges k ≡ Some called) × IsCalled table places k)
    × ((k : ℕ) (called : Range) → slice_get table.ranges k ≡ Some called →
    IsCalled table places k → CallsIn never_first program range called)
    × ((paragraph : ℕ) → EndsIn never_first program range paragraph →
    IsEnded table range places paragraph)
    × ((paragraph : ℕ) → IsEnded table range places paragraph →
    EndsIn never_first program range paragraph)
