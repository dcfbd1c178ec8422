-- Searching a table.
use Rattle.std.specs.Prelude.{[], ◌∷◌, ℕ, suc, ◌≡◌, ◌<◌, ◌≤◌, ◌⊎◌, ◌↔◌, Bool, true, false, List, length, Option, Some, slice_get}
use Rattle.cob_tree.specs.declared.program.Range.{Range}
use Rattle.program_points.specs.paths.Flow.{is_exit}
use Rattle.program_points.specs.declared.point_table.table.ProgramPoint.{ProgramPoint}
use Rattle.program_points.specs.declared.point_table.table.ProgramPoint.TheVariants.{Goes, Chooses, Calls, Stops, Ends}
use Rattle.program_points.specs.declared.point_table.table.Table.{Table}
use Rattle.program_points.specs.point_table.Table.{ComesIn, IsTable, IsSound}
use Rattle.control_flow_theory.specs.language.Language.{Chooser, Program}
use Rattle.program_points.specs.paths.Step.{Point}

-- the list has this place
abbrev pub Holds : List ℕ → ℕ → Type 0
Holds places place = (at : ℕ) × (slice_get places at ≡ Some place)

-- the marks are on the places of the list, and none is there twice
pub record IsMarked (places : List ℕ) (marks : List Bool) : Type 0 where
  -- what is marked is in the list
  pub there : (place : ℕ) → slice_get marks place ≡ Some true → Holds places place
  -- what is in the list is marked
  pub marked : (place : ℕ) → Holds places place → slice_get marks place ≡ Some true
  -- nothing is in it twice
  pub once : (a b place : ℕ) → slice_get places a ≡ Some place → slice_get places b ≡ Some place →
      a ≡ b

-- the list has this place too then, and is as it was otherwise
pub record Adds (before after : List ℕ) (place : ℕ) : Type 0 where
  -- the place is in the list then
  pub added : Holds after place
  -- the old list is its beginning
  pub kept : (at other : ℕ) → slice_get before at ≡ Some other → slice_get after at ≡ Some other
  -- it has no others
  pub only : (other : ℕ) → Holds after other → Holds before other ⊎ (other ≡ place)

-- control goes on from the place to this one
abbrev pub Succeeds : Table → List Bool → Range → ProgramPoint → ℕ → Type 0
Succeeds table returns range (Goes to) next = next ≡ to
Succeeds table returns range (Chooses ways) next = (number : ℕ)
    × (slice_get ways number ≡ Some (Some next))
Succeeds table returns range (Calls called after) next = (slice_get returns called ≡ Some true)
    × (next ≡ after)
Succeeds table returns range Stops next = ⊥
Succeeds table returns range (Ends paragraph) next = (is_exit range.exit paragraph ≡ false)
    × (slice_get table.starts (suc paragraph) ≡ Some next)

-- the places are those that the level comes to
abbrev pub IsReach : Table → List Bool → Range → List ℕ → Type 0
IsReach table returns range places = ((place : ℕ) → Holds places place →
    ComesIn table returns range place) × ((place : ℕ) → ComesIn table returns range place →
    Holds places place)

-- the list has what control goes on to from the place too then, and is as it was otherwise
pub record AddsNext (table : Table) (returns : List Bool) (range : Range) (place : ProgramPoint)
    (before
    after : List ℕ) : Type 0 where
  -- each next place is in the list then
  pub added : (next : ℕ) → Succeeds table returns range place next → Holds after next
  -- the old list is its beginning
  pub kept : (at other : ℕ) → slice_get before at ≡ Some other → slice_get after at ≡ Some other
  -- it has no others
  pub only : (other : ℕ) → Holds after other → Holds before other
      ⊎ Succeeds table returns range place other

-- the same for all of these ways
pub record AddsAll (ways : List (Option ℕ)) (before after : List ℕ) : Type 0 where
  -- each of the ways is in the list then
  pub added : (number next : ℕ) → slice_get ways number ≡ Some (Some next) → Holds after next
  -- the old list is its beginning
  pub kept : (at other : ℕ) → slice_get before at ≡ Some other → slice_get after at ≡ Some other
  -- it has no others
  pub only : (other : ℕ) → Holds after other → Holds before other ⊎ ((number : ℕ)
      × (slice_get ways number ≡ Some (Some other)))

-- the same for the first of the ways
pub record AddsSome (ways : List (Option ℕ)) (index : ℕ) (before after : List ℕ) : Type 0 where
  -- each of the first ways is in the list then
  pub added : (number next : ℕ) → number < index → slice_get ways number ≡ Some (Some next) →
      Holds after next
  -- the old list is its beginning
  pub kept : (at other : ℕ) → slice_get before at ≡ Some other → slice_get after at ≡ Some other
  -- it has no others
  pub only : (other : ℕ) → Holds after other → Holds before other ⊎ ((number : ℕ)
      × (slice_get ways number ≡ Some (Some other)))

-- the places so far: those that were looked at have all that follows them among the places
pub record IsSoFar (table : Table) (returns : List Bool) (range : Range) (places : List ℕ) (marks :
    List Bool) (at : ℕ) : Type 0 where
  pub marked : IsMarked places marks
  pub size : length marks ≡ length table.places
  -- the range's start is among the places
  pub begun : (start : ℕ) → slice_get table.starts range.entry ≡ Some start → Holds places start
  -- the level comes to each of the places
  pub sound : (place : ℕ) → Holds places place → ComesIn table returns range place
  -- what follows those that were looked at is among the places
  pub done : (number from : ℕ) (place : ProgramPoint) (next : ℕ) → number < at →
      slice_get places number ≡ Some from → slice_get table.places from ≡ Some place →
      Succeeds table returns range place next → Holds places next

-- each of these places is below the count
abbrev pub AllPlaces : ℕ → List ℕ → Type 0
AllPlaces count places = (place : ℕ) → Holds places place → place < count

-- one of the places is the end at which the range returns
abbrev pub HasEnd : Table → Range → List ℕ → Type 0
HasEnd table range places = (place : ℕ) × (paragraph : ℕ) × Holds places place
    × (slice_get table.places place ≡ Some (Ends paragraph)) × (is_exit range.exit paragraph ≡ true)

-- the same among the places from this number on
abbrev pub HasEndFrom : Table → Range → List ℕ → ℕ → Type 0
HasEndFrom table range places from = (at : ℕ) × (place : ℕ) × (paragraph : ℕ) × (from ≤ at)
    × (slice_get places at ≡ Some place) × (slice_get table.places place ≡ Some (Ends paragraph))
    × (is_exit range.exit paragraph ≡ true)

-- how many of them hold
abbrev pub trues : List Bool → ℕ
trues [] = 0
trues (true ∷ flags) = suc (trues flags)
trues (false ∷ flags) = trues flags

-- one of the places performs this range
abbrev pub IsCalled : Table → List ℕ → ℕ → Type 0
IsCalled table places range = (place : ℕ) × (after : ℕ) × Holds places place
    × (slice_get table.places place ≡ Some (Calls range after))

-- one of the places is this paragraph's end, and the range doesn't return there
abbrev pub IsEnded : Table → Range → List ℕ → ℕ → Type 0
IsEnded table range places paragraph = (place : ℕ) × Holds places place
    × (slice_get table.places place ≡ Some (Ends paragraph))
    × (is_exit range.exit paragraph ≡ false)

-- the list has what the first places do
pub record GathersCalls (table : Table) (places calls : List ℕ) (index : ℕ) : Type 0 where
  -- one of the places performs each range of the list
  pub sound : (range : ℕ) → Holds calls range → IsCalled table places range
  -- what the first places perform is in the list
  pub done : (at place range after : ℕ) → at < index → slice_get places at ≡ Some place →
      slice_get table.places place ≡ Some (Calls range after) → Holds calls range

-- the list has the ends that the first places are, but for the range's return
pub record GathersEnds (table : Table) (range : Range) (places ends : List ℕ) (index : ℕ) : Type 0
  where
    -- one of the places is the end of each paragraph of the list
    pub sound : (paragraph : ℕ) → Holds ends paragraph → IsEnded table range places paragraph
    -- the ends that the first places are, are in the list
    pub done : (at place paragraph : ℕ) → at < index → slice_get places at ≡ Some place →
        slice_get table.places place ≡ Some (Ends paragraph) →
        is_exit range.exit paragraph ≡ false → Holds ends paragraph

-- the list has exactly the ranges that the places perform
abbrev pub GathersAllCalls : Table → List ℕ → List ℕ → Type 0
GathersAllCalls table places calls = (range : ℕ) → Holds calls range ↔ IsCalled table places range

-- the list has exactly the paragraphs of which one of the places is the end, and no return
abbrev pub GathersAllEnds : Table → Range → List ℕ → List ℕ → Type 0
GathersAllEnds table range places ends = (paragraph : ℕ) → Holds ends paragraph
    ↔ IsEnded table range places paragraph

-- the ranges that are marked as returning do return, in each program of which it is a table
abbrev pub SaysSoundly : Table → List Bool → Type 0
SaysSoundly table returns = (never_first : Chooser → Bool) (program : Program)
    (points : ℕ → Point) → IsTable never_first program table points →
    IsSound never_first program table returns

-- if the first flags are right, the second are
abbrev pub StaysSound : Table → List Bool → List Bool → Type 0
StaysSound table before after = (never_first : Chooser → Bool) (program : Program)
    (points : ℕ → Point) → IsTable never_first program table points →
    IsSound never_first program table before → IsSound never_first program table after
