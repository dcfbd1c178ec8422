-- What holds of a table of places on the way to a summary.
use Rattle.std.specs.Prelude.{ℕ, suc, ◌≡◌, ◌<◌, ◌↔◌, ◌⊎◌, Bool, true, List, length, Some, slice_get}
use Rattle.cob_tree.specs.declared.program.Range.{Range}
use Rattle.control_flow_theory.specs.language.Language.{Chooser, Program}
use Rattle.program_points.specs.paths.Step.{Point}
use Rattle.program_points.specs.declared.point_table.table.Table.{Table}
use Rattle.program_points.specs.point_table.Table.{ComesIn, IsTable}
use Rattle.pending_returns.specs.levels.Reach.{Holds, IsReach, IsCalled, IsEnded}
use Rattle.program_points.specs.perform_ranges.Named.{is_before}
use Rattle.pending_returns.specs.declared.facts.RangeFacts.{RangeFacts}
use Rattle.pending_returns.specs.declared.facts.Summary.{Summary}
use Rattle.pending_returns.specs.Summary.{Rises, IsSummary}

-- each of these numbers is below the count
abbrev pub AllBelow : ℕ → List ℕ → Type 0
AllBelow count numbers = (number : ℕ) → Holds numbers number → number < count

-- the numbers of the flags that are on, rising
pub record Lists (flags : List Bool) (numbers : List ℕ) : Type 0 where
  pub rises : Rises numbers
  -- a number is in the list just where its flag is on
  pub on : (number : ℕ) → slice_get flags number ≡ Some true ↔ Holds numbers number

-- no number comes twice
abbrev pub StandOnce : List ℕ → Type 0
StandOnce numbers = (a b number : ℕ) → slice_get numbers a ≡ Some number →
    slice_get numbers b ≡ Some number → a ≡ b

-- the same numbers, rising
pub record Orders (numbers sorted : List ℕ) : Type 0 where
  pub rises : Rises sorted
  -- a number is in one list just where it is in the other
  pub same : (number : ℕ) → Holds numbers number ↔ Holds sorted number

-- the ranges that the level performs, and the paragraphs whose end it passes
pub record TellsLevel (table : Table) (returns : List Bool) (range : Range) (calls ends : List ℕ)
    : Type 0 where
  -- the places to which the level comes
  pub places : List ℕ
  pub reach : IsReach table returns range places
  pub calls_rise : Rises calls
  -- the ranges are those that one of them performs
  pub calls_are : (number : ℕ) → IsCalled table places number ↔ Holds calls number
  pub ends_rise : Rises ends
  -- the paragraphs are those of which one of them is the end
  pub ends_are : (paragraph : ℕ) → IsEnded table range places paragraph ↔ Holds ends paragraph

-- these are the levels of the ranges of the table, by their numbers
pub record TellsLevels (table : Table) (returns : List Bool) (levels : List RangeFacts) : Type 0
  where
    pub size : length levels ≡ length table.ranges
    -- the facts are those of the range with this number
    pub each : (number : ℕ) (facts : RangeFacts) → slice_get levels number ≡ Some facts →
        (slice_get table.ranges number ≡ Some facts.range)
        × (slice_get returns number ≡ Some facts.returns)
        × TellsLevel table returns facts.range facts.calls facts.ends

-- each range that is performed has a number below this one
abbrev pub CallsBelow : ℕ → List RangeFacts → Type 0
CallsBelow count levels = (number : ℕ) (facts : RangeFacts) →
    slice_get levels number ≡ Some facts → AllBelow count facts.calls

-- calls lead from main to the range with this number
pub data LeadsTo (levels : List RangeFacts) : ℕ → Type 0 where
  begins : LeadsTo levels 0
  calls : (from to : ℕ) (facts : RangeFacts) → LeadsTo levels from →
      slice_get levels from ≡ Some facts → Holds facts.calls to → LeadsTo levels to

-- the list has these numbers too then, and is as it was otherwise
pub record AddsCalls (calls before after : List ℕ) : Type 0 where
  -- each of the numbers is in the list then
  pub added : (number : ℕ) → Holds calls number → Holds after number
  -- the old list is its beginning
  pub kept : (at other : ℕ) → slice_get before at ≡ Some other → slice_get after at ≡ Some other
  -- it has no others
  pub only : (other : ℕ) → Holds after other → Holds before other ⊎ Holds calls other

-- where each of those that are kept is among them
abbrev pub Ranks : List ℕ → List ℕ → Type 0
Ranks kept ranks = (at number : ℕ) → slice_get kept at ≡ Some number →
    slice_get ranks number ≡ Some at

-- the same numbers, each by its rank
pub record Renumbers (ranks calls made : List ℕ) : Type 0 where
  pub size : length made ≡ length calls
  -- each number is given by its rank
  pub each : (at number : ℕ) → slice_get calls at ≡ Some number →
      slice_get made at ≡ slice_get ranks number

-- the same facts, with the ranges by their ranks
pub record IsRenumbered (ranks : List ℕ) (facts made : RangeFacts) : Type 0 where
  pub range : made.range ≡ facts.range
  pub returns : made.returns ≡ facts.returns
  pub calls : Renumbers ranks facts.calls made.calls
  pub ends : made.ends ≡ facts.ends

-- the facts of the ranges that are kept
pub record KeepsFacts (levels : List RangeFacts) (kept ranks : List ℕ) (made : List RangeFacts)
    : Type 0 where
  pub size : length made ≡ length kept
  -- the facts are those of the range that is kept
  pub each : (at number : ℕ) → slice_get kept at ≡ Some number →
      (facts new : RangeFacts) × (slice_get levels number ≡ Some facts)
      × (slice_get made at ≡ Some new) × IsRenumbered ranks facts new

-- the paragraph of each place is below the count
abbrev pub OwnersBelow : ℕ → List ℕ → Type 0
OwnersBelow count owners = (place owner : ℕ) → slice_get owners place ≡ Some owner → owner < count

-- one of the places is in this paragraph
abbrev pub IsOwner : List ℕ → List ℕ → ℕ → Type 0
IsOwner owners places paragraph = (place : ℕ) × Holds places place
    × (slice_get owners place ≡ Some paragraph)

-- flags are added on the paragraphs of these places
abbrev pub MarksOwners : List ℕ → List ℕ → List Bool → List Bool → Type 0
MarksOwners owners places before after = (paragraph : ℕ) →
    slice_get after paragraph ≡ Some true
    ↔ ((slice_get before paragraph ≡ Some true) ⊎ IsOwner owners places paragraph)

-- the level of a range with one of these numbers comes to the paragraph
abbrev pub ComesToOwner : Table → List Bool → List ℕ → ℕ → Type 0
ComesToOwner table returns numbers paragraph = (number : ℕ) × (range : Range) × (place : ℕ)
    × Holds numbers number × (slice_get table.ranges number ≡ Some range)
    × ComesIn table returns range place × (slice_get table.owners place ≡ Some paragraph)

-- the flags are on just where the level of one of these ranges comes to
abbrev pub MarksLevels : Table → List Bool → List ℕ → List Bool → Type 0
MarksLevels table returns numbers flags = (paragraph : ℕ) →
    slice_get flags paragraph ≡ Some true ↔ ComesToOwner table returns numbers paragraph

-- each range is before the next
abbrev pub RangesRise : List Range → Type 0
RangesRise ranges = (number : ℕ) (range next : Range) → slice_get ranges number ≡ Some range →
    slice_get ranges (suc number) ≡ Some next → is_before range next ≡ true

-- the summary is that of each program of which this is a table
abbrev pub SummarisesTable : Table → Summary → Type 0
SummarisesTable table summary = (never_first : Chooser → Bool) (program : Program)
    (points : ℕ → Point) → IsTable never_first program table points →
    length table.starts ≡ length program.paragraphs → IsSummary never_first program summary
