-- Chains of ranges, each of which performs the next.
use Rattle.std.specs.Prelude.{ℕ, suc, ◌≡◌, ◌<◌, true, false, List, [], ◌∷◌, ◌++◌, length, Some, slice_get}
use Rattle.cob_tree.specs.declared.program.Range.{Range}
use Rattle.cob_tree.specs.declared.ending.FlowFault.{FlowFault}
use Rattle.cob_tree.specs.declared.ending.FlowFault.TheVariants.{Overlap, Reentry}
use Rattle.program_points.specs.paths.Step.{Ends}
use Rattle.program_points.specs.paths.Flow.{is_exit, is_among, fault_of}
use Rattle.program_points.specs.paths.Accepted.{with_exit, IsIn, NoneTwice}
use Rattle.pending_returns.specs.levels.Reach.{Holds}
use Rattle.pending_returns.specs.declared.facts.RangeFacts.{RangeFacts}
use Rattle.pending_returns.specs.Tabled.{CallsBelow}
use Rattle.pending_returns.specs.faults.Clash.{FaultsAt}
use Rattle.overlap_trail.specs.declared.finding.search.Predecessor.{Predecessor}
use Rattle.overlap_trail.specs.finding.Search.{Traces}

-- the range was come to by one of these calls
abbrev pub ByCall : List ℕ → ℕ → ℕ → Predecessor → Type 0
ByCall calls before to how = (how.before ≡ before) × Holds calls to

-- the range with the first number performs the one with the second
abbrev pub CallsTo : List RangeFacts → ℕ → ℕ → Type 0
CallsTo levels from to = (facts : RangeFacts) × (slice_get levels from ≡ Some facts)
    × Holds facts.calls to

-- the ranges were come to from the base, each by a call of an earlier one
abbrev pub TracesCalls : List RangeFacts → ℕ → List ℕ → List Predecessor → Type 0
TracesCalls levels base places came =
    Traces (λ place. place ≡ base) (λ from moved to. CallsTo levels from to) places came

-- calls lead along these after the first number
pub data Along (levels : List RangeFacts) : ℕ → List ℕ → ℕ → Type 0 where
  stays : (from : ℕ) → Along levels from [] from
  calls_on : (from via to : ℕ) (path : List ℕ) → CallsTo levels from via →
      Along levels via path to → Along levels from (via ∷ path) to

-- the places after the first one, up to this number in the list
pub data WentTo (came : List Predecessor) (places : List ℕ) : ℕ → List ℕ → Type 0 where
  none : WentTo came places 0 []
  more : (at place : ℕ) (how : Predecessor) (path : List ℕ) → 0 < at →
      slice_get places at ≡ Some place →
      slice_get came at ≡ Some how → WentTo came places how.before path →
      WentTo came places at (path ++ place ∷ [])

-- one of the ranges ends there
abbrev pub EndsAmong : List Range → ℕ → Type 0
EndsAmong ranges end = (range : Range) × IsIn range ranges × (range.exit ≡ Some end)

-- no range that is performed is without an end, no level passes its own, and calls have numbers
pub record IsLevels (levels : List RangeFacts) : Type 0 where
  -- each range that is performed has an end
  pub called : (from to : ℕ) (facts : RangeFacts) → CallsTo levels from to →
      slice_get levels to ≡ Some facts → (exit : ℕ) × (facts.range.exit ≡ Some exit)
  -- no level passes its own end
  pub passed : (number paragraph : ℕ) (facts : RangeFacts) →
      slice_get levels number ≡ Some facts → Holds facts.ends paragraph →
      is_exit facts.range.exit paragraph ≡ false
  -- each range that is performed has a number
  pub known : CallsBelow (length levels) levels
  pub main : 0 < length levels

-- the ends of the ranges, the last first, before these
abbrev pub ends_after : List ℕ → List Range → List ℕ
ends_after ends [] = ends
ends_after ends (range ∷ ranges) = ends_after (with_exit range.exit ends) ranges

-- the fault comes where these ends are pending
abbrev pub IsFaultAt : FlowFault → List ℕ → Type 0
IsFaultAt (Overlap paragraph) ends = fault_of (Ends paragraph) ends ≡ Some (Overlap paragraph)
IsFaultAt (Reentry paragraph) ends = is_among paragraph ends ≡ true

-- the number is the range's
abbrev pub IsAt : List RangeFacts → ℕ → Range → Type 0
IsAt levels number range = (facts : RangeFacts) × (slice_get levels number ≡ Some facts)
    × (facts.range ≡ range)

-- main first, each performs the next, the last one's level does the fault, and none comes twice
pub record IsChain (levels : List RangeFacts) (ranges : List Range) (fault : FlowFault) : Type 0
  where
    -- there is a range
    pub begun : 0 < length ranges
    -- the first is main
    pub first : (range : Range) → slice_get ranges 0 ≡ Some range → IsAt levels 0 range
    -- each performs the next
    pub nexts : (at : ℕ) (range next : Range) → slice_get ranges at ≡ Some range →
        slice_get ranges (suc at) ≡ Some next → (from : ℕ) × (to : ℕ) × IsAt levels from range
        × IsAt levels to next × CallsTo levels from to
    -- the level of the last does the fault
    pub last : (at : ℕ) (range : Range) → slice_get ranges at ≡ Some range →
        suc at ≡ length ranges → (facts : RangeFacts) × (number : ℕ) × (end : ℕ)
        × (slice_get levels number ≡ Some facts) × (facts.range ≡ range)
        × FaultsAt levels facts end fault
    -- which is one where the ends of the others are pending
    pub faults : IsFaultAt fault (ends_after [] ranges)
    -- no range comes twice
    pub once : NoneTwice ranges

-- a way leads from main along calls to a level that does the fault, where a range that ends there
-- is passed
pub record IsWay (levels : List RangeFacts) (path : List ℕ) (base end : ℕ) (fault : FlowFault)
    : Type 0 where
  -- the path begins at main
  pub begun : slice_get path 0 ≡ Some 0
  -- each range performs the next
  pub nexts : (at from to : ℕ) → slice_get path at ≡ Some from →
      slice_get path (suc at) ≡ Some to → CallsTo levels from to
  -- the level of the last does the fault
  pub last : (at number : ℕ) → slice_get path at ≡ Some number → suc at ≡ length path →
      (facts : RangeFacts) × (slice_get levels number ≡ Some facts)
      × FaultsAt levels facts end fault
  -- the base is on the path
  pub passes : Holds path base
  -- and ends there
  pub ending : (facts : RangeFacts) × (slice_get levels base ≡ Some facts)
      × (facts.range.exit ≡ Some end)

-- the path is such a way, by some range that it passes
abbrev pub HasWay : List RangeFacts → List ℕ → FlowFault → Type 0
HasWay levels path fault = (base : ℕ) × (end : ℕ) × IsWay levels path base end fault
