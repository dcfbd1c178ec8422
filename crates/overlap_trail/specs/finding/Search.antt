-- How a level comes to its places.
use Rattle.std.specs.Prelude.{ℕ, suc, ◌≡◌, ◌≤◌, ◌<◌, Bool, true, false, List, [], ◌∷◌, ◌++◌, map, length, Option, Some, None, slice_get}
use Rattle.cob_tree.specs.declared.program.Range.{Range}
use Rattle.program_points.specs.declared.paths.trail.Move.{Move}
use Rattle.program_points.specs.declared.paths.trail.Move.TheVariants.{Arm, Over}
use Rattle.program_points.specs.paths.Step.{only}
use Rattle.program_points.specs.paths.Flow.{is_exit}
use Rattle.program_points.specs.declared.point_table.table.ProgramPoint.{ProgramPoint}
use Rattle.program_points.specs.declared.point_table.table.ProgramPoint.TheVariants.{Goes, Chooses, Calls, Stops, Ends}
use Rattle.program_points.specs.declared.point_table.table.Table.{Table}
use Rattle.overlap_trail.specs.declared.finding.search.Predecessor.{Predecessor}

-- there is a number
abbrev pub is_there : Option ℕ → Bool
is_there None = false
is_there (Some number) = true

-- whether each range has a lemma
abbrev pub flags_of : List (Option ℕ) → List Bool
flags_of numbers = map (λ (number : Option ℕ). is_there number) numbers

-- the move that takes the way with this number, from 0: none where it is the only one
abbrev pub arm_of : Bool → ℕ → Option Move
arm_of true number = None
arm_of false number = Some (Arm (suc number))

-- control goes on from the place to the next by this move, or by none, over the ranges that have
-- lemmas
abbrev pub GoesBy : Table → List (Option ℕ) → Range → ProgramPoint → Option Move → ℕ → Type 0
GoesBy table numbers range (Goes to) moved next = (moved ≡ None) × (next ≡ to)
GoesBy table numbers range (Chooses ways) moved next = (number : ℕ)
    × (slice_get ways number ≡ Some (Some next)) × (moved ≡ arm_of (is_there (only ways)) number)
GoesBy table numbers range (Calls called after) moved next = (lemma : ℕ)
    × (slice_get numbers called ≡ Some (Some lemma)) × (moved ≡ Some (Over lemma))
    × (next ≡ after)
GoesBy table numbers range Stops moved next = ⊥
GoesBy table numbers range (Ends paragraph) moved next = (moved ≡ None)
    × (is_exit range.exit paragraph ≡ false)
    × (slice_get table.starts (suc paragraph) ≡ Some next)

-- the move alone, or none
abbrev pub listed : Option Move → List Move
listed None = []
listed (Some moved) = moved ∷ []

-- the range's level comes to the place by these moves
pub data ComesBy (table : Table) (numbers : List (Option ℕ)) (range : Range) : ℕ → List Move →
    Type 0 where
  begins : (place : ℕ) → slice_get table.starts range.entry ≡ Some place →
      ComesBy table numbers range place []
  goes_on : (from to : ℕ) (here : ProgramPoint) (moves : List Move) (moved : Option Move) →
      ComesBy table numbers range from moves → slice_get table.places from ≡ Some here →
      GoesBy table numbers range here moved to →
      ComesBy table numbers range to (moves ++ listed moved)

-- What is kept of how places were come to.

-- how each place was come to is kept with it, and what is new is so
pub record Tracks (New : ℕ → Predecessor → Type 0) (before after : List ℕ)
    (came later : List Predecessor)
    : Type 0 where
  pub size : length later ≡ length after
  -- how the old places were come to is the same
  pub kept : (at : ℕ) (how : Predecessor) → slice_get came at ≡ Some how →
      slice_get later at ≡ Some how
  -- how each new one was come to is as it must be
  pub new : (at place : ℕ) (how : Predecessor) → length before ≤ at →
      slice_get after at ≡ Some place →
      slice_get later at ≡ Some how → New place how

-- the place was come to by one of these ways
abbrev pub ByWay : List (Option ℕ) → ℕ → ℕ → Predecessor → Type 0
ByWay ways before place how = (how.before ≡ before) × ((number : ℕ)
    × (slice_get ways number ≡ Some (Some place))
    × (how.moved ≡ arm_of (is_there (only ways)) number))

-- the place was come to by a step from this one
abbrev pub ByStep : Table → List (Option ℕ) → Range → ProgramPoint → ℕ → ℕ → Predecessor → Type 0
ByStep table numbers range here before place how = (how.before ≡ before)
    × GoesBy table numbers range here how.moved place

-- how a place was come to from one before it in the list
abbrev pub IsFrom : (ℕ → Option Move → ℕ → Type 0) → List ℕ → ℕ → ℕ → Predecessor → Type 0
IsFrom Steps places at place how = (from : ℕ) × (how.before < at)
    × (slice_get places how.before ≡ Some from) × Steps from how.moved place

-- the first place of the list is a first one, and each other one was come to from one before it
pub record Traces (First : ℕ → Type 0) (Steps : ℕ → Option Move → ℕ → Type 0) (places : List ℕ)
    (came : List Predecessor) : Type 0 where
  pub size : length came ≡ length places
  -- the first place is one from which control begins
  pub first : (place : ℕ) → slice_get places 0 ≡ Some place → First place
  -- each other one was come to from one before it
  pub later : (at place : ℕ) (how : Predecessor) → 0 < at → slice_get places at ≡ Some place →
      slice_get came at ≡ Some how → IsFrom Steps places at place how

-- the place is where the range begins
abbrev pub BeginsLevel : Table → Range → ℕ → Type 0
BeginsLevel table range place = slice_get table.starts range.entry ≡ Some place

-- control goes from one place to the other in the range's level, by this move or by none
abbrev pub StepsLevel : Table → List (Option ℕ) → Range → ℕ → Option Move → ℕ → Type 0
StepsLevel table numbers range from moved to = (here : ProgramPoint)
    × (slice_get table.places from ≡ Some here) × GoesBy table numbers range here moved to

-- the places were come to in the range's level, each from one before it
abbrev pub TracesLevel : Table → List (Option ℕ) → Range → List ℕ → List Predecessor → Type 0
TracesLevel table numbers range places came =
    Traces (λ place. BeginsLevel table range place)
    (λ from moved to. StepsLevel table numbers range from moved to) places came

-- each was come to from one before it
abbrev pub GoBack : List Predecessor → Type 0
GoBack came = (at : ℕ) (how : Predecessor) → 0 < at → slice_get came at ≡ Some how → how.before < at

-- the moves that were taken up to there
pub data TakenTo (came : List Predecessor) : ℕ → List Move → Type 0 where
  none : TakenTo came 0 []
  more : (at : ℕ) (how : Predecessor) (moves : List Move) → 0 < at → slice_get came at ≡ Some how →
      TakenTo came how.before moves → TakenTo came at (moves ++ listed how.moved)
