-- What a level is followed to.
use Rattle.std.specs.Prelude.{ℕ, ◌≡◌, Bool, true, List, Option, Some, slice_get}
use Rattle.cob_tree.specs.declared.program.Range.{Range}
use Rattle.program_points.specs.declared.paths.trail.Move.{Move}
use Rattle.program_points.specs.paths.Flow.{is_exit}
use Rattle.program_points.specs.declared.point_table.table.ProgramPoint.{ProgramPoint}
use Rattle.program_points.specs.declared.point_table.table.ProgramPoint.TheVariants.{Calls, Ends}
use Rattle.program_points.specs.declared.point_table.table.Table.{Table}
use Rattle.program_points.specs.point_table.Table.{ComesIn}
use Rattle.pending_returns.specs.levels.Reach.{Holds}
use Rattle.overlap_trail.specs.declared.finding.goal.SearchGoal.{SearchGoal}
use Rattle.overlap_trail.specs.declared.finding.goal.SearchGoal.TheVariants.{End, Enter, Ending}
use Rattle.overlap_trail.specs.declared.finding.goal.SearchOutcome.{SearchOutcome}
use Rattle.overlap_trail.specs.declared.finding.goal.SearchOutcome.TheVariants.{Moves, Nowhere}
use Rattle.overlap_trail.specs.finding.Search.{flags_of, ComesBy}

-- the aim is met at the place: it is the paragraph's end, or performs such a range
abbrev pub IsAimed : Table → SearchGoal → ProgramPoint → Type 0
IsAimed table (End paragraph) (Ends end) = end ≡ paragraph
IsAimed table (Enter range) (Calls called after) = slice_get table.ranges called ≡ Some range
IsAimed table (Ending paragraph) (Calls called after) = (range : Range)
    × (slice_get table.ranges called ≡ Some range) × (is_exit range.exit paragraph ≡ true)
IsAimed table aim place = ⊥

-- what is sought is met at none of the places
abbrev pub NoneMeets : Table → SearchGoal → List ℕ → Type 0
NoneMeets table aim places = (place : ℕ) (here : ProgramPoint) → Holds places place →
    slice_get table.places place ≡ Some here → IsAimed table aim here → ⊥

-- what is sought is met at the place with this number in the list
abbrev pub MeetsAt : Table → SearchGoal → List ℕ → ℕ → Type 0
MeetsAt table aim places at =
    (place : ℕ) × (here : ProgramPoint) × (slice_get places at ≡ Some place)
    × (slice_get table.places place ≡ Some here) × IsAimed table aim here

-- what is sought is met nowhere that the level comes to, where these ranges return
abbrev pub IsMetNowhere : Table → List Bool → Range → SearchGoal → Type 0
IsMetNowhere table returns range aim = (place : ℕ) (here : ProgramPoint) →
    ComesIn table returns range place → slice_get table.places place ≡ Some here →
    IsAimed table aim here → ⊥

-- what is sought is met somewhere there
abbrev pub IsMetSomewhere : Table → List Bool → Range → SearchGoal → Type 0
IsMetSomewhere table returns range aim = (place : ℕ) × (here : ProgramPoint)
    × ComesIn table returns range place × (slice_get table.places place ≡ Some here)
    × IsAimed table aim here

-- these moves lead to where what is sought is met, where these ranges have lemmas
abbrev pub IsMetBy : Table → List (Option ℕ) → Range → SearchGoal → List Move → Type 0
IsMetBy table numbers range aim moves = (place : ℕ) × (here : ProgramPoint)
    × ComesBy table numbers range place moves × (slice_get table.places place ≡ Some here)
    × IsAimed table aim here

-- what is found is right
abbrev pub IsRoute : Table → List (Option ℕ) → Range → SearchGoal → SearchOutcome → Type 0
IsRoute table numbers range aim (Moves moves) = IsMetBy table numbers range aim moves
IsRoute table numbers range aim (Nowhere places) =
    IsMetNowhere table (flags_of numbers) range aim
