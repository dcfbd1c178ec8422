-- A trail's hops along a chain of ranges.
use Rattle.std.specs.Prelude.{ℕ, suc, ◌≡◌, List, [], ◌∷◌, ◌++◌, length, Option, Some, None, slice_get}
use Rattle.cob_tree.specs.declared.program.Range.{Range}
use Rattle.cob_tree.specs.declared.ending.FlowFault.{FlowFault}
use Rattle.cob_tree.specs.declared.ending.FlowFault.TheVariants.{Overlap, Reentry}
use Rattle.program_points.specs.declared.paths.trail.Move.{Move}
use Rattle.program_points.specs.declared.paths.trail.Move.TheVariants.{Into}
use Rattle.program_points.specs.declared.paths.trail.Hop.{Hop}
use Rattle.program_points.specs.declared.point_table.table.Table.{Table}
use Rattle.overlap_trail.specs.declared.finding.goal.SearchGoal.{SearchGoal}
use Rattle.overlap_trail.specs.declared.finding.goal.SearchGoal.TheVariants.{End, Enter, Ending}
use Rattle.overlap_trail.specs.finding.Goal.{IsMetBy}

-- what the last level is followed to
abbrev pub aim_of : FlowFault → SearchGoal
aim_of (Overlap paragraph) = End paragraph
aim_of (Reentry paragraph) = Ending paragraph

-- what a level is followed to: the later range, or the fault where there is none
abbrev pub aim_before : Option Range → FlowFault → SearchGoal
aim_before None fault = aim_of fault
aim_before (Some later) fault = Enter later

-- what the level with this number is followed to: the next range, or the fault
abbrev pub aim_at : List Range → FlowFault → ℕ → SearchGoal
aim_at ranges fault number = aim_before (slice_get ranges (suc number)) fault

-- the move that enters the later range, if there is one
abbrev pub into_of : Option Range → List Move
into_of None = []
into_of (Some later) = Into ∷ []

-- the hop follows the range's level there
abbrev pub IsHop : Table → List (Option ℕ) → Range → Option Range → FlowFault → Hop → Type 0
IsHop table numbers range later fault hop = (hop.range ≡ range) × ((moves : List Move)
    × (hop.moves ≡ moves ++ into_of later)
    × IsMetBy table numbers range (aim_before later fault) moves)

-- a hop for each range
pub record HopsCome (table : Table) (numbers : List (Option ℕ)) (ranges : List Range) (fault :
    FlowFault) (hops : List Hop) : Type 0 where
  pub size : length hops ≡ length ranges
  -- each hop follows the level of its range
  pub each : (at : ℕ) (range : Range) (hop : Hop) → slice_get ranges at ≡ Some range →
      slice_get hops at ≡ Some hop →
      IsHop table numbers range (slice_get ranges (suc at)) fault hop
