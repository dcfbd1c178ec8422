-- Lemmas of a table's ranges.
use Rattle.std.specs.Prelude.{ℕ, ◌≡◌, ◌<◌, Bool, true, false, List, [], length, Option, Some, slice_get}
use Rattle.cob_tree.specs.declared.program.Range.{Range}
use Rattle.control_flow_theory.specs.language.Language.{Chooser, Program}
use Rattle.program_points.specs.declared.paths.trail.Lemma.{Lemma}
use Rattle.program_points.specs.paths.Step.{Point}
use Rattle.program_points.specs.paths.Accepted.{LemmasHold, NoneTwice, IsIn, lemma_ranges}
use Rattle.program_points.specs.declared.point_table.table.Table.{Table}
use Rattle.program_points.specs.point_table.Table.{IsTable, ReturnsHere}
use Rattle.pending_returns.specs.levels.Reach.{trues}
use Rattle.overlap_trail.specs.declared.finding.return_lemmas.ReturnLemmas.{ReturnLemmas}
use Rattle.overlap_trail.specs.finding.Search.{flags_of}

-- no range comes twice
abbrev pub RangesOnce : List Range → Type 0
RangesOnce ranges = (a b : ℕ) (range : Range) → slice_get ranges a ≡ Some range →
    slice_get ranges b ≡ Some range → a ≡ b

-- the numbers of the ranges' lemmas, where they have one
abbrev pub Numbers : Table → List Lemma → List (Option ℕ) → Type 0
Numbers table lemmas numbers = (number lemma : ℕ) →
    slice_get numbers number ≡ Some (Some lemma) → (range : Range)
    × (slice_get table.ranges number ≡ Some range)
    × (slice_get (lemma_ranges lemmas) lemma ≡ Some range)

-- the lemmas hold, one for each range that has a number
pub record Knows (table : Table) (lemmas : List Lemma) (numbers : List (Option ℕ)) : Type 0 where
  pub size : length numbers ≡ length table.ranges
  -- a range with a number has that lemma
  pub numbered : Numbers table lemmas numbers
  -- each lemma is that of a range with its number
  pub from : (range : Range) → IsIn range (lemma_ranges lemmas) → (number : ℕ) × (lemma : ℕ)
      × (slice_get table.ranges number ≡ Some range)
      × (slice_get numbers number ≡ Some (Some lemma))
  -- no range comes twice
  pub once : NoneTwice (lemma_ranges lemmas)
  -- the lemmas hold in each program of which this is a table
  pub hold : (never_first : Chooser → Bool) (program : Program) (points : ℕ → Point) →
      IsTable never_first program table points → LemmasHold never_first program [] lemmas

-- the range has its first lemma now, or all is as it was, and the range has one if it returns
abbrev pub Learns : Table → ReturnLemmas → ReturnLemmas → ℕ → Bool → Type 0
Learns table old new number true =
    trues (flags_of old.numbers.items) < trues (flags_of new.numbers.items)
Learns table old new number false = (new ≡ old) × ((range : Range) →
    slice_get table.ranges number ≡ Some range →
    ReturnsHere table (flags_of old.numbers.items) range →
    slice_get (flags_of old.numbers.items) number ≡ Some true)
