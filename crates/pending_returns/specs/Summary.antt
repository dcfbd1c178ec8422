-- What a summary tells of a program.
use Rattle.std.specs.Prelude.{ℕ, suc, ◌≡◌, ◌<◌, ◌≤◌, ◌↔◌, Bool, true, false, List, length, Some, slice_get}
use Rattle.cob_base.specs.Limit.{max_ranges, past}
use Rattle.cob_base.specs.declared.limit.Limit.{Limit}
use Rattle.cob_base.specs.declared.limit.LimitKind.TheVariants.{Ranges}
use Rattle.cob_tree.specs.declared.fault.SplitFault.{SplitFault}
use Rattle.cob_tree.specs.declared.fault.SplitFault.TheVariants as fault
use Rattle.cob_tree.specs.declared.program.Range.{Range}
use Rattle.cob_tree.specs.declared.program.Program as tree
use Rattle.control_flow_theory.specs.language.Language.{Chooser, Program}
use Rattle.program_points.specs.paths.Flow.{main_range, ReturnsIn, CallsIn, EndsIn, IsRange, IsReached}
use Rattle.pending_returns.specs.levels.Reach.{Holds}
use Rattle.program_points.specs.perform_ranges.Named.{is_before, AreRangesOf}
use Rattle.pending_returns.specs.declared.facts.RangeFacts.{RangeFacts}
use Rattle.pending_returns.specs.declared.facts.Summary.{Summary}

-- each number is less than the next
abbrev pub Rises : List ℕ → Type 0
Rises numbers = (at number next : ℕ) → slice_get numbers at ≡ Some number →
    slice_get numbers (suc at) ≡ Some next → number < next

-- the facts with this number are the range's
abbrev pub IsNumber : List RangeFacts → ℕ → Range → Type 0
IsNumber ranges number range = (facts : RangeFacts) × (slice_get ranges number ≡ Some facts)
    × (facts.range ≡ range)

-- the facts are what the range's level does
pub record Tells (never_first : Chooser → Bool) (program : Program) (ranges : List RangeFacts)
    (facts : RangeFacts) : Type 0 where
  -- it returns just where the facts say so
  pub returns : facts.returns ≡ true ↔ ReturnsIn never_first program facts.range
  -- it performs just these ranges
  pub calls : (called : Range) → CallsIn never_first program facts.range called ↔ ((number : ℕ)
      × Holds facts.calls number × IsNumber ranges number called)
  -- each of them is in the summary
  pub calls_known : (number : ℕ) → Holds facts.calls number → number < length ranges
  pub calls_rise : Rises facts.calls
  -- it passes just these ends
  pub ends : (paragraph : ℕ) → EndsIn never_first program facts.range paragraph ↔ Holds facts.ends
      paragraph
  pub ends_rise : Rises facts.ends

-- main, and the ranges that some free flow path performs, in their order; what they do; and the
-- paragraphs to which a free flow path comes
pub record IsSummary (never_first : Chooser → Bool) (program : Program) (summary : Summary)
    : Type 0 where
  -- the ranges are just those that some free flow path performs
  pub ranges : (range : Range) → IsRange never_first program range ↔ ((number : ℕ)
      × IsNumber summary.ranges number range)
  -- main is the first
  pub main : IsNumber summary.ranges 0 main_range
  -- each is before the next
  pub rising : (number : ℕ) (facts next : RangeFacts) →
      slice_get summary.ranges number ≡ Some facts →
      slice_get summary.ranges (suc number) ≡ Some next → is_before facts.range next.range ≡ true
  -- the facts of each are what its level does
  pub told : (number : ℕ) (facts : RangeFacts) → slice_get summary.ranges number ≡ Some facts →
      Tells never_first program summary.ranges facts
  -- a paragraph is marked just where a free flow path comes to it
  pub reached : (paragraph : ℕ) → IsReached never_first program paragraph
      ↔ (slice_get summary.reached paragraph ≡ Some true)
  -- each paragraph has a mark
  pub size : length summary.reached ≡ length program.paragraphs

-- The limit.

-- the PERFORM statements of the text name so many distinct ranges, main included
abbrev pub NamesSoMany : tree.Program → ℕ → Type 0
NamesSoMany program counted = (ranges : List Range) × AreRangesOf program ranges
    × (length ranges ≡ counted)

-- the text of the program names no more ranges than their limit
abbrev pub IsWithin : tree.Program → Type 0
IsWithin program = (counted : ℕ) × NamesSoMany program counted × (counted ≤ max_ranges)

-- the limit of ranges, which so many pass
abbrev pub limit_at : ℕ → Limit
limit_at counted = past Ranges false counted

-- the fault is the limit, passed by so many
abbrev pub IsLimit : ℕ → SplitFault → Type 0
IsLimit counted (fault.Limit limit) = limit ≡ limit_at counted
IsLimit counted fault.NoMemory = ⊥

-- out of memory, or the limit, where it is passed
abbrev pub IsRangeLimitOrNoMemory : tree.Program → SplitFault → Type 0
IsRangeLimitOrNoMemory program (fault.Limit limit) =
    (counted : ℕ) × NamesSoMany program counted × (max_ranges < counted)
    × (limit ≡ limit_at counted)
IsRangeLimitOrNoMemory program fault.NoMemory = Unit {0}
