-- How ranges go on from a rest.
use Rattle.std.specs.Prelude.{ℕ, ◌≡◌, ◌==◌, Bool, true, false, if◌then◌else◌, List, Option, Some, None, slice_get}
use Rattle.cob_tree.specs.declared.program.Range as code
use Rattle.statement_lowering.specs.declared.continuations.continuation.Successors.{Successors}
use Rattle.statement_lowering.specs.declared.continuations.continuation.Continuation.{Continuation}
use Rattle.flow_graph.specs.label_trees.Node.{returns_at}
use Rattle.flow_graph.specs.declared.range_sizes.exits.Passing.{Passing}
use Rattle.flow_graph.specs.declared.range_sizes.exits.Passing.TheVariants.{Falls, Returns, Leaves}

-- how a range with this exit does
abbrev pub passing_of : Option ℕ → Successors → Passing
passing_of exit onward =
    if returns_at exit onward.paragraph then Returns
    else if returns_at exit onward.last then Leaves else Falls

-- a range does from the rest at a place
pub record GoesSo (spots : List Continuation) (range : code.Range) (place : ℕ)
    (passing : Passing) : Type 0
  where
    pub spot : Continuation
    -- the rest at the place
    pub there : slice_get spots place ≡ Some spot
    -- the range goes on so from it
    pub goes : passing_of range.exit spot.onward ≡ passing

-- the one rest is in the paragraph and section of the other
abbrev pub stands_within : Successors → Successors → Bool
stands_within onward behind =
    if behind.paragraph == onward.paragraph then behind.last == onward.last else false

-- a rest, if there is one, is in the paragraph and section of the other
abbrev pub found_within : Successors → Option Continuation → Bool
found_within onward None = true
found_within onward (Some spot) = stands_within onward spot.onward

-- the rest at a place, if there is one, is in the paragraph and section of the other
abbrev pub goes_within : List Continuation → Successors → ℕ → Bool
goes_within spots onward next = found_within onward (slice_get spots next)

-- each rest at which a tree goes on is in the paragraph and section of the one before it
abbrev pub AllGoWithin : List Continuation → Type 0
AllGoWithin spots = (at next : ℕ) (spot : Continuation) → slice_get spots at ≡ Some spot →
    spot.onward.behind ≡ Some next → goes_within spots spot.onward next ≡ true
