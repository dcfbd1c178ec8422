-- Lists of labels to which trees jump.
use Rattle.std.specs.Prelude.{ℕ, ◌≡◌, ◌<◌, ◌⊎◌, List, Some, slice_get}
use Rattle.control_flow_theory.specs.semantics.Graph as graph
use Rattle.control_flow_theory.specs.lowering.Reached.{ArmsJumpTo, JumpsTo}
use Rattle.pending_returns.specs.levels.Reach.{Holds}

-- the list has these labels too then, and is as it was otherwise
pub record AddsThose (IsNew : ℕ → Type 0) (before after : List ℕ) : Type 0 where
  -- each of these labels is in the list then
  pub added : (label : ℕ) → IsNew label → Holds after label
  -- the old list is its beginning
  pub kept : (at other : ℕ) → slice_get before at ≡ Some other → slice_get after at ≡ Some other
  -- it has no others
  pub only : (other : ℕ) → Holds after other → Holds before other ⊎ IsNew other

-- the list goes on with the labels to which an end jumps
abbrev pub AddsJumps : graph.End → (before after : List ℕ) → Type 0
AddsJumps end before after = AddsThose (λ label. JumpsTo label end) before after

-- those to which these trees jump
abbrev pub AddsArmJumps : graph.Trees → (before after : List ℕ) → Type 0
AddsArmJumps trees before after = AddsThose (λ label. ArmsJumpTo label trees) before after

-- the labels to which an end jumps are below this one
abbrev pub JumpBelow : ℕ → graph.End → Type 0
JumpBelow end at = (label : ℕ) → JumpsTo label at → label < end

-- those to which these trees jump are below this one
abbrev pub ArmsJumpBelow : ℕ → graph.Trees → Type 0
ArmsJumpBelow end trees = (label : ℕ) → ArmsJumpTo label trees → label < end
