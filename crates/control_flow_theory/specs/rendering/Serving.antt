-- When the written parts do what the parts and the words on cells do.
use Rattle.std.specs.Prelude.{ℕ, suc, ◌≡◌, ◌≤◌, ◌-◌, Bool, true, ◌==◌, [], ◌⊎◌, List, length}
use Rattle.control_flow_theory.specs.semantics.Outcome.{Tried, Got, Ends}
use Rattle.control_flow_theory.specs.language.Language.{Simple, Cond, Chooser, Amount, Range}
use Rattle.control_flow_theory.specs.semantics.Doing.{Acting, Celled, own_is, put, keeping, taken, is_above}
use Rattle.control_flow_theory.specs.rendering.Rendering.{Naming}
use Rattle.control_flow_theory.specs.rendering.Procedures.{Writable}

-- both numbers choose the same of so many arms, or both none
abbrev pub SameArm : (arms first second : ℕ) → Type 0
SameArm arms first second = (first ≡ second) ⊎ ((arms ≤ first) × (arms ≤ second))

-- two parts give alike values and show the same, and the memories after them go together; or both
-- end the run, in the same way
abbrev pub Alike : {Memory Other Left Value : Type 0} → (Memory → Left) → (Other → Left) →
    (Celled Memory → Other → Type 0) → (Value → Value → Type 0) →
    Tried (Celled Memory) Value → Tried Other Value → Type 0
Alike left other_left Carries Same (Got trace value memory) (Got other_trace other_value other) =
    (trace ≡ other_trace) × Same value other_value × Carries memory other
Alike left other_left Carries Same (Got trace value memory) (Ends other_trace kind other) = ⊥
Alike left other_left Carries Same (Ends trace kind memory) (Got other_trace other_value other) = ⊥
Alike left other_left Carries Same (Ends trace kind memory) (Ends other_trace other_kind other) =
    (trace ≡ other_trace) × (kind ≡ other_kind) × (left memory.own ≡ other_left other)

-- the result's memory carries the program's own memory and the cells
pub record Serves {Memory Other Left World : Type 0} (acting : Acting Memory) (left : Memory → Left)
    (first : World → Memory) (result : Acting Other) (other_left : Other → Left)
    (other_first : World → Other) (Carries : Celled Memory → Other → Type 0) (naming : Naming)
    (kinds : Writable) : Type 0 where
  -- the first memories, in which each cell is zero
  pub starts : (world : World) →
      Carries (record { own = first world; cells = λ range cell. 0 }) (other_first world)
  -- the same is left
  pub leaves : (memory : Celled Memory) (other : Other) → Carries memory other →
      left memory.own ≡ other_left other
  -- CONTINUE does nothing
  pub nothing : (memory : Celled Memory) (other : Other) → Carries memory other →
      Alike {Value = Unit {0}} left other_left Carries (λ a b. Unit {0}) (Got [] tt memory)
      (result.act naming.nothing other)
  -- an own part of the program does the same on both, and leaves the cells
  pub simple : (simple : Simple) (memory : Celled Memory) (other : Other) →
      kinds.simples simple ≡ true → Carries memory other →
      Alike {Value = Unit {0}} left other_left Carries (λ a b. Unit {0})
      (keeping (own_is memory) (acting.act simple memory.own))
      (result.act (naming.simple simple) other)
  -- a condition of the program holds alike
  pub cond : (cond : Cond) (memory : Celled Memory) (other : Other) → kinds.conds cond ≡ true →
      Carries memory other →
      Alike left other_left Carries (◌≡◌ {A = Bool})
      (keeping (own_is memory) (acting.test cond memory.own))
      (result.test (naming.cond cond) other)
  -- a choice of the program takes the same arm
  pub chooser : (chooser : Chooser) (arms : List Bool) (memory : Celled Memory) (other : Other) →
      kinds.choosers chooser arms ≡ true → Carries memory other →
      Alike left other_left Carries (SameArm (length arms))
      (keeping (own_is memory) (acting.choose chooser memory.own))
      (result.choose (naming.chooser chooser arms) other)
  -- an operand of TIMES counts alike
  pub amount : (amount : Amount) (memory : Celled Memory) (other : Other) →
      kinds.amounts amount ≡ true → Carries memory other →
      Alike left other_left Carries (◌≡◌ {A = ℕ})
      (keeping (own_is memory) (acting.count amount memory.own))
      (result.count (naming.amount amount) other)
  -- a cell is set to the number, and all else stays
  pub set : (range : Range) (cell value : ℕ) (memory : Celled Memory) (other : Other) →
      kinds.sets range cell value ≡ true → Carries memory other →
      Alike {Value = Unit {0}} left other_left Carries (λ a b. Unit {0})
      (Got [] tt (put range cell value memory)) (result.act (naming.set range cell value) other)
  -- the cell takes what the operand of TIMES holds
  pub take : (range : Range) (cell : ℕ) (amount : Amount) (memory : Celled Memory) (other : Other) →
      kinds.counts range cell ≡ true → kinds.amounts amount ≡ true → Carries memory other →
      Alike {Value = Unit {0}} left other_left Carries (λ a b. Unit {0})
      (taken range cell memory (acting.count amount memory.own))
      (result.act (naming.take range cell amount) other)
  -- the cell is lowered by one
  pub lower : (range : Range) (cell : ℕ) (memory : Celled Memory) (other : Other) →
      kinds.counts range cell ≡ true → Carries memory other →
      Alike {Value = Unit {0}} left other_left Carries (λ a b. Unit {0})
      (Got [] tt (put range cell (memory.cells range cell - 1) memory))
      (result.act (naming.lower range cell) other)
  -- the cell is compared with the number
  pub is : (range : Range) (cell value : ℕ) (memory : Celled Memory) (other : Other) →
      kinds.compares range cell value ≡ true → Carries memory other →
      Alike left other_left Carries (◌≡◌ {A = Bool})
      (Got [] (memory.cells range cell == value) memory)
      (result.test (naming.is range cell value) other)
  -- the cell is tested for being above zero
  pub above : (range : Range) (cell : ℕ) (memory : Celled Memory) (other : Other) →
      kinds.aboves range cell ≡ true → Carries memory other →
      Alike left other_left Carries (◌≡◌ {A = Bool})
      (Got [] (is_above (memory.cells range cell)) memory)
      (result.test (naming.above range cell) other)
  -- nothing is claimed of a choice by a cell that is zero
  pub by_cell : (range : Range) (cell : ℕ) (arms : List Bool) (arm : ℕ) (memory : Celled Memory)
      (other : Other) → kinds.chooses range cell (length arms) ≡ true →
      memory.cells range cell ≡ suc arm → Carries memory other →
      Alike left other_left Carries (SameArm (length arms)) (Got [] arm memory)
      (result.choose (naming.by_cell range cell arms) other)
