-- A machine makes one step after the other.
use Rattle.std.specs.Prelude.{ℕ, zero, suc, ◌≡◌, ◌+◌, ◌*◌, ◌≤◌}
use Rattle.control_flow_theory.specs.runs.Run.{Going, Run, IsOver, Covers}
use Rattle.control_flow_theory.specs.runs.Tied.{Meaning}

-- the state after so many steps
abbrev pub iterate : {State : Type 0} → (State → State) → ℕ → State → State
iterate step zero state = state
iterate step (suc n) state = iterate step n (step state)

-- the steps come from the first state to the second
abbrev pub Reaches : {State : Type 0} → (State → State) → State → State → Type 0
Reaches step from to = (n : ℕ) × (iterate step n from ≡ to)

-- the same, in at most so many steps
abbrev pub ReachesWithin : {State : Type 0} → ℕ → (State → State) → State → State → Type 0
ReachesWithin most step from to = (n : ℕ) × (n ≤ most) × (iterate step n from ≡ to)

-- a machine: its step, what a state has shown, and where it begins
pub record Machine (World Event End State : Type 0) : Type 0 where
  pub step : State → State
  -- what a state has shown, and how its run stands
  pub run : State → Run Event End
  -- where it begins, in a world
  pub begun : World → State

-- what a machine shows after so many steps, and how it stands then
abbrev pub meaning : {World Event End State : Type 0} → Machine World Event End State →
    Meaning World Event End
meaning machine world n = machine.run (iterate machine.step n (machine.begun world))

-- a step shows more, and a state that is over stays
pub record Grows {World Event End State : Type 0} (machine : Machine World Event End State) : Type 0
  where
    -- a step shows more
    pub more : (state : State) → Covers (machine.run state) (machine.run (machine.step state))
    -- a state that is over stays
    pub stays : (state : State) → IsOver (machine.run state) → machine.step state ≡ state

-- each step of the first machine is some steps of the second; where it is none, the weight falls
pub record Simulates {World Event End A B : Type 0} (a : Machine World Event End A)
    (b : Machine World Event End B) (Related : A → B → Type 0) : Type 0 where
  -- falls where a step of the first is none of the second
  pub weight : A → ℕ
  -- the weight at the beginning is no more than this
  pub first : ℕ
  -- a step of the first is so many steps of the second at most
  pub most : ℕ
  -- the weight grows by so much for each of them at most
  pub growth : ℕ
  -- the weight at the beginning is within that bound
  pub light : (world : World) → weight (a.begun world) ≤ first
  -- both begin so related
  pub starts : (world : World) → Related (a.begun world) (b.begun world)
  -- related states show the same
  pub agree : (s : A) (t : B) → Related s t → a.run s ≡ b.run t
  -- a step of the first leads to a related state, after some steps of the second
  pub moves : (s : A) (t : B) → Related s t → (a.run s).standing ≡ Going →
      (j : ℕ) × Related (a.step s) (iterate b.step j t) × (j ≤ most)
      × (weight (a.step s) + 1 ≤ weight s + (growth + 1) * j)
