-- Steps that cost units, and meanings that take units in place of steps.
use Rattle.std.specs.Prelude.{ℕ, zero, suc, ◌≡◌, ◌+◌, ◌*◌, ◌≤◌, ◌<◌, ◌⊎◌, Bool, true}
use Rattle.control_flow_theory.specs.runs.Run.{Going, Run, Covers}
use Rattle.control_flow_theory.specs.runs.Tied.{Meaning}
use Rattle.control_flow_theory.specs.runs.Machine.{iterate, Machine}

-- what this many steps cost
abbrev pub spent : {State : Type 0} → (State → State) → (State → ℕ) → ℕ → State → ℕ
spent step cost zero state = 0
spent step cost (suc n) state = cost state + spent step cost n (step state)

-- a run is within the step at which this state stands: what was shown before it is shown, and what
-- is shown after it isn't passed
pub record Within {Event End State : Type 0} (step : State → State) (shows : State → Run Event End)
    (state : State) (run : Run Event End) : Type 0 where
  -- the run is still going
  pub going : run.standing ≡ Going
  -- what was shown before the step is shown
  pub past : Covers (shows state) run
  -- and nothing that the step doesn't show
  pub short : Covers run (shows (step state))

-- the run is the machine's as far as the units go: they pay its steps, and where it goes on not the
-- next one
pub record Payment {Event End State : Type 0} (step : State → State) (shows : State → Run Event End)
    (cost : State → ℕ) (parted : State → Bool) (start : State) (units : ℕ) (run : Run Event End)
    : Type 0 where
  -- so many steps are paid
  pub steps : ℕ
  -- the units pay them
  pub paid : spent step cost steps start ≤ units
  -- and where the run goes on, not one step more
  pub lacks : run.standing ≡ Going → units < spent step cost (suc steps) start
  -- the run is the state then, or within the next step
  pub shown : (shows (iterate step steps start) ≡ run)
      ⊎ ((parted (iterate step steps start) ≡ true)
      × Within step shows (iterate step steps start) run
      × (spent step cost (suc steps) start ≤ units + 1))

-- a meaning in units is the machine's run as far as the units go
abbrev pub Paid : {World Event End State : Type 0} → Meaning World Event End →
    Machine World Event End State → (State → ℕ) → (State → Bool) → Type 0
Paid {World} big machine cost parted = (world : World) (units : ℕ) →
    Payment machine.step machine.run cost parted (machine.begun world) units (big world units)

-- each run of m units in either meaning is covered by one of factor * (m + 1) units in the other
abbrev pub Matched : {World Event End : Type 0} → ℕ → Meaning World Event End →
    Meaning World Event End → Type 0
Matched {World} factor a b = (world : World) (m : ℕ) →
    Covers (a world m) (b world (factor * (m + 1)))
    × Covers (b world m) (a world (factor * (m + 1)))

-- each step of the first is some steps of the second, and over a run neither costs much more than
-- the other
pub record Charges {World Event End A B : Type 0} (a : Machine World Event End A)
    (b : Machine World Event End B) (cost_a : A → ℕ) (cost_b : B → ℕ) (parted : A → Bool)
    (factor : ℕ) (Related : A → B → Type 0) : Type 0 where
  -- what the second may still cost too much
  pub owed : (s : A) (t : B) → Related s t → ℕ
  -- what the first may still cost too much
  pub due : (s : A) (t : B) → Related s t → ℕ
  -- both begin so related
  pub starts : (world : World) → Related (a.begun world) (b.begun world)
  -- at the beginning neither owes much
  pub owes : (world : World) → owed (a.begun world) (b.begun world) (starts world) + 2 ≤ factor
  -- what is due at the start is within the factor
  pub dues : (world : World) → due (a.begun world) (b.begun world) (starts world) + 2 ≤ factor
  -- no step of the first costs more than two units
  pub cheap : (s : A) → cost_a s ≤ 2
  -- related states show the same
  pub agree : (s : A) (t : B) → Related s t → a.run s ≡ b.run t
  -- a step of the first leads to a related state, after some steps of the second
  pub moves : (s : A) (t : B) (r : Related s t) → (a.run s).standing ≡ Going →
      (j : ℕ) × (next : Related (a.step s) (iterate b.step j t))
      × (spent b.step cost_b j t ≤ factor * cost_a s + owed s t r)
      × ((a.run (a.step s)).standing ≡ Going →
      (spent b.step cost_b j t + owed (a.step s) (iterate b.step j t)
      next ≤ factor * cost_a s + owed s t r)
      × (cost_a s + due (a.step s) (iterate b.step j t)
      next ≤ factor * spent b.step cost_b j t + due s t r))
      × (parted s ≡ true → spent b.step cost_b j t ≤ owed s t r + 2)
