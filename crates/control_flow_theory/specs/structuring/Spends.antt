-- Steps of one machine against steps of another, in units: the second may begin some steps earlier,
-- and may make steps that show nothing.
use Rattle.std.specs.Prelude.{ℕ, ◌≡◌, ◌+◌, ◌*◌, ◌≤◌, Bool, true}
use Rattle.control_flow_theory.specs.runs.Run.{Going}
use Rattle.control_flow_theory.specs.runs.Machine.{iterate, Machine}
use Rattle.control_flow_theory.specs.graph_rules.Charged.{spent}

-- each step of the first is some steps of the second, and over a run neither costs much more than
-- the other
pub record Spends {World Event End A B : Type 0} (a : Machine World Event End A)
    (b : Machine World Event End B) (cost_a : A → ℕ) (cost_b : B → ℕ) (parted : A → Bool)
    (factor : ℕ) (Related : A → B → Type 0) : Type 0 where
  -- what the second may still cost too much
  pub owed : A → B → ℕ
  -- the second comes to where the first begins
  pub starts : (world : World) → (k : ℕ)
      × Related (a.begun world) (iterate b.step k (b.begun world))
      × (spent b.step cost_b k (b.begun world) + owed (a.begun world)
      (iterate b.step k (b.begun world)) + 2 ≤ factor)
  -- no step of the first costs more than two units
  pub cheap : (s : A) → cost_a s ≤ 2
  -- related states show the same
  pub agree : (s : A) (t : B) → Related s t → a.run s ≡ b.run t
  -- where units may end within the step, all that the second shows is shown by its first steps
  pub moves : (s : A) (t : B) → Related s t → (a.run s).standing ≡ Going →
      (j : ℕ) × Related (a.step s) (iterate b.step j t)
      × (spent b.step cost_b j t + owed (a.step s) (iterate b.step j t)
      ≤ factor * cost_a s + owed s t)
      × (cost_a s ≤ factor * spent b.step cost_b j t)
      × (parted s ≡ true → (i : ℕ) × (b.run (iterate b.step i t) ≡ b.run (iterate b.step j t))
      × (spent b.step cost_b i t ≤ owed s t + 2))
