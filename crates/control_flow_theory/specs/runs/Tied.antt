-- Two meanings show the same, each within a number of steps of the other.
use Rattle.std.specs.Prelude.{ℕ, ◌≡◌, ◌+◌, ◌*◌, ◌≤◌}
use Rattle.control_flow_theory.specs.runs.Run.{Going, Run, IsOver, Covers}

-- the run of something, from a world, in a number of steps
abbrev pub Meaning : Type 0 → Type 0 → Type 0 → Type 0
Meaning World Event End = World → ℕ → Run Event End

-- it shows more with more steps, and a run that is over stays
abbrev pub Steady : {World Event End : Type 0} → Meaning World Event End → Type 0
Steady {World} a = (world : World) (m n : ℕ) → m ≤ n → Covers (a world m) (a world n)

-- the two numbers are chosen before the world and the steps
pub record Tied {World Event End : Type 0} (a b : Meaning World Event End) : Type 0 where
  -- how many steps of the second one of the first may take
  pub there : ℕ
  -- how many steps of the first one of the second may take
  pub back : ℕ
  -- what the first shows, the second shows within so many times as many steps
  pub covered : (world : World) (n k : ℕ) → there * (n + 1) ≤ k → Covers (a world n) (b world k)
  -- what the second shows, the first shows within so many times as many steps
  pub covers : (world : World) (n k : ℕ) → back * (n + 1) ≤ k → Covers (b world n) (a world k)

-- each run of the first is a run of the second, at a like pace
pub record Paced {World Event End : Type 0} (a b : Meaning World Event End) : Type 0 where
  -- how many steps of the second one of the first may take
  pub there : ℕ
  -- how many steps of the first one of the second may take
  pub back : ℕ
  -- each run of the first is one of the second, of about so many steps
  pub paced : (world : World) (n : ℕ) → (k : ℕ) × (a world n ≡ b world k) × (k ≤ there * (n + 1))
      × ((a world n).standing ≡ Going → n ≤ back * (k + 1))

-- the run is this one after some number of steps
abbrev pub ComesTo : {World Event End : Type 0} → Meaning World Event End → World → Run Event End →
    Type 0
ComesTo a world run = (n : ℕ) × (a world n ≡ run)

-- the same, in at most so many steps
abbrev pub ComesToWithin : {World Event End : Type 0} → ℕ → Meaning World Event End → World →
    Run Event End → Type 0
ComesToWithin most a world run = (n : ℕ) × (n ≤ most) × (a world n ≡ run)

-- both come to one run that is over, in every world, in a number of steps fixed beforehand
pub record EndAlike {World Event End : Type 0} (a b : Meaning World Event End) : Type 0 where
  -- so many steps are enough for both
  pub most : ℕ
  -- the run that both come to
  pub whole : World → Run Event End
  -- it is over
  pub over : (world : World) → IsOver (whole world)
  -- the first comes to it
  pub first : (world : World) → ComesToWithin most a world (whole world)
  -- the second comes to it
  pub second : (world : World) → ComesToWithin most b world (whole world)
