-- How the failures of the outside are counted.
use Rattle.std.specs.Prelude.{ℕ, ◌+◌, ◌-◌, ◌^◌, ◌≤◌, min, Bool, if◌then◌else◌}

-- the count rose, or is at its last value
abbrev pub Rose : ℕ → ℕ → Type 0
Rose before now = min (before + 1) (2 ^ 64 - 1) ≤ now

-- the count with one more, where it fails; it stays at the largest number
abbrev pub counted_on : Bool → ℕ → ℕ
counted_on fails count = if fails then min (count + 1) (2 ^ 64 - 1) else count
