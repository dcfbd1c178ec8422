-- Runs of bytes of a kind among the first sixteen.
use Rattle.std.specs.Prelude.{ℕ, ◌≡◌, ◌<◌, ◌≤◌, ◌==◌, if◌then◌else◌, Bool, true, false, List, slice_index}
use Rattle.std.specs.Int.{w64, trailing_zeros}

-- the place of the lowest bit that is set, or 16
abbrev pub first_set : ℕ → ℕ
first_set mask = if mask == 0 then 16 else trailing_zeros w64 mask

-- of the first sixteen bytes so many are of the kind, and the next one isn't
pub record IsRunIn (kind : ℕ → Bool) (bytes : List ℕ) (run : ℕ) : Type 0 where
  pub within : run ≤ 16
  -- these are of the kind
  pub each : (k : ℕ) → k < run → kind (slice_index bytes k) ≡ true
  -- and the next one isn't, where there is one
  pub ends : run < 16 → kind (slice_index bytes run) ≡ false
