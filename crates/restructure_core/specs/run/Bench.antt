-- The bench of a call, before it and after it.
use Rattle.std.specs.Prelude.{ℕ, ◌≡◌, List, take}
use Rattle.file_model.specs.declared.bench.Bench.{Bench}
use Rattle.file_model.specs.operations.Seen.{Seen}

-- a bench before and after a call: how many devices are on it, and what contracts see of all of
-- them, of which those on it come first
pub record BenchCall : Type 0 where
  -- how many devices were on the bench
  pub left : ℕ
  -- how many are on it
  pub left_now : ℕ
  -- the devices before the call
  pub old : List Seen
  -- the devices after the call
  pub new : List Seen

-- a call's bench, by what contracts see of a bench's devices, and the bench before and after
abbrev pub bench_call : {Table : Type 0} {Held : Table → Type 0} →
    (Bench Table Held → List Seen) → Bench Table Held → Bench Table Held → BenchCall
bench_call devices old new = record {
  left = old.left;
  left_now = new.left;
  old = devices old;
  new = devices new;
}

-- the devices that were on the bench
abbrev pub devices_before : BenchCall → List Seen
devices_before bench = take bench.left bench.old

-- the devices that are on it
abbrev pub devices_after : BenchCall → List Seen
devices_after bench = take bench.left_now bench.new

-- the bench is as it was
abbrev pub StaysAsWas : BenchCall → Type 0
StaysAsWas bench = (bench.left_now ≡ bench.left) × (bench.new ≡ bench.old)
