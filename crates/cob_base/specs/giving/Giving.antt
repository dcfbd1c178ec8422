-- What a sink gains.
use Rattle.std.specs.Prelude.{ℕ, ◌≡◌, List, ◌++◌, take, Option, Some, None}
use Rattle.cob_base.specs.Faults.{Rose}
use Rattle.cob_base.specs.Sink.{SinkCall}

-- what is held then is what was held, and these bytes
abbrev pub Gained : List ℕ → Option (List ℕ) → Option (List ℕ) → Type 0
Gained bytes None now = now ≡ None
Gained bytes (Some held) now = now ≡ Some (held ++ bytes)

-- the sink gained these bytes
abbrev pub Gains : List ℕ → SinkCall → Type 0
Gains bytes sink = Gained bytes sink.held sink.now

-- the sink holds what it held
abbrev pub Keeps : SinkCall → Type 0
Keeps sink = sink.now ≡ sink.held

-- the sink gained a front of these bytes, and all of them unless its count rose
pub record Takes (bytes : List ℕ) (sink : SinkCall) : Type 0 where
  pub some : ℕ
  -- the sink gained so many of them
  pub gained : Gains (take some bytes) sink
  -- and all, unless its count of failures rose
  pub all : (Rose sink.count sink.count_now → ⊥) → take some bytes ≡ bytes
