-- What a sink takes, and when it may answer a failure.
use Rattle.std.specs.Prelude.{ℕ, ◌≡◌, ◌-◌, ◌<◌, ◌≤◌, min, max, Bool, true, false, List, ◌++◌, take, Option, Some, None, vec_len, vec_capacity}
use Rattle.cob_base.specs.declared.sink.Gave.{Gave}
use Rattle.cob_base.specs.declared.sink.Gave.TheVariants as gave
use Rattle.cob_base.specs.declared.sink.MemSink.{MemSink}
use Rattle.cob_base.specs.Faults.{Rose}

-- how many of these bytes were taken
abbrev pub taken : Gave → ℕ → ℕ
taken gave.All n = n
taken (gave.Part k) n = k
taken gave.Failed n = 0

-- what is held, the piece, the answer, what is held then
abbrev pub Gives : Option (List ℕ) → List ℕ → Gave → Option (List ℕ) → Type 0
Gives None piece answer now = now ≡ None
Gives (Some held) piece gave.All now = now ≡ Some (held ++ piece)
Gives (Some held) piece (gave.Part n) now = now ≡ Some (held ++ take n piece)
Gives (Some held) piece gave.Failed now = now ≡ Some held

-- a part is of at least one byte, unless the piece is empty, and at most the whole
abbrev pub IsPart : ℕ → Gave → Type 0
IsPart whole (gave.Part n) = (n ≤ whole) × (0 < whole → 0 < n)
IsPart whole _ = Unit {0}

-- whether the answer is a failure
abbrev pub gave_fails : Gave → Bool
gave_fails gave.All = false
gave_fails (gave.Part n) = false
gave_fails gave.Failed = true

-- no count falls, and where the answer is Failed it rose, or is at its last value
pub record GaveCause (before now : ℕ) (answer : Gave) : Type 0 where
  -- the count doesn't fall
  pub later : before ≤ now
  -- where the answer is Failed, it rose
  pub failed : answer ≡ gave.Failed → Rose before now

-- a sink before and after a call: what it tells to hold, and how often it failed
pub record SinkCall : Type 0 where
  -- what it held before the call, if it tells
  pub held : Option (List ℕ)
  -- what it holds after the call, if it tells
  pub now : Option (List ℕ)
  -- how often it had failed
  pub count : ℕ
  -- how often it has failed
  pub count_now : ℕ

-- a call's sink, by what a sink holds, how often it failed, and itself before and after
abbrev pub sink_call : {K : Type 0} → (K → Option (List ℕ)) → (K → ℕ) → K → K → SinkCall
sink_call held faults old new = record {
  held = held old;
  now = held new;
  count = faults old;
  count_now = faults new;
}

-- the room of a sink in memory
abbrev pub mem_room : MemSink → ℕ
mem_room sink = vec_capacity sink.held - vec_len sink.held

-- unless it fails, a piece of this many bytes is taken, or all where there are fewer; 0 counts as 1
abbrev pub TakesPiece : ℕ → ℕ → Gave → Type 0
TakesPiece piece whole answer =
    gave_fails answer ≡ false → taken answer whole ≡ min (max piece 1) whole
