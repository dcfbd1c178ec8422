-- What a source gives, and when it may answer a failure.
use Rattle.std.specs.Prelude.{ℕ, ◌≡◌, ◌<◌, ◌≤◌, Bool, true, false, List, [], ◌++◌, length, take, drop, Option, Some, None}
use Rattle.cob_base.specs.declared.source.Took.{Took}
use Rattle.cob_base.specs.declared.source.Took.TheVariants as took
use Rattle.cob_base.specs.declared.source.MemSource.{MemSource}
use Rattle.cob_base.specs.Faults.{Rose}

-- the number is at most the length of the buffer
abbrev pub TakesAtMost : ℕ → Took → Type 0
TakesAtMost most (took.Bytes n) = n ≤ most
TakesAtMost most _ = Unit {0}

-- n bytes are given to the front of the buffer: at least one, unless none are left or none fit;
-- where none are left and none fit, that is the end
pub record TakesBytes (bytes : List ℕ) (n : ℕ) (old new : List ℕ)
    (now : Option (List ℕ)) : Type 0 where
  pub within : n ≤ length bytes
  -- the front of the buffer is the first of them
  pub given : new ≡ take n bytes ++ drop n old
  -- the others are left
  pub left : now ≡ Some (drop n bytes)
  -- some are given, where there are some and room for one
  pub moves : 0 < length old → 0 < length bytes → 0 < n
  -- where none are left there was room; without room that is the end
  pub some : length bytes ≡ 0 → 0 < length old

-- what is left, the answer, the buffer before and after, what is left then
abbrev pub Takes : Option (List ℕ) → Took → List ℕ → List ℕ → Option (List ℕ) → Type 0
Takes None answer old new now = now ≡ None
Takes (Some bytes) (took.Bytes n) old new now = TakesBytes bytes n old new now
Takes (Some bytes) took.End old new now = (bytes ≡ []) × (now ≡ Some [])
Takes (Some bytes) took.Failed old new now = now ≡ Some bytes

-- whether the answer is a failure
abbrev pub took_fails : Took → Bool
took_fails (took.Bytes n) = false
took_fails took.End = false
took_fails took.Failed = true

-- no count falls, and where the answer is Failed it rose, or is at its last value
pub record TookCause (before now : ℕ) (answer : Took) : Type 0 where
  -- the count doesn't fall
  pub later : before ≤ now
  -- where the answer is Failed, it rose
  pub failed : answer ≡ took.Failed → Rose before now

-- a source before and after a call: what it tells to be left, and how often it failed
pub record SourceCall : Type 0 where
  -- what was left before the call, if it tells
  pub told : Option (List ℕ)
  -- what is left after the call, if it tells
  pub left : Option (List ℕ)
  -- how often it had failed
  pub count : ℕ
  -- how often it has failed
  pub count_now : ℕ

-- a call's source, by what is left of a source, how often it failed, and itself before and after
abbrev pub source_call : {S : Type 0} → (S → Option (List ℕ)) → (S → ℕ) → S → S → SourceCall
source_call left faults old new = record {
  told = left old;
  left = left new;
  count = faults old;
  count_now = faults new;
}

-- the bytes that a source in memory has left
abbrev pub mem_left : MemSource → List ℕ
mem_left source = drop source.at source.bytes
