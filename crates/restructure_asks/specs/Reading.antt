-- What a reading gives, and what it leaves of the source.
use Rattle.std.specs.Prelude.{ℕ, ◌≡◌, ◌+◌, ◌<◌, ◌≤◌, List, take, drop, Option, Some, None}
use Rattle.cob_base.specs.Faults.{Rose}
use Rattle.cob_base.specs.Source.{SourceCall}
use Rattle.cob_base.specs.Limit.{max_source}

-- the source tells these bytes, if it tells them
abbrev pub Tells : Option (List ℕ) → List ℕ → Type 0
Tells None bytes = Unit {0}
Tells (Some told) bytes = told ≡ bytes

-- what is left after so many bytes, where the source tells them
abbrev pub left_after : ℕ → Option (List ℕ) → Option (List ℕ)
left_after n None = None
left_after n (Some bytes) = Some (drop n bytes)

-- the text is all that was left, or the front of it up to the first byte past the limit
pub record IsRead (source : SourceCall) (text : List ℕ) : Type 0 where
  pub bytes : List ℕ
  -- these are the bytes, where the source tells them
  pub told : Tells source.told bytes
  -- the text is all of them, or as many as the limit and one more
  pub front : text ≡ take (max_source + 1) bytes
  -- as many were read
  pub left : source.left ≡ left_after (max_source + 1) source.told

-- at most so many bytes were read
pub record IsReadWithin (most : ℕ) (source : SourceCall) : Type 0 where
  -- so many bytes were read
  pub count : ℕ
  pub within : count ≤ most
  -- the source was read so far
  pub left : source.left ≡ left_after count source.told

-- the source failed, where an ask reads this many bytes at most
pub record IsReadFault (most : ℕ) (source : SourceCall) : Type 0 where
  -- the ask reads something
  pub asked : 0 < most
  -- the source's count of failures rose
  pub rose : Rose source.count source.count_now
  -- at most so many bytes were read
  pub read : IsReadWithin most source
