-- Which bytes are which two programs, and why others are none.
use Rattle.std.specs.Prelude.{ℕ, ◌≢◌, ◌<◌, ◌≤◌, List, length}
use Rattle.cob_base.specs.Limit.{max_source}
use Rattle.cob_tree.specs.declared.program.Program.{Program}
use Rattle.cobol_read.specs.declared.refusal.ReadRefusal.{ReadRefusal}
use Rattle.cobol_read.specs.declared.refusal.ReadRefusal.TheVariants as reading
use Rattle.cobol_read.specs.Reading.{HasCause, Reads}
use Rattle.source_pairs.specs.declared.pair.PairRefusal.{PairRefusal}
use Rattle.source_pairs.specs.declared.pair.PairRefusal.TheVariants as refusal
use Rattle.source_pairs.specs.Cut.{IsCut, IsUncut}

-- ---- two programs

-- bytes within the limit on a source, both programs and the cut counted, are cut into these
pub record IsCutWithin (bytes first second : List ℕ) : Type 0 where
  pub within : length bytes ≤ max_source
  pub cut : IsCut bytes first second

-- the bytes are these two programs, with the cut between them
pub record ReadsTwo (bytes : List ℕ) (p q : Program) : Type 0 where
  pub first : List ℕ
  pub second : List ℕ
  pub cut : IsCutWithin bytes first second
  -- what comes before the cut is the first program
  pub reads : Reads first p
  -- and what comes behind it is the second
  pub reads_too : Reads second q

-- ---- the causes of refusals

-- the bytes of a program are refused for this reason, and not since memory ran out
abbrev pub IsRefusedFor : List ℕ → ReadRefusal → Type 0
IsRefusedFor bytes why = (why ≢ reading.NoMemory) × HasCause bytes why

-- there are more bytes than a source may have, both programs and the cut counted
abbrev pub IsTooLong : List ℕ → Type 0
IsTooLong bytes = max_source < length bytes

-- no line of the bytes is the cut, and they are within the limit on a source
pub record HasNoSecond (bytes : List ℕ) : Type 0 where
  pub within : length bytes ≤ max_source
  pub uncut : IsUncut bytes

-- what comes before the cut is refused for this reason, whatever comes behind it
pub record RefusesFirst (bytes : List ℕ) (why : ReadRefusal) : Type 0 where
  pub first : List ℕ
  pub second : List ℕ
  pub cut : IsCutWithin bytes first second
  pub refused : IsRefusedFor first why

-- what comes before the cut is a program, and what comes behind it is refused for this reason
pub record RefusesSecond (bytes : List ℕ) (why : ReadRefusal) : Type 0 where
  pub first : List ℕ
  pub second : List ℕ
  pub cut : IsCutWithin bytes first second
  pub p : Program
  pub reads : Reads first p
  pub refused : IsRefusedFor second why

-- the cause of each refusal; memory may run out at any place
abbrev pub HasPairCause : List ℕ → PairRefusal → Type 0
HasPairCause bytes refusal.TooLong = IsTooLong bytes
HasPairCause bytes refusal.NoSecond = HasNoSecond bytes
HasPairCause bytes (refusal.First why) = RefusesFirst bytes why
HasPairCause bytes (refusal.Second why) = RefusesSecond bytes why
HasPairCause bytes refusal.NoMemory = Unit {0}

-- ---- the steps of reading

-- the refusal of the first program, by its bytes
abbrev pub IsRefusedFirst : List ℕ → PairRefusal → Type 0
IsRefusedFirst bytes (refusal.First why) = IsRefusedFor bytes why
IsRefusedFirst bytes refusal.NoMemory = Unit {0}
IsRefusedFirst bytes _ = ⊥

-- the refusal of the second program, by its bytes
abbrev pub IsRefusedSecond : List ℕ → PairRefusal → Type 0
IsRefusedSecond bytes (refusal.Second why) = IsRefusedFor bytes why
IsRefusedSecond bytes refusal.NoMemory = Unit {0}
IsRefusedSecond bytes _ = ⊥
