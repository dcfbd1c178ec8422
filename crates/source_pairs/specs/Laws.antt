-- What holds of two programs from one source.
use Rattle.std.specs.Prelude.{ℕ, ◌≡◌, ◌≢◌, List, Result, Ok, Err}
use Rattle.source_pairs.specs.declared.pair.PairRefusal.{PairRefusal}
use Rattle.source_pairs.specs.declared.pair.PairRefusal.TheVariants as refusal
use Rattle.source_pairs.specs.declared.pair.Programs.{Programs}
use Rattle.source_pairs.specs.Cut.{IsCut, IsUncut}
use Rattle.source_pairs.specs.Pair.{HasPairCause, ReadsTwo}

-- bytes are cut at one line at most, and where no line is the cut they aren't cut
pub record CutsAreOne : Type 0 where
  -- what comes before the cut is one
  pub first : (bytes first second other behind : List ℕ) → IsCut bytes first second →
      IsCut bytes other behind → first ≡ other
  -- and what comes behind it
  pub second : (bytes first second other behind : List ℕ) → IsCut bytes first second →
      IsCut bytes other behind → second ≡ behind
  -- bytes that are cut have a line that is the cut
  pub none : (bytes first second : List ℕ) → IsCut bytes first second → IsUncut bytes → ⊥

-- the bytes are these two programs, or are refused for this reason
abbrev pub IsPairAnswer : List ℕ → Result Programs PairRefusal → Type 0
IsPairAnswer bytes (Ok programs) = ReadsTwo bytes programs.first programs.second
IsPairAnswer bytes (Err why) = (why ≢ refusal.NoMemory) × HasPairCause bytes why

-- bytes have one answer at most
abbrev pub PairsAreReadOneWay : Type 0
PairsAreReadOneWay =
    (bytes : List ℕ) (one other : Result Programs PairRefusal) → IsPairAnswer bytes one →
    IsPairAnswer bytes other → one ≡ other
