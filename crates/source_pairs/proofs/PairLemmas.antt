-- Bytes are read as two programs in one way.
use Rattle.std.proofs.Common.{ℕ, ◌≡◌, ◌≤◌, List, length, take, Result, Ok, Err, refl, ap, ◌∙◌, subst, arith}
use Rattle.std.proofs.lemmas.List.{length-take, take_all}
use Rattle.std.specs.Prelude.{◌+◌, ◌≢◌}
use Rattle.cob_base.specs.Limit.{max_source}
use Rattle.cob_tree.specs.declared.program.Program.{Program}
use Rattle.cobol_read.specs.declared.refusal.ReadRefusal.{ReadRefusal}
use Rattle.cobol_read.specs.Reading.{HasCause, Reads}
use Rattle.cobol_read.proofs.OneWay.{one_way}
use Rattle.source_pairs.specs.declared.pair.PairRefusal.{PairRefusal}
use Rattle.source_pairs.specs.declared.pair.PairRefusal.TheVariants as refusal
use Rattle.source_pairs.specs.declared.pair.Programs.{Programs}
use Rattle.source_pairs.specs.Laws.{IsPairAnswer}
use Rattle.source_pairs.specs.Pair.{HasNoSecond, HasPairCause, IsCutWithin, IsRefusedFor, IsTooLong, ReadsTwo, RefusesFirst, RefusesSecond}
use Rattle.source_pairs.proofs.CutLemmas.{cut-uncut, cuts-first, cuts-second}

-- ---- one program and one cause

-- a program isn't refused
read-refused : (bytes other : List ℕ) (p : Program) (why : ReadRefusal) → other ≡ bytes → Reads bytes p → IsRefusedFor other why → ⊥
read-refused bytes other p why same reads refused = one_way.refused bytes p why reads refused.0 (subst (λ b. HasCause b why) same refused.1)

-- bytes are refused for one reason
refused-one : (bytes other : List ℕ) (one two : ReadRefusal) → other ≡ bytes → IsRefusedFor bytes one → IsRefusedFor other two → one ≡ two
refused-one bytes other one two same first second = one_way.cause bytes one two first.0 second.0 first.1 (subst (λ b. HasCause b two) same second.1)

read-one : (bytes other : List ℕ) (p q : Program) → other ≡ bytes → Reads bytes p → Reads other q → p ≡ q
read-one bytes other p q same one two = one_way.program bytes p q one (subst (λ b. Reads b q) same two)

-- ---- two programs

module _ (bytes : List ℕ) where
  programs-one : (ps qs : Programs) → ReadsTwo bytes ps.first ps.second → ReadsTwo bytes qs.first qs.second → ps ≡ qs
  programs-one ps qs one two =
      let first : ps.first ≡ qs.first = read-one one.first two.first ps.first qs.first (cuts-first bytes two.first two.second one.first one.second two.cut.cut one.cut.cut) one.reads two.reads in
      let second : ps.second ≡ qs.second = read-one one.second two.second ps.second qs.second (cuts-second bytes two.first two.second one.first one.second two.cut.cut one.cut.cut) one.reads_too two.reads_too in
      ap (λ (p : Program). record { first = p; second = ps.second }) first ∙ ap (λ (q : Program). record { first = qs.first; second = q }) second

  -- two programs aren't refused
  two-refused : (ps : Programs) (why : PairRefusal) → ReadsTwo bytes ps.first ps.second → why ≢ refusal.NoMemory → HasPairCause bytes why → ⊥
  two-refused ps refusal.TooLong two known cause = omega (arith, two.cut.within, cause)
  two-refused ps refusal.NoSecond two known cause = cut-uncut bytes two.first two.second two.cut.cut cause.uncut
  two-refused ps (refusal.First why) two known cause =
      read-refused two.first cause.first ps.first why (cuts-first bytes cause.first cause.second two.first two.second cause.cut.cut two.cut.cut) two.reads cause.refused
  two-refused ps (refusal.Second why) two known cause =
      read-refused two.second cause.second ps.second why (cuts-second bytes cause.first cause.second two.first two.second cause.cut.cut two.cut.cut) two.reads_too cause.refused
  two-refused ps refusal.NoMemory two known cause = known refl

  -- ---- refusals

  long-one : (other : PairRefusal) → IsTooLong bytes → other ≢ refusal.NoMemory → HasPairCause bytes other → refusal.TooLong ≡ other
  long-one refusal.TooLong long known cause = refl
  long-one refusal.NoSecond long known cause = absurd (omega (arith, long, cause.within))
  long-one (refusal.First why) long known cause = absurd (omega (arith, long, cause.cut.within))
  long-one (refusal.Second why) long known cause = absurd (omega (arith, long, cause.cut.within))
  long-one refusal.NoMemory long known cause = absurd (known refl)

  uncut-one : (other : PairRefusal) → HasNoSecond bytes → other ≢ refusal.NoMemory → HasPairCause bytes other → refusal.NoSecond ≡ other
  uncut-one refusal.TooLong none known cause = absurd (omega (arith, none.within, cause))
  uncut-one refusal.NoSecond none known cause = refl
  uncut-one (refusal.First why) none known cause = absurd (cut-uncut bytes cause.first cause.second cause.cut.cut none.uncut)
  uncut-one (refusal.Second why) none known cause = absurd (cut-uncut bytes cause.first cause.second cause.cut.cut none.uncut)
  uncut-one refusal.NoMemory none known cause = absurd (known refl)

  first-one : (why : ReadRefusal) (other : PairRefusal) → RefusesFirst bytes why → other ≢ refusal.NoMemory → HasPairCause bytes other → refusal.First why ≡ other
  first-one why refusal.TooLong one known cause = absurd (omega (arith, one.cut.within, cause))
  first-one why refusal.NoSecond one known cause = absurd (cut-uncut bytes one.first one.second one.cut.cut cause.uncut)
  first-one why (refusal.First also) one known cause =
      ap (λ w. refusal.First w) (refused-one one.first cause.first why also (cuts-first bytes cause.first cause.second one.first one.second cause.cut.cut one.cut.cut) one.refused cause.refused)
  first-one why (refusal.Second also) one known cause =
      absurd (read-refused cause.first one.first cause.p why (cuts-first bytes one.first one.second cause.first cause.second one.cut.cut cause.cut.cut) cause.reads one.refused)
  first-one why refusal.NoMemory one known cause = absurd (known refl)

  second-one : (why : ReadRefusal) (other : PairRefusal) → RefusesSecond bytes why → other ≢ refusal.NoMemory → HasPairCause bytes other → refusal.Second why ≡ other
  second-one why refusal.TooLong one known cause = absurd (omega (arith, one.cut.within, cause))
  second-one why refusal.NoSecond one known cause = absurd (cut-uncut bytes one.first one.second one.cut.cut cause.uncut)
  second-one why (refusal.First also) one known cause =
      absurd (read-refused one.first cause.first one.p also (cuts-first bytes cause.first cause.second one.first one.second cause.cut.cut one.cut.cut) one.reads cause.refused)
  second-one why (refusal.Second also) one known cause =
      ap (λ w. refusal.Second w) (refused-one one.second cause.second why also (cuts-second bytes cause.first cause.second one.first one.second cause.cut.cut one.cut.cut) one.refused cause.refused)
  second-one why refusal.NoMemory one known cause = absurd (known refl)

  causes-one : (one other : PairRefusal) → one ≢ refusal.NoMemory → HasPairCause bytes one → other ≢ refusal.NoMemory → HasPairCause bytes other → one ≡ other
  causes-one refusal.TooLong other known cause also too = long-one other cause also too
  causes-one refusal.NoSecond other known cause also too = uncut-one other cause also too
  causes-one (refusal.First why) other known cause also too = first-one why other cause also too
  causes-one (refusal.Second why) other known cause also too = second-one why other cause also too
  causes-one refusal.NoMemory other known cause also too = absurd (known refl)

  pub pairs-one : (one other : Result Programs PairRefusal) → IsPairAnswer bytes one → IsPairAnswer bytes other → one ≡ other
  pairs-one (Ok ps) (Ok qs) one two = ap Ok (programs-one ps qs one two)
  pairs-one (Ok ps) (Err why) one two = absurd (two-refused ps why one two.0 two.1)
  pairs-one (Err why) (Ok ps) one two = absurd (two-refused ps why two one.0 one.1)
  pairs-one (Err why) (Err also) one two = ap Err (causes-one why also one.0 one.1 two.0 two.1)

-- ---- the bytes of a source, of which all are read, or its front up to the first byte past the limit

-- a front within the limit is all
front-whole : (bytes : List ℕ) → length (take (max_source + 1) bytes) ≤ max_source → take (max_source + 1) bytes ≡ bytes
front-whole bytes within =
    let count = length-take (max_source + 1) bytes in
    take_all (max_source + 1) bytes (omega (arith, within, count))

module _ (bytes : List ℕ) where
  cut-front : (first second : List ℕ) → IsCutWithin (take (max_source + 1) bytes) first second → IsCutWithin bytes first second
  cut-front first second cut = subst (λ b. IsCutWithin b first second) (front-whole bytes cut.within) cut

  -- what the front is, the bytes are
  pub reads-front : (p q : Program) → ReadsTwo (take (max_source + 1) bytes) p q → ReadsTwo bytes p q
  reads-front p q two = subst (λ b. ReadsTwo b p q) (front-whole bytes two.cut.within) two

  -- and the front is refused as the bytes are
  pub cause-front : (why : PairRefusal) → HasPairCause (take (max_source + 1) bytes) why → HasPairCause bytes why
  cause-front refusal.TooLong cause = let count = length-take (max_source + 1) bytes in omega (arith, cause, count)
  cause-front refusal.NoSecond cause = subst HasNoSecond (front-whole bytes cause.within) cause
  cause-front (refusal.First why) cause = subst (λ b. RefusesFirst b why) (front-whole bytes cause.cut.within) cause
  cause-front (refusal.Second why) cause = subst (λ b. RefusesSecond b why) (front-whole bytes cause.cut.within) cause
  cause-front refusal.NoMemory cause = tt
