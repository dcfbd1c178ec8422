-- At most one answer is due to two programs that are compared, and it comes.
use Rattle.std.specs.Prelude.{◌≢◌}
use Rattle.std.proofs.Common.{◌≡◌, ◌∙◌, ℕ, List, [], ◌∷◌, Option, Some, Result, Ok, Err, refl, ap, sym, subst, ◌⊎◌, inl, inr}
use Rattle.cob_base.specs.Sink.{SinkCall}
use Rattle.cob_base.specs.Source.{SourceCall}
use Rattle.cob_base.specs.giving.Giving.{Gains, Takes}
use Rattle.cob_tree.specs.declared.program.Program.{Program}
use Rattle.cobol_theory.specs.cobol_meaning.Runs.{Files}
use Rattle.cobol_run.specs.Over.{TellFiles}
use Rattle.cobol_read.specs.declared.refusal.ReadRefusal.TheVariants as rd
use Rattle.restructure_core.specs.run.Bench.{BenchCall, devices_before}
use Rattle.source_pairs.specs.declared.pair.PairRefusal.{PairRefusal}
use Rattle.source_pairs.specs.declared.pair.PairRefusal.TheVariants as pairs
use Rattle.source_pairs.specs.declared.pair.Programs.{Programs}
use Rattle.source_pairs.specs.Pair.{HasPairCause, ReadsTwo}
use Rattle.source_pairs.proofs.PairLemmas.{pairs-one}
use Rattle.trace_compare.specs.declared.compared.Compared.{Compared}
use Rattle.trace_compare.specs.declared.compared.Compared.TheVariants as compared
use Rattle.trace_compare.specs.Comparing.{IsOf}
use Rattle.trace_compare.specs.Differing.{IsAnswer}
use Rattle.trace_compare.specs.Pair.{course_in}
use Rattle.trace_compare.proofs.DifferingLemmas.{only_one}
use Rattle.restructure_asks.specs.declared.refusal.Refusal.{Refusal}
use Rattle.restructure_asks.specs.declared.refusal.Refusal.TheVariants as refusal
use Rattle.restructure_asks.specs.declared.status.Status.{Status}
use Rattle.restructure_asks.specs.declared.status.Status.TheVariants as status
use Rattle.restructure_asks.specs.declared.texts.Texts.{Texts}
use Rattle.restructure_asks.specs.Answer.{Answer}
use Rattle.restructure_asks.specs.Comparing.{AnswersTwo, HaveAnswer, IsCompared, IsComparisonDue, IsComparedTold, IsTold, IsUnpaired, of_pair, same_line, told}
use Rattle.restructure_asks.specs.Laws.{BothTell, ComparisonsTell, DueComparisonComes, OneComparisonIsDue, TellsCompared, statuses_of}
use Rattle.restructure_asks.specs.Reading.{Tells}
use Rattle.restructure_asks.specs.Refusal.{line_of, status_of}
use Rattle.restructure_asks.specs.Running.{IsUnrun}
use Rattle.restructure_asks.specs.Status.{IsOneOf}
use Rattle.restructure_asks.specs.Texts.{text_alone}
use Rattle.restructure_asks.specs.Writing.{IsGiven, Notes, Writes}

-- ---- one answer

same-programs : (one other : Programs) → ◌≡◌ {A = Result Programs PairRefusal} (Ok one) (Ok other) → one ≡ other
same-programs one other h = cc

same-why : (one other : PairRefusal) → ◌≡◌ {A = Result Programs PairRefusal} (Err one) (Err other) → one ≡ other
same-why one other h = cc

never-both : (one : Programs) (other : PairRefusal) → ◌≡◌ {A = Result Programs PairRefusal} (Ok one) (Err other) → ⊥
never-both one other h = cc

abbrev both : (p q : Program) → Programs
both p q = record { first = p; second = q }

module _ (steps : ℕ) (bytes : List ℕ) (files others : Files) where
  -- two answers of the runs of two programs are one
  answers-one : (one other : Compared) → HaveAnswer bytes steps files others one → HaveAnswer bytes steps files others other → one ≡ other
  answers-one one other h g =
      let same : both h.p h.q ≡ both g.p g.q = same-programs (both h.p h.q) (both g.p g.q) (pairs-one bytes (Ok (both h.p h.q)) (Ok (both g.p g.q)) h.reads g.reads) in
      let first : h.p ≡ g.p = ap (λ (ps : Programs). ps.first) same in
      let second : h.q ≡ g.q = ap (λ (ps : Programs). ps.second) same in
      only_one one other (course_in g.p files steps) (course_in g.q others steps)
      (subst (λ p. IsAnswer one (course_in p files steps) (course_in g.q others steps)) first (subst (λ q. IsAnswer one (course_in h.p files steps) (course_in q others steps)) second h.is)) g.is

  one-due : (one other : Answer) → IsComparisonDue steps bytes files others one → IsComparisonDue steps bytes files others other → one ≡ other
  one-due one other (inl h) (inl g) = h.2 ∙ ap (told steps) (answers-one h.0 g.0 h.1 g.1) ∙ sym g.2
  one-due one other (inl h) (inr g) =
      absurd (never-both (both h.1.p h.1.q) g.0 (pairs-one bytes (Ok (both h.1.p h.1.q)) (Err g.0) h.1.reads (g.1, g.2)))
  one-due one other (inr h) (inl g) =
      absurd (never-both (both g.1.p g.1.q) h.0 (pairs-one bytes (Ok (both g.1.p g.1.q)) (Err h.0) g.1.reads (h.1, h.2)))
  one-due one other (inr h) (inr g) =
      h.3 ∙ ap (λ w. Err (of_pair w)) (same-why h.0 g.0 (pairs-one bytes (Err h.0) (Err g.0) (h.1, h.2) (g.1, g.2))) ∙ sym g.3

pub one-comparison : OneComparisonIsDue
one-comparison steps bytes files others one other h g = one-due steps bytes files others one other h g

-- ---- what was given is due

-- what was answered is due, or tells of a device, or memory ran out
data Given (steps : ℕ) (bytes : List ℕ) (files others : Files) (answer : Answer) : Type 0 where
  of-runs : (came : Compared) → HaveAnswer bytes steps files others came → answer ≡ told steps came → Given steps bytes files others answer
  of-cause : (why : PairRefusal) → why ≢ pairs.NoMemory → HasPairCause bytes why → answer ≡ Err (of_pair why) → Given steps bytes files others answer
  of-device : (r : Refusal) → status_of r ≡ status.DeviceFault → answer ≡ Err r → Given steps bytes files others answer
  of-memory : answer ≡ Err refusal.NoMemory → Given steps bytes files others answer

module _ (steps : ℕ) (bytes : List ℕ) (files others : Files) where
  came-given : (answer : Answer) (came : Compared) (p q : Program) → ReadsTwo bytes p q → IsOf came (course_in p files steps) (course_in q others steps) → answer ≡ told steps came → Given steps bytes files others answer
  came-given answer (compared.Same count) p q reads of is = of-runs (compared.Same count) (record { p = p; q = q; reads = reads; is = of }) is
  came-given answer (compared.Differ number) p q reads of is = of-runs (compared.Differ number) (record { p = p; q = q; reads = reads; is = of }) is
  came-given answer compared.Budget p q reads of is = of-runs compared.Budget (record { p = p; q = q; reads = reads; is = of }) is
  came-given answer (compared.FirstFault name) p q reads of is = of-device (refusal.Device name) refl is
  came-given answer (compared.SecondFault name) p q reads of is = of-device (refusal.SecondDevice name) refl is
  came-given answer compared.NoMemory p q reads of is = of-memory is

  cause-given : (answer : Answer) (why : PairRefusal) → HasPairCause bytes why → answer ≡ Err (of_pair why) → Given steps bytes files others answer
  cause-given answer pairs.TooLong cause is = of-cause pairs.TooLong (λ e. cc) cause is
  cause-given answer pairs.NoSecond cause is = of-cause pairs.NoSecond (λ e. cc) cause is
  cause-given answer (pairs.First why) cause is = of-cause (pairs.First why) (λ e. cc) cause is
  cause-given answer (pairs.Second why) cause is = of-cause (pairs.Second why) (λ e. cc) cause is
  cause-given answer pairs.NoMemory cause is = of-memory is

  comes-given : (bench second : BenchCall) (answer : Answer) → BothTell bytes bench second files others → AnswersTwo bytes steps bench second answer → Given steps bytes files others answer
  comes-given bench second answer tells (inl c) = elim c.tells [
    | inl is ↦
        let both = tells c.p c.q c.reads in
        came-given answer c.came c.p c.q c.reads (c.compares.files files others c.own c.own_too both.0 both.1).0 is
    | inr none ↦ of-memory none
  ]
  comes-given bench second answer tells (inr u) = cause-given answer u.why u.cause u.tells

-- ---- with the statuses of what is due

read-fault-comes : (due : Answer) → IsOneOf (statuses_of due) status.ReadFault
read-fault-comes (Ok texts) = inr (inr (inl refl))
read-fault-comes (Err refusal) = inr (inl refl)

no-memory-comes : (due : Answer) → IsOneOf (statuses_of due) status.NoMemory
no-memory-comes (Ok texts) = inr (inr (inr (inl refl)))
no-memory-comes (Err refusal) = inr (inr (inl refl))

module _ (out notes : SinkCall) where
  writes-comes : (texts : Texts) (end : Status) → Writes texts out notes end → IsOneOf (statuses_of (Ok texts)) end
  writes-comes texts status.Done g = inl refl
  writes-comes texts status.Usage g = absurd g
  writes-comes texts status.NotSubset g = absurd g
  writes-comes texts status.Flow g = absurd g
  writes-comes texts status.Limit g = absurd g
  writes-comes texts status.ReadFault g = absurd g
  writes-comes texts status.WriteFault g = inr (inl refl)
  writes-comes texts status.DeviceFault g = absurd g
  writes-comes texts status.Abend g = absurd g
  writes-comes texts status.Budget g = absurd g
  writes-comes texts status.NoMemory g = inr (inr (inr (inl refl)))
  writes-comes texts status.Differ g = absurd g

  given-comes : (answer : Answer) (end : Status) → IsGiven answer out notes end → IsOneOf (statuses_of answer) end
  given-comes (Ok texts) end g = writes-comes texts end g
  given-comes (Err r) end (kept, inl noted) = inl noted.0
  given-comes (Err r) end (kept, inr noted) = inr (inr (inl noted.0))

  -- a refusal with this status, or memory ran out
  refused-ends : (r : Refusal) (answer : Answer) (end : Status) → answer ≡ Err r → IsGiven answer out notes end → Notes r notes end
  refused-ends r answer end is g = (subst (λ a. IsGiven a out notes end) is g).1

  memory-ends : (end : Status) → Notes refusal.NoMemory notes end → end ≡ status.NoMemory
  memory-ends end (inl g) = g.0
  memory-ends end (inr g) = g.0

  device-ends : (r : Refusal) (due : Answer) (end : Status) → status_of r ≡ status.DeviceFault → Notes r notes end → IsOneOf (status.DeviceFault ∷ statuses_of due) end
  device-ends r due end is (inl g) = inl (g.0 ∙ is)
  device-ends r due end is (inr g) = inr (subst (IsOneOf (statuses_of due)) (sym g.0) (no-memory-comes due))

  module _ (steps : ℕ) (bytes : List ℕ) (files others : Files) (due : Answer) (is_due : IsComparisonDue steps bytes files others due) where
    as-due : (answer : Answer) (end : Status) → IsComparisonDue steps bytes files others answer → IsGiven answer out notes end → IsOneOf (status.DeviceFault ∷ statuses_of due) end
    as-due answer end h g =
        inr (subst (λ a. IsOneOf (statuses_of a) end) (one-due steps bytes files others answer due h is_due) (given-comes answer end g))

    due-given : (answer : Answer) (end : Status) → Given steps bytes files others answer → IsGiven answer out notes end → IsOneOf (status.DeviceFault ∷ statuses_of due) end
    due-given answer end (of-runs came h is) g = as-due answer end (inl (came, h, is)) g
    due-given answer end (of-cause why some cause is) g = as-due answer end (inr (why, some, cause, is)) g
    due-given answer end (of-device r tells is) g = device-ends r due end tells (refused-ends r answer end is g)
    due-given answer end (of-memory is) g =
        inr (subst (IsOneOf (statuses_of due)) (sym (memory-ends end (refused-ends refusal.NoMemory answer end is g))) (no-memory-comes due))

  unrun-ends : (source : SourceCall) (end : Status) → IsUnrun source out notes end → (end ≡ status.ReadFault) ⊎ (end ≡ status.NoMemory)
  unrun-ends source end h = elim h.why [
    | inl fault ↦ either (subst (λ r. Notes r notes end) fault.0 h.noted)
    | inr starved ↦ inr (memory-ends end (subst (λ r. Notes r notes end) starved.0 h.noted))
  ] where
    either : Notes refusal.ReadFault notes end → (end ≡ status.ReadFault) ⊎ (end ≡ status.NoMemory)
    either (inl g) = inl g.0
    either (inr g) = inr g.0

same-bytes : (source : SourceCall) (read bytes : List ℕ) → source.told ≡ Some bytes → Tells source.told read → read ≡ bytes
same-bytes source read bytes told tells = sym (subst (λ t. Tells t read) told tells)

pub due-comparison : DueComparisonComes
due-comparison steps source out notes bench second end (inl h) bytes files others due told tells is_due =
    let same = same-bytes source h.bytes bytes told h.told in
    due-given out notes steps bytes files others due is_due h.answer end
    (comes-given steps bytes files others bench second h.answer tells (subst (λ b. AnswersTwo b steps bench second h.answer) same h.comes)) h.given
due-comparison steps source out notes bench second end (inr h) bytes files others due told tells is_due = elim (unrun-ends out notes source end h.0) [
  | inl fault ↦ inr (subst (IsOneOf (statuses_of due)) (sym fault) (read-fault-comes due))
  | inr none ↦ inr (subst (IsOneOf (statuses_of due)) (sym none) (no-memory-comes due))
]

-- ---- what each status tells

module _ (steps : ℕ) (bytes : List ℕ) (files others : Files) (out notes : SinkCall) where
  abbrev IsTrue : Status → Type 0
  IsTrue = TellsCompared steps bytes files others out notes

  -- a refusal is told, or memory ran out
  noted-tells : (r : Refusal) (end : Status) → (Takes (line_of r) notes → IsTrue (status_of r)) → Notes r notes end → IsTrue end
  noted-tells r end tells (inl g) = subst IsTrue (sym g.0) (tells g.1)
  noted-tells r end tells (inr g) = subst IsTrue (sym g.0) tt

  same-tells : (count : ℕ) (end : Status) → HaveAnswer bytes steps files others (compared.Same count) → Writes (text_alone (same_line count)) out notes end → IsTrue end
  same-tells count status.Done h g = (count, h, g.0)
  same-tells count status.Usage h g = absurd g
  same-tells count status.NotSubset h g = absurd g
  same-tells count status.Flow h g = absurd g
  same-tells count status.Limit h g = absurd g
  same-tells count status.ReadFault h g = absurd g
  same-tells count status.WriteFault h g = tt
  same-tells count status.DeviceFault h g = absurd g
  same-tells count status.Abend h g = absurd g
  same-tells count status.Budget h g = absurd g
  same-tells count status.NoMemory h g = tt
  same-tells count status.Differ h g = absurd g

  runs-tell : (came : Compared) (answer : Answer) (end : Status) → HaveAnswer bytes steps files others came → answer ≡ told steps came → IsGiven answer out notes end → IsTrue end
  runs-tell (compared.Same count) answer end h is g = same-tells count end h (subst (λ a. IsGiven a out notes end) is g)
  runs-tell (compared.Differ number) answer end h is g = noted-tells (refusal.Differ number) end (λ line. (number, h, line)) (refused-ends out notes (refusal.Differ number) answer end is g)
  runs-tell compared.Budget answer end h is g = noted-tells (refusal.Budget steps) end (λ line. (h, line)) (refused-ends out notes (refusal.Budget steps) answer end is g)
  runs-tell (compared.FirstFault name) answer end h is g = absurd h.is
  runs-tell (compared.SecondFault name) answer end h is g = absurd h.is
  runs-tell compared.NoMemory answer end h is g = absurd h.is

  cause-tells : (why : PairRefusal) → why ≢ pairs.NoMemory → HasPairCause bytes why → Takes (line_of (of_pair why)) notes → IsTrue (status_of (of_pair why))
  cause-tells pairs.TooLong some cause line = (pairs.TooLong, cause, line)
  cause-tells pairs.NoSecond some cause line = (pairs.NoSecond, cause, line)
  cause-tells (pairs.First (rd.Fault fault)) some cause line = (pairs.First (rd.Fault fault), cause, line)
  cause-tells (pairs.First (rd.Limit limit)) some cause line = (pairs.First (rd.Limit limit), cause, line)
  cause-tells (pairs.First rd.NoMemory) some cause line = tt
  cause-tells (pairs.Second (rd.Fault fault)) some cause line = (pairs.Second (rd.Fault fault), cause, line)
  cause-tells (pairs.Second (rd.Limit limit)) some cause line = (pairs.Second (rd.Limit limit), cause, line)
  cause-tells (pairs.Second rd.NoMemory) some cause line = tt
  cause-tells pairs.NoMemory some cause line = tt

  given-tells : (answer : Answer) (end : Status) → Given steps bytes files others answer → IsGiven answer out notes end → IsTrue end
  given-tells answer end (of-runs came h is) g = runs-tell came answer end h is g
  given-tells answer end (of-cause why some cause is) g = noted-tells (of_pair why) end (cause-tells why some cause) (refused-ends out notes (of_pair why) answer end is g)
  given-tells answer end (of-device r tells is) g = noted-tells r end (λ line. subst IsTrue (sym tells) tt) (refused-ends out notes r answer end is g)
  given-tells answer end (of-memory is) g = subst IsTrue (sym (memory-ends out notes end (refused-ends out notes refusal.NoMemory answer end is g))) tt

pub comparisons-tell : ComparisonsTell
comparisons-tell steps source out notes bench second end (inl h) bytes files others told tells =
    let same = same-bytes source h.bytes bytes told h.told in
    given-tells steps bytes files others out notes h.answer end
    (comes-given steps bytes files others bench second h.answer tells (subst (λ b. AnswersTwo b steps bench second h.answer) same h.comes)) h.given
comparisons-tell steps source out notes bench second end (inr h) bytes files others told tells = elim (unrun-ends out notes source end h.0) [
  | inl fault ↦ subst (TellsCompared steps bytes files others out notes) (sym fault) tt
  | inr none ↦ subst (TellsCompared steps bytes files others out notes) (sym none) tt
]
