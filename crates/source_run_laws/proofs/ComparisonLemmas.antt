-- A source and its result are never told to differ.
use Rattle.std.proofs.Common.{◌≡◌, ◌∙◌, ℕ, List, refl, sym, subst, inl, inr}
use Rattle.std.specs.Prelude.{◌≢◌}
use Rattle.cob_base.specs.Sink.{SinkCall}
use Rattle.cob_base.specs.Source.{SourceCall}
use Rattle.cob_tree.specs.declared.program.Program.{Program}
use Rattle.cobol_read.specs.Reading.{Reads}
use Rattle.cobol_read.specs.declared.refusal.ReadRefusal.TheVariants as rd
use Rattle.cobol_read.proofs.OneWay.{one_way}
use Rattle.cobol_run.specs.Over.{TellFiles}
use Rattle.cobol_run.specs.Own.{IsOwn}
use Rattle.cobol_theory.specs.cobol_meaning.Runs.{Files}
use Rattle.trace_compare.specs.declared.compared.Compared.{Compared}
use Rattle.trace_compare.specs.declared.compared.Compared.TheVariants as compared
use Rattle.trace_compare.specs.Comparing.{Compares}
use Rattle.trace_compare.specs.Laws.{ComparedResultsNeverDiffer}
use Rattle.restructure_core.specs.run.Bench.{BenchCall, devices_before}
use Rattle.source_pairs.specs.declared.pair.PairRefusal.{PairRefusal}
use Rattle.source_pairs.specs.declared.pair.PairRefusal.TheVariants as pairs
use Rattle.source_pairs.specs.Pair.{ReadsTwo}
use Rattle.source_pairs.proofs.CutLemmas.{cuts-first, cuts-second}
use Rattle.restructure_asks.specs.declared.refusal.Refusal.{Refusal}
use Rattle.restructure_asks.specs.declared.refusal.Refusal.TheVariants as refusal
use Rattle.restructure_asks.specs.declared.status.Status.{Status}
use Rattle.restructure_asks.specs.declared.status.Status.TheVariants as status
use Rattle.restructure_asks.specs.declared.texts.Texts.{Texts}
use Rattle.restructure_asks.specs.Answer.{Answer}
use Rattle.restructure_asks.specs.Comparing.{AnswersTwo, IsCompared, of_pair, same_line, told}
use Rattle.restructure_asks.specs.Reading.{Tells}
use Rattle.restructure_asks.specs.Refusal.{status_of}
use Rattle.restructure_asks.specs.Running.{IsUnrun}
use Rattle.restructure_asks.specs.Texts.{text_alone}
use Rattle.restructure_asks.specs.Writing.{IsGiven, Notes, Writes}
use Rattle.source_run_laws.specs.Comparisons.{AskedResultsNeverDiffer, HasItsResult}
use Rattle.source_run_laws.specs.Faultless.{FaultlessRunsEndFairly}

-- ---- other answers end otherwise

writes-never : (texts : Texts) (out notes : SinkCall) (end : Status) → Writes texts out notes end → end ≢ status.Differ
writes-never texts out notes end g is = subst (λ s. Writes texts out notes s) is g

notes-never : (r : Refusal) (notes : SinkCall) (end : Status) → status_of r ≢ status.Differ → Notes r notes end → end ≢ status.Differ
notes-never r notes end other (inl g) is = other (sym g.0 ∙ is)
notes-never r notes end other (inr g) is = let e : status.NoMemory ≡ status.Differ = sym g.0 ∙ is in cc

pair-never : (why : PairRefusal) → status_of (of_pair why) ≢ status.Differ
pair-never pairs.TooLong e = let x : status.Limit ≡ status.Differ = e in cc
pair-never pairs.NoSecond e = let x : status.NotSubset ≡ status.Differ = e in cc
pair-never (pairs.First (rd.Fault fault)) e = let x : status.NotSubset ≡ status.Differ = e in cc
pair-never (pairs.First (rd.Limit limit)) e = let x : status.Limit ≡ status.Differ = e in cc
pair-never (pairs.First rd.NoMemory) e = let x : status.NoMemory ≡ status.Differ = e in cc
pair-never (pairs.Second (rd.Fault fault)) e = let x : status.NotSubset ≡ status.Differ = e in cc
pair-never (pairs.Second (rd.Limit limit)) e = let x : status.Limit ≡ status.Differ = e in cc
pair-never (pairs.Second rd.NoMemory) e = let x : status.NoMemory ≡ status.Differ = e in cc
pair-never pairs.NoMemory e = let x : status.NoMemory ≡ status.Differ = e in cc

unrun-never : (source : SourceCall) (out notes : SinkCall) (end : Status) → IsUnrun source out notes end → end ≢ status.Differ
unrun-never source out notes end h = elim h.why [
  | inl fault ↦ notes-never refusal.ReadFault notes end (λ e. let x : status.ReadFault ≡ status.Differ = e in cc) (subst (λ r. Notes r notes end) fault.0 h.noted)
  | inr none ↦ notes-never refusal.NoMemory notes end (λ e. let x : status.NoMemory ≡ status.Differ = e in cc) (subst (λ r. Notes r notes end) none.0 h.noted)
]

module _ (steps : ℕ) (out notes : SinkCall) (end : Status) where
  -- what two programs came to, but that they differ, ends otherwise
  told-never : (came : Compared) → ((number : ℕ) → came ≡ compared.Differ number → ⊥) → IsGiven (told steps came) out notes end → end ≢ status.Differ
  told-never (compared.Same count) other g = writes-never (text_alone (same_line count)) out notes end g
  told-never (compared.Differ number) other g = absurd (other number refl)
  told-never compared.Budget other g = notes-never (refusal.Budget steps) notes end (λ e. let x : status.Budget ≡ status.Differ = e in cc) g.1
  told-never (compared.FirstFault name) other g = notes-never (refusal.Device name) notes end (λ e. let x : status.DeviceFault ≡ status.Differ = e in cc) g.1
  told-never (compared.SecondFault name) other g = notes-never (refusal.SecondDevice name) notes end (λ e. let x : status.DeviceFault ≡ status.Differ = e in cc) g.1
  told-never compared.NoMemory other g = notes-never refusal.NoMemory notes end (λ e. let x : status.NoMemory ≡ status.Differ = e in cc) g.1

  given-never : (bytes : List ℕ) (bench second : BenchCall) (answer : Answer) → AnswersTwo bytes steps bench second answer →
      ((c : IsCompared bytes steps bench second answer) (number : ℕ) → c.came ≡ compared.Differ number → ⊥) → IsGiven answer out notes end → end ≢ status.Differ
  given-never bytes bench second answer (inl c) never g = elim c.tells [
    | inl is ↦ told-never c.came (never c) (subst (λ a. IsGiven a out notes end) is g)
    | inr none ↦ notes-never refusal.NoMemory notes end (λ e. let x : status.NoMemory ≡ status.Differ = e in cc) (subst (λ a. IsGiven a out notes end) none g).1
  ]
  given-never bytes bench second answer (inr u) never g =
      notes-never (of_pair u.why) notes end (pair-never u.why) (subst (λ a. IsGiven a out notes end) u.tells g).1

-- ---- a source and its result

module _ (fair : FaultlessRunsEndFairly) (never_differ : ComparedResultsNeverDiffer) (bytes : List ℕ) (both : HasItsResult bytes) (files : Files) where
  abbrev p : Program
  p = both.restructured.program

  abbrev q : Program
  q = both.restructured.result.made.program

  -- the bytes are these two programs alone
  first-is : (r s : Program) → ReadsTwo bytes r s → r ≡ p
  first-is r s two =
      one_way.program both.first r p
      (subst (λ b. Reads b r) (cuts-first bytes two.first two.second both.first both.second two.cut.cut both.cut) two.reads)
      both.restructured.reads

  second-is : (r s : Program) → ReadsTwo bytes r s → s ≡ q
  second-is r s two =
      one_way.program both.second s q
      (subst (λ b. Reads b s) (cuts-second bytes two.first two.second both.first both.second two.cut.cut both.cut) two.reads_too)
      (subst (λ b. Reads b q) (sym both.written) both.restructured.read_back)

  module _ (steps : ℕ) (bench second : BenchCall) (tells : TellFiles p (devices_before bench) files) (tells_too : TellFiles q (devices_before second) files) where
    abbrev ComparedSo : (r s : Program) → Compared → Type 0
    ComparedSo r s came = Compares r s steps bench.left bench.left_now bench.old bench.new second.left second.left_now second.old second.new came

    never-so : (answer : Answer) (c : IsCompared bytes steps bench second answer) (number : ℕ) → c.came ≡ compared.Differ number → ⊥
    never-so answer c number is =
        let first : c.p ≡ p = first-is c.p c.q c.reads in
        let other : c.q ≡ q = second-is c.p c.q c.reads in
        let result = both.restructured.result in
        never_differ p q both.restructured.same both.restructured.structured.structured
        (subst IsOwn first c.own) (subst IsOwn other c.own_too) files
        (fair both.first p both.restructured.reads result.is.clear.flow.never files)
        steps bench.left bench.left_now bench.old bench.new second.left second.left_now second.old second.new c.came tells tells_too
        (subst (λ r. ComparedSo r q c.came) first (subst (λ s. ComparedSo c.p s c.came) other c.compares)) number is

pub asked-never : FaultlessRunsEndFairly → ComparedResultsNeverDiffer → AskedResultsNeverDiffer
asked-never fair never_differ steps source out notes bench second end (inl h) bytes files told both tells tells_too =
    let same : h.bytes ≡ bytes = sym (subst (λ t. Tells t h.bytes) told h.told) in
    given-never steps out notes end bytes bench second h.answer (subst (λ b. AnswersTwo b steps bench second h.answer) same h.comes)
    (never-so fair never_differ bytes both files steps bench second tells tells_too h.answer) h.given
asked-never fair never_differ steps source out notes bench second end (inr h) bytes files told both tells tells_too = unrun-never source out notes end h.0
