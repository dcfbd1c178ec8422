-- How a call that compares two programs ends.
use Rattle.std.proofs.Common.{◌≡◌, ◌∙◌, ℕ, ◌+◌, List, [], ◌∷◌, ◌++◌, take, Result, Ok, Err, Bool, false, refl, ap, sym, subst, ◌⊎◌, inl, inr}
use Rattle.cob_base.specs.Limit.{max_source}
use Rattle.cob_base.specs.Sink.{SinkCall}
use Rattle.cob_base.specs.Source.{SourceCall}
use Rattle.cob_tree.specs.declared.program.Program.{Program}
use Rattle.file_model.specs.operations.Calls.{addresses_of}
use Rattle.file_model.specs.operations.Falling.{LeftOf, is_used}
use Rattle.control_flow_theory.proofs.language_lemmas.OwnStatements.{paragraphs-own}
use Rattle.end_to_end_laws.proofs.read_programs_lemmas.named_reading_lemmas.Whole.{read-named}
use Rattle.cobol_read.specs.Reading.{Reads}
use Rattle.cobol_run.specs.Own.{IsOwn}
use Rattle.cobol_run.proofs.ShutLemmas.{fell_named}
use Rattle.restructure_core.specs.run.Bench.{BenchCall, StaysAsWas}
use Rattle.source_pairs.specs.declared.pair.PairRefusal.{PairRefusal}
use Rattle.source_pairs.specs.declared.pair.PairRefusal.TheVariants as pairs
use Rattle.source_pairs.specs.Pair.{HasPairCause, ReadsTwo}
use Rattle.source_pairs.proofs.PairLemmas.{cause-front, reads-front}
use Rattle.trace_compare.specs.declared.compared.Compared.{Compared}
use Rattle.trace_compare.specs.declared.compared.Compared.TheVariants as compared
use Rattle.trace_compare.specs.Comparing.{Compares}
use Rattle.restructure_asks.specs.declared.refusal.Refusal.{Refusal}
use Rattle.restructure_asks.specs.declared.refusal.Refusal.TheVariants as refusal
use Rattle.restructure_asks.specs.declared.status.Status.{Status}
use Rattle.restructure_asks.specs.declared.status.Status.TheVariants as status
use Rattle.restructure_asks.specs.declared.texts.Texts.{Texts}
use Rattle.restructure_asks.specs.Answer.{Answer}
use Rattle.restructure_asks.specs.Comparing.{AnswersTwo, EndsOfComparing, IsCompared, IsTold, IsUnpaired, of_pair, told}
use Rattle.restructure_asks.specs.Reading.{IsRead}
use Rattle.restructure_asks.specs.Tool.{IsEitherTold}
use Rattle.restructure_asks.specs.Writing.{IsGiven, Notes}
use Rattle.restructure_asks.proofs.DeviceLemmas.{is_of_device, noted_line, noted_never, written_never}

-- ---- what came of the text that was read came of the bytes of the source

module _ (bytes text : List ℕ) (front : text ≡ take (max_source + 1) bytes) (steps : ℕ) (bench second : BenchCall) (answer : Answer) where
  compared-front : IsCompared text steps bench second answer → IsCompared bytes steps bench second answer
  compared-front c = record {
    p = c.p;
    q = c.q;
    reads = reads-front bytes c.p c.q (subst (λ t. ReadsTwo t c.p c.q) front c.reads);
    own = c.own;
    own_too = c.own_too;
    came = c.came;
    compares = c.compares;
    tells = c.tells;
  }

  unpaired-front : IsUnpaired text bench second answer → IsUnpaired bytes bench second answer
  unpaired-front u = record {
    why = u.why;
    cause = cause-front bytes u.why (subst (λ t. HasPairCause t u.why) front u.cause);
    tells = u.tells;
    stays = u.stays;
    stays_too = u.stays_too;
  }

  answers-front : AnswersTwo text steps bench second answer → AnswersTwo bytes steps bench second answer
  answers-front (inl c) = inl (compared-front c)
  answers-front (inr u) = inr (unpaired-front u)

pub compared-ends : (steps : ℕ) (source : SourceCall) (text : List ℕ) (read : IsRead source text) (out notes : SinkCall) (bench second : BenchCall) (answer : Answer) (end : Status) → AnswersTwo text steps bench second answer → IsGiven answer out notes end → EndsOfComparing steps source out notes bench second end
compared-ends steps source text read out notes bench second answer end comes given = inl (record {
  bytes = read.bytes;
  told = read.told;
  left = read.left;
  answer = answer;
  comes = answers-front read.bytes text read.front steps bench second answer comes;
  given = given;
})

-- ---- what comes of two programs that are read, or aren't

-- no word on an added item stands in a program that is read
read-own : (bytes : List ℕ) (program : Program) → Reads bytes program → IsOwn program
read-own bytes program reads = paragraphs-own 0 program.paragraphs (read-named bytes program reads).1

pub paired : (bytes : List ℕ) (p q : Program) (steps : ℕ) (bench second : BenchCall) (came : Compared) (answer : Answer) → ReadsTwo bytes p q → Compares p q steps bench.left bench.left_now bench.old bench.new second.left second.left_now second.old second.new came → IsTold steps came answer → AnswersTwo bytes steps bench second answer
paired bytes p q steps bench second came answer reads compares tells =
    inl (record {
      p = p;
      q = q;
      reads = reads;
      own = read-own reads.first p reads.reads;
      own_too = read-own reads.second q reads.reads_too;
      came = came;
      compares = compares;
      tells = tells;
    })

-- ---- a device that is told failed

same-refusal : (one other : Refusal) → ◌≡◌ {A = Answer} (Err one) (Err other) → one ≡ other
same-refusal one other h = cc

never-refused : (texts : Texts) (r : Refusal) → ◌≡◌ {A = Answer} (Err r) (Ok texts) → ⊥
never-refused texts r h = cc

pair-other : (why : PairRefusal) → is_of_device (of_pair why) ≡ false
pair-other pairs.TooLong = refl
pair-other pairs.NoSecond = refl
pair-other (pairs.First why) = refl
pair-other (pairs.Second why) = refl
pair-other pairs.NoMemory = refl

module _ (steps : ℕ) (notes : SinkCall) (bench second : BenchCall) (end : Status) (is : end ≡ status.DeviceFault) (r : Refusal) (noted : Notes r notes end) where
  -- the refusal isn't one that tells of none
  other-never : (other : Refusal) → is_of_device other ≡ false → ◌≡◌ {A = Answer} (Err r) (Err other) → ⊥
  other-never other none same = noted_never other notes end none (subst (λ o. Notes o notes end) (same-refusal r other same) noted) is

  line-of : (other : Refusal) → ◌≡◌ {A = Answer} (Err r) (Err other) → Notes other notes end
  line-of other same = subst (λ o. Notes o notes end) (same-refusal r other same) noted

  came-told : (came : Compared) (p q : Program) → Compares p q steps bench.left bench.left_now bench.old bench.new second.left second.left_now second.old second.new came → Err r ≡ told steps came → IsEitherTold notes bench second
  came-told (compared.Same count) p q h same = absurd (never-refused _ r same)
  came-told (compared.Differ number) p q h same = absurd (other-never (refusal.Differ number) refl same)
  came-told compared.Budget p q h same = absurd (other-never (refusal.Budget steps) refl same)
  came-told (compared.FirstFault name) p q h same = inl (record {
    name = name;
    fell =
        fell_named (is_used (addresses_of p.files)) h.names.0 name bench.left bench.left_now bench.old bench.new
        (subst (λ (l : List (List ℕ)). LeftOf (is_used (addresses_of p.files)) l bench.left bench.left_now bench.old bench.new) h.names.1 h.bench);
    noted = noted_line (refusal.Device name) notes end is (line-of (refusal.Device name) same);
  })
  came-told (compared.SecondFault name) p q h same = inr (record {
    name = name;
    fell =
        fell_named (is_used (addresses_of q.files)) h.other_names.0 name second.left second.left_now second.old second.new
        (subst (λ (l : List (List ℕ)). LeftOf (is_used (addresses_of q.files)) l second.left second.left_now second.old second.new) h.other_names.1 h.other_bench);
    noted = noted_line (refusal.SecondDevice name) notes end is (line-of (refusal.SecondDevice name) same);
  })
  came-told compared.NoMemory p q h same = absurd (other-never refusal.NoMemory refl same)

  refusal-told : (bytes : List ℕ) → AnswersTwo bytes steps bench second (Err r) → IsEitherTold notes bench second
  refusal-told bytes (inl c) = elim c.tells [
    | inl same ↦ came-told c.came c.p c.q c.compares same
    | inr none ↦ absurd (other-never refusal.NoMemory refl none)
  ]
  refusal-told bytes (inr u) = absurd (other-never (of_pair u.why) (pair-other u.why) u.tells)

pub either-told : (bytes : List ℕ) (steps : ℕ) (out notes : SinkCall) (bench second : BenchCall) (answer : Answer) (end : Status) → AnswersTwo bytes steps bench second answer → IsGiven answer out notes end → end ≡ status.DeviceFault → IsEitherTold notes bench second
either-told bytes steps out notes bench second (Ok texts) end comes given is = absurd (written_never texts out notes end given is)
either-told bytes steps out notes bench second (Err r) end comes given is = refusal-told steps notes bench second end is r given.1 bytes comes
