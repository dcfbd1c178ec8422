-- How a call that runs a source ends, and what is due to it.
use Rattle.std.proofs.Common.{◌≡◌, ℕ, ◌+◌, ◌≤◌, List, length, Some, Ok, Err, refl, sym, subst, arith, ◌<◌, ◌⊎◌, inl, inr}
use Rattle.std.specs.Prelude.{◌≢◌}
use Rattle.cob_base.specs.Faults.{Rose}
use Rattle.cob_base.specs.Source.{SourceCall}
use Rattle.cob_base.specs.Sink.{SinkCall}
use Rattle.cobol_read.specs.declared.refusal.ReadRefusal.{ReadRefusal}
use Rattle.cobol_read.specs.declared.refusal.ReadRefusal.TheVariants as rd
use Rattle.cob_base.specs.Limit.{max_source}
use Rattle.cobol_read.specs.Limit.{past_source}
use Rattle.cobol_read.specs.Reading.{HasCause}
use Rattle.restructure_core.specs.run.Answers.{Came, Comes, ComesOver, IsWriteFault}
use Rattle.restructure_core.specs.run.Bench.{BenchCall}
use Rattle.restructure_asks.proofs.LengthLemmas.{short-read, short-either}
use Rattle.restructure_asks.proofs.EndLemmas.{whole-read, long-read}
use Rattle.restructure_asks.specs.declared.refusal.Refusal.{Refusal}
use Rattle.restructure_asks.specs.declared.refusal.Refusal.TheVariants as refusal
use Rattle.restructure_asks.specs.declared.status.Status.{Status}
use Rattle.restructure_asks.specs.declared.status.Status.TheVariants as status
use Rattle.restructure_asks.specs.Reading.{IsRead, IsReadWithin, IsReadFault}
use Rattle.restructure_asks.specs.Running.{IsRun, IsUnrun, EndsOfRun, EndsOfRunWithFiles, TellsCame, refusal_of}
use Rattle.cob_base.specs.giving.Giving.{Keeps}
use Rattle.restructure_asks.specs.Writing.{Notes, NotesOrNot}

-- What came of the text that was read came of the bytes of the source.
module _ (steps : ℕ) (source : SourceCall) (out : SinkCall) (text : List ℕ) (read : IsRead source text) where
  run-of : (c : Came) → Comes read.bytes steps out c → IsRun steps source out c
  run-of c h = record { bytes = read.bytes; told = read.told; comes = h; left = read.left }

  short : (c : Came) → length text ≤ max_source → Comes text steps out c → IsRun steps source out c
  short c few h = run-of c (subst (λ b. Comes b steps out c) (whole-read read.bytes text read.front few) h)

  long : (why : ReadRefusal) → why ≡ rd.Limit past_source → max_source < length text → why ≢ rd.NoMemory → Keeps out → IsRun steps source out (Err why)
  long why is past some kept = subst (λ w. IsRun steps source out (Err w)) (sym is) (run-of (Err (rd.Limit past_source)) ((long-read read.bytes text read.front past, refl), (λ e. cc), kept))

  -- a text that is refused, for another cause than the want of memory
  refused : (why : ReadRefusal) → why ≢ rd.NoMemory → HasCause text why → Keeps out → Comes text steps out (Err why) → IsRun steps source out (Err why)
  refused why some cause kept h = elim (short-either text why some cause) [
    | inl few ↦ short (Err why) few h
    | inr past ↦ long why past.0 past.1 some kept
  ]

  pub was-run : (c : Came) → Comes text steps out c → IsRun steps source out c
  was-run (Ok run) h = short (Ok run) (short-read text run.program h.0) h
  was-run (Err rd.NoMemory) h = run-of (Err rd.NoMemory) h
  was-run (Err (rd.Fault fault)) h = refused (rd.Fault fault) h.1 h.0 h.2 h
  was-run (Err (rd.Limit limit)) h = refused (rd.Limit limit) h.1 h.0 h.2 h

  pub told-run : (c : Came) (notes : SinkCall) (answer : Status) → Comes text steps out c → TellsCame (refusal_of steps c) notes answer → (IsWriteFault c → Rose out.count out.count_now) → EndsOfRun steps source out notes answer
  told-run c notes answer h told fault = inl (record { came = c; run = was-run c h; told = told; fault = fault })

  pub over-run : (c : Came) (notes : SinkCall) (answer : Status) (bench : BenchCall) → Comes text steps out c → ComesOver text steps out bench c → TellsCame (refusal_of steps c) notes answer → (IsWriteFault c → Rose out.count out.count_now) → EndsOfRunWithFiles steps source out notes bench answer
  unfolding run-of
  over-run (Ok run) notes answer bench h over told fault =
      let c : Came = Ok run in
      let whole = whole-read read.bytes text read.front (short-read text run.program h.0) in
      inl (record {
        told = record { came = c; run = run-of c (subst (λ b. Comes b steps out c) whole h); told = told; fault = fault };
        over = subst (λ b. ComesOver b steps out bench c) whole over;
      })
  over-run (Err why) notes answer bench h over told fault =
      inl (record { told = record { came = Err why; run = was-run (Err why) h; told = told; fault = fault }; over = over })

-- a source that failed, or for which memory was wanted, wasn't run
pub never-run : (source : SourceCall) (out notes : SinkCall) (r : Refusal) (answer : Status) → (r ≡ refusal.ReadFault) ⊎ (r ≡ refusal.NoMemory) → (r ≡ refusal.ReadFault → Rose source.count source.count_now) → IsReadWithin (max_source + 1) source → Keeps out → Notes r notes answer → IsUnrun source out notes answer
never-run source out notes r answer which rose within kept noted = record { refusal = r; why = why which; kept = kept; noted = noted } where
  why : (r ≡ refusal.ReadFault) ⊎ (r ≡ refusal.NoMemory) → (r ≡ refusal.ReadFault) × IsReadFault (max_source + 1) source ⊎ (r ≡ refusal.NoMemory) × IsReadWithin (max_source + 1) source
  why (inl is) = inl (is, record { asked = omega arith; rose = rose is; read = within })
  why (inr is) = inr (is, within)

pub unrun : (steps : ℕ) (source : SourceCall) (out notes : SinkCall) (r : Refusal) (answer : Status) → (r ≡ refusal.ReadFault) ⊎ (r ≡ refusal.NoMemory) → (r ≡ refusal.ReadFault → Rose source.count source.count_now) → IsReadWithin (max_source + 1) source → Keeps out → Notes r notes answer → EndsOfRun steps source out notes answer
unrun steps source out notes r answer which rose within kept noted = inr (never-run source out notes r answer which rose within kept noted)

-- What was noted tells what came.

pub told-refusal : (r : Refusal) (notes : SinkCall) (answer : Status) → (r ≡ refusal.WriteFault → ⊥) → Notes r notes answer → TellsCame (Some r) notes answer
told-refusal refusal.Usage notes answer other g = g
told-refusal (refusal.Refused why) notes answer other g = g
told-refusal (refusal.Fault program fault) notes answer other g = g
told-refusal (refusal.Abend abend) notes answer other g = g
told-refusal (refusal.Budget most) notes answer other g = g
told-refusal (refusal.Device name) notes answer other g = g
told-refusal refusal.ReadFault notes answer other g = g
told-refusal refusal.NoSecond notes answer other g = g
told-refusal (refusal.Second why) notes answer other g = g
told-refusal (refusal.SecondDevice name) notes answer other g = g
told-refusal (refusal.Differ number) notes answer other g = g
told-refusal refusal.WriteFault notes answer other g = absurd (other refl)
told-refusal refusal.NoMemory notes answer other g = g

pub told-fault : (notes : SinkCall) → NotesOrNot refusal.WriteFault notes → TellsCame (Some refusal.WriteFault) notes status.WriteFault
told-fault notes noted = (refl, noted)
