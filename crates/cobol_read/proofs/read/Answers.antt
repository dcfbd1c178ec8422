use Rattle.std.proofs.Common.{◌≡◌, List, ℕ, Ok, Err, refl, sym, ap, subst, inl, inr, ◌⊎◌}
use Rattle.std.specs.Prelude.{IfOk, IfErr}
use Rattle.cob_base.specs.Answers.{Answers}
use Rattle.cobol_read.specs.declared.refusal.ReadRefusal.{ReadRefusal}
use Rattle.cobol_read.specs.declared.refusal.ReadRefusal.TheVariants as refusals
use Rattle.cobol_read.specs.Answer.{Answer, answer_of}
use Rattle.cobol_read.specs.Reading.{HasCause, IsAnswered, Reads}
use Rattle.cobol_read.proofs.AnswerLemmas.{Tells, answer_tells, reads_answer, cause_answer}
use Rattle.cobol_read.proofs.read.Goals as goal

-- want of memory, or another refusal
is_memory : (refusal : ReadRefusal) → (refusal ≡ refusals.NoMemory) ⊎ (refusal ≡ refusals.NoMemory → ⊥)
is_memory (refusals.Fault fault) = inr (λ e. cc)
is_memory (refusals.Limit limit) = inr (λ e. cc)
is_memory refusals.NoMemory = inl refl

found : (bytes : List ℕ) (result : Answer) → Answers refusals.NoMemory (answer_of bytes) result → IfOk result (Reads bytes)
found bytes (Ok program) e = subst (Tells bytes) e (answer_tells bytes)
found bytes (Err refusal) e = tt

refused : (bytes : List ℕ) (result : Answer) → Answers refusals.NoMemory (answer_of bytes) result → IfErr result (HasCause bytes)
refused bytes (Ok program) e = tt
refused bytes (Err refusal) e = go (is_memory refusal)
  where
    go : (refusal ≡ refusals.NoMemory) ⊎ (refusal ≡ refusals.NoMemory → ⊥) → HasCause bytes refusal
    go (inl is) = subst (HasCause bytes) (sym is) tt
    go (inr not) = subst (Tells bytes) (e not) (answer_tells bytes)

abbrev refused_by : ReadRefusal → Answer
refused_by r = Err r

-- what is meant is answered, or memory is wanted
answered : (meant result : Answer) → Answers refusals.NoMemory meant result → IsAnswered meant result
answered meant (Ok program) e = inl (sym e)
answered meant (Err refusal) e = go (is_memory refusal)
  where
    go : (refusal ≡ refusals.NoMemory) ⊎ (refusal ≡ refusals.NoMemory → ⊥) → IsAnswered meant (Err refusal)
    go (inl is) = inr (ap (λ (r : ReadRefusal). refused_by r) is)
    go (inr not) = inl (sym (e not))

pub returns-clause-found : goal.returns-clause-found
returns-clause-found c = found c.args.bytes.now c.answer_of.result c.answer_of.ensures

pub returns-clause-refused : goal.returns-clause-refused
returns-clause-refused c = refused c.args.bytes.now c.answer_of.result c.answer_of.ensures

pub returns-clause-only : goal.returns-clause-only
returns-clause-only c = λ program has.
    subst (λ meant. IsAnswered meant c.answer_of.result) (reads_answer c.args.bytes.now program has) (answered (answer_of c.args.bytes.now) c.answer_of.result c.answer_of.ensures)

pub returns-clause-refuses : goal.returns-clause-refuses
returns-clause-refuses c = λ refusal not has.
    subst (λ meant. IsAnswered meant c.answer_of.result) (cause_answer c.args.bytes.now refusal not has) (answered (answer_of c.args.bytes.now) c.answer_of.result c.answer_of.ensures)
