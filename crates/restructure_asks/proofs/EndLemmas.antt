-- How the parts of a call make its end.
use Rattle.std.proofs.Common.{◌≡◌, ℕ, ◌+◌, ◌≤◌, List, [], length, take, Option, Some, None, Ok, Err, refl, ap, sym, ◌∙◌, subst, arith, ◌<◌, ◌⊎◌, inl, inr}
use Rattle.std.specs.Prelude.{min}
use Rattle.std.proofs.lemmas.List.{take_all, length-take}
use Rattle.cob_base.specs.Faults.{Rose}
use Rattle.cob_base.specs.Source.{SourceCall}
use Rattle.cob_base.specs.Sink.{SinkCall}
use Rattle.restructure_core.specs.declared.fault.Refused.{Refused}
use Rattle.restructure_core.specs.declared.fault.Refused.TheVariants as refused
use Rattle.restructure_core.specs.declared.pipeline.Done.{Done}
use Rattle.cob_tree.specs.declared.program.Program.{Program}
use Rattle.cobol_read.specs.declared.refusal.ReadRefusal.TheVariants as rd
use Rattle.cobol_read.specs.Reading.{Reads}
use Rattle.cob_base.specs.Limit.{max_source}
use Rattle.cobol_read.specs.Limit.{past_source}
use Rattle.restructure_core.specs.Fault.{of_read_refusal}
use Rattle.restructure_core.specs.Pipeline.{IsUnread, IsFaultySourceBy, IsPastRanges, IsPastLimit, IsRestructured, HasCause}
use Rattle.restructure_asks.proofs.LengthLemmas.{short-read, short-either}
use Rattle.restructure_asks.specs.declared.ask.Ask.{Ask}
use Rattle.restructure_asks.specs.declared.ask.Ask.TheVariants.{Restructure, Report, Check, Run, Compare, Generate, Trial}
use Rattle.restructure_asks.specs.declared.texts.Texts.{Texts}
use Rattle.restructure_asks.specs.declared.refusal.Refusal.{Refusal}
use Rattle.restructure_asks.specs.declared.refusal.Refusal.TheVariants as refusal
use Rattle.restructure_asks.specs.declared.status.Status.{Status}
use Rattle.restructure_asks.specs.declared.status.Status.TheVariants as status
use Rattle.restructure_asks.specs.Ask.{reads}
use Rattle.restructure_asks.specs.Refusal.{status_of, line_of}
use Rattle.restructure_asks.specs.Answer.{Answer, IsUnasked, IsRefusalOf, IsOfRestructure, IsOfReport, IsOfCheck, IsOfTrial, IsDue, IsMadeFor, IsAnswered}
use Rattle.restructure_asks.specs.Reading.{Tells, left_after, IsRead, IsReadWithin, IsReadFault}
use Rattle.cob_base.specs.giving.Giving.{Takes, Keeps}
use Rattle.restructure_asks.specs.Writing.{Notes, NotesNoMemory, Writes, IsGiven}
use Rattle.restructure_asks.specs.Tool.{EndsOfText, Ends, EndsUnread}

-- What is due to the text that was read is due to the bytes of the source.

-- what was read within the limit is all
pub whole-read : (bytes text : List ℕ) → text ≡ take (max_source + 1) bytes → length text ≤ max_source → text ≡ bytes
whole-read bytes text is short =
    let taken : length text ≡ min (max_source + 1) (length bytes) = ap length is ∙ length-take (max_source + 1) bytes in
    is ∙ take_all (max_source + 1) bytes (omega (arith, taken, short))

-- a text past the limit is of bytes past the limit
pub long-read : (bytes text : List ℕ) → text ≡ take (max_source + 1) bytes → max_source < length text → max_source < length bytes
long-read bytes text is long =
    let taken : length text ≡ min (max_source + 1) (length bytes) = ap length is ∙ length-take (max_source + 1) bytes in
    omega (arith, taken, long)

-- what was made for an ask is due, or the source failed, or memory was wanted
abbrev Came : Option Ask → SourceCall → Answer → Type 0
Came ask source answer = IsAnswered ask source answer
    ⊎ ((answer ≡ Err refusal.ReadFault) × IsReadFault (reads ask) source)
    ⊎ ((answer ≡ Err refusal.NoMemory) × IsReadWithin (reads ask) source)

module _ (source : SourceCall) (text : List ℕ) (read : IsRead source text) where
  -- what holds of the text within the limit holds of the bytes
  short : (P : List ℕ → Type 0) → length text ≤ max_source → P text → P read.bytes
  short P few h = subst P (whole-read read.bytes text read.front few) h

  -- a text that isn't read is of bytes that aren't
  unread : (why : Refused) → IsUnread text why → IsUnread read.bytes why
  unread why h = elim (short-either text h.why h.some h.cause) [
    | inl few ↦ short (λ b. IsUnread b why) few h
    | inr long ↦ record {
      why = rd.Limit past_source;
      some = λ e. cc;
      cause = (long-read read.bytes text read.front long.1, refl);
      is = h.is ∙ ap of_read_refusal long.0;
    }
  ]

  -- what holds of bytes that are a program
  of-program : (P : List ℕ → Type 0) (program : Program) → Reads text program → P text → P read.bytes
  of-program P program reads h = short P (short-read text program reads) h

  cause : (why : Refused) → HasCause text why → HasCause read.bytes why
  cause (refused.NotSubset why) h = unread (refused.NotSubset why) h
  cause (refused.Flow program trail) h = of-program (λ b. IsFaultySourceBy b program trail) program h.reads h
  cause (refused.Limit limit) (inl h) = inl (unread (refused.Limit limit) h)
  cause (refused.Limit limit) (inr (inl h)) = inr (inl (of-program (λ b. IsPastRanges b limit) h.program h.reads h))
  cause (refused.Limit limit) (inr (inr h)) = inr (inr (of-program (λ b. IsPastLimit b limit) h.program h.reads h))
  cause refused.NoMemory h = h

  refusal-due : (r : Refusal) → IsRefusalOf text r → IsRefusalOf read.bytes r
  refusal-due refusal.Usage h = h
  refusal-due (refusal.Refused why) h = (h.0, cause why h.1)
  refusal-due (refusal.Device name) h = h
  refusal-due (refusal.Fault program fault) h = h
  refusal-due (refusal.Abend abend) h = h
  refusal-due (refusal.Budget steps) h = h
  refusal-due refusal.ReadFault h = h
  refusal-due refusal.NoSecond h = h
  refusal-due (refusal.Second why) h = h
  refusal-due (refusal.SecondDevice name) h = h
  refusal-due (refusal.Differ number) h = h
  refusal-due refusal.WriteFault h = h
  refusal-due refusal.NoMemory h = h

  restructured : (done : Done) → IsRestructured text done → IsRestructured read.bytes done
  restructured done h = of-program (λ b. IsRestructured b done) h.program h.reads h

  restructure-due : (answer : Answer) → IsOfRestructure text answer → IsOfRestructure read.bytes answer
  restructure-due (Ok texts) h = (h.0, restructured h.0 h.1, h.2)
  restructure-due (Err r) h = refusal-due r h

  report-due : (answer : Answer) → IsOfReport text answer → IsOfReport read.bytes answer
  report-due (Ok texts) h = (h.0, restructured h.0 h.1, h.2)
  report-due (Err r) h = refusal-due r h

  check-due : (answer : Answer) → IsOfCheck text answer → IsOfCheck read.bytes answer
  check-due (Ok texts) h = (h.0, (h.1.0, restructured (record { text = h.1.0; report = h.0 }) h.1.1), h.2)
  check-due (Err r) h = refusal-due r h

  -- what is made of the text is due to the bytes
  made-came : (ask : Option Ask) (answer : Answer) → reads ask ≡ max_source + 1 → (IsDue ask text answer → IsDue ask read.bytes answer) → IsMadeFor ask text answer → Came ask source answer
  made-came ask answer all due (inl h) = inl (record {
    bytes = read.bytes;
    told = read.told;
    due = due h;
    left = read.left ∙ ap (λ n. left_after n source.told) (sym all);
  })
  made-came ask answer all due (inr none) = inr (inr (
    none,
    record {
      count = max_source + 1;
      within = omega (arith, all);
      left = read.left;
    },
  ))

-- Where nothing is read.

abbrev bytes_told : Option (List ℕ) → List ℕ
bytes_told None = []
bytes_told (Some bytes) = bytes

are-told : (told : Option (List ℕ)) → Tells told (bytes_told told)
are-told None = tt
are-told (Some bytes) = refl

all-left : (told : Option (List ℕ)) → told ≡ left_after 0 told
all-left None = refl
all-left (Some bytes) = refl

module _ (ask : Option Ask) (source : SourceCall) (none : reads ask ≡ 0) (left : source.left ≡ source.told) where
  kept-left : source.left ≡ left_after (reads ask) source.told
  kept-left = left ∙ all-left source.told ∙ ap (λ n. left_after n source.told) (sym none)

  unread-answered : (answer : Answer) → IsDue ask (bytes_told source.told) answer → IsAnswered ask source answer
  unread-answered answer h = record {
    bytes = bytes_told source.told;
    told = are-told source.told;
    due = h;
    left = kept-left;
  }

  unread-came : (answer : Answer) → IsMadeFor ask (bytes_told source.told) answer → Came ask source answer
  unread-came answer (inl h) = inl (unread-answered answer h)
  unread-came answer (inr is) = inr (inr (is, record { count = reads ask; within = omega arith; left = kept-left }))

-- A refusal that was noted ends the call.

-- what no ask for a text is refused for
abbrev IsNeverDue : Refusal → Type 0
IsNeverDue refusal.Usage = ⊥
IsNeverDue (refusal.Refused why) = why ≡ refused.NoMemory
IsNeverDue other = Unit {0}

unasked-never : (r : Refusal) → IsNeverDue r → IsUnasked (Err r) → ⊥
unasked-never refusal.Usage never h = never
unasked-never (refusal.Refused why) never h = h
unasked-never (refusal.Device name) never h = h
unasked-never (refusal.Fault program fault) never h = h
unasked-never (refusal.Abend abend) never h = h
unasked-never (refusal.Budget steps) never h = h
unasked-never refusal.ReadFault never h = h
unasked-never refusal.NoSecond never h = h
unasked-never (refusal.Second why) never h = h
unasked-never (refusal.SecondDevice name) never h = h
unasked-never (refusal.Differ number) never h = h
unasked-never refusal.WriteFault never h = h
unasked-never refusal.NoMemory never h = h

refusal-never : (bytes : List ℕ) (r : Refusal) → IsNeverDue r → IsRefusalOf bytes r → ⊥
refusal-never bytes refusal.Usage never h = h
refusal-never bytes (refusal.Refused why) never h = h.0 never
refusal-never bytes (refusal.Device name) never h = h
refusal-never bytes (refusal.Fault program fault) never h = h
refusal-never bytes (refusal.Abend abend) never h = h
refusal-never bytes (refusal.Budget steps) never h = h
refusal-never bytes refusal.ReadFault never h = h
refusal-never bytes refusal.NoSecond never h = h
refusal-never bytes (refusal.Second why) never h = h
refusal-never bytes (refusal.SecondDevice name) never h = h
refusal-never bytes (refusal.Differ number) never h = h
refusal-never bytes refusal.WriteFault never h = h
refusal-never bytes refusal.NoMemory never h = h

trial-never : (n : ℕ) (r : Refusal) → IsNeverDue r → IsOfTrial n (Err r) → ⊥
trial-never n refusal.Usage never h = h
trial-never n (refusal.Refused (refused.NotSubset why)) never h = h
trial-never n (refusal.Refused (refused.Flow program trail)) never h = h
trial-never n (refusal.Refused (refused.Limit limit)) never h = (let k : ⊥ = cc in k)
trial-never n (refusal.Refused refused.NoMemory) never h = h
trial-never n (refusal.Device name) never h = h
trial-never n (refusal.Fault program fault) never h = h
trial-never n (refusal.Abend abend) never h = h
trial-never n (refusal.Budget steps) never h = h
trial-never n refusal.ReadFault never h = h
trial-never n refusal.NoSecond never h = h
trial-never n (refusal.Second why) never h = h
trial-never n (refusal.SecondDevice name) never h = h
trial-never n (refusal.Differ number) never h = h
trial-never n refusal.WriteFault never h = h
trial-never n refusal.NoMemory never h = h

never-due : (ask : Option Ask) (bytes : List ℕ) (r : Refusal) → IsNeverDue r → IsDue ask bytes (Err r) → ⊥
never-due None bytes r never h = unasked-never r never h
never-due (Some Restructure) bytes r never h = refusal-never bytes r never h
never-due (Some Report) bytes r never h = refusal-never bytes r never h
never-due (Some Check) bytes r never h = refusal-never bytes r never h
never-due (Some (Run steps)) bytes r never h = h
never-due (Some (Compare steps)) bytes r never h = h
never-due (Some (Generate n)) bytes r never h = h
never-due (Some (Trial n)) bytes r never h = trial-never n r never h

module _ (ask : Option Ask) (source : SourceCall) (out notes : SinkCall) where
  abbrev EndsAs : Status → Type 0
  EndsAs = EndsOfText ask source out notes

  noted-ends : (r : Refusal) → IsAnswered ask source (Err r) → Keeps out → Takes (line_of r) notes → EndsAs (status_of r)
  noted-ends refusal.Usage h kept noted = record { refusal = refusal.Usage; answered = h; status = refl; kept = kept; noted = noted }
  noted-ends (refusal.Refused (refused.NotSubset why)) h kept noted = record { refusal = refusal.Refused (refused.NotSubset why); answered = h; status = refl; kept = kept; noted = noted }
  noted-ends (refusal.Refused (refused.Flow program trail)) h kept noted = record { refusal = refusal.Refused (refused.Flow program trail); answered = h; status = refl; kept = kept; noted = noted }
  noted-ends (refusal.Refused (refused.Limit limit)) h kept noted = record { refusal = refusal.Refused (refused.Limit limit); answered = h; status = refl; kept = kept; noted = noted }
  noted-ends (refusal.Refused refused.NoMemory) h kept noted = absurd (never-due ask h.bytes (refusal.Refused refused.NoMemory) refl h.due)
  noted-ends (refusal.Device name) h kept noted = absurd (never-due ask h.bytes (refusal.Device name) tt h.due)
  noted-ends (refusal.Fault program fault) h kept noted = absurd (never-due ask h.bytes (refusal.Fault program fault) tt h.due)
  noted-ends (refusal.Abend abend) h kept noted = absurd (never-due ask h.bytes (refusal.Abend abend) tt h.due)
  noted-ends (refusal.Budget steps) h kept noted = absurd (never-due ask h.bytes (refusal.Budget steps) tt h.due)
  noted-ends refusal.ReadFault h kept noted = absurd (never-due ask h.bytes refusal.ReadFault tt h.due)
  noted-ends refusal.NoSecond h kept noted = absurd (never-due ask h.bytes refusal.NoSecond tt h.due)
  noted-ends (refusal.Second why) h kept noted = absurd (never-due ask h.bytes (refusal.Second why) tt h.due)
  noted-ends (refusal.SecondDevice name) h kept noted = absurd (never-due ask h.bytes (refusal.SecondDevice name) tt h.due)
  noted-ends (refusal.Differ number) h kept noted = absurd (never-due ask h.bytes (refusal.Differ number) tt h.due)
  noted-ends refusal.WriteFault h kept noted = absurd (never-due ask h.bytes refusal.WriteFault tt h.due)
  noted-ends refusal.NoMemory h kept noted = absurd (never-due ask h.bytes refusal.NoMemory tt h.due)

  starved-ends : (answer : Status) → answer ≡ status.NoMemory → IsReadWithin (reads ask) source → Keeps out → NotesNoMemory notes → EndsAs answer
  starved-ends answer is read kept noted = subst EndsAs (sym is) (record { read = read; kept = kept; noted = noted })

  due-ends : (r : Refusal) (answer : Status) → IsAnswered ask source (Err r) → Keeps out → Notes r notes answer → EndsAs answer
  due-ends r answer h kept (inl noted) = subst EndsAs (sym noted.0) (noted-ends r h kept noted.1)
  due-ends r answer h kept (inr noted) = starved-ends answer noted.0 (record { count = reads ask; within = omega arith; left = h.left }) kept noted.1

  fault-ends : (answer : Status) → IsReadFault (reads ask) source → Keeps out → Notes refusal.ReadFault notes answer → EndsAs answer
  fault-ends answer h kept (inl noted) = subst EndsAs (sym noted.0) (record { fault = h; kept = kept; noted = noted.1 })
  fault-ends answer h kept (inr noted) = starved-ends answer noted.0 h.read kept noted.1

  memory-ends : (answer : Status) → IsReadWithin (reads ask) source → Keeps out → Notes refusal.NoMemory notes answer → EndsAs answer
  memory-ends answer h kept (inl noted) = starved-ends answer noted.0 h kept (inl noted.1)
  memory-ends answer h kept (inr noted) = starved-ends answer noted.0 h kept noted.1

  refusal-ends : (r : Refusal) (answer : Status) → Came ask source (Err r) → Keeps out → Notes r notes answer → EndsAs answer
  refusal-ends r answer (inl h) kept noted = due-ends r answer h kept noted
  refusal-ends r answer (inr (inl h)) kept noted =
      fault-ends answer h.1 kept (subst (λ x. Notes x notes answer) (let same : r ≡ refusal.ReadFault = (let e = h.0 in cc) in same) noted)
  refusal-ends r answer (inr (inr h)) kept noted =
      memory-ends answer h.1 kept (subst (λ x. Notes x notes answer) (let same : r ≡ refusal.NoMemory = (let e = h.0 in cc) in same) noted)

  -- texts that were written end the call
  text-ends : (texts : Texts) (answer : Status) → IsAnswered ask source (Ok texts) → Writes texts out notes answer → EndsAs answer
  text-ends texts status.Done h g = record { texts = texts; answered = h; written = g.0; noted = g.1 }
  text-ends texts status.Usage h g = absurd g
  text-ends texts status.NotSubset h g = absurd g
  text-ends texts status.Flow h g = absurd g
  text-ends texts status.Limit h g = absurd g
  text-ends texts status.ReadFault h g = absurd g
  text-ends texts status.WriteFault h g = record { texts = texts; answered = h; fault = g }
  text-ends texts status.DeviceFault h g = absurd g
  text-ends texts status.Abend h g = absurd g
  text-ends texts status.Budget h g = absurd g
  text-ends texts status.Differ h g = absurd g
  text-ends texts status.NoMemory h g = record { read = record { count = reads ask; within = omega arith; left = h.left }; kept = g.0; noted = g.1 }

  -- an answer that was given ends the call
  given-ends : (answer : Answer) (end : Status) → Came ask source answer → IsGiven answer out notes end → EndsAs end
  given-ends (Ok texts) end (inl h) g = text-ends texts end h g
  given-ends (Ok texts) end (inr (inl h)) g = absurd (let e = h.0 in let never : ⊥ = cc in never)
  given-ends (Ok texts) end (inr (inr h)) g = absurd (let e = h.0 in let never : ⊥ = cc in never)
  given-ends (Err r) end h g = refusal-ends r end h g.0 g.1

-- The ends of asks.

-- a source that failed, or for which memory was wanted
unread-why : (ask : Option Ask) (source : SourceCall) (r : Refusal) → reads ask ≡ max_source + 1 → (r ≡ refusal.ReadFault) ⊎ (r ≡ refusal.NoMemory) → (r ≡ refusal.ReadFault → Rose source.count source.count_now) → IsReadWithin (max_source + 1) source → Came ask source (Err r)
unread-why ask source r all (inl is) rose within =
    inr (inl (ap Err is, record { asked = omega (arith, all); rose = rose is; read = subst (λ n. IsReadWithin n source) (sym all) within }))
unread-why ask source r all (inr is) rose within = inr (inr (ap Err is, subst (λ n. IsReadWithin n source) (sym all) within))

module _ (source : SourceCall) (out notes : SinkCall) (answer : Status) where
  module _ (text : List ℕ) (read : IsRead source text) (made : Answer) (given : IsGiven made out notes answer) where
    pub restructure-ends : IsMadeFor (Some Restructure) text made → Ends (Some Restructure) source out notes answer
    restructure-ends h = given-ends (Some Restructure) source out notes made answer (made-came source text read (Some Restructure) made refl (restructure-due source text read made) h) given

    pub report-ends : IsMadeFor (Some Report) text made → Ends (Some Report) source out notes answer
    report-ends h = given-ends (Some Report) source out notes made answer (made-came source text read (Some Report) made refl (report-due source text read made) h) given

    pub check-ends : IsMadeFor (Some Check) text made → Ends (Some Check) source out notes answer
    check-ends h = given-ends (Some Check) source out notes made answer (made-came source text read (Some Check) made refl (check-due source text read made) h) given

  module _ (r : Refusal) (only : (r ≡ refusal.ReadFault) ⊎ (r ≡ refusal.NoMemory)) (rose : r ≡ refusal.ReadFault → Rose source.count source.count_now) (within : IsReadWithin (max_source + 1) source) (kept : Keeps out) (noted : Notes r notes answer) where
    pub restructure-unread : Ends (Some Restructure) source out notes answer
    restructure-unread = refusal-ends (Some Restructure) source out notes r answer (unread-why (Some Restructure) source r refl only rose within) kept noted

    pub report-unread : Ends (Some Report) source out notes answer
    report-unread = refusal-ends (Some Report) source out notes r answer (unread-why (Some Report) source r refl only rose within) kept noted

    pub check-unread : Ends (Some Check) source out notes answer
    check-unread = refusal-ends (Some Check) source out notes r answer (unread-why (Some Check) source r refl only rose within) kept noted

pub generate-ends : (n : ℕ) (out notes : SinkCall) (made : Answer) (answer : Status) → ((bytes : List ℕ) → IsMadeFor (Some (Generate n)) bytes made) → IsGiven made out notes answer → EndsUnread (Some (Generate n)) out notes answer
generate-ends n out notes made answer h given source left =
    given-ends (Some (Generate n)) source out notes made answer (unread-came (Some (Generate n)) source refl left made (h (bytes_told source.told))) given

pub trial-ends : (n : ℕ) (out notes : SinkCall) (made : Answer) (answer : Status) → ((bytes : List ℕ) → IsMadeFor (Some (Trial n)) bytes made) → IsGiven made out notes answer → EndsUnread (Some (Trial n)) out notes answer
trial-ends n out notes made answer h given source left =
    given-ends (Some (Trial n)) source out notes made answer (unread-came (Some (Trial n)) source refl left made (h (bytes_told source.told))) given

-- without an ask the answer is USAGE, and nothing is read
pub usage-ends : (out notes : SinkCall) (answer : Status) → Keeps out → Notes refusal.Usage notes answer → EndsUnread None out notes answer
usage-ends out notes answer kept noted source left =
    due-ends None source out notes refusal.Usage answer (unread-answered None source refl left (Err refusal.Usage) tt) kept noted

-- where memory was wanted for the words
pub wordless-ends : (out notes : SinkCall) (answer : Status) → Keeps out → Notes refusal.NoMemory notes answer → EndsUnread None out notes answer
wordless-ends out notes answer kept noted source left =
    memory-ends None source out notes answer (record { count = 0; within = omega arith; left = kept-left None source refl left }) kept noted

-- what was found of the words is what they ask
pub ask-moved : (ask found some : Option Ask) (source : SourceCall) (out notes : SinkCall) (answer : Status) → found ≡ ask → found ≡ some → Ends some source out notes answer → Ends ask source out notes answer
ask-moved ask found some source out notes answer is was h = subst (λ a. Ends a source out notes answer) (sym was ∙ is) h
