-- What goes to the notes, and what is written.
use Rattle.std.proofs.Common.{◌≡◌, ℕ, ◌-◌, List, Option, Some, None, sym, ◌∙◌, subst, inl, inr}
use Rattle.cob_base.specs.Sink.{SinkCall}
use Rattle.cob_base.specs.giving.Giving.{Takes, Keeps}
use Rattle.cob_base.proofs.giving_lemmas.GivingLemmas.{call}
use Rattle.restructure_asks.specs.Writing.{NotesLine, NotesOrNot, Notes, Writes}
use Rattle.restructure_asks.specs.declared.texts.Texts.{Texts}
use Rattle.restructure_asks.specs.declared.refusal.Refusal.{Refusal}
use Rattle.restructure_asks.specs.declared.refusal.Refusal.TheVariants as refusal
use Rattle.restructure_asks.specs.declared.status.Status.{Status}
use Rattle.restructure_asks.specs.declared.status.Status.TheVariants as status
use Rattle.restructure_asks.specs.Refusal.{status_of, line_of}
use Rattle.restructure_asks.specs.Texts.{text_alone, with_report}

-- the same of a sink that was made ready first
pub front-from : (bytes line : List ℕ) (held mid now : Option (List ℕ)) (count count_mid count_now : ℕ) → Takes bytes (call mid now count_mid count_now) → bytes ≡ line → mid ≡ held → count_mid ≡ count → Takes line (call held now count count_now)
front-from bytes line held mid now count count_mid count_now h is same counts =
    subst (λ b. Takes b (call held now count count_now)) is
    (subst (λ m. Takes bytes (call m now count count_now)) same (subst (λ n. Takes bytes (call mid now n count_now)) counts h))

-- a line that was noted tells its refusal, or want of memory
pub line-noted : (r : Refusal) (line : List ℕ) (wanted : Status) (notes : SinkCall) (answer : Status) → line ≡ line_of r → wanted ≡ status_of r → NotesLine line wanted notes answer → Notes r notes answer
line-noted r line wanted notes answer is same (inl h) = inl (h.0 ∙ same, subst (λ l. Takes l notes) is h.1)
line-noted r line wanted notes answer is same (inr h) = inr (h.0, inr h.1)

pub line-or-not : (r : Refusal) (line : List ℕ) (wanted : Status) (notes : SinkCall) (answer : Status) → line ≡ line_of r → NotesLine line wanted notes answer → NotesOrNot r notes
line-or-not r line wanted notes answer is (inl h) = inl (subst (λ l. Takes l notes) is h.1)
line-or-not r line wanted notes answer is (inr h) = inr h.1

pub no-memory-noted : (r : Refusal) (notes : SinkCall) (answer : Status) → NotesLine (line_of refusal.NoMemory) status.NoMemory notes answer → Notes r notes answer
no-memory-noted r notes answer (inl h) = inr (h.0, inl h.1)
no-memory-noted r notes answer (inr h) = inr (h.0, inr h.1)

-- where nothing is written for want of memory
pub writes-nothing : (texts : Texts) (out notes : SinkCall) (answer : Status) → Keeps out → Notes refusal.NoMemory notes answer → Writes texts out notes answer
writes-nothing texts out notes answer kept (inl noted) = subst (Writes texts out notes) (sym noted.0) (kept, inl noted.1)
writes-nothing texts out notes answer kept (inr noted) = subst (Writes texts out notes) (sym noted.0) (kept, noted.1)

-- texts are those of their parts
pub as-alone : (texts : Texts) (out notes : SinkCall) (answer : Status) → texts.report ≡ None → Writes (text_alone texts.text) out notes answer → Writes texts out notes answer
as-alone texts out notes answer is h = subst (λ r. Writes (record { text = texts.text; report = r }) out notes answer) (sym is) h

pub as-both : (texts : Texts) (report : List ℕ) (out notes : SinkCall) (answer : Status) → texts.report ≡ Some report → Writes (with_report texts.text report) out notes answer → Writes texts out notes answer
as-both texts report out notes answer is h = subst (λ r. Writes (record { text = texts.text; report = r }) out notes answer) (sym is) h
