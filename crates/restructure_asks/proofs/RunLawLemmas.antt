-- At most one end of a run is due, and what is due comes.
use Rattle.std.proofs.Common.{◌≡◌, ℕ, ◌+◌, List, [], Option, Some, None, Ok, Err, refl, ap, sym, ◌∙◌, subst, arith, inl, inr}
use Rattle.std.specs.Prelude.{true}
use Rattle.cob_base.specs.Source.{SourceCall}
use Rattle.cob_base.specs.Sink.{SinkCall}
use Rattle.cob_tree.specs.declared.ending.Abend.{Abend}
use Rattle.cob_tree.specs.declared.ending.Abend.TheVariants as abends
use Rattle.cob_tree.specs.declared.ending.FlowFault.{FlowFault}
use Rattle.cob_tree.specs.declared.ending.FlowFault.TheVariants as flow
use Rattle.cob_tree.specs.declared.program.Program.{Program}
use Rattle.control_flow_theory.specs.runs.Run.{Going, Over}
use Rattle.control_flow_theory.specs.semantics.Outcome as outcome
use Rattle.cobol_theory.specs.cobol_meaning.Acting.{abend_number}
use Rattle.cobol_theory.specs.cobol_meaning.Runs.{Files}
use Rattle.cobol_read.specs.Reading.{Reads}
use Rattle.cobol_read.proofs.OneWay.{one_way}
use Rattle.cobol_run.specs.Machine.{ending_seen, fault_seen}
use Rattle.cobol_run.specs.PlainTests.{is_plain}
use Rattle.cobol_run.specs.declared.machine.Ending.{Ending}
use Rattle.cobol_run.specs.declared.machine.Ending.TheVariants as ending
use Rattle.cobol_run.specs.declared.running.Ran.{Ran}
use Rattle.cobol_run.specs.declared.running.Ran.TheVariants as ran
use Rattle.restructure_core.specs.declared.fault.Refused.{Refused}
use Rattle.restructure_core.specs.declared.fault.Refused.TheVariants as refused
use Rattle.restructure_core.specs.Pipeline.{IsUnread}
use Rattle.restructure_core.specs.Fault.{of_read_refusal}
use Rattle.cobol_read.specs.declared.refusal.ReadRefusal.{ReadRefusal}
use Rattle.cobol_read.specs.declared.refusal.ReadRefusal.TheVariants as rd
use Rattle.restructure_core.specs.run.Answers.{Came, Comes}
use Rattle.restructure_asks.specs.declared.refusal.Refusal.{Refusal}
use Rattle.restructure_asks.specs.declared.refusal.Refusal.TheVariants as refusal
use Rattle.restructure_asks.specs.declared.status.Status.{Status}
use Rattle.restructure_asks.specs.declared.status.Status.TheVariants as status
use Rattle.restructure_asks.specs.Status.{IsOneOf}
use Rattle.restructure_asks.specs.Refusal.{status_of}
use Rattle.restructure_asks.specs.Reading.{Tells}
use Rattle.restructure_asks.specs.Running.{EndsAs, IsRunDue, IsUnrun, StandsSo, TellsCame, refusal_of, refusal_of_ending, refusal_of_run, unread}
use Rattle.restructure_asks.specs.Writing.{Notes}
use Rattle.restructure_asks.specs.Laws.{OneRunIsDue, DueRunComes, statuses_of_run}

abend-same : (one other : Abend) → abend_number one ≡ abend_number other → one ≡ other
abend-same abends.BadDigits abends.BadDigits h = refl
abend-same abends.BadDigits abends.OutOfRange h = absurd (let e : 0 ≡ 1 = h in omega (arith, e))
abend-same abends.BadDigits (abends.Io n) h = absurd (let e : 0 ≡ n + 2 = h in omega (arith, e))
abend-same abends.OutOfRange abends.BadDigits h = absurd (let e : 1 ≡ 0 = h in omega (arith, e))
abend-same abends.OutOfRange abends.OutOfRange h = refl
abend-same abends.OutOfRange (abends.Io n) h = absurd (let e : 1 ≡ n + 2 = h in omega (arith, e))
abend-same (abends.Io m) abends.BadDigits h = absurd (let e : m + 2 ≡ 0 = h in omega (arith, e))
abend-same (abends.Io m) abends.OutOfRange h = absurd (let e : m + 2 ≡ 1 = h in omega (arith, e))
abend-same (abends.Io m) (abends.Io n) h = ap abends.Io (let e : m + 2 ≡ n + 2 = h in omega (arith, e))

overlap-same : (m n : ℕ) → outcome.Overlap m ≡ outcome.Overlap n → m ≡ n
overlap-same m n h = cc

reentry-same : (m n : ℕ) → outcome.Reentry m ≡ outcome.Reentry n → m ≡ n
reentry-same m n h = cc

overlap-reentry : (m n : ℕ) → outcome.Overlap m ≡ outcome.Reentry n → ⊥
overlap-reentry m n h = cc

fault-same : (one other : FlowFault) → fault_seen one ≡ fault_seen other → one ≡ other
fault-same (flow.Overlap m) (flow.Overlap n) h = ap flow.Overlap (overlap-same m n h)
fault-same (flow.Overlap m) (flow.Reentry n) h = absurd (overlap-reentry m n h)
fault-same (flow.Reentry m) (flow.Overlap n) h = absurd (overlap-reentry n m (sym h))
fault-same (flow.Reentry m) (flow.Reentry n) h = ap flow.Reentry (reentry-same m n h)

abbrev pub Seen : Type 0
Seen = outcome.Ending Files

abended-same : (one other : ℕ) (files left : Files) → ◌≡◌ {A = Seen} (outcome.Stopped (outcome.Abend one) files) (outcome.Stopped (outcome.Abend other) left) → one ≡ other
abended-same one other files left h = cc

abended-never : (kind : ℕ) (files left : Files) → ◌≡◌ {A = Seen} (outcome.Stopped outcome.Normally files) (outcome.Stopped (outcome.Abend kind) left) → ⊥
abended-never kind files left h = cc

faulted-same : (one other : outcome.FlowFault) → ◌≡◌ {A = Seen} (outcome.Faulted one) (outcome.Faulted other) → one ≡ other
faulted-same one other h = cc

faulted-never : (how : outcome.How) (files : Files) (fault : outcome.FlowFault) → ◌≡◌ {A = Seen} (outcome.Stopped how files) (outcome.Faulted fault) → ⊥
faulted-never how files fault h = cc

pub over-same : (one other : Seen) → Over one ≡ Over other → one ≡ other
over-same one other h = cc

pub over-never : (one : Seen) → Over one ≡ Going → ⊥
over-never one h = cc

module _ (files left : Files) where
  pub ending-same : (one other : Ending) → ending_seen one files ≡ ending_seen other left → one ≡ other
  ending-same ending.Stopped ending.Stopped h = refl
  ending-same ending.Stopped (ending.Abended abend) h = absurd (abended-never (abend_number abend) files left h)
  ending-same ending.Stopped (ending.Faulted fault) h = absurd (faulted-never outcome.Normally files (fault_seen fault) h)
  ending-same (ending.Abended abend) ending.Stopped h = absurd (abended-never (abend_number abend) left files (sym h))
  ending-same (ending.Abended one) (ending.Abended other) h = ap ending.Abended (abend-same one other (abended-same (abend_number one) (abend_number other) files left h))
  ending-same (ending.Abended abend) (ending.Faulted fault) h = absurd (faulted-never (outcome.Abend (abend_number abend)) files (fault_seen fault) h)
  ending-same (ending.Faulted fault) ending.Stopped h = absurd (faulted-never outcome.Normally left (fault_seen fault) (sym h))
  ending-same (ending.Faulted fault) (ending.Abended abend) h = absurd (faulted-never (outcome.Abend (abend_number abend)) left (fault_seen fault) (sym h))
  ending-same (ending.Faulted one) (ending.Faulted other) h = ap ending.Faulted (fault-same one other (faulted-same (fault_seen one) (fault_seen other) h))

-- what is due, by what the bytes are
data IsOf (steps : ℕ) (bytes : List ℕ) (due : Option Refusal) : Type 0 where
  of-refused : (why : Refused) → due ≡ Some (refusal.Refused why) → IsUnread bytes why → IsOf steps bytes due
  of-ended : (program : Program) (end : Ending) → due ≡ refusal_of_ending program end → EndsAs bytes steps program end → IsOf steps bytes due
  of-going : (program : Program) → due ≡ Some (refusal.Budget steps) → StandsSo bytes steps program (λ files. Going) → IsOf steps bytes due

of-due : (steps : ℕ) (bytes : List ℕ) (due : Option Refusal) → IsRunDue steps bytes due → IsOf steps bytes due
of-due steps bytes None h = of-ended h.0 ending.Stopped refl h.1
of-due steps bytes (Some refusal.Usage) h = absurd h
of-due steps bytes (Some (refusal.Refused why)) h = of-refused why refl h
of-due steps bytes (Some (refusal.Fault program fault)) h = of-ended program (ending.Faulted fault) refl h
of-due steps bytes (Some (refusal.Abend abend)) h = of-ended h.0 (ending.Abended abend) refl h.1
of-due steps bytes (Some (refusal.Budget most)) h = of-going h.1.0 (ap (λ n. Some (refusal.Budget n)) h.0) h.1.1
of-due steps bytes (Some (refusal.Device name)) h = absurd h
of-due steps bytes (Some refusal.ReadFault) h = absurd h
of-due steps bytes (Some refusal.NoSecond) h = absurd h
of-due steps bytes (Some (refusal.Second why)) h = absurd h
of-due steps bytes (Some (refusal.SecondDevice name)) h = absurd h
of-due steps bytes (Some (refusal.Differ number)) h = absurd h
of-due steps bytes (Some refusal.WriteFault) h = absurd h
of-due steps bytes (Some refusal.NoMemory) h = absurd h

module _ (steps : ℕ) (bytes : List ℕ) where
  -- bytes that are a program aren't refused
  pub never-both : (program : Program) (why : Refused) → Reads bytes program → IsUnread bytes why → ⊥
  never-both program why reads h = one_way.refused bytes program h.why reads h.some h.cause

  -- what is due to a program is said of one without statements on files
  plain-due : (program : Program) (due : Option Refusal) → Reads bytes program → IsOf steps bytes due → is_plain program ≡ true
  plain-due program due reads (of-refused why is h) = absurd (never-both program why reads h)
  plain-due program due reads (of-ended p e is h) = ap is_plain (one_way.program bytes program p reads h.reads) ∙ h.plain
  plain-due program due reads (of-going p is h) = ap is_plain (one_way.program bytes program p reads h.reads) ∙ h.plain

  ends-same : (one other : Program) (e f : Ending) → EndsAs bytes steps one e → EndsAs bytes steps other f → refusal_of_ending one e ≡ refusal_of_ending other f
  ends-same one other e f h g =
      let same : one ≡ other = one_way.program bytes one other h.reads g.reads in
      let there : EndsAs bytes steps other e = subst (λ p. EndsAs bytes steps p e) same h in
      let alike : e ≡ f = ending-same [] [] e f (over-same (ending_seen e []) (ending_seen f []) (sym (there.stands []) ∙ g.stands [])) in
      ap (λ p. refusal_of_ending p e) same ∙ ap (refusal_of_ending other) alike

  never-going : (one other : Program) (e : Ending) → EndsAs bytes steps one e → StandsSo bytes steps other (λ files. Going) → ⊥
  never-going one other e h g =
      let same : one ≡ other = one_way.program bytes one other h.reads g.reads in
      let there : EndsAs bytes steps other e = subst (λ p. EndsAs bytes steps p e) same h in
      over-never (ending_seen e []) (sym (there.stands []) ∙ g.stands [])

  pub unread-same : (one other : Refused) → IsUnread bytes one → IsUnread bytes other → one ≡ other
  unread-same one other h g = h.is ∙ ap of_read_refusal (one_way.cause bytes h.why g.why h.some g.some h.cause g.cause) ∙ sym g.is

  alike : (one other : Option Refusal) → IsOf steps bytes one → IsOf steps bytes other → one ≡ other
  alike one other (of-refused why is h) (of-refused how was g) = is ∙ ap (λ w. Some (refusal.Refused w)) (unread-same why how h g) ∙ sym was
  alike one other (of-refused why is h) (of-ended p e was g) = absurd (never-both p why g.reads h)
  alike one other (of-refused why is h) (of-going p was g) = absurd (never-both p why g.reads h)
  alike one other (of-ended p e is h) (of-refused why was g) = absurd (never-both p why h.reads g)
  alike one other (of-ended p e is h) (of-ended q f was g) = is ∙ ends-same p q e f h g ∙ sym was
  alike one other (of-ended p e is h) (of-going q was g) = absurd (never-going p q e h g)
  alike one other (of-going p is h) (of-refused why was g) = absurd (never-both p why h.reads g)
  alike one other (of-going p is h) (of-ended q e was g) = absurd (never-going q p e g h)
  alike one other (of-going p is h) (of-going q was g) = is ∙ sym was

pub one-run : OneRunIsDue
one-run steps bytes one other h g = alike steps bytes one other (of-due steps bytes one h) (of-due steps bytes other g)

-- What is due comes.

pub read-fault-comes : (due : Option Refusal) → IsOneOf (statuses_of_run due) status.ReadFault
read-fault-comes None = inr (inr (inl refl))
read-fault-comes (Some refusal.Usage) = inr (inr (inl refl))
read-fault-comes (Some (refusal.Refused why)) = inr (inl refl)
read-fault-comes (Some (refusal.Fault program fault)) = inr (inr (inl refl))
read-fault-comes (Some (refusal.Abend abend)) = inr (inr (inl refl))
read-fault-comes (Some (refusal.Budget most)) = inr (inr (inl refl))
read-fault-comes (Some (refusal.Device name)) = inr (inr (inl refl))
read-fault-comes (Some refusal.ReadFault) = inl refl
read-fault-comes (Some refusal.NoSecond) = inr (inr (inl refl))
read-fault-comes (Some (refusal.Second why)) = inr (inr (inl refl))
read-fault-comes (Some (refusal.SecondDevice name)) = inr (inr (inl refl))
read-fault-comes (Some (refusal.Differ number)) = inr (inr (inl refl))
read-fault-comes (Some refusal.WriteFault) = inr (inr (inl refl))
read-fault-comes (Some refusal.NoMemory) = inr (inr (inl refl))

pub no-memory-comes : (due : Option Refusal) → IsOneOf (statuses_of_run due) status.NoMemory
no-memory-comes None = inr (inr (inr (inl refl)))
no-memory-comes (Some refusal.Usage) = inr (inr (inr (inl refl)))
no-memory-comes (Some (refusal.Refused why)) = inr (inr (inl refl))
no-memory-comes (Some (refusal.Fault program fault)) = inr (inr (inr (inl refl)))
no-memory-comes (Some (refusal.Abend abend)) = inr (inr (inr (inl refl)))
no-memory-comes (Some (refusal.Budget most)) = inr (inr (inr (inl refl)))
no-memory-comes (Some (refusal.Device name)) = inr (inr (inr (inl refl)))
no-memory-comes (Some refusal.ReadFault) = inr (inr (inr (inl refl)))
no-memory-comes (Some refusal.NoSecond) = inr (inr (inr (inl refl)))
no-memory-comes (Some (refusal.Second why)) = inr (inr (inr (inl refl)))
no-memory-comes (Some (refusal.SecondDevice name)) = inr (inr (inr (inl refl)))
no-memory-comes (Some (refusal.Differ number)) = inr (inr (inr (inl refl)))
no-memory-comes (Some refusal.WriteFault) = inr (inr (inr (inl refl)))
no-memory-comes (Some refusal.NoMemory) = inl refl

-- a program whose run was cut off
write-fault-comes : (steps : ℕ) (bytes : List ℕ) (program : Program) (due : Option Refusal) → Reads bytes program → IsRunDue steps bytes due → IsOneOf (statuses_of_run due) status.WriteFault
write-fault-comes steps bytes program None reads h = inr (inl refl)
write-fault-comes steps bytes program (Some refusal.Usage) reads h = absurd h
write-fault-comes steps bytes program (Some (refusal.Refused why)) reads h = absurd (never-both steps bytes program why reads h)
write-fault-comes steps bytes program (Some (refusal.Fault other fault)) reads h = inr (inl refl)
write-fault-comes steps bytes program (Some (refusal.Abend abend)) reads h = inr (inl refl)
write-fault-comes steps bytes program (Some (refusal.Budget most)) reads h = inr (inl refl)
write-fault-comes steps bytes program (Some (refusal.Device name)) reads h = absurd h
write-fault-comes steps bytes program (Some refusal.ReadFault) reads h = absurd h
write-fault-comes steps bytes program (Some refusal.NoSecond) reads h = absurd h
write-fault-comes steps bytes program (Some (refusal.Second why)) reads h = absurd h
write-fault-comes steps bytes program (Some (refusal.SecondDevice name)) reads h = absurd h
write-fault-comes steps bytes program (Some (refusal.Differ number)) reads h = absurd h
write-fault-comes steps bytes program (Some refusal.WriteFault) reads h = absurd h
write-fault-comes steps bytes program (Some refusal.NoMemory) reads h = absurd h

pub noted : (r : Refusal) (due : Option Refusal) (notes : SinkCall) (answer : Status) → IsOneOf (statuses_of_run due) (status_of r) → Notes r notes answer → IsOneOf (statuses_of_run due) answer
noted r due notes answer h (inl g) = subst (IsOneOf (statuses_of_run due)) (sym g.0) h
noted r due notes answer h (inr g) = subst (IsOneOf (statuses_of_run due)) (sym g.0) (no-memory-comes due)

module _ (steps : ℕ) (bytes : List ℕ) (due : Option Refusal) (is_due : IsRunDue steps bytes due) where
  -- the same is due as came
  due-noted : (r : Refusal) (notes : SinkCall) (answer : Status) → IsRunDue steps bytes (Some r) → IsOneOf (statuses_of_run (Some r)) (status_of r) → Notes r notes answer → IsOneOf (statuses_of_run due) answer
  due-noted r notes answer h first g =
      noted r due notes answer (subst (λ d. IsOneOf (statuses_of_run d) (status_of r)) (one-run steps bytes (Some r) due h is_due) first) g

  -- a program that is read runs so over all files
  is-plain : (program : Program) → Reads bytes program → is_plain program ≡ true
  is-plain program reads = plain-due steps bytes program due reads (of-due steps bytes due is_due)

  stands-so : (program : Program) (end : Ending) (out : SinkCall) → Comes bytes steps out (Ok (record { program = program; ran = ran.Ended end })) → EndsAs bytes steps program end
  stands-so program end out h = record { reads = h.0; plain = is-plain program h.0; stands = λ files. (h.1 (is-plain program h.0) files).0 }

  done-comes : (program : Program) → EndsAs bytes steps program ending.Stopped → IsOneOf (statuses_of_run due) status.Done
  done-comes program h = subst (λ d. IsOneOf (statuses_of_run d) status.Done) (one-run steps bytes None due (program, h) is_due) (inl refl)

  refused-told : (why : ReadRefusal) (notes : SinkCall) (answer : Status) → IsUnread bytes (of_read_refusal why) → TellsCame (Some (unread why)) notes answer → IsOneOf (statuses_of_run due) answer
  refused-told (rd.Limit limit) notes answer h g = due-noted (refusal.Refused (refused.Limit limit)) notes answer h (inl refl) g
  refused-told rd.NoMemory notes answer h g = noted refusal.NoMemory due notes answer (no-memory-comes due) g
  refused-told (rd.Fault fault) notes answer h g = due-noted (refusal.Refused (refused.NotSubset fault)) notes answer h (inl refl) g

  ran-told : (program : Program) (one : Ran) (out notes : SinkCall) (answer : Status) → Comes bytes steps out (Ok (record { program = program; ran = one })) → TellsCame (refusal_of_run steps program one) notes answer → IsOneOf (statuses_of_run due) answer
  ran-told program (ran.Ended ending.Stopped) out notes answer h g =
      subst (IsOneOf (statuses_of_run due)) (sym g.0) (done-comes program (stands-so program ending.Stopped out h))
  ran-told program (ran.Ended (ending.Abended abend)) out notes answer h g =
      due-noted (refusal.Abend abend) notes answer (program, stands-so program (ending.Abended abend) out h) (inl refl) g
  ran-told program (ran.Ended (ending.Faulted fault)) out notes answer h g =
      due-noted (refusal.Fault program fault) notes answer (stands-so program (ending.Faulted fault) out h) (inl refl) g
  ran-told program ran.Budget out notes answer h g =
      let plain = is-plain program h.0 in
      due-noted (refusal.Budget steps) notes answer (refl, (program, record { reads = h.0; plain = plain; stands = λ files. (h.1 plain files).0 })) (inl refl) g
  ran-told program (ran.DeviceFault name) out notes answer h g = absurd (h.1 (is-plain program h.0) [])
  ran-told program ran.WriteFault out notes answer h g =
      subst (IsOneOf (statuses_of_run due)) (sym g.0) (write-fault-comes steps bytes program due h.0 is_due)
  ran-told program ran.NoMemory out notes answer h g = noted refusal.NoMemory due notes answer (no-memory-comes due) g

  came-told : (c : Came) (out notes : SinkCall) (answer : Status) → Comes bytes steps out c → TellsCame (refusal_of steps c) notes answer → IsOneOf (statuses_of_run due) answer
  came-told (Ok run) out notes answer h g = ran-told run.program run.ran out notes answer h g
  came-told (Err rd.NoMemory) out notes answer h g = noted refusal.NoMemory due notes answer (no-memory-comes due) g
  came-told (Err (rd.Fault fault)) out notes answer h g =
      refused-told (rd.Fault fault) notes answer (record { why = rd.Fault fault; some = h.1; cause = h.0; is = refl }) g
  came-told (Err (rd.Limit limit)) out notes answer h g =
      refused-told (rd.Limit limit) notes answer (record { why = rd.Limit limit; some = h.1; cause = h.0; is = refl }) g

pub unrun-comes : (due : Option Refusal) (source : SourceCall) (out notes : SinkCall) (answer : Status) → IsUnrun source out notes answer → IsOneOf (statuses_of_run due) answer
unrun-comes due source out notes answer h = elim h.why [
  | inl fault ↦ noted h.refusal due notes answer (subst (λ r. IsOneOf (statuses_of_run due) (status_of r)) (sym fault.0) (read-fault-comes due)) h.noted
  | inr starved ↦ noted h.refusal due notes answer (subst (λ r. IsOneOf (statuses_of_run due) (status_of r)) (sym starved.0) (no-memory-comes due)) h.noted
]

pub due-run : DueRunComes
due-run steps source out notes answer (inl h) bytes due told is_due =
    let same : h.run.bytes ≡ bytes = sym (subst (λ t. Tells t h.run.bytes) told h.run.told) in
    came-told steps bytes due is_due h.came out notes answer (subst (λ b. Comes b steps out h.came) same h.run.comes) h.told
due-run steps source out notes answer (inr h) bytes due told is_due = unrun-comes due source out notes answer h
