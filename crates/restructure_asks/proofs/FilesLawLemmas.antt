-- At most one end of a run over files is due, and what is due comes.
use Rattle.std.proofs.Common.{◌≡◌, ℕ, List, Option, Some, None, Ok, Err, refl, ap, sym, ◌∙◌, subst, inl, inr}
use Rattle.cob_base.specs.Sink.{SinkCall}
use Rattle.cob_tree.specs.declared.program.Program.{Program}
use Rattle.control_flow_theory.specs.runs.Run.{Going}
use Rattle.cobol_theory.specs.cobol_meaning.Runs.{Files}
use Rattle.cobol_read.specs.Reading.{Reads}
use Rattle.cobol_read.proofs.OneWay.{one_way}
use Rattle.cobol_run.specs.Machine.{ending_seen}
use Rattle.cobol_run.specs.Over.{TellFiles}
use Rattle.cobol_run.specs.Points.{world_after}
use Rattle.cobol_run.specs.declared.machine.Ending.{Ending}
use Rattle.cobol_run.specs.declared.machine.Ending.TheVariants as ending
use Rattle.cobol_run.specs.declared.running.Ran.{Ran}
use Rattle.cobol_run.specs.declared.running.Ran.TheVariants as ran
use Rattle.restructure_core.specs.declared.fault.Refused.{Refused}
use Rattle.restructure_core.specs.declared.fault.Refused.TheVariants as refused
use Rattle.restructure_core.specs.Pipeline.{IsUnread}
use Rattle.restructure_core.specs.Fault.{of_read_refusal}
use Rattle.cobol_read.specs.declared.refusal.ReadRefusal.{ReadRefusal}
use Rattle.cobol_read.specs.declared.refusal.ReadRefusal.TheVariants as rd
use Rattle.restructure_core.specs.run.Answers.{Came, Comes, ComesOver}
use Rattle.restructure_core.specs.run.Bench.{BenchCall, devices_before}
use Rattle.restructure_asks.specs.declared.refusal.Refusal.{Refusal}
use Rattle.restructure_asks.specs.declared.refusal.Refusal.TheVariants as refusal
use Rattle.restructure_asks.specs.declared.status.Status.{Status}
use Rattle.restructure_asks.specs.declared.status.Status.TheVariants as status
use Rattle.restructure_asks.specs.Status.{IsOneOf}
use Rattle.restructure_asks.specs.Refusal.{status_of}
use Rattle.restructure_asks.specs.Reading.{Tells}
use Rattle.restructure_asks.specs.Running.{EndsOnFiles, IsRunDueOnFiles, StandsOnFiles, TellsCame, refusal_of, refusal_of_ending, refusal_of_run, unread}
use Rattle.restructure_asks.specs.Writing.{Notes}
use Rattle.restructure_asks.specs.Laws.{OneRunIsDueOnFiles, DueRunComesOnFiles, statuses_over}
use Rattle.restructure_asks.proofs.RunLawLemmas.{ending-same, never-both, no-memory-comes, over-never, over-same, unread-same, unrun-comes}

-- what is due, by what the bytes are
data IsOf (steps : ℕ) (bytes : List ℕ) (files : Files) (due : Option Refusal) : Type 0 where
  of-refused : (why : Refused) → due ≡ Some (refusal.Refused why) → IsUnread bytes why → IsOf steps bytes files due
  of-ended : (program : Program) (end : Ending) → due ≡ refusal_of_ending program end → EndsOnFiles bytes steps files program end → IsOf steps bytes files due
  of-going : (program : Program) → due ≡ Some (refusal.Budget steps) → StandsOnFiles bytes steps files program Going → IsOf steps bytes files due

of-due : (steps : ℕ) (bytes : List ℕ) (files : Files) (due : Option Refusal) → IsRunDueOnFiles steps bytes files due → IsOf steps bytes files due
of-due steps bytes files None h = of-ended h.0 ending.Stopped refl h.1
of-due steps bytes files (Some refusal.Usage) h = absurd h
of-due steps bytes files (Some (refusal.Refused why)) h = of-refused why refl h
of-due steps bytes files (Some (refusal.Fault program fault)) h = of-ended program (ending.Faulted fault) refl h
of-due steps bytes files (Some (refusal.Abend abend)) h = of-ended h.0 (ending.Abended abend) refl h.1
of-due steps bytes files (Some (refusal.Budget most)) h = of-going h.1.0 (ap (λ n. Some (refusal.Budget n)) h.0) h.1.1
of-due steps bytes files (Some (refusal.Device name)) h = absurd h
of-due steps bytes files (Some refusal.ReadFault) h = absurd h
of-due steps bytes files (Some refusal.NoSecond) h = absurd h
of-due steps bytes files (Some (refusal.Second why)) h = absurd h
of-due steps bytes files (Some (refusal.SecondDevice name)) h = absurd h
of-due steps bytes files (Some (refusal.Differ number)) h = absurd h
of-due steps bytes files (Some refusal.WriteFault) h = absurd h
of-due steps bytes files (Some refusal.NoMemory) h = absurd h

module _ (steps : ℕ) (bytes : List ℕ) (files : Files) where
  ends-same : (one other : Program) (e f : Ending) → EndsOnFiles bytes steps files one e → EndsOnFiles bytes steps files other f → refusal_of_ending one e ≡ refusal_of_ending other f
  ends-same one other e f h g =
      let same : one ≡ other = one_way.program bytes one other h.1.reads g.1.reads in
      let there : EndsOnFiles bytes steps files other e = subst (λ p. EndsOnFiles bytes steps files p e) same h in
      let alike : e ≡ f = ending-same there.0 g.0 e f (over-same (ending_seen e there.0) (ending_seen f g.0) (sym there.1.stands ∙ g.1.stands)) in
      ap (λ p. refusal_of_ending p e) same ∙ ap (refusal_of_ending other) alike

  never-going : (one other : Program) (e : Ending) → EndsOnFiles bytes steps files one e → StandsOnFiles bytes steps files other Going → ⊥
  never-going one other e h g =
      let same : one ≡ other = one_way.program bytes one other h.1.reads g.reads in
      let there : EndsOnFiles bytes steps files other e = subst (λ p. EndsOnFiles bytes steps files p e) same h in
      over-never (ending_seen e there.0) (sym there.1.stands ∙ g.stands)

  alike : (one other : Option Refusal) → IsOf steps bytes files one → IsOf steps bytes files other → one ≡ other
  alike one other (of-refused why is h) (of-refused how was g) = is ∙ ap (λ w. Some (refusal.Refused w)) (unread-same steps bytes why how h g) ∙ sym was
  alike one other (of-refused why is h) (of-ended p e was g) = absurd (never-both steps bytes p why g.1.reads h)
  alike one other (of-refused why is h) (of-going p was g) = absurd (never-both steps bytes p why g.reads h)
  alike one other (of-ended p e is h) (of-refused why was g) = absurd (never-both steps bytes p why h.1.reads g)
  alike one other (of-ended p e is h) (of-ended q f was g) = is ∙ ends-same p q e f h g ∙ sym was
  alike one other (of-ended p e is h) (of-going q was g) = absurd (never-going p q e h g)
  alike one other (of-going p is h) (of-refused why was g) = absurd (never-both steps bytes p why h.reads g)
  alike one other (of-going p is h) (of-ended q e was g) = absurd (never-going q p e g h)
  alike one other (of-going p is h) (of-going q was g) = is ∙ sym was

pub one-run-on-files : OneRunIsDueOnFiles
one-run-on-files steps bytes files one other h g = alike steps bytes files one other (of-due steps bytes files one h) (of-due steps bytes files other g)

-- a program whose run was cut off
cut-comes : (steps : ℕ) (bytes : List ℕ) (files : Files) (program : Program) (due : Option Refusal) → Reads bytes program → IsRunDueOnFiles steps bytes files due → IsOneOf (statuses_over due) status.WriteFault
cut-comes steps bytes files program None reads h = inr (inr (inl refl))
cut-comes steps bytes files program (Some refusal.Usage) reads h = absurd h
cut-comes steps bytes files program (Some (refusal.Refused why)) reads h = absurd (never-both steps bytes program why reads h)
cut-comes steps bytes files program (Some (refusal.Fault other fault)) reads h = inr (inr (inl refl))
cut-comes steps bytes files program (Some (refusal.Abend abend)) reads h = inr (inr (inl refl))
cut-comes steps bytes files program (Some (refusal.Budget most)) reads h = inr (inr (inl refl))
cut-comes steps bytes files program (Some (refusal.Device name)) reads h = absurd h
cut-comes steps bytes files program (Some refusal.ReadFault) reads h = absurd h
cut-comes steps bytes files program (Some refusal.NoSecond) reads h = absurd h
cut-comes steps bytes files program (Some (refusal.Second why)) reads h = absurd h
cut-comes steps bytes files program (Some (refusal.SecondDevice name)) reads h = absurd h
cut-comes steps bytes files program (Some (refusal.Differ number)) reads h = absurd h
cut-comes steps bytes files program (Some refusal.WriteFault) reads h = absurd h
cut-comes steps bytes files program (Some refusal.NoMemory) reads h = absurd h

no-memory-over : (due : Option Refusal) → IsOneOf (statuses_over due) status.NoMemory
no-memory-over due = inr (no-memory-comes due)

noted-over : (r : Refusal) (due : Option Refusal) (notes : SinkCall) (answer : Status) → IsOneOf (statuses_over due) (status_of r) → Notes r notes answer → IsOneOf (statuses_over due) answer
noted-over r due notes answer h (inl g) = subst (IsOneOf (statuses_over due)) (sym g.0) h
noted-over r due notes answer h (inr g) = subst (IsOneOf (statuses_over due)) (sym g.0) (no-memory-over due)

module _ (steps : ℕ) (bytes : List ℕ) (files : Files) (due : Option Refusal) (is_due : IsRunDueOnFiles steps bytes files due) where
  -- the same is due as came
  due-noted : (r : Refusal) (notes : SinkCall) (answer : Status) → IsRunDueOnFiles steps bytes files (Some r) → IsOneOf (statuses_over (Some r)) (status_of r) → Notes r notes answer → IsOneOf (statuses_over due) answer
  due-noted r notes answer h first g =
      noted-over r due notes answer (subst (λ d. IsOneOf (statuses_over d) (status_of r)) (one-run-on-files steps bytes files (Some r) due h is_due) first) g

  done-comes : (program : Program) → EndsOnFiles bytes steps files program ending.Stopped → IsOneOf (statuses_over due) status.Done
  done-comes program h = subst (λ d. IsOneOf (statuses_over d) status.Done) (one-run-on-files steps bytes files None due (program, h) is_due) (inr (inl refl))

  refused-told : (why : ReadRefusal) (notes : SinkCall) (answer : Status) → IsUnread bytes (of_read_refusal why) → TellsCame (Some (unread why)) notes answer → IsOneOf (statuses_over due) answer
  refused-told (rd.Limit limit) notes answer h g = due-noted (refusal.Refused (refused.Limit limit)) notes answer h (inr (inl refl)) g
  refused-told rd.NoMemory notes answer h g = noted-over refusal.NoMemory due notes answer (no-memory-over due) g
  refused-told (rd.Fault fault) notes answer h g = due-noted (refusal.Refused (refused.NotSubset fault)) notes answer h (inr (inl refl)) g

  module _ (bench : BenchCall) (tells : (program : Program) → Reads bytes program → TellFiles program (devices_before bench) files) where
    ends-in : (program : Program) (end : Ending) (out : SinkCall) → ComesOver bytes steps out bench (Ok (record { program = program; ran = ran.Ended end })) → EndsOnFiles bytes steps files program end
    ends-in program end out h =
        let run = h.2.0.files files h.1 (tells program h.0) in
        ((world_after program files steps).shelves, record { reads = h.0; stands = run.0.0 })

    ran-told : (program : Program) (one : Ran) (out notes : SinkCall) (answer : Status) → Reads bytes program → ComesOver bytes steps out bench (Ok (record { program = program; ran = one })) → TellsCame (refusal_of_run steps program one) notes answer → IsOneOf (statuses_over due) answer
    ran-told program (ran.Ended ending.Stopped) out notes answer h o g =
        subst (IsOneOf (statuses_over due)) (sym g.0) (done-comes program (ends-in program ending.Stopped out o))
    ran-told program (ran.Ended (ending.Abended abend)) out notes answer h o g =
        due-noted (refusal.Abend abend) notes answer (program, ends-in program (ending.Abended abend) out o) (inr (inl refl)) g
    ran-told program (ran.Ended (ending.Faulted fault)) out notes answer h o g =
        due-noted (refusal.Fault program fault) notes answer (ends-in program (ending.Faulted fault) out o) (inr (inl refl)) g
    ran-told program ran.Budget out notes answer h o g =
        due-noted (refusal.Budget steps) notes answer (refl, (program, record { reads = o.0; stands = (o.2.0.files files o.1 (tells program o.0)).0.0 })) (inr (inl refl)) g
    ran-told program (ran.DeviceFault name) out notes answer h o g = noted-over (refusal.Device name) due notes answer (inl refl) g
    ran-told program ran.WriteFault out notes answer h o g =
        subst (IsOneOf (statuses_over due)) (sym g.0) (cut-comes steps bytes files program due h is_due)
    ran-told program ran.NoMemory out notes answer h o g = noted-over refusal.NoMemory due notes answer (no-memory-over due) g

    came-told : (c : Came) (out notes : SinkCall) (answer : Status) → Comes bytes steps out c → ComesOver bytes steps out bench c → TellsCame (refusal_of steps c) notes answer → IsOneOf (statuses_over due) answer
    came-told (Ok run) out notes answer h o g = ran-told run.program run.ran out notes answer h.0 o g
    came-told (Err rd.NoMemory) out notes answer h o g = noted-over refusal.NoMemory due notes answer (no-memory-over due) g
    came-told (Err (rd.Fault fault)) out notes answer h o g =
        refused-told (rd.Fault fault) notes answer (record { why = rd.Fault fault; some = h.1; cause = h.0; is = refl }) g
    came-told (Err (rd.Limit limit)) out notes answer h o g =
        refused-told (rd.Limit limit) notes answer (record { why = rd.Limit limit; some = h.1; cause = h.0; is = refl }) g

pub due-run-on-files : DueRunComesOnFiles
due-run-on-files steps source out notes bench answer (inl h) bytes files due told tells is_due =
    let same : h.told.run.bytes ≡ bytes = sym (subst (λ t. Tells t h.told.run.bytes) told h.told.run.told) in
    came-told steps bytes files due is_due bench tells h.told.came out notes answer
    (subst (λ b. Comes b steps out h.told.came) same h.told.run.comes)
    (subst (λ b. ComesOver b steps out bench h.told.came) same h.over) h.told.told
due-run-on-files steps source out notes bench answer (inr h) bytes files due told tells is_due = inr (unrun-comes due source out notes answer h.0)
