-- How a call ends that runs a structured program tells what its nested statements mean.
use Rattle.std.proofs.Common.{◌≡◌, ℕ, zero, List, [], Option, Some, None, Ok, Err, refl, ap, sym, ◌∙◌, subst, inl, inr, append-nil}
use Rattle.cob_base.specs.Source.{SourceCall}
use Rattle.cob_base.specs.Sink.{SinkCall}
use Rattle.cob_base.specs.giving.Giving.{Gained, Keeps}
use Rattle.cob_tree.specs.declared.ending.Abend.{Abend}
use Rattle.cob_tree.specs.declared.program.Program.{Program}
use Rattle.file_model.specs.operations.Seen as desk
use Rattle.struct_form.specs.Structured.{IsStructured}
use Rattle.cobol_theory.specs.cobol_meaning.Runs.{Files, structural_run}
use Rattle.cobol_read.proofs.OneWay.{one_way}
use Rattle.cobol_read.specs.declared.refusal.ReadRefusal.TheVariants as rd
use Rattle.cobol_read.specs.Reading.{Reads}
use Rattle.cobol_run.specs.declared.machine.Ending.TheVariants as ending
use Rattle.cobol_run.specs.declared.running.Ran.{Ran}
use Rattle.cobol_run.specs.declared.running.Ran.TheVariants as ran
use Rattle.cobol_run.specs.Over.{TellFiles}
use Rattle.cobol_run.specs.Running.{displayed}
use Rattle.cobol_run.specs.structured_runs.Shown.{BeginsNested, EndsNestedOver, ShowsNestedOver}
use Rattle.restructure_core.specs.run.Answers.{Came, Comes, ComesOver}
use Rattle.restructure_core.specs.run.Bench.{BenchCall, devices_after, devices_before}
use Rattle.restructure_asks.specs.declared.refusal.Refusal.TheVariants as refusal
use Rattle.restructure_asks.specs.declared.status.Status.{Status}
use Rattle.restructure_asks.specs.Reading.{Tells}
use Rattle.restructure_asks.specs.Running.{IsUnrun, TellsCame, refusal_of, refusal_of_run}
use Rattle.restructure_asks.specs.Writing.{Notes}
use Rattle.source_run_laws.specs.Asks.{AskedResultsShowNested, AskedRunsShowNested, TellsNested}
use Rattle.source_run_laws.specs.Sources.{SourcesShowNested}
use Rattle.source_run_laws.proofs.SourceLemmas.{result-read}

-- a sink that holds what it held gained nothing
gains-none : (held now : Option (List ℕ)) → now ≡ held → Gained [] held now
gains-none None now is = is
gains-none (Some bytes) now is = is ∙ ap Some (sym (append-nil bytes))

module _ (program : Program) (files : Files) (out notes : SinkCall) (devices : List desk.Seen) where
  begins-none : Keeps out → BeginsNested program files out
  begins-none kept =
      (zero, [], displayed (structural_run program files zero).trace, refl, gains-none out.held out.now kept)

  -- what is noted
  budget-told : (answer : Status) (steps : ℕ) → Notes (refusal.Budget steps) notes answer → BeginsNested program files out → TellsNested program files out notes devices answer
  budget-told answer steps (inl g) h = subst (TellsNested program files out notes devices) (sym g.0) h
  budget-told answer steps (inr g) h = subst (TellsNested program files out notes devices) (sym g.0) h

  device-told : (answer : Status) (name : List ℕ) → Notes (refusal.Device name) notes answer → BeginsNested program files out → TellsNested program files out notes devices answer
  device-told answer name (inl g) h = subst (TellsNested program files out notes devices) (sym g.0) h
  device-told answer name (inr g) h = subst (TellsNested program files out notes devices) (sym g.0) h

  read-fault-told : (answer : Status) → Notes refusal.ReadFault notes answer → BeginsNested program files out → TellsNested program files out notes devices answer
  read-fault-told answer (inl g) h = subst (TellsNested program files out notes devices) (sym g.0) h
  read-fault-told answer (inr g) h = subst (TellsNested program files out notes devices) (sym g.0) h

  no-memory-told : (answer : Status) → Notes refusal.NoMemory notes answer → BeginsNested program files out → TellsNested program files out notes devices answer
  no-memory-told answer (inl g) h = subst (TellsNested program files out notes devices) (sym g.0) h
  no-memory-told answer (inr g) h = subst (TellsNested program files out notes devices) (sym g.0) h

  -- what ended displays at least what went out
  begins-ended : (abend : Abend) → EndsNestedOver program files out [] devices (ending.Abended abend) → BeginsNested program files out
  begins-ended abend h =
      (h.0, displayed (structural_run program files h.0).trace, [], sym (append-nil (displayed (structural_run program files h.0).trace)), h.3)

  abend-told : (answer : Status) (abend : Abend) → Notes (refusal.Abend abend) notes answer → EndsNestedOver program files out [] devices (ending.Abended abend) → TellsNested program files out notes devices answer
  abend-told answer abend (inl g) h = subst (TellsNested program files out notes devices) (sym g.0) (abend, g.1, h)
  abend-told answer abend (inr g) h = subst (TellsNested program files out notes devices) (sym g.0) (begins-ended abend h)

  unrun-told : (source : SourceCall) (answer : Status) → IsUnrun source out notes answer → TellsNested program files out notes devices answer
  unrun-told source answer h = elim h.why [
    | inl fault ↦ read-fault-told answer (subst (λ r. Notes r notes answer) fault.0 h.noted) (begins-none h.kept)
    | inr starved ↦ no-memory-told answer (subst (λ r. Notes r notes answer) starved.0 h.noted) (begins-none h.kept)
  ]

  ran-told : (steps : ℕ) (one : Ran) (answer : Status) → ShowsNestedOver program files out [] devices one → TellsCame (refusal_of_run steps program one) notes answer → TellsNested program files out notes devices answer
  ran-told steps (ran.Ended ending.Stopped) answer h g = subst (TellsNested program files out notes devices) (sym g.0) h
  ran-told steps (ran.Ended (ending.Abended abend)) answer h g = abend-told answer abend g h
  ran-told steps (ran.Ended (ending.Faulted fault)) answer h g = absurd h
  ran-told steps ran.Budget answer h g = budget-told answer steps g h
  ran-told steps (ran.DeviceFault name) answer h g = device-told answer name g h
  ran-told steps ran.WriteFault answer h g = subst (TellsNested program files out notes devices) (sym g.0) h
  ran-told steps ran.NoMemory answer h g = no-memory-told answer g h

module _ (shows : SourcesShowNested) (steps : ℕ) (bytes : List ℕ) (program : Program) (reads : Reads bytes program) (structured : IsStructured program) (files : Files) (out notes : SinkCall) (bench : BenchCall) (tells : TellFiles program (devices_before bench) files) (answer : Status) where
  came-told : (c : Came) → Comes bytes steps out c → ComesOver bytes steps out bench c → TellsCame (refusal_of steps c) notes answer → TellsNested program files out notes (devices_after bench) answer
  came-told (Ok run) h o g =
      let same : run.program ≡ program = one_way.program bytes run.program program o.0 reads in
      let there : ComesOver bytes steps out bench (Ok (record { program = program; ran = run.ran })) = subst (λ p. ComesOver bytes steps out bench (Ok (record { program = p; ran = run.ran }))) same o in
      ran-told program files out notes (devices_after bench) steps run.ran answer
      (shows bytes program steps out bench run.ran there structured files tells)
      (subst (λ p. TellsCame (refusal_of_run steps p run.ran) notes answer) same g)
  came-told (Err rd.NoMemory) h o g =
      no-memory-told program files out notes (devices_after bench) answer g
      (begins-none program files out notes (devices_after bench) h)
  came-told (Err (rd.Fault fault)) h o g = absurd (one_way.refused bytes program (rd.Fault fault) reads h.1 h.0)
  came-told (Err (rd.Limit limit)) h o g = absurd (one_way.refused bytes program (rd.Limit limit) reads h.1 h.0)

pub asked-shown : SourcesShowNested → AskedRunsShowNested
asked-shown shows steps source out notes bench answer (inl h) bytes program files told reads structured tells =
    let same : h.told.run.bytes ≡ bytes = sym (subst (λ t. Tells t h.told.run.bytes) told h.told.run.told) in
    came-told shows steps bytes program reads structured files out notes bench tells answer h.told.came
    (subst (λ b. Comes b steps out h.told.came) same h.told.run.comes)
    (subst (λ b. ComesOver b steps out bench h.told.came) same h.over) h.told.told
asked-shown shows steps source out notes bench answer (inr h) bytes program files told reads structured tells =
    unrun-told program files out notes (devices_after bench) source answer h.0

pub asked-results : SourcesShowNested → AskedResultsShowNested
asked-results shows bytes is =
    let made = result-read bytes is in (
      made.0,
      made.1,
      made.2,
      λ steps source out notes bench answer ends files told tells.
          asked-shown shows steps source out notes bench answer ends bytes made.0 files told made.1 made.2 tells,
    )
