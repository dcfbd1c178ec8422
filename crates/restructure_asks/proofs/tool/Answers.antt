use Rattle.std.proofs.Common.{◌≡◌, ◌∙◌, true, false, Some, ap, refl, subst, inl}
use Rattle.cob_base.specs.Source.{source_call}
use Rattle.cob_base.specs.Sink.{sink_call}
use Rattle.file_model.specs.contracts.operations.watched.BenchShown.TheImpl.{all-value}
use Rattle.restructure_core.specs.run.Bench.{bench_call}
use Rattle.restructure_asks.specs.declared.ask.Ask.TheVariants.{Run, Compare, Generate, Trial}
use Rattle.restructure_asks.specs.Ask.{uses_bench, uses_second}
use Rattle.restructure_asks.specs.Tool.{Ends, EndsCompared, EndsWithFiles}
use Rattle.restructure_asks.specs.declared.refusal.Refusal.TheVariants as refusal
use Rattle.restructure_asks.proofs.DeviceLemmas.{noted_never, text_never}
use Rattle.restructure_asks.proofs.EndLemmas.{usage-ends}
use Rattle.restructure_asks.proofs.tool.Goals as goal

pub returns-in-None-clause-ends : goal.returns-in-None-clause-ends
returns-in-None-clause-ends g c =
    let source = source_call g.S.Source.left g.S.Source.faults c.args.source.now c.args.source.now in
    let out = sink_call g.K.Sink.held g.K.Sink.faults c.args.out.now c.args.out.now in
    let notes = sink_call g.N.Sink.held g.N.Sink.faults c.args.notes.now c.note.new.notes in
    subst (λ a. Ends a source out notes c.note.result) c.in-None.ensures.asked
    (usage-ends out notes c.note.result refl c.note.ensures source refl)

pub returns-in-Some-Run-clause-ends : goal.returns-in-Some-Run-clause-ends
returns-in-Some-Run-clause-ends g c =
    let source = source_call g.S.Source.left g.S.Source.faults c.args.source.now c.answer_run.new.source in
    let out = sink_call g.K.Sink.held g.K.Sink.faults c.args.out.now c.answer_run.new.out in
    let notes = sink_call g.N.Sink.held g.N.Sink.faults c.args.notes.now c.answer_run.new.notes in
    let same : Run c.in-Some-Run.steps ≡ c.in-Some-Run.field-0 = (let a = c.in-Some-Run.field-0-is in let b = c.in-Some-Run.steps-is in cc) in
    subst (λ a. Ends a source out notes c.answer_run.result) c.in-Some-Run.ensures.asked
    (subst (λ x. Ends (Some x) source out notes c.answer_run.result) same c.answer_run.ensures.ends)

pub returns-in-Some-Generate-clause-ends : goal.returns-in-Some-Generate-clause-ends
returns-in-Some-Generate-clause-ends g c =
    let source = source_call g.S.Source.left g.S.Source.faults c.args.source.now c.args.source.now in
    let out = sink_call g.K.Sink.held g.K.Sink.faults c.args.out.now c.answer_generate.new.out in
    let notes = sink_call g.N.Sink.held g.N.Sink.faults c.args.notes.now c.answer_generate.new.notes in
    let same : Generate c.in-Some-Generate.n ≡ c.in-Some-Generate.field-0 = (let a = c.in-Some-Generate.field-0-is in let b = c.in-Some-Generate.n-is in cc) in
    subst (λ a. Ends a source out notes c.answer_generate.result) c.in-Some-Generate.ensures.asked
    (subst (λ x. Ends (Some x) source out notes c.answer_generate.result) same (c.answer_generate.ensures source refl))

pub returns-in-Some-Trial-clause-ends : goal.returns-in-Some-Trial-clause-ends
returns-in-Some-Trial-clause-ends g c =
    let source = source_call g.S.Source.left g.S.Source.faults c.args.source.now c.args.source.now in
    let out = sink_call g.K.Sink.held g.K.Sink.faults c.args.out.now c.answer_trial.new.out in
    let notes = sink_call g.N.Sink.held g.N.Sink.faults c.args.notes.now c.answer_trial.new.notes in
    let same : Trial c.in-Some-Trial.n ≡ c.in-Some-Trial.field-0 = (let a = c.in-Some-Trial.field-0-is in let b = c.in-Some-Trial.n-is in cc) in
    subst (λ a. Ends a source out notes c.answer_trial.result) c.in-Some-Trial.ensures.asked
    (subst (λ x. Ends (Some x) source out notes c.answer_trial.result) same (c.answer_trial.ensures source refl))

pub returns-in-Some-Run-clause-over : goal.returns-in-Some-Run-clause-over
returns-in-Some-Run-clause-over g c =
    let source = source_call g.S.Source.left g.S.Source.faults c.args.source.now c.answer_run.new.source in
    let out = sink_call g.K.Sink.held g.K.Sink.faults c.args.out.now c.answer_run.new.out in
    let notes = sink_call g.N.Sink.held g.N.Sink.faults c.args.notes.now c.answer_run.new.notes in
    let bench = bench_call (all-value g.dyn-1).it c.args.bench.now c.answer_run.new.bench in
    let same : Run c.in-Some-Run.steps ≡ c.in-Some-Run.field-0 = (let a = c.in-Some-Run.field-0-is in let b = c.in-Some-Run.steps-is in cc) in
    subst (λ a. EndsWithFiles a source out notes bench c.answer_run.result) c.in-Some-Run.ensures.asked
    (subst (λ x. EndsWithFiles (Some x) source out notes bench c.answer_run.result) same c.answer_run.ensures.over)

-- an ask to run is one to run
pub returns-in-Some-Run-clause-unrun : goal.returns-in-Some-Run-clause-unrun
returns-in-Some-Run-clause-unrun g c = λ other.
    let same : Run c.in-Some-Run.steps ≡ c.in-Some-Run.field-0 = (let a = c.in-Some-Run.field-0-is in let b = c.in-Some-Run.steps-is in cc) in
    let e : true ≡ false = ap uses_bench (ap Some same ∙ c.in-Some-Run.ensures.asked) ∙ other in cc

-- an ask to compare two programs runs them over both

pub returns-in-Some-Compare-clause-ends : goal.returns-in-Some-Compare-clause-ends
returns-in-Some-Compare-clause-ends g c =
    let source = source_call g.S.Source.left g.S.Source.faults c.args.source.now c.answer_compare.new.source in
    let out = sink_call g.K.Sink.held g.K.Sink.faults c.args.out.now c.answer_compare.new.out in
    let notes = sink_call g.N.Sink.held g.N.Sink.faults c.args.notes.now c.answer_compare.new.notes in
    let same : Compare c.in-Some-Compare.steps ≡ c.in-Some-Compare.field-0 = (let a = c.in-Some-Compare.field-0-is in let b = c.in-Some-Compare.steps-is in cc) in
    subst (λ a. Ends a source out notes c.answer_compare.result) c.in-Some-Compare.ensures.asked
    (subst (λ x. Ends (Some x) source out notes c.answer_compare.result) same tt)

pub returns-in-Some-Compare-clause-over : goal.returns-in-Some-Compare-clause-over
returns-in-Some-Compare-clause-over g c =
    let source = source_call g.S.Source.left g.S.Source.faults c.args.source.now c.answer_compare.new.source in
    let out = sink_call g.K.Sink.held g.K.Sink.faults c.args.out.now c.answer_compare.new.out in
    let notes = sink_call g.N.Sink.held g.N.Sink.faults c.args.notes.now c.answer_compare.new.notes in
    let bench = bench_call (all-value g.dyn-1).it c.args.bench.now c.answer_compare.new.bench in
    let same : Compare c.in-Some-Compare.steps ≡ c.in-Some-Compare.field-0 = (let a = c.in-Some-Compare.field-0-is in let b = c.in-Some-Compare.steps-is in cc) in
    subst (λ a. EndsWithFiles a source out notes bench c.answer_compare.result) c.in-Some-Compare.ensures.asked
    (subst (λ x. EndsWithFiles (Some x) source out notes bench c.answer_compare.result) same tt)

pub returns-in-Some-Compare-clause-compared : goal.returns-in-Some-Compare-clause-compared
returns-in-Some-Compare-clause-compared g c =
    let source = source_call g.S.Source.left g.S.Source.faults c.args.source.now c.answer_compare.new.source in
    let out = sink_call g.K.Sink.held g.K.Sink.faults c.args.out.now c.answer_compare.new.out in
    let notes = sink_call g.N.Sink.held g.N.Sink.faults c.args.notes.now c.answer_compare.new.notes in
    let bench = bench_call (all-value g.dyn-1).it c.args.bench.now c.answer_compare.new.bench in
    let second = bench_call (all-value g.dyn-1).it c.args.second.now c.answer_compare.new.second in
    let same : Compare c.in-Some-Compare.steps ≡ c.in-Some-Compare.field-0 = (let a = c.in-Some-Compare.field-0-is in let b = c.in-Some-Compare.steps-is in cc) in
    subst (λ a. EndsCompared a source out notes bench second c.answer_compare.result) c.in-Some-Compare.ensures.asked
    (subst (λ x. EndsCompared (Some x) source out notes bench second c.answer_compare.result) same c.answer_compare.ensures.ends)

pub returns-in-Some-Compare-clause-unrun : goal.returns-in-Some-Compare-clause-unrun
returns-in-Some-Compare-clause-unrun g c = λ other.
    let same : Compare c.in-Some-Compare.steps ≡ c.in-Some-Compare.field-0 = (let a = c.in-Some-Compare.field-0-is in let b = c.in-Some-Compare.steps-is in cc) in
    let e : true ≡ false = ap uses_bench (ap Some same ∙ c.in-Some-Compare.ensures.asked) ∙ other in cc

pub returns-in-Some-Compare-clause-apart : goal.returns-in-Some-Compare-clause-apart
returns-in-Some-Compare-clause-apart g c = λ other.
    let same : Compare c.in-Some-Compare.steps ≡ c.in-Some-Compare.field-0 = (let a = c.in-Some-Compare.field-0-is in let b = c.in-Some-Compare.steps-is in cc) in
    let e : true ≡ false = ap uses_second (ap Some same ∙ c.in-Some-Compare.ensures.asked) ∙ other in cc

pub returns-in-Some-Run-clause-devices : goal.returns-in-Some-Run-clause-devices
returns-in-Some-Run-clause-devices g c = λ is. inl (c.answer_run.ensures.devices is)

-- only a run tells of a device
pub returns-in-None-clause-devices : goal.returns-in-None-clause-devices
returns-in-None-clause-devices g c = λ is. absurd (noted_never refusal.Usage _ _ refl c.note.ensures is)

pub returns-in-Some-Restructure-clause-devices : goal.returns-in-Some-Restructure-clause-devices
returns-in-Some-Restructure-clause-devices g c = λ is. absurd (text_never _ _ _ _ _ c.answer_restructure.ensures is)

pub returns-in-Some-Report-clause-devices : goal.returns-in-Some-Report-clause-devices
returns-in-Some-Report-clause-devices g c = λ is. absurd (text_never _ _ _ _ _ c.answer_report.ensures is)

pub returns-in-Some-Check-clause-devices : goal.returns-in-Some-Check-clause-devices
returns-in-Some-Check-clause-devices g c = λ is. absurd (text_never _ _ _ _ _ c.answer_check.ensures is)

pub returns-in-Some-Generate-clause-devices : goal.returns-in-Some-Generate-clause-devices
returns-in-Some-Generate-clause-devices g c = λ is.
    let source = source_call g.S.Source.left g.S.Source.faults c.args.source.now c.args.source.now in
    absurd (text_never _ _ _ _ _ (c.answer_generate.ensures source refl) is)

pub returns-in-Some-Trial-clause-devices : goal.returns-in-Some-Trial-clause-devices
returns-in-Some-Trial-clause-devices g c = λ is.
    let source = source_call g.S.Source.left g.S.Source.faults c.args.source.now c.args.source.now in
    absurd (text_never _ _ _ _ _ (c.answer_trial.ensures source refl) is)
