use Rattle.std.proofs.Common.{Err, ap, inr, refl, subst}
use Rattle.cob_base.specs.Sink.{sink_call}
use Rattle.file_model.specs.contracts.operations.watched.BenchShown.TheImpl.{all-value}
use Rattle.restructure_core.specs.run.Bench.{bench_call}
use Rattle.restructure_asks.specs.Comparing.{AnswersTwo}
use Rattle.restructure_asks.proofs.CompareLemmas.{compared-ends, either-told}
use Rattle.restructure_asks.proofs.DeviceLemmas.{unrun_never}
use Rattle.restructure_asks.proofs.RunLemmas.{never-run}
use Rattle.restructure_asks.proofs.compare.answer_compare.Goals as goal

pub returns-in-Ok-clause-ends : goal.returns-in-Ok-clause-ends
returns-in-Ok-clause-ends g c =
    let bench = bench_call (all-value g.dyn-1).it c.args.bench.now c.compared-answer.new.bench in
    let second = bench_call (all-value g.dyn-1).it c.args.second.now c.compared-answer.new.second in
    compared-ends c.args.steps _ c.in-Ok.bytes c.in-Ok.ensures.read _ _ bench second c.compared-answer.result _
    (subst (λ b. AnswersTwo b c.args.steps bench second c.compared-answer.result) c.as_slice.ensures c.compared-answer.ensures)
    c.give.ensures

pub returns-in-Err-clause-ends : goal.returns-in-Err-clause-ends
returns-in-Err-clause-ends g c =
    let out = sink_call g.K.Sink.held g.K.Sink.faults c.args.out.now c.args.out.now in
    inr (never-run _ out _ c.in-Err.refusal _ c.in-Err.ensures.only (λ is. c.in-Err.ensures.fault (ap Err is)) (c.in-Err.ensures.within refl) refl c.note.ensures, (refl, refl), (refl, refl))

pub returns-in-Ok-clause-devices : goal.returns-in-Ok-clause-devices
returns-in-Ok-clause-devices g c =
    let bench = bench_call (all-value g.dyn-1).it c.args.bench.now c.compared-answer.new.bench in
    let second = bench_call (all-value g.dyn-1).it c.args.second.now c.compared-answer.new.second in
    either-told _ c.args.steps _ _ bench second c.compared-answer.result _ c.compared-answer.ensures c.give.ensures

pub returns-in-Err-clause-devices : goal.returns-in-Err-clause-devices
returns-in-Err-clause-devices g c = λ is. absurd (unrun_never c.in-Err.refusal _ _ c.in-Err.ensures.only c.note.ensures is)
