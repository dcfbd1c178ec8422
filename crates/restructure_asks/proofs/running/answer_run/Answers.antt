use Rattle.std.proofs.Common.{Err, ap, inr, refl, subst}
use Rattle.cob_base.specs.Sink.{sink_call}
use Rattle.file_model.specs.contracts.operations.watched.BenchShown.TheImpl.{all-value}
use Rattle.restructure_core.specs.run.Answers.{Comes, ComesOver}
use Rattle.restructure_core.specs.run.Bench.{bench_call}
use Rattle.restructure_asks.proofs.DeviceLemmas.{device_told, unrun_never}
use Rattle.restructure_asks.proofs.RunLemmas.{never-run, told-run, over-run}
use Rattle.restructure_asks.proofs.running.answer_run.Goals as goal

pub returns-in-Ok-clause-ends : goal.returns-in-Ok-clause-ends
returns-in-Ok-clause-ends g c =
    let out = sink_call g.K.Sink.held g.K.Sink.faults c.args.out.now c.run_source-came.new.out in
    told-run c.args.steps _ out c.in-Ok.bytes c.in-Ok.ensures.read c.run_source-came.result _ _
    (subst (λ b. Comes b c.args.steps out c.run_source-came.result) c.as_slice.ensures c.run_source-came.ensures.came)
    c.tell.ensures c.run_source-came.ensures.cause

pub returns-in-Ok-clause-over : goal.returns-in-Ok-clause-over
returns-in-Ok-clause-over g c =
    let out = sink_call g.K.Sink.held g.K.Sink.faults c.args.out.now c.run_source-came.new.out in
    let came = c.run_source-came.result in
    let bench = bench_call (all-value g.dyn-1).it c.args.bench.now c.run_source-came.new.bench in
    over-run c.args.steps _ out c.in-Ok.bytes c.in-Ok.ensures.read came _ _ bench
    (subst (λ b. Comes b c.args.steps out came) c.as_slice.ensures c.run_source-came.ensures.came)
    (subst (λ b. ComesOver b c.args.steps out bench came) c.as_slice.ensures c.run_source-came.ensures.over)
    c.tell.ensures c.run_source-came.ensures.cause

pub returns-in-Err-clause-over : goal.returns-in-Err-clause-over
returns-in-Err-clause-over g c =
    let out = sink_call g.K.Sink.held g.K.Sink.faults c.args.out.now c.args.out.now in
    inr (never-run _ out _ c.in-Err.refusal _ c.in-Err.ensures.only (λ is. c.in-Err.ensures.fault (ap Err is)) (c.in-Err.ensures.within refl) refl c.note.ensures, (refl, refl))

pub returns-in-Ok-clause-devices : goal.returns-in-Ok-clause-devices
returns-in-Ok-clause-devices g c = device_told c.args.steps c.run_source-came.result _ _ _ c.tell.ensures c.run_source-came.ensures.falls

pub returns-in-Err-clause-devices : goal.returns-in-Err-clause-devices
returns-in-Err-clause-devices g c = λ is. absurd (unrun_never c.in-Err.refusal _ _ c.in-Err.ensures.only c.note.ensures is)
