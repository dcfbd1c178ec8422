use Rattle.std.proofs.Common.{◌≡◌, ◌∙◌, ◌<◌, ◌^◌, ap, false, length, sym, subst}
use Rattle.cob_base.specs.Sink.{sink_call}
use Rattle.cob_tree.specs.declared.program.Program.{Program}
use Rattle.cobol_run.specs.Filing.{some_open}
use Rattle.cobol_run.specs.Running.{RunsAs}
use Rattle.cobol_run.proofs.OverRunLemmas.{never_begun, over_at_start, run_ends}
use Rattle.cobol_run.proofs.ShutLemmas.{falls_so}
use Rattle.cobol_run.proofs.RunningLemmas.{at_start}
use Rattle.cobol_run.proofs.running.run.Goals as goal

pub returns-clause-run : goal.returns-clause-run
returns-clause-run g c = λ files plain.
    let start = at_start c.args.program.now c.in-Ok.machine (g.K.Sink.held c.args.out.now) (g.K.Sink.faults c.args.out.now) c.in-Ok.ensures.declared c.in-Ok.ensures.program c.in-Ok.ensures.begun in
    let kept = c.run_on-ran.ensures.kept c.args.program.now start plain in
    let shut : some_open c.run_on-ran.new.machine.table.rows ≡ false = ap (λ table. some_open table.rows) kept.1 ∙ c.in-Ok.ensures.shut in
    subst (RunsAs c.args.program.now files c.args.steps (sink_call g.K.Sink.held g.K.Sink.faults c.args.out.now c.run_on-ran.new.out)) (sym (c.close_files.ensures.shut shut).0)
    (c.run_on-ran.ensures.run c.args.program.now files start plain)

pub returns-clause-kept : goal.returns-clause-kept
returns-clause-kept g c = λ plain.
    let start = at_start c.args.program.now c.in-Ok.machine (g.K.Sink.held c.args.out.now) (g.K.Sink.faults c.args.out.now) c.in-Ok.ensures.declared c.in-Ok.ensures.program c.in-Ok.ensures.begun in
    let kept = c.run_on-ran.ensures.kept c.args.program.now start plain in
    let shut : some_open c.run_on-ran.new.machine.table.rows ≡ false = ap (λ table. some_open table.rows) kept.1 ∙ c.in-Ok.ensures.shut in
    (c.close_files.ensures.shut shut).1 ∙ kept.0

pub returns-clause-ends : goal.returns-clause-ends
returns-clause-ends g c =
    let few = subst (λ (p : Program). length p.files < 2 ^ 32) (sym c.in-Ok.ensures.program) c.in-Ok.ensures.few in
    let so = c.close_files.ensures.ends c.in-Ok.machine c.args.steps (sink_call g.K.Sink.held g.K.Sink.faults c.args.out.now c.run_on-ran.new.out) c.args.bench.now.left _ c.run_on-ran.ensures.plan few c.run_on-ran.ensures.ends in
    run_ends c.args.program.now c.in-Ok.machine c.args.steps (sink_call g.K.Sink.held g.K.Sink.faults c.args.out.now c.run_on-ran.new.out) c.args.bench.now.left c.close_files.new.bench.left _ _ c.close_files.result c.in-Ok.ensures.program so
    (λ files tell. over_at_start c.args.program.now c.in-Ok.machine _ files (g.K.Sink.held c.args.out.now) (g.K.Sink.faults c.args.out.now) c.in-Ok.ensures.declared c.in-Ok.ensures.program c.in-Ok.ensures.closed c.in-Ok.ensures.few tell (c.in-Ok.ensures.begun files))

pub returns-clause-falls : goal.returns-clause-falls
returns-clause-falls g c =
    let few = subst (λ (p : Program). length p.files < 2 ^ 32) (sym c.in-Ok.ensures.program) c.in-Ok.ensures.few in
    let so = c.close_files.ensures.ends c.in-Ok.machine c.args.steps (sink_call g.K.Sink.held g.K.Sink.faults c.args.out.now c.run_on-ran.new.out) c.args.bench.now.left _ c.run_on-ran.ensures.plan few c.run_on-ran.ensures.ends in
    falls_so c.close_files.result _ so.gone c.args.bench.now.left c.close_files.new.bench.left _ _ so.bench so.names

pub returns-then-len-clause-ends : goal.returns-then-len-clause-ends
returns-then-len-clause-ends g c = never_begun c.args.program.now c.args.steps (g.K.Sink.held c.args.out.now) (g.K.Sink.faults c.args.out.now) c.args.bench.now.left _

pub returns-in_default-clause-ends : goal.returns-in_default-clause-ends
returns-in_default-clause-ends g c = never_begun c.args.program.now c.args.steps (g.K.Sink.held c.args.out.now) (g.K.Sink.faults c.args.out.now) c.args.bench.now.left _

pub returns-in_default-name_room-clause-ends : goal.returns-in_default-name_room-clause-ends
returns-in_default-name_room-clause-ends g c = never_begun c.args.program.now c.args.steps (g.K.Sink.held c.args.out.now) (g.K.Sink.faults c.args.out.now) c.args.bench.now.left _
