use Rattle.std.proofs.Common.{◌-◌, map, refl, subst, sym, take}
use Rattle.std.specs.Prelude.{vec_capacity}
use Rattle.file_model.specs.contracts.operations.watched.BoxDynDeviceWatched.TheImpl.{seen-value}
use Rattle.cobol_run.specs.Events.{FinishFalls, Finishes}
use Rattle.cobol_run.proofs.TrackLemmas.{ends_named, ends_whole, finish_named, finish_whole}
use Rattle.cobol_run.proofs.events.finish.Goals as goal

pub returns-then-bench-left : goal.returns-then-bench-left
returns-then-bench-left g c = record {
  falls = λ old few so.
      finish_whole c.args.machine.now.plan.program.now.files c.args.left c.close_left.new.bench.left old (map (seen-value g.dyn-1).it c.close_left.new.bench.devices.items) c.as_slice-files.result.now c.args.bench.now.left _ c.close_left.result c.args.machine.now.table.rows c.as_slice-files.ensures few so c.close_left.ensures.closes c.if-bench-left.true;
  ends = λ gone old few so apart.
      ends_whole c.args.machine.now.plan.program.now.files c.args.left c.close_left.new.bench.left old (map (seen-value g.dyn-1).it c.close_left.new.bench.devices.items) c.as_slice-files.result.now c.args.bench.now.left (map (seen-value g.dyn-1).it c.args.bench.now.devices.items) c.close_left.result c.args.machine.now.table.rows c.as_slice-files.ensures few (record { gone = gone; bench = so; apart = apart }) c.close_left.ensures.closes c.if-bench-left.true;
}

pub returns : goal.returns
returns g c = record {
  falls = λ old few so.
      subst (λ f. FinishFalls f (vec_capacity c.args.room.now) c.args.machine.now.plan.program.now.files c.args.left c.close_left.new.bench.left old (map (seen-value g.dyn-1).it c.close_left.new.bench.devices.items)) (sym c.finished_by.ensures)
      (finish_named c.args.machine.now.plan.program.now.files c.args.left c.close_left.new.bench.left old (map (seen-value g.dyn-1).it c.close_left.new.bench.devices.items) c.as_slice-files.result.now c.args.bench.now.left _ c.close_left.result c.args.machine.now.table.rows c.as_slice-files.ensures few so c.close_left.ensures.closes c.fault_name-failed.result (vec_capacity c.args.room.now) (c.args.left - 1) c.if-bench-left.false refl c.fault_name-failed.ensures);
  ends = λ gone old few so apart.
      subst (λ f. Finishes f c.args.machine.now.plan.program.now.files gone c.args.left c.close_left.new.bench.left old (map (seen-value g.dyn-1).it c.close_left.new.bench.devices.items) (take c.args.bench.now.left (map (seen-value g.dyn-1).it c.args.bench.now.devices.items)) c.args.machine.now.table.rows) (sym c.finished_by.ensures)
      (ends_named c.args.machine.now.plan.program.now.files c.args.left c.close_left.new.bench.left old (map (seen-value g.dyn-1).it c.close_left.new.bench.devices.items) c.as_slice-files.result.now c.args.bench.now.left (map (seen-value g.dyn-1).it c.args.bench.now.devices.items) c.close_left.result c.args.machine.now.table.rows c.as_slice-files.ensures few (record { gone = gone; bench = so; apart = apart }) c.close_left.ensures.closes c.fault_name-failed.result (vec_capacity c.args.room.now) (c.args.left - 1) c.if-bench-left.false refl c.fault_name-failed.ensures);
}
