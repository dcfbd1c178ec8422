use Rattle.std.proofs.Common.{◌∙◌, [], map, refl, take}
use Rattle.meanings.specs.statements.Does.{declared_with}
use Rattle.meanings.specs.statements.Filing.{each_file, shut}
use Rattle.file_model.specs.contracts.operations.watched.BoxDynDeviceWatched.TheImpl.{seen-value}
use Rattle.file_model.specs.operations.Calls.{addresses_of}
use Rattle.file_model.specs.operations.Falling.{is_used}
use Rattle.file_model.proofs.operations_lemmas.FallLemmas.{left_then}
use Rattle.cob_act.proofs.files_lemmas.BenchLemmas.{broke_after, none_asked}
use Rattle.cob_act.proofs.files_lemmas.EachLemmas.{begun, each_breaks, each_next, each_stops, ends_kept, stops_among, stops_kept}
use Rattle.cob_act.specs.declared.acting.ActOutcome.TheVariants.{Went}
use Rattle.std.proofs.lemmas.Result.{err_from_is_err_and}
use Rattle.cob_act.proofs.files.acts.all_shut.Goals as goal

pub returns-in-Abended-clause-does : goal.returns-in-Abended-clause-does
returns-in-Abended-clause-does g c = λ world over.
    let so = c.loop-file.invariant.1 world over in
    let declared = declared_with c.args.program.now c.args.areas.now in
    each_stops (shut declared) c.args.program.now.files (each_file (shut declared) c.args.store.now world c.args.files.now) world c.args.files.now c.loop-file.file-index 0 c.loop-file.store
    (take c.loop-file.bench.left (map (seen-value g.dyn-1).it c.loop-file.bench.devices.items)) c.loop-file.table.rows c.in_ok-abend.field-0 c.in-Abended.abend c.shut.new.store
    (take c.shut.new.bench.left (map (seen-value g.dyn-1).it c.shut.new.bench.devices.items)) c.shut.new.table.rows c.args.work.now c.loop-file.work c.loop-file-test.true so c.in-Abended.is (c.in_ok-abend.ensures.does _ so.over)

pub loop-file-preserved : goal.loop-file-preserved
loop-file-preserved g c = (
  left_then (is_used (addresses_of c.args.program.now.files)) [] c.args.bench.now.left c.loop-file.bench.left c.shut.new.bench.left _ _ _ c.loop-file.invariant.0 c.in_ok-abend.ensures.bench,
  λ world over.
      let so = c.loop-file.invariant.1 world over in
      let declared = declared_with c.args.program.now c.args.areas.now in
      each_next (shut declared) c.args.program.now.files (each_file (shut declared) c.args.store.now world c.args.files.now) world c.args.files.now c.loop-file.file-index 0 c.loop-file.store
      (take c.loop-file.bench.left (map (seen-value g.dyn-1).it c.loop-file.bench.devices.items)) c.loop-file.table.rows c.in_ok-abend.field-0 c.shut.new.store
      (take c.shut.new.bench.left (map (seen-value g.dyn-1).it c.shut.new.bench.devices.items)) c.shut.new.table.rows c.args.work.now c.loop-file.work c.shut.new.work c.loop-file-test.true so c.in_default.not-Abended (c.in_ok-abend.ensures.does _ so.over) c.loop-file.invariant.2 (c.in_ok-abend.ensures.logged _ so.over),
  c.shut.ensures.keeps ∙ c.loop-file.invariant.2,
)

pub loop-file-init : goal.loop-file-init
loop-file-init g c = (
  none_asked c.args.program.now.files c.args.bench.now.left _,
  λ world over. begun (shut (declared_with c.args.program.now c.args.areas.now)) c.args.program.now.files world c.args.files.now c.args.store.now _ c.args.table.now.rows c.args.work.now over,
  refl,
)

pub returns-in_err-abend-clause-bench : goal.returns-in_err-abend-clause-bench
returns-in_err-abend-clause-bench g c =
    let p = err_from_is_err_and c.from_residual.result c.from_residual.ensures.1 in
    rw (p.1, p.2) (broke_after c.in_err-abend.field-0.0 c.args.program.now.files c.args.bench.now.left c.loop-file.bench.left _ _ _ _ _ c.loop-file.invariant.0 c.in_err-abend.ensures.bench)

pub returns-in_err-abend-clause-breaks : goal.returns-in_err-abend-clause-breaks
returns-in_err-abend-clause-breaks g c = λ world over.
    let so = c.loop-file.invariant.1 world over in
    let declared = declared_with c.args.program.now c.args.areas.now in
    let p = err_from_is_err_and c.from_residual.result c.from_residual.ensures.1 in
    rw (p.1, p.2) (each_breaks (shut declared) c.args.program.now.files (each_file (shut declared) c.args.store.now world c.args.files.now) world _ c.loop-file.store _ _ _ _ _ _ _ _ so (c.in_err-abend.ensures.breaks _ so.over))

pub returns-in-Abended-clause-bench : goal.returns-in-Abended-clause-bench
returns-in-Abended-clause-bench g c =
    left_then (is_used (addresses_of c.args.program.now.files)) [] c.args.bench.now.left c.loop-file.bench.left _ _ _ _ c.loop-file.invariant.0 c.in_ok-abend.ensures.bench

pub returns-in_err-abend-clause-kept : goal.returns-in_err-abend-clause-kept
returns-in_err-abend-clause-kept g c = λ world over.
    let so = c.loop-file.invariant.1 world over in
    let declared = declared_with c.args.program.now c.args.areas.now in
    let p = err_from_is_err_and c.from_residual.result c.from_residual.ensures.1 in
    rw p.1 (stops_among (shut declared) c.args.program.now.files (each_file (shut declared) c.args.store.now world c.args.files.now) world c.args.files.now c.loop-file.file-index c.loop-file.store c.shut.new.store _ _ _ _ so c.in_err-abend.ensures.kept)

pub returns-in-Abended-clause-logged : goal.returns-in-Abended-clause-logged
returns-in-Abended-clause-logged g c = λ world over.
    let so = c.loop-file.invariant.1 world over in
    let declared = declared_with c.args.program.now c.args.areas.now in
    stops_kept (shut declared) c.args.program.now.files (each_file (shut declared) c.args.store.now world c.args.files.now) world c.args.files.now c.loop-file.file-index 0 c.loop-file.store
    (take c.loop-file.bench.left (map (seen-value g.dyn-1).it c.loop-file.bench.devices.items)) c.loop-file.table.rows c.in_ok-abend.field-0 c.in-Abended.abend c.shut.new.store
    (take c.shut.new.bench.left (map (seen-value g.dyn-1).it c.shut.new.bench.devices.items)) c.shut.new.table.rows c.args.work.now c.loop-file.work c.shut.new.work c.loop-file-test.true so c.in-Abended.is (c.in_ok-abend.ensures.does _ so.over) c.loop-file.invariant.2 (c.in_ok-abend.ensures.logged _ so.over)

pub returns-clause-logged : goal.returns-clause-logged
returns-clause-logged g c = λ world over.
    let so = c.loop-file.invariant.1 world over in
    let declared = declared_with c.args.program.now c.args.areas.now in
    ends_kept (shut declared) c.args.program.now.files (each_file (shut declared) c.args.store.now world c.args.files.now) world c.args.files.now c.loop-file.file-index c.loop-file.store _ c.loop-file.table.rows Went c.args.work.now c.loop-file.work so c.loop-file-test.false
