use Rattle.std.proofs.Common.{◌∙◌, Bool, Err, ap, inl, inr, map, refl, take, ℕ}
use Rattle.std.specs.Prelude.{option_copied}
use Rattle.file_model.specs.Attempts.{read_at}
use Rattle.meanings.specs.statements.Does.{declared_with}
use Rattle.meanings.specs.statements.Filing.{address_at, read, record_spot}
use Rattle.file_model.specs.contracts.operations.watched.BoxDynDeviceWatched.TheImpl.{seen-value}
use Rattle.cob_act.proofs.files_lemmas.EffectLemmas.{ended_by}
use Rattle.cob_act.proofs.files_lemmas.ReadLemmas.{nothing_done, read_came, read_went, record_came_first, stands_without_into}
use Rattle.cob_act.proofs.files_lemmas.WorkLemmas.{read_kept, read_moves, record_moved}
use Rattle.std.proofs.lemmas.Result.{err_from_is_err_and}
use Rattle.cob_act.proofs.files_lemmas.BenchLemmas.{wanted_after}
use Rattle.cob_act.proofs.files_lemmas.DeskLemmas.{stays_listed}
use Rattle.cob_act.proofs.files.acts.read_one.Goals as goal

pub returns-in_ok-read_end-in_default-clause-does : goal.returns-in_ok-read_end-in_default-clause-does
returns-in_ok-read_end-in_default-clause-does g c = λ world over.
    let declared = declared_with c.args.program.now c.args.areas.now in
    let file = c.args.reading.file in
    let attempt = read_at world file (address_at declared file) (record_spot declared file).length in
    let came = read_came declared c.as_slice-files.result.now file c.args.store.now c.record_put.new.store c.record_spot-spot.result c.in_ok-status.status c.next_record.new.work.bytes.items c.as_slice.result.now
    (take c.args.bench.now.left (map (seen-value g.dyn-1).it c.args.bench.now.devices.items)) (take c.next_record.new.bench.left (map (seen-value g.dyn-1).it c.next_record.new.bench.devices.items)) c.args.table.now.rows c.next_record.new.table.rows world
    c.record_spot-spot.ensures c.as_slice-files.ensures c.as_slice.ensures.value c.in_ok-status.ensures.room (c.in_ok-status.ensures.does world) (c.in_ok-status.ensures.came world) c.record_put.ensures over in
    read_went declared c.args.program.now.files file (option_copied c.args.reading.into) c.args.reading.at_end c.args.reading.arms c.args.store.now c.record_put.new.store c.settled.new.store c.read_end.new.store attempt c.in-Ok.item c.in_ok-status.status c.settled.result c.in_ok-read_end-in_default.field-0 world
    (take c.next_record.new.bench.left (map (seen-value g.dyn-1).it c.next_record.new.bench.devices.items)) c.next_record.new.table.rows c.in-Ok.ensures came.0 came.1 (c.settled.ensures.end ∙ ap (λ (cared : Bool). ended_by cared c.in-Ok.item c.in_ok-status.status) c.is_cared-cared.ensures) c.settled.ensures.store c.in_default.not-Abended c.in_ok-read_end-in_default.ensures.does

pub returns-in_err-status-clause-breaks : goal.returns-in_err-status-clause-breaks
returns-in_err-status-clause-breaks g c = λ world over.
    let p = err_from_is_err_and c.from_residual.result c.from_residual.ensures.1 in
    let broke = stays_listed {A = ℕ} (Err c.in_err-status.field-0.0) c.as_slice-files.result.now c.args.program.now.files _ c.args.table.now.rows world _ _ _ c.as_slice-files.ensures (c.in_err-status.ensures.breaks world) over in
    rw (p.1, p.2) (nothing_done c.in_err-status.field-0.0 c.args.program.now.files world (read (declared_with c.args.program.now c.args.areas.now) c.args.store.now world c.args.reading.file (option_copied c.args.reading.into) c.args.reading.at_end c.args.reading.arms) _ _ _ broke)

pub returns-in_err-read_end-in_default-clause-bench : goal.returns-in_err-read_end-in_default-clause-bench
returns-in_err-read_end-in_default-clause-bench g c =
    let p = err_from_is_err_and c.from_residual-in_err-read_end-in_default.result c.from_residual-in_err-read_end-in_default.ensures.1 in
    rw (p.1, p.2) (wanted_after c.as_slice-files.result.now c.args.program.now.files _ _ _ _ c.next_record.new.table.rows c.as_slice-files.ensures c.in_ok-status.ensures.bench)

pub returns-in_err-read_end-in_default-clause-breaks : goal.returns-in_err-read_end-in_default-clause-breaks
returns-in_err-read_end-in_default-clause-breaks g c = λ world over.
    let declared = declared_with c.args.program.now c.args.areas.now in
    let file = c.args.reading.file in
    let attempt = read_at world file (address_at declared file) (record_spot declared file).length in
    let came = read_came declared c.as_slice-files.result.now file c.args.store.now c.record_put.new.store c.record_spot-spot.result c.in_ok-status.status c.next_record.new.work.bytes.items c.as_slice.result.now
    (take c.args.bench.now.left (map (seen-value g.dyn-1).it c.args.bench.now.devices.items)) (take c.next_record.new.bench.left (map (seen-value g.dyn-1).it c.next_record.new.bench.devices.items)) c.args.table.now.rows c.next_record.new.table.rows world
    c.record_spot-spot.ensures c.as_slice-files.ensures c.as_slice.ensures.value c.in_ok-status.ensures.room (c.in_ok-status.ensures.does world) (c.in_ok-status.ensures.came world) c.record_put.ensures over in
    let p = err_from_is_err_and c.from_residual-in_err-read_end-in_default.result c.from_residual-in_err-read_end-in_default.ensures.1 in
    rw (p.1, p.2)
    (record_came_first declared c.args.program.now.files file (option_copied c.args.reading.into) c.args.reading.at_end c.args.reading.arms c.args.store.now c.record_put.new.store c.settled.new.store attempt c.in-Ok.item c.in_ok-status.status c.settled.result world
    c.next_record.new.bench.left _ c.next_record.new.table.rows c.in-Ok.ensures came.0 came.1 (c.settled.ensures.end ∙ ap (λ (cared : Bool). ended_by cared c.in-Ok.item c.in_ok-status.status) c.is_cared-cared.ensures) c.settled.ensures.store c.in_default.not-Abended)

pub returns-in_err-status-clause-kept : goal.returns-in_err-status-clause-kept
returns-in_err-status-clause-kept g c = λ world over.
    let p = err_from_is_err_and c.from_residual.result c.from_residual.ensures.1 in
    rw p.1 (inl refl)

pub returns-in_err-read_end-in_default-clause-kept : goal.returns-in_err-read_end-in_default-clause-kept
returns-in_err-read_end-in_default-clause-kept g c = λ world over.
    let declared = declared_with c.args.program.now c.args.areas.now in
    let file = c.args.reading.file in
    let attempt = read_at world file (address_at declared file) (record_spot declared file).length in
    let came = read_came declared c.as_slice-files.result.now file c.args.store.now c.record_put.new.store c.record_spot-spot.result c.in_ok-status.status c.next_record.new.work.bytes.items c.as_slice.result.now
    (take c.args.bench.now.left (map (seen-value g.dyn-1).it c.args.bench.now.devices.items)) (take c.next_record.new.bench.left (map (seen-value g.dyn-1).it c.next_record.new.bench.devices.items)) c.args.table.now.rows c.next_record.new.table.rows world
    c.record_spot-spot.ensures c.as_slice-files.ensures c.as_slice.ensures.value c.in_ok-status.ensures.room (c.in_ok-status.ensures.does world) (c.in_ok-status.ensures.came world) c.record_put.ensures over in
    let p = err_from_is_err_and c.from_residual-in_err-read_end-in_default.result c.from_residual-in_err-read_end-in_default.ensures.1 in
    rw p.1
    (inr (stands_without_into declared c.args.program.now.files file c.args.reading.at_end c.args.reading.arms c.args.store.now c.record_put.new.store c.settled.new.store c.read_end.new.store attempt c.in-Ok.item c.in_ok-status.status c.settled.result world
    _ c.next_record.new.table.rows c.in-Ok.ensures came.0 came.1 (c.settled.ensures.end ∙ ap (λ (cared : Bool). ended_by cared c.in-Ok.item c.in_ok-status.status) c.is_cared-cared.ensures) c.settled.ensures.store c.in_default.not-Abended c.in_err-read_end-in_default.ensures.kept))

pub returns-in_ok-read_end-in_default-clause-logged : goal.returns-in_ok-read_end-in_default-clause-logged
returns-in_ok-read_end-in_default-clause-logged g c = λ world over.
    let declared = declared_with c.args.program.now c.args.areas.now in
    let file = c.args.reading.file in
    let attempt = read_at world file (address_at declared file) (record_spot declared file).length in
    let came = read_came declared c.as_slice-files.result.now file c.args.store.now c.record_put.new.store c.record_spot-spot.result c.in_ok-status.status c.next_record.new.work.bytes.items c.as_slice.result.now
    (take c.args.bench.now.left (map (seen-value g.dyn-1).it c.args.bench.now.devices.items)) (take c.next_record.new.bench.left (map (seen-value g.dyn-1).it c.next_record.new.bench.devices.items)) c.args.table.now.rows c.next_record.new.table.rows world
    c.record_spot-spot.ensures c.as_slice-files.ensures c.as_slice.ensures.value c.in_ok-status.ensures.room (c.in_ok-status.ensures.does world) (c.in_ok-status.ensures.came world) c.record_put.ensures over in
    read_kept declared file (option_copied c.args.reading.into) c.args.reading.at_end c.args.reading.arms c.args.store.now attempt c.args.program.now.files c.in-Ok.item c.in_ok-status.status
    (take c.next_record.new.bench.left (map (seen-value g.dyn-1).it c.next_record.new.bench.devices.items)) c.next_record.new.table.rows c.in_ok-read_end-in_default.field-0 c.args.work.now (record c.next_record.new.work { scratch = c.read_end.new.scratch }) c.in-Ok.ensures came.0
    (record_moved c.args.program.now.files c.in_ok-status.status attempt c.next_record.new.work.bytes.items _ c.next_record.new.table.rows came.0 came.2 (read_moves world file (address_at declared file) (record_spot declared file).length)) c.in_ok-status.ensures.logged
