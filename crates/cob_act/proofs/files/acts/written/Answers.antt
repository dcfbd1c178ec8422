use Rattle.std.proofs.Common.{◌∙◌, ◌∷◌, ◌++◌, [], Err, IsTrue, Ok, ap, inr, map, subst, sym, take, ℕ}
use Rattle.std.specs.Prelude.{option_copied}
use Rattle.file_model.specs.Attempts.{written_at}
use Rattle.file_model.specs.World.{Write}
use Rattle.meanings.specs.statements.Does.{declared_with}
use Rattle.meanings.specs.statements.Filing.{address_at, file_of, from_by, written}
use Rattle.file_model.specs.contracts.operations.watched.BoxDynDeviceWatched.TheImpl.{seen-value}
use Rattle.cob_act.proofs.files_lemmas.EffectLemmas.{put_did, tried_at}
use Rattle.cob_act.specs.declared.files.work.FileVerb.TheVariants as verbs
use Rattle.cob_act.proofs.files_lemmas.WorkLemmas.{done_of, put_kept, put_moved, written_moves}
use Rattle.std.proofs.lemmas.Result.{err_from_is_err_and}
use Rattle.file_model.specs.declared.operations.fault.FileFault.TheVariants as faults
use Rattle.cob_act.proofs.files_lemmas.BenchLemmas.{wanted_memory}
use Rattle.cob_act.proofs.files_lemmas.DeskLemmas.{over_left, stays_listed}
use Rattle.cob_act.proofs.files_lemmas.ReadLemmas.{nothing_done}
use Rattle.cob_act.proofs.files.acts.written.Goals as goal

pub returns-in_ok-status-in-Ok-clause-does : goal.returns-in_ok-status-in-Ok-clause-does
returns-in_ok-status-in-Ok-clause-does g c = λ world over.
    let declared = declared_with c.args.program.now c.args.areas.now in
    let puts = rw c.in-Ok.is at c.in_ok-abend.ensures.does in
    put_did declared c.args.program.now.files Write (written_at world) c.args.writing.entry (from_by declared c.args.writing.entry c.args.store.now (option_copied c.args.writing.from)) c.put_out.new.store c.settled.new.store c.put_out.new.work.bytes.items c.in-Ok.item c.in_ok-status-in-Ok.status c.settled.result world (take c.write.new.bench.left (map (seen-value g.dyn-1).it c.write.new.bench.devices.items)) c.write.new.table.rows
    puts
    (tried_at (written_at world) c.args.program.now.files c.as_slice-files.result.now (Ok c.in_ok-status-in-Ok.status) (file_of declared c.args.writing.entry) c.file_of-file.result c.put_out.new.work.bytes.items c.as_slice.result.now
    (take c.args.bench.now.left (map (seen-value g.dyn-1).it c.args.bench.now.devices.items)) (take c.write.new.bench.left (map (seen-value g.dyn-1).it c.write.new.bench.devices.items)) c.args.table.now.rows c.write.new.table.rows world c.as_slice-files.ensures c.file_of-file.ensures c.as_slice.ensures.value (c.in_ok-status-in-Ok.ensures.does world) over)
    c.settled.ensures.end c.settled.ensures.store

pub returns-in_err-abend-clause-bench : goal.returns-in_err-abend-clause-bench
returns-in_err-abend-clause-bench g c =
    let p = err_from_is_err_and c.from_residual.result c.from_residual.ensures.1 in
    rw (p.1, p.2) (wanted_memory c.args.program.now.files c.args.bench.now.left _ c.args.table.now.rows)

pub returns-in_err-abend-clause-breaks : goal.returns-in_err-abend-clause-breaks
returns-in_err-abend-clause-breaks g c = λ world over.
    let p = err_from_is_err_and c.from_residual.result c.from_residual.ensures.1 in
    rw (p.1, p.2) (nothing_done faults.NoMemory c.args.program.now.files world (written (declared_with c.args.program.now c.args.areas.now) c.args.store.now world c.args.writing.entry (option_copied c.args.writing.from)) c.args.bench.now.left _ c.args.table.now.rows (over_left c.args.program.now.files c.args.bench.now.left _ c.args.table.now.rows world over))

pub returns-in_err-status-in-Ok-clause-breaks : goal.returns-in_err-status-in-Ok-clause-breaks
returns-in_err-status-in-Ok-clause-breaks g c = λ world over.
    let p = err_from_is_err_and c.from_residual-in_err-status-in-Ok.result c.from_residual-in_err-status-in-Ok.ensures.1 in
    let broke = stays_listed {A = ℕ} (Err c.in_err-status-in-Ok.field-0.0) c.as_slice-files.result.now c.args.program.now.files _ c.args.table.now.rows world _ _ _ c.as_slice-files.ensures (c.in_err-status-in-Ok.ensures.breaks world) over in
    rw (p.1, p.2) (nothing_done c.in_err-status-in-Ok.field-0.0 c.args.program.now.files world (written (declared_with c.args.program.now c.args.areas.now) c.args.store.now world c.args.writing.entry (option_copied c.args.writing.from)) _ _ _ broke)

pub returns-in_err-abend-clause-kept : goal.returns-in_err-abend-clause-kept
returns-in_err-abend-clause-kept g c =
    let p = err_from_is_err_and c.from_residual.result c.from_residual.ensures.1 in
    rw p.1 c.in_err-abend.ensures.kept

pub returns-in_err-status-in-Ok-clause-kept : goal.returns-in_err-status-in-Ok-clause-kept
returns-in_err-status-in-Ok-clause-kept g c =
    let puts = rw c.in-Ok.is at c.in_ok-abend.ensures.does in
    let p = err_from_is_err_and c.from_residual-in_err-status-in-Ok.result c.from_residual-in_err-status-in-Ok.ensures.1 in
    rw p.1 (inr puts.0)

pub returns-in_ok-status-in-Ok-clause-logged : goal.returns-in_ok-status-in-Ok-clause-logged
returns-in_ok-status-in-Ok-clause-logged g c = λ world over.
    let declared = declared_with c.args.program.now c.args.areas.now in
    let puts = rw c.in-Ok.is at c.in_ok-abend.ensures.does in
    let tries =
    (tried_at (written_at world) c.args.program.now.files c.as_slice-files.result.now (Ok c.in_ok-status-in-Ok.status) (file_of declared c.args.writing.entry) c.file_of-file.result c.put_out.new.work.bytes.items c.as_slice.result.now
    (take c.args.bench.now.left (map (seen-value g.dyn-1).it c.args.bench.now.devices.items)) (take c.write.new.bench.left (map (seen-value g.dyn-1).it c.write.new.bench.devices.items)) c.args.table.now.rows c.write.new.table.rows world c.as_slice-files.ensures c.file_of-file.ensures c.as_slice.ensures.value (c.in_ok-status-in-Ok.ensures.does world) over) in
    put_kept declared verbs.Write (written_at world) c.args.writing.entry (from_by declared c.args.writing.entry c.args.store.now (option_copied c.args.writing.from)) c.args.program.now.files c.put_out.new.store c.put_out.new.work.bytes.items c.in-Ok.item c.in_ok-status-in-Ok.status (take c.write.new.bench.left (map (seen-value g.dyn-1).it c.write.new.bench.devices.items)) c.write.new.table.rows c.settled.result c.args.work.now c.note.new.self
    puts tries
    (put_moved c.args.program.now.files c.in_ok-status-in-Ok.status (written_at world (file_of declared c.args.writing.entry) (address_at declared (file_of declared c.args.writing.entry)) c.put_out.new.work.bytes.items) c.put_out.new.work.bytes.items c.note.new.self.bytes.items _ c.write.new.table.rows tries
    (written_moves world (file_of declared c.args.writing.entry) (address_at declared (file_of declared c.args.writing.entry)) c.put_out.new.work.bytes.items) (ap (λ b. b.items) c.note.ensures.bytes))
    (λ keeps none.
    c.note.ensures.done (subst IsTrue (sym c.in_ok-abend.ensures.keeps) keeps)
    ∙ ap (λ l. l ++ done_of verbs.Write c.file_of-file.result c.in_ok-status-in-Ok.status ∷ []) (c.in_ok-abend.ensures.done ∙ none)
    ∙ ap (λ (f : ℕ). done_of verbs.Write f c.in_ok-status-in-Ok.status ∷ []) c.file_of-file.ensures)
