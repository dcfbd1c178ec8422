use Rattle.std.proofs.lemmas.Result.{err_from_is_err_and}
use Rattle.cob_act.proofs.files_lemmas.BenchLemmas.{wanted_memory}
use Rattle.cob_act.proofs.files_lemmas.DeskLemmas.{over_left}
use Rattle.std.proofs.Common.{◌∙◌, ◌∷◌, ◌++◌, [], IsTrue, List, Ok, ap, map, slice_get, subst, sym, take}
use Rattle.cob_tree.specs.declared.file.FileEntry.{FileEntry}
use Rattle.file_model.specs.Attempts.{opened_at}
use Rattle.file_model.specs.contracts.operations.watched.BoxDynDeviceWatched.TheImpl.{seen-value}
use Rattle.file_model.specs.operations.Calls.{addresses_of}
use Rattle.meanings.specs.statements.Does.{declared_with}
use Rattle.meanings.specs.statements.Filing.{address_at, address_by, addresses}
use Rattle.cob_act.specs.declared.files.work.FileVerb.TheVariants as verbs
use Rattle.cob_act.specs.files.Over.{IsOver, Tries}
use Rattle.cob_act.proofs.files_lemmas.WorkLemmas.{done_of, opened_silent, operated_kept}
use Rattle.cob_act.proofs.files.acts.opened.Goals as goal

pub returns-in_err-ready-in-Ok-clause-bench : goal.returns-in_err-ready-in-Ok-clause-bench
returns-in_err-ready-in-Ok-clause-bench g c =
    let p = err_from_is_err_and c.from_residual.result c.from_residual.ensures.1 in
    rw (p.1, p.2) (wanted_memory c.args.program.now.files c.args.bench.now.left _ c.args.table.now.rows)

pub returns-in_err-ready-in-Ok-clause-breaks : goal.returns-in_err-ready-in-Ok-clause-breaks
returns-in_err-ready-in-Ok-clause-breaks g c = λ world over.
    let p = err_from_is_err_and c.from_residual.result c.from_residual.ensures.1 in
    rw (p.1, p.2) (over_left c.args.program.now.files c.args.bench.now.left _ c.args.table.now.rows world over)

pub returns-in_ok-status-in-Ok-clause-logged : goal.returns-in_ok-status-in-Ok-clause-logged
returns-in_ok-status-in-Ok-clause-logged g c = λ world over.
    let declared = declared_with c.args.program.now c.args.areas.now in
    let file = c.args.opening.file in
    let new = take c.open.new.bench.left (map (seen-value g.dyn-1).it c.open.new.bench.devices.items) in
    let tries =
    subst (λ (l : List FileEntry). IsOver l (take c.args.bench.now.left (map (seen-value g.dyn-1).it c.args.bench.now.devices.items)) c.args.table.now.rows world → Tries l (Ok c.in_ok-status-in-Ok.status) (opened_at world (addresses_of l) file (address_by (slice_get l file)) c.args.opening.how) new c.open.new.table.rows)
    c.as_slice.ensures (c.in_ok-status-in-Ok.ensures.does world) over in
    operated_kept declared c.args.program.now.files verbs.Open file c.in-Ok.item c.args.store.now (opened_at world (addresses declared) file (address_at declared file) c.args.opening.how) c.in_ok-status-in-Ok.status new c.open.new.table.rows c.settled.result c.args.work.now c.note.new.self c.in-Ok.ensures tries
    (opened_silent world (addresses declared) file (address_at declared file) c.args.opening.how) (c.note.ensures.bytes ∙ c.in_ok-ready-in-Ok.ensures.bytes)
    (λ keeps. c.note.ensures.done (subst IsTrue (sym c.in_ok-ready-in-Ok.ensures.keeps) keeps) ∙ ap (λ l. l ++ done_of verbs.Open file c.in_ok-status-in-Ok.status ∷ []) c.in_ok-ready-in-Ok.ensures.done)
