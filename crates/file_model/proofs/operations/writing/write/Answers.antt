use Rattle.std.proofs.Common.{◌∙◌, ◌<◌, List, ℕ, Option, ap, arith, length, refl, sym, Err}
use Rattle.cob_tree.specs.declared.file.FileEntry.{FileEntry}
use Rattle.file_model.specs.declared.device.Put.TheVariants as put
use Rattle.file_model.specs.declared.mem_file.MemFile.{MemFile}
use Rattle.file_model.specs.Attempts.{address_of, written_at}
use Rattle.file_model.specs.Status.{may_write, other_row}
use Rattle.file_model.specs.Told.{Changes, appended}
use Rattle.file_model.specs.declared.operations.fault.FileFault.TheVariants as faults
use Rattle.file_model.specs.operations.Calls.{addresses_of}
use Rattle.file_model.proofs.operations_lemmas.EndLemmas.{called_named, done_bench, done_world, failed_bench, failed_notes, failed_world, first_named, noted_notes, nowhere_world, refused_bench, refused_world, site_of, wanted_bench, wanted_world, write_tried}
use Rattle.file_model.proofs.operations_lemmas.OpLemmas.{can_write_open, writes}
use Rattle.file_model.proofs.operations.writing.write.Goals as goal

pub returns-then-status-ne0-clause-bench : goal.returns-then-status-ne0-clause-bench
returns-then-status-ne0-clause-bench g c = λ address here. refused_bench c.noted.result c.may_write-status.result c.args.bench.now.left address.device _ c.noted.ensures.answer

pub returns-then-status-ne0-clause-world : goal.returns-then-status-ne0-clause-world
returns-then-status-ne0-clause-world g c = λ world address here stands.
    let within : c.args.file < length c.args.table.now.rows = omega (arith, c.requires.file, c.requires.rows) in
    refused_world c.noted.result (addresses_of c.args.files.now) _ address.device c.args.table.now.rows c.noted.new.table.rows world c.args.file c.may_write-status.result may_write (write_tried world c.args.file address c.args.bytes.now)
    c.noted.ensures.answer stands within c.may_write-status.ensures c.if-status-ne0.true c.noted.ensures.table

pub returns-in-None-clause-bench : goal.returns-in-None-clause-bench
returns-in-None-clause-bench g c = λ address here. refused_bench c.noted-in-None.result 30 c.args.bench.now.left address.device _ c.noted-in-None.ensures.answer

pub returns-in-None-clause-world : goal.returns-in-None-clause-world
returns-in-None-clause-world g c = λ world address here stands.
    let there = site_of c.args.files.now c.args.table.now.rows c.args.file c.index-files-file.result c.device_of.result.now (address_of c.index-files-file.result.assign).name c.requires.file c.requires.rows c.index-files-file.is
    (c.device_of.ensures ∙ ap (λ t. (address_of t).device) c.as_slice-assign.ensures ∙ ap (λ (e : FileEntry). (address_of e.assign).device) (sym c.index-files-file.is)) refl in
    nowhere_world (addresses_of c.args.files.now) _ c.device_of.result.now c.args.table.now.rows world c.args.file c.may_write-status.result address may_write _
    (λ row e. can_write_open row.how e) stands there.within here (there.device_is address here) c.may_write-status.ensures c.if-status-ne0.false c.in-None.ensures

pub returns-in-Done-clause-bench : goal.returns-in-Done-clause-bench
returns-in-Done-clause-bench g c = λ address here.
    let there = site_of c.args.files.now c.args.table.now.rows c.args.file c.index-files-file.result c.device_of.result.now c.name_of.result.now c.requires.file c.requires.rows c.index-files-file.is
    (c.device_of.ensures ∙ ap (λ t. (address_of t).device) c.as_slice-assign.ensures ∙ ap (λ (e : FileEntry). (address_of e.assign).device) (sym c.index-files-file.is)) (c.name_of.ensures ∙ ap (λ t. (address_of t).name) c.as_slice-assign.ensures ∙ ap (λ (e : FileEntry). (address_of e.assign).name) (sym c.index-files-file.is)) in
    done_bench _ _ _ 0 _ _ _ _ _ c.noted-in-Done.ensures.answer c.in-Done.ensures.left (first_named c.args.files.now c.args.table.now.rows c.args.file c.device_of.result.now c.name_of.result.now there address here _ c.in-Some.at c.in-Some.ensures) c.in-Done.ensures.called

pub returns-in-Done-clause-world : goal.returns-in-Done-clause-world
returns-in-Done-clause-world g c = λ world address here stands.
    let there = site_of c.args.files.now c.args.table.now.rows c.args.file c.index-files-file.result c.device_of.result.now c.name_of.result.now c.requires.file c.requires.rows c.index-files-file.is
    (c.device_of.ensures ∙ ap (λ t. (address_of t).device) c.as_slice-assign.ensures ∙ ap (λ (e : FileEntry). (address_of e.assign).device) (sym c.index-files-file.is)) (c.name_of.ensures ∙ ap (λ t. (address_of t).name) c.as_slice-assign.ensures ∙ ap (λ (e : FileEntry). (address_of e.assign).name) (sym c.index-files-file.is)) in
    done_world _ (addresses_of c.args.files.now) address.device _ c.args.bench.now.left _ c.noted-in-Done.new.table.rows world (written_at world c.args.file address c.args.bytes.now) c.noted-in-Done.ensures.answer c.in-Done.ensures.left
    (writes (addresses_of c.args.files.now) _ _ c.args.table.now.rows c.noted-in-Done.new.table.rows world c.args.bench.now.left c.in-Some.at c.args.file address c.args.bytes.now c.may_write-status.result
    stands here there.within (first_named c.args.files.now c.args.table.now.rows c.args.file c.device_of.result.now c.name_of.result.now there address here _ c.in-Some.at c.in-Some.ensures) c.may_write-status.ensures c.if-status-ne0.false
    (called_named c.args.files.now c.args.table.now.rows c.args.file c.device_of.result.now c.name_of.result.now there address here (λ (n : List ℕ) (before after : Option (List MemFile)). Changes before n (appended c.args.bytes.now) put.Done after) _ _ _ c.in-Some.at c.in-Done.ensures.called)
    c.noted-in-Done.ensures.table)

pub returns-in-Failed-clause-bench : goal.returns-in-Failed-clause-bench
returns-in-Failed-clause-bench g c = λ address here.
    let there = site_of c.args.files.now c.args.table.now.rows c.args.file c.index-files-file.result c.device_of.result.now c.name_of.result.now c.requires.file c.requires.rows c.index-files-file.is
    (c.device_of.ensures ∙ ap (λ t. (address_of t).device) c.as_slice-assign.ensures ∙ ap (λ (e : FileEntry). (address_of e.assign).device) (sym c.index-files-file.is)) (c.name_of.ensures ∙ ap (λ t. (address_of t).name) c.as_slice-assign.ensures ∙ ap (λ (e : FileEntry). (address_of e.assign).name) (sym c.index-files-file.is)) in
    failed_bench c.fail.result _ _ _ _ _ _ _ address.device _ c.fail.ensures.answer c.in-Failed.ensures.left (first_named c.args.files.now c.args.table.now.rows c.args.file c.device_of.result.now c.name_of.result.now there address here _ c.in-Some.at c.in-Some.ensures) c.in-Failed.ensures.called c.fail.ensures.bench

pub returns-in-Failed-clause-world : goal.returns-in-Failed-clause-world
returns-in-Failed-clause-world g c = λ world address here stands.
    let there = site_of c.args.files.now c.args.table.now.rows c.args.file c.index-files-file.result c.device_of.result.now c.name_of.result.now c.requires.file c.requires.rows c.index-files-file.is
    (c.device_of.ensures ∙ ap (λ t. (address_of t).device) c.as_slice-assign.ensures ∙ ap (λ (e : FileEntry). (address_of e.assign).device) (sym c.index-files-file.is)) (c.name_of.ensures ∙ ap (λ t. (address_of t).name) c.as_slice-assign.ensures ∙ ap (λ (e : FileEntry). (address_of e.assign).name) (sym c.index-files-file.is)) in
    failed_world c.fail.result _ _ _ _ _ _ c.in-Some.at address.device _ (addresses_of c.args.files.now) c.args.table.now.rows _ world (written_at world c.args.file address c.args.bytes.now) c.fail.ensures.answer c.in-Failed.ensures.left (first_named c.args.files.now c.args.table.now.rows c.args.file c.device_of.result.now c.name_of.result.now there address here _ c.in-Some.at c.in-Some.ensures) c.in-Failed.ensures.called c.fail.ensures.bench c.fail.ensures.table stands

pub returns-in-NoMemory-clause-bench : goal.returns-in-NoMemory-clause-bench
returns-in-NoMemory-clause-bench g c = λ address here.
    let there = site_of c.args.files.now c.args.table.now.rows c.args.file c.index-files-file.result c.device_of.result.now c.name_of.result.now c.requires.file c.requires.rows c.index-files-file.is
    (c.device_of.ensures ∙ ap (λ t. (address_of t).device) c.as_slice-assign.ensures ∙ ap (λ (e : FileEntry). (address_of e.assign).device) (sym c.index-files-file.is)) (c.name_of.ensures ∙ ap (λ t. (address_of t).name) c.as_slice-assign.ensures ∙ ap (λ (e : FileEntry). (address_of e.assign).name) (sym c.index-files-file.is)) in
    wanted_bench (Err faults.NoMemory) _ _ _ _ c.in-Some.at address.device _ refl c.in-NoMemory.ensures.left (first_named c.args.files.now c.args.table.now.rows c.args.file c.device_of.result.now c.name_of.result.now there address here _ c.in-Some.at c.in-Some.ensures) c.in-NoMemory.ensures.called

pub returns-in-NoMemory-clause-world : goal.returns-in-NoMemory-clause-world
returns-in-NoMemory-clause-world g c = λ world address here stands.
    let there = site_of c.args.files.now c.args.table.now.rows c.args.file c.index-files-file.result c.device_of.result.now c.name_of.result.now c.requires.file c.requires.rows c.index-files-file.is
    (c.device_of.ensures ∙ ap (λ t. (address_of t).device) c.as_slice-assign.ensures ∙ ap (λ (e : FileEntry). (address_of e.assign).device) (sym c.index-files-file.is)) (c.name_of.ensures ∙ ap (λ t. (address_of t).name) c.as_slice-assign.ensures ∙ ap (λ (e : FileEntry). (address_of e.assign).name) (sym c.index-files-file.is)) in
    wanted_world (Err faults.NoMemory) _ _ c.args.bench.now.left _ c.in-Some.at address.device c.name_of.result.now (appended c.args.bytes.now) (addresses_of c.args.files.now) c.args.table.now.rows world (written_at world c.args.file address c.args.bytes.now) refl c.in-NoMemory.ensures.left (first_named c.args.files.now c.args.table.now.rows c.args.file c.device_of.result.now c.name_of.result.now there address here _ c.in-Some.at c.in-Some.ensures) c.in-NoMemory.ensures.called stands

pub returns-then-status-ne0-clause-notes : goal.returns-then-status-ne0-clause-notes
returns-then-status-ne0-clause-notes g c = λ address here.
    noted_notes c.noted.result c.may_write-status.result c.args.file address.device (addresses_of c.args.files.now) other_row c.args.table.now.rows c.noted.new.table.rows c.noted.ensures.answer (omega (arith, c.requires.file, c.requires.rows)) c.noted.ensures.table

pub returns-in-None-clause-notes : goal.returns-in-None-clause-notes
returns-in-None-clause-notes g c = λ address here.
    noted_notes c.noted-in-None.result 30 c.args.file address.device (addresses_of c.args.files.now) other_row c.args.table.now.rows c.noted-in-None.new.table.rows c.noted-in-None.ensures.answer (omega (arith, c.requires.file, c.requires.rows)) c.noted-in-None.ensures.table

pub returns-in-Done-clause-notes : goal.returns-in-Done-clause-notes
returns-in-Done-clause-notes g c = λ address here.
    noted_notes c.noted-in-Done.result 0 c.args.file address.device (addresses_of c.args.files.now) other_row c.args.table.now.rows c.noted-in-Done.new.table.rows c.noted-in-Done.ensures.answer (omega (arith, c.requires.file, c.requires.rows)) c.noted-in-Done.ensures.table

pub returns-in-Failed-clause-notes : goal.returns-in-Failed-clause-notes
returns-in-Failed-clause-notes g c = λ address here.
    let there = site_of c.args.files.now c.args.table.now.rows c.args.file c.index-files-file.result c.device_of.result.now c.name_of.result.now c.requires.file c.requires.rows c.index-files-file.is
    (c.device_of.ensures ∙ ap (λ t. (address_of t).device) c.as_slice-assign.ensures ∙ ap (λ (e : FileEntry). (address_of e.assign).device) (sym c.index-files-file.is)) (c.name_of.ensures ∙ ap (λ t. (address_of t).name) c.as_slice-assign.ensures ∙ ap (λ (e : FileEntry). (address_of e.assign).name) (sym c.index-files-file.is)) in
    failed_notes c.fail.result c.args.file address.device (addresses_of c.args.files.now) _ _ c.args.bench.now.left c.in-Some.at _ c.args.table.now.rows c.fail.new.table.rows c.fail.ensures.answer
    (first_named c.args.files.now c.args.table.now.rows c.args.file c.device_of.result.now c.name_of.result.now there address here _ c.in-Some.at c.in-Some.ensures) c.in-Failed.ensures.called c.fail.ensures.table

pub returns-in-NoMemory-clause-notes : goal.returns-in-NoMemory-clause-notes
returns-in-NoMemory-clause-notes g c = λ address here. refl
