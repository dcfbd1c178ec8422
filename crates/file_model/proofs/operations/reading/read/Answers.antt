use Rattle.std.proofs.Common.{◌≡◌, ◌∙◌, ◌<◌, ◌==◌, ap, arith, if◌then◌else◌, length, refl, sym, true, Ok, Err}
use Rattle.file_model.specs.Attempts.{read_at}
use Rattle.file_model.specs.Status.{may_read, other_row, read_row}
use Rattle.file_model.specs.declared.operations.fault.FileFault.TheVariants as faults
use Rattle.cob_tree.specs.declared.file.FileEntry.{FileEntry}
use Rattle.file_model.specs.Attempts.{address_of}
use Rattle.file_model.specs.operations.Calls.{addresses_of}
use Rattle.file_model.proofs.operations_lemmas.EndLemmas.{done_bench, failed_bench, failed_breaks, failed_notes, failed_world, first_named, noted_notes, nowhere_world, refused_bench, refused_world, site_of}
use Rattle.file_model.proofs.operations_lemmas.OpenLemmas.{status_breaks}
use Rattle.file_model.proofs.operations_lemmas.ReadLemmas.{can_read_open, no_record, read_bytes, read_end, read_tried, record_read}
use Rattle.file_model.proofs.operations.reading.read.Goals as goal

pub returns-then-status-ne0-clause-bench : goal.returns-then-status-ne0-clause-bench
returns-then-status-ne0-clause-bench g c = λ address here. refused_bench c.noted.result c.may_read-status.result c.args.bench.now.left address.device _ c.noted.ensures.answer

pub returns-then-status-ne0-clause-gone : goal.returns-then-status-ne0-clause-gone
returns-then-status-ne0-clause-gone g c = λ world address here stands. status_breaks c.noted.result c.may_read-status.result (addresses_of c.args.files.now) address.device _ c.noted.new.table.rows world c.noted.ensures.answer

pub returns-in-None-clause-bench : goal.returns-in-None-clause-bench
returns-in-None-clause-bench g c = λ address here. refused_bench c.noted-in-None.result 30 c.args.bench.now.left address.device _ c.noted-in-None.ensures.answer

pub returns-in-None-clause-gone : goal.returns-in-None-clause-gone
returns-in-None-clause-gone g c = λ world address here stands. status_breaks c.noted-in-None.result 30 (addresses_of c.args.files.now) address.device _ c.noted-in-None.new.table.rows world c.noted-in-None.ensures.answer

pub returns-in-Bytes-clause-bench : goal.returns-in-Bytes-clause-bench
returns-in-Bytes-clause-bench g c = λ address here.
    let there = site_of c.args.files.now c.args.table.now.rows c.args.file c.index-files-file.result c.device_of.result.now c.name_of.result.now c.requires.file c.requires.rows c.index-files-file.is
    (c.device_of.ensures ∙ ap (λ t. (address_of t).device) c.as_slice-assign.ensures ∙ ap (λ (e : FileEntry). (address_of e.assign).device) (sym c.index-files-file.is)) (c.name_of.ensures ∙ ap (λ t. (address_of t).name) c.as_slice-assign.ensures ∙ ap (λ (e : FileEntry). (address_of e.assign).name) (sym c.index-files-file.is)) in
    done_bench _ _ _ (if c.in-Bytes.size == 0 then 10 else 0) _ _ _ _ _ c.given.ensures.answer c.in-Bytes.ensures.left (first_named c.args.files.now c.args.table.now.rows c.args.file c.device_of.result.now c.name_of.result.now there address here _ c.in-Some.at c.in-Some.ensures) c.in-Bytes.ensures.called

pub returns-in-Bytes-clause-gone : goal.returns-in-Bytes-clause-gone
returns-in-Bytes-clause-gone g c = λ world address here stands. status_breaks c.given.result (if c.in-Bytes.size == 0 then 10 else 0) (addresses_of c.args.files.now) address.device _ c.given.new.table.rows world c.given.ensures.answer

pub returns-in-End-clause-bench : goal.returns-in-End-clause-bench
returns-in-End-clause-bench g c = λ address here.
    let there = site_of c.args.files.now c.args.table.now.rows c.args.file c.index-files-file.result c.device_of.result.now c.name_of.result.now c.requires.file c.requires.rows c.index-files-file.is
    (c.device_of.ensures ∙ ap (λ t. (address_of t).device) c.as_slice-assign.ensures ∙ ap (λ (e : FileEntry). (address_of e.assign).device) (sym c.index-files-file.is)) (c.name_of.ensures ∙ ap (λ t. (address_of t).name) c.as_slice-assign.ensures ∙ ap (λ (e : FileEntry). (address_of e.assign).name) (sym c.index-files-file.is)) in
    done_bench _ _ _ 10 _ _ _ _ _ c.ended.ensures.answer c.in-End.ensures.left (first_named c.args.files.now c.args.table.now.rows c.args.file c.device_of.result.now c.name_of.result.now there address here _ c.in-Some.at c.in-Some.ensures) c.in-End.ensures.called

pub returns-in-End-clause-gone : goal.returns-in-End-clause-gone
returns-in-End-clause-gone g c = λ world address here stands. status_breaks c.ended.result 10 (addresses_of c.args.files.now) address.device _ c.ended.new.table.rows world c.ended.ensures.answer

pub returns-in-Failed-clause-bench : goal.returns-in-Failed-clause-bench
returns-in-Failed-clause-bench g c = λ address here.
    let there = site_of c.args.files.now c.args.table.now.rows c.args.file c.index-files-file.result c.device_of.result.now c.name_of.result.now c.requires.file c.requires.rows c.index-files-file.is
    (c.device_of.ensures ∙ ap (λ t. (address_of t).device) c.as_slice-assign.ensures ∙ ap (λ (e : FileEntry). (address_of e.assign).device) (sym c.index-files-file.is)) (c.name_of.ensures ∙ ap (λ t. (address_of t).name) c.as_slice-assign.ensures ∙ ap (λ (e : FileEntry). (address_of e.assign).name) (sym c.index-files-file.is)) in
    failed_bench c.fail.result _ _ _ _ _ _ _ address.device _ c.fail.ensures.answer c.in-Failed.ensures.left (first_named c.args.files.now c.args.table.now.rows c.args.file c.device_of.result.now c.name_of.result.now there address here _ c.in-Some.at c.in-Some.ensures) c.in-Failed.ensures.called c.fail.ensures.bench

pub returns-in-Failed-clause-gone : goal.returns-in-Failed-clause-gone
returns-in-Failed-clause-gone g c = λ world address here stands.
    let there = site_of c.args.files.now c.args.table.now.rows c.args.file c.index-files-file.result c.device_of.result.now c.name_of.result.now c.requires.file c.requires.rows c.index-files-file.is
    (c.device_of.ensures ∙ ap (λ t. (address_of t).device) c.as_slice-assign.ensures ∙ ap (λ (e : FileEntry). (address_of e.assign).device) (sym c.index-files-file.is)) (c.name_of.ensures ∙ ap (λ t. (address_of t).name) c.as_slice-assign.ensures ∙ ap (λ (e : FileEntry). (address_of e.assign).name) (sym c.index-files-file.is)) in
    failed_breaks c.fail.result _ _ _ _ _ _ c.in-Some.at address.device _ (addresses_of c.args.files.now) c.args.table.now.rows _ world c.fail.ensures.answer c.in-Failed.ensures.left (first_named c.args.files.now c.args.table.now.rows c.args.file c.device_of.result.now c.name_of.result.now there address here _ c.in-Some.at c.in-Some.ensures) c.in-Failed.ensures.called c.fail.ensures.bench c.fail.ensures.table stands

pub returns-then-status-ne0-clause-world : goal.returns-then-status-ne0-clause-world
returns-then-status-ne0-clause-world g c = λ world address here stands told.
    let within : c.args.file < length c.args.table.now.rows = omega (arith, c.requires.file, c.requires.rows) in
    refused_world c.noted.result (addresses_of c.args.files.now) _ address.device c.args.table.now.rows c.noted.new.table.rows world c.args.file c.may_read-status.result may_read (read_tried world c.args.file address (length c.args.into.now))
    c.noted.ensures.answer stands within c.may_read-status.ensures c.if-status-ne0.true c.noted.ensures.table

pub returns-then-status-ne0-clause-record : goal.returns-then-status-ne0-clause-record
returns-then-status-ne0-clause-record g c = λ world address here stands told none. absurd (no_record c.noted.result c.may_read-status.result c.noted.ensures.answer c.if-status-ne0.true none)

pub returns-in-None-clause-world : goal.returns-in-None-clause-world
returns-in-None-clause-world g c = λ world address here stands told.
    let there = site_of c.args.files.now c.args.table.now.rows c.args.file c.index-files-file.result c.device_of.result.now (address_of c.index-files-file.result.assign).name c.requires.file c.requires.rows c.index-files-file.is
    (c.device_of.ensures ∙ ap (λ t. (address_of t).device) c.as_slice-assign.ensures ∙ ap (λ (e : FileEntry). (address_of e.assign).device) (sym c.index-files-file.is)) refl in
    nowhere_world (addresses_of c.args.files.now) _ c.device_of.result.now c.args.table.now.rows world c.args.file c.may_read-status.result address may_read _
    (λ row e. can_read_open row.how row.ended e) stands there.within here (there.device_is address here) c.may_read-status.ensures c.if-status-ne0.false c.in-None.ensures

pub returns-in-None-clause-record : goal.returns-in-None-clause-record
returns-in-None-clause-record g c = λ world address here stands told none. absurd (no_record c.noted-in-None.result 30 c.noted-in-None.ensures.answer (λ e. omega (arith, e)) none)

pub returns-in-Bytes-clause-world : goal.returns-in-Bytes-clause-world
returns-in-Bytes-clause-world g c = λ world address here stands told.
    let there = site_of c.args.files.now c.args.table.now.rows c.args.file c.index-files-file.result c.device_of.result.now c.name_of.result.now c.requires.file c.requires.rows c.index-files-file.is
    (c.device_of.ensures ∙ ap (λ t. (address_of t).device) c.as_slice-assign.ensures ∙ ap (λ (e : FileEntry). (address_of e.assign).device) (sym c.index-files-file.is)) (c.name_of.ensures ∙ ap (λ t. (address_of t).name) c.as_slice-assign.ensures ∙ ap (λ (e : FileEntry). (address_of e.assign).name) (sym c.index-files-file.is)) in
    (read_bytes c.args.files.now _ _ c.args.table.now.rows c.given.new.table.rows world c.args.bench.now.left _ c.in-Some.at c.args.file c.device_of.result.now c.name_of.result.now address c.in-Bytes.size c.may_read-status.result c.args.into.now _ c.given.result there here c.in-Bytes.ensures.left c.given.ensures.answer stands told c.in-Some.ensures c.may_read-status.ensures c.if-status-ne0.false c.in-Bytes.ensures.called c.given.ensures.table).comes

pub returns-in-Bytes-clause-record : goal.returns-in-Bytes-clause-record
returns-in-Bytes-clause-record g c = λ world address here stands told none.
    let there = site_of c.args.files.now c.args.table.now.rows c.args.file c.index-files-file.result c.device_of.result.now c.name_of.result.now c.requires.file c.requires.rows c.index-files-file.is
    (c.device_of.ensures ∙ ap (λ t. (address_of t).device) c.as_slice-assign.ensures ∙ ap (λ (e : FileEntry). (address_of e.assign).device) (sym c.index-files-file.is)) (c.name_of.ensures ∙ ap (λ t. (address_of t).name) c.as_slice-assign.ensures ∙ ap (λ (e : FileEntry). (address_of e.assign).name) (sym c.index-files-file.is)) in
    record_read (addresses_of c.args.files.now) address _ c.given.new.table.rows world c.args.file (length c.args.into.now) c.in-Bytes.size c.given.result c.args.into.now _ c.given.new.into
    (read_bytes c.args.files.now _ _ c.args.table.now.rows c.given.new.table.rows world c.args.bench.now.left _ c.in-Some.at c.args.file c.device_of.result.now c.name_of.result.now address c.in-Bytes.size c.may_read-status.result c.args.into.now _ c.given.result there here c.in-Bytes.ensures.left c.given.ensures.answer stands told c.in-Some.ensures c.may_read-status.ensures c.if-status-ne0.false c.in-Bytes.ensures.called c.given.ensures.table) c.given.ensures.answer (omega arith) c.given.ensures.record none

pub returns-in-End-clause-world : goal.returns-in-End-clause-world
returns-in-End-clause-world g c = λ world address here stands told.
    let there = site_of c.args.files.now c.args.table.now.rows c.args.file c.index-files-file.result c.device_of.result.now c.name_of.result.now c.requires.file c.requires.rows c.index-files-file.is
    (c.device_of.ensures ∙ ap (λ t. (address_of t).device) c.as_slice-assign.ensures ∙ ap (λ (e : FileEntry). (address_of e.assign).device) (sym c.index-files-file.is)) (c.name_of.ensures ∙ ap (λ t. (address_of t).name) c.as_slice-assign.ensures ∙ ap (λ (e : FileEntry). (address_of e.assign).name) (sym c.index-files-file.is)) in
    (read_end c.args.files.now _ _ c.args.table.now.rows c.ended.new.table.rows world c.args.bench.now.left _ c.in-Some.at c.args.file c.device_of.result.now c.name_of.result.now address c.may_read-status.result c.args.into.now _ c.ended.result there here c.in-End.ensures.left c.ended.ensures.answer stands told c.in-Some.ensures c.may_read-status.ensures c.if-status-ne0.false c.in-End.ensures.called c.ended.ensures.table).comes

pub returns-in-End-clause-record : goal.returns-in-End-clause-record
returns-in-End-clause-record g c = λ world address here stands told none. absurd (no_record c.ended.result 10 c.ended.ensures.answer (λ e. omega (arith, e)) none)

pub returns-in-Failed-clause-world : goal.returns-in-Failed-clause-world
returns-in-Failed-clause-world g c = λ world address here stands told.
    let there = site_of c.args.files.now c.args.table.now.rows c.args.file c.index-files-file.result c.device_of.result.now c.name_of.result.now c.requires.file c.requires.rows c.index-files-file.is
    (c.device_of.ensures ∙ ap (λ t. (address_of t).device) c.as_slice-assign.ensures ∙ ap (λ (e : FileEntry). (address_of e.assign).device) (sym c.index-files-file.is)) (c.name_of.ensures ∙ ap (λ t. (address_of t).name) c.as_slice-assign.ensures ∙ ap (λ (e : FileEntry). (address_of e.assign).name) (sym c.index-files-file.is)) in
    failed_world c.fail.result _ _ _ _ _ _ c.in-Some.at address.device _ (addresses_of c.args.files.now) c.args.table.now.rows _ world (read_at world c.args.file address (length c.args.into.now)) c.fail.ensures.answer c.in-Failed.ensures.left (first_named c.args.files.now c.args.table.now.rows c.args.file c.device_of.result.now c.name_of.result.now there address here _ c.in-Some.at c.in-Some.ensures) c.in-Failed.ensures.called c.fail.ensures.bench c.fail.ensures.table stands

pub returns-in-Failed-clause-record : goal.returns-in-Failed-clause-record
returns-in-Failed-clause-record g c = λ world address here stands told none. absurd (let e : (Err faults.Device) ≡ Ok 0 = sym c.fail.ensures.answer ∙ none in cc)

pub returns-then-status-ne0-clause-notes : goal.returns-then-status-ne0-clause-notes
returns-then-status-ne0-clause-notes g c = λ address here.
    noted_notes c.noted.result c.may_read-status.result c.args.file address.device (addresses_of c.args.files.now) other_row c.args.table.now.rows c.noted.new.table.rows c.noted.ensures.answer (omega (arith, c.requires.file, c.requires.rows)) c.noted.ensures.table

pub returns-in-None-clause-notes : goal.returns-in-None-clause-notes
returns-in-None-clause-notes g c = λ address here.
    noted_notes c.noted-in-None.result 30 c.args.file address.device (addresses_of c.args.files.now) other_row c.args.table.now.rows c.noted-in-None.new.table.rows c.noted-in-None.ensures.answer (omega (arith, c.requires.file, c.requires.rows)) c.noted-in-None.ensures.table

pub returns-in-Bytes-clause-notes : goal.returns-in-Bytes-clause-notes
returns-in-Bytes-clause-notes g c = λ address here.
    noted_notes c.given.result (if c.in-Bytes.size == 0 then 10 else 0) c.args.file address.device (addresses_of c.args.files.now) (read_row (c.in-Bytes.size == 0)) c.args.table.now.rows c.given.new.table.rows c.given.ensures.answer (omega (arith, c.requires.file, c.requires.rows)) c.given.ensures.table

pub returns-in-End-clause-notes : goal.returns-in-End-clause-notes
returns-in-End-clause-notes g c = λ address here.
    noted_notes c.ended.result 10 c.args.file address.device (addresses_of c.args.files.now) (read_row true) c.args.table.now.rows c.ended.new.table.rows c.ended.ensures.answer (omega (arith, c.requires.file, c.requires.rows)) c.ended.ensures.table

pub returns-in-Failed-clause-notes : goal.returns-in-Failed-clause-notes
returns-in-Failed-clause-notes g c = λ address here.
    let there = site_of c.args.files.now c.args.table.now.rows c.args.file c.index-files-file.result c.device_of.result.now c.name_of.result.now c.requires.file c.requires.rows c.index-files-file.is
    (c.device_of.ensures ∙ ap (λ t. (address_of t).device) c.as_slice-assign.ensures ∙ ap (λ (e : FileEntry). (address_of e.assign).device) (sym c.index-files-file.is)) (c.name_of.ensures ∙ ap (λ t. (address_of t).name) c.as_slice-assign.ensures ∙ ap (λ (e : FileEntry). (address_of e.assign).name) (sym c.index-files-file.is)) in
    failed_notes c.fail.result c.args.file address.device (addresses_of c.args.files.now) _ _ c.args.bench.now.left c.in-Some.at _ c.args.table.now.rows c.fail.new.table.rows c.fail.ensures.answer
    (first_named c.args.files.now c.args.table.now.rows c.args.file c.device_of.result.now c.name_of.result.now there address here _ c.in-Some.at c.in-Some.ensures) c.in-Failed.ensures.called c.fail.ensures.table
