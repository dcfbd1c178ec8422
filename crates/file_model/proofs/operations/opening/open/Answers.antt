use Rattle.std.proofs.Common.{◌≡◌, ◌∙◌, ◌<◌, ◌||◌, List, ℕ, Option, ap, arith, false, length, not, refl, sym, true, Err}
use Rattle.cob_tree.specs.declared.file.FileEntry.{FileEntry}
use Rattle.file_model.specs.declared.device.Opened.TheVariants as opened
use Rattle.file_model.specs.declared.mem_file.MemFile.{MemFile}
use Rattle.file_model.specs.Attempts.{address_of, can_be_opened, opened_at}
use Rattle.file_model.specs.Status.{may_open, opened_row, other_row}
use Rattle.file_model.specs.Told.{Opens}
use Rattle.file_model.specs.declared.operations.fault.FileFault.TheVariants as faults
use Rattle.file_model.specs.operations.Calls.{addresses_of}
use Rattle.file_model.specs.operations.Standing.{is_open_there}
use Rattle.file_model.proofs.operations_lemmas.BenchLemmas.{found_before}
use Rattle.file_model.proofs.operations_lemmas.EndLemmas.{called_named, done_bench, done_world, entry_address, failed_bench, failed_breaks, failed_notes, failed_world, first_named, noted_notes, refused_bench, refused_world, set_notes, site_of, wanted_bench}
use Rattle.file_model.proofs.operations_lemmas.OpenLemmas.{both_false, down_at, missed_world, missing, no_device, nowhere_named, open_tried, open_wanted, opens, refused_with, status_breaks, told_first, turned_down}
use Rattle.file_model.proofs.operations.opening.open.Goals as goal

pub returns-then-status-ne0-clause-bench : goal.returns-then-status-ne0-clause-bench
returns-then-status-ne0-clause-bench g c = λ address here. refused_bench c.noted.result c.may_open-status.result c.args.bench.now.left address.device _ c.noted.ensures.answer

pub returns-then-status-ne0-clause-world : goal.returns-then-status-ne0-clause-world
returns-then-status-ne0-clause-world g c = λ world address here stands told.
    let within : c.args.file < length c.args.table.now.rows = omega (arith, c.requires.file, c.requires.rows) in
    refused_world c.noted.result (addresses_of c.args.files.now) _ address.device c.args.table.now.rows c.noted.new.table.rows world c.args.file c.may_open-status.result may_open (open_tried world (addresses_of c.args.files.now) c.args.file address c.args.how)
    c.noted.ensures.answer stands within c.may_open-status.ensures c.if-status-ne0.true c.noted.ensures.table

pub returns-then-status-ne0-clause-gone : goal.returns-then-status-ne0-clause-gone
returns-then-status-ne0-clause-gone g c = λ world address here stands. status_breaks c.noted.result c.may_open-status.result (addresses_of c.args.files.now) address.device _ c.noted.new.table.rows world c.noted.ensures.answer

pub returns-then-is_refused-clause-bench : goal.returns-then-is_refused-clause-bench
returns-then-is_refused-clause-bench g c = λ address here. refused_bench c.noted-then-is_refused.result 30 c.args.bench.now.left address.device _ c.noted-then-is_refused.ensures.answer

pub returns-then-is_refused-clause-world : goal.returns-then-is_refused-clause-world
returns-then-is_refused-clause-world g c = λ world address here stands told.
    let within : c.args.file < length c.args.table.now.rows = omega (arith, c.requires.file, c.requires.rows) in
    let down : (not (can_be_opened address.name) || is_open_there address (addresses_of c.args.files.now) c.args.table.now.rows) ≡ true =
    down_at c.as_slice-assign.result.now c.index-files-file.result.assign address (addresses_of c.args.files.now) c.as_slice.result.now c.args.table.now.rows c.is_refused.result true
    (c.as_slice-assign.ensures ∙ ap (λ (e : FileEntry). e.assign) (sym c.index-files-file.is)) (entry_address c.args.files.now c.args.file c.index-files-file.result c.requires.file c.index-files-file.is address here) c.as_slice.ensures c.is_refused.ensures c.if-is_refused.true in
    refused_with (addresses_of c.args.files.now) _ address.device c.args.table.now.rows c.noted-then-is_refused.new.table.rows world c.args.file c.may_open-status.result 30 c.noted-then-is_refused.result may_open (open_tried world (addresses_of c.args.files.now) c.args.file address c.args.how)
    c.noted-then-is_refused.ensures.answer stands within c.may_open-status.ensures c.if-status-ne0.false (turned_down world (addresses_of c.args.files.now) c.args.table.now.rows c.args.file address c.args.how stands.rows down) c.noted-then-is_refused.ensures.table

pub returns-then-is_refused-clause-gone : goal.returns-then-is_refused-clause-gone
returns-then-is_refused-clause-gone g c = λ world address here stands. status_breaks c.noted-then-is_refused.result 30 (addresses_of c.args.files.now) address.device _ c.noted-then-is_refused.new.table.rows world c.noted-then-is_refused.ensures.answer

pub returns-in-None-clause-bench : goal.returns-in-None-clause-bench
returns-in-None-clause-bench g c = λ address here. refused_bench c.noted-in-None.result 30 c.args.bench.now.left address.device _ c.noted-in-None.ensures.answer

pub returns-in-None-clause-world : goal.returns-in-None-clause-world
returns-in-None-clause-world g c = λ world address here stands told.
    let there = site_of c.args.files.now c.args.table.now.rows c.args.file c.index-files-file.result c.device_of.result.now (address_of c.index-files-file.result.assign).name c.requires.file c.requires.rows c.index-files-file.is
    (c.device_of.ensures ∙ ap (λ t. (address_of t).device) c.as_slice-assign.ensures ∙ ap (λ (e : FileEntry). (address_of e.assign).device) (sym c.index-files-file.is)) refl in
    let down : (not (can_be_opened address.name) || is_open_there address (addresses_of c.args.files.now) c.args.table.now.rows) ≡ false =
    down_at c.as_slice-assign.result.now c.index-files-file.result.assign address (addresses_of c.args.files.now) c.as_slice.result.now c.args.table.now.rows c.is_refused.result false
    (c.as_slice-assign.ensures ∙ ap (λ (e : FileEntry). e.assign) (sym c.index-files-file.is)) (entry_address c.args.files.now c.args.file c.index-files-file.result c.requires.file c.index-files-file.is address here) c.as_slice.ensures c.is_refused.ensures c.if-is_refused.false in
    refused_with (addresses_of c.args.files.now) _ address.device c.args.table.now.rows c.noted-in-None.new.table.rows world c.args.file c.may_open-status.result 30 c.noted-in-None.result may_open (open_tried world (addresses_of c.args.files.now) c.args.file address c.args.how)
    c.noted-in-None.ensures.answer stands there.within c.may_open-status.ensures c.if-status-ne0.false (no_device world (addresses_of c.args.files.now) _ c.args.table.now.rows c.args.file address c.args.how stands down (nowhere_named c.device_of.result.now address.device _ (there.device_is address here) c.in-None.ensures)) c.noted-in-None.ensures.table

pub returns-in-None-clause-gone : goal.returns-in-None-clause-gone
returns-in-None-clause-gone g c = λ world address here stands. status_breaks c.noted-in-None.result 30 (addresses_of c.args.files.now) address.device _ c.noted-in-None.new.table.rows world c.noted-in-None.ensures.answer

pub returns-in-Ready-clause-bench : goal.returns-in-Ready-clause-bench
returns-in-Ready-clause-bench g c = λ address here.
    let there = site_of c.args.files.now c.args.table.now.rows c.args.file c.index-files-file.result c.device_of.result.now c.name_of.result.now c.requires.file c.requires.rows c.index-files-file.is
    (c.device_of.ensures ∙ ap (λ t. (address_of t).device) c.as_slice-assign.ensures ∙ ap (λ (e : FileEntry). (address_of e.assign).device) (sym c.index-files-file.is)) (c.name_of.ensures ∙ ap (λ t. (address_of t).name) c.as_slice-assign.ensures ∙ ap (λ (e : FileEntry). (address_of e.assign).name) (sym c.index-files-file.is)) in
    done_bench _ _ _ 0 _ _ _ _ _ c.opened.ensures.answer c.in-Ready.ensures.left (first_named c.args.files.now c.args.table.now.rows c.args.file c.device_of.result.now c.name_of.result.now there address here _ c.in-Some.at c.in-Some.ensures) c.in-Ready.ensures.called

pub returns-in-Ready-clause-world : goal.returns-in-Ready-clause-world
returns-in-Ready-clause-world g c = λ world address here stands told.
    let there = site_of c.args.files.now c.args.table.now.rows c.args.file c.index-files-file.result c.device_of.result.now c.name_of.result.now c.requires.file c.requires.rows c.index-files-file.is
    (c.device_of.ensures ∙ ap (λ t. (address_of t).device) c.as_slice-assign.ensures ∙ ap (λ (e : FileEntry). (address_of e.assign).device) (sym c.index-files-file.is)) (c.name_of.ensures ∙ ap (λ t. (address_of t).name) c.as_slice-assign.ensures ∙ ap (λ (e : FileEntry). (address_of e.assign).name) (sym c.index-files-file.is)) in
    let down : (not (can_be_opened address.name) || is_open_there address (addresses_of c.args.files.now) c.args.table.now.rows) ≡ false =
    down_at c.as_slice-assign.result.now c.index-files-file.result.assign address (addresses_of c.args.files.now) c.as_slice.result.now c.args.table.now.rows c.is_refused.result false
    (c.as_slice-assign.ensures ∙ ap (λ (e : FileEntry). e.assign) (sym c.index-files-file.is)) (entry_address c.args.files.now c.args.file c.index-files-file.result c.requires.file c.index-files-file.is address here) c.as_slice.ensures c.is_refused.ensures c.if-is_refused.false in
    let at = (first_named c.args.files.now c.args.table.now.rows c.args.file c.device_of.result.now c.name_of.result.now there address here _ c.in-Some.at c.in-Some.ensures) in
    let called = (called_named c.args.files.now c.args.table.now.rows c.args.file c.device_of.result.now c.name_of.result.now there address here (λ (n : List ℕ) (before after : Option (List MemFile)). Opens before n c.args.how opened.Ready after) _ _ _ c.in-Some.at c.in-Ready.ensures.called) in
    done_world _ (addresses_of c.args.files.now) address.device _ c.args.bench.now.left _ c.opened.new.table.rows world (opened_at world (addresses_of c.args.files.now) c.args.file address c.args.how) c.opened.ensures.answer c.in-Ready.ensures.left
    (opens (addresses_of c.args.files.now) _ _ c.args.table.now.rows c.opened.new.table.rows world c.args.bench.now.left c.in-Some.at c.args.file address c.args.how c.may_open-status.result
    stands here there.within at c.may_open-status.ensures c.if-status-ne0.false (both_false (can_be_opened address.name) (is_open_there address (addresses_of c.args.files.now) c.args.table.now.rows) down).0 (both_false (can_be_opened address.name) (is_open_there address (addresses_of c.args.files.now) c.args.table.now.rows) down).1
    called (told_first _ address.device called.before (found_before address.device _ c.args.bench.now.left c.in-Some.at called.before at called.here) told) c.opened.ensures.table)

pub returns-in-Ready-clause-gone : goal.returns-in-Ready-clause-gone
returns-in-Ready-clause-gone g c = λ world address here stands. status_breaks c.opened.result 0 (addresses_of c.args.files.now) address.device _ c.opened.new.table.rows world c.opened.ensures.answer

pub returns-in-Missing-clause-bench : goal.returns-in-Missing-clause-bench
returns-in-Missing-clause-bench g c = λ address here.
    let there = site_of c.args.files.now c.args.table.now.rows c.args.file c.index-files-file.result c.device_of.result.now c.name_of.result.now c.requires.file c.requires.rows c.index-files-file.is
    (c.device_of.ensures ∙ ap (λ t. (address_of t).device) c.as_slice-assign.ensures ∙ ap (λ (e : FileEntry). (address_of e.assign).device) (sym c.index-files-file.is)) (c.name_of.ensures ∙ ap (λ t. (address_of t).name) c.as_slice-assign.ensures ∙ ap (λ (e : FileEntry). (address_of e.assign).name) (sym c.index-files-file.is)) in
    done_bench _ _ _ 35 _ _ _ _ _ c.noted-in-Missing.ensures.answer c.in-Missing.ensures.left (first_named c.args.files.now c.args.table.now.rows c.args.file c.device_of.result.now c.name_of.result.now there address here _ c.in-Some.at c.in-Some.ensures) c.in-Missing.ensures.called

pub returns-in-Missing-clause-world : goal.returns-in-Missing-clause-world
returns-in-Missing-clause-world g c = λ world address here stands told.
    let there = site_of c.args.files.now c.args.table.now.rows c.args.file c.index-files-file.result c.device_of.result.now c.name_of.result.now c.requires.file c.requires.rows c.index-files-file.is
    (c.device_of.ensures ∙ ap (λ t. (address_of t).device) c.as_slice-assign.ensures ∙ ap (λ (e : FileEntry). (address_of e.assign).device) (sym c.index-files-file.is)) (c.name_of.ensures ∙ ap (λ t. (address_of t).name) c.as_slice-assign.ensures ∙ ap (λ (e : FileEntry). (address_of e.assign).name) (sym c.index-files-file.is)) in
    let down : (not (can_be_opened address.name) || is_open_there address (addresses_of c.args.files.now) c.args.table.now.rows) ≡ false =
    down_at c.as_slice-assign.result.now c.index-files-file.result.assign address (addresses_of c.args.files.now) c.as_slice.result.now c.args.table.now.rows c.is_refused.result false
    (c.as_slice-assign.ensures ∙ ap (λ (e : FileEntry). e.assign) (sym c.index-files-file.is)) (entry_address c.args.files.now c.args.file c.index-files-file.result c.requires.file c.index-files-file.is address here) c.as_slice.ensures c.is_refused.ensures c.if-is_refused.false in
    let at = (first_named c.args.files.now c.args.table.now.rows c.args.file c.device_of.result.now c.name_of.result.now there address here _ c.in-Some.at c.in-Some.ensures) in
    let called = (called_named c.args.files.now c.args.table.now.rows c.args.file c.device_of.result.now c.name_of.result.now there address here (λ (n : List ℕ) (before after : Option (List MemFile)). Opens before n c.args.how opened.Missing after) _ _ _ c.in-Some.at c.in-Missing.ensures.called) in
    missed_world _ (addresses_of c.args.files.now) address.device _ c.args.bench.now.left _ c.noted-in-Missing.new.table.rows world (opened_at world (addresses_of c.args.files.now) c.args.file address c.args.how) c.in-Missing.ensures.left
    (missing (addresses_of c.args.files.now) _ _ c.args.table.now.rows c.noted-in-Missing.new.table.rows world c.args.bench.now.left c.in-Some.at c.args.file address c.args.how c.may_open-status.result _ c.noted-in-Missing.ensures.answer
    stands here there.within at c.may_open-status.ensures c.if-status-ne0.false down
    called (told_first _ address.device called.before (found_before address.device _ c.args.bench.now.left c.in-Some.at called.before at called.here) told) c.noted-in-Missing.ensures.table)

pub returns-in-Missing-clause-gone : goal.returns-in-Missing-clause-gone
returns-in-Missing-clause-gone g c = λ world address here stands. status_breaks c.noted-in-Missing.result 35 (addresses_of c.args.files.now) address.device _ c.noted-in-Missing.new.table.rows world c.noted-in-Missing.ensures.answer

pub returns-in-Failed-clause-bench : goal.returns-in-Failed-clause-bench
returns-in-Failed-clause-bench g c = λ address here.
    let there = site_of c.args.files.now c.args.table.now.rows c.args.file c.index-files-file.result c.device_of.result.now c.name_of.result.now c.requires.file c.requires.rows c.index-files-file.is
    (c.device_of.ensures ∙ ap (λ t. (address_of t).device) c.as_slice-assign.ensures ∙ ap (λ (e : FileEntry). (address_of e.assign).device) (sym c.index-files-file.is)) (c.name_of.ensures ∙ ap (λ t. (address_of t).name) c.as_slice-assign.ensures ∙ ap (λ (e : FileEntry). (address_of e.assign).name) (sym c.index-files-file.is)) in
    failed_bench c.fail.result _ _ _ _ _ _ _ address.device _ c.fail.ensures.answer c.in-Failed.ensures.left (first_named c.args.files.now c.args.table.now.rows c.args.file c.device_of.result.now c.name_of.result.now there address here _ c.in-Some.at c.in-Some.ensures) c.in-Failed.ensures.called c.fail.ensures.bench

pub returns-in-Failed-clause-world : goal.returns-in-Failed-clause-world
returns-in-Failed-clause-world g c = λ world address here stands told.
    let there = site_of c.args.files.now c.args.table.now.rows c.args.file c.index-files-file.result c.device_of.result.now c.name_of.result.now c.requires.file c.requires.rows c.index-files-file.is
    (c.device_of.ensures ∙ ap (λ t. (address_of t).device) c.as_slice-assign.ensures ∙ ap (λ (e : FileEntry). (address_of e.assign).device) (sym c.index-files-file.is)) (c.name_of.ensures ∙ ap (λ t. (address_of t).name) c.as_slice-assign.ensures ∙ ap (λ (e : FileEntry). (address_of e.assign).name) (sym c.index-files-file.is)) in
    failed_world c.fail.result _ _ _ _ _ _ c.in-Some.at address.device _ (addresses_of c.args.files.now) c.args.table.now.rows _ world (opened_at world (addresses_of c.args.files.now) c.args.file address c.args.how) c.fail.ensures.answer c.in-Failed.ensures.left (first_named c.args.files.now c.args.table.now.rows c.args.file c.device_of.result.now c.name_of.result.now there address here _ c.in-Some.at c.in-Some.ensures) c.in-Failed.ensures.called c.fail.ensures.bench c.fail.ensures.table stands

pub returns-in-Failed-clause-gone : goal.returns-in-Failed-clause-gone
returns-in-Failed-clause-gone g c = λ world address here stands.
    let there = site_of c.args.files.now c.args.table.now.rows c.args.file c.index-files-file.result c.device_of.result.now c.name_of.result.now c.requires.file c.requires.rows c.index-files-file.is
    (c.device_of.ensures ∙ ap (λ t. (address_of t).device) c.as_slice-assign.ensures ∙ ap (λ (e : FileEntry). (address_of e.assign).device) (sym c.index-files-file.is)) (c.name_of.ensures ∙ ap (λ t. (address_of t).name) c.as_slice-assign.ensures ∙ ap (λ (e : FileEntry). (address_of e.assign).name) (sym c.index-files-file.is)) in
    failed_breaks c.fail.result _ _ _ _ _ _ c.in-Some.at address.device _ (addresses_of c.args.files.now) c.args.table.now.rows _ world c.fail.ensures.answer c.in-Failed.ensures.left (first_named c.args.files.now c.args.table.now.rows c.args.file c.device_of.result.now c.name_of.result.now there address here _ c.in-Some.at c.in-Some.ensures) c.in-Failed.ensures.called c.fail.ensures.bench c.fail.ensures.table stands

pub returns-in-NoMemory-clause-bench : goal.returns-in-NoMemory-clause-bench
returns-in-NoMemory-clause-bench g c = λ address here.
    let there = site_of c.args.files.now c.args.table.now.rows c.args.file c.index-files-file.result c.device_of.result.now c.name_of.result.now c.requires.file c.requires.rows c.index-files-file.is
    (c.device_of.ensures ∙ ap (λ t. (address_of t).device) c.as_slice-assign.ensures ∙ ap (λ (e : FileEntry). (address_of e.assign).device) (sym c.index-files-file.is)) (c.name_of.ensures ∙ ap (λ t. (address_of t).name) c.as_slice-assign.ensures ∙ ap (λ (e : FileEntry). (address_of e.assign).name) (sym c.index-files-file.is)) in
    wanted_bench (Err faults.NoMemory) _ _ _ _ c.in-Some.at address.device _ refl c.in-NoMemory.ensures.left (first_named c.args.files.now c.args.table.now.rows c.args.file c.device_of.result.now c.name_of.result.now there address here _ c.in-Some.at c.in-Some.ensures) c.in-NoMemory.ensures.called

pub returns-in-NoMemory-clause-world : goal.returns-in-NoMemory-clause-world
returns-in-NoMemory-clause-world g c = λ world address here stands told.
    let there = site_of c.args.files.now c.args.table.now.rows c.args.file c.index-files-file.result c.device_of.result.now c.name_of.result.now c.requires.file c.requires.rows c.index-files-file.is
    (c.device_of.ensures ∙ ap (λ t. (address_of t).device) c.as_slice-assign.ensures ∙ ap (λ (e : FileEntry). (address_of e.assign).device) (sym c.index-files-file.is)) (c.name_of.ensures ∙ ap (λ t. (address_of t).name) c.as_slice-assign.ensures ∙ ap (λ (e : FileEntry). (address_of e.assign).name) (sym c.index-files-file.is)) in
    open_wanted (addresses_of c.args.files.now) _ _ c.args.table.now.rows world c.args.bench.now.left _ c.in-Some.at address.device c.name_of.result.now c.args.how c.in-NoMemory.ensures.left stands (first_named c.args.files.now c.args.table.now.rows c.args.file c.device_of.result.now c.name_of.result.now there address here _ c.in-Some.at c.in-Some.ensures) c.in-NoMemory.ensures.called

pub returns-in-NoMemory-clause-gone : goal.returns-in-NoMemory-clause-gone
returns-in-NoMemory-clause-gone g c = λ world address here stands.
    let there = site_of c.args.files.now c.args.table.now.rows c.args.file c.index-files-file.result c.device_of.result.now c.name_of.result.now c.requires.file c.requires.rows c.index-files-file.is
    (c.device_of.ensures ∙ ap (λ t. (address_of t).device) c.as_slice-assign.ensures ∙ ap (λ (e : FileEntry). (address_of e.assign).device) (sym c.index-files-file.is)) (c.name_of.ensures ∙ ap (λ t. (address_of t).name) c.as_slice-assign.ensures ∙ ap (λ (e : FileEntry). (address_of e.assign).name) (sym c.index-files-file.is)) in
    open_wanted (addresses_of c.args.files.now) _ _ c.args.table.now.rows world c.args.bench.now.left _ c.in-Some.at address.device c.name_of.result.now c.args.how c.in-NoMemory.ensures.left stands (first_named c.args.files.now c.args.table.now.rows c.args.file c.device_of.result.now c.name_of.result.now there address here _ c.in-Some.at c.in-Some.ensures) c.in-NoMemory.ensures.called

pub returns-then-status-ne0-clause-notes : goal.returns-then-status-ne0-clause-notes
returns-then-status-ne0-clause-notes g c = λ address here.
    noted_notes c.noted.result c.may_open-status.result c.args.file address.device (addresses_of c.args.files.now) other_row c.args.table.now.rows c.noted.new.table.rows c.noted.ensures.answer (omega (arith, c.requires.file, c.requires.rows)) c.noted.ensures.table

pub returns-then-is_refused-clause-notes : goal.returns-then-is_refused-clause-notes
returns-then-is_refused-clause-notes g c = λ address here.
    noted_notes c.noted-then-is_refused.result 30 c.args.file address.device (addresses_of c.args.files.now) other_row c.args.table.now.rows c.noted-then-is_refused.new.table.rows c.noted-then-is_refused.ensures.answer (omega (arith, c.requires.file, c.requires.rows)) c.noted-then-is_refused.ensures.table

pub returns-in-None-clause-notes : goal.returns-in-None-clause-notes
returns-in-None-clause-notes g c = λ address here.
    noted_notes c.noted-in-None.result 30 c.args.file address.device (addresses_of c.args.files.now) other_row c.args.table.now.rows c.noted-in-None.new.table.rows c.noted-in-None.ensures.answer (omega (arith, c.requires.file, c.requires.rows)) c.noted-in-None.ensures.table

pub returns-in-Ready-clause-notes : goal.returns-in-Ready-clause-notes
returns-in-Ready-clause-notes g c = λ address here.
    set_notes c.opened.result 0 c.args.file address.device (addresses_of c.args.files.now) (opened_row c.args.how) c.args.table.now.rows c.opened.new.table.rows c.opened.ensures.answer c.opened.ensures.table

pub returns-in-Missing-clause-notes : goal.returns-in-Missing-clause-notes
returns-in-Missing-clause-notes g c = λ address here.
    noted_notes c.noted-in-Missing.result 35 c.args.file address.device (addresses_of c.args.files.now) other_row c.args.table.now.rows c.noted-in-Missing.new.table.rows c.noted-in-Missing.ensures.answer (omega (arith, c.requires.file, c.requires.rows)) c.noted-in-Missing.ensures.table

pub returns-in-Failed-clause-notes : goal.returns-in-Failed-clause-notes
returns-in-Failed-clause-notes g c = λ address here.
    let there = site_of c.args.files.now c.args.table.now.rows c.args.file c.index-files-file.result c.device_of.result.now c.name_of.result.now c.requires.file c.requires.rows c.index-files-file.is
    (c.device_of.ensures ∙ ap (λ t. (address_of t).device) c.as_slice-assign.ensures ∙ ap (λ (e : FileEntry). (address_of e.assign).device) (sym c.index-files-file.is)) (c.name_of.ensures ∙ ap (λ t. (address_of t).name) c.as_slice-assign.ensures ∙ ap (λ (e : FileEntry). (address_of e.assign).name) (sym c.index-files-file.is)) in
    failed_notes c.fail.result c.args.file address.device (addresses_of c.args.files.now) _ _ c.args.bench.now.left c.in-Some.at _ c.args.table.now.rows c.fail.new.table.rows c.fail.ensures.answer
    (first_named c.args.files.now c.args.table.now.rows c.args.file c.device_of.result.now c.name_of.result.now there address here _ c.in-Some.at c.in-Some.ensures) c.in-Failed.ensures.called c.fail.ensures.table

pub returns-in-NoMemory-clause-notes : goal.returns-in-NoMemory-clause-notes
returns-in-NoMemory-clause-notes g c = λ address here. refl
