use Rattle.std.proofs.Common.{◌≡◌, ◌∙◌, ap, arith, length, take}
use Rattle.file_model.specs.operations.Calls.{addresses_of}
use Rattle.file_model.proofs.operations_lemmas.TakingLemmas.{all_closed, length_closed, rows_step}
use Rattle.file_model.proofs.operations.taking.close_rows.Goals as goal

pub loop-file-preserved : goal.loop-file-preserved
loop-file-preserved c =
    rows_step c.args.device.now c.args.files.now c.args.table.now.rows c.loop-file.table.rows c.close_row.new.table.rows c.loop-file.file c.index-files-file.result
    c.index-files-file.is c.loop-file-test.true c.requires.rows c.loop-file.invariant c.close_row.ensures

pub close_row-requires : goal.close_row-requires
close_row-requires c =
    let many : length c.loop-file.table.rows ≡ length c.args.table.now.rows =
    ap length c.loop-file.invariant ∙ length_closed c.args.device.now (take c.loop-file.file (addresses_of c.args.files.now)) c.args.table.now.rows in
    omega (arith, c.loop-file-test.true, c.requires.rows)

pub returns : goal.returns
returns c = c.loop-file.invariant ∙ all_closed c.args.device.now c.args.files.now c.args.table.now.rows c.loop-file.file c.loop-file-test.false
