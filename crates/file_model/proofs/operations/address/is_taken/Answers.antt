use Rattle.std.proofs.Common.{◌∙◌, sym}
use Rattle.file_model.specs.Attempts.{address_of}
use Rattle.file_model.proofs.operations_lemmas.TakenLemmas.{taken_all, taken_here, taken_step}
use Rattle.file_model.proofs.operations.address.is_taken.Goals as goal

pub loop-file-preserved : goal.loop-file-preserved
loop-file-preserved c =
    taken_step (address_of c.args.assign.now) c.args.files.now c.args.rows.now c.loop-file.file c.index-files-file.result c.row_at-row.result c.is_there.result
    c.index-files-file.is c.row_at-row.ensures c.loop-file-test.true c.requires c.is_there.ensures c.if-is_there.false c.loop-file.invariant

pub returns-then-is_there : goal.returns-then-is_there
returns-then-is_there c =
    sym (taken_here (address_of c.args.assign.now) c.args.files.now c.args.rows.now c.loop-file.file c.index-files-file.result c.row_at-row.result c.is_there.result
    c.index-files-file.is c.row_at-row.ensures c.loop-file-test.true c.requires c.is_there.ensures c.if-is_there.true)

pub returns : goal.returns
returns c = sym (sym (taken_all (address_of c.args.assign.now) c.args.files.now c.args.rows.now c.loop-file.file c.loop-file-test.false) ∙ c.loop-file.invariant)
