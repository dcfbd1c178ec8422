use Rattle.std.proofs.Common.{refl, sym, ◌∙◌, arith}
use Rattle.std.proofs.lemmas.Option.{slice_get_read}
use Rattle.file_model.proofs.Firsts.{first_file, no_file, others_more}
use Rattle.file_model.proofs.mem_device.find.Goals as goal

pub returns-then-is_named : goal.returns-then-is_named
returns-then-is_named c =
    first_file c.args.name.now c.args.files.now c.loop-at.at c.index-files-at.result
    (slice_get_read c.args.files.now _ c.loop-at.at c.index-files-at.result refl c.loop-at-test.true c.index-files-at.is)
    c.loop-at-test.true (sym c.is_named.ensures ∙ c.if-is_named.true) c.loop-at.invariant

pub loop-at-preserved : goal.loop-at-preserved
loop-at-preserved c =
    others_more c.args.name.now c.args.files.now c.loop-at.at c.index-files-at.result c.loop-at.invariant
    (slice_get_read c.args.files.now _ c.loop-at.at c.index-files-at.result refl c.loop-at-test.true c.index-files-at.is)
    (sym c.is_named.ensures ∙ c.if-is_named.false)

pub returns : goal.returns
returns c = no_file c.args.name.now c.args.files.now c.loop-at.at c.loop-at.invariant (omega arith)
