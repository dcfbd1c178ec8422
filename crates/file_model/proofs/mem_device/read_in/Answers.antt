use Rattle.std.proofs.Common.{refl, ap, ◌∙◌, Some}
use Rattle.std.proofs.lemmas.Option.{slice_get_read}
use Rattle.file_model.proofs.Firsts.{reads_first}
use Rattle.file_model.proofs.mem_device.read_in.Goals as goal

pub returns-in-Some-clause-told : goal.returns-in-Some-clause-told
returns-in-Some-clause-told c =
    reads_first c.args.name.now c.args.files.now c.in-Some.at _ _ c.read_on.result c.args.into.now _ c.in-Some.ensures
    (slice_get_read c.args.files.now _ c.in-Some.at c.index-files-at.result refl c.in-Some.ensures.within c.index-files-at.is ∙ ap Some c.index-files-at.is)
    c.read_on.ensures.given
