use Rattle.std.proofs.Common.{refl, ap, ◌∙◌}
use Rattle.std.proofs.lemmas.Option.{slice_get_read}
use Rattle.std.proofs.Common.{Some}
use Rattle.file_model.specs.Told.{appended}
use Rattle.file_model.proofs.Firsts.{put_first}
use Rattle.file_model.proofs.mem_device.append_in.Goals as goal

pub returns-in-Ok-clause-told : goal.returns-in-Ok-clause-told
returns-in-Ok-clause-told c =
    ap Some (put_first c.args.name.now c.args.files.now c.in-Some.at (appended c.args.bytes.now) _ _ c.in-Some.ensures
    (slice_get_read c.args.files.now _ c.in-Some.at c.index-files-at.result refl c.in-Some.ensures.within c.index-files-at.is ∙ ap Some c.index-files-at.is)
    c.in-Ok.ensures.ok)
