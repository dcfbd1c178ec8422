use Rattle.std.proofs.Common.{refl, sym, ap}
use Rattle.std.proofs.lemmas.Option.{slice_get_read}
use Rattle.file_model.specs.Told.{shut}
use Rattle.file_model.proofs.Firsts.{put_first}
use Rattle.file_model.proofs.mem_device.close_in.Goals as goal

pub returns-in-Some : goal.returns-in-Some
returns-in-Some c =
    put_first c.args.name.now c.args.files.now c.in-Some.at shut c.index-files-at.result _ c.in-Some.ensures
    (slice_get_read c.args.files.now _ c.in-Some.at c.index-files-at.result refl c.in-Some.ensures.within c.index-files-at.is)
    (ap shut (sym c.index-files-at.is))
