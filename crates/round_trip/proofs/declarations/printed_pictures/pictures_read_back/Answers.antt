use Rattle.round_trip.proofs.declarations_lemmas.printed_pictures_lemmas.Pictures.{pictures_read_back}
use Rattle.round_trip.proofs.declarations_lemmas.printed_pictures_lemmas.Lengths.{picture-short}
use Rattle.round_trip.proofs.declarations.printed_pictures.pictures_read_back.Goals as goal

pub returns : goal.returns
returns c = record { back = pictures_read_back; short = picture-short }
