-- Names stay, and those of added items stand for these.
use Rattle.round_trip.specs.declarations.added_entries.References.{NamesStay, AddedNamesStand}
use Rattle.round_trip.proofs.declarations_lemmas.added_entries_lemmas.Found.{look-stays, file-stays, name-stays}
use Rattle.round_trip.proofs.declarations_lemmas.added_entries_lemmas.Judged.{judged-alike}
use Rattle.round_trip.proofs.declarations_lemmas.added_entries_lemmas.Stand.{added-found, added-judged}

pub names_stay : NamesStay
names_stay = record { look = look-stays; file = file-stays; name = name-stays; judged = judged-alike }

pub added_names_stand : AddedNamesStand
added_names_stand = record { look = added-found; judged = added-judged }
