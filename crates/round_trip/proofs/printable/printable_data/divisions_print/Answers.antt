use Rattle.round_trip.proofs.printable_lemmas.printable_data_lemmas.Data as data_forms
use Rattle.round_trip.proofs.printable.printable_data.divisions_print.Goals as goal

pub returns : goal.returns
returns g c S = data_forms.divisions S
