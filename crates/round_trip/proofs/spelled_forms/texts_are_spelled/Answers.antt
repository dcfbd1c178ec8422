use Rattle.round_trip.proofs.spelled_forms_lemmas.Tokens.{texts_are_spelled}
use Rattle.round_trip.proofs.spelled_forms.texts_are_spelled.Goals as goal

pub returns : goal.returns
returns c = texts_are_spelled
