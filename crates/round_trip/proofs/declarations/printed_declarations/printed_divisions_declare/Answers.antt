use Rattle.round_trip.proofs.declarations_lemmas.printed_declarations_lemmas.Declared.{printed_divisions_declare}
use Rattle.round_trip.proofs.declarations.printed_declarations.printed_divisions_declare.Goals as goal

pub returns : goal.returns
returns c = printed_divisions_declare
