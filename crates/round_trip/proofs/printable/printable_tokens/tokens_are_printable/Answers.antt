use Rattle.round_trip.proofs.printable_lemmas.printable_tokens_lemmas.Tokens.{printable}
use Rattle.round_trip.proofs.printable.printable_tokens.tokens_are_printable.Goals as goal

pub returns : goal.returns
returns c = printable
