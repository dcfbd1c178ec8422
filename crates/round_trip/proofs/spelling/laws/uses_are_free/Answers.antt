use Rattle.round_trip.proofs.spelling_lemmas.Uses as uses
use Rattle.round_trip.proofs.spelling.laws.uses_are_free.Goals as goal

pub returns : goal.returns
returns c = record { operand = uses.operand_free; expr = uses.expr_free }
