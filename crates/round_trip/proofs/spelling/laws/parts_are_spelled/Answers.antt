use Rattle.round_trip.proofs.spelling_lemmas.Operands as operands
use Rattle.round_trip.proofs.spelling_lemmas.Exprs as exprs
use Rattle.round_trip.proofs.spelling_lemmas.Conds as conds
use Rattle.round_trip.proofs.spelling_lemmas.Named as named
use Rattle.round_trip.proofs.spelling_lemmas.Headers as headers
use Rattle.round_trip.proofs.spelling_lemmas.Turns as turns
use Rattle.round_trip.proofs.spelling.laws.parts_are_spelled.Goals as goal

pub returns : goal.returns
returns c = record {
  operand = operands.operand_spelled;
  place = operands.place_spelled;
  expr = exprs.expr_spelled;
  cond = conds.cond_spelled;
  file = named.file_spelled;
  entry = named.record_spelled;
  label = named.label_spelled;
  range = named.range_spelled;
  header = headers.header_spelled;
  turns = turns.turns_counted;
}
