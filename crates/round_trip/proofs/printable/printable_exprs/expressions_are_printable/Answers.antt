use Rattle.round_trip.proofs.printable_lemmas.printable_exprs_lemmas.Expressions as expressions
use Rattle.round_trip.proofs.printable_lemmas.printable_exprs_lemmas.Conditions as conditions
use Rattle.round_trip.proofs.printable.printable_exprs.expressions_are_printable.Goals as goal

pub returns : goal.returns
returns c names = record {
  reference = expressions.data_reference names;
  reference_behind = λ first position. expressions.data_reference_behind names first position;
  operand = expressions.data_operand names;
  expr = expressions.whole_expr names;
  cond = conditions.whole_cond names;
}
