use Rattle.round_trip.proofs.spelling_lemmas.expr_spelling_lemmas.Levels as levels
use Rattle.round_trip.proofs.spelling.expr_spelling.expressions_are_spelled.Goals as goal

pub returns : goal.returns
returns c = record {
  reference = λ names program place taken fit room. levels.data_reference names program place fit room;
  operand = λ names program operand taken fit room. levels.data_operand names program operand fit room;
  expr = λ names program expr taken fit few. levels.whole_expr names program expr fit few;
}
