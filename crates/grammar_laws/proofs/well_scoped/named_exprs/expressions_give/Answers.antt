use Rattle.grammar_laws.proofs.well_scoped_lemmas.named_exprs_lemmas.Expressions as expressions
use Rattle.grammar_laws.proofs.well_scoped_lemmas.named_exprs_lemmas.Conditions as conditions
use Rattle.grammar_laws.proofs.well_scoped.named_exprs.expressions_give.Goals as goal

pub returns : goal.returns
returns c names counts declared = record {
  reference = expressions.data_reference counts names declared;
  reference_behind = λ first position. expressions.data_reference_behind counts names declared first position;
  operand = expressions.data_operand counts names declared;
  expr = expressions.whole_expr counts names declared;
  cond = conditions.whole_cond counts names declared;
}
