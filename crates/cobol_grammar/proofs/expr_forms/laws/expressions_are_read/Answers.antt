use Rattle.parser_combinators.proofs.Reader.{reader}
use Rattle.cobol_grammar.proofs.expr_forms_lemmas.ExpressionLaws as laws
use Rattle.cobol_grammar.proofs.expr_forms.laws.expressions_are_read.Goals as goal

pub returns : goal.returns
returns c = record {
  reference = λ names levels count. reader (laws.reference names (laws.inner names levels) count).lawful;
  operand = λ names levels count. reader (laws.operand names (laws.inner names levels) count).lawful;
  expr = λ names levels count. reader (laws.expr names (laws.inner names levels) count).lawful;
  data_reference = λ names. reader (laws.data_reference names).lawful;
  data_reference_behind = λ names first position.
      reader (laws.data_reference_behind names first position).lawful;
  data_operand = λ names. reader (laws.data_operand names).lawful;
  whole_expr = λ names. reader (laws.whole_expr names).lawful;
}
