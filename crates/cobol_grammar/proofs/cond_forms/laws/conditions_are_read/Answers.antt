use Rattle.parser_combinators.proofs.Reader.{reader}
use Rattle.cobol_grammar.proofs.cond_forms_lemmas.ConditionLaws as laws
use Rattle.cobol_grammar.proofs.cond_forms.laws.conditions_are_read.Goals as goal

pub returns : goal.returns
returns c = record {
  cond = λ names. reader (laws.cond names).lawful;
  whole_cond = λ names. reader (laws.whole_cond names).lawful;
}
