use Rattle.parser_combinators.proofs.Reader.{reader}
use Rattle.cobol_grammar.proofs.data_forms_lemmas.DivisionLaws as laws
use Rattle.cobol_grammar.proofs.data_forms.laws.divisions_are_read.Goals as goal

pub returns-clause-data_part : goal.returns-clause-data_part
returns-clause-data_part g c = reader laws.data_part.lawful

pub returns-clause-divisions : goal.returns-clause-divisions
returns-clause-divisions g c = λ S. reader (laws.divisions S).lawful
