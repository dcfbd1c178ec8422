use Rattle.parser_combinators.proofs.Reader.{reader}
use Rattle.parser_combinators.proofs.ExampleLaws as laws
use Rattle.parser_combinators.proofs.laws.forms_are_read.Goals as goal

pub returns : goal.returns
returns c = record {
  sums = λ levels. reader (laws.sum levels).lawful;
  any_number = λ levels. reader (laws.any_sums levels).lawful;
  changed = λ levels. reader (laws.shown levels).lawful;
  orders = λ known levels before. reader (laws.orders known levels before).lawful;
  text = λ known. reader (laws.text known).lawful;
}
