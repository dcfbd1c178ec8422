use Rattle.cobol_grammar.proofs.SubjectLemmas.{alike}
use Rattle.cobol_grammar.proofs.laws.subjects_are_compared.Goals as goal

pub returns : goal.returns
returns c = λ left right not. alike left right not
