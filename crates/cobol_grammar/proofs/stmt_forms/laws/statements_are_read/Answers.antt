use Rattle.parser_combinators.proofs.Reader.{reader}
use Rattle.cobol_grammar.proofs.stmt_forms_lemmas.HoldingLaws as holding
use Rattle.cobol_grammar.proofs.stmt_forms_lemmas.ParagraphLaws as paragraphs
use Rattle.cobol_grammar.proofs.stmt_forms.laws.statements_are_read.Goals as goal

pub returns : goal.returns
returns g c = record {
  stmts = λ P levels scope. reader (holding.stmts P levels scope).lawful;
  division = λ P. reader (paragraphs.division P).lawful;
}
