use Rattle.std.specs.Prelude.{drop}
use Rattle.parser_combinators.proofs.Reader.{reader}
use Rattle.symbol_tables.specs.procedure_names.Procedures.{procedures_of}
use Rattle.cobol_grammar.proofs.stmt_forms_lemmas.HoldingLaws as holding
use Rattle.cobol_grammar.proofs.stmt_forms_lemmas.ParagraphLaws as paragraphs
use Rattle.cobol_grammar.proofs.PartLaws.{parts}
use Rattle.cobol_grammar.proofs.laws.grammar_is_read.Goals as goal

pub returns : goal.returns
returns c = record {
  stmts = λ names entries table levels scope. reader (holding.stmts (parts names entries table) levels scope).lawful;
  division = λ names entries tokens from. reader (paragraphs.division (parts names entries (procedures_of (drop from tokens) from))).lawful;
}
