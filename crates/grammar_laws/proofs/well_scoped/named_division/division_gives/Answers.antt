use Rattle.cobol_grammar.proofs.PartLaws as laws
use Rattle.grammar_laws.proofs.well_scoped_lemmas.named_stmts_lemmas.Paragraphs.{division}
use Rattle.grammar_laws.proofs.well_scoped_lemmas.named_division_lemmas.Parts.{parts}
use Rattle.symbol_tables.specs.procedure_names.Procedures.{procedures_of}
use Rattle.grammar_laws.proofs.well_scoped.named_division.division_gives.Goals as goal

pub returns : goal.returns
returns c names entries tokens from counts counted =
    division counts (laws.parts names entries (procedures_of tokens from)) (parts names entries tokens from counts counted)
