-- The parts of statements are lawful.
use Rattle.std.proofs.Common.{true, List}
use Rattle.cob_tree.specs.declared.entry.Entry.{Entry}
use Rattle.parser_combinators.proofs.MakerLaws.{Law, pure, note, valued, ◌>>=◌, ◌>>◌}
use Rattle.symbol_tables.specs.data_names.Names.{Names}
use Rattle.parser_combinators.proofs.words_lemmas.WordLaws.{name}
use Rattle.cobol_grammar.proofs.expr_forms_lemmas.ExpressionLaws as operands
use Rattle.cobol_grammar.proofs.cond_forms_lemmas.ConditionLaws.{whole_cond}
use Rattle.symbol_tables.specs.declared.procedure_names.table.ProcedureTable.{ProcedureTable}
use Rattle.symbol_tables.specs.procedure_names.Procedures as procedures
use Rattle.cobol_grammar.specs.stmt_forms.Laws.{PartsAreLawful}
use Rattle.cobol_grammar.specs.Name as words
use Rattle.cobol_grammar.specs.Whole.{parts_of}

pub file : (names : Names) → Law true (words.file names)
unfolding words.file
file names = name >>= (λ word. note >> pure)

pub record_name : (names : Names) (entries : List Entry) → Law true (words.record_name names entries)
unfolding words.record_name
record_name names entries = name >>= (λ word. note >> pure)

pub header_name : Law true words.header_name
unfolding words.header_name
header_name = valued procedures.header_name

pub parts : (names : Names) (entries : List Entry) (table : ProcedureTable) →
    PartsAreLawful (parts_of names entries table)
parts names entries table = record {
  operand = operands.data_operand names;
  reference = operands.data_reference names;
  reference_behind = λ first position. operands.data_reference_behind names first position;
  expr = operands.whole_expr names;
  cond = whole_cond names;
  file = file names;
  record_name = record_name names entries;
  header_name = header_name;
}
