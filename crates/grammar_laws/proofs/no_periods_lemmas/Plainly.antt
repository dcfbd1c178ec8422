-- The parts of statements take no period.
use Rattle.std.specs.Prelude.{List}
use Rattle.cob_tree.specs.declared.entry.Entry.{Entry}
use Rattle.symbol_tables.specs.data_names.Names.{Names}
use Rattle.symbol_tables.specs.declared.procedure_names.table.ProcedureTable.{ProcedureTable}
use Rattle.cobol_grammar.specs.Name as name_forms
use Rattle.cobol_grammar.specs.Whole.{parts_of}
use Rattle.grammar_laws.specs.no_periods.Plain.{Plain}
use Rattle.grammar_laws.proofs.no_periods_lemmas.Words as words
use Rattle.grammar_laws.proofs.no_periods_lemmas.Expressions as expressions
use Rattle.grammar_laws.proofs.no_periods_lemmas.Conditions as conditions
use Rattle.grammar_laws.proofs.no_periods_lemmas.Makers.{pure, note, ◌>>=◌, ◌>>◌}
use Rattle.grammar_laws.proofs.no_periods_lemmas.Parts.{PartsArePlain}

file : (names : Names) → Plain (name_forms.file names)
unfolding name_forms.file
file names = words.name >>= (λ word. note >> pure)

record_name : (names : Names) (entries : List Entry) → Plain (name_forms.record_name names entries)
unfolding name_forms.record_name
record_name names entries = words.name >>= (λ word. note >> pure)

pub parts : (names : Names) (entries : List Entry) (table : ProcedureTable) → PartsArePlain (parts_of names entries table)
parts names entries table = record {
  operand = expressions.data_operand names;
  reference = expressions.data_reference names;
  reference_behind = λ first position. expressions.data_reference_behind names first position;
  expr = expressions.whole_expr names;
  cond = conditions.whole_cond names;
  file = file names;
  record_name = record_name names entries;
}
