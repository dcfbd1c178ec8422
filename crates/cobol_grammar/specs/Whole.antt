-- All parts of statements together, and the whole division.
use Rattle.std.specs.Prelude.{ℕ, List, drop}
use Rattle.cob_tree.specs.declared.entry.Entry.{Entry}
use Rattle.cob_tree.specs.declared.program.Paragraph.{Paragraph}
use Rattle.cobol_lex.specs.declared.token.Token.{Token}
use Rattle.parser_combinators.specs.Form.{Form}
use Rattle.symbol_tables.specs.data_names.Names.{Names}
use Rattle.parser_combinators.specs.words.Word.{is_name, is_user_word}
use Rattle.cobol_grammar.specs.declared.expr_forms.side.Side.{Side}
use Rattle.cobol_grammar.specs.expr_forms.Token.{begins_operand}
use Rattle.cobol_grammar.specs.expr_forms.Fault as faults
use Rattle.cobol_grammar.specs.expr_forms.Side as sides
use Rattle.cobol_grammar.specs.expr_forms.Levels as operands
use Rattle.cobol_grammar.specs.cond_forms.Condition.{whole_cond}
use Rattle.symbol_tables.specs.declared.procedure_names.table.ProcedureTable.{ProcedureTable}
use Rattle.symbol_tables.specs.procedure_names.Procedures as procedures
use Rattle.cobol_grammar.specs.stmt_forms.Part.{Parts}
use Rattle.cobol_grammar.specs.stmt_forms.Paragraph as paragraphs
use Rattle.cobol_grammar.specs.declared.subject_kind.SubjectKind.{SubjectKind}
use Rattle.cobol_grammar.specs.Use as uses
use Rattle.cobol_grammar.specs.Name as words

-- what statements are made of, in a program with these names, entries and procedures
abbrev pub parts_of : Names → List Entry → ProcedureTable → Parts Side SubjectKind
parts_of names entries table = record {
  known_of = λ side. uses.known_of side;
  begins_operand = begins_operand;
  is_name = is_name;
  is_procedure_word = is_user_word;
  operand = operands.data_operand names;
  reference = operands.data_reference names;
  reference_behind = λ first position. operands.data_reference_behind names first position;
  digits_side = λ digits position. sides.digits_side digits position;
  expr = operands.whole_expr names;
  cond = whole_cond names;
  file = words.file names;
  record_name = words.record_name names entries;
  header_name = words.header_name;
  procedure_of = λ name. words.procedure_of table name;
  duplicate_fault =
      λ name position. procedures.duplicate_fault (procedures.header_of table name) position;
  operand_of = λ side. uses.operand_of side.what;
  place_of = λ side. uses.place_of side.what;
  expr_of = λ side. sides.expr_of side.what;
  entry_of = λ side. uses.entry_of side.what;
  value_fault = λ side. faults.value_fault side;
  number_fault = λ side. faults.number_fault side;
  whole_fault = λ side. faults.whole_fault side;
  condition_fault = λ side. faults.condition_fault side;
  result_fault = λ side. faults.result_fault side;
  move_fault = λ from to. uses.move_fault from to;
  into_fault = λ file to. uses.into_fault entries file to;
  subject_fault = λ known side. uses.subject_fault known side;
}

-- the procedure division of these tokens, after so many of them, with the procedures that they
-- declare themselves
abbrev pub division : Names → List Entry → List Token → ℕ → Form (List Paragraph)
division names entries tokens from =
    paragraphs.division (parts_of names entries (procedures.procedures_of (drop from tokens) from))
