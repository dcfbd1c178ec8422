-- What statements are made of, as far as it can be printed.
use Rattle.std.proofs.Common.{◌≡◌, true, List, [], None, refl}
use Rattle.cob_tree.specs.declared.entry.Entry.{Entry}
use Rattle.cobol_grammar.specs.declared.expr_forms.side.ParsedExpr.{ParsedExpr}
use Rattle.cobol_grammar.specs.declared.expr_forms.side.ParsedExpr.TheVariants as whats
use Rattle.cobol_grammar.specs.expr_forms.Side as sides
use Rattle.symbol_tables.specs.data_names.Names.{Names}
use Rattle.symbol_tables.specs.declared.procedure_names.table.ProcedureTable.{ProcedureTable}
use Rattle.symbol_tables.specs.procedure_names.Procedures as procedures
use Rattle.cobol_grammar.specs.Name as words
use Rattle.cobol_grammar.specs.Use as uses
use Rattle.cobol_grammar.specs.Whole.{parts_of}
use Rattle.cobol_grammar.proofs.PartLaws as part_laws
use Rattle.grammar_laws.specs.form_results.Giving.{Gives}
use Rattle.grammar_laws.proofs.form_results_lemmas.Giving.{hence, valued}
use Rattle.round_trip.specs.printable.printable_tokens.Header.{IsHeaderName}
use Rattle.round_trip.specs.printable.printable_tokens.Printable.{IsPrintable}
use Rattle.round_trip.specs.printable.Part.{is_printable_place, is_printable_operand}
use Rattle.round_trip.proofs.printable_lemmas.Made.{place-made, made-Place-operand, made-Figure-operand}
use Rattle.round_trip.specs.printable.printable_exprs.Sides.{is_printable_what}
use Rattle.round_trip.proofs.printable_lemmas.printable_exprs_lemmas.Expressions as exprs
use Rattle.round_trip.proofs.printable_lemmas.printable_exprs_lemmas.Conditions.{whole_cond}
use Rattle.round_trip.specs.printable.printable_stmts.Printable.{PartsPrint}
use Rattle.round_trip.proofs.printable_lemmas.printable_stmts_lemmas.Paragraphs.{division}
use Rattle.round_trip.specs.printable.printable_division.Laws.{DivisionsPrint}

operand-fine : (what : ParsedExpr) → is_printable_what what ≡ true → is_printable_operand (uses.operand_of what) ≡ true
operand-fine (whats.Ref place) h = made-Place-operand place h
operand-fine (whats.Literal operand) h = h
operand-fine (whats.Enclosed place) h = made-Place-operand place h
operand-fine (whats.Sum expr) h = made-Figure-operand _

pub place-fine : (what : ParsedExpr) → is_printable_what what ≡ true → is_printable_place (uses.place_of what) ≡ true
place-fine (whats.Ref place) h = h
place-fine (whats.Literal operand) h = place-made 0 [] [] None refl refl refl
place-fine (whats.Enclosed place) h = h
place-fine (whats.Sum expr) h = place-made 0 [] [] None refl refl refl

header_name : Gives IsPrintable words.header_name (λ found. IsHeaderName found.0)
unfolding words.header_name
header_name = valued procedures.header_name (λ kind name k e. record { kind = kind; is = e; printable = k })

parts : (names : Names) (entries : List Entry) (table : ProcedureTable) → PartsPrint (parts_of names entries table)
parts names entries table = record {
  operand = hence (λ side h. operand-fine side.what h) (exprs.data_operand names);
  reference = hence (λ side h. (place-fine side.what h, operand-fine side.what h)) (exprs.data_reference names);
  reference_behind = λ first position. hence (λ side h. operand-fine side.what h) (exprs.data_reference_behind names first position);
  digits_side = λ digits position d. operand-fine (sides.digits_side digits position).what (exprs.digits_side-fine digits position d);
  expr = hence (λ side h. exprs.expr-fine side.what h) (exprs.whole_expr names);
  cond = whole_cond names;
  header_name = header_name;
}

pub divisions_print : DivisionsPrint
divisions_print names entries table = division (part_laws.parts names entries table) (parts names entries table)
