-- Operands and expressions as they are read, where they can be printed.
use Rattle.std.specs.Prelude.{Bool}
use Rattle.cobol_grammar.specs.declared.expr_forms.side.ParsedExpr.{ParsedExpr}
use Rattle.cobol_grammar.specs.declared.expr_forms.side.ParsedExpr.TheVariants as whats
use Rattle.round_trip.specs.printable.Part.{is_printable_place, is_printable_operand, is_printable_expr}

-- what was read can be printed
abbrev pub is_printable_what : ParsedExpr → Bool
is_printable_what (whats.Ref place) = is_printable_place place
is_printable_what (whats.Literal operand) = is_printable_operand operand
is_printable_what (whats.Enclosed place) = is_printable_place place
is_printable_what (whats.Sum expr) = is_printable_expr expr
