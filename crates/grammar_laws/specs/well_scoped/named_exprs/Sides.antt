-- Operands, expressions and conditions as they are read, where what they name is there.
use Rattle.std.specs.Prelude.{◌≤◌, Bool, true, false, length}
use Rattle.symbol_tables.specs.data_names.Names.{Names}
use Rattle.cobol_grammar.specs.declared.expr_forms.side.ParsedExpr.{ParsedExpr}
use Rattle.cobol_grammar.specs.declared.expr_forms.side.ParsedExpr.TheVariants as whats
use Rattle.program_facts.specs.well_scoped.Part.{Counts, place_named, operand_named, expr_named}

-- no more names of items than there are items, and of files than files
pub record AreDeclared (names : Names) (counts : Counts) : Type 0 where
  pub items : length names.items ≤ counts.items
  pub files : length names.files ≤ counts.files

-- what was read is a reference alone
abbrev pub is_reference : ParsedExpr → Bool
is_reference (whats.Ref place) = true
is_reference (whats.Literal operand) = false
is_reference (whats.Enclosed place) = false
is_reference (whats.Sum expr) = false

-- what was read names what is there
abbrev pub what_named : Counts → ParsedExpr → Bool
what_named counts (whats.Ref place) = place_named counts place
what_named counts (whats.Literal operand) = operand_named counts operand
what_named counts (whats.Enclosed place) = place_named counts place
what_named counts (whats.Sum expr) = expr_named counts expr
