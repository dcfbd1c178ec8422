-- Tokens whose numbers are numbers, and literals.
use Rattle.std.specs.Prelude.{◌≡◌, Bool, true, false}
use Rattle.cob_tree.specs.declared.place.Expr.{Expr}
use Rattle.cob_tree.specs.declared.place.Expr.TheOpen.{Operand-F}
use Rattle.cob_tree.specs.declared.place.Operand.{Operand, out-Operand}
use Rattle.cob_tree.specs.declared.place.Place.{Place}
use Rattle.cob_tree.specs.declared.place.Sub.{Sub}
use Rattle.cob_tree.specs.declared.place.Window.{Window}
use Rattle.cobol_lex.specs.declared.token.TokenKind.{TokenKind}
use Rattle.cobol_lex.specs.declared.token.TokenKind.TheVariants as kinds
use Rattle.program_facts.specs.well_scoped.Part.{are_digits, number_named}

-- a token whose number, if it has one, is a number
abbrev pub IsNumbered : TokenKind → Type 0
IsNumbered (kinds.Digits digits) = are_digits digits ≡ true
IsNumbered (kinds.Decimal number) = number_named number ≡ true
IsNumbered _ = Unit {0}

-- one level of an operand is a literal or a figurative constant, whose number is a number
abbrev pub literal_step : Operand-F Expr Operand Place Sub Window → Bool
literal_step (Operand-F.Place place) = false
literal_step (Operand-F.Number number) = number_named number
literal_step (Operand-F.Text text) = true
literal_step (Operand-F.Figure figure) = true

-- the operand is a literal or a figurative constant, whose number is a number
abbrev pub is_literal : Operand → Bool
is_literal operand = literal_step (out-Operand operand)
