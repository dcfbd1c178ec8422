-- Names, places and expressions that can be printed.
use Rattle.std.specs.Prelude.{ℕ, Bool, true, ◌&&◌, List, map}
use Rattle.std.specs.Str.{bytes_eq}
use Rattle.cob_base.specs.Spelling.{folded}
use Rattle.cob_tree.specs.declared.place.Expr.{Expr, fold-Expr}
use Rattle.cob_tree.specs.declared.place.Expr.TheOpen.{Expr-F, Operand-F, Place-F, Sub-F, Window-F}
use Rattle.cob_tree.specs.declared.place.Operand.{Operand, fold-Operand}
use Rattle.cob_tree.specs.declared.place.Place.{Place, fold-Place}
use Rattle.cob_tree.specs.declared.place.Sub.{Sub, fold-Sub}
use Rattle.cob_tree.specs.declared.place.Window.{Window, fold-Window}
use Rattle.cobol_lex.specs.Word.{fits_word}
use Rattle.parser_combinators.specs.words.Word.{is_data_word}
use Rattle.control_flow_theory.specs.language.All.{all, if_there}
use Rattle.program_facts.specs.well_scoped.Part.{number_named}
use Rattle.round_trip.specs.printable.printable_tokens.Printable.{is_printable_text}

-- a name of data, of a file or of a program: a word in capitals with a letter, which isn't reserved
abbrev pub is_printable_name : List ℕ → Bool
is_printable_name name = fits_word name && bytes_eq (folded name) name && is_data_word name

-- ---- what each part asks of those below it

-- one level of a place or expression, in which each part is the answer to whether it can be printed
abbrev pub Layer : (Type 0 → Type 0 → Type 0 → Type 0 → Type 0 → Type 0) → Type 0
Layer F = F Bool Bool Bool Bool Bool

-- one level of an expression
abbrev pub expr_step : Layer Expr-F → Bool
expr_step (Expr-F.Leaf operand) = operand
expr_step (Expr-F.Minus inner) = inner
expr_step (Expr-F.Both op left right) = left && right

-- a number has 1 to 18 digits, a literal 1 to 160 bytes without control characters
abbrev pub operand_step : Layer Operand-F → Bool
operand_step (Operand-F.Place place) = place
operand_step (Operand-F.Number number) = number_named number
operand_step (Operand-F.Text text) = is_printable_text text
operand_step (Operand-F.Figure figure) = true

-- one level of a place can be printed: the names after OF are names, and so with its subscripts and
-- window
abbrev pub place_step : Layer Place-F → Bool
place_step place = all (map is_printable_name place.of) && all place.subs && if_there place.window

-- one level of a subscript
abbrev pub sub_step : Layer Sub-F → Bool
sub_step sub = number_named sub.plus && if_there sub.base

-- one level of a window
abbrev pub window_step : Layer Window-F → Bool
window_step window = window.from && if_there window.«length»

-- ---- whole places and expressions

-- a place
abbrev pub is_printable_place : Place → Bool
is_printable_place =
    fold-Place Bool Bool Bool Bool Bool expr_step operand_step place_step sub_step window_step

-- an operand
abbrev pub is_printable_operand : Operand → Bool
is_printable_operand =
    fold-Operand Bool Bool Bool Bool Bool expr_step operand_step place_step sub_step window_step

-- an expression
abbrev pub is_printable_expr : Expr → Bool
is_printable_expr =
    fold-Expr Bool Bool Bool Bool Bool expr_step operand_step place_step sub_step window_step

-- a subscript
abbrev pub is_printable_sub : Sub → Bool
is_printable_sub =
    fold-Sub Bool Bool Bool Bool Bool expr_step operand_step place_step sub_step window_step

-- a window
abbrev pub is_printable_window : Window → Bool
is_printable_window =
    fold-Window Bool Bool Bool Bool Bool expr_step operand_step place_step sub_step window_step

-- these places can be printed
abbrev pub are_printable_places : List Place → Bool
are_printable_places places = all (map is_printable_place places)

-- these operands can be printed
abbrev pub are_printable_operands : List Operand → Bool
are_printable_operands operands = all (map is_printable_operand operands)
