-- Places and expressions of a program: what they name is there, and their numbers are numbers.
use Rattle.std.specs.Prelude.{ℕ, nat_lt, nat_le, Bool, true, false, ◌&&◌, List, [], ◌∷◌, length, map, Option, Some, None}
use Rattle.std.specs.List.{list_all}
use Rattle.cob_base.specs.Bytes.{digit_0, digit_9}
use Rattle.cob_tree.specs.declared.number.Number.{Number}
use Rattle.cob_tree.specs.declared.place.Expr.{Expr, fold-Expr}
use Rattle.cob_tree.specs.declared.place.Expr.TheOpen.{Expr-F, Operand-F, Place-F, Sub-F, Window-F}
use Rattle.cob_tree.specs.declared.place.Operand.{Operand, fold-Operand}
use Rattle.cob_tree.specs.declared.place.Place.{Place, fold-Place}
use Rattle.cob_tree.specs.declared.place.Sub.{Sub, fold-Sub}
use Rattle.cob_tree.specs.declared.place.Window.{Window, fold-Window}
use Rattle.control_flow_theory.specs.language.All.{all, if_there}

-- how many items, files and paragraphs a program has
pub record Counts : Type 0 where
  pub items : ℕ
  pub files : ℕ
  pub paragraphs : ℕ

-- a list that is required isn't empty
abbrev pub is_filled : {X : Type 0} → List X → Bool
is_filled [] = false
is_filled (x ∷ xs) = true

-- what passes the test, or is absent
abbrev pub if_any : {X : Type 0} → (X → Bool) → Option X → Bool
if_any test None = true
if_any test (Some x) = test x

-- the byte is a digit
abbrev pub is_digit : ℕ → Bool
is_digit byte = nat_le digit_0 byte && nat_le byte digit_9

-- 1 to 18 digits
abbrev pub are_digits : List ℕ → Bool
are_digits digits =
    is_filled digits && nat_le (length digits) 18 && list_all is_digit digits

-- the digits are digits, and no more of them are after the decimal point than there are
abbrev pub number_named : Number → Bool
number_named number = are_digits number.digits && nat_le number.scale (length number.digits)

module _ (counts : Counts) where
  -- an item has this number
  abbrev pub item_named : ℕ → Bool
  item_named item = nat_lt item counts.items

  -- a file has this number
  abbrev pub file_named : ℕ → Bool
  file_named file = nat_lt file counts.files

  -- a paragraph has this number
  abbrev pub paragraph_named : ℕ → Bool
  paragraph_named number = nat_lt number counts.paragraphs

  -- one level of a place or expression, in which each part is the answer to whether what it names
  -- is there
  abbrev pub Layer : (Type 0 → Type 0 → Type 0 → Type 0 → Type 0 → Type 0) → Type 0
  Layer F = F Bool Bool Bool Bool Bool

  -- one level of an expression
  abbrev pub expr_step : Layer Expr-F → Bool
  expr_step (Expr-F.Leaf operand) = operand
  expr_step (Expr-F.Minus operand) = operand
  expr_step (Expr-F.Both op left right) = left && right

  -- one level of an operand
  abbrev pub operand_step : Layer Operand-F → Bool
  operand_step (Operand-F.Place place) = place
  operand_step (Operand-F.Number number) = number_named number
  operand_step (Operand-F.Text text) = true
  operand_step (Operand-F.Figure figure) = true

  -- one level of a place
  abbrev pub place_step : Layer Place-F → Bool
  place_step place = item_named place.item && all place.subs && if_there place.window

  -- one level of a subscript
  abbrev pub sub_step : Layer Sub-F → Bool
  sub_step sub = number_named sub.plus && if_there sub.base

  -- one level of a window
  abbrev pub window_step : Layer Window-F → Bool
  window_step window = window.from && if_there window.«length»

  -- what a place names is there
  abbrev pub place_named : Place → Bool
  place_named =
      fold-Place Bool Bool Bool Bool Bool expr_step operand_step place_step sub_step window_step

  -- what an operand names is there
  abbrev pub operand_named : Operand → Bool
  operand_named =
      fold-Operand Bool Bool Bool Bool Bool expr_step operand_step place_step sub_step window_step

  -- what an expression names is there
  abbrev pub expr_named : Expr → Bool
  expr_named =
      fold-Expr Bool Bool Bool Bool Bool expr_step operand_step place_step sub_step window_step

  -- what a subscript names is there
  abbrev pub sub_named : Sub → Bool
  sub_named =
      fold-Sub Bool Bool Bool Bool Bool expr_step operand_step place_step sub_step window_step

  -- what a window names is there
  abbrev pub window_named : Window → Bool
  window_named =
      fold-Window Bool Bool Bool Bool Bool expr_step operand_step place_step sub_step window_step

  -- what these subscripts name is there
  abbrev pub subs_named : List Sub → Bool
  subs_named subs = all (map sub_named subs)

  -- what these places name is there
  abbrev pub places_named : List Place → Bool
  places_named places = all (map place_named places)

  -- what these operands name is there
  abbrev pub operands_named : List Operand → Bool
  operands_named operands = all (map operand_named operands)
