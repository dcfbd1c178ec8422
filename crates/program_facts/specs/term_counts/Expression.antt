-- How many terms an expression has: its leaves and unary signs, with those of the windows in it.
use Rattle.std.specs.Prelude.{ℕ, ◌+◌, max, List, map, Option, Some, None}
use Rattle.cob_tree.specs.Depth.{largest}
use Rattle.cob_tree.specs.declared.place.Expr.{Expr, fold-Expr}
use Rattle.cob_tree.specs.declared.place.Expr.TheOpen.{Expr-F, Operand-F, Place-F, Sub-F, Window-F}
use Rattle.cob_tree.specs.declared.place.Operand.{Operand, fold-Operand, out-Operand}
use Rattle.cob_tree.specs.declared.place.Place.{Place, fold-Place, out-Place}
use Rattle.cob_tree.specs.declared.place.Sub.{Sub}
use Rattle.cob_tree.specs.declared.place.Window.{Window, fold-Window, out-Window}

-- the count of what may be absent

-- the count, or 0 where it is absent
abbrev pub if_there : Option ℕ → ℕ
if_there None = 0
if_there (Some count) = count

-- the count of what is there, or 0
abbrev pub if_any : {X : Type 0} → (X → ℕ) → Option X → ℕ
if_any count None = 0
if_any count (Some x) = count x

-- Within an expression.

-- one level of a place or expression, in which each part is its count
abbrev pub Layer : (Type 0 → Type 0 → Type 0 → Type 0 → Type 0 → Type 0) → Type 0
Layer F = F ℕ ℕ ℕ ℕ ℕ

-- the terms of one level of an expression
abbrev pub expr_step : Layer Expr-F → ℕ
expr_step (Expr-F.Leaf operand) = 1 + operand
expr_step (Expr-F.Minus inner) = 1 + inner
expr_step (Expr-F.Both op left right) = left + right

-- the terms of one level of an operand
abbrev pub operand_step : Layer Operand-F → ℕ
operand_step (Operand-F.Place place) = place
operand_step _ = 0

-- the terms of one level of a place, which are those of its window
abbrev pub place_step : Layer Place-F → ℕ
place_step place = if_there place.window

-- the terms of a subscript, which has none
abbrev pub sub_step : Layer Sub-F → ℕ
sub_step sub = 0

-- the terms of one level of a window
abbrev pub window_step : Layer Window-F → ℕ
window_step window = window.from + if_there window.length

-- the terms of an expression
abbrev pub expr_terms : Expr → ℕ
expr_terms = fold-Expr ℕ ℕ ℕ ℕ ℕ expr_step operand_step place_step sub_step window_step

-- the terms of an operand within an expression, without itself
abbrev pub operand_terms : Operand → ℕ
operand_terms = fold-Operand ℕ ℕ ℕ ℕ ℕ expr_step operand_step place_step sub_step window_step

-- the terms of a place: those of its window
abbrev pub place_terms : Place → ℕ
place_terms = fold-Place ℕ ℕ ℕ ℕ ℕ expr_step operand_step place_step sub_step window_step

-- the terms of a window
abbrev pub window_terms : Window → ℕ
window_terms = fold-Window ℕ ℕ ℕ ℕ ℕ expr_step operand_step place_step sub_step window_step

-- Outside of expressions a window has one expression or two. How many terms has the larger?

-- the larger count of a window's one or two expressions
abbrev pub window_most : Window → ℕ
window_most window =
    max (expr_terms (out-Window window).from) (if_any expr_terms (out-Window window).length)

-- that of a place's window
abbrev pub place_most : Place → ℕ
place_most place = if_any window_most (out-Place place).window

-- that of an operand's place
abbrev pub most_by : Operand-F Expr Operand Place Sub Window → ℕ
most_by (Operand-F.Place place) = place_most place
most_by _ = 0

-- that of an operand
abbrev pub operand_most : Operand → ℕ
operand_most operand = most_by (out-Operand operand)

-- the largest among several

-- the largest of these places
abbrev pub places_most : List Place → ℕ
places_most places = largest (map place_most places)

-- the largest of these operands
abbrev pub operands_most : List Operand → ℕ
operands_most operands = largest (map operand_most operands)
