-- Operands and expressions as they are read, with what is known of them.
use Rattle.std.specs.Prelude.{ℕ, ◌==◌, Bool, true, false, List, Option, Some, None}
use Rattle.cob_tree.specs.declared.number.Number.{Number}
use Rattle.cob_tree.specs.declared.place.Expr.{Expr}
use Rattle.cob_tree.specs.declared.place.Expr.TheVariants as exprs
use Rattle.cob_tree.specs.declared.place.Figure.{Figure}
use Rattle.cob_tree.specs.declared.place.Figure.TheVariants as figures
use Rattle.cob_tree.specs.declared.place.Operand.{Operand}
use Rattle.cob_tree.specs.declared.place.Operand.TheVariants as operands
use Rattle.cob_tree.specs.declared.place.Place.{Place, roll-Place}
use Rattle.cob_tree.specs.declared.place.Sub.{Sub}
use Rattle.cob_tree.specs.declared.place.Window.{Window}
use Rattle.parser_combinators.specs.declared.note.Position.{Position}
use Rattle.symbol_tables.specs.declared.data_names.name.Referent.{Referent}
use Rattle.cobol_grammar.specs.declared.expr_forms.side.ExprContent.TheVariants as makes
use Rattle.cobol_grammar.specs.declared.expr_forms.side.ExprForm.{ExprForm}
use Rattle.cobol_grammar.specs.declared.expr_forms.side.ExprForm.TheVariants as shapes
use Rattle.cobol_grammar.specs.declared.expr_forms.side.Side.{Side}
use Rattle.cobol_grammar.specs.declared.expr_forms.side.ValueKind.{ValueKind}
use Rattle.cobol_grammar.specs.declared.expr_forms.side.ValueKind.TheVariants as kinds
use Rattle.cobol_grammar.specs.declared.expr_forms.side.ParsedExpr.{ParsedExpr}
use Rattle.cobol_grammar.specs.declared.expr_forms.side.ParsedExpr.TheVariants as whats
use Rattle.cobol_grammar.specs.expr_forms.Fault.{is_whole, kind_of, item_of}

-- the kind of a window of an item
abbrev pub windowed : ValueKind → ValueKind
windowed kinds.Condition = kinds.Condition
windowed kinds.Unknown = kinds.Unknown
windowed _ = kinds.Text

-- the kind of an item, or of its window
abbrev pub kind_within : Option Window → ValueKind → ValueKind
kind_within None kind = kind
kind_within (Some window) kind = windowed kind

-- ---- what is read

-- what was read, as an expression of the tree
abbrev pub expr_of : ParsedExpr → Expr
expr_of (whats.Ref place) = exprs.Leaf (operands.Place place)
expr_of (whats.Literal operand) = exprs.Leaf operand
expr_of (whats.Enclosed place) = exprs.Leaf (operands.Place place)
expr_of (whats.Sum expr) = expr

-- what was read: a reference, a literal, a reference in parentheses, or a sum
abbrev pub shape_of : ParsedExpr → ExprForm
shape_of (whats.Ref place) = shapes.Ref
shape_of (whats.Literal operand) = shapes.Literal
shape_of (whats.Enclosed place) = shapes.Enclosed
shape_of (whats.Sum expr) = shapes.Sum

-- the place of what was found, with its subscripts and window
abbrev pub place_of : Referent → List (List ℕ) → List Sub → Option Window → Place
place_of found of subs window =
    roll-Place (record { item = item_of found; of = of; subs = subs; window = window })

-- a reference as it was read
unfoldable pub ref_side : Referent → List (List ℕ) → List Sub → Option Window → Position → Side
ref_side found of subs window position = record {
  what = whats.Ref (place_of found of subs window);
  kind = kind_within window (kind_of found);
  make = makes.Item;
  position = position;
  leaf = position;
}

-- a literal as it was read
unfoldable pub literal_side : Operand → ValueKind → Position → Side
literal_side operand kind position = record {
  what = whats.Literal operand;
  kind = kind;
  make = makes.Literal;
  position = position;
  leaf = position;
}

-- the number that these digits write
abbrev pub number_of : Bool → List ℕ → Number
number_of negative digits = record { negative = negative; digits = digits; scale = 0 }

-- digits as they were read
abbrev pub digits_side : List ℕ → Position → Side
digits_side digits position =
    literal_side (operands.Number (number_of false digits)) (kinds.Number true) position

-- the kind of a figurative constant; ZERO is a number
abbrev pub figure_kind : Figure → ValueKind
figure_kind figures.Zero = kinds.Number true
figure_kind _ = kinds.Figure

-- the kind of a literal
abbrev pub literal_kind : Operand → ValueKind
literal_kind (operands.Number number) = kinds.Number (number.scale == 0)
literal_kind (operands.Text text) = kinds.Text
literal_kind (operands.Figure figure) = figure_kind figure
literal_kind (operands.Place place) = kinds.Unknown

-- ---- signs and parentheses

-- a side in parentheses, or after a sign that is dropped
unfoldable pub sum_side : Position → Side → Side
sum_side position side = record side { what = whats.Sum (expr_of side.what); position = position }

-- the side with its sign turned
unfoldable pub negated : Position → Side → Side
negated position side = record {
  what = whats.Sum (exprs.Minus (expr_of side.what));
  kind = kinds.Number (is_whole side.kind);
  make = makes.Joined;
  position = position;
  leaf = position;
}

-- the same in parentheses, in which a reference stays one
abbrev pub enclosed_what : ParsedExpr → ParsedExpr
enclosed_what (whats.Ref place) = whats.Enclosed place
enclosed_what (whats.Enclosed place) = whats.Enclosed place
enclosed_what (whats.Literal operand) = whats.Sum (exprs.Leaf operand)
enclosed_what (whats.Sum expr) = whats.Sum expr

-- a side in parentheses, in which a condition may be too
unfoldable pub enclosed : Position → Side → Side
enclosed position side = record side { what = enclosed_what side.what; position = position }
