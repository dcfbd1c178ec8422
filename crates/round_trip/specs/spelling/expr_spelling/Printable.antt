-- What is known of places, operands and expressions by the names of their program, as it is known
-- of them where they are read, and whether they can be printed so that they are read back.
use Rattle.std.specs.Prelude.{ℕ, ◌≡◌, ◌==◌, not, Bool, true, false, ◌&&◌, List, [], ◌∷◌, length, Option, Some, None}
use Rattle.std.specs.Option.{is_some}
use Rattle.cob_tree.specs.declared.place.Expr.{Expr, fold-Expr}
use Rattle.cob_tree.specs.declared.place.Expr.TheOpen.{Expr-F, Operand-F, Place-F, Sub-F, Window-F}
use Rattle.cob_tree.specs.declared.place.Op.{Op}
use Rattle.cob_tree.specs.declared.place.Op.TheVariants as ops
use Rattle.cob_tree.specs.declared.place.Operand.{Operand, fold-Operand}
use Rattle.cob_tree.specs.declared.place.Place.{Place, fold-Place}
use Rattle.cob_tree.specs.declared.place.Sub.{Sub, fold-Sub}
use Rattle.cob_tree.specs.declared.place.Window.{Window, fold-Window}
use Rattle.cob_tree.specs.declared.program.Program.{Program}
use Rattle.unparser.specs.Place.{item_name}
use Rattle.parser_combinators.specs.words.Word.{is_data_word}
use Rattle.symbol_tables.specs.declared.data_names.name.Referent.{Referent}
use Rattle.symbol_tables.specs.declared.data_names.name.Referent.TheVariants as found
use Rattle.symbol_tables.specs.data_names.Names.{Names}
use Rattle.symbol_tables.specs.data_names.Look.{look}
use Rattle.cobol_grammar.specs.declared.expr_forms.side.ExprContent.{ExprContent}
use Rattle.cobol_grammar.specs.declared.expr_forms.side.ExprContent.TheVariants as makes
use Rattle.cobol_grammar.specs.declared.expr_forms.side.ValueKind.{ValueKind}
use Rattle.cobol_grammar.specs.declared.expr_forms.side.ValueKind.TheVariants as kinds
use Rattle.cobol_grammar.specs.expr_forms.Fault.{is_whole, item_kind, kind_of, is_condition}
use Rattle.cobol_grammar.specs.expr_forms.Side.{windowed, figure_kind}

-- what is known of a part
pub record Judged : Type 0 where
  -- it can be printed so that it is read back
  pub fit : Bool
  pub kind : ValueKind
  -- what it is made of
  pub make : ExprContent
  -- it is an item without subscripts and window
  pub bare : Bool

-- ---- kinds

-- a number
abbrev pub is_number : ValueKind → Bool
is_number (kinds.Number whole) = true
is_number _ = false

-- it takes a result: it is a number, or an edited item
abbrev pub takes_result : ValueKind → Bool
takes_result kinds.Edited = true
takes_result kind = is_number kind

-- the kind is a number without decimals
abbrev pub is_counting : ValueKind → Bool
is_counting (kinds.Number whole) = whole
is_counting _ = false

-- the operator gives a whole number of whole numbers
abbrev pub is_exact : Op → Bool
is_exact ops.Div = false
is_exact _ = true

-- what is known of a literal of this kind
abbrev pub literal : ValueKind → Judged
literal kind = record { fit = true; kind = kind; make = makes.Literal; bare = false }

-- what is known of an expression that is made of others
abbrev pub joined : (fit whole : Bool) → Judged
joined fit whole = record { fit = fit; kind = kinds.Number whole; make = makes.Joined; bare = false }

-- ---- names

-- each of these words may be a name
abbrev pub are_data_words : List (List ℕ) → Bool
are_data_words [] = true
are_data_words (word ∷ words) = is_data_word word && are_data_words words

-- the item of this number was found, and takes so many subscripts, and a window where it has one
abbrev pub suits : (item subs : ℕ) → (windowed : Bool) → Referent → Bool
suits item subs windowed (found.Item number kind dims) =
    number == item && (dims == subs && not (is_condition (item_kind kind) && windowed))
suits item subs windowed _ = false

-- each of these parts can be printed so
abbrev pub are_fit : List Judged → Bool
are_fit [] = true
are_fit (part ∷ parts) = part.fit && are_fit parts

-- the part, if there is one, can be printed so
abbrev pub if_fit : Option Judged → Bool
if_fit None = true
if_fit (Some part) = part.fit

-- the part, if there is one, can be printed so and is a number without decimals
abbrev pub if_counting : Option Judged → Bool
if_counting None = true
if_counting (Some part) = part.fit && is_counting part.kind

-- the kind of an item, or of its window
abbrev pub kind_seen : Option Judged → ValueKind → ValueKind
kind_seen None kind = kind
kind_seen (Some window) kind = windowed kind

-- there is no subscript and no window
abbrev pub is_bare : (subs : ℕ) → (windowed : Bool) → Bool
is_bare subs windowed = subs == 0 && not windowed

-- the base of a subscript suits it: it is a number alone, or an item's value without decimals
abbrev pub suits_base : Option Judged → (negative : Bool) → Bool
suits_base None negative = not negative
suits_base (Some base) negative = base.fit && (base.bare && is_counting base.kind)

-- ---- each part, by those in it

-- one level of a place or expression, in which each part is what is known of it
abbrev pub Layer : (Type 0 → Type 0 → Type 0 → Type 0 → Type 0 → Type 0) → Type 0
Layer F = F Judged Judged Judged Judged Judged

-- what is known of one level of an expression; under an operator or a sign there are numbers
abbrev pub expr_step : Layer Expr-F → Judged
expr_step (Expr-F.Leaf operand) = operand
expr_step (Expr-F.Minus inner) = joined (inner.fit && is_number inner.kind) (is_whole inner.kind)
expr_step (Expr-F.Both op left right) =
    joined ((left.fit && is_number left.kind) && (right.fit && is_number right.kind))
    (is_exact op && (is_whole left.kind && is_whole right.kind))

-- what is known of one level of an operand
abbrev pub operand_step : Layer Operand-F → Judged
operand_step (Operand-F.Place place) = place
operand_step (Operand-F.Number number) = literal (kinds.Number (number.scale == 0))
operand_step (Operand-F.Text text) = literal kinds.Text
operand_step (Operand-F.Figure figure) = literal (figure_kind figure)

-- what is known of one level of a subscript
abbrev pub sub_step : Layer Sub-F → Judged
sub_step sub = record {
  fit = sub.plus.scale == 0 && suits_base sub.base sub.plus.negative;
  kind = kinds.Unknown;
  make = makes.Item;
  bare = false;
}

-- a window is of numbers without decimals
abbrev pub window_step : Layer Window-F → Judged
window_step window = record {
  fit = (window.from.fit && is_counting window.from.kind) && if_counting window.«length»;
  kind = kinds.Unknown;
  make = makes.Item;
  bare = false;
}

module _ (names : Names) (program : Program) where
  -- what the name of an item stands for, as it is printed
  abbrev pub reference : (item : ℕ) → (of : List (List ℕ)) → Referent
  reference item of = look names (item_name program item) of

  -- what is known of one level of a place: the name with what qualifies it stands for the item, and
  -- suits what follows it
  abbrev pub place_step : Layer Place-F → Judged
  place_step place = record {
    fit = (is_data_word (item_name program place.item) && are_data_words place.of)
        && (suits place.item (length place.subs) (is_some place.window)
        (reference place.item place.of)
        && (are_fit place.subs && if_fit place.window));
    kind = kind_seen place.window (kind_of (reference place.item place.of));
    make = makes.Item;
    bare = is_bare (length place.subs) (is_some place.window);
  }

  -- what is known of an expression
  abbrev pub judged_expr : Expr → Judged
  judged_expr =
      fold-Expr Judged Judged Judged Judged Judged expr_step operand_step place_step sub_step
      window_step

  -- what is known of an operand
  abbrev pub judged_operand : Operand → Judged
  judged_operand =
      fold-Operand Judged Judged Judged Judged Judged expr_step operand_step place_step sub_step
      window_step

  -- what is known of a place
  abbrev pub judged_place : Place → Judged
  judged_place =
      fold-Place Judged Judged Judged Judged Judged expr_step operand_step place_step sub_step
      window_step

  -- what is known of a subscript
  abbrev pub judged_sub : Sub → Judged
  judged_sub =
      fold-Sub Judged Judged Judged Judged Judged expr_step operand_step place_step sub_step
      window_step

  -- what is known of a window
  abbrev pub judged_window : Window → Judged
  judged_window =
      fold-Window Judged Judged Judged Judged Judged expr_step operand_step place_step sub_step
      window_step

  -- ---- which can be printed

  -- the expression can be printed so
  abbrev pub IsPrintableExpr : Expr → Type 0
  IsPrintableExpr expr = (judged_expr expr).fit ≡ true

  -- the operand can be printed so
  abbrev pub IsPrintableOperand : Operand → Type 0
  IsPrintableOperand operand = (judged_operand operand).fit ≡ true

  -- the place can be printed so
  abbrev pub IsPrintablePlace : Place → Type 0
  IsPrintablePlace place = (judged_place place).fit ≡ true
