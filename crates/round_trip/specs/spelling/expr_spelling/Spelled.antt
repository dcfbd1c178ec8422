-- What may follow places and expressions, how many terms they may have, and what is read of
-- them.
use Rattle.std.specs.Prelude.{ℕ, ◌≡◌, ◌+◌, ◌<◌, ◌≤◌, Bool, false, ◌||◌, List, Option, Some, None}
use Rattle.cob_base.specs.Limit.{max_parens, max_terms}
use Rattle.cob_base.specs.Bytes.{left_parenthesis}
use Rattle.cob_tree.specs.declared.place.Expr.{Expr}
use Rattle.cob_tree.specs.declared.place.Operand.{Operand}
use Rattle.cob_tree.specs.declared.place.Operand.TheVariants as operands
use Rattle.cob_tree.specs.declared.place.Place.{Place, roll-Place}
use Rattle.cob_tree.specs.declared.place.Sub.{Sub}
use Rattle.cob_tree.specs.declared.place.Window.{Window, roll-Window}
use Rattle.cob_tree.specs.declared.program.Program.{Program}
use Rattle.cobol_lex.specs.declared.token.TokenKind.{TokenKind}
use Rattle.parser_combinators.specs.Form.{begins_by}
use Rattle.parser_combinators.specs.Part.{is_mark}
use Rattle.program_facts.specs.term_counts.Expression.{expr_terms}
use Rattle.symbol_tables.specs.data_names.Names.{Names}
use Rattle.cobol_grammar.specs.declared.expr_forms.side.Side.{Side}
use Rattle.cobol_grammar.specs.declared.expr_forms.side.ParsedExpr.{ParsedExpr}
use Rattle.cobol_grammar.specs.declared.expr_forms.side.ParsedExpr.TheVariants as whats
use Rattle.cobol_grammar.specs.expr_forms.Side.{expr_of}
use Rattle.cobol_grammar.specs.expr_forms.Token.{is_of, begins_turn}
use Rattle.cobol_grammar.specs.expr_forms.Window.{second_count}
use Rattle.round_trip.specs.spelling.expr_spelling.Printable.{Judged, judged_expr, judged_operand}

-- ---- what follows

-- the next token doesn't begin such a thing, or there is none
abbrev pub Ends : (TokenKind → Bool) → Option TokenKind → Type 0
Ends begin behind = begins_by begin behind ≡ false

-- one more qualifier, or subscripts or a window
unfoldable pub continues_place : TokenKind → Bool
continues_place kind = is_of kind || is_mark left_parenthesis kind

-- the same, or an operator
unfoldable pub continues_expr : TokenKind → Bool
continues_expr kind = continues_place kind || begins_turn kind

-- ---- what is read

-- what is read of an operand
abbrev pub what_of : Operand → ParsedExpr
what_of (operands.Place place) = whats.Ref place
what_of operand = whats.Literal operand

-- what is known of a side where it is read is what the names tell
pub record IsKnownAs (judged : Judged) (side : Side) : Type 0 where
  -- its kind
  pub kind : side.kind ≡ judged.kind
  -- what it is made of
  pub make : side.make ≡ judged.make

module _ (names : Names) (program : Program) where
  -- the side is this operand, as the names tell
  pub record IsOperandSide (operand : Operand) (side : Side) : Type 0 where
    -- what was read is the operand
    pub what : side.what ≡ what_of operand
    -- what is known of it is what the names tell
    pub known : IsKnownAs (judged_operand names program operand) side

  -- the side is this expression, as the names tell
  pub record IsExprSide (expr : Expr) (side : Side) : Type 0 where
    -- what was read is the expression
    pub told : expr_of side.what ≡ expr
    -- what is known of it is what the names tell
    pub known : IsKnownAs (judged_expr names program expr) side

-- ---- how many terms

-- the terms of a window's length, if it is given
abbrev pub size_terms : Option Expr → ℕ
size_terms None = 0
size_terms (Some size) = expr_terms size

-- the levels of parentheses that may be open, and the one outside of them
abbrev pub paren_levels : ℕ
paren_levels = max_parens + 1

-- After so many terms, and within fewer levels of parentheses than these, a window has room.
-- Outside of any expression its second one is counted anew.
pub record HasRoom (alone : Bool) (levels count : ℕ) (from : Expr) (size : Option Expr) : Type 0
  where
    -- the start is within the levels of parentheses
    pub first : expr_terms from < levels
    -- so is the length
    pub second : size_terms size < levels
    -- the terms up to the start are within their limit
    pub some : count + expr_terms from ≤ max_terms
    -- so are those up to the length
    pub all : second_count alone (count + expr_terms from) + size_terms size ≤ max_terms

-- a window of a start and a length
abbrev pub made_window : Expr → Option Expr → Window
made_window from size = roll-Window (record { from = from; «length» = size })

-- a place of an item, with its subscripts and window
abbrev pub made_place : ℕ → List (List ℕ) → List Sub → Option Window → Place
made_place item of subs window =
    roll-Place (record { item = item; of = of; subs = subs; window = window })

-- the window, if there is one, has room
abbrev pub WindowHasRoom : (alone : Bool) → (levels count : ℕ) → Option Window → Type 0
WindowHasRoom alone levels count window =
    (from : Expr) (size : Option Expr) → window ≡ Some (made_window from size) →
    HasRoom alone levels count from size

-- a reference has room with its window
abbrev pub PlaceHasRoom : (alone : Bool) → (levels count : ℕ) → Place → Type 0
PlaceHasRoom alone levels count place =
    (item : ℕ) (of : List (List ℕ)) (subs : List Sub) (window : Option Window) →
    place ≡ made_place item of subs window → WindowHasRoom alone levels count window

-- an operand that is a place has room with its window
abbrev pub OperandHasRoom : (alone : Bool) → (levels count : ℕ) → Operand → Type 0
OperandHasRoom alone levels count operand =
    (place : Place) → operand ≡ operands.Place place → PlaceHasRoom alone levels count place
