-- Which values may be moved to which receivers, by their kinds.
use Rattle.std.specs.Prelude.{not, Bool, true}
use Rattle.cobol_grammar.specs.declared.expr_forms.side.ExprContent.{ExprContent}
use Rattle.cobol_grammar.specs.declared.expr_forms.side.ExprContent.TheVariants as makes
use Rattle.cobol_grammar.specs.declared.expr_forms.side.ValueKind.{ValueKind}
use Rattle.cobol_grammar.specs.declared.expr_forms.side.ValueKind.TheVariants as kinds
use Rattle.round_trip.specs.spelling.expr_spelling.Printable.{is_number}

-- a literal with decimals fills no group
abbrev pub may_fill : ExprContent → (whole : Bool) → Bool
may_fill makes.Literal whole = whole
may_fill make whole = true

-- a number may be moved to such a kind: none with decimals goes to text
abbrev pub number_may_move : ExprContent → (whole : Bool) → (to : ValueKind) → Bool
number_may_move make whole kinds.Text = whole
number_may_move make whole kinds.Group = may_fill make whole
number_may_move make whole to = true

-- a value may be moved to such a kind: to a number goes no edited item, and no figurative constant
-- but ZERO, which is a number
abbrev pub may_move : ExprContent → (from to : ValueKind) → Bool
may_move make (kinds.Number whole) to = number_may_move make whole to
may_move make kinds.Edited to = not (is_number to)
may_move make kinds.Figure to = not (is_number to)
may_move make from to = true
