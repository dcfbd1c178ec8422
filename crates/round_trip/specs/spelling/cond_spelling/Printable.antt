-- Which conditions can be printed so that they are read back: their parts can, and no fault of a
-- use is noted of them.
use Rattle.std.specs.Prelude.{◌≡◌, Bool, true, false, not, ◌&&◌}
use Rattle.cob_tree.specs.declared.cond.Cond.{Cond, fold-Cond}
use Rattle.cob_tree.specs.declared.cond.Cond.TheOpen.{Cond-F}
use Rattle.cob_tree.specs.declared.program.Program.{Program}
use Rattle.symbol_tables.specs.data_names.Names.{Names}
use Rattle.cobol_grammar.specs.declared.expr_forms.side.ExprContent.{ExprContent}
use Rattle.cobol_grammar.specs.declared.expr_forms.side.ExprContent.TheVariants as makes
use Rattle.cobol_grammar.specs.declared.expr_forms.side.ValueKind.{ValueKind}
use Rattle.cobol_grammar.specs.declared.expr_forms.side.ValueKind.TheVariants as kinds
use Rattle.cobol_grammar.specs.expr_forms.Fault.{compared_as, is_condition}
use Rattle.round_trip.specs.spelling.expr_spelling.Printable.{Judged, is_number, is_counting, judged_expr, judged_place}

-- a number without decimals that isn't made of others
abbrev pub is_plain : ExprContent → ValueKind → Bool
is_plain makes.Joined kind = false
is_plain _ kind = is_counting kind

-- text beside a number without decimals, or no figurative constant beside a number
abbrev pub kinds_suit : (one other : ValueKind) → (left right : Judged) → Bool
kinds_suit kinds.Text (kinds.Number whole) left right = is_plain right.make right.kind
kinds_suit (kinds.Number whole) kinds.Text left right = is_plain left.make left.kind
kinds_suit (kinds.Number whole) kinds.Figure left right = false
kinds_suit kinds.Figure (kinds.Number whole) left right = false
kinds_suit _ _ left right = true

-- two sides may be compared, by what they are made of: no two literals may
abbrev pub makes_suit : (one other : ExprContent) → (left right : Judged) → Bool
makes_suit makes.Literal makes.Literal left right = false
makes_suit _ _ left right = kinds_suit (compared_as left.kind) (compared_as right.kind) left right

-- the two may be compared
abbrev pub are_comparable : (left right : Judged) → Bool
are_comparable left right = makes_suit left.make right.make left right

-- the side is a value, as the name of a level 88 isn't
abbrev pub is_value : Judged → Bool
is_value judged = judged.fit && not (is_condition judged.kind)

module _ (names : Names) (program : Program) where
  -- one level of a condition
  abbrev pub cond_step : Cond-F Bool → Bool
  cond_step (Cond-F.Relation left rel right) =
      (is_value (judged_expr names program left) && is_value (judged_expr names program right))
      && are_comparable (judged_expr names program left) (judged_expr names program right)
  cond_step (Cond-F.Class place class not) = is_value (judged_place names program place)
  cond_step (Cond-F.SignIs expr sign not) =
      (judged_expr names program expr).fit && is_number (judged_expr names program expr).kind
  cond_step (Cond-F.Named place) =
      (judged_place names program place).fit
      && is_condition (judged_place names program place).kind
  cond_step (Cond-F.Not inner) = inner
  cond_step (Cond-F.And left right) = left && right
  cond_step (Cond-F.Or left right) = left && right

  -- a condition can be printed so
  abbrev pub cond_fit : Cond → Bool
  cond_fit = fold-Cond Bool cond_step

  -- the condition can be printed so
  abbrev pub IsPrintableCond : Cond → Type 0
  IsPrintableCond cond = cond_fit cond ≡ true
