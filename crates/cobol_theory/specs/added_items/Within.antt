-- The items that a part names are among the first so many.
use Rattle.std.specs.Prelude.{ℕ, nat_lt, Bool, true, ◌&&◌, List, map, Option, Some, None}
use Rattle.cob_tree.specs.declared.place.Expr.{Expr, fold-Expr}
use Rattle.cob_tree.specs.declared.place.Expr.TheOpen.{Expr-F, Operand-F, Place-F, Sub-F, Window-F}
use Rattle.cob_tree.specs.declared.place.Operand.{Operand, fold-Operand}
use Rattle.cob_tree.specs.declared.place.Place.{Place, fold-Place}
use Rattle.cob_tree.specs.declared.place.Sub.{Sub, fold-Sub}
use Rattle.cob_tree.specs.declared.place.Window.{Window, fold-Window}
use Rattle.cob_tree.specs.declared.cond.Cond.{Cond, fold-Cond}
use Rattle.cob_tree.specs.declared.cond.Cond.TheOpen.{Cond-F}
use Rattle.cob_tree.specs.declared.entry.Entry.{Entry}
use Rattle.cob_tree.specs.declared.entry.Span.{Span}
use Rattle.cob_tree.specs.declared.file.FileEntry.{FileEntry}
use Rattle.cob_tree.specs.declared.calc.Calc.{Calc}
use Rattle.cob_tree.specs.declared.calc.Calc.TheVariants as calc
use Rattle.cob_tree.specs.declared.calc.Target.{Target}
use Rattle.cob_tree.specs.declared.choice.Subject.{Subject}
use Rattle.cob_tree.specs.declared.choice.Subject.TheVariants as subject
use Rattle.cob_tree.specs.declared.choice.Test.{Test}
use Rattle.cob_tree.specs.declared.choice.Test.TheVariants as test
use Rattle.control_flow_theory.specs.language.All.{all, if_there}

module _ (count : ℕ) where
  -- places and expressions

  -- one level of a place or expression, in which each part is the answer to whether its items are
  -- among them
  abbrev pub Layer : (Type 0 → Type 0 → Type 0 → Type 0 → Type 0 → Type 0) → Type 0
  Layer F = F Bool Bool Bool Bool Bool

  -- one level of an expression
  abbrev pub expr_step : Layer Expr-F → Bool
  expr_step (Expr-F.Leaf operand) = operand
  expr_step (Expr-F.Minus operand) = operand
  expr_step (Expr-F.Both op left right) = left && right

  -- one level of an operand
  abbrev pub operand_step : Layer Operand-F → Bool
  operand_step (Operand-F.Place place) = place
  operand_step _ = true

  -- one level of a place: its item, its subscripts and its window
  abbrev pub place_step : Layer Place-F → Bool
  place_step place = nat_lt place.item count && all place.subs && if_there place.window

  -- one level of a subscript
  abbrev pub sub_step : Layer Sub-F → Bool
  sub_step sub = if_there sub.base

  -- one level of a window
  abbrev pub window_step : Layer Window-F → Bool
  window_step window = window.from && if_there window.«length»

  -- the items that a place names are among them
  abbrev pub place_within : Place → Bool
  place_within =
      fold-Place Bool Bool Bool Bool Bool expr_step operand_step place_step sub_step window_step

  -- the items that an operand names are among them
  abbrev pub operand_within : Operand → Bool
  operand_within =
      fold-Operand Bool Bool Bool Bool Bool expr_step operand_step place_step sub_step window_step

  -- the items that an expression names are among them
  abbrev pub expr_within : Expr → Bool
  expr_within =
      fold-Expr Bool Bool Bool Bool Bool expr_step operand_step place_step sub_step window_step

  -- the items that a subscript names are among them
  abbrev pub sub_within : Sub → Bool
  sub_within =
      fold-Sub Bool Bool Bool Bool Bool expr_step operand_step place_step sub_step window_step

  -- the items that a window names are among them
  abbrev pub window_within : Window → Bool
  window_within =
      fold-Window Bool Bool Bool Bool Bool expr_step operand_step place_step sub_step window_step

  -- what is within so, or absent
  abbrev pub if_any : {X : Type 0} → (X → Bool) → Option X → Bool
  if_any within None = true
  if_any within (Some x) = within x

  -- the items that these operands name are among them
  abbrev pub operands_within : List Operand → Bool
  operands_within operands = all (map operand_within operands)

  -- the items that these places name are among them
  abbrev pub places_within : List Place → Bool
  places_within places = all (map place_within places)

  -- the values of level 88s

  -- the items that a range of values names are among them
  abbrev pub span_within : Span → Bool
  span_within span = operand_within span.from && if_any operand_within span.to

  -- the items that these ranges of values name are among them
  abbrev pub spans_within : List Span → Bool
  spans_within spans = all (map span_within spans)

  -- the items that the level 88s of these entries name are among them
  abbrev pub entries_within : List Entry → Bool
  entries_within entries = all (map (λ entry. spans_within entry.ranges) entries)

  -- the status items of these files are among them
  abbrev pub files_within : List FileEntry → Bool
  files_within files = all (map (λ file. if_any place_within file.status) files)

  -- conditions, arithmetic and choices

  -- one level of a condition
  abbrev pub cond_step : Cond-F Bool → Bool
  cond_step (Cond-F.Relation left rel right) = expr_within left && expr_within right
  cond_step (Cond-F.Class place kind not) = place_within place
  cond_step (Cond-F.SignIs expr kind not) = expr_within expr
  cond_step (Cond-F.Named place) = place_within place
  cond_step (Cond-F.Not inner) = inner
  cond_step (Cond-F.And left right) = left && right
  cond_step (Cond-F.Or left right) = left && right

  -- the items that a condition names are among them
  abbrev pub cond_within : Cond → Bool
  cond_within = fold-Cond Bool cond_step

  -- the items that the operands of arithmetic name are among them
  abbrev pub calc_within : Calc → Bool
  calc_within (calc.Add parts) = operands_within parts
  calc_within (calc.AddGiving parts) = operands_within parts
  calc_within (calc.Subtract parts) = operands_within parts
  calc_within (calc.SubtractGiving parts from) = operands_within parts && operand_within from
  calc_within (calc.Multiply by) = operand_within by
  calc_within (calc.MultiplyGiving by what) = operand_within by && operand_within what
  calc_within (calc.Divide by) = operand_within by
  calc_within (calc.DivideGiving by what) = operand_within by && operand_within what
  calc_within (calc.Compute expr) = expr_within expr

  -- the items that these targets name are among them
  abbrev pub targets_within : List Target → Bool
  targets_within targets = all (map (λ target. place_within target.place) targets)

  -- the items that the subject of an EVALUATE names are among them
  abbrev pub subject_within : Subject → Bool
  subject_within (subject.Value expr) = expr_within expr
  subject_within _ = true

  -- the items that a test of a WHEN names are among them
  abbrev pub test_within : Test → Bool
  test_within test.Any = true
  test_within (test.Holds cond) = cond_within cond
  test_within (test.Value not from to) = expr_within from && if_any expr_within to

  -- the items that the tests of these WHENs name are among them
  abbrev pub whens_within : List (List Test) → Bool
  whens_within whens = all (map (λ tests. all (map test_within tests)) whens)
