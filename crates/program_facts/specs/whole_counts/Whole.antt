-- Counts by whole numbers: the operand of TIMES is a whole number, ZERO, or a number item without
-- decimal places, and so is the item of GO TO DEPENDING; neither has a window.
use Rattle.std.specs.Prelude.{nat_le, Bool, true, false, ◌&&◌, not, ◌==◌, List, map, Option, Some, None, is_some, slice_get}
use Rattle.cob_tree.specs.declared.control.Control.{Control}
use Rattle.cob_tree.specs.declared.control.Control.TheVariants as control
use Rattle.cob_tree.specs.declared.entry.Entry.{Entry}
use Rattle.cob_tree.specs.declared.picture.Picture.{Picture}
use Rattle.cob_tree.specs.declared.picture.Picture.TheVariants as pictures
use Rattle.cob_tree.specs.declared.place.Expr.{Expr}
use Rattle.cob_tree.specs.declared.place.Expr.TheOpen.{Operand-F}
use Rattle.cob_tree.specs.declared.place.Figure.TheVariants as figures
use Rattle.cob_tree.specs.declared.place.Operand.{Operand, out-Operand}
use Rattle.cob_tree.specs.declared.place.Place.{Place, out-Place}
use Rattle.cob_tree.specs.declared.place.Sub.{Sub}
use Rattle.cob_tree.specs.declared.place.Window.{Window}
use Rattle.cob_tree.specs.declared.program.Program.{Program}
use Rattle.cob_tree.specs.declared.stmt.Stmt.{Stmt, fold-Stmt}
use Rattle.cob_tree.specs.declared.stmt.Stmt.TheOpen.{Stmt-F, Arms-F, When-F}
use Rattle.control_flow_theory.specs.language.All.{all, all_if}

-- digits alone, without decimal places
abbrev pub is_whole_picture : Option Picture → Bool
is_whole_picture None = false
is_whole_picture (Some (pictures.Number signed whole part)) = part == 0 && nat_le whole 18
is_whole_picture (Some (pictures.Edited mask)) = false
is_whole_picture (Some (pictures.Letters count)) = false
is_whole_picture (Some (pictures.Any count)) = false

-- an item without decimal places
abbrev pub is_whole_entry : Option Entry → Bool
is_whole_entry None = false
is_whole_entry (Some entry) = is_whole_picture entry.picture

module _ (entries : List Entry) where
  -- the place is such an item, without a window
  abbrev pub place_is_whole : Place → Bool
  place_is_whole place =
      not (is_some (out-Place place).window) && is_whole_entry (slice_get entries (out-Place place).item)

  -- the operand is such a place, a whole number, or ZERO
  abbrev pub amount_is_whole_by : Operand-F Expr Operand Place Sub Window → Bool
  amount_is_whole_by (Operand-F.Place place) = place_is_whole place
  amount_is_whole_by (Operand-F.Number number) = number.scale == 0
  amount_is_whole_by (Operand-F.Text bytes) = false
  amount_is_whole_by (Operand-F.Figure figures.Zero) = true
  amount_is_whole_by (Operand-F.Figure _) = false

  -- the operand of TIMES is a whole number
  abbrev pub amount_is_whole : Operand → Bool
  amount_is_whole operand = amount_is_whole_by (out-Operand operand)

  -- a loop by TIMES counts by a whole number
  abbrev pub control_counts_whole : Control → Bool
  control_counts_whole (control.Times amount) = amount_is_whole amount
  control_counts_whole _ = true

  -- one level of a statement
  abbrev pub whole_step : Stmt-F Bool Bool Bool → Bool
  whole_step (Stmt-F.Arith calc into arms) = arms
  whole_step (Stmt-F.Read file into arms) = arms
  whole_step (Stmt-F.If cond met unmet) = all met && all unmet
  whole_step (Stmt-F.Evaluate subject whens other) = all whens && all_if other
  whole_step (Stmt-F.Loop control body) = control_counts_whole control && all body
  whole_step (Stmt-F.Perform entry exit control) = control_counts_whole control
  whole_step (Stmt-F.GoDepending to on) = place_is_whole on
  whole_step _ = true

  -- one level of a statement's arms
  abbrev pub whole_arms : Arms-F Bool Bool Bool → Bool
  whole_arms arms = all_if arms.first && all_if arms.second

  -- one level of a WHEN
  abbrev pub whole_when : When-F Bool Bool Bool → Bool
  whole_when when = all when.stmts

  -- each count in a statement is by a whole number
  abbrev pub stmt_counts_whole : Stmt → Bool
  stmt_counts_whole = fold-Stmt Bool Bool Bool whole_step whole_arms whole_when

-- each statement of the program counts so
abbrev pub counts_whole : Program → Bool
counts_whole program = all
    (map (λ paragraph. all (map (λ sentence. all
    (map (stmt_counts_whole program.entries) sentence.stmts)) paragraph.sentences))
    program.paragraphs)
