-- Which parts may be written with a table of cells, as a test.
use Rattle.std.specs.Prelude.{ℕ, ◌^◌, nat_le, nat_lt, Bool, true, false, ◌&&◌, ◌||◌, not, if◌then◌else◌, ◌==◌, List, Option, Some, None, is_some, slice_get}
use Rattle.cob_tree.specs.declared.number.Number.{Number}
use Rattle.cob_tree.specs.declared.place.Figure.TheVariants as figures
use Rattle.cob_tree.specs.declared.place.Expr.{Expr}
use Rattle.cob_tree.specs.declared.place.Operand.{Operand, out-Operand}
use Rattle.cob_tree.specs.declared.place.Place.{Place, out-Place}
use Rattle.cob_tree.specs.declared.place.Sub.{Sub}
use Rattle.cob_tree.specs.declared.place.Window.{Window}
use Rattle.cob_tree.specs.declared.place.Expr.TheOpen.{Operand-F}
use Rattle.cob_store.specs.declared.area.Area.{Area}
use Rattle.cob_store.specs.declared.area.Form.{Form}
use Rattle.cob_store.specs.declared.area.Form.TheVariants as forms
use Rattle.cob_tree.specs.Digits.{digits_value}
use Rattle.control_flow_theory.specs.language.Language as language
use Rattle.control_flow_theory.specs.language.Language.{Range, Chooser, Evaluate, Arith, Depending}
use Rattle.control_flow_theory.specs.rendering.Procedures.{Writable}
use Rattle.meanings.specs.statements.Filing.{Declared, status_place}
use Rattle.cobol_theory.specs.stored_numbers.Laws.{bytes_for}
use Rattle.cobol_theory.specs.added_items.Within.{cond_within, operand_within}
use Rattle.cobol_theory.specs.added_items.Own.{items, stmt_own, chooser_own}
use Rattle.cobol_theory.specs.added_items.Widened.{AddedItems, declared_beside}
use Rattle.cobol_theory.specs.cell_serving.Table.{CellTable}
use Rattle.cobol_theory.specs.cell_serving.Naming.{first_stands}
use Rattle.cobol_theory.specs.cell_serving.Choosing.{written_chooser}
use Rattle.cobol_theory.specs.cell_serving.Laws.{AreLiterals, AreOfKinds}

-- a number item without decimal places, of at most 18 digits
abbrev pub is_whole_form : (size : ℕ) → Form → Bool
is_whole_form size (forms.Number signed digits part storage) =
    part == 0 && nat_le digits 18 && size == bytes_for signed storage digits
is_whole_form size forms.Edited = false
is_whole_form size forms.Group = false
is_whole_form size forms.Text = false

-- an item lies there that is such a number
abbrev pub is_whole_area : Option Area → Bool
is_whole_area None = false
is_whole_area (Some area) = is_whole_form area.size area.form

-- the place is such an item, without a window
abbrev pub is_whole_place : List Area → Place → Bool
is_whole_place areas place =
    not (is_some (out-Place place).window) && is_whole_area (slice_get areas (out-Place place).item)

-- a numeric literal without decimal places, of at most 18 digits
abbrev pub is_whole_number : Number → Bool
is_whole_number number = number.scale == 0 && is_some (digits_value number.digits)

-- the operand is such an item, a whole number, or ZERO
abbrev pub is_amount_by : List Area → Operand-F Expr Operand Place Sub Window → Bool
is_amount_by areas (Operand-F.Place place) = is_whole_place areas place
is_amount_by areas (Operand-F.Number number) = is_whole_number number
is_amount_by areas (Operand-F.Text bytes) = false
is_amount_by areas (Operand-F.Figure figures.Zero) = true
is_amount_by areas (Operand-F.Figure _) = false

-- the operand is such an item, a whole number, or ZERO
abbrev pub is_amount : List Area → Operand → Bool
is_amount areas operand = is_amount_by areas (out-Operand operand)

-- GO TO DEPENDING of such an item; READ whose AT END is there as it was, or whose file has a status
-- item
abbrev pub suits : Declared → Chooser → (arms : List Bool) → Bool
suits declared (Depending place names) arms =
    is_whole_place declared.areas.items place && nat_le 1 names && nat_lt names (10 ^ 18)
suits declared (language.Read file into has_end) arms =
    (if has_end then first_stands arms else not (first_stands arms))
    || is_some (status_place declared file)
suits declared (Evaluate subject tests has_other) arms = true
suits declared (Arith calc into) arms = true

module _ (declared : Declared) (added : AddedItems) (table : CellTable) where
  -- what is declared with the added items
  abbrev pub wide : Declared
  wide = declared_beside added declared

  -- the cell has an item, without a sign
  abbrev pub is_plain : Range → ℕ → Bool
  is_plain range cell = table.stands range cell && not (table.signed range cell)

  -- which parts may be written, and what the cells are for
  abbrev pub kinds_of : Writable
  kinds_of = record {
    simples = stmt_own declared;
    conds = cond_within (items declared);
    choosers = λ chooser arms. chooser_own declared chooser && suits wide chooser arms;
    amounts = λ amount. operand_within (items declared) amount && is_amount wide.areas.items amount;
    sets = λ range cell value.
        is_plain range cell && table.changes range cell && nat_le value (table.most range cell);
    compares = λ range cell value. is_plain range cell && nat_le value (table.most range cell);
    counts = λ range cell.
        table.stands range cell && table.changes range cell && table.signed range cell
        && table.digits range cell == 18;
    aboves = table.stands;
    chooses = λ range cell arms.
        is_plain range cell && nat_le (table.most range cell) arms
        && nat_lt arms (10 ^ table.digits range cell);
  }

-- what passes these tests is of the kinds that serve
abbrev pub TestedPartsAreOfKinds : Type 0
TestedPartsAreOfKinds =
    (declared : Declared) (added : AddedItems) (table : CellTable) (literal : ℕ → Number) →
    AreLiterals literal →
    AreOfKinds declared added table (written_chooser literal) (kinds_of declared added table)
