-- Operands and places that are worth whole numbers, by what they are.
use Rattle.std.specs.Prelude.{ℕ, ◌≡◌, ◌≤◌, Bool, List, None, Some, slice_get}
use Rattle.cob_num.specs.declared.number.Dec.{Dec}
use Rattle.cob_tree.specs.declared.place.Figure.TheVariants as figures
use Rattle.cob_tree.specs.declared.place.Expr.{Expr}
use Rattle.cob_tree.specs.declared.place.Operand.{Operand, out-Operand}
use Rattle.cob_tree.specs.declared.place.Place.{Place, out-Place}
use Rattle.cob_tree.specs.declared.place.Sub.{Sub}
use Rattle.cob_tree.specs.declared.place.Window.{Window}
use Rattle.cob_tree.specs.declared.place.Expr.TheOpen.{Operand-F}
use Rattle.cob_store.specs.declared.area.Area.{Area}
use Rattle.cob_store.specs.declared.area.Form.TheVariants as forms
use Rattle.cob_store.specs.declared.area.Storage.{Storage}
use Rattle.cobol_theory.specs.stored_numbers.Laws.{bytes_for}
use Rattle.cobol_theory.specs.cell_items.Laws.{IsWhole}
use Rattle.cobol_theory.specs.cell_serving.Choosing.{IsWholeItem}
use Rattle.cobol_theory.specs.cell_serving.Laws.{IsWholeAmount}

-- a number item without decimal places, of at most 18 digits
pub record IsWholeArea (area : Area) : Type 0 where
  pub signed : Bool
  pub digits : ℕ
  pub storage : Storage
  -- it is a number without decimal places
  pub form : area.form ≡ forms.Number signed digits 0 storage
  -- it has no more than 18 digits
  pub few : digits ≤ 18
  -- it is as long as its digits are, stored so
  pub size : area.size ≡ bytes_for signed storage digits

-- such an item, or an occurrence of it; a window would make text of it
pub record IsWholePlace (areas : List Area) (place : Place) : Type 0 where
  pub area : Area
  -- it has no window
  pub plain : (out-Place place).window ≡ None
  -- the item lies there
  pub lies : slice_get areas (out-Place place).item ≡ Some area
  -- it is such an item
  pub whole : IsWholeArea area

-- the operand is such a place, a whole number, or ZERO
abbrev pub IsAmountBy : List Area → Operand-F Expr Operand Place Sub Window → Type 0
IsAmountBy areas (Operand-F.Place place) = IsWholePlace areas place
IsAmountBy areas (Operand-F.Number number) = (worth : Dec) × IsWhole number worth 18
IsAmountBy areas (Operand-F.Text bytes) = ⊥
IsAmountBy areas (Operand-F.Figure figures.Zero) = Unit {0}
IsAmountBy areas (Operand-F.Figure _) = ⊥

-- the operand is such a place, a whole number, or ZERO
abbrev pub IsAmount : List Area → Operand → Type 0
IsAmount areas operand = IsAmountBy areas (out-Operand operand)

-- such a place is a whole number, whatever is stored
abbrev pub WholePlacesAreWhole : Type 0
WholePlacesAreWhole =
    (areas : List Area) (place : Place) → IsWholePlace areas place → IsWholeItem areas place

-- such an operand is worth a whole number of 18 digits at most, or can't be read, whatever is
-- stored
abbrev pub AmountsAreWhole : Type 0
AmountsAreWhole =
    (areas : List Area) (operand : Operand) → IsAmount areas operand → IsWholeAmount areas operand
