-- An added item: a number item in a root of its own.
use Rattle.std.specs.Prelude.{ℕ, ◌≡◌, ◌≤◌, Bool, ℤ, List, [], Some, None, slice_get}
use Rattle.cob_tree.specs.declared.place.Place.{Place, roll-Place}
use Rattle.cob_tree.specs.declared.place.Operand.{Operand, roll-Operand}
use Rattle.cob_tree.specs.declared.place.Expr.{Expr, roll-Expr}
use Rattle.cob_tree.specs.declared.place.Expr.TheOpen.{Expr-F, Operand-F}
use Rattle.cob_tree.specs.declared.number.Number.{Number}
use Rattle.cob_tree.specs.declared.picture.Sign.TheVariants.{Within}
use Rattle.cob_store.specs.declared.area.Area.{Area}
use Rattle.cob_store.specs.declared.area.Form.TheVariants as forms
use Rattle.cob_store.specs.declared.area.Storage.TheVariants.{Digits}
use Rattle.cob_store.specs.Number.{number_bytes}
use Rattle.cob_store.specs.Store.{Roots}

-- the item as a place
abbrev pub cell_place : ℕ → Place
cell_place item = roll-Place (record { item = item; of = []; subs = []; window = None })

-- the item as an operand
abbrev pub cell_operand : ℕ → Operand
cell_operand item = roll-Operand (Operand-F.Place (cell_place item))

-- a numeric literal as an operand
abbrev pub number_operand : Number → Operand
number_operand number = roll-Operand (Operand-F.Number number)

-- an operand as an expression
abbrev pub operand_expr : Operand → Expr
operand_expr operand = roll-Expr (Expr-F.Leaf operand)

-- an item of so many digits, with a sign or without, that has this root for itself
pub record IsCell (areas : List Area) (item root digits : ℕ) (signed : Bool) : Type 0 where
  -- it has a digit
  pub some : 1 ≤ digits
  -- and no more than 18
  pub few : digits ≤ 18
  -- it is all of this root
  pub lies : slice_get areas item ≡ Some (record {
    root = root;
    start = 0;
    size = digits;
    form = forms.Number signed digits 0 (Digits Within);
    dims = [];
    mask = None;
  })

-- the bytes of a number in such an item
abbrev pub cell_bytes : (digits : ℕ) → Bool → ℤ → List ℕ
cell_bytes digits signed value = number_bytes signed (Digits Within) digits value

-- the item's root holds that number
abbrev pub Holds : Roots → (root digits : ℕ) → Bool → ℤ → Type 0
Holds store root digits signed value =
    slice_get store root ≡ Some (cell_bytes digits signed value)
