-- What the laws say of the sizes of items, and of what is put into them.
use Rattle.std.specs.Prelude.{◌≡◌, ℕ, ◌+◌, ◌≤◌, Bool, List, Option, Some, None, ℤ, IsTrue}
use Rattle.std.specs.List.{All}
use Rattle.cob_num.specs.declared.number.Dec.{Dec}
use Rattle.stored_forms.specs.Binary.{binary_size}
use Rattle.stored_forms.specs.Item.{IsHeld}
use Rattle.stored_forms.specs.Packed.{packed_size}
use Rattle.edit_fields.specs.Edited.{edited, shown_size}
use Rattle.cob_tree.specs.declared.entry.Entry.{Entry}
use Rattle.cob_store.specs.declared.area.Area.{Area}
use Rattle.cob_store.specs.declared.area.Form.{Form}
use Rattle.cob_store.specs.declared.area.Form.TheVariants as forms
use Rattle.cob_store.specs.declared.area.Storage.{Storage}
use Rattle.cob_store.specs.declared.area.Storage.TheVariants.{Digits, Binary, Packed}
use Rattle.cob_store.specs.declared.spot.Spot.{Spot}
use Rattle.cob_store.specs.Laying.{layout_of}
use Rattle.cob_store.specs.Number.{is_stored, number_bytes}
use Rattle.cob_store.specs.Size.{sign_size}
use Rattle.cob_store.specs.Store.{Roots, edited_bytes, is_inside, number_of, put_at, value_at}

-- ---- sizes

-- an item with this count of digits stores as many, in so many bytes
pub record IsStoredIn (size : ℕ → ℕ) (digits count bytes : ℕ) : Type 0 where
  pub all : digits ≡ count
  -- it has the bytes of so many digits
  pub right : IsTrue (is_stored size digits bytes)

-- a number with so many digits has as many bytes as its storage wants
abbrev pub NumberFits : Storage → ℕ → ℕ → Type 0
NumberFits (Digits sign) count bytes = bytes ≡ count + sign_size sign
NumberFits (Binary digits) count bytes = IsStoredIn binary_size digits count bytes
NumberFits (Packed digits) count bytes = IsStoredIn packed_size digits count bytes

-- a number of 1 to 18 digits has the bytes that its storage wants, and what is edited those of its
-- mask; nothing else has a mask
abbrev pub FormFits : Form → Option (List ℕ) → ℕ → Type 0
FormFits (forms.Number signed whole part storage) (Some mask) bytes = ⊥
FormFits (forms.Number signed whole part storage) None bytes =
    1 ≤ whole + part → whole + part ≤ 18 → NumberFits storage (whole + part) bytes
FormFits forms.Edited (Some mask) bytes = bytes ≡ shown_size mask
FormFits forms.Edited None bytes = ⊥
FormFits _ (Some mask) bytes = ⊥
FormFits _ None bytes = Unit {0}

-- where an item lies, it has the bytes that its form wants
abbrev pub AreaFits : Area → Type 0
AreaFits area = FormFits area.form area.mask area.size

-- so does each item of a program
abbrev pub LayoutFits : Type 0
LayoutFits = (entries : List Entry) → All AreaFits (layout_of entries).items

-- ---- what is put is read

-- a number that a binary item holds is read where it was put
abbrev pub BinaryNumbersAreRead : Type 0
BinaryNumbersAreRead =
    (roots : Roots) (spot : Spot) (signed : Bool) (whole part digits : ℕ) (number : ℤ)
    → IsTrue (is_inside roots spot) → IsTrue (is_stored binary_size digits spot.length)
    → IsHeld number digits signed
    → value_at (put_at roots spot (number_bytes signed (Binary digits) spot.length number)) spot
    (forms.Number signed whole part (Binary digits))
    ≡ number_of (Some number) part

-- and so in a packed one
abbrev pub PackedNumbersAreRead : Type 0
PackedNumbersAreRead =
    (roots : Roots) (spot : Spot) (signed : Bool) (whole part digits : ℕ) (number : ℤ)
    → IsTrue (is_inside roots spot) → IsTrue (is_stored packed_size digits spot.length)
    → IsHeld number digits signed
    → value_at (put_at roots spot (number_bytes signed (Packed digits) spot.length number)) spot
    (forms.Number signed whole part (Packed digits))
    ≡ number_of (Some number) part

-- an edited item shows all that its mask does
abbrev pub EditedItemsShowAll : Type 0
EditedItemsShowAll =
    (mask : List ℕ) (number : Dec) → edited_bytes mask (shown_size mask) number ≡ edited mask number
