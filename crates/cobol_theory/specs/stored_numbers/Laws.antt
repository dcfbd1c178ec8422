-- Laws of the bytes of number items.
use Rattle.std.specs.Prelude.{ℕ, ◌+◌, ◌^◌, ◌≡◌, ◌<◌, ◌≤◌, Bool, true, false, if◌then◌else◌, ℤ, unsigned_abs, Some}
use Rattle.std.specs.Int.{is_negative}
use Rattle.stored_forms.specs.Binary.{binary_size}
use Rattle.stored_forms.specs.Packed.{packed_size}
use Rattle.cob_tree.specs.declared.picture.Sign.{Sign}
use Rattle.cob_tree.specs.declared.picture.Usage.{Usage}
use Rattle.cob_store.specs.declared.area.Storage.{Storage}
use Rattle.cob_store.specs.declared.area.Storage.TheVariants.{Digits, Binary, Packed}
use Rattle.cob_store.specs.Number.{number_in, number_bytes, storage_of}
use Rattle.cob_store.specs.Size.{sign_size}

-- the bytes of an item with so many digits, which are stored so
abbrev pub bytes_for : (signed : Bool) → Storage → (digits : ℕ) → ℕ
bytes_for signed (Digits sign) digits = if signed then digits + sign_size sign else digits
bytes_for signed (Binary stored) digits = binary_size stored
bytes_for signed (Packed stored) digits = packed_size stored

-- the item has room for the number, and a sign where it is below zero
abbrev pub Fits : (signed : Bool) → (digits : ℕ) → ℤ → Type 0
Fits true digits number = unsigned_abs number < 10 ^ digits
Fits false digits number =
    (unsigned_abs number < 10 ^ digits) × (is_negative number ≡ false)

-- a number for which an item has room is read back from its bytes, whatever its USAGE and its sign
abbrev pub StoredNumbersAreReadBack : Type 0
StoredNumbersAreReadBack =
    (signed : Bool) (sign : Sign) (usage : Usage) (digits : ℕ) (number : ℤ) →
    1 ≤ digits → digits ≤ 18 → Fits signed digits number →
    let storage = storage_of sign usage digits in
    number_in signed storage
    (number_bytes signed storage (bytes_for signed storage digits) number) ≡ Some number
