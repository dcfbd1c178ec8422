-- What the laws say of both forms.
use Rattle.std.specs.Prelude.{◌≡◌, ℕ, ◌^◌, ◌<◌, ◌≤◌, ◌⊎◌, ◌↔◌, Bool, true, false, List, [], ◌∷◌, ◌++◌, length, replicate, Some, ℤ, pos, ◌≤ℤ◌, unsigned_abs, IsTrue}
use Rattle.std.specs.List.{All}
use Rattle.cob_num.specs.declared.number.Dec.{Dec}
use Rattle.cob_num.specs.Storing.{stored_of}
use Rattle.stored_forms.specs.Item.{IsHeld}
use Rattle.stored_forms.specs.Places.{low_digits}
use Rattle.stored_forms.specs.Binary.{binary_bytes, binary_size, binary_value}
use Rattle.stored_forms.specs.Packed.{fill_count, halves_of, last_half, minus_half, number_halves, packed_bytes, packed_halves, packed_size, packed_value, plus_half, unsigned_half}

-- so many bytes
pub record AreBytes (size : ℕ) (bytes : List ℕ) : Type 0 where
  pub count : length bytes ≡ size
  -- each is below 256
  pub small : All (λ byte. byte < 256) bytes

-- ---- what is written

-- a binary item has its size
abbrev pub BinaryHasSize : Type 0
BinaryHasSize = (value : ℤ) (digits : ℕ) → length (binary_bytes value digits) ≡ binary_size digits

-- and so has a packed one
abbrev pub PackedHasSize : Type 0
PackedHasSize =
    (value : ℤ) (digits : ℕ) (signed : Bool) → IsHeld value digits signed
    → length (packed_bytes value digits signed) ≡ packed_size digits

-- zeros that fill, the digits and the sign are what the bytes have
abbrev pub PackedHasHalves : Type 0
PackedHasHalves =
    (value : ℤ) (digits : ℕ) (signed : Bool)
    → halves_of (packed_bytes value digits signed) ≡ packed_halves value digits signed

-- ---- what is written reads back

-- a value that a binary item holds is read from the bytes written for it
abbrev pub BinaryReadsBack : Type 0
BinaryReadsBack =
    (value : ℤ) (digits : ℕ) (signed : Bool) → digits ≤ 18 → IsHeld value digits signed
    → binary_value (binary_bytes value digits) digits signed ≡ Some value

-- and from those of a packed one
abbrev pub PackedReadsBack : Type 0
PackedReadsBack =
    (value : ℤ) (digits : ℕ) (signed : Bool) → IsHeld value digits signed
    → packed_value (packed_bytes value digits signed) digits signed ≡ Some value

-- ---- reading is the rule on all bytes

-- bytes are read as a value where the item holds it and they are the ones that are written for it
abbrev pub BinaryReadsByRule : Type 0
BinaryReadsByRule =
    (bytes : List ℕ) (digits : ℕ) (signed : Bool) (value : ℤ) → digits ≤ 18
    → AreBytes (binary_size digits) bytes
    → (binary_value bytes digits signed ≡ Some value)
    ↔ (IsHeld value digits signed × (bytes ≡ binary_bytes value digits))

-- a sign tells a value: C and F one that isn't negative, D one that isn't positive, which only a
-- signed item has
abbrev pub Tells : ℕ → Bool → ℤ → Type 0
Tells sign signed value =
    (((sign ≡ plus_half) ⊎ (sign ≡ unsigned_half)) × (pos 0 ≤ℤ value))
    ⊎ ((sign ≡ minus_half) × IsTrue signed × (value ≤ℤ pos 0))

-- the half bytes are zeros that fill, the value's digits, and a sign that tells it
pub record IsPacked (bytes : List ℕ) (digits : ℕ) (signed : Bool) (value : ℤ) : Type 0 where
  pub short : unsigned_abs value < 10 ^ digits
  -- the last half byte tells the sign
  pub sign : Tells (last_half bytes) signed value
  -- the half bytes are these
  pub halves : halves_of bytes
      ≡ replicate (fill_count digits) 0 ++ low_digits 10 digits (unsigned_abs value)
      ++ last_half bytes ∷ []

-- and a packed item so where its half bytes are of that value
abbrev pub PackedReadsByRule : Type 0
PackedReadsByRule =
    (bytes : List ℕ) (digits : ℕ) (signed : Bool) (value : ℤ)
    → AreBytes (packed_size digits) bytes
    → (packed_value bytes digits signed ≡ Some value) ↔ IsPacked bytes digits signed value

-- ---- values and bytes, one to one

-- the values that an item holds have bytes of their own
abbrev pub BinaryValuesApart : Type 0
BinaryValuesApart =
    (one other : ℤ) (digits : ℕ) (signed : Bool) → digits ≤ 18
    → IsHeld one digits signed → IsHeld other digits signed
    → binary_bytes one digits ≡ binary_bytes other digits → one ≡ other

-- and so of packed items
abbrev pub PackedValuesApart : Type 0
PackedValuesApart =
    (one other : ℤ) (digits : ℕ) (signed : Bool)
    → IsHeld one digits signed → IsHeld other digits signed
    → packed_bytes one digits signed ≡ packed_bytes other digits signed → one ≡ other

-- and a value is read from the same bytes alone
abbrev pub BinaryBytesAreOne : Type 0
BinaryBytesAreOne =
    (one other : List ℕ) (digits : ℕ) (signed : Bool) (value : ℤ) → digits ≤ 18
    → AreBytes (binary_size digits) one → AreBytes (binary_size digits) other
    → binary_value one digits signed ≡ Some value
    → binary_value other digits signed ≡ Some value → one ≡ other

-- but for signs that tell it both: C and F, and of zero D too
pub record SameButSign (one other : List ℕ) (signed : Bool) (value : ℤ) : Type 0 where
  pub number : number_halves one ≡ number_halves other
  -- the sign of the one tells the value
  pub one_sign : Tells (last_half one) signed value
  -- and so does that of the other
  pub other_sign : Tells (last_half other) signed value

-- a value is read from the same half bytes of a number alone
abbrev pub PackedBytesAreOne : Type 0
PackedBytesAreOne =
    (one other : List ℕ) (digits : ℕ) (signed : Bool) (value : ℤ)
    → AreBytes (packed_size digits) one → AreBytes (packed_size digits) other
    → packed_value one digits signed ≡ Some value
    → packed_value other digits signed ≡ Some value → SameButSign one other signed value

-- ---- what is stored

-- what arithmetic stores in a field of so many digits, an item of so many holds, with its sign
abbrev pub HoldsStored : Type 0
HoldsStored =
    (number : Dec) (digits scale : ℕ) (rounded : Bool)
    → IsHeld (stored_of number digits scale rounded).value digits true

-- and without it
abbrev pub HoldsStoredSize : Type 0
HoldsStoredSize =
    (number : Dec) (digits scale : ℕ) (rounded : Bool)
    → IsHeld (pos (unsigned_abs (stored_of number digits scale rounded).value)) digits false
