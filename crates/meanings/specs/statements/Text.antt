-- Texts beside one another, and numbers as they print.
use Rattle.std.specs.Prelude.{ℕ, ◌-◌, Bool, ◌&&◌, ◌||◌, if◌then◌else◌, nat_le, nat_lt, ◌==◌, List, [], ◌∷◌, ◌++◌, length, take, drop}
use Rattle.std.specs.declared.cmp.Ordering.{Ordering}
use Rattle.std.specs.declared.cmp.Ordering.TheVariants.{Less, Equal, Greater}
use Rattle.std.specs.Ordering.{ordering_then}
use Rattle.cob_tree.specs.declared.number.Number.{Number}

-- how two bytes compare
abbrev pub byte_order : ℕ → ℕ → Ordering
byte_order a b = if nat_lt a b then Less else (if a == b then Equal else Greater)

-- how this text compares with spaces, since the shorter text counts as padded
abbrev pub beside_spaces : List ℕ → Ordering
beside_spaces [] = Equal
beside_spaces (byte ∷ bytes) = ordering_then (byte_order byte 32) (beside_spaces bytes)

-- how spaces compare with this text
abbrev pub spaces_beside : List ℕ → Ordering
spaces_beside [] = Equal
spaces_beside (byte ∷ bytes) = ordering_then (byte_order 32 byte) (spaces_beside bytes)

-- how two texts compare, byte by byte
abbrev pub text_order : List ℕ → List ℕ → Ordering
text_order [] ys = spaces_beside ys
text_order (x ∷ xs) [] = beside_spaces (x ∷ xs)
text_order (x ∷ xs) (y ∷ ys) = ordering_then (byte_order x y) (text_order xs ys)

-- the digits with a point before the last so many
abbrev pub pointed : ℕ → List ℕ → List ℕ
pointed scale digits =
    if scale == 0
    then digits
    else take (length digits - scale) digits ++ 46 ∷ drop (length digits - scale) digits

-- a number as it prints
abbrev pub printed_number : Number → List ℕ
printed_number number =
    (if number.negative then 45 ∷ [] else []) ++ pointed number.scale number.digits

-- the byte is a letter of the alphabet, of either case
abbrev pub is_letter : ℕ → Bool
is_letter byte = nat_le 65 byte && nat_le byte 90 || nat_le 97 byte && nat_le byte 122
