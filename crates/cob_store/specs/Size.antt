-- How long items are, worked out from the last entry to the first.
use Rattle.std.specs.Prelude.{ℕ, ◌+◌, ◌-◌, ◌*◌, ◌^◌, min, Bool, true, false, ◌||◌, if◌then◌else◌, nat_lt, ◌==◌, List, [], ◌∷◌, Option, Some, None}
use Rattle.stored_forms.specs.Binary.{binary_size}
use Rattle.stored_forms.specs.Packed.{packed_size}
use Rattle.edit_fields.specs.Edited.{shown_size}
use Rattle.cob_tree.specs.declared.picture.Picture.{Picture}
use Rattle.cob_tree.specs.declared.picture.Picture.TheVariants as pictures
use Rattle.cob_tree.specs.declared.picture.Sign.{Sign}
use Rattle.cob_tree.specs.declared.picture.Sign.TheVariants.{Within, SeparateLeading, SeparateTrailing}
use Rattle.cob_tree.specs.declared.picture.Usage.{Usage}
use Rattle.cob_tree.specs.declared.picture.Usage.TheVariants as usages
use Rattle.cob_tree.specs.declared.entry.Entry.{Entry}
use Rattle.cob_store.specs.Number.{digit_count}
use Rattle.cob_store.specs.declared.size.SizedItem.{SizedItem}

-- a size or a start past the last number of 32 bits counts as that number
abbrev pub capped : ℕ → ℕ
capped bytes = min bytes (2 ^ 32 - 1)

-- how many bytes a sign takes by itself
abbrev pub sign_size : Sign → ℕ
sign_size Within = 0
sign_size SeparateLeading = 1
sign_size SeparateTrailing = 1

-- how many bytes a number has with so many digits before the point and after it
abbrev pub number_size : Usage → Sign → ℕ → ℕ → ℕ
number_size usages.Display sign whole part = whole + part + sign_size sign
number_size usages.Binary sign whole part = binary_size (digit_count whole part)
number_size usages.Packed sign whole part = packed_size (digit_count whole part)

-- how many bytes an item with this picture has
abbrev pub picture_size : Picture → Sign → Usage → ℕ
picture_size (pictures.Number signed whole part) sign usage = number_size usage sign whole part
picture_size (pictures.Letters size) sign usage = size
picture_size (pictures.Any size) sign usage = size
picture_size (pictures.Edited mask) sign usage = shown_size mask

-- a level 88 takes no storage
abbrev pub is_condition : Entry → Bool
is_condition entry = entry.level == 88

-- nor does one whose level is none, among entries that may be faulty
abbrev pub is_bare : (faulty : Bool) → Entry → Bool
is_bare true entry = is_condition entry || entry.level == 0
is_bare false entry = is_condition entry

-- an item of level 77 is in no group and has no items in it, wherever it is written
abbrev pub is_apart : Entry → Bool
is_apart entry = entry.level == 77

-- this count and the bytes of the pieces below an item of this depth
abbrev pub inside : ℕ → ℕ → List SizedItem → ℕ
inside depth bytes [] = bytes
inside depth bytes (piece ∷ pieces) =
    if nat_lt depth piece.depth then inside depth (capped (bytes + piece.bytes)) pieces else bytes

-- the pieces after those below an item of this depth
abbrev pub behind : ℕ → List SizedItem → List SizedItem
behind depth [] = []
behind depth (piece ∷ pieces) =
    if nat_lt depth piece.depth then behind depth pieces else piece ∷ pieces

-- how many bytes one occurrence has: by its picture, or those of its group
abbrev pub size_by : Option Picture → Sign → Usage → ℕ → ℕ
size_by None sign usage bytes = bytes
size_by (Some picture) sign usage bytes = picture_size picture sign usage

-- the bytes of all occurrences
abbrev pub times : Option ℕ → ℕ → ℕ
times None size = size
times (Some count) size = capped (size * count)

-- the bytes that an item adds to its group; one that redefines adds none
abbrev pub added : Option ℕ → ℕ → ℕ
added None bytes = bytes
added (Some redefined) bytes = 0

-- the sizes of entries, and the outermost pieces that they are
pub record Sized : Type 0 where
  pub sizes : List ℕ
  pub pieces : List SizedItem

-- an entry of this size, before the later ones
abbrev pub item_sized : Entry → ℕ → Sized → Sized
item_sized entry size later = record {
  sizes = size ∷ later.sizes;
  pieces = record {
    depth = entry.level;
    bytes = added entry.redefines
        (times entry.occurs size);
  } ∷ behind entry.level later.pieces;
}

-- an entry whose bytes are in no item before it
abbrev pub apart_sized : ℕ → Sized → Sized
apart_sized size later = record { sizes = size ∷ later.sizes; pieces = later.pieces }

-- an entry, before the later ones
abbrev pub sized_by_either : (faulty : Bool) → Entry → Sized → Sized
sized_by_either faulty entry later =
    if is_bare faulty entry
    then apart_sized 0 later
    else if is_apart entry
    then apart_sized (size_by entry.picture entry.sign entry.usage 0) later
    else item_sized entry (size_by entry.picture entry.sign entry.usage
    (inside entry.level 0 later.pieces)) later

-- the sizes of these entries
abbrev pub sized_either : (faulty : Bool) → List Entry → Sized
sized_either faulty [] = record { sizes = []; pieces = [] }
sized_either faulty (entry ∷ entries) =
    sized_by_either faulty entry (sized_either faulty entries)

-- the sizes with that of an entry without fault
abbrev pub sized_by : Entry → Sized → Sized
sized_by = sized_by_either false

-- the sizes of entries without fault
abbrev pub sized : List Entry → Sized
sized = sized_either false
