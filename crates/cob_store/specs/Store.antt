-- Stores, the parts of them that places are, and what is read and put there.
use Rattle.std.specs.Prelude.{ℕ, ◌+◌, ◌-◌, Bool, if◌then◌else◌, nat_le, ℤ, List, [], ◌++◌, length, map, take, drop, replicate, slice_get, slice_set, unwrap_or, Option, Some, None, option_and_then, Err}
use Rattle.cob_num.specs.Exact.{decimal}
use Rattle.cob_num.specs.declared.number.Dec.{Dec}
use Rattle.cob_num.specs.declared.storing.Stored.{Stored}
use Rattle.edit_fields.specs.Edited.{edited}
use Rattle.edit_fields.specs.Field.{digits_of}
use Rattle.cob_tree.specs.declared.ending.Abend.TheVariants.{BadDigits}
use Rattle.cob_tree.specs.declared.picture.Picture.{Picture}
use Rattle.cob_tree.specs.declared.picture.Picture.TheVariants as pictures
use Rattle.cob_tree.specs.declared.picture.Sign.{Sign}
use Rattle.cob_tree.specs.declared.picture.Usage.{Usage}
use Rattle.cob_store.specs.declared.area.Form.{Form}
use Rattle.cob_store.specs.declared.area.Form.TheVariants as forms
use Rattle.cob_store.specs.Answer.{Answer, there_or}
use Rattle.cob_store.specs.Number.{digit_count, number_bytes, number_in, storage_of}
use Rattle.cob_store.specs.declared.spot.Spot.{Spot}

-- the bytes of each root
abbrev pub Roots : Type 0
Roots = List (List ℕ)

-- roots of these sizes, all spaces, before anything is put into them
abbrev pub blank : List ℕ → Roots
blank = map (λ size. replicate size 32)

-- the bytes of a root; a root that isn't there has none
abbrev pub root_bytes : Roots → ℕ → List ℕ
root_bytes roots root = unwrap_or (slice_get roots root) []

-- the bytes at a spot
abbrev pub spot_bytes : Roots → Spot → List ℕ
spot_bytes roots spot = take spot.length (drop spot.start (root_bytes roots spot.root))

-- the spot lies inside its root
abbrev pub is_inside : Roots → Spot → Bool
is_inside roots spot = nat_le (spot.start + spot.length) (length (root_bytes roots spot.root))

-- these bytes in the place of as many
abbrev pub replaced : List ℕ → ℕ → ℕ → List ℕ → List ℕ
replaced old start size bytes = take start old ++ bytes ++ drop (start + size) old

-- the store with these bytes at a spot, which are as many as it has
abbrev pub put_at : Roots → Spot → List ℕ → Roots
put_at roots spot bytes =
    if is_inside roots spot
    then slice_set roots spot.root (replaced
    (root_bytes roots spot.root) spot.start spot.length bytes)
    else roots

-- bytes from the left, cut, or padded with spaces
abbrev pub fitted : ℕ → List ℕ → List ℕ
fitted size bytes = take size bytes ++ replicate (size - length bytes) 32

-- ---- numbers

-- the form of an item by its picture; a group has none
abbrev pub form_with : Picture → Sign → Usage → Form
form_with (pictures.Number signed whole part) sign usage =
    forms.Number signed whole part (storage_of sign usage (digit_count whole part))
form_with (pictures.Letters size) sign usage = forms.Text
form_with (pictures.Any size) sign usage = forms.Text
form_with (pictures.Edited mask) sign usage = forms.Edited

-- the number of an item whose picture has so many decimal places
abbrev pub number_of : Option ℤ → ℕ → Answer Dec
number_of number places = there_or BadDigits (option_and_then (λ z. decimal z places) number)

-- the number at a spot, or BadDigits; what is edited is text
abbrev pub value_at : Roots → Spot → Form → Answer Dec
value_at roots spot (forms.Number signed whole part storage) =
    number_of (number_in signed storage (spot_bytes roots spot)) part
value_at roots spot forms.Group = Err BadDigits
value_at roots spot forms.Edited = Err BadDigits
value_at roots spot forms.Text = Err BadDigits

-- a number that was stored, as its item spells it; text takes none
abbrev pub stored_at : Roots → Spot → Form → Stored → Roots
stored_at roots spot (forms.Number signed whole part storage) stored =
    put_at roots spot (number_bytes signed storage spot.length stored.value)
stored_at roots spot forms.Group stored = roots
stored_at roots spot forms.Edited stored = roots
stored_at roots spot forms.Text stored = roots

-- ---- edited numbers

-- what a place of so many bytes shows of a number through a mask
abbrev pub edited_bytes : List ℕ → ℕ → Dec → List ℕ
edited_bytes mask size number = fitted size (edited mask number)

-- the store with a number shown at a spot, where there is one
abbrev pub shown_at : Roots → Spot → List ℕ → Option Dec → Roots
shown_at roots spot mask None = roots
shown_at roots spot mask (Some number) = put_at roots spot (edited_bytes mask spot.length number)

-- a number that was stored, as an item of this picture spells or shows it
abbrev pub stored_by : Roots → Spot → Picture → Sign → Usage → Stored → Roots
stored_by roots spot (pictures.Number signed whole part) sign usage stored =
    stored_at roots spot (form_with (pictures.Number signed whole part) sign usage) stored
stored_by roots spot (pictures.Letters size) sign usage stored = roots
stored_by roots spot (pictures.Any size) sign usage stored = roots
stored_by roots spot (pictures.Edited mask) sign usage stored =
    shown_at roots spot mask (decimal stored.value (digits_of mask).part)
