-- What is known of where an item lies; no entry, no place.
use Rattle.std.specs.Prelude.{ℕ, List, Option, Some, None, slice_get}
use Rattle.cob_store.specs.declared.area.Area.{Area}

-- the number of its root
abbrev pub root_of : Option Area → ℕ
root_of None = 0
root_of (Some area) = area.root

-- where an item starts in its root
abbrev pub start_of : Option Area → ℕ
start_of None = 0
start_of (Some area) = area.start

-- how many bytes it has
abbrev pub size_of : Option Area → ℕ
size_of None = 0
size_of (Some area) = area.size

-- the mask of an item that is edited
abbrev pub mask_of : Option Area → Option (List ℕ)
mask_of None = None
mask_of (Some area) = area.mask

-- that of the item with this number
abbrev pub mask_at : List Area → ℕ → Option (List ℕ)
mask_at areas item = mask_of (slice_get areas item)
