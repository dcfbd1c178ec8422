-- A whole item as a place.
use Rattle.std.specs.Prelude.{ℕ, [], None}
use Rattle.cob_tree.specs.declared.place.Place.{Place, roll-Place}

-- an item as a place, without subscripts and window
abbrev pub item_place : ℕ → Place
item_place item = roll-Place (record { item = item; of = []; subs = []; window = None })
