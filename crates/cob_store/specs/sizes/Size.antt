-- How long items are, among entries that may be faulty.
use Rattle.std.specs.Prelude.{Bool, true, List}
use Rattle.cob_tree.specs.declared.entry.Entry.{Entry}
use Rattle.cob_store.specs.Size as sizes
use Rattle.cob_store.specs.Size.{Sized, sized_by_either, sized_either}

-- the entry takes no storage: it is a level 88, or its level is none
abbrev pub is_bare : Entry → Bool
is_bare = sizes.is_bare true

-- an entry, before the later ones
abbrev pub sized_by : Entry → Sized → Sized
sized_by = sized_by_either true

-- the sizes of these entries, and the outermost pieces that they are
abbrev pub sized : List Entry → Sized
sized = sized_either true
