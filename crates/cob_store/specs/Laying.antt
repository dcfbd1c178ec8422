-- Where the items of a program lie, worked out from the first entry to the last.
use Rattle.std.specs.Prelude.{ℕ, ◌+◌, ◌-◌, max, Bool, false, if◌then◌else◌, nat_lt, ◌==◌, List, [], ◌∷◌, ◌++◌, length, Option, Some, None, slice_get, slice_index, slice_set}
use Rattle.cob_tree.specs.declared.picture.Picture.{Picture}
use Rattle.cob_tree.specs.declared.picture.Picture.TheVariants as pictures
use Rattle.cob_tree.specs.declared.picture.Sign.{Sign}
use Rattle.cob_tree.specs.declared.picture.Usage.{Usage}
use Rattle.cob_tree.specs.declared.entry.Entry.{Entry}
use Rattle.cob_store.specs.declared.area.Area.{Area}
use Rattle.cob_store.specs.declared.area.Areas.{Areas}
use Rattle.cob_store.specs.declared.area.Dim.{Dim}
use Rattle.cob_store.specs.declared.area.Form.{Form}
use Rattle.cob_store.specs.declared.area.Form.TheVariants as forms
use Rattle.cob_store.specs.declared.laying.Laid.{Laid}
use Rattle.cob_store.specs.declared.laying.Open.{Open}
use Rattle.cob_store.specs.Area.{root_of, start_of}
use Rattle.cob_store.specs.Size.{capped, is_apart, is_condition, sized, times}
use Rattle.cob_store.specs.Store.{form_with}

-- the groups that an item of this depth is in
abbrev pub groups_of : ℕ → List Open → List Open
groups_of depth [] = []
groups_of depth (group ∷ groups) =
    if nat_lt group.depth depth then group ∷ groups else groups_of depth groups

-- the dimension of an item by its OCCURS, if it has one
abbrev pub dims_of : Option ℕ → ℕ → List Dim
dims_of None size = []
dims_of (Some count) size = record { stride = size; count = count } ∷ []

-- where an item starts; one that redefines begins where that one begins
abbrev pub start_by : Laid → ℕ → Option ℕ → ℕ
start_by laid next None = next
start_by laid next (Some redefined) = start_of (slice_get laid.areas redefined)

-- where the next item of a group begins; one that redefines takes no room
abbrev pub next_by : ℕ → ℕ → Option ℕ → ℕ
next_by next bytes None = capped (next + bytes)
next_by next bytes (Some redefined) = next

-- this entry is of the file of the last one
abbrev pub same_file : Option ℕ → Option ℕ → Bool
same_file (Some file) (Some last) = file == last
same_file _ _ = false

-- where the entry before this one lies
abbrev pub last_area : List Area → Option Area
last_area areas = slice_get areas (length areas - 1)

-- the root of an item that is in no group: that of the redefined item, or of the file's
-- entries, or a new one
abbrev pub root_by : Laid → Option ℕ → Option ℕ → ℕ
root_by laid (Some redefined) file = root_of (slice_get laid.areas redefined)
root_by laid None file =
    if same_file file laid.file then root_of (last_area laid.areas) else length laid.roots

-- the lengths of the roots with this item in one of them, which is as long as its longest item
abbrev pub lengthened : List ℕ → ℕ → ℕ → List ℕ
lengthened roots root size =
    if nat_lt root (length roots)
    then slice_set roots root (max (slice_index roots root) size)
    else roots ++ size ∷ []

-- the form of an item by its picture; one without a picture is a group
abbrev pub form_by : Sign → Usage → Option Picture → Form
form_by sign usage None = forms.Group
form_by sign usage (Some picture) = form_with picture sign usage

-- the mask of an item whose picture is edited
abbrev pub mask_by : Option Picture → Option (List ℕ)
mask_by (Some (pictures.Edited mask)) = Some mask
mask_by _ = None

-- where an item of this entry lies
abbrev pub area_of : Entry → ℕ → ℕ → ℕ → List Dim → Area
area_of entry size root start dims =
    record {
      root = root;
      start = start;
      size = size;
      form = form_by entry.sign entry.usage entry.picture;
      mask = mask_by entry.picture;
      dims = dims;
    }

-- the group that an item opens for the entries below it
abbrev pub opened : Entry → ℕ → ℕ → List Dim → Open
opened entry root start dims =
    record { depth = entry.level; root = root; next = start; dims = dims }

-- an item that begins a root, or a record of one
abbrev pub root_laid : Laid → Entry → ℕ → ℕ → List Dim → Laid
root_laid laid entry size root dims = record {
  areas = laid.areas ++ area_of entry size root 0 dims ∷ [];
  roots = lengthened laid.roots root size;
  groups = opened entry root 0 dims ∷ laid.groups;
  file = entry.file;
}

-- an item inside a group, which begins where the next item is to or where it redefines
abbrev pub inner_laid : Laid → Entry → ℕ → Open → List Open → ℕ → List Dim → Laid
inner_laid laid entry size group groups start dims = record {
  areas = laid.areas ++ area_of entry size group.root start dims ∷ [];
  roots = laid.roots;
  groups = opened entry group.root start dims ∷ record group {
    next = next_by group.next
        (times entry.occurs size) entry.redefines;
  } ∷ groups;
  file = entry.file;
}

-- an item that is in no group
abbrev pub alone_laid : Laid → Entry → ℕ → Laid
alone_laid laid entry size =
    root_laid laid entry size (root_by laid entry.redefines entry.file) (dims_of entry.occurs size)

-- an item that is in this group, and that group in these
abbrev pub below_laid : Laid → Entry → ℕ → Open → List Open → Laid
below_laid laid entry size group groups =
    inner_laid laid entry size group groups (start_by laid group.next entry.redefines)
    (group.dims ++ dims_of entry.occurs size)

-- an item in these groups, or in none
abbrev pub item_laid : Laid → Entry → ℕ → List Open → Laid
item_laid laid entry size [] = alone_laid (record laid { groups = [] }) entry size
item_laid laid entry size (group ∷ groups) = below_laid laid entry size group groups

-- a level 88 lies where the item before it lies
abbrev pub condition_laid : Laid → Option Area → Laid
condition_laid laid None = laid
condition_laid laid (Some area) = record laid { areas = laid.areas ++ area ∷ [] }

-- an item of level 77 neither opens a group nor closes one
abbrev pub apart_laid : Laid → Entry → ℕ → Laid
apart_laid laid entry size = record (alone_laid laid entry size) { groups = laid.groups }

-- an entry of this size, by its level
abbrev pub laid_by : Laid → Entry → ℕ → Laid
laid_by laid entry size =
    if is_condition entry
    then condition_laid laid (last_area laid.areas)
    else if is_apart entry
    then apart_laid laid entry size
    else item_laid laid entry size (groups_of entry.level laid.groups)

-- the entries with their sizes, one after the other
abbrev pub laid_from : Laid → List Entry → List ℕ → Laid
laid_from laid (entry ∷ entries) (size ∷ sizes) = laid_from (laid_by laid entry size) entries sizes
laid_from laid _ _ = laid

-- what is laid before the first entry: nothing
abbrev pub nothing_laid : Laid
nothing_laid = record { areas = []; roots = []; groups = []; file = None }

-- where the items lie, with the lengths of the roots
abbrev pub areas_of : Laid → Areas
areas_of laid = record { items = laid.areas; roots = laid.roots }

-- where each item lies, and how long each root is
abbrev pub layout_of : List Entry → Areas
layout_of entries = areas_of (laid_from nothing_laid entries (sized entries).sizes)
