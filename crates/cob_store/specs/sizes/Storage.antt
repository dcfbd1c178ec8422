-- How many bytes a program's items take: each item in no group with those that redefine it once, by
-- the longest, and the records of a file once.
use Rattle.std.specs.Prelude.{ℕ, ◌+◌, ◌-◌, ◌^◌, max, min, sum, Bool, false, ◌||◌, ◌==◌, nat_lt, List, [], ◌∷◌, ◌++◌, length, Option, Some, None, slice_get, slice_index, slice_set, if◌then◌else◌}
use Rattle.std.specs.List.{fold}
use Rattle.std.specs.Option.{unwrap_or}
use Rattle.cob_base.specs.Limit.{passed}
use Rattle.cob_base.specs.declared.limit.Limit.{Limit}
use Rattle.cob_base.specs.declared.limit.LimitKind.TheVariants.{Storage}
use Rattle.cob_tree.specs.declared.entry.Entry.{Entry}
use Rattle.cob_store.specs.declared.sizes.storage.Roots.{Roots}
use Rattle.cob_store.specs.sizes.Size.{sized}

-- the entry begins a root: its level is 01 or 77
abbrev pub is_root : Entry → Bool
is_root entry = entry.level == 1 || entry.level == 77

-- both are of one file
abbrev pub same_area : Option ℕ → Option ℕ → Bool
same_area (Some file) (Some other) = file == other
same_area _ _ = false

-- the root of an item in no group: that of the redefined item, or of its file, or a new one
abbrev pub root_by : Roots → (file redefines : Option ℕ) → ℕ
root_by roots file (Some redefined) = unwrap_or (slice_get roots.of redefined) 0
root_by roots file None =
    if same_area file roots.file then length roots.sizes - 1 else length roots.sizes

-- the sizes of the roots with this entry in one of them, which is as long as its longest item
abbrev pub lengthened : List ℕ → ℕ → ℕ → List ℕ
lengthened sizes root size =
    if nat_lt root (length sizes)
    then slice_set sizes root (max (slice_index sizes root) size)
    else sizes ++ size ∷ []

-- the roots with this entry in the one with this number
abbrev pub with_root : Roots → Entry → ℕ → ℕ → Roots
with_root roots entry size root = record {
  of = roots.of ++ root ∷ [];
  sizes = lengthened roots.sizes root size;
  file = entry.file;
}

-- the roots after an entry that is no root; its number says nothing
abbrev pub within_root : Roots → Roots
within_root roots = record roots { of = roots.of ++ 0 ∷ [] }

-- the roots with this entry and its size
abbrev pub rooted : Roots → Entry → ℕ → Roots
rooted roots entry size =
    if is_root entry
    then with_root roots entry size (root_by roots entry.file entry.redefines)
    else within_root roots

-- the roots with the next entry too
abbrev pub rooted_next : List ℕ → Roots → Entry → Roots
rooted_next sizes roots entry =
    rooted roots entry (unwrap_or (slice_get sizes (length roots.of)) 0)

-- the roots before the first entry: none
abbrev pub no_roots : Roots
no_roots = record { of = []; sizes = []; file = None }

-- the roots of these entries, and how long each is
abbrev pub roots_of : List ℕ → List Entry → Roots
roots_of sizes entries = fold (rooted_next sizes) no_roots entries

-- how many bytes all items have; past the last number of 64 bits it counts as that
abbrev pub storage_of : List Entry → ℕ
storage_of entries = min (sum (roots_of (sized entries).sizes entries).sizes) (2 ^ 64 - 1)

-- the limit that is passed
abbrev pub storage_limit : (of_result : Bool) → ℕ → Option Limit
storage_limit of_result counted = passed Storage of_result counted
