-- Items of level 01 after a program's own, which name no other item.
use Rattle.std.specs.Prelude.{ℕ, ◌+◌, nat_le, Bool, true, ◌&&◌, not, is_some, ◌==◌, List, [], ◌∷◌, ◌++◌, length, map}
use Rattle.cob_tree.specs.declared.entry.Entry.{Entry}
use Rattle.cob_store.specs.declared.area.Area.{Area}
use Rattle.cob_store.specs.declared.area.Areas.{Areas}
use Rattle.cob_store.specs.Size.{is_condition, size_by}
use Rattle.cob_store.specs.Laying.{area_of, form_by}
use Rattle.cob_store.specs.Starting.{started}
use Rattle.control_flow_theory.specs.language.All.{all}

-- an item of level 01 by itself, without items in it
abbrev pub stands_alone : Entry → Bool
stands_alone entry =
    entry.level == 1 && not (is_some entry.file) && not (is_some entry.redefines)
    && not (is_some entry.occurs) && is_some entry.picture

-- each of these items stands alone
abbrev pub stand_alone : List Entry → Bool
stand_alone entries = all (map stands_alone entries)

-- the first entry isn't of level 88
abbrev pub begins_with_item : List Entry → Bool
begins_with_item [] = true
begins_with_item (entry ∷ entries) = not (is_condition entry)

-- each entry has a level: none is 0
abbrev pub have_levels : List Entry → Bool
have_levels entries = all (map (λ entry. nat_le 1 entry.level) entries)

-- how many bytes an item has that stands alone
abbrev pub size_alone : Entry → ℕ
size_alone entry = size_by entry.picture entry.sign entry.usage 0

-- where these items lie: each in a root of its own, the first of which has this number
abbrev pub areas_alone : ℕ → List Entry → List Area
areas_alone root [] = []
areas_alone root (entry ∷ entries) =
    area_of entry (size_alone entry) root 0 [] ∷ areas_alone (root + 1) entries

-- where the items of a program lie, and after them those of these entries
abbrev pub laid_behind : Areas → List Entry → Areas
laid_behind areas entries = record {
  items = areas.items ++ areas_alone (length areas.roots) entries;
  roots = areas.roots ++ map size_alone entries;
}

-- what its root holds at the start of a run
abbrev pub first_bytes : Entry → List ℕ
first_bytes entry = started (form_by entry.sign entry.usage entry.picture) (size_alone entry) entry.value
