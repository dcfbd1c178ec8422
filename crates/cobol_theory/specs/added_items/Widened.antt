-- Programs with items after their own: where these lie, and what is stored there.
use Rattle.std.specs.Prelude.{ℕ, ◌≡◌, ◌<◌, List, ◌++◌, length, map, not, is_some, Some, IsTrue, slice_get}
use Rattle.cob_store.specs.declared.area.Area.{Area}
use Rattle.cob_store.specs.Store.{Roots}
use Rattle.cob_store.specs.Place.{Memory}
use Rattle.cob_tree.specs.declared.entry.Entry.{Entry}
use Rattle.meanings.specs.statements.Outcome.{Outcome}
use Rattle.meanings.specs.statements.Filing.{Declared, Effect}
use Rattle.control_flow_theory.specs.semantics.Outcome.{Tried, Got, Ends}
use Rattle.control_flow_theory.specs.semantics.Doing.{keeping}
use Rattle.cobol_theory.specs.cobol_meaning.Acting as meaning
use Rattle.control_flow_theory.specs.language.All.{all}
use Rattle.cobol_theory.specs.added_items.Within.{entries_within, files_within}

-- each item lies in some root that is stored
abbrev pub AreInside : List Area → Roots → Type 0
AreInside areas store =
    (item : ℕ) (area : Area) → slice_get areas item ≡ Some area → area.root < length store

-- these items and bytes after a program's own
abbrev pub beside : List Area → Roots → Memory → Memory
beside more tail memory = record {
  areas = memory.areas ++ more;
  store = memory.store ++ tail;
}

-- the same outcome, with these bytes after what is stored
abbrev pub widened : {A : Type 0} → Roots → Outcome A → Outcome A
widened tail outcome = record { store = outcome.store ++ tail; answer = outcome.answer }

-- the same effect, with these bytes after what is stored
abbrev pub widened_effect : Roots → Effect → Effect
widened_effect tail effect = record effect { store = effect.store ++ tail }

-- items after a program's own: entries of no file, where they lie, and the sizes of their roots
pub record AddedItems : Type 0 where
  pub entries : List Entry
  pub areas : List Area
  pub roots : List ℕ

-- what is declared with these items after the program's own
abbrev pub declared_beside : AddedItems → Declared → Declared
declared_beside added declared = record {
  files = declared.files;
  entries = declared.entries ++ added.entries;
  areas = record {
    items = declared.areas.items ++ added.areas;
    roots = declared.areas.roots ++ added.roots;
  };
}

-- a program whose entries each have an area, whose areas lie in its roots, and whose files and
-- level 88s name items of its own
pub record IsWhole (declared : Declared) : Type 0 where
  -- each entry has an area
  pub sized : length declared.entries ≡ length declared.areas.items
  -- each area lies in one of the roots
  pub inside : (item : ℕ) (area : Area) → slice_get declared.areas.items item ≡ Some area →
      area.root < length declared.areas.roots
  -- the values of level 88s name its own items
  pub values : IsTrue (entries_within (length declared.areas.items) declared.entries)
  -- the status items are its own
  pub statuses : IsTrue (files_within (length declared.areas.items) declared.files)

-- items of no file, each with an area
pub record AreApart (added : AddedItems) : Type 0 where
  -- each entry has an area
  pub sized : length added.entries ≡ length added.areas
  -- none is of a file
  pub of_no_file : IsTrue (all (map (λ entry. not (is_some entry.file)) added.entries))

-- the same world, with these bytes after what is stored
abbrev pub with_tail : Roots → meaning.Memory → meaning.Memory
with_tail tail memory = record memory { store = memory.store ++ tail }

-- so many roots are stored at the end
abbrev pub IsLong : {A : Type 0} → ℕ → Tried meaning.Memory A → Type 0
IsLong roots (Got trace value memory) = length memory.store ≡ roots
IsLong roots (Ends trace kind memory) = length memory.store ≡ roots

-- both show and give the same, and leave the same, but for these bytes after what is stored
pub record Keeps {A : Type 0} (tail : Roots) (roots : ℕ)
    (wide plain : Tried meaning.Memory A) : Type 0 where
  -- the same is shown and given, with these bytes after what is stored
  pub same : wide ≡ keeping (with_tail tail) plain
  -- as many roots are stored as before
  pub long : IsLong roots plain
