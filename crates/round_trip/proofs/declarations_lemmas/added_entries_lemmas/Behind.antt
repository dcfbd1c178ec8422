-- What stands behind an entry makes no other group of it, where only items of level 01 come, and these stand in no group.
use Rattle.std.proofs.Common.{◌≡◌, ℕ, zero, suc, Bool, true, false, ◌&&◌, ◌||◌, nat_lt, if◌then◌else◌, List, [], ◌∷◌, ◌++◌, map, Option, Some, None, refl, ap, ◌∙◌, arith}
use Rattle.std.specs.Prelude.{◌==◌}
use Rattle.std.proofs.lemmas.Bool.{and_right, le-ltb}
use Rattle.cob_tree.specs.declared.entry.Entry.{Entry}
use Rattle.cob_tree.specs.declared.file.FileEntry.{FileEntry}
use Rattle.symbol_tables.specs.declared.data_names.name.ItemKind.{ItemKind}
use Rattle.symbol_tables.specs.declared.data_names.name.ItemKind.TheVariants as kinds
use Rattle.symbol_tables.specs.declared.data_names.name.Name.{Name}
use Rattle.symbol_tables.specs.data_names.Grouping.{bound_of, groups_of, has_items, is_numbered, same_file}
use Rattle.symbol_tables.specs.data_names.Names.{is_group, picture_kind, name_in, name_of, names_from}
use Rattle.round_trip.specs.declarations.added_entries.Items.{WholeItem, whole_entry, whole_entries}

-- ---- groups

-- the first of level 01 ends the search
stops : (level : ℕ) (file : Option ℕ) (items : List WholeItem) → is_numbered level ≡ true → has_items level file (whole_entries items) ≡ false
unfolding has_items
stops level file [] h = refl
stops level None (item ∷ items) h = no level h
  where
    no : (level : ℕ) → is_numbered level ≡ true → nat_lt level 1 ≡ false
    no zero h = absurd cc
    no (suc n) h = le-ltb (suc n) 1 (omega arith)
stops level (Some file) (item ∷ items) h = refl

has_items-added : (level : ℕ) (file : Option ℕ) (behind : List Entry) (items : List WholeItem) → is_numbered level ≡ true → has_items level file (behind ++ whole_entries items) ≡ has_items level file behind
unfolding has_items
has_items-added level file [] items h = stops level file items h
has_items-added level file (entry ∷ behind) items h =
    ap (λ b. if same_file file entry.file then (if is_numbered entry.level then nat_lt level entry.level else b) else false) (has_items-added level file behind items h)

pub group-added : (entry : Entry) (behind : List Entry) (items : List WholeItem) → is_group entry (behind ++ whole_entries items) ≡ is_group entry behind
group-added entry behind items = go (is_numbered entry.level) refl
  where
    go : (b : Bool) → is_numbered entry.level ≡ b → (b && has_items entry.level entry.file (behind ++ whole_entries items)) ≡ (b && has_items entry.level entry.file behind)
    go true e = has_items-added entry.level entry.file behind items e
    go false e = refl

-- an item of level 01 before others is no group
pub no-group : (item : WholeItem) (items : List WholeItem) → is_group (whole_entry item) (whole_entries items) ≡ false
no-group item items = stops 1 None items refl

holds-none : (level : ℕ) → ((is_numbered level || level == 77) && nat_lt level 1) ≡ false
holds-none zero = refl
holds-none (suc level) = and_right (is_numbered (suc level) || suc level == 77) (nat_lt (suc level) 1) (le-ltb (suc level) 1 (omega arith))

-- and it stands in none
pub no-groups : (file : Option ℕ) (before : List Entry) → groups_of 1 file before ≡ []
unfolding groups_of
no-groups file [] = refl
no-groups file (entry ∷ before) =
    ap (λ b. if same_file file entry.file then (if b then entry ∷ groups_of (bound_of entry.level) file before else groups_of 1 file before) else []) (holds-none entry.level)
    ∙ ap (λ l. if same_file file entry.file then l else []) (no-groups file before)
    ∙ none (same_file file entry.file)
  where
    empty : List Entry
    empty = []

    none : (b : Bool) → (if b then empty else empty) ≡ empty
    none true = refl
    none false = refl

-- ---- names

abbrev pub whole_name : WholeItem → Name
whole_name item = record { word = Some item.name; above = []; kind = kinds.Number true; dims = 0 }

abbrev pub whole_names : List WholeItem → List Name
whole_names = map whole_name

name-whole : (files : List FileEntry) (before : List Entry) (item : WholeItem) (items : List WholeItem) → name_of files before (whole_entry item) (whole_entries items) ≡ whole_name item
name-whole files before item items =
    ap (λ groups. name_in files groups (whole_entry item) (whole_entries items)) (no-groups None before)
    ∙ ap (λ b. named (if b then kinds.Group else picture_kind (whole_entry item).picture)) (no-group item items)
  where
    named : ItemKind → Name
    named kind = record { word = Some item.name; above = []; kind = kind; dims = 0 }

names-whole : (files : List FileEntry) (before : List Entry) (items : List WholeItem) → names_from files before (whole_entries items) ≡ whole_names items
unfolding names_from
names-whole files before [] = refl
names-whole files before (item ∷ items) =
    ap (λ n. n ∷ names_from files (whole_entry item ∷ before) (whole_entries items)) (name-whole files before item items)
    ∙ ap (λ l. whole_name item ∷ l) (names-whole files (whole_entry item ∷ before) items)

name-added : (files : List FileEntry) (before : List Entry) (entry : Entry) (behind : List Entry) (items : List WholeItem) → name_of files before entry (behind ++ whole_entries items) ≡ name_of files before entry behind
name-added files before entry behind items =
    ap (λ b. named (if entry.level == 88 then kinds.Condition else (if b then kinds.Group else picture_kind entry.picture))) (group-added entry behind items)
  where
    named : ItemKind → Name
    named kind = record (name_of files before entry behind) { kind = kind }

pub names-added : (files : List FileEntry) (before entries : List Entry) (items : List WholeItem) → names_from files before (entries ++ whole_entries items) ≡ names_from files before entries ++ whole_names items
unfolding names_from
names-added files before [] items = names-whole files before items
names-added files before (entry ∷ behind) items =
    ap (λ n. n ∷ names_from files (entry ∷ before) (behind ++ whole_entries items)) (name-added files before entry behind items)
    ∙ ap (λ l. name_of files before entry behind ∷ l) (names-added files (entry ∷ before) behind items)
