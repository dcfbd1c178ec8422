-- Entries and files as references see them.
use Rattle.std.specs.Prelude.{ℕ, Bool, ◌&&◌, ◌==◌, List, [], ◌∷◌, ◌++◌, map, Option, Some, None, slice_get, if◌then◌else◌}
use Rattle.cob_tree.specs.declared.entry.Entry.{Entry}
use Rattle.cob_tree.specs.declared.file.FileEntry.{FileEntry}
use Rattle.cob_tree.specs.declared.picture.Picture.{Picture}
use Rattle.cob_tree.specs.declared.picture.Picture.TheVariants as pictures
use Rattle.symbol_tables.specs.declared.data_names.name.ItemKind.{ItemKind}
use Rattle.symbol_tables.specs.declared.data_names.name.ItemKind.TheVariants as kinds
use Rattle.symbol_tables.specs.declared.data_names.name.Name.{Name}
use Rattle.symbol_tables.specs.data_names.Grouping.{bound_of, dims_in, group_words, groups_of, has_items, is_numbered}

-- the names of a program's entries and files, each at its number
pub record Names : Type 0 where
  pub items : List Name
  pub files : List (List ℕ)

-- the kind of an item with this picture: a number, which may be whole, an edited item, or text
abbrev pub picture_kind : Option Picture → ItemKind
picture_kind (Some (pictures.Number signed whole part)) = kinds.Number (part == 0)
picture_kind (Some (pictures.Edited mask)) = kinds.Edited
picture_kind _ = kinds.Text

-- the entry is an item of a record with items below it
abbrev pub is_group : Entry → (behind : List Entry) → Bool
is_group entry behind = is_numbered entry.level && has_items entry.level entry.file behind

-- the kind of an entry: a level 88, a group, or by its picture
abbrev pub kind_of : Entry → (behind : List Entry) → ItemKind
kind_of entry behind =
    if entry.level == 88 then kinds.Condition
    else (if is_group entry behind then kinds.Group else picture_kind entry.picture)

-- the name of a file, if it is there
abbrev pub file_name : Option FileEntry → List (List ℕ)
file_name (Some file) = file.name ∷ []
file_name None = []

-- the name of the file in whose FD an entry is
abbrev pub file_words : List FileEntry → Option ℕ → List (List ℕ)
file_words files None = []
file_words files (Some file) = file_name (slice_get files file)

-- an entry with these groups above it
abbrev pub name_in : List FileEntry → (groups : List Entry) → Entry → (behind : List Entry) → Name
name_in files groups entry behind = record {
  word = entry.name;
  above = group_words groups ++ file_words files entry.file;
  kind = kind_of entry behind;
  dims = dims_in (entry ∷ groups);
}

-- the name of an entry between those before it, the last first, and those after it
abbrev pub name_of : List FileEntry → (before : List Entry) → Entry → (behind : List Entry) → Name
name_of files before entry behind =
    name_in files (groups_of (bound_of entry.level) entry.file before) entry behind

-- the names of these entries, those before them the last first
unfoldable pub names_from : List FileEntry → (before entries : List Entry) → List Name
names_from files before [] = []
names_from files before (entry ∷ behind) =
    name_of files before entry behind ∷ names_from files (entry ∷ before) behind

-- the names of a program's entries and files
abbrev pub names_of : List FileEntry → List Entry → Names
names_of files entries = record {
  items = names_from files [] entries;
  files = map (λ file. file.name) files;
}
