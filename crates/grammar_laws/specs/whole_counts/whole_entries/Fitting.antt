-- Names that fit the entries for which they stand.
use Rattle.std.specs.Prelude.{ℕ, ◌≡◌, ◌+◌, nat_le, Bool, true, List, Option, Some, None, slice_get}
use Rattle.cob_tree.specs.declared.entry.Entry.{Entry}
use Rattle.cob_tree.specs.declared.picture.Picture.{Picture}
use Rattle.cob_tree.specs.declared.picture.Picture.TheVariants as pictures
use Rattle.symbol_tables.specs.declared.data_names.name.ItemKind.TheVariants as kinds
use Rattle.symbol_tables.specs.declared.data_names.name.Name.{Name}
use Rattle.symbol_tables.specs.data_names.Names.{Names}
use Rattle.program_facts.specs.whole_counts.Whole.{is_whole_entry}

-- each that is called a number without decimals stands for an entry that is one
abbrev pub NamesFit : Names → List Entry → Type 0
NamesFit names entries =
    (item : ℕ) (name : Name) → slice_get names.items item ≡ Some name →
    name.kind ≡ kinds.Number true → is_whole_entry (slice_get entries item) ≡ true

-- a number of at most 18 digits, or none
abbrev pub is_short : Option Picture → Bool
is_short None = true
is_short (Some (pictures.Number signed whole part)) = nat_le (whole + part) 18
is_short (Some (pictures.Letters count)) = true
is_short (Some (pictures.Any count)) = true
is_short (Some (pictures.Edited mask)) = true

-- the entry has such a picture
abbrev pub has_short_picture : Entry → Bool
has_short_picture entry = is_short entry.picture
