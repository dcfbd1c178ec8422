-- What entries are judged by, in tables that are made once.
use Rattle.std.specs.Prelude.{ℕ, List, [], ◌∷◌, ◌++◌, Option}
use Rattle.cob_tree.specs.declared.entry.Entry.{Entry}
use Rattle.cob_tree.specs.declared.picture.Usage.{Usage}
use Rattle.symbol_tables.specs.data_names.Grouping.{word_list}
use Rattle.symbol_tables.specs.data_names.Nesting.{nestings_of}
use Rattle.declaration_checks.specs.declared.table.Tables.{Tables}
use Rattle.declaration_checks.specs.Redefining.{last_alike}

-- the last entry before each entry that it could redefine, where this is such an entry itself
unfoldable pub alikes_from : (before entries : List Entry) → List (Option ℕ)
alikes_from before [] = []
alikes_from before (entry ∷ behind) =
    last_alike entry before ∷ alikes_from (entry ∷ before) behind

-- the last entry before each entry that it could redefine
abbrev pub alikes_of : List Entry → List (Option ℕ)
alikes_of entries = alikes_from [] entries

-- the names of entries, without FILLER
abbrev pub names_in : List Entry → List (List ℕ)
names_in [] = []
names_in (entry ∷ entries) = word_list entry.name ++ names_in entries

-- the tables of these entries, which have these usages
abbrev pub tables_of : List Entry → List (Option Usage) → Tables
tables_of entries usages = record {
  nestings = nestings_of entries;
  alikes = alikes_of entries;
  names = names_in entries;
  usages = usages;
}
