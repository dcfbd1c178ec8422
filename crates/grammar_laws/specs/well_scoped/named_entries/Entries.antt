-- Entries and files that are named.
use Rattle.std.specs.Prelude.{◌≡◌, nat_le, ◌==◌, Bool, true, ◌&&◌, not, List, [], ◌∷◌, map}
use Rattle.cob_tree.specs.declared.entry.Entry.{Entry}
use Rattle.cob_tree.specs.declared.entry.Span.{Span}
use Rattle.cob_tree.specs.declared.file.FileEntry.{FileEntry}
use Rattle.control_flow_theory.specs.language.All.{all}
use Rattle.program_facts.specs.well_scoped.Part.{Counts, if_any, place_named}
use Rattle.grammar_laws.specs.form_results.Numbered.{is_literal}

-- the first entry, if there is one, is no level 88
abbrev pub begins_with_item : List Entry → Bool
begins_with_item [] = true
begins_with_item (entry ∷ entries) = not (entry.level == 88)

-- the entry has a level
abbrev pub has_level : Entry → Bool
has_level entry = nat_le 1 entry.level

-- a value, or each end of a range of values, is a literal
abbrev pub span_literal : Span → Bool
span_literal span = is_literal span.from && if_any is_literal span.to

-- the values of an entry are literals
abbrev pub values_literal : Entry → Bool
values_literal entry = if_any is_literal entry.value && all (map span_literal entry.ranges)

-- the first entry is no level 88, each has a level, and their values are literals
pub record EntriesNamed (entries : List Entry) : Type 0 where
  pub begins : begins_with_item entries ≡ true
  pub levels : all (map has_level entries) ≡ true
  -- neither a value nor a bound of a span is a place
  pub values : all (map values_literal entries) ≡ true

-- what a file's status item names is there
abbrev pub file_named : Counts → FileEntry → Bool
file_named counts file = if_any (place_named counts) file.status
