-- What drafts declare, and their first fault.
use Rattle.std.specs.Prelude.{ℕ, ◌+◌, ◌==◌, List, [], ◌∷◌, ◌++◌, length, map, Option, Some, None, slice_get, if◌then◌else◌}
use Rattle.std.specs.List.{fold}
use Rattle.cob_store.specs.sizes.Size.{sized}
use Rattle.cob_tree.specs.declared.entry.Entry.{Entry}
use Rattle.cob_tree.specs.declared.picture.Picture.{Picture}
use Rattle.cob_tree.specs.declared.picture.Usage.{Usage}
use Rattle.cob_tree.specs.declared.picture.Usage.TheVariants.{Display}
use Rattle.cobol_grammar.specs.declared.data_forms.draft.Divisions.{Divisions}
use Rattle.cobol_grammar.specs.declared.data_forms.draft.EntryDraft.{EntryDraft}
use Rattle.cobol_grammar.specs.declared.data_forms.draft.FdDraft.{FdDraft}
use Rattle.cobol_grammar.specs.declared.data_forms.draft.SelectDraft.{SelectDraft}
use Rattle.symbol_tables.specs.data_names.Names.{is_group}
use Rattle.parser_combinators.specs.Note.{earliest}
use Rattle.parser_combinators.specs.declared.note.Note.{Note}
use Rattle.declaration_checks.specs.declared.declaring.Declared.{Declared}
use Rattle.declaration_checks.specs.declared.judging.Judged.{Judged}
use Rattle.declaration_checks.specs.Base.{base_of}
use Rattle.declaration_checks.specs.File.{fds_fault, file_number, file_of, selects_fault}
use Rattle.declaration_checks.specs.Redefining.{redefined_in}
use Rattle.declaration_checks.specs.Rule.{entry_fault}
use Rattle.declaration_checks.specs.Standing.{behind}
use Rattle.declaration_checks.specs.Usage.{found_usage, own_usages, usages_of}

-- ---- the entries by their drafts alone, the records of files first

-- the entries of these drafts, in the FD of a file or in none
abbrev pub section_bases : Option ℕ → List EntryDraft → List Entry
section_bases file drafts = map (base_of file) drafts

-- the entries of these FDs, the first of which has this number
abbrev pub record_bases : List SelectDraft → (at : ℕ) → List FdDraft → List Entry
record_bases selects at [] = []
record_bases selects at (fd ∷ fds) =
    section_bases (Some (file_number selects fd at)) fd.entries ++ record_bases selects (at + 1) fds

-- the entries of a program by their drafts alone
abbrev pub bases_of : Divisions → List Entry
bases_of divisions =
    record_bases divisions.selects 0 divisions.data_part.fds
    ++ section_bases None divisions.data_part.storage

-- the usage that each of these entries has by its clause or is handed down to it
abbrev pub usages_in : List Entry → Divisions → List (Option Usage)
usages_in bases divisions = usages_of bases (own_usages divisions.data_part)

-- ---- the entries with what they redefine, and with their usages

-- the picture of an entry; a group has none
abbrev pub picture_of : List Entry → ℕ → Entry → Option Picture
picture_of bases at entry = if is_group entry (behind bases at) then None else entry.picture

-- the usage, or DISPLAY where there is none
abbrev pub usage_or : Option Usage → Usage
usage_or None = Display
usage_or (Some usage) = usage

-- the usage of an entry; of a group it is DISPLAY
abbrev pub usage_of : List Entry → List (Option Usage) → ℕ → Entry → Usage
usage_of bases usages at entry =
    if is_group entry (behind bases at) then Display
    else usage_or (found_usage (slice_get usages at))

-- what an item redefines; a level 88 redefines nothing
abbrev pub redefines_of : List Entry → ℕ → Entry → EntryDraft → Option ℕ
redefines_of bases at entry draft =
    if entry.level == 88 then None
    else redefined_in bases at entry draft.clauses

-- an entry with its picture, its usage and what it redefines
abbrev pub settled : List Entry → List (Option Usage) → ℕ → EntryDraft → Entry → Entry
settled bases usages at draft entry = record {
  level = entry.level;
  name = entry.name;
  file = entry.file;
  redefines = redefines_of bases at entry draft;
  picture = picture_of bases at entry;
  sign = entry.sign;
  usage = usage_of bases usages at entry;
  occurs = entry.occurs;
  value = entry.value;
  ranges = entry.ranges;
}

-- the entries with the next one settled after them
abbrev pub settled_at : List Entry → List (Option Usage) → List Entry → EntryDraft →
    Option Entry → List Entry
settled_at bases usages entries draft None = entries
settled_at bases usages entries draft (Some entry) =
    entries ++ settled bases usages (length entries) draft entry ∷ []

-- the entry of this draft after those that are settled
abbrev pub settle : List Entry → List (Option Usage) → List Entry → EntryDraft → List Entry
settle bases usages entries draft =
    settled_at bases usages entries draft (slice_get bases (length entries))

-- the entries of these drafts after those that are settled
abbrev pub settle_all : List Entry → List (Option Usage) → List Entry → List EntryDraft → List Entry
settle_all bases usages entries drafts = fold (settle bases usages) entries drafts

-- the entries of an FD after those that are settled
abbrev pub settle_records : List Entry → List (Option Usage) → List Entry → FdDraft → List Entry
settle_records bases usages entries fd = settle_all bases usages entries fd.entries

-- the entries of a program, each with its usage and what it redefines
abbrev pub settled_by : List Entry → List (Option Usage) → Divisions → List Entry
settled_by bases usages divisions =
    settle_all bases usages (fold (settle_records bases usages) [] divisions.data_part.fds)
    divisions.data_part.storage

-- the entries that a program declares
abbrev pub entries_of : Divisions → List Entry
entries_of divisions =
    settled_by (bases_of divisions) (usages_in (bases_of divisions) divisions) divisions

-- ---- their faults

-- the entry with this draft is judged too, if it is there
abbrev pub judged_at : List Entry → List ℕ → List (Option Usage) → Judged → EntryDraft →
    Option Entry → Judged
judged_at bases sizes usages judged draft None = judged
judged_at bases sizes usages judged draft (Some entry) = record {
  at = judged.at + 1;
  fault = earliest judged.fault (entry_fault bases sizes usages judged.at entry draft);
}

-- the entries judged so far, and the next one
abbrev pub judge : List Entry → List ℕ → List (Option Usage) → Judged → EntryDraft → Judged
judge bases sizes usages judged draft =
    judged_at bases sizes usages judged draft (slice_get bases judged.at)

-- the entries of these drafts are judged too
abbrev pub judge_all : List Entry → List ℕ → List (Option Usage) → Judged → List EntryDraft → Judged
judge_all bases sizes usages judged drafts = fold (judge bases sizes usages) judged drafts

-- the entries of an FD are judged too
abbrev pub judge_records : List Entry → List ℕ → List (Option Usage) → Judged → FdDraft → Judged
judge_records bases sizes usages judged fd = judge_all bases sizes usages judged fd.entries

-- all entries of a program are judged
abbrev pub judged_by : List Entry → List ℕ → List (Option Usage) → Judged → Divisions → Judged
judged_by bases sizes usages judged divisions =
    judge_all bases sizes usages
    (fold (judge_records bases sizes usages) judged divisions.data_part.fds)
    divisions.data_part.storage

-- the first fault of a SELECT or an FD
abbrev pub files_fault : Divisions → Option Note
files_fault divisions =
    earliest (selects_fault divisions.data_part.fds divisions.selects)
    (fds_fault divisions.selects divisions.data_part.fds)

-- the judgement before the first entry
abbrev pub start_of : Divisions → Judged
start_of divisions = record { at = 0; fault = files_fault divisions }

-- the first fault of the files and entries of a program
abbrev pub fault_of : Divisions → Option Note
fault_of divisions =
    (judged_by (bases_of divisions) (sized (entries_of divisions)).sizes
    (usages_in (bases_of divisions) divisions) (start_of divisions) divisions).fault

-- what a program declares
abbrev pub declared_of : Divisions → Declared
declared_of divisions = record {
  files = map file_of divisions.selects;
  entries = entries_of divisions;
  fault = fault_of divisions;
}
