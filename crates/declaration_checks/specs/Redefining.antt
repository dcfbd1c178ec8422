-- What an entry redefines: the last entry of its level and group that itself redefines nothing.
use Rattle.std.specs.Prelude.{ℕ, Bool, false, not, ◌&&◌, ◌||◌, ◌==◌, nat_le, List, [], ◌∷◌, length, reverse, Option, Some, None, slice_get, if◌then◌else◌}
use Rattle.std.specs.List.{list_any}
use Rattle.std.specs.Option.{is_some}
use Rattle.std.specs.Str.{bytes_eq}
use Rattle.cob_tree.specs.declared.entry.Entry.{Entry}
use Rattle.cobol_grammar.specs.declared.data_forms.draft.Clause.{Clause}
use Rattle.cobol_grammar.specs.declared.data_forms.draft.Clause.TheVariants as drafts
use Rattle.symbol_tables.specs.data_names.Grouping.{bound_of, holds, same_file}
use Rattle.parser_combinators.specs.declared.note.NameKind.TheVariants.{Redefines, Unknown}
use Rattle.parser_combinators.specs.declared.note.Note.{Note}
use Rattle.parser_combinators.specs.declared.note.Position.{Position}
use Rattle.declaration_checks.specs.declared.clause.ClauseKind.TheVariants as kinds
use Rattle.declaration_checks.specs.Clause.{clause_of}
use Rattle.declaration_checks.specs.Fault.{fault_at, fault_unless}
use Rattle.declaration_checks.specs.Standing.{before}

-- the entry has the same level, and redefines nothing
abbrev pub is_alike : Entry → Entry → Bool
is_alike entry other = other.level == entry.level && not (is_some other.redefines)

-- the number of that entry among those before this one, the last first; its group ends the search
unfoldable pub last_alike : Entry → (before : List Entry) → Option ℕ
last_alike entry [] = None
last_alike entry (other ∷ before) =
    if same_file entry.file other.file
    then (if holds (bound_of entry.level) other then None
    else (if is_alike entry other then Some (length before) else last_alike entry before))
    else None

-- there is a name, and it is this one
abbrev pub is_called_by : List ℕ → Option (List ℕ) → Bool
is_called_by name None = false
is_called_by name (Some found) = bytes_eq found name

-- the entry has this name
abbrev pub is_called : List ℕ → Entry → Bool
is_called name entry = is_called_by name entry.name

-- the other entry may be redefined: it has the name that is given, and neither repeats
abbrev pub is_meant : List ℕ → Entry → Entry → Bool
is_meant name entry other =
    is_called name other && (not (is_some other.occurs) && not (is_some entry.occurs))

-- the number of the entry, if it is the one that is meant
abbrev pub if_meant : List ℕ → Entry → ℕ → Option Entry → Option ℕ
if_meant name entry number None = None
if_meant name entry number (Some other) = if is_meant name entry other then Some number else None

-- the number, if it is that of the entry that is meant
abbrev pub meant_at : List Entry → List ℕ → Entry → Option ℕ → Option ℕ
meant_at bases name entry None = None
meant_at bases name entry (Some number) = if_meant name entry number (slice_get bases number)

-- the entry that is redefined, where it may be
abbrev pub redefined : List Entry → ℕ → Entry → List ℕ → Option ℕ
redefined bases at entry name =
    meant_at bases name entry (last_alike entry (reverse (before bases at)))

-- the fault of a name in REDEFINES: where no item has it, it is UNKNOWN; where it isn't the right
-- item's, REDEFINES
abbrev pub name_fault : List Entry → List ℕ → Position → Option Note
name_fault bases name at =
    if list_any (is_called name) bases then fault_at Redefines at else fault_at Unknown at

-- the size, or 0 where there is none
abbrev pub size_at : Option ℕ → ℕ
size_at None = 0
size_at (Some size) = size

-- the entry is no longer than what it redefines, unless it is of level 01, which may be
abbrev pub is_short : List ℕ → ℕ → Entry → ℕ → Bool
is_short sizes at entry item =
    entry.level == 1 || nat_le (size_at (slice_get sizes at)) (size_at (slice_get sizes item))

-- what is wrong with what is redefined: it isn't there, or the entry is longer
abbrev pub item_fault : List Entry → List ℕ → ℕ → Entry → List ℕ → Position → Option ℕ →
    Option Note
item_fault bases sizes at entry name name_at None = name_fault bases name name_at
item_fault bases sizes at entry name name_at (Some item) =
    fault_unless (is_short sizes at entry item) Redefines name_at

-- what is wrong with the name of a REDEFINES clause
abbrev pub redefined_fault : List Entry → List ℕ → ℕ → Entry → List ℕ → Position → Option Note
redefined_fault bases sizes at entry name name_at =
    item_fault bases sizes at entry name name_at (redefined bases at entry name)

-- what is wrong with a REDEFINES clause
abbrev pub redefines_by : List Entry → List ℕ → ℕ → Entry → Option Clause → Option Note
redefines_by bases sizes at entry (Some (drafts.Redefines clause_at name name_at)) =
    redefined_fault bases sizes at entry name name_at
redefines_by bases sizes at entry _ = None

-- what is wrong with an entry's REDEFINES clause
abbrev pub redefines_fault : List Entry → List ℕ → ℕ → Entry → List Clause → Option Note
redefines_fault bases sizes at entry clauses =
    redefines_by bases sizes at entry (clause_of kinds.Redefines clauses)

-- the number of the entry that an entry redefines by its clause
abbrev pub redefined_by : List Entry → ℕ → Entry → Option Clause → Option ℕ
redefined_by bases at entry (Some (drafts.Redefines clause_at name name_at)) =
    redefined bases at entry name
redefined_by bases at entry _ = None

-- the entry that an entry redefines, if it may
abbrev pub redefined_in : List Entry → ℕ → Entry → List Clause → Option ℕ
redefined_in bases at entry clauses =
    redefined_by bases at entry (clause_of kinds.Redefines clauses)
