-- The names of a program's files, and the rules on files by these names alone.
use Rattle.std.specs.Prelude.{ℕ, ◌+◌, List, [], ◌∷◌, map, take, Option, if◌then◌else◌}
use Rattle.std.specs.List.{list_any}
use Rattle.std.specs.Str.{bytes_eq}
use Rattle.cobol_grammar.specs.declared.data_forms.draft.FdDraft.{FdDraft}
use Rattle.cobol_grammar.specs.declared.data_forms.draft.SelectDraft.{SelectDraft}
use Rattle.parser_combinators.specs.declared.note.NameKind.TheVariants.{Duplicate, Usage}
use Rattle.parser_combinators.specs.declared.note.Note.{Note}
use Rattle.parser_combinators.specs.Note.{earliest}
use Rattle.declaration_checks.specs.declared.file_names.FileNames.{FileNames}
use Rattle.declaration_checks.specs.Fault.{fault_at, fault_unless, first_of}
use Rattle.declaration_checks.specs.File.{duplicate_fault}

-- the names of the SELECTs
abbrev pub selected : List SelectDraft → List (List ℕ)
selected selects = map (λ select. select.name) selects

-- the names of the FDs
abbrev pub described : List FdDraft → List (List ℕ)
described fds = map (λ fd. fd.name) fds

-- the names of the SELECTs and of the FDs
abbrev pub names_of : List SelectDraft → List FdDraft → FileNames
names_of selects fds = record { selects = selected selects; fds = described fds }

-- what is wrong with the name of the SELECT of this number: an earlier one has it, or no FD does
abbrev pub named_fault : FileNames → (at : ℕ) → SelectDraft → Option Note
named_fault names at select =
    if list_any (bytes_eq select.name) (take at names.selects)
    then fault_at Duplicate select.at
    else fault_unless (list_any (bytes_eq select.name) names.fds) Usage select.at

-- what is wrong with the SELECT of this number
abbrev pub select_fault : FileNames → (at : ℕ) → SelectDraft → Option Note
select_fault names at select =
    first_of (named_fault names at select ∷ duplicate_fault select.statuses ∷ [])

-- the first fault of SELECTs from this number on, where this one was found before
abbrev pub selects_from : FileNames → Option Note → (at : ℕ) → List SelectDraft → Option Note
selects_from names fault at [] = fault
selects_from names fault at (select ∷ selects) =
    selects_from names (earliest fault (select_fault names at select)) (at + 1) selects

-- what is wrong with the name of the FD of this number: an earlier one has it, or no SELECT does
abbrev pub fd_fault : FileNames → (at : ℕ) → FdDraft → Option Note
fd_fault names at fd =
    if list_any (bytes_eq fd.name) (take at names.fds)
    then fault_at Duplicate fd.at
    else fault_unless (list_any (bytes_eq fd.name) names.selects) Usage fd.at

-- the first fault of FDs from this number on, where this one was found before
abbrev pub fds_from : FileNames → Option Note → (at : ℕ) → List FdDraft → Option Note
fds_from names fault at [] = fault
fds_from names fault at (fd ∷ fds) =
    fds_from names (earliest fault (fd_fault names at fd)) (at + 1) fds
