-- The rules on files: each has one SELECT and one FD.
use Rattle.std.specs.Prelude.{ℕ, ◌+◌, ◌-◌, Bool, List, [], ◌∷◌, ◌++◌, length, position, slice_get, Option, Some, None, if◌then◌else◌}
use Rattle.std.specs.List.{list_any}
use Rattle.std.specs.Str.{bytes_eq}
use Rattle.cob_tree.specs.declared.file.FileEntry.{FileEntry}
use Rattle.cob_tree.specs.declared.place.Place.{Place}
use Rattle.cobol_grammar.specs.declared.data_forms.draft.FdDraft.{FdDraft}
use Rattle.cobol_grammar.specs.declared.data_forms.draft.SelectDraft.{SelectDraft}
use Rattle.cobol_grammar.specs.declared.data_forms.draft.StatusDraft.{StatusDraft}
use Rattle.parser_combinators.specs.declared.note.NameKind.TheVariants.{Duplicate, Usage}
use Rattle.parser_combinators.specs.declared.note.Note.{Note}
use Rattle.parser_combinators.specs.Note.{earliest}
use Rattle.declaration_checks.specs.Fault.{fault_at, fault_unless, first_of}

-- the SELECT is of the file with this name
abbrev pub is_selected : List ℕ → SelectDraft → Bool
is_selected name select = bytes_eq select.name name

-- the FD is of the file with this name
abbrev pub is_described : List ℕ → FdDraft → Bool
is_described name fd = bytes_eq fd.name name

-- the fault of FILE STATUS twice in one SELECT
abbrev pub duplicate_fault : List StatusDraft → Option Note
duplicate_fault (first ∷ second ∷ statuses) = fault_at Usage second.at
duplicate_fault _ = None

-- what is wrong with a SELECT's name: an earlier one has it, or no FD does
abbrev pub named_fault : List FdDraft → (before : List SelectDraft) → SelectDraft → Option Note
named_fault fds before select =
    if list_any (is_selected select.name) before
    then fault_at Duplicate select.at
    else fault_unless (list_any (is_described select.name) fds) Usage select.at

-- what is wrong with a SELECT
abbrev pub select_fault : List FdDraft → (before : List SelectDraft) → SelectDraft → Option Note
select_fault fds before select =
    first_of (named_fault fds before select ∷ duplicate_fault select.statuses ∷ [])

-- the first fault of these, where this one was found before
abbrev pub selects_from : List FdDraft → Option Note → (before selects : List SelectDraft) →
    Option Note
selects_from fds fault before [] = fault
selects_from fds fault before (select ∷ selects) =
    selects_from fds (earliest fault (select_fault fds before select)) (before ++ select ∷ [])
    selects

-- the first fault of the SELECTs
abbrev pub selects_fault : List FdDraft → List SelectDraft → Option Note
selects_fault fds selects = selects_from fds None [] selects

-- what is wrong with an FD's name: an earlier one has it, or no SELECT does
abbrev pub fd_fault : List SelectDraft → (before : List FdDraft) → FdDraft → Option Note
fd_fault selects before fd =
    if list_any (is_described fd.name) before
    then fault_at Duplicate fd.at
    else fault_unless (list_any (is_selected fd.name) selects) Usage fd.at

-- the first fault of these FDs, where this one was found before
abbrev pub fds_from : List SelectDraft → Option Note → (before fds : List FdDraft) → Option Note
fds_from selects fault before [] = fault
fds_from selects fault before (fd ∷ fds) =
    fds_from selects (earliest fault (fd_fault selects before fd)) (before ++ fd ∷ []) fds

-- the first fault of the FDs
abbrev pub fds_fault : List SelectDraft → List FdDraft → Option Note
fds_fault selects fds = fds_from selects None [] fds

-- the number of an FD's file; without SELECT it is one that no file has
abbrev pub number_by : (count at : ℕ) → Option ℕ → ℕ
number_by count at None = count + at
number_by count at (Some number) = number

-- the number of an FD's file: that of its SELECT
abbrev pub file_number : List SelectDraft → FdDraft → (at : ℕ) → ℕ
file_number selects fd at = number_by (length selects) at (position (is_selected fd.name) selects)

-- the status item of a FILE STATUS clause
abbrev pub status_by : Option StatusDraft → Option Place
status_by None = None
status_by (Some status) = Some status.place

-- the status item of a SELECT: the last one; that there are several is a fault
abbrev pub status_of : List StatusDraft → Option Place
status_of statuses = status_by (slice_get statuses (length statuses - 1))

-- the file of a SELECT
abbrev pub file_of : SelectDraft → FileEntry
file_of select =
    record { name = select.name; assign = select.assign; status = status_of select.statuses }
