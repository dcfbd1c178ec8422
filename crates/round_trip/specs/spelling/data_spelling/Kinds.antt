-- The tokens that are printed before the PROCEDURE DIVISION.
use Rattle.std.specs.Prelude.{ℕ, List, [], ◌∷◌, ◌++◌, Some, codes}
use Rattle.cob_tree.specs.declared.entry.Entry.{Entry}
use Rattle.cob_tree.specs.declared.file.FileEntry.{FileEntry}
use Rattle.cob_tree.specs.declared.program.Program.{Program}
use Rattle.cobol_lex.specs.declared.token.TokenKind.TheVariants as kind
use Rattle.unparser.specs.Token.{Tokens}
use Rattle.unparser.specs.Place.{entry_name}
use Rattle.unparser.specs.File.{file_tokens}
use Rattle.cobol_print.specs.units.Division.{select_tokens, status_tokens}
use Rattle.cobol_print.specs.units.Entry.{level_text, clauses_tokens}
use Rattle.round_trip.specs.spelling.data_spelling.Sections.{Fd, records}

-- a header of two words
abbrev pub header_kinds : (first second : List ℕ) → Tokens
header_kinds first second = kind.Word first ∷ kind.Word second ∷ kind.Period ∷ []

-- the IDENTIFICATION DIVISION
abbrev pub title_kinds : (title : List ℕ) → Tokens
title_kinds title =
    header_kinds (codes "IDENTIFICATION") (codes "DIVISION")
    ++ (kind.Word (codes "PROGRAM-ID") ∷ kind.Period ∷ kind.Word title ∷ kind.Period ∷ [])

-- ---- entries

-- an entry
abbrev pub entry_kinds : Program → Entry → Tokens
entry_kinds program entry =
    kind.Digits (level_text entry.level) ∷ kind.Word (entry_name (Some entry))
    ∷ clauses_tokens program entry ++ kind.Period ∷ []

-- these entries
abbrev pub entries_kinds : Program → List Entry → Tokens
entries_kinds program [] = []
entries_kinds program (entry ∷ entries) =
    entry_kinds program entry ++ entries_kinds program entries

-- ---- the environment division

-- the SELECT of a file
abbrev pub select_kinds : Program → FileEntry → Tokens
select_kinds program file =
    select_tokens file ++ status_tokens program file.status ++ kind.Period ∷ []

-- the SELECTs of these files
abbrev pub selects_kinds : Program → List FileEntry → Tokens
selects_kinds program [] = []
selects_kinds program (file ∷ files) = select_kinds program file ++ selects_kinds program files

-- the ENVIRONMENT DIVISION, if there are files
abbrev pub environment_kinds : Program → List FileEntry → Tokens
environment_kinds program [] = []
environment_kinds program (file ∷ files) =
    header_kinds (codes "ENVIRONMENT") (codes "DIVISION")
    ++ (header_kinds (codes "INPUT-OUTPUT") (codes "SECTION")
    ++ ((kind.Word (codes "FILE-CONTROL") ∷ kind.Period ∷ [])
    ++ selects_kinds program (file ∷ files)))

-- ---- the data division

-- an FD with its records
abbrev pub fd_kinds : Program → Fd → Tokens
fd_kinds program fd =
    (kind.Word (codes "FD") ∷ file_tokens program fd.number ++ kind.Period ∷ [])
    ++ entries_kinds program (records fd)

-- these FDs
abbrev pub fds_kinds : Program → List Fd → Tokens
fds_kinds program [] = []
fds_kinds program (fd ∷ fds) = fd_kinds program fd ++ fds_kinds program fds

-- the FILE SECTION, if there are FDs
abbrev pub file_section_kinds : Program → List Fd → Tokens
file_section_kinds program [] = []
file_section_kinds program (fd ∷ fds) =
    header_kinds (codes "FILE") (codes "SECTION") ++ fds_kinds program (fd ∷ fds)

-- the WORKING-STORAGE SECTION, if it has entries
abbrev pub storage_kinds : Program → List Entry → Tokens
storage_kinds program [] = []
storage_kinds program (entry ∷ entries) =
    header_kinds (codes "WORKING-STORAGE") (codes "SECTION")
    ++ entries_kinds program (entry ∷ entries)

-- the sections of the DATA DIVISION
abbrev pub sections_kinds : Program → List Fd → List Entry → Tokens
sections_kinds program fds storage =
    file_section_kinds program fds ++ storage_kinds program storage

-- the DATA DIVISION, if it has sections
abbrev pub data_kinds : Program → List Fd → List Entry → Tokens
data_kinds program [] [] = []
data_kinds program fds storage =
    header_kinds (codes "DATA") (codes "DIVISION") ++ sections_kinds program fds storage

-- ---- all of them

-- all that is before the PROCEDURE DIVISION
abbrev pub divisions_kinds : Program → List Fd → List Entry → Tokens
divisions_kinds program fds storage =
    title_kinds program.name
    ++ (environment_kinds program program.files ++ data_kinds program fds storage)
