-- The divisions of a program as units.
use Rattle.std.specs.Prelude.{ℕ, ◌==◌, false, List, [], ◌∷◌, ◌++◌, map, Option, Some, None, codes, if◌then◌else◌}
use Rattle.std.specs.List.{flat_map}
use Rattle.cob_tree.specs.declared.entry.Entry.{Entry}
use Rattle.cob_tree.specs.declared.file.FileEntry.{FileEntry}
use Rattle.cob_tree.specs.declared.place.Place.{Place}
use Rattle.cob_tree.specs.declared.program.Paragraph.{Paragraph}
use Rattle.cob_tree.specs.declared.program.Program.{Program}
use Rattle.cob_tree.specs.declared.program.Sentence.{Sentence}
use Rattle.cobol_lex.specs.declared.token.TokenKind.TheVariants as kind
use Rattle.unparser.specs.Token.{Tokens, procedure_token}
use Rattle.unparser.specs.Place.{place_tokens}
use Rattle.unparser.specs.File.{file_tokens}
use Rattle.cobol_print.specs.declared.units.unit.PrintUnit.{PrintUnit}
use Rattle.cobol_print.specs.units.Unit.{unit_at, header, naming_header, section_header, ended}
use Rattle.cobol_print.specs.units.Entry.{entry_unit}
use Rattle.cobol_print.specs.units.Statement.{stmt_lines, list_lines}

-- the PROGRAM-ID with the program's name
abbrev pub program_id : (name : List ℕ) → PrintUnit
program_id name = naming_header (codes "PROGRAM-ID") name

-- ---- the environment division

-- the FILE STATUS clause, if there is a status item
abbrev pub status_tokens : Program → Option Place → Tokens
status_tokens program None = []
status_tokens program (Some place) =
    kind.Word (codes "FILE") ∷ kind.Word (codes "STATUS") ∷ kind.Word (codes "IS")
    ∷ place_tokens program place

-- the SELECT of a file with its ASSIGN
abbrev pub select_tokens : FileEntry → Tokens
select_tokens file =
    kind.Word (codes "SELECT") ∷ kind.Word file.name
    ∷ kind.Word (codes "ASSIGN") ∷ kind.Word (codes "TO") ∷ kind.Literal file.assign ∷ []

-- the entry of a file under FILE-CONTROL
abbrev pub file_unit : Program → FileEntry → PrintUnit
file_unit program file =
    unit_at 12 (select_tokens file ++ status_tokens program file.status ++ kind.Period ∷ [])

-- the entries of these files
abbrev pub file_units : Program → List FileEntry → List PrintUnit
file_units program files = map (file_unit program) files

-- the ENVIRONMENT DIVISION with these files
abbrev pub some_files_units : Program → List FileEntry → List PrintUnit
some_files_units program files =
    header (codes "ENVIRONMENT") (codes "DIVISION")
    ∷ header (codes "INPUT-OUTPUT") (codes "SECTION")
    ∷ unit_at 8 (kind.Word (codes "FILE-CONTROL") ∷ kind.Period ∷ []) ∷ file_units program files

-- the units of the ENVIRONMENT DIVISION, which is printed only where there are files
abbrev pub environment_units : Program → List FileEntry → List PrintUnit
environment_units program [] = []
environment_units program (file ∷ files) = some_files_units program (file ∷ files)

-- ---- the data division

-- the FD of a file
abbrev pub fd_unit : Program → (file : ℕ) → PrintUnit
fd_unit program file =
    unit_at 8 (kind.Word (codes "FD") ∷ file_tokens program file ++ kind.Period ∷ [])

-- the header of the FILE SECTION, and the FD of its first file
abbrev pub file_section : Program → (file : ℕ) → List PrintUnit
file_section program file =
    header (codes "FILE") (codes "SECTION") ∷ fd_unit program file ∷ []

-- the header of the WORKING-STORAGE SECTION
abbrev pub working_storage : List PrintUnit
working_storage = header (codes "WORKING-STORAGE") (codes "SECTION") ∷ []

-- the headers before an entry of a file, or of none, after one of another file, or of none, or
-- after no entry
abbrev pub headers_between : Program → (before : Option (Option ℕ)) → (file : Option ℕ) →
    List PrintUnit
headers_between program None None = working_storage
headers_between program None (Some file) = file_section program file
headers_between program (Some None) None = []
headers_between program (Some None) (Some file) = file_section program file
headers_between program (Some (Some other)) None = working_storage
headers_between program (Some (Some other)) (Some file) =
    if other == file then [] else fd_unit program file ∷ []

-- the entries, with the headers between them
abbrev pub entries_units : Program → (before : Option (Option ℕ)) → List Entry → List PrintUnit
entries_units program before [] = []
entries_units program before (entry ∷ entries) =
    headers_between program before entry.file ++ entry_unit program entry
    ∷ entries_units program (Some entry.file) entries

-- the DATA DIVISION, if there are entries
abbrev pub data_units : Program → List Entry → List PrintUnit
data_units program [] = []
data_units program (entry ∷ entries) =
    header (codes "DATA") (codes "DIVISION") ∷ entries_units program None (entry ∷ entries)

-- ---- the procedure division

-- the header of a section, if there is one
abbrev pub section_line : Option (List ℕ) → List PrintUnit
section_line None = []
section_line (Some name) = section_header name (codes "SECTION") ∷ []

-- the name of a paragraph, if it has one
abbrev pub named_line : Option (List ℕ) → List PrintUnit
named_line None = []
named_line (Some name) = unit_at 8 (procedure_token name ∷ kind.Period ∷ []) ∷ []

-- the lines of the statements of a sentence
abbrev pub sentence_lines : Program → Sentence → List PrintUnit
sentence_lines program sentence = list_lines (map (stmt_lines program) sentence.stmts) 12 false

-- the units of a sentence, with a period after the last of them
abbrev pub sentence_units : Program → Sentence → List PrintUnit
sentence_units program sentence = ended (sentence_lines program sentence)

-- a paragraph, with the header of the section that it begins
abbrev pub paragraph_units : Program → Paragraph → List PrintUnit
paragraph_units program paragraph =
    section_line paragraph.section ++ named_line paragraph.name
    ++ flat_map (sentence_units program) paragraph.sentences

-- the units of these paragraphs
abbrev pub paragraphs_units : Program → List Paragraph → List PrintUnit
paragraphs_units program paragraphs = flat_map (paragraph_units program) paragraphs

-- the PROCEDURE DIVISION
abbrev pub procedure_units : Program → List Paragraph → List PrintUnit
procedure_units program paragraphs =
    header (codes "PROCEDURE") (codes "DIVISION") ∷ paragraphs_units program paragraphs

-- ---- all of them

-- the units of a program
abbrev pub program_units : Program → List PrintUnit
program_units program =
    header (codes "IDENTIFICATION") (codes "DIVISION") ∷ program_id program.name
    ∷ environment_units program program.files ++ data_units program program.entries
    ++ procedure_units program program.paragraphs
