-- Drafts that say what entries are, wherever their tokens are.
use Rattle.std.specs.Prelude.{ℕ, ◌≡◌, true, false, List, [], ◌∷◌, ◌++◌, map, Option, Some, None, decimal, slice_get}
use Rattle.cob_tree.specs.declared.entry.Entry.{Entry}
use Rattle.cob_tree.specs.declared.entry.Span.{Span}
use Rattle.cob_tree.specs.declared.file.FileEntry.{FileEntry}
use Rattle.cob_tree.specs.declared.picture.Picture.{Picture}
use Rattle.cob_tree.specs.declared.picture.Sign.{Sign}
use Rattle.cob_tree.specs.declared.picture.Sign.TheVariants.{Within, SeparateLeading, SeparateTrailing}
use Rattle.cob_tree.specs.declared.picture.Usage.{Usage}
use Rattle.cob_tree.specs.declared.picture.Usage.TheVariants.{Display, Binary, Packed}
use Rattle.cob_tree.specs.declared.place.Operand.{Operand}
use Rattle.cob_tree.specs.declared.place.Place.{Place}
use Rattle.cob_tree.specs.declared.program.Program.{Program}
use Rattle.cobol_grammar.specs.declared.data_forms.draft.Clause.{Clause}
use Rattle.cobol_grammar.specs.declared.data_forms.draft.Clause.TheVariants as clauses
use Rattle.cobol_grammar.specs.declared.data_forms.draft.DataDraft.{DataDraft}
use Rattle.cobol_grammar.specs.declared.data_forms.draft.Divisions.{Divisions}
use Rattle.cobol_grammar.specs.declared.data_forms.draft.EntryDraft.{EntryDraft}
use Rattle.cobol_grammar.specs.declared.data_forms.draft.FdDraft.{FdDraft}
use Rattle.cobol_grammar.specs.declared.data_forms.draft.SelectDraft.{SelectDraft}
use Rattle.cobol_grammar.specs.declared.data_forms.draft.SpanDraft.{SpanDraft}
use Rattle.cobol_grammar.specs.declared.data_forms.draft.StatusDraft.{StatusDraft}
use Rattle.parser_combinators.specs.declared.note.Position.{Position}
use Rattle.declaration_checks.specs.Base.{span_of}
use Rattle.cobol_print.specs.units.Picture.{picture_text}
use Rattle.unparser.specs.Place.{item_name}
use Rattle.cobol_print.specs.units.Entry.{level_text}
use Rattle.round_trip.specs.spelling.data_spelling.Sections.{Fd, records}

-- the REDEFINES clause, if there is one
abbrev pub IsRedefines : Program → Option ℕ → List Clause → Type 0
IsRedefines program None list = list ≡ []
IsRedefines program (Some number) list =
    (at : Position) × (name_at : Position)
    × (list ≡ clauses.Redefines at (item_name program number) name_at ∷ [])

-- the PICTURE clause, if there is one
abbrev pub IsPicture : Option Picture → List Clause → Type 0
IsPicture None list = list ≡ []
IsPicture (Some picture) list =
    (at : Position) × (text_at : Position)
    × (list ≡ clauses.Picture at (picture_text picture) text_at ∷ [])

-- the USAGE clause; DISPLAY has none
abbrev pub IsUsage : Usage → List Clause → Type 0
IsUsage Display list = list ≡ []
IsUsage Binary list = (at : Position) × (list ≡ clauses.Usage at Binary ∷ [])
IsUsage Packed list = (at : Position) × (list ≡ clauses.Usage at Packed ∷ [])

-- the SIGN clause; a sign within the last digit has none
abbrev pub IsSign : Sign → List Clause → Type 0
IsSign Within list = list ≡ []
IsSign SeparateLeading list = (at : Position) × (list ≡ clauses.Sign at true true ∷ [])
IsSign SeparateTrailing list = (at : Position) × (list ≡ clauses.Sign at false true ∷ [])

-- the OCCURS clause, if there is one
abbrev pub IsOccurs : Option ℕ → List Clause → Type 0
IsOccurs None list = list ≡ []
IsOccurs (Some count) list =
    (at : Position) × (count_at : Position)
    × (list ≡ clauses.Occurs at (decimal count) count_at ∷ [])

-- a VALUE clause with drafts of these spans
abbrev pub IsSpans : List Span → List Clause → Type 0
IsSpans spans list =
    (at : Position) × (drafts : List SpanDraft)
    × (map span_of drafts ≡ spans) × (list ≡ clauses.Value at drafts ∷ [])

-- a value alone, without THRU
abbrev pub alone : Operand → Span
alone value = record { from = value; to = None }

-- the VALUE clause of an item, if there is one
abbrev pub IsValue : Option Operand → List Clause → Type 0
IsValue None list = list ≡ []
IsValue (Some value) list = IsSpans (alone value ∷ []) list

-- the VALUE clause of a level 88, if there is one
abbrev pub IsRanges : List Span → List Clause → Type 0
IsRanges [] list = list ≡ []
IsRanges (span ∷ spans) list = IsSpans (span ∷ spans) list

-- some of these after some of those
abbrev pub Behind : (Front Back : List Clause → Type 0) → List Clause → Type 0
Behind Front Back list =
    (front : List Clause) × (back : List Clause) × Front front × Back back
    × (list ≡ front ++ back)

-- the clauses say what the entry is, in the order in which they are printed
abbrev pub AreClauses : Program → Entry → List Clause → Type 0
AreClauses program entry =
    Behind (IsRedefines program entry.redefines) (Behind (IsPicture entry.picture)
    (Behind (IsUsage entry.usage) (Behind (IsSign entry.sign) (Behind (IsOccurs entry.occurs)
    (Behind (IsValue entry.value) (IsRanges entry.ranges))))))

-- the draft says what the entry is
pub record IsDraft (program : Program) (entry : Entry) (draft : EntryDraft) : Type 0 where
  pub level : draft.level ≡ level_text entry.level
  pub name : draft.name ≡ entry.name
  pub clauses : AreClauses program entry draft.clauses

-- there is a draft for each entry, which says what it is
abbrev pub AreDrafts : Program → List Entry → List EntryDraft → Type 0
AreDrafts program [] [] = Unit {0}
AreDrafts program (entry ∷ entries) (draft ∷ drafts) =
    IsDraft program entry draft × AreDrafts program entries drafts
AreDrafts program _ _ = ⊥

-- ---- files

-- the FILE STATUS clause, if there is a status item
abbrev pub IsStatus : Option Place → List StatusDraft → Type 0
IsStatus None list = list ≡ []
IsStatus (Some place) list =
    (at : Position) × (list ≡ record { at = at; place = place } ∷ [])

-- the draft says what the file is
pub record IsSelect (file : FileEntry) (draft : SelectDraft) : Type 0 where
  pub name : draft.name ≡ file.name
  pub assign : draft.assign ≡ file.assign
  pub status : IsStatus file.status draft.statuses

-- there is one draft for each file, which says what it is
abbrev pub AreSelects : List FileEntry → List SelectDraft → Type 0
AreSelects [] [] = Unit {0}
AreSelects (file ∷ files) (draft ∷ drafts) = IsSelect file draft × AreSelects files drafts
AreSelects _ _ = ⊥

-- the name of a file
abbrev pub file_title : Option FileEntry → List ℕ
file_title None = []
file_title (Some file) = file.name

-- the name of an FD is that of its file
pub record IsFd (program : Program) (fd : Fd) (draft : FdDraft) : Type 0 where
  pub name : draft.name ≡ file_title (slice_get program.files fd.number)
  pub entries : AreDrafts program (records fd) draft.entries

-- there is one draft for each FD, which says what it is
abbrev pub AreFds : Program → List Fd → List FdDraft → Type 0
AreFds program [] [] = Unit {0}
AreFds program (fd ∷ fds) (draft ∷ drafts) = IsFd program fd draft × AreFds program fds drafts
AreFds program _ _ = ⊥

-- ---- all of them

-- the draft says what the entries are, by their sections
pub record AreData (program : Program) (described : List Fd) (stored : List Entry)
    (draft : DataDraft) : Type 0 where
  pub fds : AreFds program described draft.fds
  pub storage : AreDrafts program stored draft.storage

-- the draft says what the program is before its PROCEDURE DIVISION
pub record AreDivisions (program : Program) (described : List Fd) (stored : List Entry)
    (draft : Divisions) : Type 0 where
  pub name : draft.name ≡ program.name
  pub selects : AreSelects program.files draft.selects
  pub data_part : AreData program described stored draft.data_part
