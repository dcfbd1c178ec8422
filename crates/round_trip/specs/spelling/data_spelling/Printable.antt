-- What is asked of files and entries so that what is printed of them spells drafts.
use Rattle.std.specs.Prelude.{ℕ, ◌≡◌, true, List, [], ◌∷◌, Option, Some, None, slice_get, codes}
use Rattle.cob_tree.specs.declared.entry.Entry.{Entry}
use Rattle.cob_tree.specs.declared.entry.Span.{Span}
use Rattle.cob_tree.specs.declared.file.FileEntry.{FileEntry}
use Rattle.cob_tree.specs.declared.place.Operand.{Operand}
use Rattle.cob_tree.specs.declared.place.Operand.TheVariants as operands
use Rattle.cob_tree.specs.declared.place.Place.{Place}
use Rattle.cob_tree.specs.declared.program.Program.{Program}
use Rattle.cobol_lex.specs.declared.token.TokenKind.{TokenKind}
use Rattle.cobol_lex.specs.declared.token.TokenKind.TheVariants as kinds
use Rattle.parser_combinators.specs.Form.{Form}
use Rattle.parser_combinators.specs.words.Word.{is_data_word}
use Rattle.round_trip.specs.spelled_forms.Spelling.{Spelled}
use Rattle.unparser.specs.Place.{place_tokens, item_name}
use Rattle.round_trip.specs.spelling.data_spelling.Sections.{Fd, records}

-- the operand is no place
abbrev pub IsLiteral : Operand → Type 0
IsLiteral (operands.Place place) = ⊥
IsLiteral _ = Unit {0}

-- what is absent, or is so
abbrev pub IfAny : {A : Type 0} → (A → Type 0) → Option A → Type 0
IfAny Is None = Unit {0}
IfAny Is (Some a) = Is a

-- a value, or each end of a range of values, is no place
abbrev pub IsLiteralSpan : Span → Type 0
IsLiteralSpan span = IsLiteral span.from × IfAny IsLiteral span.to

-- none of these values is a place
abbrev pub AreLiteralSpans : List Span → Type 0
AreLiteralSpans [] = Unit {0}
AreLiteralSpans (span ∷ spans) = IsLiteralSpan span × AreLiteralSpans spans

-- a word that may be a name
abbrev pub IsDataWord : List ℕ → Type 0
IsDataWord word = is_data_word word ≡ true

-- an entry: its name, if it has one, may be a name, as may that of what it redefines; its values
-- are literals
pub record IsPrintableEntry (program : Program) (entry : Entry) : Type 0 where
  pub named : IfAny IsDataWord entry.name
  -- what it redefines may be named, if it redefines something
  pub redefined : IfAny (λ number. IsDataWord (item_name program number)) entry.redefines
  -- its value is a literal, if it has one
  pub valued : IfAny IsLiteral entry.value
  -- the values of a level 88 are literals
  pub ranged : AreLiteralSpans entry.ranges

-- these entries can be printed
abbrev pub ArePrintableEntries : Program → List Entry → Type 0
ArePrintableEntries program [] = Unit {0}
ArePrintableEntries program (entry ∷ entries) =
    IsPrintableEntry program entry × ArePrintableEntries program entries

-- a period follows
abbrev pub IsPeriod : Option TokenKind → Type 0
IsPeriod behind = behind ≡ Some kinds.Period

-- a status item, if there is one, is spelled by its tokens
abbrev pub SpellsStatus : Form Place → Program → Option Place → Type 0
SpellsStatus status program None = Unit {0}
SpellsStatus status program (Some place) =
    (taken : ℕ) →
    Spelled status taken (place_tokens program place) IsPeriod (λ found. found ≡ place)

-- a file: its name may be a name, and its status item is spelled
pub record IsPrintableFile (status : Form Place) (program : Program) (file : FileEntry)
    : Type 0 where
  pub named : IsDataWord file.name
  -- its status item is spelled
  pub stated : SpellsStatus status program file.status

-- these files can be printed
abbrev pub ArePrintableFiles : Form Place → Program → List FileEntry → Type 0
ArePrintableFiles status program [] = Unit {0}
ArePrintableFiles status program (file ∷ files) =
    IsPrintableFile status program file × ArePrintableFiles status program files

-- the FD of a file of the program
pub record IsPrintableFd (program : Program) (fd : Fd) : Type 0 where
  pub file : FileEntry
  -- the file is one of the program
  pub there : slice_get program.files fd.number ≡ Some file
  pub named : IsDataWord file.name
  -- its records can be printed
  pub written : ArePrintableEntries program (records fd)

-- these FDs can be printed
abbrev pub ArePrintableFds : Program → List Fd → Type 0
ArePrintableFds program [] = Unit {0}
ArePrintableFds program (fd ∷ fds) = IsPrintableFd program fd × ArePrintableFds program fds

-- all that comes before the PROCEDURE DIVISION, whose entries are in these sections
pub record IsPrintable (status : Form Place) (program : Program) (described : List Fd)
    (stored : List Entry) : Type 0 where
  pub titled : IsDataWord program.name
  pub files : ArePrintableFiles status program program.files
  pub fds : ArePrintableFds program described
  pub storage : ArePrintableEntries program stored

-- the PROCEDURE DIVISION follows
abbrev pub BeforeProcedures : Option TokenKind → Type 0
BeforeProcedures behind = behind ≡ Some (kinds.Word (codes "PROCEDURE"))
