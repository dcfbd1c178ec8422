-- Which programs can be printed so that they read back: those whose names, numbers and literals a
-- text can have.
use Rattle.std.specs.Prelude.{ℕ, ◌≡◌, ◌≤◌, true, false, ◌||◌, nat_le, List, ◌∷◌, [], ◌++◌, length, All, Option, Some, None, codes}
use Rattle.std.specs.List.{list_all}
use Rattle.cob_base.specs.Bytes.{space}
use Rattle.cob_tree.specs.declared.entry.Entry.{Entry}
use Rattle.cob_tree.specs.declared.file.FileEntry.{FileEntry}
use Rattle.cob_tree.specs.declared.picture.Picture.{Picture}
use Rattle.cob_tree.specs.declared.program.Paragraph.{Paragraph}
use Rattle.cob_tree.specs.declared.program.Program.{Program}
use Rattle.cob_tree.specs.declared.program.Sentence.{Sentence}
use Rattle.cobol_lex.specs.Word.{spells, word_run}
use Rattle.cobol_lex.specs.Written.{IsPlainToken, IsPicture}
use Rattle.cobol_lex.specs.declared.token.TokenKind.{TokenKind}
use Rattle.cobol_lex.specs.declared.token.TokenKind.TheVariants as kind
use Rattle.unparser.specs.Token.{Tokens}
use Rattle.unparser.specs.File.{name_tokens, file_tokens}
use Rattle.unparser.specs.Place.{entry_name}
use Rattle.cobol_print.specs.declared.units.unit.PrintUnit.{PrintUnit}
use Rattle.cobol_print.specs.units.Picture.{picture_text}
use Rattle.cobol_print.specs.units.Entry.{level_text, redefines_tokens, usage_tokens, sign_tokens, occurs_tokens, value_tokens, ranges_tokens}
use Rattle.cobol_print.specs.units.Division.{select_tokens, status_tokens, sentence_lines}
use Rattle.cobol_print.specs.Unit.{is_ink}

-- no word after which a picture comes, no literal with control characters, and no period
abbrev pub IsSteady : TokenKind → Type 0
IsSteady (kind.Word word) = (spells (codes "PIC") word || spells (codes "PICTURE") word) ≡ false
IsSteady (kind.Literal value) = list_all (nat_le space) value ≡ true
IsSteady kind.Period = ⊥
IsSteady _ = Unit {0}

-- a token that a line may have anywhere after its first one
abbrev pub IsFree : TokenKind → Type 0
IsFree token = IsPlainToken token × IsSteady token

-- each of these tokens may be anywhere on a line
abbrev pub AreFree : Tokens → Type 0
AreFree tokens = All IsFree tokens

-- the SELECT clause of a file can be printed
abbrev pub IsGivenFile : Program → FileEntry → Type 0
IsGivenFile program file = AreFree (select_tokens file ++ status_tokens program file.status)

-- a picture that fits on a line and is no word IS
pub record IsPrintable (picture : List ℕ) : Type 0 where
  -- it is a picture
  pub whole : IsPicture picture
  pub short : length picture ≤ 50
  -- each of its bytes can be printed
  pub ink : list_all is_ink picture ≡ true
  -- it isn't the word IS
  pub other : spells (codes "IS") (word_run picture) ≡ false

-- the picture can be printed, or there is none
abbrev pub IsGivenPicture : Option Picture → Type 0
IsGivenPicture None = Unit {0}
IsGivenPicture (Some picture) = IsPrintable (picture_text picture)

-- the name of the file that an entry is of
abbrev pub file_of : Program → Option ℕ → Tokens
file_of program None = []
file_of program (Some file) = file_tokens program file

-- an entry can be printed
pub record IsGivenEntry (program : Program) (entry : Entry) : Type 0 where
  pub file : AreFree (file_of program entry.file)
  -- its level, its name and its REDEFINES can be printed
  pub front : AreFree (kind.Digits (level_text entry.level) ∷ kind.Word (entry_name (Some entry))
      ∷ redefines_tokens program entry.redefines)
  pub picture : IsGivenPicture entry.picture
  -- the clauses after the picture can be printed
  pub back : AreFree (usage_tokens entry.usage ++ (sign_tokens entry.sign
      ++ (occurs_tokens entry.occurs
      ++ (value_tokens program entry.value ++ ranges_tokens program entry.ranges))))

-- a line of statements can be printed
abbrev pub IsGivenLine : PrintUnit → Type 0
IsGivenLine unit = AreFree unit.tokens

-- the lines of a sentence can be printed
abbrev pub IsGivenSentence : Program → Sentence → Type 0
IsGivenSentence program sentence = All IsGivenLine (sentence_lines program sentence)

-- a paragraph can be printed, with its name and that of its section
pub record IsGivenParagraph (program : Program) (paragraph : Paragraph) : Type 0 where
  pub section : AreFree (name_tokens paragraph.section)
  pub name : AreFree (name_tokens paragraph.name)
  pub sentences : All (IsGivenSentence program) paragraph.sentences

-- the names of the program are words or digits of at most 30 and 18 bytes and never PIC or PICTURE,
-- its numbers have at most 18 digits, and its literals 1 to 160 bytes without control characters
pub record IsGiven (program : Program) : Type 0 where
  pub name : IsFree (kind.Word program.name)
  pub files : All (IsGivenFile program) program.files
  pub entries : All (IsGivenEntry program) program.entries
  pub paragraphs : All (IsGivenParagraph program) program.paragraphs
