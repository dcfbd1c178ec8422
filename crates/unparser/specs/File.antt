-- Files and labels as tokens, by their numbers; none where nothing has that number.
use Rattle.std.specs.Prelude.{ℕ, Bool, true, false, List, [], ◌∷◌, ◌++◌, map, Option, Some, None, slice_get, codes, if◌then◌else◌}
use Rattle.cob_tree.specs.declared.file.How.{How}
use Rattle.cob_tree.specs.declared.file.How.TheVariants.{Input, Output, InOut, Extend}
use Rattle.cob_tree.specs.declared.file.Opening.{Opening}
use Rattle.cob_tree.specs.declared.file.FileEntry.{FileEntry}
use Rattle.cob_tree.specs.declared.program.Paragraph.{Paragraph}
use Rattle.cob_tree.specs.declared.program.Program.{Program}
use Rattle.cobol_lex.specs.declared.token.TokenKind.TheVariants as kind
use Rattle.unparser.specs.Token.{Tokens, joined, procedure_token}

-- the name of a file
abbrev pub file_name : Option FileEntry → Tokens
file_name None = []
file_name (Some file) = kind.Word file.name ∷ []

-- the name of the file with this number
abbrev pub file_tokens : Program → ℕ → Tokens
file_tokens program number = file_name (slice_get program.files number)

-- the names of these files
abbrev pub files_tokens : Program → List ℕ → Tokens
files_tokens program numbers = joined (map (file_tokens program) numbers)

-- ---- the files of OPEN

-- the word of an OPEN mode
abbrev pub mode_word : How → List ℕ
mode_word Input = codes "INPUT"
mode_word Output = codes "OUTPUT"
mode_word InOut = codes "I-O"
mode_word Extend = codes "EXTEND"

-- the file before has this mode
abbrev pub same_mode : (before : Option How) → How → Bool
same_mode (Some Input) Input = true
same_mode (Some Output) Output = true
same_mode (Some InOut) InOut = true
same_mode (Some Extend) Extend = true
same_mode _ _ = false

-- the mode of a file, unless the file before has the same
abbrev pub mode_tokens : (before : Option How) → How → Tokens
mode_tokens before how = if same_mode before how then [] else kind.Word (mode_word how) ∷ []

-- the files of an OPEN with their modes; a mode is printed only where it changes
abbrev pub openings_tokens : Program → (before : Option How) → List Opening → Tokens
openings_tokens program before [] = []
openings_tokens program before (opening ∷ openings) =
    mode_tokens before opening.how ++ file_tokens program opening.file
    ++ openings_tokens program (Some opening.how) openings

-- ---- labels

-- the name of a paragraph or section, if it has one
abbrev pub name_tokens : Option (List ℕ) → Tokens
name_tokens None = []
name_tokens (Some name) = procedure_token name ∷ []

-- the tokens of a paragraph's label: its name, or that of its section
abbrev pub paragraph_label : (name section : Option (List ℕ)) → Tokens
paragraph_label None section = name_tokens section
paragraph_label (Some name) section = procedure_token name ∷ []

-- the label of a paragraph
abbrev pub label_of : Option Paragraph → Tokens
label_of None = []
label_of (Some paragraph) = paragraph_label paragraph.name paragraph.section

-- the label of the paragraph with this number
abbrev pub label_tokens : Program → ℕ → Tokens
label_tokens program number = label_of (slice_get program.paragraphs number)

-- the labels of these paragraphs
abbrev pub labels_tokens : Program → List ℕ → Tokens
labels_tokens program numbers = joined (map (label_tokens program) numbers)
