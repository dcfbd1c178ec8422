-- The words of a program.
use Rattle.std.specs.Prelude.{ℕ, List, [], ◌∷◌, ◌++◌, map}
use Rattle.std.specs.Option.{option_to_list}
use Rattle.cob_words.specs.Table.{with_word}
use Rattle.cob_tree.specs.declared.entry.Entry.{Entry}
use Rattle.cob_tree.specs.declared.file.FileEntry.{FileEntry}
use Rattle.cob_tree.specs.declared.program.Paragraph.{Paragraph}
use Rattle.cob_tree.specs.declared.program.Program.{Program}

-- the names of these files
abbrev pub file_names : List FileEntry → List (List ℕ)
file_names files = map (λ file. file.name) files

-- the names of these entries, without FILLER
abbrev pub entry_names : List Entry → List (List ℕ)
entry_names [] = []
entry_names (entry ∷ entries) = option_to_list entry.name ++ entry_names entries

-- the names of paragraphs and sections
abbrev pub paragraph_names : List Paragraph → List (List ℕ)
paragraph_names [] = []
paragraph_names (paragraph ∷ paragraphs) =
    option_to_list paragraph.name ++ option_to_list paragraph.section ++ paragraph_names paragraphs

-- the name of a program, and those of its files, items, paragraphs and sections
abbrev pub program_words : Program → List (List ℕ)
program_words program =
    program.name ∷ file_names program.files ++ entry_names program.entries
    ++ paragraph_names program.paragraphs

-- a table with these words after it
abbrev pub with_words : List (List ℕ) → List (List ℕ) → List (List ℕ)
with_words table [] = table
with_words table (word ∷ words) = with_words (with_word table word) words

-- each word once, in the order of their first places
abbrev pub table_of : List (List ℕ) → List (List ℕ)
table_of words = with_words [] words
