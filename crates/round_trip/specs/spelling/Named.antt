-- Which names of files, records and procedures stand for what they are to, where they are printed.
use Rattle.std.specs.Prelude.{ℕ, ◌≡◌, ◌==◌, true, false, List, [], ◌∷◌, Some, slice_get}
use Rattle.cob_tree.specs.declared.entry.Entry.{Entry}
use Rattle.cob_tree.specs.declared.file.FileEntry.{FileEntry}
use Rattle.cob_tree.specs.declared.program.Program.{Program}
use Rattle.unparser.specs.File.{label_tokens}
use Rattle.unparser.specs.Token.{procedure_token}
use Rattle.parser_combinators.specs.words.Word.{is_data_word}
use Rattle.symbol_tables.specs.declared.data_names.name.Referent.TheVariants as found
use Rattle.symbol_tables.specs.declared.data_names.name.ItemKind.{ItemKind}
use Rattle.symbol_tables.specs.data_names.Look.{look_file}
use Rattle.symbol_tables.specs.data_names.Names.{Names}
use Rattle.symbol_tables.specs.declared.procedure_names.table.Header.{Header}
use Rattle.symbol_tables.specs.declared.procedure_names.table.ProcedureTable.{ProcedureTable}
use Rattle.symbol_tables.specs.procedure_names.Procedures.{header_name, header_of}
use Rattle.cobol_grammar.specs.Name.{is_record, procedure_of}
use Rattle.unparser.specs.Place.{item_name}
use Rattle.round_trip.specs.spelling.expr_spelling.Printable.{reference}

module _ (names : Names) (program : Program) where
  -- a file, found by its name
  pub record IsNamedFile (file : ℕ) : Type 0 where
    pub entry : FileEntry
    -- the file has this number
    pub there : slice_get program.files file ≡ Some entry
    pub word : is_data_word entry.name ≡ true
    -- its name finds it
    pub found : look_file names entry.name ≡ Some file

  -- a record of a file, found by its name alone
  pub record IsNamedRecord (entries : List Entry) (entry : ℕ) : Type 0 where
    pub word : is_data_word (item_name program entry) ≡ true
    pub kind : ItemKind
    pub dims : ℕ
    -- its name finds it
    pub found : reference names program entry [] ≡ found.Item entry kind dims
    -- it is a record of a file
    pub is : is_record entries entry ≡ true

-- a name that a paragraph or section may have, and the header after so many tokens is the first
-- that has it
pub record IsHeader (table : ProcedureTable) (name : List ℕ) (taken : ℕ) : Type 0 where
  -- the name may be that of a paragraph or section
  pub named : header_name (procedure_token name) ≡ Some name
  pub header : Header
  -- this is the first header of that name
  pub found : header_of table name ≡ Some header
  -- it comes after so many tokens
  pub index : header.index ≡ taken

module _ (table : ProcedureTable) (program : Program) where
  -- the label of this paragraph names what has this entry and exit
  pub record IsLabel (number : ℕ) (span : ℕ × ℕ) : Type 0 where
    pub name : List ℕ
    pub tokens : label_tokens program number ≡ procedure_token name ∷ []
    -- the label may be the name of a paragraph or section
    pub named : header_name (procedure_token name) ≡ Some name
    -- the procedure of that name has this entry and exit
    pub found : procedure_of table name ≡ Some span

  -- the labels of its first and last paragraphs name what begins and ends there
  pub record IsRange (entry exit : ℕ) : Type 0 where
    -- where what begins at the entry ends
    pub last : ℕ
    pub first_label : IsLabel entry (entry, last)
    -- a range of one paragraph is named by one label
    pub alone : (entry == exit) ≡ true → last ≡ exit
    -- of any other the second label names what ends at the exit
    pub last_label : (entry == exit) ≡ false → (first : ℕ) × IsLabel exit (first, exit)
