-- Programs whose names may be names, and whose values are literals.
use Rattle.std.specs.Prelude.{◌≡◌, Bool, true, ◌&&◌, List, [], ◌∷◌, map}
use Rattle.cob_tree.specs.declared.entry.Entry.{Entry}
use Rattle.cob_tree.specs.declared.entry.Span.{Span}
use Rattle.cob_tree.specs.declared.file.FileEntry.{FileEntry}
use Rattle.cob_tree.specs.declared.place.Place.{Place}
use Rattle.cob_tree.specs.declared.program.Program.{Program}
use Rattle.parser_combinators.specs.Form.{Form}
use Rattle.control_flow_theory.specs.language.All.{all}
use Rattle.grammar_laws.specs.form_results.Numbered.{is_literal}
use Rattle.program_facts.specs.well_scoped.Part.{if_any}
use Rattle.parser_combinators.specs.words.Word.{is_data_word}
use Rattle.round_trip.specs.spelling.data_spelling.Printable.{SpellsStatus}

-- the file's name may be a name
abbrev pub file_titled : FileEntry → Bool
file_titled file = is_data_word file.name

-- the entry's name, if it has one, may be a name
abbrev pub entry_titled : Entry → Bool
entry_titled entry = if_any is_data_word entry.name

-- a value, or each end of a range of values, is a literal
abbrev pub span_literal : Span → Bool
span_literal span = is_literal span.from && if_any is_literal span.to

-- the values of an entry are literals
abbrev pub values_literal : Entry → Bool
values_literal entry = if_any is_literal entry.value && all (map span_literal entry.ranges)

-- each name of the program may be a name, and its values are literals
pub record IsTitled (program : Program) : Type 0 where
  -- the program's own name
  pub title : is_data_word program.name ≡ true
  pub files : all (map file_titled program.files) ≡ true
  pub entries : all (map entry_titled program.entries) ≡ true
  pub values : all (map values_literal program.entries) ≡ true

-- the status items of these files are spelled by their tokens
abbrev pub AreStated : Form Place → Program → List FileEntry → Type 0
AreStated status program [] = Unit {0}
AreStated status program (file ∷ files) =
    SpellsStatus status program file.status × AreStated status program files
