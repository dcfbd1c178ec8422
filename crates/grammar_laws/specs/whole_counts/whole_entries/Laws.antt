-- What holds of entries and their names.
use Rattle.std.specs.Prelude.{◌≡◌, true, List, map}
use Rattle.cob_tree.specs.declared.entry.Entry.{Entry}
use Rattle.cob_tree.specs.declared.file.FileEntry.{FileEntry}
use Rattle.cobol_grammar.specs.declared.data_forms.draft.Divisions.{Divisions}
use Rattle.symbol_tables.specs.data_names.Names.{names_of}
use Rattle.declaration_checks.specs.Declaring.{declared_of}
use Rattle.control_flow_theory.specs.language.All.{all}
use Rattle.grammar_laws.specs.whole_counts.whole_entries.Fitting.{NamesFit, has_short_picture}

-- the names of such entries fit them
abbrev pub NamesFitEntries : Type 0
NamesFitEntries =
    (files : List FileEntry) (entries : List Entry) → all (map has_short_picture entries) ≡ true →
    NamesFit (names_of files entries) entries

-- each number item that divisions declare has at most 18 digits
abbrev pub NumbersAreShort : Type 0
NumbersAreShort =
    (divisions : Divisions) →
    all (map has_short_picture (declared_of divisions).entries) ≡ true
