-- What divisions declare.
use Rattle.std.specs.Prelude.{◌≡◌, true, map}
use Rattle.cobol_grammar.specs.declared.data_forms.draft.Divisions.{Divisions}
use Rattle.declaration_checks.specs.Declaring.{declared_of}
use Rattle.control_flow_theory.specs.language.All.{all}
use Rattle.round_trip.specs.printable.Whole.{is_printable_file, is_printable_entry}
use Rattle.round_trip.specs.printable.printable_data.Drafts.{ArePrintable}

-- such divisions declare files and entries that can be printed
abbrev pub EntriesArePrintable : Type 0
EntriesArePrintable =
    (found : Divisions) → ArePrintable found →
    (all (map is_printable_file (declared_of found).files) ≡ true)
    × (all (map is_printable_entry (declared_of found).entries) ≡ true)
