-- What divisions declare.
use Rattle.std.specs.Prelude.{◌≡◌, true, map, None}
use Rattle.cobol_grammar.specs.declared.data_forms.draft.Divisions.{Divisions}
use Rattle.declaration_checks.specs.Declaring.{declared_of}
use Rattle.control_flow_theory.specs.language.All.{all}
use Rattle.program_facts.specs.well_scoped.Part.{Counts}
use Rattle.grammar_laws.specs.well_scoped.named_data.Drafts.{DivisionsNamed}
use Rattle.grammar_laws.specs.well_scoped.named_entries.Entries.{EntriesNamed, file_named}

-- divisions that are named declare, without a fault, entries and files that are named
abbrev pub EntriesAreNamed : Type 0
EntriesAreNamed =
    (counts : Counts) (divisions : Divisions) → DivisionsNamed counts divisions →
    (declared_of divisions).fault ≡ None →
    EntriesNamed (declared_of divisions).entries
    × (all (map (file_named counts) (declared_of divisions).files) ≡ true)
