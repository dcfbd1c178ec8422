-- What names don't change.
use Rattle.symbol_tables.specs.data_names.Names.{Names}
use Rattle.cobol_grammar.specs.expr_forms.Levels.{data_reference}
use Rattle.grammar_laws.specs.whole_counts.status_readings.Alike.{Alike}

-- a reference takes the same tokens, whatever the names are
abbrev pub ReferencesTakeTheSame : Type 0
ReferencesTakeTheSame =
    (names others : Names) → Alike (data_reference names) (data_reference others)
    (λ one other. Unit {0})
