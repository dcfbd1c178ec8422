-- What divisions declare.
use Rattle.std.specs.Prelude.{◌≡◌, true, length, None}
use Rattle.cobol_grammar.specs.declared.data_forms.draft.Divisions.{Divisions}
use Rattle.declaration_checks.specs.Declaring.{declared_of}
use Rattle.grammar_laws.specs.well_scoped.named_data.Drafts.{data_literal}
use Rattle.grammar_laws.specs.whole_counts.entry_bounds.Bounds.{EntriesBound}

-- divisions whose values are literals declare, without a fault, such entries
abbrev pub EntriesAreBound : Type 0
EntriesAreBound =
    (divisions : Divisions) → data_literal divisions.data_part ≡ true →
    (declared_of divisions).fault ≡ None →
    EntriesBound (length (declared_of divisions).files) (declared_of divisions).entries
