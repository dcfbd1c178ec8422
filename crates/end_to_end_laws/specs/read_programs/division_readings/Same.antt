-- Divisions that are the same but for what status items stand for.
use Rattle.std.specs.Prelude.{ℕ, ◌≡◌, List, map}
use Rattle.parser_combinators.specs.declared.note.Position.{Position}
use Rattle.cobol_grammar.specs.declared.data_forms.draft.Divisions.{Divisions}
use Rattle.cobol_grammar.specs.declared.data_forms.draft.SelectDraft.{SelectDraft}
use Rattle.cobol_grammar.specs.declared.data_forms.draft.StatusDraft.{StatusDraft}

-- where FILE STATUS clauses begin
abbrev pub places_of : List StatusDraft → List Position
places_of statuses = map (λ status. status.at) statuses

-- a SELECT without what its status items stand for
pub record Selected : Type 0 where
  pub name : List ℕ
  pub at : Position
  pub assign : List ℕ
  pub statuses : List Position

-- a SELECT so
abbrev pub selected_of : SelectDraft → Selected
selected_of select = record {
  name = select.name;
  at = select.at;
  assign = select.assign;
  statuses = places_of select.statuses;
}

-- the two are the same but for what status items stand for
pub record SameDivisions (one other : Divisions) : Type 0 where
  pub name : one.name ≡ other.name
  pub selects : map selected_of one.selects ≡ map selected_of other.selects
  pub data_part : one.data_part ≡ other.data_part
