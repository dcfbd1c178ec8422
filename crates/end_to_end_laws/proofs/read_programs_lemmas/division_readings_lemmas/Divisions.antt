-- Both readings of the divisions read the same but for what status items stand for.
use Rattle.std.proofs.Common.{◌≡◌, ℕ, List, [], ◌∷◌, ◌++◌, map, refl, ap, sym, ◌∙◌}
use Rattle.std.specs.Prelude.{codes}
use Rattle.cob_tree.specs.declared.entry.Entry.{Entry}
use Rattle.cob_tree.specs.declared.place.Place.{Place}
use Rattle.parser_combinators.specs.Form.{Form}
use Rattle.parser_combinators.specs.declared.note.Position.{Position}
use Rattle.parser_combinators.proofs.MakerLaws as makers
use Rattle.parser_combinators.proofs.words_lemmas.WordLaws as words
use Rattle.cobol_grammar.specs.declared.data_forms.draft.SelectDraft.{SelectDraft}
use Rattle.cobol_grammar.specs.declared.data_forms.draft.StatusDraft.{StatusDraft}
use Rattle.cobol_grammar.specs.data_forms.Environment as environments
use Rattle.cobol_grammar.specs.data_forms.Divisions as all_forms
use Rattle.cobol_grammar.proofs.data_forms_lemmas.EntryLaws as entry_law
use Rattle.cobol_grammar.proofs.data_forms_lemmas.DivisionLaws as law
use Rattle.symbol_tables.specs.data_names.Names.{Names}
use Rattle.cobol_read.specs.Status as statuses
use Rattle.grammar_laws.specs.whole_counts.status_readings.Alike.{Alike}
use Rattle.grammar_laws.proofs.whole_counts_lemmas.status_readings_lemmas.Makers.{pure, note, same, where_next, loop, ◌>>=◌, ◌>>◌}
use Rattle.grammar_laws.proofs.whole_counts_lemmas.status_readings_lemmas.References.{data_reference}
use Rattle.end_to_end_laws.specs.read_programs.division_readings.Same.{places_of, Selected, selected_of, SameDivisions}

-- lists that a function sees as the same stay so where the same is added
added-same : {A B : Type 0} (f : A → B) (list others : List A) (x y : A) → map f list ≡ map f others → f x ≡ f y → map f (list ++ x ∷ []) ≡ map f (others ++ y ∷ [])
added-same {A = A} f list others x y e k = map-added list x ∙ (ap (λ l. l ++ f x ∷ []) e ∙ (ap (λ b. map f others ++ b ∷ []) k ∙ sym (map-added others y)))
  where
    map-added : (list : List A) (x : A) → map f (list ++ x ∷ []) ≡ map f list ++ f x ∷ []
    map-added [] x = refl
    map-added (first ∷ list) x = ap (λ l. f first ∷ l) (map-added list x)

module _ {status other : Form Place} (S : Alike status other (λ a b. Unit {0})) where
  status_clause : Alike (environments.status_clause status) (environments.status_clause other) (λ a b. a.at ≡ b.at)
  unfolding environments.status_clause
  status_clause = same law.status_word >>= (λ at at' e. same (makers.maybe (codes "IS")) >> (S >>= (λ place place' is. pure e)))

  storage_clause : (before others : List StatusDraft) → places_of before ≡ places_of others →
      Alike (environments.storage_clause before) (environments.storage_clause others) (λ a b. places_of a ≡ places_of b)
  unfolding environments.storage_clause
  storage_clause before others e = where_next (same law.organization >> pure e) (same law.access >> pure e)

  select_clause : (before others : List StatusDraft) → places_of before ≡ places_of others →
      Alike (environments.select_clause status before) (environments.select_clause other others) (λ a b. places_of a ≡ places_of b)
  unfolding environments.select_clause
  select_clause before others e =
      where_next (status_clause >>= (λ found found' is. pure (added-same (λ s. s.at) before others found found' e is)))
      (storage_clause before others e)

  select_clauses : Alike (environments.select_clauses status) (environments.select_clauses other) (λ a b. places_of a ≡ places_of b)
  unfolding environments.select_clauses
  select_clauses = loop {R = λ (a b : List StatusDraft). places_of a ≡ places_of b} select_clause refl

  selected-same : (name name' : List ℕ × Position) (device device' : List ℕ × Position) (held held' : List StatusDraft) → name ≡ name' → device ≡ device' → places_of held ≡ places_of held' →
      ◌≡◌ {A = Selected} (record { name = name.0; at = name.1; assign = device.0; statuses = places_of held }) (record { name = name'.0; at = name'.1; assign = device'.0; statuses = places_of held' })
  selected-same name name' device device' held held' e k is =
      ap (λ n. record { name = n.0; at = n.1; assign = device.0; statuses = places_of held }) e
      ∙ (ap (λ d. record { name = name'.0; at = name'.1; assign = d.0; statuses = places_of held }) k
      ∙ ap (λ l. record { name = name'.0; at = name'.1; assign = device'.0; statuses = l }) is)

  select : Alike (environments.select status) (environments.select other) (λ a b. selected_of a ≡ selected_of b)
  unfolding environments.select
  select =
      same (makers.key (codes "SELECT")) >> (same words.name >>= (λ file file' e.
      same (makers.key (codes "ASSIGN")) >> (same (makers.maybe (codes "TO")) >> (same law.assign >>= (λ device device' k.
      select_clauses >>= (λ held held' is. same makers.period >> pure (selected-same file file' device device' held held' e k is)))))))

  selects : Alike (environments.selects status) (environments.selects other) (λ a b. map selected_of a ≡ map selected_of b)
  selects =
      loop {R = λ (a b : List SelectDraft). map selected_of a ≡ map selected_of b}
      (λ front front' e. select >>= (λ found found' is. pure (added-same selected_of front front' found found' e is))) refl

  input_output : Alike (environments.input_output status) (environments.input_output other) (λ a b. map selected_of a ≡ map selected_of b)
  unfolding environments.input_output environments.input_output_section
  input_output =
      where_next (same (entry_law.header (codes "INPUT-OUTPUT") (codes "SECTION")) >> (same (makers.key (codes "FILE-CONTROL")) >> (same makers.period >> selects)))
      (pure refl)

  environment : Alike (environments.environment status) (environments.environment other) (λ a b. map selected_of a ≡ map selected_of b)
  unfolding environments.environment environments.environment_division
  environment =
      where_next (same (entry_law.header (codes "ENVIRONMENT") (codes "DIVISION")) >> (same law.configuration >> input_output))
      (pure refl)

  divisions : Alike (all_forms.divisions status) (all_forms.divisions other) SameDivisions
  unfolding all_forms.divisions
  divisions =
      same law.identification >>= (λ name name' e. environment >>= (λ held held' is. same law.data_part >>= (λ found found' k.
      pure (record { name = e; selects = is; data_part = k }))))

status : (names others : Names) (entries more : List Entry) → Alike (statuses.status names entries) (statuses.status others more) (λ a b. Unit {0})
unfolding statuses.status
status names others entries more = data_reference names others >>= (λ a b is. note >> pure tt)

pub read-same : (names others : Names) (entries more : List Entry) → Alike (all_forms.divisions (statuses.status names entries)) (all_forms.divisions (statuses.status others more)) SameDivisions
read-same names others entries more = divisions (status names others entries more)
