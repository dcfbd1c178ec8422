-- SELECTs, each of whose status items has a property that a status item has.
use Rattle.std.proofs.Common.{ℕ, zero, suc, ◌-◌, List, [], ◌∷◌, ◌++◌, length, map}
use Rattle.std.specs.Prelude.{codes, slice_get}
use Rattle.cob_tree.specs.declared.place.Place.{Place}
use Rattle.cobol_lex.specs.declared.token.TokenKind.{TokenKind}
use Rattle.cobol_grammar.specs.declared.data_forms.draft.SelectDraft.{SelectDraft}
use Rattle.cobol_grammar.specs.declared.data_forms.draft.StatusDraft.{StatusDraft}
use Rattle.cobol_grammar.specs.data_forms.Environment as environments
use Rattle.cobol_grammar.specs.data_forms.Divisions as all_forms
use Rattle.cobol_grammar.proofs.data_forms_lemmas.EntryLaws as entry_law
use Rattle.cobol_grammar.proofs.data_forms_lemmas.DivisionLaws as law
use Rattle.declaration_checks.specs.File.{status_by, file_of}
use Rattle.round_trip.specs.spelling.data_spelling.Printable.{IfAny}
use Rattle.parser_combinators.specs.Form.{Form}
use Rattle.grammar_laws.specs.form_results.Giving.{Each, Gives}
use Rattle.grammar_laws.proofs.form_results_lemmas.Giving.{any, hence, still, pure, key, maybe, period, where_next, loop, ◌>>=◌, ◌>>◌}
use Rattle.parser_combinators.proofs.words_lemmas.WordLaws as words
use Rattle.end_to_end_laws.specs.read_programs.readable_parts.Read.{EachStatus}

added : {A : Type 0} (P : A → Type 0) (front : List A) (x : A) → Each P front → P x → Each P (front ++ x ∷ [])
added P [] x h k = (k, tt)
added P (first ∷ front) x h k = (h.0, added P front x h.1 k)

module _ {Kind : TokenKind → Type 0} {status : Form Place} (P : Place → Type 0) (S : Gives Kind status P) where
  abbrev Stated : StatusDraft → Type 0
  Stated draft = P draft.place

  abbrev Selected : SelectDraft → Type 0
  Selected select = Each Stated select.statuses

  status_clause : Gives Kind (environments.status_clause status) Stated
  unfolding environments.status_clause
  status_clause = any law.status_word >>= (λ at. maybe (codes "IS") >> (S >>= (λ place. pure (λ p _ _. p))))

  storage_clause : (before : List StatusDraft) → Gives Kind (environments.storage_clause before) (λ list. Each Stated before → Each Stated list)
  unfolding environments.storage_clause
  storage_clause before = where_next (any law.organization >> pure (λ _ b. b)) (any law.access >> pure (λ _ b. b))

  select_clause : (before : List StatusDraft) → Gives Kind (environments.select_clause status before) (λ list. Each Stated before → Each Stated list)
  unfolding environments.select_clause
  select_clause before = where_next (status_clause >>= (λ found. pure (λ s b. added Stated before found b s))) (storage_clause before)

  select_clauses : Gives Kind (environments.select_clauses status) (λ list. Each Stated list)
  unfolding environments.select_clauses
  select_clauses = hence (λ list h. h tt) (loop {P = λ list. Each Stated list} select_clause)

  select : Gives Kind (environments.select status) Selected
  unfolding environments.select
  select = do
    key (codes "SELECT")
    file ← any words.name
    key (codes "ASSIGN")
    maybe (codes "TO")
    device ← any law.assign
    statuses ← select_clauses
    period
    pure (λ _ s _ _ _ _ _. s)

  selects : Gives Kind (environments.selects status) (λ list. Each Selected list)
  selects = hence (λ list h. h tt) (loop {P = λ list. Each Selected list} (λ front. select >>= (λ found. pure (λ s f. added Selected front found f s))))

  input_output : Gives Kind (environments.input_output status) (λ list. Each Selected list)
  unfolding environments.input_output environments.input_output_section
  input_output =
      where_next (any (entry_law.header (codes "INPUT-OUTPUT") (codes "SECTION")) >> (key (codes "FILE-CONTROL") >> (period >> still (still (still selects)))))
      (pure tt)

  environment : Gives Kind (environments.environment status) (λ list. Each Selected list)
  unfolding environments.environment environments.environment_division
  environment =
      where_next (any (entry_law.header (codes "ENVIRONMENT") (codes "DIVISION")) >> (any law.configuration >> still (still input_output)))
      (pure tt)

  pub divisions : Gives Kind (all_forms.divisions status) (λ found. Each Selected found.selects)
  unfolding all_forms.divisions
  divisions = any law.identification >>= (λ title. environment >>= (λ selected. any law.data_part >>= (λ found. pure (λ _ e _. e))))

-- ---- files with the last status item of their SELECT

module _ (P : Place → Type 0) where
  abbrev Has : StatusDraft → Type 0
  Has draft = P draft.place

  status-at : (list : List StatusDraft) (n : ℕ) → Each Has list → IfAny P (status_by (slice_get list n))
  status-at [] n h = tt
  status-at (draft ∷ list) zero h = h.0
  status-at (draft ∷ list) (suc n) h = status-at list n h.1

  pub each-status : (list : List SelectDraft) → Each (λ (select : SelectDraft). Each Has select.statuses) list → EachStatus P (map file_of list)
  each-status [] h = tt
  each-status (select ∷ list) h = (status-at select.statuses (length select.statuses - 1) h.0, each-status list h.1)
