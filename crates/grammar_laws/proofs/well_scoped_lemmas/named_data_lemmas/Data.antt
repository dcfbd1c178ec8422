-- What the divisions before the PROCEDURE DIVISION give.
use Rattle.std.proofs.Common.{◌≡◌, Bool, true, false, List, map, refl}
use Rattle.std.specs.Prelude.{codes}
use Rattle.cob_tree.specs.declared.place.Place.{Place}
use Rattle.cobol_lex.specs.declared.token.TokenKind.{TokenKind}
use Rattle.parser_combinators.specs.Form as form
use Rattle.parser_combinators.specs.Form.{Form}
use Rattle.parser_combinators.proofs.MakerLaws as laws
use Rattle.parser_combinators.proofs.words_lemmas.WordLaws as words
use Rattle.cobol_grammar.specs.declared.data_forms.draft.StatusDraft.{StatusDraft}
use Rattle.cobol_grammar.specs.data_forms.Clause as clauses
use Rattle.cobol_grammar.specs.data_forms.Entry as entries
use Rattle.cobol_grammar.specs.data_forms.Environment as environments
use Rattle.cobol_grammar.specs.data_forms.Data as datas
use Rattle.cobol_grammar.specs.data_forms.Divisions as all_forms
use Rattle.cobol_grammar.proofs.data_forms_lemmas.EntryLaws as entry_law
use Rattle.cobol_grammar.proofs.data_forms_lemmas.DivisionLaws as law
use Rattle.control_flow_theory.specs.language.All.{all}
use Rattle.program_facts.specs.well_scoped.Part.{Counts, is_filled, if_any, place_named}
use Rattle.program_facts.proofs.well_scoped_lemmas.Made.{both, all-added}
use Rattle.grammar_laws.specs.form_results.Giving.{Gives}
use Rattle.grammar_laws.specs.form_results.Numbered.{IsNumbered}
use Rattle.grammar_laws.proofs.form_results_lemmas.Giving.{any, hence, still, pure, key, maybe, period, where_next, loop, items_all, some, ◌>>=◌, ◌>>◌}
use Rattle.grammar_laws.proofs.form_results_lemmas.Literals.{literal}
use Rattle.grammar_laws.specs.well_scoped.named_data.Drafts.{thru_literal, span_literal, clause_literal, entry_literal, entries_literal, fd_literal, data_literal, status_named, select_named, DivisionsNamed}

many : {A : Type 0} {begin : TokenKind → Bool} {item : Form A} (test : A → Bool) → Gives IsNumbered item (λ x. test x ≡ true) → Gives IsNumbered (form.many begin item) (λ list. all (map test list) ≡ true)
many test F = hence (λ list h. h refl) (items_all test F)

-- ---- clauses

redefines_clause : Gives IsNumbered clauses.redefines_clause (λ clause. clause_literal clause ≡ true)
unfolding clauses.redefines_clause
redefines_clause = key (codes "REDEFINES") >>= (λ at. any words.name >>= (λ found. pure (λ _ _. refl)))

picture_clause : Gives IsNumbered clauses.picture_clause (λ clause. clause_literal clause ≡ true)
unfolding clauses.picture_clause
picture_clause = any (entry_law.either (codes "PIC") (codes "PICTURE")) >>= (λ at. maybe (codes "IS") >> (any laws.picture >>= (λ found. pure (λ _ _ _. refl))))

usage_clause : Gives IsNumbered clauses.usage_clause (λ clause. clause_literal clause ≡ true)
unfolding clauses.usage_clause clauses.usage_behind clauses.usage_alone
usage_clause =
    where_next (key (codes "USAGE") >>= (λ at. maybe (codes "IS") >> (any entry_law.usage >>= (λ found. pure (λ _ _ _. refl)))))
    (any entry_law.usage >>= (λ found. pure (λ _. refl)))

sign_clause : Gives IsNumbered clauses.sign_clause (λ clause. clause_literal clause ≡ true)
unfolding clauses.sign_clause clauses.sign_behind clauses.side_clause
sign_clause =
    where_next (key (codes "SIGN") >>= (λ at. maybe (codes "IS") >> (any entry_law.side >>= (λ found. any entry_law.separate >>= (λ apart. pure (λ _ _ _ _. refl))))))
    (any entry_law.side >>= (λ found. any entry_law.separate >>= (λ apart. pure (λ _ _. refl))))

occurs_clause : Gives IsNumbered clauses.occurs_clause (λ clause. clause_literal clause ≡ true)
unfolding clauses.occurs_clause
occurs_clause = key (codes "OCCURS") >>= (λ at. any laws.digits >>= (λ found. maybe (codes "TIMES") >> pure (λ _ _ _. refl)))

thru : Gives IsNumbered clauses.thru (λ thru. thru_literal thru ≡ true)
unfolding clauses.thru
thru = any (entry_law.either (codes "THRU") (codes "THROUGH")) >>= (λ at. literal >>= (λ found. pure (λ l _. l)))

maybe_thru : Gives IsNumbered clauses.maybe_thru (λ end. if_any thru_literal end ≡ true)
unfolding clauses.maybe_thru
maybe_thru = where_next (thru >>= (λ found. pure (λ t. t))) (pure refl)

span : Gives IsNumbered clauses.span (λ span. span_literal span ≡ true)
unfolding clauses.span
span = literal >>= (λ found. maybe_thru >>= (λ end. pure (λ t l. both l t)))

spans : Gives IsNumbered clauses.spans (λ list. (is_filled list ≡ true) × (all (map span_literal list) ≡ true))
unfolding clauses.spans
spans = some span_literal span

value_clause : Gives IsNumbered clauses.value_clause (λ clause. clause_literal clause ≡ true)
unfolding clauses.value_clause
value_clause =
    any (entry_law.either (codes "VALUE") (codes "VALUES")) >>= (λ at. any (entry_law.maybe_either (codes "IS") (codes "ARE")) >>
    (spans >>= (λ found. pure (λ s _ _. both s.0 s.1))))

clause : Gives IsNumbered clauses.clause (λ clause. clause_literal clause ≡ true)
unfolding clauses.clause clauses.stored_clause clauses.counted_clause
clause =
    where_next redefines_clause
    (where_next picture_clause
    (where_next usage_clause
    (where_next sign_clause (where_next occurs_clause value_clause))))

-- ---- entries

-- [word | FILLER]
entry_name_law : laws.Law false entries.entry_name
unfolding entries.entry_name
entry_name_law =
    laws.where_next (laws.loose (laws.◌>>◌ (laws.key (codes "FILLER")) laws.pure))
    (laws.where_next (laws.loose (laws.◌>>=◌ words.name (λ found. laws.pure))) laws.pure)

entry_clauses : Gives IsNumbered entries.entry_clauses (λ list. all (map clause_literal list) ≡ true)
unfolding entries.entry_clauses
entry_clauses = many clause_literal clause

entry : Gives IsNumbered entries.entry (λ entry. entry_literal entry ≡ true)
unfolding entries.entry
entry = any laws.digits >>= (λ level. any entry_name_law >>= (λ name. entry_clauses >>= (λ found. period >> pure (λ _ c _ _. c))))

-- ---- the DATA DIVISION

records : Gives IsNumbered datas.records (λ list. (is_filled list ≡ true) × (entries_literal list ≡ true))
unfolding datas.records
records = some entry_literal entry

fd : Gives IsNumbered datas.fd (λ fd. fd_literal fd ≡ true)
unfolding datas.fd
fd = key (codes "FD") >> (any words.name >>= (λ file. any (law.fd_clauses tt) >> (period >> (records >>= (λ found. pure (λ r _ _ _ _. both r.0 r.1))))))

fds : Gives IsNumbered datas.fds (λ list. all (map fd_literal list) ≡ true)
unfolding datas.fds
fds = many fd_literal fd

files : Gives IsNumbered datas.files (λ list. all (map fd_literal list) ≡ true)
unfolding datas.files datas.file_section
files = where_next (any (entry_law.header (codes "FILE") (codes "SECTION")) >> still fds) (pure refl)

items : Gives IsNumbered datas.entries (λ list. entries_literal list ≡ true)
unfolding datas.entries
items = many entry_literal entry

storage : Gives IsNumbered datas.storage (λ list. entries_literal list ≡ true)
unfolding datas.storage datas.working_storage
storage = where_next (any (entry_law.header (codes "WORKING-STORAGE") (codes "SECTION")) >> still items) (pure refl)

data_part : Gives IsNumbered datas.data_part (λ found. data_literal found ≡ true)
unfolding datas.data_part datas.data_division
data_part =
    where_next (any (entry_law.header (codes "DATA") (codes "DIVISION")) >> (files >>= (λ fds. storage >>= (λ held. pure (λ s f _. both f s)))))
    (pure refl)

-- ---- the ENVIRONMENT DIVISION

module _ (counts : Counts) {status : Form Place} (S : Gives IsNumbered status (λ place. place_named counts place ≡ true)) where
  status_clause : Gives IsNumbered (environments.status_clause status) (λ found. status_named counts found ≡ true)
  unfolding environments.status_clause
  status_clause = any law.status_word >>= (λ at. maybe (codes "IS") >> (S >>= (λ place. pure (λ p _ _. p))))

  abbrev Statuses : List StatusDraft → Type 0
  Statuses list = all (map (status_named counts) list) ≡ true

  storage_clause : (before : List StatusDraft) → Gives IsNumbered (environments.storage_clause before) (λ list. Statuses before → Statuses list)
  unfolding environments.storage_clause
  storage_clause before = where_next (any law.organization >> pure (λ _ b. b)) (any law.access >> pure (λ _ b. b))

  select_clause : (before : List StatusDraft) → Gives IsNumbered (environments.select_clause status before) (λ list. Statuses before → Statuses list)
  unfolding environments.select_clause
  select_clause before = where_next (status_clause >>= (λ found. pure (λ s b. all-added (status_named counts) before found b s))) (storage_clause before)

  select_clauses : Gives IsNumbered (environments.select_clauses status) Statuses
  unfolding environments.select_clauses
  select_clauses = hence (λ list h. h refl) (loop {P = Statuses} select_clause)

  select : Gives IsNumbered (environments.select status) (λ found. select_named counts found ≡ true)
  unfolding environments.select
  select = do
    key (codes "SELECT")
    file ← any words.name
    key (codes "ASSIGN")
    maybe (codes "TO")
    device ← any law.assign
    statuses ← select_clauses
    period
    pure (λ _ s _ _ _ _ _. s)

  selects : Gives IsNumbered (environments.selects status) (λ list. all (map (select_named counts) list) ≡ true)
  selects = many (select_named counts) select

  input_output : Gives IsNumbered (environments.input_output status) (λ list. all (map (select_named counts) list) ≡ true)
  unfolding environments.input_output environments.input_output_section
  input_output =
      where_next (any (entry_law.header (codes "INPUT-OUTPUT") (codes "SECTION")) >> (key (codes "FILE-CONTROL") >> (period >> still (still (still selects)))))
      (pure refl)

  environment : Gives IsNumbered (environments.environment status) (λ list. all (map (select_named counts) list) ≡ true)
  unfolding environments.environment environments.environment_division
  environment =
      where_next (any (entry_law.header (codes "ENVIRONMENT") (codes "DIVISION")) >> (any law.configuration >> still (still input_output)))
      (pure refl)

  pub divisions : Gives IsNumbered (all_forms.divisions status) (DivisionsNamed counts)
  unfolding all_forms.divisions
  divisions = any law.identification >>= (λ name. environment >>= (λ selected. data_part >>= (λ found. pure (λ d e _. record { statuses = e; values = d }))))
