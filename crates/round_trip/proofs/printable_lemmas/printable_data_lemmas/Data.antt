-- What the divisions before the PROCEDURE DIVISION give.
use Rattle.std.proofs.Common.{◌≡◌, ℕ, Bool, true, List, length, get_or, map, Some, refl, subst, arith}
use Rattle.std.specs.Prelude.{codes, nat_le}
use Rattle.std.proofs.lemmas.Bool.{le-leb}
use Rattle.std.proofs.lemmas.Bool.Decides.{nat_tests}
use Rattle.std.proofs.lemmas.List.Sums.{list_all-from_AllPass}
use Rattle.cob_base.specs.Bytes.{space}
use Rattle.cob_base.specs.Spelling.{word_byte}
use Rattle.cob_tree.specs.declared.place.Place.{Place}
use Rattle.cobol_lex.specs.declared.token.TokenKind.{TokenKind}
use Rattle.cobol_lex.specs.declared.token.TokenKind.TheVariants as kinds
use Rattle.parser_combinators.specs.declared.note.Position.{Position}
use Rattle.parser_combinators.specs.Part as part
use Rattle.parser_combinators.specs.Form as form
use Rattle.parser_combinators.specs.Form.{Form}
use Rattle.parser_combinators.proofs.MakerLaws as laws
use Rattle.parser_combinators.specs.words.Word as word_forms
use Rattle.parser_combinators.proofs.words_lemmas.WordLaws as words
use Rattle.cobol_grammar.specs.declared.data_forms.draft.StatusDraft.{StatusDraft}
use Rattle.cobol_grammar.specs.data_forms.Clause as clauses
use Rattle.cobol_grammar.specs.data_forms.Entry as entries
use Rattle.cobol_grammar.specs.data_forms.Environment as environments
use Rattle.cobol_grammar.specs.data_forms.Data as datas
use Rattle.cobol_grammar.specs.data_forms.Divisions as all_forms
use Rattle.cobol_grammar.proofs.data_forms_lemmas.EntryLaws as entry_law
use Rattle.cobol_grammar.proofs.data_forms_lemmas.DivisionLaws as law
use Rattle.control_flow_theory.specs.language.All.{all}
use Rattle.program_facts.specs.well_scoped.Part.{if_any}
use Rattle.program_facts.proofs.well_scoped_lemmas.Made.{both, all-added}
use Rattle.grammar_laws.specs.form_results.Giving.{Gives}
use Rattle.grammar_laws.proofs.form_results_lemmas.Giving.{any, hence, still, pure, key, maybe, period, where_next, loop, items_all, some, ◌>>=◌, ◌>>◌}
use Rattle.round_trip.specs.printable.printable_tokens.Printable.{IsPrintableWord, is_printable_text, IsPrintable}
use Rattle.round_trip.specs.printable.Part.{is_printable_name, is_printable_place}
use Rattle.round_trip.proofs.printable_lemmas.printable_exprs_lemmas.Words.{begun, name, picture, text, literal}
use Rattle.round_trip.specs.printable.printable_data.Drafts.{thru_printable, span_printable, clause_printable, entry_printable, entries_printable, fd_printable, data_printable, status_printable, select_printable, ArePrintable}

many : {A : Type 0} {begin : TokenKind → Bool} {item : Form A} (test : A → Bool) → Gives IsPrintable item (λ x. test x ≡ true) → Gives IsPrintable (form.many begin item) (λ list. all (map test list) ≡ true)
many test F = hence (λ list h. h refl) (items_all test F)

-- ---- clauses

redefines_clause : Gives IsPrintable clauses.redefines_clause (λ clause. clause_printable clause ≡ true)
unfolding clauses.redefines_clause
redefines_clause = key (codes "REDEFINES") >>= (λ at. any words.name >>= (λ found. pure (λ _ _. refl)))

picture_clause : Gives IsPrintable clauses.picture_clause (λ clause. clause_printable clause ≡ true)
unfolding clauses.picture_clause
picture_clause = any (entry_law.either (codes "PIC") (codes "PICTURE")) >>= (λ at. maybe (codes "IS") >> (picture >>= (λ found. pure (λ b _ _. b))))

usage_clause : Gives IsPrintable clauses.usage_clause (λ clause. clause_printable clause ≡ true)
unfolding clauses.usage_clause clauses.usage_behind clauses.usage_alone
usage_clause =
    where_next (key (codes "USAGE") >>= (λ at. maybe (codes "IS") >> (any entry_law.usage >>= (λ found. pure (λ _ _ _. refl)))))
    (any entry_law.usage >>= (λ found. pure (λ _. refl)))

sign_clause : Gives IsPrintable clauses.sign_clause (λ clause. clause_printable clause ≡ true)
unfolding clauses.sign_clause clauses.sign_behind clauses.side_clause
sign_clause =
    where_next (key (codes "SIGN") >>= (λ at. maybe (codes "IS") >> (any entry_law.side >>= (λ found. any entry_law.separate >>= (λ apart. pure (λ _ _ _ _. refl))))))
    (any entry_law.side >>= (λ found. any entry_law.separate >>= (λ apart. pure (λ _ _. refl))))

occurs_clause : Gives IsPrintable clauses.occurs_clause (λ clause. clause_printable clause ≡ true)
unfolding clauses.occurs_clause
occurs_clause = key (codes "OCCURS") >>= (λ at. any laws.digits >>= (λ found. maybe (codes "TIMES") >> pure (λ _ _ _. refl)))

thru : Gives IsPrintable clauses.thru (λ thru. thru_printable thru ≡ true)
unfolding clauses.thru
thru = any (entry_law.either (codes "THRU") (codes "THROUGH")) >>= (λ at. literal >>= (λ found. pure (λ l _. l)))

maybe_thru : Gives IsPrintable clauses.maybe_thru (λ end. if_any thru_printable end ≡ true)
unfolding clauses.maybe_thru
maybe_thru = where_next (thru >>= (λ found. pure (λ t. t))) (pure refl)

span : Gives IsPrintable clauses.span (λ span. span_printable span ≡ true)
unfolding clauses.span
span = literal >>= (λ found. maybe_thru >>= (λ end. pure (λ t l. both l t)))

spans : Gives IsPrintable clauses.spans (λ list. all (map span_printable list) ≡ true)
unfolding clauses.spans
spans = hence (λ list h. h.1) (some span_printable span)

value_clause : Gives IsPrintable clauses.value_clause (λ clause. clause_printable clause ≡ true)
unfolding clauses.value_clause
value_clause =
    any (entry_law.either (codes "VALUE") (codes "VALUES")) >>= (λ at. any (entry_law.maybe_either (codes "IS") (codes "ARE")) >>
    (spans >>= (λ found. pure (λ s _ _. s))))

clause : Gives IsPrintable clauses.clause (λ clause. clause_printable clause ≡ true)
unfolding clauses.clause clauses.stored_clause clauses.counted_clause
clause =
    where_next redefines_clause
    (where_next picture_clause
    (where_next usage_clause
    (where_next sign_clause (where_next occurs_clause value_clause))))

-- ---- entries

-- [word | FILLER]
entry_name : Gives IsPrintable entries.entry_name (λ found. if_any is_printable_name found ≡ true)
unfolding entries.entry_name
entry_name = where_next (key (codes "FILLER") >> pure (λ _. refl)) (where_next (name >>= (λ found. pure (λ n. n))) (pure refl))

entry_clauses : Gives IsPrintable entries.entry_clauses (λ list. all (map clause_printable list) ≡ true)
unfolding entries.entry_clauses
entry_clauses = many clause_printable clause

entry : Gives IsPrintable entries.entry (λ entry. entry_printable entry ≡ true)
unfolding entries.entry
entry = any laws.digits >>= (λ level. entry_name >>= (λ named. entry_clauses >>= (λ found. period >> pure (λ _ c n _. both n c))))

-- ---- the DATA DIVISION

records : Gives IsPrintable datas.records (λ list. entries_printable list ≡ true)
unfolding datas.records
records = hence (λ list h. h.1) (some entry_printable entry)

fd : Gives IsPrintable datas.fd (λ fd. fd_printable fd ≡ true)
unfolding datas.fd
fd = key (codes "FD") >> (any words.name >>= (λ file. any (law.fd_clauses tt) >> (period >> (records >>= (λ found. pure (λ r _ _ _ _. r))))))

fds : Gives IsPrintable datas.fds (λ list. all (map fd_printable list) ≡ true)
unfolding datas.fds
fds = many fd_printable fd

files : Gives IsPrintable datas.files (λ list. all (map fd_printable list) ≡ true)
unfolding datas.files datas.file_section
files = where_next (any (entry_law.header (codes "FILE") (codes "SECTION")) >> still fds) (pure refl)

items : Gives IsPrintable datas.entries (λ list. entries_printable list ≡ true)
unfolding datas.entries
items = many entry_printable entry

storage : Gives IsPrintable datas.storage (λ list. entries_printable list ≡ true)
unfolding datas.storage datas.working_storage
storage = where_next (any (entry_law.header (codes "WORKING-STORAGE") (codes "SECTION")) >> still items) (pure refl)

data_part : Gives IsPrintable datas.data_part (λ found. data_printable found ≡ true)
unfolding datas.data_part datas.data_division
data_part =
    where_next (any (entry_law.header (codes "DATA") (codes "DIVISION")) >> (files >>= (λ fds. storage >>= (λ held. pure (λ s f _. both f s)))))
    (pure refl)

-- ---- the ENVIRONMENT DIVISION

byte-prints : (b : ℕ) → word_byte b ≡ true → nat_le space b ≡ true
byte-prints b h = grind (arith, nat_tests)

-- a word counts as the literal of its bytes
word-text : (word : List ℕ) → IsPrintableWord word → is_printable_text word ≡ true
word-text word h =
    let few = h.0.word.short in
    both (both (le-leb 1 (length word) h.0.word.begun) (le-leb (length word) 160 (omega (arith, few))))
    (list_all-from_AllPass (nat_le space) word (λ k d inside. byte-prints (get_or word k d) (h.0.word.spelled k d inside)))

some-is : {A : Type 0} {x y : A} → Some x ≡ Some y → x ≡ y
some-is e = cc

word-token : (position : Position) (kind : TokenKind) (found : List ℕ × Position) → IsPrintable kind → word_forms.is_user_word kind ≡ true →
    part.with_position position (part.word_of kind) ≡ Some found → is_printable_text found.0 ≡ true
word-token position (kinds.Word word) found k d e = subst (λ (f : List ℕ × Position). is_printable_text f.0 ≡ true) (some-is e) (word-text word k)
word-token position (kinds.Digits digits) found k d e = absurd cc
word-token position (kinds.Decimal number) found k d e = absurd cc
word-token position (kinds.Literal text) found k d e = absurd cc
word-token position (kinds.Picture picture) found k d e = absurd cc
word-token position kinds.Period found k d e = absurd cc
word-token position (kinds.Mark b) found k d e = absurd cc
word-token position kinds.LessEqual found k d e = absurd cc
word-token position kinds.GreaterEqual found k d e = absurd cc
word-token position kinds.Power found k d e = absurd cc

user_word : Gives IsPrintable word_forms.user_word (λ found. is_printable_text found.0 ≡ true)
unfolding word_forms.user_word
user_word = begun IsPrintable word_forms.is_user_word (λ position kind. part.with_position position (part.word_of kind)) _ word-token

assign : Gives IsPrintable environments.assign (λ found. is_printable_text found.0 ≡ true)
unfolding environments.assign
assign = where_next text user_word

module _ {status : Form Place} (S : Gives IsPrintable status (λ place. is_printable_place place ≡ true)) where
  status_clause : Gives IsPrintable (environments.status_clause status) (λ found. status_printable found ≡ true)
  unfolding environments.status_clause
  status_clause = any law.status_word >>= (λ at. maybe (codes "IS") >> (S >>= (λ place. pure (λ p _ _. p))))

  abbrev Statuses : List StatusDraft → Type 0
  Statuses list = all (map status_printable list) ≡ true

  storage_clause : (before : List StatusDraft) → Gives IsPrintable (environments.storage_clause before) (λ list. Statuses before → Statuses list)
  unfolding environments.storage_clause
  storage_clause before = where_next (any law.organization >> pure (λ _ b. b)) (any law.access >> pure (λ _ b. b))

  select_clause : (before : List StatusDraft) → Gives IsPrintable (environments.select_clause status before) (λ list. Statuses before → Statuses list)
  unfolding environments.select_clause
  select_clause before = where_next (status_clause >>= (λ found. pure (λ s b. all-added status_printable before found b s))) (storage_clause before)

  select_clauses : Gives IsPrintable (environments.select_clauses status) Statuses
  unfolding environments.select_clauses
  select_clauses = hence (λ list h. h refl) (loop {P = Statuses} select_clause)

  select : Gives IsPrintable (environments.select status) (λ found. select_printable found ≡ true)
  unfolding environments.select
  select = do
    key (codes "SELECT")
    file ← name
    key (codes "ASSIGN")
    maybe (codes "TO")
    device ← assign
    statuses ← select_clauses
    period
    pure (λ _ s d _ _ f _. both (both f d) s)

  selects : Gives IsPrintable (environments.selects status) (λ list. all (map select_printable list) ≡ true)
  selects = many select_printable select

  input_output : Gives IsPrintable (environments.input_output status) (λ list. all (map select_printable list) ≡ true)
  unfolding environments.input_output environments.input_output_section
  input_output =
      where_next (any (entry_law.header (codes "INPUT-OUTPUT") (codes "SECTION")) >> (key (codes "FILE-CONTROL") >> (period >> still (still (still selects)))))
      (pure refl)

  environment : Gives IsPrintable (environments.environment status) (λ list. all (map select_printable list) ≡ true)
  unfolding environments.environment environments.environment_division
  environment =
      where_next (any (entry_law.header (codes "ENVIRONMENT") (codes "DIVISION")) >> (any law.configuration >> still (still input_output)))
      (pure refl)

  identification : Gives IsPrintable all_forms.identification (λ found. is_printable_name found ≡ true)
  unfolding all_forms.identification
  identification = do
    any (entry_law.either (codes "IDENTIFICATION") (codes "ID"))
    any (entry_law.headed (codes "DIVISION"))
    any (entry_law.headed (codes "PROGRAM-ID"))
    found ← name
    period
    pure (λ _ n _ _ _. n)

  pub divisions : Gives IsPrintable (all_forms.divisions status) ArePrintable
  unfolding all_forms.divisions
  divisions = identification >>= (λ title. environment >>= (λ selected. data_part >>= (λ found. pure (λ d e n. record { name = n; selects = e; items = d }))))
