-- What spells the divisions before the PROCEDURE DIVISION.
use Rattle.std.proofs.Common.{◌≡◌, ℕ, false, List, [], ◌∷◌, ◌++◌, Option, refl, ap, sym, subst}
use Rattle.std.specs.Prelude.{codes}
use Rattle.cob_tree.specs.declared.entry.Entry.{Entry}
use Rattle.cob_tree.specs.declared.file.FileEntry.{FileEntry}
use Rattle.cob_tree.specs.declared.place.Place.{Place}
use Rattle.cob_tree.specs.declared.program.Program.{Program}
use Rattle.cobol_lex.specs.declared.token.TokenKind.{TokenKind}
use Rattle.cobol_lex.specs.declared.token.TokenKind.TheVariants as kinds
use Rattle.cobol_grammar.specs.data_forms.Choice as choice
use Rattle.cobol_grammar.specs.data_forms.Data as data_forms
use Rattle.cobol_grammar.specs.data_forms.Divisions as forms
use Rattle.cobol_grammar.specs.data_forms.Environment as environments
use Rattle.parser_combinators.specs.Form.{Form, begins_by}
use Rattle.parser_combinators.specs.Part.{is_key}
use Rattle.round_trip.specs.spelled_forms.Spelling.{first_of, Any, Spelled}
use Rattle.round_trip.proofs.spelled_forms_lemmas.Makers.{pure, where_behind, bind, then as onward, ending, behind_first, there_next, other_next}
use Rattle.round_trip.proofs.spelled_forms_lemmas.Tokens.{same_word, key, period, name}
use Rattle.round_trip.specs.spelling.data_spelling.Kinds.{header_kinds, title_kinds, selects_kinds, environment_kinds, file_section_kinds, storage_kinds, sections_kinds, data_kinds, divisions_kinds}
use Rattle.round_trip.specs.spelling.data_spelling.Printable.{IsDataWord, ArePrintableEntries, ArePrintableFiles, ArePrintableFds, BeforeProcedures, IsPrintable}
use Rattle.round_trip.specs.spelling.data_spelling.Sections.{Fd}
use Rattle.round_trip.specs.spelling.data_spelling.Drafts.{AreSelects, AreFds, AreDrafts, AreData, AreDivisions}
use Rattle.round_trip.proofs.spelling_lemmas.data_spelling_lemmas.Entries.{NoDigits, entries_spelled}
use Rattle.round_trip.proofs.spelling_lemmas.data_spelling_lemmas.Files.{selects_spelled, NoFd, fds_spelled}

headed : {n : ℕ} (word : List ℕ) → Spelled (choice.headed word) n (kinds.Word word ∷ kinds.Period ∷ []) Any (λ _. Unit {0})
unfolding choice.headed
headed word = ending (onward (key word) (λ _ _. period)) (λ _ _. pure tt)

header : {n : ℕ} (first second : List ℕ) → Spelled (choice.header first second) n (header_kinds first second) Any (λ _. Unit {0})
unfolding choice.header
header first second = onward (key first) (λ _ _. headed second)

identification : {n : ℕ} (title : List ℕ) → IsDataWord title → Spelled forms.identification n (title_kinds title) Any (λ found. found ≡ title)
unfolding forms.identification choice.either
identification title free =
    onward (there_next (is_key (codes "IDENTIFICATION")) _ (λ o b. same_word (codes "IDENTIFICATION")) (key (codes "IDENTIFICATION")))
    (λ _ _. onward (headed (codes "DIVISION")) (λ _ _. onward (headed (codes "PROGRAM-ID")) (λ _ _. onward (name title free) (λ found h. ending period (λ _ _. pure h.0)))))

-- this word doesn't stand there
abbrev Not : List ℕ → Option TokenKind → Type 0
Not word behind = begins_by (is_key word) behind ≡ false

-- ---- the environment division

module _ (status : Form Place) (program : Program) where
  input_output : {n : ℕ} (file : FileEntry) (files : List FileEntry) → ArePrintableFiles status program (file ∷ files) →
      Spelled (environments.input_output status) n (header_kinds (codes "INPUT-OUTPUT") (codes "SECTION") ++ ((kinds.Word (codes "FILE-CONTROL") ∷ kinds.Period ∷ []) ++ selects_kinds program (file ∷ files)))
      (Not (codes "SELECT")) (AreSelects (file ∷ files))
  unfolding environments.input_output environments.input_output_section
  input_output file files h =
      there_next (is_key (codes "INPUT-OUTPUT")) _ (λ o b. refl)
      (onward (header (codes "INPUT-OUTPUT") (codes "SECTION")) (λ _ _. onward (key (codes "FILE-CONTROL")) (λ _ _. onward period (λ _ _. selects_spelled status program (file ∷ files) h))))

  configuration : {n : ℕ} → Spelled environments.configuration n [] (Not (codes "CONFIGURATION")) (λ _. Unit {0})
  unfolding environments.configuration
  configuration = other_next (is_key (codes "CONFIGURATION")) _ (λ o b. b) (pure tt)

  -- neither the division nor a SELECT begins there
  abbrev BehindEnvironment : Option TokenKind → Type 0
  BehindEnvironment behind = Not (codes "ENVIRONMENT") behind × Not (codes "SELECT") behind

  environment : {n : ℕ} (files : List FileEntry) → ArePrintableFiles status program files → Spelled (environments.environment status) n (environment_kinds program files) BehindEnvironment (AreSelects files)
  unfolding environments.environment environments.environment_division
  environment [] h = other_next (is_key (codes "ENVIRONMENT")) _ (λ o b. b.0) (pure tt)
  environment (file ∷ files) h =
      there_next (is_key (codes "ENVIRONMENT")) _ (λ o b. refl)
      (onward (header (codes "ENVIRONMENT") (codes "DIVISION")) (λ _ _. behind_first configuration (λ o b. refl) (λ _ _. where_behind (λ o b. b.1) (input_output file files h))))

-- ---- the data division

module _ (program : Program) where
  -- nothing of the FILE SECTION begins there
  abbrev BehindFiles : Option TokenKind → Type 0
  BehindFiles behind = NoFd behind × Not (codes "FILE") behind

  files_spelled : {n : ℕ} (fds : List Fd) → ArePrintableFds program fds → Spelled data_forms.files n (file_section_kinds program fds) BehindFiles (AreFds program fds)
  unfolding data_forms.files data_forms.file_section
  files_spelled [] h = other_next (is_key (codes "FILE")) _ (λ o b. b.1) (pure tt)
  files_spelled (fd ∷ fds) h =
      there_next (is_key (codes "FILE")) _ (λ o b. refl) (onward (header (codes "FILE") (codes "SECTION")) (λ _ _. where_behind (λ o b. b.0) (fds_spelled program (fd ∷ fds) h)))

  abbrev BehindStorage : Option TokenKind → Type 0
  BehindStorage behind = NoDigits behind × Not (codes "WORKING-STORAGE") behind

  storage_spelled : {n : ℕ} (storage : List Entry) → ArePrintableEntries program storage → Spelled data_forms.storage n (storage_kinds program storage) BehindStorage (AreDrafts program storage)
  unfolding data_forms.storage data_forms.working_storage
  storage_spelled [] h = other_next (is_key (codes "WORKING-STORAGE")) _ (λ o b. b.1) (pure tt)
  storage_spelled (entry ∷ storage) h =
      there_next (is_key (codes "WORKING-STORAGE")) _ (λ o b. refl)
      (onward (header (codes "WORKING-STORAGE") (codes "SECTION")) (λ _ _. where_behind (λ o b. b.0) (entries_spelled program (entry ∷ storage) h)))

  behind-files : (storage : List Entry) (o : Option TokenKind) → BeforeProcedures o → BehindFiles (first_of (storage_kinds program storage) o)
  behind-files [] o b = subst BehindFiles (sym b) ((refl, refl), refl)
  behind-files (entry ∷ storage) o b = ((refl, refl), refl)

  behind-storage : (o : Option TokenKind) → BeforeProcedures o → BehindStorage o
  behind-storage o b = subst BehindStorage (sym b) (refl, refl)

  division : {n : ℕ} (fds : List Fd) (storage : List Entry) → ArePrintableFds program fds → ArePrintableEntries program storage →
      Spelled data_forms.data_part n (header_kinds (codes "DATA") (codes "DIVISION") ++ sections_kinds program fds storage) BeforeProcedures (AreData program fds storage)
  unfolding data_forms.data_part data_forms.data_division
  division fds storage h k =
      there_next (is_key (codes "DATA")) _ (λ o b. refl) (onward (header (codes "DATA") (codes "DIVISION")) (λ _ _.
      bind (files_spelled fds h) (behind-files storage) (λ drafts d. ending (where_behind behind-storage (storage_spelled storage k)) (λ items i. pure (record { fds = d; storage = i })))))

  data_spelled : {n : ℕ} (fds : List Fd) (storage : List Entry) → ArePrintableFds program fds → ArePrintableEntries program storage →
      Spelled data_forms.data_part n (data_kinds program fds storage) BeforeProcedures (AreData program fds storage)
  unfolding data_forms.data_part
  data_spelled [] [] h k = other_next (is_key (codes "DATA")) _ (λ o b. ap (begins_by (is_key (codes "DATA"))) b) (pure (record { fds = tt; storage = tt }))
  data_spelled [] (entry ∷ storage) h k = division [] (entry ∷ storage) h k
  data_spelled (fd ∷ fds) storage h k = division (fd ∷ fds) storage h k

  behind-environment : (fds : List Fd) (storage : List Entry) (o : Option TokenKind) → BeforeProcedures o → (Not (codes "ENVIRONMENT") (first_of (data_kinds program fds storage) o)) × (Not (codes "SELECT") (first_of (data_kinds program fds storage) o))
  behind-environment [] [] o b = (ap (begins_by (is_key (codes "ENVIRONMENT"))) b, ap (begins_by (is_key (codes "SELECT"))) b)
  behind-environment [] (entry ∷ storage) o b = (refl, refl)
  behind-environment (fd ∷ fds) storage o b = (refl, refl)

-- ---- all of them

pub divisions : {n : ℕ} (status : Form Place) (program : Program) (fds : List Fd) (storage : List Entry) → IsPrintable status program fds storage →
    Spelled (forms.divisions status) n (divisions_kinds program fds storage) BeforeProcedures (AreDivisions program fds storage)
unfolding forms.divisions
divisions status program fds storage h =
    onward (identification program.name h.titled) (λ title t. bind (environment status program program.files h.files) (behind-environment program fds storage) (λ selects s.
    ending (data_spelled program fds storage h.fds h.storage) (λ data_part d. pure (record { name = t; selects = s; data_part = d }))))
