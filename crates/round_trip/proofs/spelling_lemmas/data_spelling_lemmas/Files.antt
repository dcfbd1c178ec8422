-- What spells SELECTs and FDs.
use Rattle.std.proofs.Common.{◌≡◌, ℕ, false, List, [], ◌∷◌, ◌++◌, Option, Some, None, refl, ap, sym, ◌∙◌, subst, append_assoc, append-nil}
use Rattle.std.specs.Prelude.{codes}
use Rattle.cob_tree.specs.declared.file.FileEntry.{FileEntry}
use Rattle.cob_tree.specs.declared.place.Place.{Place}
use Rattle.cob_tree.specs.declared.program.Program.{Program}
use Rattle.cobol_lex.specs.declared.token.TokenKind.{TokenKind}
use Rattle.cobol_lex.specs.declared.token.TokenKind.TheVariants as kinds
use Rattle.cobol_grammar.specs.declared.data_forms.draft.FdDraft.{FdDraft}
use Rattle.cobol_grammar.specs.declared.data_forms.draft.SelectDraft.{SelectDraft}
use Rattle.cobol_grammar.specs.declared.data_forms.draft.StatusDraft.{StatusDraft}
use Rattle.cobol_grammar.specs.data_forms.Data as data_forms
use Rattle.cobol_grammar.specs.data_forms.Environment as forms
use Rattle.parser_combinators.specs.Form as form
use Rattle.parser_combinators.specs.Form.{Form, begins_by}
use Rattle.parser_combinators.specs.Part as part
use Rattle.parser_combinators.specs.Part.{is_key}
use Rattle.parser_combinators.specs.words.Constant.{is_text}
use Rattle.round_trip.specs.spelled_forms.Spelling.{first_of, Any, Spelled}
use Rattle.round_trip.proofs.spelled_forms_lemmas.Makers.{pure, hence, bind, then as onward, ending, behind_first, there_next, no_turn, turn}
use Rattle.round_trip.proofs.spelled_forms_lemmas.Tokens.{same_word, key, period, valued, name, maybe}
use Rattle.unparser.specs.File.{file_name}
use Rattle.cobol_print.specs.units.Division.{select_tokens, status_tokens}
use Rattle.round_trip.specs.spelling.data_spelling.Kinds.{entries_kinds, select_kinds, selects_kinds, fd_kinds, fds_kinds}
use Rattle.round_trip.specs.spelling.data_spelling.Printable.{IsPeriod, SpellsStatus, IsPrintableFile, ArePrintableFiles, IsPrintableFd, ArePrintableFds}
use Rattle.round_trip.specs.spelling.data_spelling.Sections.{Fd, records}
use Rattle.round_trip.specs.spelling.data_spelling.Drafts.{IsStatus, IsSelect, AreSelects, file_title, IsFd, AreFds}
use Rattle.round_trip.proofs.spelling_lemmas.data_spelling_lemmas.Entries.{NoDigits, records_spelled}

module _ (status : Form Place) (program : Program) where
  -- ---- FILE STATUS

  abbrev StatusLoop : List StatusDraft → Form (List StatusDraft)
  StatusLoop before = form.loop forms.begins_select_clause (forms.select_clause status) before

  status_word : {n : ℕ} → Spelled forms.status_word n (kinds.Word (codes "FILE") ∷ kinds.Word (codes "STATUS") ∷ []) Any (λ _. Unit {0})
  unfolding forms.status_word forms.file_status
  status_word =
      there_next (is_key (codes "FILE")) _ (λ o b. same_word (codes "FILE"))
      (onward (key (codes "FILE")) (λ at _. ending (key (codes "STATUS")) (λ _ _. pure tt)))

  status_clause : {n : ℕ} (place : Place) → SpellsStatus status program (Some place) →
      Spelled (forms.status_clause status) n (status_tokens program (Some place)) IsPeriod (λ (draft : StatusDraft). draft.place ≡ place)
  unfolding forms.status_clause
  status_clause place h =
      onward status_word (λ at _. onward (maybe (codes "IS")) (λ _ _. ending (h _) (λ found e. pure e)))

  statuses : {n : ℕ} (o : Option Place) → SpellsStatus status program o → Spelled (forms.select_clauses status) n (status_tokens program o) IsPeriod (IsStatus o)
  unfolding forms.select_clauses forms.begins_select_clause forms.select_clause
  statuses None h = no_turn forms.begins_select_clause (forms.select_clause status) (λ o b. ap (begins_by forms.begins_select_clause) b) refl
  statuses {n = n} (Some place) h =
      subst (λ list. Spelled (StatusLoop []) n list IsPeriod (IsStatus (Some place))) (append-nil (status_tokens program (Some place)))
      (turn forms.begins_select_clause (forms.select_clause status) {Had = IsStatus (Some place)} (λ o. refl)
      (there_next forms.is_status _ (λ o b. refl) (ending (status_clause place h) (λ draft e. pure (draft.at, ap (λ p. record { at = draft.at; place = p } ∷ []) e)))) (λ o b. b)
      (λ mid e. no_turn forms.begins_select_clause (forms.select_clause status) (λ o b. ap (begins_by forms.begins_select_clause) b) e))

  -- ---- SELECT

  select_spelled : {n : ℕ} (file : FileEntry) → IsPrintableFile status program file → Spelled (forms.select status) n (select_kinds program file) Any (IsSelect file)
  unfolding forms.select forms.assign
  select_spelled {n = n} file h =
      subst (λ list. Spelled (forms.select status) n list Any (IsSelect file)) (sym (append_assoc (select_tokens file) (status_tokens program file.status) (kinds.Period ∷ [])))
      (onward (key (codes "SELECT")) (λ _ _. onward (name file.name h.named) (λ title t. onward (key (codes "ASSIGN")) (λ _ _. onward (maybe (codes "TO")) (λ _ _.
      onward (there_next is_text _ (λ o b. refl) (valued part.literal_of file.assign refl)) (λ device d. bind (statuses file.status h.stated) (λ o b. refl)
      (λ found s. ending period (λ _ _. pure (record { name = t.0; assign = d.0; status = s })))))))))

  selects_from : (files : List FileEntry) → ArePrintableFiles status program files → (front : List SelectDraft) (n : ℕ) →
      Spelled (form.loop (is_key (codes "SELECT")) (form.added (forms.select status)) front) n (selects_kinds program files) (λ o. begins_by (is_key (codes "SELECT")) o ≡ false)
      (λ list. (more : List SelectDraft) × AreSelects files more × (list ≡ front ++ more))
  selects_from [] h front n = no_turn (is_key (codes "SELECT")) (form.added (forms.select status)) (λ o b. b) ([], tt, sym (append-nil front))
  selects_from (file ∷ files) h front n =
      turn (is_key (codes "SELECT")) (form.added (forms.select status)) {Had = λ mid. (draft : SelectDraft) × IsSelect file draft × (mid ≡ front ++ draft ∷ [])} (λ o. refl)
      (ending (select_spelled file h.0) (λ draft d. pure (draft, d, refl))) (λ o b. tt)
      (λ mid e. hence
      (λ list k. (e.0 ∷ k.0, (e.1, k.1), k.2 ∙ ap (λ f. f ++ k.0) e.2 ∙ append_assoc front (e.0 ∷ []) k.0))
      (selects_from files h.1 mid _))

  pub selects_spelled : {n : ℕ} (files : List FileEntry) → ArePrintableFiles status program files →
      Spelled (forms.selects status) n (selects_kinds program files) (λ o. begins_by (is_key (codes "SELECT")) o ≡ false) (AreSelects files)
  selects_spelled {n = n} files h = hence (λ list k. subst (AreSelects files) (sym k.2) k.1) (selects_from files h [] n)

-- no record and no FD
abbrev pub NoFd : Option TokenKind → Type 0
NoFd behind = NoDigits behind × (begins_by (is_key (codes "FD")) behind ≡ false)

module _ (program : Program) where
  -- ---- FD

  no_clauses : {n : ℕ} → Spelled (data_forms.fd_clauses tt) n [] IsPeriod (λ _. Unit {0})
  unfolding data_forms.fd_clauses data_forms.begins_fd_clause
  no_clauses = no_turn data_forms.begins_fd_clause data_forms.fd_clause (λ o b. ap (begins_by data_forms.begins_fd_clause) b) tt

  fd_spelled : {n : ℕ} (fd : Fd) → IsPrintableFd program fd → Spelled data_forms.fd n (fd_kinds program fd) NoDigits (IsFd program fd)
  unfolding data_forms.fd
  fd_spelled {n = n} fd h =
      subst (λ list. Spelled data_forms.fd n list NoDigits (IsFd program fd)) (sym tokens)
      (onward (key (codes "FD")) (λ _ _. onward (name h.file.name h.named) (λ title t. behind_first no_clauses (λ o b. refl) (λ _ _. onward period (λ _ _.
      ending (records_spelled program fd.first fd.more h.written) (λ entries e. pure (record { name = t.0 ∙ sym (ap file_title h.there); entries = e })))))))
    where
      tokens : fd_kinds program fd ≡ kinds.Word (codes "FD") ∷ kinds.Word h.file.name ∷ kinds.Period ∷ entries_kinds program (records fd)
      tokens = ap (λ o. (kinds.Word (codes "FD") ∷ file_name o ++ kinds.Period ∷ []) ++ entries_kinds program (records fd)) h.there

  no-digits : (fds : List Fd) (o : Option TokenKind) → NoFd o → NoDigits (first_of (fds_kinds program fds) o)
  no-digits [] o b = b.0
  no-digits (fd ∷ fds) o b = refl

  fds_from : (fds : List Fd) → ArePrintableFds program fds → (front : List FdDraft) (n : ℕ) →
      Spelled (form.loop (is_key (codes "FD")) (form.added data_forms.fd) front) n (fds_kinds program fds) NoFd (λ list. (more : List FdDraft) × AreFds program fds more × (list ≡ front ++ more))
  fds_from [] h front n = no_turn (is_key (codes "FD")) (form.added data_forms.fd) (λ o b. b.1) ([], tt, sym (append-nil front))
  fds_from (fd ∷ fds) h front n =
      turn (is_key (codes "FD")) (form.added data_forms.fd) {Had = λ mid. (draft : FdDraft) × IsFd program fd draft × (mid ≡ front ++ draft ∷ [])} (λ o. refl)
      (ending (fd_spelled fd h.0) (λ draft d. pure (draft, d, refl))) (no-digits fds)
      (λ mid e. hence
      (λ list k. (e.0 ∷ k.0, (e.1, k.1), k.2 ∙ ap (λ f. f ++ k.0) e.2 ∙ append_assoc front (e.0 ∷ []) k.0))
      (fds_from fds h.1 mid _))

  pub fds_spelled : {n : ℕ} (fds : List Fd) → ArePrintableFds program fds → Spelled data_forms.fds n (fds_kinds program fds) NoFd (AreFds program fds)
  unfolding data_forms.fds
  fds_spelled {n = n} fds h = hence (λ list k. subst (AreFds program fds) (sym k.2) k.1) (fds_from fds h [] n)
