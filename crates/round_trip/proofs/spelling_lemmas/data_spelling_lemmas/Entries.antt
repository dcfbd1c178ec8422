-- What spells entries, one behind the other.
use Rattle.std.proofs.Common.{◌≡◌, ℕ, Bool, true, false, not, ◌&&◌, List, [], ◌∷◌, ◌++◌, Option, Some, None, refl, ap, sym, ◌∙◌, subst, append_assoc, append-nil}
use Rattle.std.specs.Prelude.{codes}
use Rattle.std.specs.Str.{bytes_eq}
use Rattle.std.proofs.lemmas.Bool.{and_parts}
use Rattle.std.proofs.lemmas.Slice.Eq.{bytes_eq-Decides}
use Rattle.cob_tree.specs.declared.entry.Entry.{Entry}
use Rattle.cob_tree.specs.declared.program.Program.{Program}
use Rattle.cob_words.specs.Lists.{reserved_words, left_out_words, is_listed}
use Rattle.cobol_lex.specs.declared.token.TokenKind.{TokenKind}
use Rattle.cobol_lex.specs.declared.token.TokenKind.TheVariants as kinds
use Rattle.cobol_grammar.specs.declared.data_forms.draft.EntryDraft.{EntryDraft}
use Rattle.cobol_grammar.specs.data_forms.Data as data_forms
use Rattle.cobol_grammar.specs.data_forms.Entry as forms
use Rattle.parser_combinators.specs.Form as form
use Rattle.parser_combinators.specs.Form.{Form, begins_by}
use Rattle.parser_combinators.specs.Part as part
use Rattle.parser_combinators.specs.Part.{is_key}
use Rattle.parser_combinators.specs.words.Word.{has_letter, is_free, is_data_word, is_name}
use Rattle.parser_combinators.specs.words.Constant.{is_digits}
use Rattle.round_trip.specs.spelled_forms.Spelling.{Any, Spelled}
use Rattle.round_trip.proofs.spelled_forms_lemmas.Makers.{pure, hence, bind, then as onward, ending, there_next, other_next, no_turn, turn}
use Rattle.round_trip.proofs.spelled_forms_lemmas.Tokens.{same_word, key, period, valued, name}
use Rattle.cobol_print.specs.units.Entry.{level_text}
use Rattle.round_trip.specs.spelling.data_spelling.Printable.{IfAny, IsDataWord, IsPrintableEntry, ArePrintableEntries}
use Rattle.round_trip.specs.spelling.data_spelling.Kinds.{entry_kinds, entries_kinds}
use Rattle.round_trip.specs.spelling.data_spelling.Drafts.{IsDraft, AreDrafts}
use Rattle.round_trip.proofs.spelling_lemmas.data_spelling_lemmas.Clauses.{entry_clauses}

-- ---- names

no-true : false ≡ true → ⊥
no-true e = cc

-- a word of the language is no name
pub not-reserved : (word name : List ℕ) → is_listed reserved_words word ≡ true → IsDataWord name → is_key word (kinds.Word name) ≡ false
unfolding is_data_word is_free
not-reserved word name listed data_word = go (bytes_eq word name) refl
  where
    go : (v : Bool) → bytes_eq word name ≡ v → v ≡ false
    go false e = refl
    go true e =
        let same : word ≡ name = (bytes_eq-Decides word name).0 e in
        let free = (and_parts (has_letter name) (not (is_listed reserved_words name) && not (is_listed left_out_words name)) data_word).1 in
        let none = (and_parts (not (is_listed reserved_words name)) (not (is_listed left_out_words name)) free).0 in
        let there : is_listed reserved_words name ≡ true = subst (λ w. is_listed reserved_words w ≡ true) same listed in
        absurd (no-true (ap not (sym there) ∙ none))

filler-listed : is_listed reserved_words (codes "FILLER") ≡ true
unfolding reserved_words
filler-listed = refl

abbrev name_kind : Option (List ℕ) → TokenKind
name_kind found = kinds.Word (elim found [ None ↦ codes "FILLER" | Some name ↦ name ])

entry_named : {n : ℕ} (found : Option (List ℕ)) → IfAny IsDataWord found → Spelled forms.entry_name n (name_kind found ∷ []) Any (λ name. name ≡ found)
unfolding forms.entry_name
entry_named None h = there_next (is_key (codes "FILLER")) _ (λ o b. same_word (codes "FILLER")) (ending (key (codes "FILLER")) (λ _ _. pure refl))
entry_named (Some word) h =
    other_next (is_key (codes "FILLER")) _ (λ o b. not-reserved (codes "FILLER") word filler-listed h)
    (there_next is_name _ (λ o b. h) (ending (name word h) (λ found e. pure (ap (λ w. Some w) e.0))))

-- ---- an entry

abbrev pub NoDigits : Option TokenKind → Type 0
NoDigits behind = begins_by is_digits behind ≡ false

module _ (program : Program) where
  entry_spelled : {n : ℕ} (entry : Entry) → IsPrintableEntry program entry → Spelled forms.entry n (entry_kinds program entry) Any (IsDraft program entry)
  unfolding forms.entry
  entry_spelled entry h =
      onward (valued part.digits_of (level_text entry.level) refl) (λ level l. onward (entry_named entry.name h.named) (λ found k.
      bind (entry_clauses program entry h) (λ o b. refl) (λ clauses c. ending period (λ _ _. pure (record { level = l.0; name = k; clauses = c })))))

  -- ---- one behind the other

  abbrev EntriesBehind : List EntryDraft → List Entry → List EntryDraft → Type 0
  EntriesBehind front entries list = (more : List EntryDraft) × AreDrafts program entries more × (list ≡ front ++ more)

  entries_from : (entries : List Entry) → ArePrintableEntries program entries → (front : List EntryDraft) (n : ℕ) →
      Spelled (form.loop is_digits (form.added forms.entry) front) n (entries_kinds program entries) NoDigits (EntriesBehind front entries)
  entries_from [] h front n = no_turn is_digits (form.added forms.entry) (λ o b. b) ([], tt, sym (append-nil front))
  entries_from (entry ∷ entries) h front n =
      turn is_digits (form.added forms.entry) {Had = λ mid. (draft : EntryDraft) × IsDraft program entry draft × (mid ≡ front ++ draft ∷ [])} (λ o. refl) (ending (entry_spelled entry h.0) (λ draft d. pure (draft, d, refl))) (λ o b. tt)
      (λ mid e. hence
      (λ list k. (e.0 ∷ k.0, (e.1, k.1), k.2 ∙ ap (λ f. f ++ k.0) e.2 ∙ append_assoc front (e.0 ∷ []) k.0))
      (entries_from entries h.1 mid _))

  -- any number of entries
  pub entries_spelled : {n : ℕ} (entries : List Entry) → ArePrintableEntries program entries → Spelled data_forms.entries n (entries_kinds program entries) NoDigits (AreDrafts program entries)
  unfolding data_forms.entries
  entries_spelled {n = n} entries h = hence (λ list k. subst (AreDrafts program entries) (sym k.2) k.1) (entries_from entries h [] n)

  -- one at least
  pub records_spelled : {n : ℕ} (entry : Entry) (entries : List Entry) → ArePrintableEntries program (entry ∷ entries) →
      Spelled data_forms.records n (entries_kinds program (entry ∷ entries)) NoDigits (AreDrafts program (entry ∷ entries))
  unfolding data_forms.records
  records_spelled entry entries h =
      bind (entry_spelled entry h.0) (λ o b. tt)
      (λ draft d. hence (λ list k. subst (AreDrafts program (entry ∷ entries)) (sym k.2) (d, k.1)) (entries_from entries h.1 (draft ∷ []) _))
