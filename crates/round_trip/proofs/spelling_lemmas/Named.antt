-- What spells the names of files, records and procedures.
use Rattle.std.proofs.Common.{◌≡◌, ℕ, Bool, true, false, ◌⊎◌, inl, inr, List, [], ◌∷◌, Some, None, refl, ap, sym, ◌∙◌, subst}
use Rattle.std.specs.Prelude.{if◌then◌else◌}
use Rattle.std.specs.List.{list_all}
use Rattle.cob_tree.specs.declared.entry.Entry.{Entry}
use Rattle.cob_tree.specs.declared.program.Program.{Program}
use Rattle.cobol_lex.specs.Byte.{is_digit}
use Rattle.cobol_lex.specs.declared.token.TokenKind.{TokenKind}
use Rattle.cobol_lex.specs.declared.token.TokenKind.TheVariants as kinds
use Rattle.parser_combinators.specs.declared.note.Position.{Position}
use Rattle.parser_combinators.specs.Form.{begins_by}
use Rattle.unparser.specs.File.{file_name, file_tokens}
use Rattle.unparser.specs.Place.{item_name}
use Rattle.parser_combinators.specs.words.Word.{is_data_word, is_free, is_name}
use Rattle.symbol_tables.specs.declared.data_names.name.Referent.TheVariants as found
use Rattle.symbol_tables.specs.data_names.Look.{look, look_file}
use Rattle.symbol_tables.specs.data_names.Names.{Names}
use Rattle.symbol_tables.specs.declared.procedure_names.table.ProcedureTable.{ProcedureTable}
use Rattle.symbol_tables.specs.procedure_names.Procedures.{header_name}
use Rattle.cobol_grammar.specs.expr_forms.Fault.{kind_of, usage}
use Rattle.cobol_grammar.specs.expr_forms.Side.{ref_side}
use Rattle.cobol_grammar.specs.Name as forms
use Rattle.cobol_grammar.specs.Whole.{parts_of}
use Rattle.round_trip.specs.spelled_forms.Spelling.{first_of, Spelled}
use Rattle.round_trip.proofs.spelled_forms_lemmas.Makers.{pure, note, where_behind, ending, behind_none}
use Rattle.round_trip.proofs.spelled_forms_lemmas.Tokens.{name}
use Rattle.round_trip.specs.spelling.stmt_spelling.Part.{SpellsFile, SpellsRecord, SpellsLabel, SpellsRange}
use Rattle.round_trip.specs.spelling.expr_spelling.Printable.{reference}
use Rattle.round_trip.proofs.spelling_lemmas.expr_spelling_lemmas.Places.{by_tokens}
use Rattle.round_trip.specs.spelling.Kept.{IsEntrySide, kept_of}
use Rattle.round_trip.specs.spelling.Named.{IsNamedFile, IsNamedRecord, IsLabel, IsRange}

-- what is a name if it is free
pub word-free : (name : List ℕ) (free : Bool) → (if free then Some name else None) ≡ Some name → free ≡ true
word-free name true e = refl
word-free name false e = absurd cc

module _ (names : Names) (entries : List Entry) (table : ProcedureTable) (program : Program) where
  -- ---- files

  file_form : {n : ℕ} (file : ℕ) (word : List ℕ) → is_data_word word ≡ true → look_file names word ≡ Some file →
      Spelled (forms.file names) n (kinds.Word word ∷ []) (λ _. Unit {0}) (λ found. found ≡ Some file)
  unfolding forms.file
  file_form file word w e =
      ending (name word w)
      (λ found h. let same = ap (λ w. look_file names w) h.0 ∙ e in
      behind_none (note (ap (λ f. forms.file_fault f found.1) same)) (λ _ _. pure same))

  file-tokens : (file : ℕ) (h : IsNamedFile names program file) → file_tokens program file ≡ kinds.Word h.entry.name ∷ []
  file-tokens file h = ap (λ entry. file_name entry) h.there

  pub file_spelled : (file : ℕ) → IsNamedFile names program file → SpellsFile (parts_of names entries table) (kept_of names program) program file
  file_spelled file h = record {
    begins = λ o. ap (λ list. begins_by is_name (first_of list o)) (file-tokens file h) ∙ h.word;
    spelled = λ n. by_tokens (file-tokens file h) (where_behind (λ o b. tt) (file_form file h.entry.name h.word h.found));
  }

  -- ---- records

  module _ (entry : ℕ) (h : IsNamedRecord names program entries entry) where
    record-none : (position : Position) → forms.record_fault entries (reference names program entry []) position ≡ None
    record-none position =
        ap (λ f. forms.record_fault entries f position) h.found ∙ ap (λ b. if b then None else usage position) h.is

    record-found : forms.as_record entries (reference names program entry []) ≡ found.Item entry h.kind h.dims
    record-found = ap (λ f. forms.as_record entries f) h.found ∙ ap (λ b. if b then found.Item entry h.kind h.dims else found.Unknown) h.is

    record-side : (position : Position) → IsEntrySide names program entry (ref_side (forms.as_record entries (reference names program entry [])) [] [] None position)
    unfolding ref_side
    record-side position =
        subst (λ f. IsEntrySide names program entry (ref_side f [] [] None position)) (sym record-found)
        (record { what = refl; kind = ap (λ f. kind_of f) (sym h.found) })

    record_form : {n : ℕ} → Spelled (forms.record_name names entries) n (kinds.Word (item_name program entry) ∷ []) (λ _. Unit {0}) (λ side. IsEntrySide names program entry side)
    unfolding forms.record_name
    record_form =
        ending (name (item_name program entry) h.word)
        (λ found k. behind_none (note (ap (λ w. forms.record_fault entries (look names w []) found.1) k.0 ∙ record-none found.1))
        (λ _ _. pure (subst (λ w. IsEntrySide names program entry (ref_side (forms.as_record entries (look names w [])) [] [] None found.1)) (sym k.0) (record-side found.1))))

  pub record_spelled : (entry : ℕ) → IsNamedRecord names program entries entry → SpellsRecord (parts_of names entries table) (kept_of names program) program entry
  record_spelled entry h = record { spelled = λ n. where_behind (λ o b. tt) (record_form entry h) }

  -- ---- procedures

  abbrev IsNamed : List ℕ → TokenKind → Type 0
  IsNamed name token =
      ((token ≡ kinds.Word name) × (is_free name ≡ true)) ⊎ (token ≡ kinds.Digits name)

  named_by : (name : List ℕ) (digits : Bool) → header_name (if digits then kinds.Digits name else kinds.Word name) ≡ Some name →
      IsNamed name (if digits then kinds.Digits name else kinds.Word name)
  unfolding header_name
  named_by name true e = inr refl
  named_by name false e = inl (refl, word-free name (is_free name) e)

  pub label_spelled : (number : ℕ) (span : ℕ × ℕ) → IsLabel table program number span → SpellsLabel (parts_of names entries table) (kept_of names program) program number span
  label_spelled number span h = record {
    name = h.name;
    tokens = h.tokens;
    begins = named_by h.name (list_all is_digit h.name) h.named;
    found = h.found;
  }

  pub range_spelled : (entry exit : ℕ) → IsRange table program entry exit → SpellsRange (parts_of names entries table) (kept_of names program) program entry exit
  range_spelled entry exit h = record {
    last = h.last;
    first_label = label_spelled entry (entry, h.last) h.first_label;
    alone = h.alone;
    last_label = λ e. let last = h.last_label e in (last.0, label_spelled exit (last.0, exit) last.1);
  }
