-- What spells the names of paragraphs and sections in their headers, with which no statement begins.
use Rattle.std.proofs.Common.{◌≡◌, ℕ, Bool, true, false, List, Some, None, refl, ap, sym, ◌∙◌}
use Rattle.std.specs.Prelude.{codes, if◌then◌else◌}
use Rattle.std.specs.List.{list_all}
use Rattle.std.proofs.lemmas.Bool.{or_from, or_left, eq-eqb}
use Rattle.cob_tree.specs.declared.entry.Entry.{Entry}
use Rattle.cob_tree.specs.declared.program.Program.{Program}
use Rattle.cobol_lex.specs.Byte.{is_digit}
use Rattle.cobol_lex.specs.declared.token.TokenKind.TheVariants as kinds
use Rattle.parser_combinators.specs.declared.note.NameKind.TheVariants.{Duplicate}
use Rattle.parser_combinators.specs.declared.note.Position.{Position}
use Rattle.parser_combinators.specs.Part.{is_key}
use Rattle.parser_combinators.specs.words.Word.{is_free, is_user_word}
use Rattle.symbol_tables.specs.data_names.Names.{Names}
use Rattle.symbol_tables.specs.declared.procedure_names.table.Header.{Header}
use Rattle.symbol_tables.specs.declared.procedure_names.table.ProcedureTable.{ProcedureTable}
use Rattle.symbol_tables.specs.procedure_names.Procedures as procedures
use Rattle.cobol_grammar.specs.stmt_forms.Jump.{begins_procedure}
use Rattle.cobol_grammar.specs.stmt_forms.Verb.{begins_stmt, begins_simple, begins_moving, begins_filing, begins_jumping, begins_holding, begins_arithmetic, begins_adding, begins_multiplying, begins_choice}
use Rattle.cobol_grammar.specs.Name as forms
use Rattle.cobol_grammar.specs.Whole.{parts_of}
use Rattle.round_trip.proofs.spelled_forms_lemmas.Makers.{hence}
use Rattle.round_trip.proofs.spelled_forms_lemmas.Tokens.{valued}
use Rattle.round_trip.specs.spelling.stmt_spelling.Behind.{is_one_of, behind_parts}
use Rattle.round_trip.specs.spelling.stmt_spelling.Division.{SpellsHeader}
use Rattle.round_trip.proofs.spelling_lemmas.stmt_spelling_lemmas.Behind.{no-key}
use Rattle.round_trip.specs.spelling.Kept.{kept_of}
use Rattle.round_trip.specs.spelling.Named.{IsHeader}
use Rattle.round_trip.proofs.spelling_lemmas.Named.{word-free}
use Rattle.round_trip.proofs.spelling_lemmas.Told.{word-no-procedure}

-- ---- no statement begins with a name

word-no-stmt : (name : List ℕ) → is_free name ≡ true → begins_stmt (kinds.Word name) ≡ false
unfolding begins_stmt begins_simple begins_moving begins_filing begins_jumping begins_holding begins_arithmetic begins_adding begins_multiplying begins_choice
word-no-stmt name free =
    or_from _ _
    (or_from _ _ (or_from _ _ (other (codes "DISPLAY") refl) (or_from _ _ (other (codes "MOVE") refl) (other (codes "SET") refl)))
    (or_from _ _
    (or_from _ _ (or_from _ _ (other (codes "OPEN") refl) (other (codes "CLOSE") refl)) (or_from _ _ (other (codes "WRITE") refl) (other (codes "REWRITE") refl)))
    (or_from _ _ (or_from _ _ (other (codes "GO") refl) (other (codes "NEXT") refl))
    (or_from _ _ (other (codes "STOP") refl) (or_from _ _ (other (codes "EXIT") refl) (other (codes "CONTINUE") refl))))))
    (or_from _ _
    (or_from _ _ (or_from _ _ (other (codes "ADD") refl) (other (codes "SUBTRACT") refl))
    (or_from _ _ (or_from _ _ (other (codes "MULTIPLY") refl) (other (codes "DIVIDE") refl)) (other (codes "COMPUTE") refl)))
    (or_from _ _ (other (codes "READ") refl)
    (or_from _ _ (or_from _ _ (other (codes "IF") refl) (other (codes "EVALUATE") refl)) (other (codes "PERFORM") refl))))
  where
    other : (word : List ℕ) → is_one_of behind_parts word ≡ true → is_key word (kinds.Word name) ≡ false
    other word there = no-key is_user_word (kinds.Word name) word free (word-no-procedure word there)

digits-no-stmt : (digits : List ℕ) → begins_stmt (kinds.Digits digits) ≡ false
unfolding begins_stmt begins_simple begins_moving begins_filing begins_jumping begins_holding begins_arithmetic begins_adding begins_multiplying begins_choice
digits-no-stmt digits = refl

no-stmt : (name : List ℕ) (digits : Bool) → procedures.header_name (if digits then kinds.Digits name else kinds.Word name) ≡ Some name →
    begins_stmt (if digits then kinds.Digits name else kinds.Word name) ≡ false
unfolding procedures.header_name
no-stmt name true e = digits-no-stmt name
no-stmt name false e = word-no-stmt name (word-free name (is_free name) e)

module _ (names : Names) (entries : List Entry) (table : ProcedureTable) (program : Program) where
  begins : (name : List ℕ) (digits : Bool) → procedures.header_name (if digits then kinds.Digits name else kinds.Word name) ≡ Some name →
      begins_procedure (parts_of names entries table) (if digits then kinds.Digits name else kinds.Word name) ≡ true
  unfolding procedures.header_name begins_procedure
  begins name true e = refl
  begins name false e = or_left (is_free name) false (word-free name (is_free name) e)

  -- ---- headers

  at-index : (header : Header) (position : Position) → header.index ≡ position.index → procedures.duplicate_fault (Some header) position ≡ None
  at-index header position e =
      ap (λ b. if b then None else Some (record { kind = Duplicate; position = position })) (eq-eqb header.index position.index e)

  module _ (name : List ℕ) (taken : ℕ) (h : IsHeader table name taken) where
    first-here : (found : List ℕ) (position : Position) → found ≡ name → position.index ≡ taken → procedures.duplicate_fault (procedures.header_of table found) position ≡ None
    first-here found position e i =
        ap (λ word. procedures.duplicate_fault (procedures.header_of table word) position) e ∙ ap (λ header. procedures.duplicate_fault header position) h.found
        ∙ at-index h.header position (h.index ∙ sym i)

    pub header_spelled : SpellsHeader (parts_of names entries table) (kept_of names program) program name taken
    unfolding forms.header_name
    header_spelled = record {
      spelled = hence (λ found k. (k.0, first-here found.0 found.1 k.0 k.1)) (valued procedures.header_name name h.named);
      begins = begins name (list_all is_digit name) h.named;
      no_stmt = no-stmt name (list_all is_digit name) h.named;
    }
