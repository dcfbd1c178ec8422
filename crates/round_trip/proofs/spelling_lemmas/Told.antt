-- What stands behind the parts is none of them, and what is kept of them tells what stands in the
-- tree.
use Rattle.std.proofs.Common.{◌≡◌, ℕ, Bool, true, false, ◌⊎◌, inl, inr, List, [], Option, Some, None, refl, ap, sym, ◌∙◌, subst}
use Rattle.std.specs.Prelude.{codes}
use Rattle.std.proofs.lemmas.Bool.{or_from, and_right, both_ways}
use Rattle.cob_base.specs.Bytes.{equal_sign, left_parenthesis}
use Rattle.cob_words.specs.Lists.{reserved_words, left_out_words}
use Rattle.cob_tree.specs.declared.entry.Entry.{Entry}
use Rattle.cob_tree.specs.declared.place.Operand.{Operand}
use Rattle.cob_tree.specs.declared.place.Place.{out-roll-Place}
use Rattle.cob_tree.specs.declared.program.Program.{Program}
use Rattle.cobol_lex.specs.declared.token.TokenKind.{TokenKind}
use Rattle.cobol_lex.specs.declared.token.TokenKind.TheVariants as kinds
use Rattle.parser_combinators.specs.Form.{begins_by}
use Rattle.parser_combinators.specs.Part.{is_mark}
use Rattle.parser_combinators.specs.words.Word.{has_letter, is_data_word, is_free, is_name, is_user_word}
use Rattle.parser_combinators.specs.words.Constant.{begins_literal, figure_of_word}
use Rattle.symbol_tables.specs.data_names.Names.{Names}
use Rattle.symbol_tables.specs.declared.procedure_names.table.ProcedureTable.{ProcedureTable}
use Rattle.cobol_grammar.specs.expr_forms.Token.{is_of, begins_operand, begins_turn}
use Rattle.cobol_grammar.specs.stmt_forms.Loop.{continues_item}
use Rattle.cobol_grammar.specs.Use.{operand_of, place_of, entry_of}
use Rattle.cobol_grammar.specs.Whole.{parts_of}
use Rattle.round_trip.specs.spelling.stmt_spelling.Behind.{is_one_of, behind_parts, BehindPart}
use Rattle.round_trip.specs.spelling.stmt_spelling.Part.{PartsAreTold}
use Rattle.round_trip.proofs.spelling_lemmas.stmt_spelling_lemmas.Behind.{none_of, none-among, no-key}
use Rattle.round_trip.specs.spelling.expr_spelling.Spelled.{Ends, continues_place, continues_expr, what_of}
use Rattle.round_trip.proofs.spelling_lemmas.expr_spelling_lemmas.Ends.{operand-ends}
use Rattle.round_trip.proofs.spelling_lemmas.expr_spelling_lemmas.Layers.{operand-cases}
use Rattle.round_trip.proofs.spelling_lemmas.expr_spelling_lemmas.Tests.{name-operand}
use Rattle.round_trip.specs.spelling.Kept.{kept_of}

-- ---- words that may stand behind parts

abbrev AreBehind : (TokenKind → Bool) → Type 0
AreBehind test = (word : List ℕ) → is_one_of behind_parts word ≡ true → test (kinds.Word word) ≡ false

by-words : (test : TokenKind → Bool) → none_of test behind_parts ≡ true → test kinds.Period ≡ false → AreBehind test
by-words test none period word there = none-among test behind_parts none period (Some (kinds.Word word)) there

none-free : none_of is_user_word behind_parts ≡ true
unfolding is_free reserved_words left_out_words
none-free = refl

none-literal : none_of begins_literal behind_parts ≡ true
unfolding begins_literal figure_of_word
none-literal = refl

period-literal : begins_literal kinds.Period ≡ false
unfolding begins_literal
period-literal = refl

pub word-no-procedure : AreBehind is_user_word
word-no-procedure = by-words is_user_word none-free refl

pub word-no-name : AreBehind is_name
unfolding is_data_word
word-no-name word there = and_right (has_letter word) (is_free word) (word-no-procedure word there)

pub word-no-operand : AreBehind begins_operand
unfolding begins_operand
word-no-operand word there =
    or_from (begins_literal (kinds.Word word)) (is_name (kinds.Word word)) (by-words begins_literal none-literal period-literal word there) (word-no-name word there)

period-no-operand : begins_operand kinds.Period ≡ false
unfolding begins_operand begins_literal
period-no-operand = refl

is-operand : (kind : TokenKind) → is_name kind ≡ true → begins_operand kind ≡ true
is-operand (kinds.Word word) e = name-operand word e
is-operand kind e = absurd (both_ways false refl e)

-- ---- what goes on with a name

no-operand-word : (begins_operand (kinds.Word (codes "TIMES")) ≡ false) × (begins_operand (kinds.Word (codes "OF")) ≡ false) × (begins_operand (kinds.Word (codes "IN")) ≡ false)
unfolding begins_operand begins_literal figure_of_word is_data_word is_free reserved_words left_out_words
no-operand-word = (refl, refl, refl)

no-operand-mark : (byte : ℕ) → begins_operand (kinds.Mark byte) ≡ false
unfolding begins_operand begins_literal
no-operand-mark byte = refl

no-mark : (kind : TokenKind) → begins_operand kind ≡ true → is_mark left_parenthesis kind ≡ false
no-mark (kinds.Mark byte) e = absurd (both_ways (begins_operand (kinds.Mark byte)) (no-operand-mark byte) e)
no-mark kind e = refl

operand-apart : (kind : TokenKind) → begins_operand kind ≡ true → continues_item kind ≡ false
unfolding continues_item
operand-apart kind e =
    or_from _ _ (no-key begins_operand kind (codes "TIMES") e no-operand-word.0)
    (or_from _ _ (no-key begins_operand kind (codes "OF") e no-operand-word.1)
    (or_from _ _ (no-key begins_operand kind (codes "IN") e no-operand-word.2) (no-mark kind e)))

-- ---- what is kept

told-operand : (operand : Operand) → operand_of (what_of operand) ≡ operand
told-operand operand =
    operand-cases (λ operand. operand_of (what_of operand) ≡ operand) (λ place. refl) (λ number. refl) (λ text. refl) (λ figure. refl) operand

pub parts_are_told : (names : Names) (entries : List Entry) (table : ProcedureTable) (program : Program) → PartsAreTold (parts_of names entries table) (kept_of names program)
parts_are_told names entries table program = record {
  word_no_operand = word-no-operand;
  word_no_name = word-no-name;
  word_no_procedure = word-no-procedure;
  digits_no_name = λ digits. refl;
  digits_no_procedure = λ digits. refl;
  period_no_operand = period-no-operand;
  period_no_name = refl;
  period_no_procedure = refl;
  equal_no_name = refl;
  names_are_operands = is-operand;
  operand_apart = operand-apart;
  operand_told = λ operand side h. ap (λ what. operand_of what) h.what ∙ told-operand operand;
  place_told = λ place side h. ap (λ what. place_of what) h.what;
  expr_told = λ expr side h. h.told;
  entry_told = λ entry side h. ap (λ what. entry_of what) h.what ∙ ap (λ p. p.item) (out-roll-Place (record { item = entry; of = []; subs = []; window = None }));
}

-- ---- what stands behind ends places and expressions

place-behind : none_of continues_place behind_parts ≡ true
unfolding continues_place is_of
place-behind = refl

expr-behind : none_of continues_expr behind_parts ≡ true
unfolding continues_expr continues_place is_of begins_turn
expr-behind = refl

behind-equal : (continues_place kinds.Period ≡ false) × (continues_expr kinds.Period ≡ false) × (continues_place (kinds.Mark equal_sign) ≡ false)
unfolding continues_expr continues_place is_of begins_turn
behind-equal = (refl, refl, refl)

pub part-place : (o : Option TokenKind) → BehindPart o → Ends continues_place o
part-place o b = none-among continues_place behind_parts place-behind behind-equal.0 o b

pub part-expr : (o : Option TokenKind) → BehindPart o → Ends continues_expr o
part-expr o b = none-among continues_expr behind_parts expr-behind behind-equal.1 o b

begun-place : (o : Option TokenKind) → begins_by begins_operand o ≡ true → Ends continues_place o
begun-place None e = refl
begun-place (Some kind) e = operand-ends kind e

pub operand-place : (o : Option TokenKind) → BehindPart o ⊎ ((begins_by begins_operand o ≡ true) ⊎ (o ≡ Some (kinds.Mark equal_sign))) → Ends continues_place o
operand-place o (inl b) = part-place o b
operand-place o (inr (inl e)) = begun-place o e
operand-place o (inr (inr e)) = subst (λ k. Ends continues_place k) (sym e) behind-equal.2
