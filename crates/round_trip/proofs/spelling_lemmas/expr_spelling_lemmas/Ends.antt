-- An operand ends the place before it.
use Rattle.std.proofs.Common.{◌≡◌, ℕ, true, false, ◌||◌, List, refl, subst}
use Rattle.std.specs.Prelude.{codes}
use Rattle.std.specs.Str.{bytes_eq}
use Rattle.std.proofs.lemmas.Bool.{or_from, both_ways, false_from_ne_true}
use Rattle.std.proofs.lemmas.Slice.Eq.{bytes_eq-Decides}
use Rattle.cob_words.specs.Lists.{reserved_words, left_out_words}
use Rattle.cobol_lex.specs.declared.token.TokenKind.{TokenKind}
use Rattle.cobol_lex.specs.declared.token.TokenKind.TheVariants as kinds
use Rattle.parser_combinators.specs.words.Word.{is_data_word, is_free}
use Rattle.parser_combinators.specs.words.Constant.{begins_literal, figure_of_word}
use Rattle.cobol_grammar.specs.expr_forms.Token.{is_of, begins_operand}
use Rattle.round_trip.specs.spelling.expr_spelling.Spelled.{continues_place}

mark-no-operand : (byte : ℕ) → begins_operand (kinds.Mark byte) ≡ false
unfolding begins_operand begins_literal
mark-no-operand byte = refl

-- another operand ends a place
of-no-operand : begins_operand (kinds.Word (codes "OF")) ≡ false
unfolding begins_operand begins_literal figure_of_word is_data_word is_free reserved_words left_out_words
of-no-operand = refl

in-no-operand : begins_operand (kinds.Word (codes "IN")) ≡ false
unfolding begins_operand begins_literal figure_of_word is_data_word is_free reserved_words left_out_words
in-no-operand = refl

word-apart : (key word : List ℕ) → begins_operand (kinds.Word key) ≡ false → begins_operand (kinds.Word word) ≡ true → bytes_eq key word ≡ false
word-apart key word no_operand h =
    false_from_ne_true (bytes_eq key word)
    (λ e. both_ways (begins_operand (kinds.Word word)) (subst (λ w. begins_operand (kinds.Word w) ≡ false) ((bytes_eq-Decides key word).0 e) no_operand) h)

pub operand-ends : (kind : TokenKind) → begins_operand kind ≡ true → continues_place kind ≡ false
unfolding continues_place is_of
operand-ends (kinds.Word word) h =
    or_from (bytes_eq (codes "OF") word || bytes_eq (codes "IN") word) false
    (or_from (bytes_eq (codes "OF") word) (bytes_eq (codes "IN") word) (word-apart (codes "OF") word of-no-operand h) (word-apart (codes "IN") word in-no-operand h)) refl
operand-ends (kinds.Mark byte) h = absurd (both_ways (begins_operand (kinds.Mark byte)) (mark-no-operand byte) h)
operand-ends kind h = refl
