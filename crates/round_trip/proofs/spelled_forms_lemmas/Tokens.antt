-- What spells single tokens, names and literals.
use Rattle.std.proofs.Common.{◌≡◌, ℕ, Bool, true, List, [], ◌∷◌, Option, Some, refl, ap}
use Rattle.std.specs.Str.{bytes_eq}
use Rattle.std.proofs.lemmas.Slice.Eq.{bytes_eq-Decides}
use Rattle.cob_tree.specs.declared.place.Operand.TheVariants as operands
use Rattle.cobol_lex.specs.declared.token.TokenKind.{TokenKind}
use Rattle.cobol_lex.specs.declared.token.TokenKind.TheVariants as kinds
use Rattle.parser_combinators.specs.Part as part
use Rattle.parser_combinators.specs.words.Word as words
use Rattle.parser_combinators.specs.words.Constant as constants
use Rattle.round_trip.specs.spelled_forms.Spelling.{Any, Spelled}
use Rattle.round_trip.specs.spelled_forms.Laws.{TextsAreSpelled}
use Rattle.round_trip.proofs.spelled_forms_lemmas.Makers.{one, hence, ending, pure, there_next, other_next}

-- a word is itself
pub same_word : (word : List ℕ) → bytes_eq word word ≡ true
same_word word = (bytes_eq-Decides word word).1 refl

pub sign : {n : ℕ} {kind : TokenKind} (test : TokenKind → Bool) → test kind ≡ true → Spelled (part.sign test) n (kind ∷ []) Any (λ position. position.index ≡ n)
sign test e = one (λ position kind. part.when (test kind) position) (λ position i. (position, ap (λ v. part.when v position) e, i))

pub key : {n : ℕ} (word : List ℕ) → Spelled (part.key word) n (kinds.Word word ∷ []) Any (λ position. position.index ≡ n)
key word = sign (part.is_key word) (same_word word)

pub period : {n : ℕ} → Spelled part.period n (kinds.Period ∷ []) Any (λ position. position.index ≡ n)
period = sign part.is_period refl

pub valued : {A : Type 0} {n : ℕ} {kind : TokenKind} (test : TokenKind → Option A) (a : A) → test kind ≡ Some a →
    Spelled (part.valued test) n (kind ∷ []) Any (λ found. (found.0 ≡ a) × (found.1.index ≡ n))
valued test a e = one (λ position kind. part.with_position position (test kind)) (λ position i. ((a, position), ap (part.with_position position) e, (refl, i)))

pub word : {n : ℕ} (word : List ℕ) → Spelled part.word n (kinds.Word word ∷ []) Any (λ found. (found.0 ≡ word) × (found.1.index ≡ n))
word bytes = valued part.word_of bytes refl

-- a word that may be left out, and stands there
pub maybe : {n : ℕ} (word : List ℕ) → Spelled (part.maybe word) n (kinds.Word word ∷ []) Any (λ _. Unit {0})
maybe word = there_next (part.is_key word) _ (λ o b. same_word word) (ending (key word) (λ position h. pure tt))

-- ---- names and literals

pub name : {n : ℕ} (word : List ℕ) → words.is_data_word word ≡ true → Spelled words.name n (kinds.Word word ∷ []) Any (λ found. (found.0 ≡ word) × (found.1.index ≡ n))
unfolding words.name
name bytes e = there_next words.is_name _ (λ o b. e) (word bytes)

pub text : {n : ℕ} (text : List ℕ) → Spelled constants.literal n (kinds.Literal text ∷ []) Any (λ found. found.0 ≡ operands.Text text)
unfolding constants.literal constants.text_or_figure constants.text
text bytes =
    other_next constants.is_digits _ (λ o b. refl) (other_next constants.is_decimal _ (λ o b. refl) (there_next constants.is_text _ (λ o b. refl)
    (ending (valued part.literal_of bytes refl) (λ found h. pure (ap (λ t. operands.Text t) h.0)))))

pub texts_are_spelled : TextsAreSpelled
texts_are_spelled = record {
  names = λ taken word e. hence (λ found h. h.0) (name word e);
  texts = λ taken bytes. text bytes;
}
