-- Words that begin as the stems do aren't reserved, and of two stems neither begins with the other.
use Rattle.std.proofs.Common.{◌≡◌, ℕ, ◌<◌, ◌≤◌, ◌^◌, Bool, true, false, not, ◌&&◌, List, [], ◌∷◌, ◌++◌, length, refl, ap, sym, ◌∙◌, subst, arith}
use Rattle.std.specs.Prelude.{◌==◌}
use Rattle.std.specs.List.{list_any}
use Rattle.std.specs.Str.{bytes_eq}
use Rattle.std.specs.Fmt.{decimal}
use Rattle.std.proofs.lemmas.Bool.{and_from, both_ways, false_from_ne_true, not_from_false, or_parts, or_from}
use Rattle.std.proofs.lemmas.Fmt.{length-decimal-le}
use Rattle.std.proofs.lemmas.List.{length-append}
use Rattle.std.proofs.lemmas.Slice.Eq.{bytes_eq-Decides}
use Rattle.control_flow_theory.specs.graph_rules.Families.{Added, Never, Flag, Count, State, Exit}
use Rattle.cob_words.specs.Lists.{reserved_words, left_out_words, is_listed}
use Rattle.parser_combinators.specs.words.Word.{has_letter, is_free, is_data_word}
use Rattle.round_trip.specs.declarations.fresh_items.Fresh.{stem_of, same_kind}

-- it begins as a stem does
abbrev pub begins : List ℕ → Bool
begins (first ∷ second ∷ rest) = (first == 82) && (second == 88)
begins _ = false

none-reserved : list_any begins reserved_words ≡ false
unfolding reserved_words
none-reserved = refl

none-left-out : list_any begins left_out_words ≡ false
unfolding left_out_words
none-left-out = refl

not-listed : (words : List (List ℕ)) (word : List ℕ) → list_any begins words ≡ false → begins word ≡ true → is_listed words word ≡ false
not-listed [] word h b = refl
not-listed (first ∷ words) word h b =
    let parts = or_parts (begins first) (list_any begins words) h in
    or_from (bytes_eq word first) (is_listed words word)
    (false_from_ne_true (bytes_eq word first) (λ e. both_ways (begins first) parts.0 (subst (λ w. begins w ≡ true) ((bytes_eq-Decides word first).0 e) b)))
    (not-listed words word parts.1 b)

stem-begins : (kind : Added) (rest : List ℕ) → begins (stem_of kind ++ rest) ≡ true
stem-begins Never rest = refl
stem-begins Flag rest = refl
stem-begins Count rest = refl
stem-begins State rest = refl
stem-begins Exit rest = refl

stem-letter : (kind : Added) (rest : List ℕ) → has_letter (stem_of kind ++ rest) ≡ true
stem-letter Never rest = refl
stem-letter Flag rest = refl
stem-letter Count rest = refl
stem-letter State rest = refl
stem-letter Exit rest = refl

pub begun-free : (word : List ℕ) → begins word ≡ true → is_free word ≡ true
unfolding is_free
begun-free word b =
    and_from (not (is_listed reserved_words word)) (not (is_listed left_out_words word))
    (not_from_false (is_listed reserved_words word) (not-listed reserved_words word none-reserved b))
    (not_from_false (is_listed left_out_words word) (not-listed left_out_words word none-left-out b))

pub is-title : (kind : Added) (rest : List ℕ) → is_data_word (stem_of kind ++ rest) ≡ true
unfolding is_data_word
is-title kind rest =
    let word = stem_of kind ++ rest in
    and_from (has_letter word) (is_free word) (stem-letter kind rest) (begun-free word (stem-begins kind rest))

short-stem : (kind : Added) → length (stem_of kind) ≤ 9
short-stem Never = omega arith
short-stem Flag = omega arith
short-stem Count = omega arith
short-stem State = omega arith
short-stem Exit = omega arith

pub is-short : (kind : Added) (number : ℕ) → number < 2 ^ 59 → length (stem_of kind ++ decimal number) ≤ 30
is-short kind number h =
    let few : length (decimal number) ≤ 18 = length-decimal-le 18 number (omega arith) (omega (arith, h)) (omega (arith, h)) in
    subst (λ n. n ≤ 30) (sym (length-append (stem_of kind) (decimal number))) (omega (arith, few, short-stem kind))

-- the fourth byte tells the kinds apart
abbrev fourth : List ℕ → ℕ
fourth (a ∷ b ∷ c ∷ d ∷ rest) = d
fourth _ = 0

abbrev kind-byte : Added → ℕ
kind-byte Never = 78
kind-byte Flag = 70
kind-byte Count = 67
kind-byte State = 83
kind-byte Exit = 69

fourth-is : (kind : Added) (rest : List ℕ) → fourth (stem_of kind ++ rest) ≡ kind-byte kind
fourth-is Never rest = refl
fourth-is Flag rest = refl
fourth-is Count rest = refl
fourth-is State rest = refl
fourth-is Exit rest = refl

same-byte : (kind other : Added) → kind-byte kind ≡ kind-byte other → kind ≡ other
same-byte Never Never e = refl
same-byte Never Flag e = absurd (omega (arith, e))
same-byte Never Count e = absurd (omega (arith, e))
same-byte Never State e = absurd (omega (arith, e))
same-byte Never Exit e = absurd (omega (arith, e))
same-byte Flag Never e = absurd (omega (arith, e))
same-byte Flag Flag e = refl
same-byte Flag Count e = absurd (omega (arith, e))
same-byte Flag State e = absurd (omega (arith, e))
same-byte Flag Exit e = absurd (omega (arith, e))
same-byte Count Never e = absurd (omega (arith, e))
same-byte Count Flag e = absurd (omega (arith, e))
same-byte Count Count e = refl
same-byte Count State e = absurd (omega (arith, e))
same-byte Count Exit e = absurd (omega (arith, e))
same-byte State Never e = absurd (omega (arith, e))
same-byte State Flag e = absurd (omega (arith, e))
same-byte State Count e = absurd (omega (arith, e))
same-byte State State e = refl
same-byte State Exit e = absurd (omega (arith, e))
same-byte Exit Never e = absurd (omega (arith, e))
same-byte Exit Flag e = absurd (omega (arith, e))
same-byte Exit Count e = absurd (omega (arith, e))
same-byte Exit State e = absurd (omega (arith, e))
same-byte Exit Exit e = refl

pub same-stem : (kind other : Added) (rest more : List ℕ) → stem_of kind ++ rest ≡ stem_of other ++ more → kind ≡ other
same-stem kind other rest more e = same-byte kind other (sym (fourth-is kind rest) ∙ ap fourth e ∙ fourth-is other more)

pub kind-same : (kind : Added) → same_kind kind kind ≡ true
kind-same Never = refl
kind-same Flag = refl
kind-same Count = refl
kind-same State = refl
kind-same Exit = refl

pub same-kinds : (one two : Added) → same_kind one two ≡ true → one ≡ two
same-kinds Never Never e = refl
same-kinds Flag Flag e = refl
same-kinds Count Count e = refl
same-kinds State State e = refl
same-kinds Exit Exit e = refl
same-kinds Never Flag e = absurd cc
same-kinds Never Count e = absurd cc
same-kinds Never State e = absurd cc
same-kinds Never Exit e = absurd cc
same-kinds Flag Never e = absurd cc
same-kinds Flag Count e = absurd cc
same-kinds Flag State e = absurd cc
same-kinds Flag Exit e = absurd cc
same-kinds Count Never e = absurd cc
same-kinds Count Flag e = absurd cc
same-kinds Count State e = absurd cc
same-kinds Count Exit e = absurd cc
same-kinds State Never e = absurd cc
same-kinds State Flag e = absurd cc
same-kinds State Count e = absurd cc
same-kinds State Exit e = absurd cc
same-kinds Exit Never e = absurd cc
same-kinds Exit Flag e = absurd cc
same-kinds Exit Count e = absurd cc
same-kinds Exit State e = absurd cc
