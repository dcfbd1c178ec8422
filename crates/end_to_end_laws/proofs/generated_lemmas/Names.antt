-- The names and numbers of generated programs.
use Rattle.std.proofs.Common.{◌≡◌, ℕ, ◌<◌, ◌≤◌, Bool, true, false, ◌&&◌, if◌then◌else◌, List, [], ◌∷◌, ◌++◌, length, Some, None, refl, ap, arith}
use Rattle.std.specs.Prelude.{codes, nat_le, ◌^◌}
use Rattle.std.specs.Fmt.{decimal}
use Rattle.std.specs.List.{list_all}
use Rattle.std.specs.Str.{bytes_eq}
use Rattle.std.proofs.lemmas.Bool.{and_from, le-leb}
use Rattle.std.proofs.lemmas.Fmt.{decimal_nonempty, length-decimal-le}
use Rattle.std.proofs.lemmas.List.Sums.{list_all-from_AllPass}
use Rattle.std.proofs.lemmas.Slice.Eq.{bytes_eq-Decides}
use Rattle.cob_base.specs.Spelling.{IsCapitalWord, folded}
use Rattle.cob_words.specs.Lists.{reserved_words, left_out_words}
use Rattle.cobol_lex.specs.Byte.{is_digit}
use Rattle.cobol_lex.specs.Word.{fits_word}
use Rattle.cobol_lex.specs.declared.token.TokenKind.TheVariants as kinds
use Rattle.cobol_lex.proofs.WordLemmas.{IsWord-fits}
use Rattle.parser_combinators.specs.words.Word.{is_free, is_data_word}
use Rattle.program_facts.specs.well_scoped.Part.{are_digits, number_named}
use Rattle.cob_words.proofs.numbered_lemmas.NumberedLemmas.{decimal_is_digits, numbered_is_capital_word, letter_is_capital_word}
use Rattle.symbol_tables.specs.procedure_names.Procedures.{header_name}
use Rattle.round_trip.specs.printable.printable_tokens.Header.{IsHeaderName}
use Rattle.round_trip.specs.printable.Part.{is_printable_name}
use Rattle.program_gen.specs.Generated.{group_word, whole}
use Rattle.program_gen.proofs.NameLemmas.{gen_is_stem, group_is_stem}

-- ---- numbers

digits-fit : (digits : List ℕ) → 0 < length digits → length digits ≤ 10 → list_all is_digit digits ≡ true → are_digits digits ≡ true
digits-fit [] some few all = absurd (omega (arith, some))
digits-fit (b ∷ digits) some few all =
    and_from (nat_le (length (b ∷ digits)) 18) (list_all is_digit (b ∷ digits)) (le-leb (length (b ∷ digits)) 18 (omega (arith, few))) all

pub number-fits : (n : ℕ) → n < 2 ^ 32 → number_named (whole n) ≡ true
number-fits n small =
    let some = decimal_nonempty n (omega (arith, small)) in
    let few = length-decimal-le 10 n (omega arith) (omega (arith, small)) (omega (arith, small)) in
    let digits = list_all-from_AllPass is_digit (decimal n) (decimal_is_digits n (omega (arith, small))) in
    and_from (are_digits (decimal n)) (nat_le 0 (length (decimal n))) (digits-fit (decimal n) some few digits) (le-leb 0 (length (decimal n)) (omega arith))

-- ---- names

capital-printable : (name : List ℕ) → IsCapitalWord name → is_data_word name ≡ true → is_printable_name name ≡ true
capital-printable name word free =
    and_from (fits_word name && bytes_eq (folded name) name) (is_data_word name)
    (and_from (fits_word name) (bytes_eq (folded name) name) (IsWord-fits name word.word) ((bytes_eq-Decides (folded name) name).1 word.capital)) free

pub gen-data : (rest : List ℕ) → is_data_word (codes "GEN-" ++ rest) ≡ true
unfolding is_data_word is_free reserved_words left_out_words
gen-data rest = refl

pub gen-printable : (n : ℕ) → n < 2 ^ 32 → is_printable_name (codes "GEN-" ++ decimal n) ≡ true
gen-printable n small = capital-printable (codes "GEN-" ++ decimal n) (numbered_is_capital_word (codes "GEN-") n gen_is_stem small) (gen-data (decimal n))

pub counter-data : is_data_word (codes "C") ≡ true
unfolding is_data_word is_free reserved_words left_out_words
counter-data = refl

pub counter-printable : is_printable_name (codes "C") ≡ true
counter-printable = capital-printable (codes "C") (letter_is_capital_word 67 refl) counter-data

-- ---- names of paragraphs

heads : (name : List ℕ) → IsCapitalWord name → list_all is_digit name ≡ false → is_free name ≡ true → IsHeaderName name
unfolding header_name
heads name word letter free = record {
  kind = kinds.Word name;
  is = ap (λ (b : Bool). if b then Some name else None) free;
  printable = (word, letter);
}

group-free : (rest : List ℕ) → is_free (codes "G-" ++ rest) ≡ true
unfolding is_free reserved_words left_out_words
group-free rest = refl

group-digits : (rest : List ℕ) → list_all is_digit (codes "G-" ++ rest) ≡ false
group-digits rest = refl

pub group-heads : (group number : ℕ) → group ≤ 1249 → number < 2 ^ 32 → IsHeaderName (group_word group number)
group-heads group number small few =
    let rest = decimal group ++ codes "-" ++ decimal number in
    heads (group_word group number)
    (numbered_is_capital_word (codes "G-" ++ decimal group ++ codes "-") number (group_is_stem group small) few)
    (group-digits rest) (group-free rest)

main-free : is_free (codes "M") ≡ true
unfolding is_free reserved_words left_out_words
main-free = refl

pub main-heads : IsHeaderName (codes "M")
main-heads = heads (codes "M") (letter_is_capital_word 77 refl) refl main-free
