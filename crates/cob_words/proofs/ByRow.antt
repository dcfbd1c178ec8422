-- A word is looked for among the words of its row alone.
use Rattle.std.proofs.Common.{◌≡◌, ℕ, ◌<◌, ◌==◌, true, List, [], length, map, get_or, Bor, eq-eqb, sym, ap, ◌∙◌, arith}
use Rattle.std.specs.List.{range_with_len}
use Rattle.std.specs.Str.{bytes_eq}
use Rattle.std.proofs.lemmas.Map.Views.{any-filter_same}
use Rattle.std.proofs.lemmas.Slice.Eq.{bytes_eq-Decides}
use Rattle.std.proofs.lemmas.List.{get_or-map}
use Rattle.std.proofs.lemmas.List.FromFn.{get_or-map-range_with_len}
use Rattle.cob_words.specs.Lists.{is_listed, row_of, of_row}

pub is_listed-of_row : (words : List (List ℕ)) (word : List ℕ) → is_listed (of_row (row_of word) words) word ≡ is_listed words word
is_listed-of_row words word =
    any-filter_same (bytes_eq word) (λ w. row_of w == row_of word) true
    (λ w e. eq-eqb (row_of w) (row_of word) (ap row_of (sym ((bytes_eq-Decides word w).0 e)))) words

abbrev pub shown : Bor (List (Bor (List ℕ))) → List (List ℕ)
shown row = map {A = Bor (List ℕ)} {B = List ℕ} (λ w. w.now) row.now

-- each row of a table has the words of that row
pub words_in_row : (rows : List (Bor (List (Bor (List ℕ))))) (words : List (List ℕ)) (n : ℕ) (d : Bor (List (Bor (List ℕ)))) → map shown rows ≡ map (λ k. of_row k words) (range_with_len 0 64) → n < length rows → n < 64 → map {A = Bor (List ℕ)} {B = List ℕ} (λ w. w.now) (get_or rows n d).now ≡ of_row n words
words_in_row rows words n d e h l =
    sym (get_or-map shown rows n d [] h) ∙ ap (λ xs. get_or xs n []) e
    ∙ get_or-map-range_with_len (λ k. of_row k words) 0 64 n n [] l (omega arith)
