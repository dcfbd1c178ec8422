-- A number that is added once to each of several words.
use mathlib.Core.Bool.{true≢false}
use Rattle.std.proofs.Common.{◌≡◌, ℕ, Bool, true, false, ◌||◌, List, [], ◌∷◌, ◌++◌, refl, sym, ap, ◌∙◌, if◌then◌else◌}
use Rattle.std.specs.List.{list_any}
use Rattle.std.specs.Str.{bytes_eq}
use Rattle.std.proofs.lemmas.List.{append_assoc}
use Rattle.std.proofs.lemmas.Slice.Eq.{bytes_eq-Decides}
use Rattle.symbol_tables.proofs.data_names_lemmas.WordLemmas.{bytes_eq_sym}

added : (a b c : Bool) (start : List ℕ) (number : ℕ) → (c ≡ true → a ≡ b) → (if b then start ++ (if a then number ∷ [] else []) else (if c then (start ++ (if a then number ∷ [] else [])) ++ number ∷ [] else start ++ (if a then number ∷ [] else []))) ≡ start ++ (if (a || c) then number ∷ [] else [])
added true true c start number same = refl
added true false true start number same = absurd (true≢false (same refl))
added true false false start number same = refl
added false true true start number same = absurd (true≢false (sym (same refl)))
added false true false start number same = refl
added false false true start number same = append_assoc start [] (number ∷ [])
added false false false start number same = refl

-- the numbers of another word, with those words seen and one word more
pub each_step : (seen : List (List ℕ)) (word other start old new : List ℕ) (number : ℕ) → old ≡ start ++ (if list_any (bytes_eq other) seen then number ∷ [] else []) → new ≡ (if list_any (bytes_eq word) seen then old else (if bytes_eq word other then old ++ number ∷ [] else old)) → new ≡ start ++ (if (list_any (bytes_eq other) seen || bytes_eq other word) then number ∷ [] else [])
each_step seen word other start old new number e f =
    f ∙ ap (λ l. if list_any (bytes_eq word) seen then l else (if bytes_eq word other then l ++ number ∷ [] else l)) e
    ∙ added (list_any (bytes_eq other) seen) (list_any (bytes_eq word) seen) (bytes_eq word other) start number same
    ∙ ap (λ b. start ++ (if (list_any (bytes_eq other) seen || b) then number ∷ [] else [])) (bytes_eq_sym word other)
  where
    same : bytes_eq word other ≡ true → list_any (bytes_eq other) seen ≡ list_any (bytes_eq word) seen
    same h = ap (λ w. list_any (bytes_eq w) seen) (sym ((bytes_eq-Decides word other).0 h))
