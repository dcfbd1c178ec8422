-- What stands before the numbers of a generated program's names is a stem.
use Rattle.std.proofs.Common.{◌≡◌, ℕ, ◌+◌, ◌≤◌, true, List, [], ◌∷◌, ◌++◌, length, refl, arith}
use Rattle.std.specs.Prelude.{All, codes}
use Rattle.std.specs.Fmt.{decimal}
use Rattle.std.proofs.lemmas.Fmt.{length-decimal-le}
use Rattle.std.proofs.lemmas.List.{length-append}
use Rattle.std.proofs.lemmas.List.Elements.{All-cons, All-nil}
use Rattle.cob_words.specs.numbered.Stem.{IsStem, stem_byte}
use Rattle.cob_words.proofs.numbered_lemmas.NumberedLemmas.{stem_goes_on, decimal_is_spelled}

spelled : (b : ℕ) (bs : List ℕ) → stem_byte b ≡ true → All (λ x. stem_byte x ≡ true) bs → All (λ x. stem_byte x ≡ true) (b ∷ bs)
spelled b bs h hs = All-cons (λ x. stem_byte x ≡ true) b bs h hs

none : All (λ x. stem_byte x ≡ true) []
none = All-nil (λ x. stem_byte x ≡ true)

pub gen_is_stem : IsStem (codes "GEN-")
gen_is_stem = record {
  begun = omega arith;
  short = omega arith;
  spelled = spelled 71 (69 ∷ 78 ∷ 45 ∷ []) refl (spelled 69 (78 ∷ 45 ∷ []) refl (spelled 78 (45 ∷ []) refl (spelled 45 [] refl none)));
  first = refl;
}

group_begins : IsStem (codes "G-")
group_begins = record {
  begun = omega arith;
  short = omega arith;
  spelled = spelled 71 (45 ∷ []) refl (spelled 45 [] refl none);
  first = refl;
}

pub group_is_stem : (group : ℕ) → group ≤ 1249 → IsStem (codes "G-" ++ decimal group ++ codes "-")
group_is_stem group small =
    let digits : length (decimal group) ≤ 4 = length-decimal-le 4 group (omega arith) (omega arith) (omega arith) in
    let whole : length (codes "G-" ++ decimal group) ≡ 2 + length (decimal group) = length-append (codes "G-") (decimal group) in
    stem_goes_on (codes "G-" ++ decimal group) (codes "-")
    (stem_goes_on (codes "G-") (decimal group) group_begins (decimal_is_spelled group (omega arith)) (omega arith))
    (spelled 45 [] refl none) (omega arith)
