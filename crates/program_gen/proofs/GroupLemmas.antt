-- One more group, and one more PERFORM.
use Rattle.std.proofs.Common.{◌≡◌, ℕ, suc, ◌+◌, ◌-◌, ◌<◌, List, [], ◌∷◌, ◌++◌, refl, ap, ◌∙◌, arith, add-one}
use Rattle.std.proofs.lemmas.List.{append_assoc}
use Rattle.program_gen.specs.Generated.{groups_of, group_of, performs_of, perform_group, sentence, next_of}

one_more : (n group : ℕ) → group < n + 1 → n + 1 - group ≡ suc (n + 1 - (group + 1))
one_more n group h = omega arith

pub groups_begin : (n group x : ℕ) → group < n + 1 →
    groups_of (n + 1 - group) group x ≡ group_of group x ++ groups_of (n + 1 - (group + 1)) (group + 1) (next_of (next_of (next_of x)))
groups_begin n group x h = rw (one_more n group h, add-one group) refl

pub performs_begin : (n group : ℕ) → group < n + 1 →
    performs_of (n + 1 - group) group ≡ sentence (perform_group group) ∷ performs_of (n + 1 - (group + 1)) (group + 1)
performs_begin n group h = rw (one_more n group h, add-one group) refl

-- four that are added one by one
pub four_behind : {X : Type 0} (xs : List X) (a b c d : X) →
    xs ++ a ∷ [] ++ b ∷ [] ++ c ∷ [] ++ d ∷ [] ≡ xs ++ (a ∷ b ∷ c ∷ d ∷ [])
four_behind xs a b c d = simp append_assoc

pub grown : {X : Type 0} (before before' after : List X) (x x' : X) →
    after ≡ before ++ x ∷ [] → before ≡ before' → x ≡ x' → after ≡ before' ++ x' ∷ []
grown before before' after x x' e f g = e ∙ ap (λ xs. xs ++ x ∷ []) f ∙ ap (λ y. before' ++ y ∷ []) g
