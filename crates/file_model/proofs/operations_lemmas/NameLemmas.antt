-- Whether a name can be opened, from its parts.
use Rattle.std.proofs.Common.{◌≡◌, ◌∙◌, ℕ, ◌≤◌, ◌-◌, ◌==◌, Bool, false, ◌&&◌, not, nat_le, List, [], ◌∷◌, length, take, drop, refl, ap, arith, get_or}
use Rattle.std.specs.List.{list_all}
use Rattle.file_model.specs.Attempts.{can_be_opened, name_byte}
use Rattle.file_model.proofs.operations_lemmas.CallLemmas.{take_all}

pub no_name : (name : List ℕ) → length name ≡ 0 → false ≡ can_be_opened name
no_name [] e = refl
no_name (byte ∷ bytes) e = absurd (omega (arith, e))

pub opened_name : (name : List ℕ) (begins named short result : Bool) → (length name ≡ 0 → ⊥) → begins ≡ (not (get_or name 0 0 == 46) && name_byte (get_or name 0 0)) →
    named ≡ list_all name_byte (take (length name - 1) (drop 1 name)) → short ≡ nat_le (length name - 1) 59 → result ≡ (begins && named && short) → result ≡ can_be_opened name
opened_name [] begins named short result some b n s r = absurd (some refl)
opened_name (byte ∷ bytes) begins named short result some b n s r =
    let same : length (byte ∷ bytes) - 1 ≡ length bytes = omega arith in
    let within : length bytes ≤ length (byte ∷ bytes) - 1 = omega arith in
    r
    ∙ ap (λ x. x && named && short) b
    ∙ ap (λ x. (not (byte == 46) && name_byte byte) && x && short) (n ∙ ap (list_all name_byte) (take_all bytes (length (byte ∷ bytes) - 1) within))
    ∙ ap (λ x. (not (byte == 46) && name_byte byte) && list_all name_byte bytes && x) (s ∙ ap (λ k. nat_le k 59) same)
