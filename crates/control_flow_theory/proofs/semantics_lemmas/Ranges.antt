-- Whether two ranges are the same.
use Rattle.std.proofs.Common.{◌≡◌, ◌≢◌, ℕ, true, false, if◌then◌else◌, ◌==◌, refl, ap, sym, ◌∙◌, eqb-true, ◌⊎◌, inl, inr}
use Rattle.std.proofs.lemmas.Bool.Decides.{eqb_tells}
use Rattle.control_flow_theory.specs.language.Language.{Range, Main, Part, same_range}

-- ranges that are told equal are equal
pub same-range : (a b : Range) → same_range a b ≡ true → a ≡ b
same-range Main Main is = refl
same-range Main (Part entry exit) is = absurd (let e : false ≡ true = is in cc)
same-range (Part entry exit) Main is = absurd (let e : false ≡ true = is in cc)
same-range (Part entry exit) (Part other last) is =
    elim (entry == other) as (λ t. (entry == other) ≡ t → (if t then exit == last else false) ≡ true → Part entry exit ≡ Part other last) [
      | true ↦ λ e h. ap (λ x. Part x exit) (eqb-true entry other e) ∙ ap (λ x. Part other x) (eqb-true exit last h)
      | false ↦ λ e h. absurd (cc)
    ] refl is

pub eq-self : (n : ℕ) → (n == n) ≡ true
eq-self n = elim (eqb_tells n n) [ inl e ↦ e.0 | inr e ↦ absurd (e.1 refl) ]

pub same-self : (r : Range) → same_range r r ≡ true
same-self Main = refl
same-self (Part entry exit) = ap (λ t. if t then exit == exit else false) (eq-self entry) ∙ eq-self exit

pub range-tells : (a b : Range) → ((same_range a b ≡ true) × (a ≡ b)) ⊎ ((same_range a b ≡ false) × (a ≢ b))
range-tells a b =
    elim (same_range a b) as (λ t. same_range a b ≡ t → ((t ≡ true) × (a ≡ b)) ⊎ ((t ≡ false) × (a ≢ b))) [
      | true ↦ λ e. inl (refl, same-range a b e)
      | false ↦ λ e. inr (refl, (λ is. let f : same_range a b ≡ true = ap (same_range a) (sym is) ∙ same-self a in let g = sym e ∙ f in cc))
    ] refl
