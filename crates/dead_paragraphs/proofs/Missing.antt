-- Flags that are off.
use Rattle.std.proofs.Common.{◌≡◌, ◌<◌, ℕ, zero, suc, Bool, true, false, not, List, [], ◌∷◌, map, length, Some, slice_get, refl, ap, sym, ◌∙◌, arith}
use Rattle.control_flow_theory.specs.language.Language.{Chooser, Program}
use Rattle.pending_returns.specs.declared.facts.Summary.{Summary}
use Rattle.pending_returns.specs.Summary.{IsSummary}
use Rattle.pending_returns.specs.Tabled.{Lists}
use Rattle.dead_paragraphs.specs.Dead.{AreDropped}

off-on : (flags : List Bool) (at : ℕ) → slice_get flags at ≡ Some false → slice_get (map not flags) at ≡ Some true
off-on [] at e = absurd (let k : ⊥ = cc in k)
off-on (flag ∷ flags) zero e = (let k : flag ≡ false = cc in ap (λ (b : Bool). Some (not b)) k)
off-on (flag ∷ flags) (suc at) e = off-on flags at e

on-off : (flags : List Bool) (at : ℕ) → slice_get (map not flags) at ≡ Some true → slice_get flags at ≡ Some false
on-off [] at e = absurd (let k : ⊥ = cc in k)
on-off (true ∷ flags) zero e = absurd (let k : ⊥ = cc in k)
on-off (false ∷ flags) zero e = refl
on-off (flag ∷ flags) (suc at) e = on-off flags at e

below : (flags : List Bool) (at : ℕ) (flag : Bool) → slice_get flags at ≡ Some flag → at < length flags
below [] at flag e = absurd (let k : ⊥ = cc in k)
below (f ∷ flags) zero flag e = omega arith
below (f ∷ flags) (suc at) flag e = (let less : at < length flags = below flags at flag e in omega arith)

there : (flags : List Bool) (at : ℕ) → at < length flags → (slice_get flags at ≡ Some true → ⊥) → slice_get flags at ≡ Some false
there [] at lt no_mark = absurd (omega arith)
there (true ∷ flags) zero lt no_mark = absurd (no_mark refl)
there (false ∷ flags) zero lt no_mark = refl
there (flag ∷ flags) (suc at) lt no_mark = there flags at (omega arith) no_mark

pub are-dropped : (summary : Summary) (missed : List Bool) (numbers : List ℕ) → missed ≡ map not summary.reached → Lists missed numbers → (never_first : Chooser → Bool) (program : Program) → IsSummary never_first program summary → AreDropped never_first program numbers
are-dropped summary missed numbers is lists never_first program told = record {
  rises = lists.rises;
  dropped = λ p. (
    λ has.
        let off : slice_get summary.reached p ≡ Some false = on-off summary.reached p (ap (λ (fs : List Bool). slice_get fs p) (sym is) ∙ (lists.on p).1 has) in (
          (let less : p < length summary.reached = below summary.reached p false off in omega (arith, less, told.size)),
          λ reached. (let on : Some true ≡ Some false = sym ((told.reached p).0 reached) ∙ off in let k : ⊥ = cc in k),
        ),
    λ which. (lists.on p).0 (ap (λ (fs : List Bool). slice_get fs p) is ∙ off-on summary.reached p (there summary.reached p (let less = which.0 in omega (arith, less, told.size)) (λ on. which.1 ((told.reached p).1 on)))),
  );
}
