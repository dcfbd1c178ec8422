-- The small family meets the premises, and is written as said.
use Rattle.std.proofs.Common.{◌≡◌, ℕ, zero, suc, ◌+◌, ◌<◌, ◌≤◌, true, List, [], ◌∷◌, Some, slice_get, refl, ap, sym, subst, arith, inl, inr}
use Rattle.control_flow_theory.specs.language.Language.{Main}
use Rattle.control_flow_theory.specs.semantics.Graph.{tree, Stop, IsLast}
use Rattle.control_flow_theory.specs.rendering.Rendering.{Naming, Procedure, place_of}
use Rattle.control_flow_theory.specs.rendering.Procedures.{StmtsStand, stmts_call}
use Rattle.control_flow_theory.specs.rendering.Example.{state, exit_number, main_body, family_procedures, small_family, small_kinds, named, IsWrittenAs, IsWritable, IsThenStructured}
use Rattle.control_flow_theory.proofs.rendering_lemmas.Written.{or_else}
use Rattle.control_flow_theory.proofs.rendering_lemmas.Structure.{rendered-structured}

-- one after the other, the first of these has this number
abbrev pub Each : {A : Type 0} → (ℕ → A → Type 0) → ℕ → List A → Type 0
Each P first [] = Unit {0}
Each P first (x ∷ xs) = P first x × Each P (suc first) xs

-- and so by their numbers
pub each-at : {A : Type 0} (P : ℕ → A → Type 0) (first : ℕ) (xs : List A) → Each P first xs → (n : ℕ) (x : A) → slice_get xs n ≡ Some x → P (first + n) x
each-at P first [] all n x is = absurd (cc)
each-at P first (y ∷ ys) all zero x is =
    let e : first + 0 ≡ first = omega arith in
    subst (λ m. P m x) (sym e) (subst (P first) (ap (or_else y) is) all.0)
each-at P first (y ∷ ys) all (suc n) x is =
    let e : first + suc n ≡ suc first + n = omega arith in
    subst (λ m. P m x) (sym e) (each-at P (suc first) ys all.1 n x is)

pub each-from : {A : Type 0} (P : ℕ → A → Type 0) (xs : List A) → Each P 0 xs → (n : ℕ) (x : A) → slice_get xs n ≡ Some x → P n x
each-from P xs all n x is = let e : 0 + n ≡ n = omega arith in subst (λ m. P m x) e (each-at P 0 xs all n x is)

abbrev CalledBefore : ℕ → Procedure → Type 0
CalledBefore number procedure = 1 ≤ number → (from : ℕ) × (caller : Procedure) × (from < number) × (slice_get family_procedures from ≡ Some caller) × (stmts_call procedure.range caller.body ≡ true)

abbrev main_procedure : Procedure
main_procedure = record { range = Main; body = main_body; end = Stop }

first_second : 0 < 1
first_second = omega arith

first_third : 0 < 2
first_third = omega arith

second_third : 1 < 2
second_third = omega arith

second_of_three : 1 < 3
second_of_three = omega arith

third_of_three : 2 < 3
third_of_three = omega arith

main-stands : (naming : Naming) → StmtsStand (named naming) small_kinds family_procedures Main main_body
main-stands naming =
    (refl, inl (refl, inl ((refl, inl ((refl, ((refl, inl tt), (((first_second, second_of_three), inl tt), tt))), inl tt)), inl ((refl, (tt, ((refl, inl tt), tt))), inl ((refl, (tt, (tt, tt))), inl (refl, inl ((refl, inr (state, refl, (refl, refl, ((refl, inl tt), ((refl, inl tt), tt))))), inl ((refl, refl), inl ((refl, inl ((refl, ((refl, inl tt), ((refl, inl tt), tt))), inl tt)), inl (refl, inl ((refl, inl ((refl, ((refl, inl tt), ((refl, inl tt), tt))), inl tt)), inr (exit_number, refl, (refl, refl, ((refl, inl tt), (tt, tt))), ((refl, inl (first_third, third_of_three)), inl tt)))))))))))))

pub small-procedures : IsWritable
small-procedures naming = record {
  main = refl;
  alone = each-from (λ number procedure. place_of family_procedures procedure.range ≡ number) family_procedures (refl, (refl, (refl, tt)));
  node = each-from (λ number procedure. small_family.node procedure.range (small_family.entry procedure.range) ≡ tree procedure.body procedure.end) family_procedures (refl, (refl, (refl, tt)));
  last = each-from (λ number procedure. IsLast procedure.end) family_procedures (tt, (tt, (tt, tt)));
  stands = each-from (λ number procedure. StmtsStand (named naming) small_kinds family_procedures procedure.range procedure.body) family_procedures
      (main-stands naming, (((second_third, third_of_three), inl tt), (tt, tt)));
  performed = each-from CalledBefore family_procedures ((λ le. absurd (omega (arith, le))), ((λ le. (0, main_procedure, first_second, refl, refl)), ((λ le. (0, main_procedure, first_third, refl, refl)), tt)));
}

pub small-written : IsWrittenAs
small-written naming = refl

pub small-structured : IsThenStructured
small-structured naming = rendered-structured (named naming) small_kinds small_family family_procedures (small-procedures naming)
