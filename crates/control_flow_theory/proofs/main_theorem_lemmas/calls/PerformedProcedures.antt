-- Each procedure of the closed graphs is performed by an earlier one, as its range was.
use Rattle.std.proofs.Common.{◌≡◌, ℕ, zero, suc, true, false, if◌then◌else◌, List, [], ◌∷◌, Some, slice_get, refl, ap, subst}
use Rattle.control_flow_theory.specs.language.Language.{Range, same_range}
use Rattle.control_flow_theory.specs.rendering.Rendering.{Procedure}
use Rattle.control_flow_theory.specs.graph_rules.Reduced.{Graphs}
use Rattle.control_flow_theory.specs.structuring.Closes.{closed_graph}
use Rattle.control_flow_theory.specs.graph_rules.Walked.{is_in, In}
use Rattle.control_flow_theory.specs.main_theorem.Chain.{procedure_of, procedures_of, ClosedGraphsArePerformed}
use Rattle.control_flow_theory.proofs.semantics_lemmas.Ranges.{same-self}
use Rattle.control_flow_theory.proofs.rendering_lemmas.Written.{or_else}
use Rattle.control_flow_theory.proofs.main_theorem_lemmas.calls.CallsKept.{closed-calls}

module _ (graphs : Graphs) where
  abbrev mine : Range → Procedure
  mine r = procedure_of r (closed_graph (graphs r))

  range-at : (order : List Range) (n : ℕ) (p : Procedure) → slice_get (procedures_of order graphs) n ≡ Some p → slice_get order n ≡ Some p.range
  range-at [] n p is = absurd (cc)
  range-at (r ∷ rs) zero p is = (let e : mine r ≡ p = ap (or_else (mine r)) is in ap (λ q. Some q.range) e)
  range-at (r ∷ rs) (suc n) p is = range-at rs n p is

  mine-at : (order : List Range) (n : ℕ) (r : Range) → slice_get order n ≡ Some r → slice_get (procedures_of order graphs) n ≡ Some (mine r)
  mine-at [] n r is = absurd (cc)
  mine-at (x ∷ xs) zero r is = (let e : x ≡ r = ap (or_else x) is in ap (λ q. Some (mine q)) e)
  mine-at (x ∷ xs) (suc n) r is = mine-at xs n r is

  in-at : (order : List Range) (n : ℕ) (r : Range) → slice_get order n ≡ Some r → In r order
  in-at [] n r is = absurd (cc)
  in-at (x ∷ xs) zero r is = (let e : x ≡ r = ap (or_else x) is in subst (λ y. In y (x ∷ xs)) e (ap (λ b. if b then true else is_in x xs) (same-self x)))
  in-at (x ∷ xs) (suc n) r is = elim (same_range x r) as (λ b. (if b then true else is_in r xs) ≡ true) [ true ↦ refl | false ↦ in-at xs n r is ]

pub closed-performed : ClosedGraphsArePerformed
closed-performed = λ order graphs closed called number procedure is least.
    let c = called number procedure.range (range-at graphs order number procedure is) least in
    (c.0, mine graphs c.1, c.2, mine-at graphs order c.0 c.1 c.3, closed-calls procedure.range (graphs c.1) (closed c.1 (in-at graphs order c.0 c.1 c.3)) c.4)
