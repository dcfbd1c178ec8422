-- What stands in an order by paths is entered, and what is entered stands in it.
use Rattle.std.proofs.Common.{◌≡◌, ◌<◌, ℕ, zero, suc, true, false, if◌then◌else◌, List, [], ◌∷◌, length, Some, slice_get, refl, ap, sym, subst, arith}
use Rattle.control_flow_theory.specs.language.Language.{Program, Range, Main, Part, Perform, same_range}
use Rattle.control_flow_theory.specs.language.Items.{Do}
use Rattle.control_flow_theory.specs.semantics.Source.{rest_of}
use Rattle.control_flow_theory.proofs.semantics_lemmas.Ranges.{same-range}
use Rattle.control_flow_theory.specs.lowering.FlowFacts.{FlowFacts, IsSource}
use Rattle.control_flow_theory.specs.lowering.flow.Called.{IsCalled}
use Rattle.control_flow_theory.specs.lowering.flow.Paths.{free}
use Rattle.control_flow_theory.specs.lowering.flow.Entered.{IsEntered, main, performed}
use Rattle.control_flow_theory.proofs.lowering_lemmas.rests.Fits.{comes-fits, rest-fits}
use Rattle.control_flow_theory.specs.graph_rules.Walked.{is_in, In}
use Rattle.control_flow_theory.specs.main_theorem.Chain.{CallsStandLater}
use Rattle.control_flow_theory.specs.main_theorem.CallsReached.{CalledByPaths}

position-in : (ranges : List Range) (range : Range) → In range ranges → (place : ℕ) × (slice_get ranges place ≡ Some range)
position-in [] range h = absurd (let k : ⊥ = cc in k)
position-in (first ∷ ranges) range h = (elim (same_range first range) as (λ t. same_range first range ≡ t → (if t then true else is_in range ranges) ≡ true → (place : ℕ) × (slice_get (first ∷ ranges) place ≡ Some range)) [
  | true ↦ λ s e. (0, ap Some (same-range first range s))
  | false ↦ λ s e. (let p = position-in ranges range e in (suc p.0, p.1))
]) refl h

module _ (told : FlowFacts) (program : Program) where
  -- what a range of the order calls stands in it
  called-stands : (ranges : List Range) (range : Range) (entry exit : ℕ) → CallsStandLater told program ranges → In range ranges → IsCalled told program range entry exit → In (Part entry exit) ranges
  called-stands [] range entry exit later h c = absurd (let k : ⊥ = cc in k)
  called-stands (first ∷ ranges) range entry exit later h c =
      let below : is_in (Part entry exit) ranges ≡ true = (elim (same_range first range) as (λ t. same_range first range ≡ t → (if t then true else is_in range ranges) ≡ true → is_in (Part entry exit) ranges ≡ true) [
        | true ↦ λ s e. later.1 entry exit (subst (λ r. IsCalled told program r entry exit) (sym (same-range first range s)) c)
        | false ↦ λ s e. called-stands ranges range entry exit later.2 e c
      ]) refl h in
      elim (same_range first (Part entry exit)) as (λ t. (if t then true else is_in (Part entry exit) ranges) ≡ true) [ true ↦ refl | false ↦ below ]

  pub entered-stands : (others : List Range) → CallsStandLater told program (Main ∷ others) → (range : Range) → IsEntered told program range → In range (Main ∷ others)
  entered-stands others later range main = refl
  entered-stands others later range (performed from number rest entry exit is c) = called-stands (Main ∷ others) from entry exit later (entered-stands others later from is) (number, rest, c)

  -- each range of the order is entered, since an earlier one performs it
  entered-before : (others : List Range) → CalledByPaths told program (Main ∷ others) → (bound place : ℕ) (range : Range) → place < bound → slice_get (Main ∷ others) place ≡ Some range → IsEntered told program range
  entered-before others called zero place range lt is = absurd (omega (arith, lt))
  entered-before others called (suc bound) zero range lt is = (let same : Main ≡ range = cc in subst (IsEntered told program) same main)
  entered-before others called (suc bound) (suc place) Main lt is = main
  entered-before others called (suc bound) (suc place) (Part entry exit) lt is =
      let c = called (suc place) entry exit is (omega arith) in
      performed c.1 c.4.0 c.4.1 entry exit (entered-before others called bound c.0 c.1 (let under = c.2 in omega (arith, lt, under)) c.3) c.4.2

  pub entered-in : (others : List Range) → CalledByPaths told program (Main ∷ others) → (range : Range) → In range (Main ∷ others) → IsEntered told program range
  entered-in others called range h =
      let p = position-in (Main ∷ others) range h in
      entered-before others called (suc p.0) p.0 range (omega arith) p.1

  abbrev BeginsBelow : Range → Type 0
  BeginsBelow Main = Unit {0}
  BeginsBelow (Part entry exit) = entry < length program.paragraphs

  -- its entry is a paragraph
  pub begins-below : IsSource told program → (range : Range) → IsEntered told program range → BeginsBelow range
  begins-below source range main = tt
  begins-below source range (performed from number rest entry exit is c) =
      (comes-fits told program source (free told) 0 (rest_of program 0) (rest-fits told program source 0) from number (Do (Perform entry exit) ∷ rest) c).0.0
