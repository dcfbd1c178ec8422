-- Where a program isn't faulty, the free flow paths are the flow paths.
use Rattle.std.proofs.Common.{◌≡◌, ℕ, zero, suc, true, false, if◌then◌else◌, nat_eq, List, [], ◌∷◌, refl, ap, sym, ◌∙◌}
use Rattle.std.specs.Prelude.{slice_get}
use Rattle.control_flow_theory.specs.runs.Run.{Going, Over}
use Rattle.control_flow_theory.specs.runs.Machine.{iterate}
use Rattle.control_flow_theory.specs.semantics.Outcome.{Faulted, Reentry, Overlap, Standing}
use Rattle.control_flow_theory.specs.language.Language.{Program}
use Rattle.control_flow_theory.specs.language.Items.{Item}
use Rattle.control_flow_theory.specs.semantics.Items.{Way, On, Halts, Into, To, ToEnd, item_way}
use Rattle.control_flow_theory.specs.language.Items.{Pending, ends_at}
use Rattle.control_flow_theory.specs.semantics.Source.{rest_of, comes_to, goes_to, goes, falls, end_step, rest_step, step_by, source_step}
use Rattle.control_flow_theory.specs.lowering.FlowFacts.{FlowFacts}
use Rattle.control_flow_theory.specs.lowering.flow.Paths.{Flow, flow, free, nothing_left, HasFaultyRun, free_goes, free_end, free_rest, free_by, free_step}
use Rattle.control_flow_theory.proofs.lowering_lemmas.rests.Joints.{IsFine}

module _ (told : FlowFacts) (program : Program) where
  abbrev stepped : Flow → Flow
  stepped f = source_step (free told) nothing_left program f

  goes-free : (way : Way (List ℕ)) (f : Flow) → IsFine (goes (free told) nothing_left program way f) → free_goes told program way f ≡ goes (free told) nothing_left program way f
  goes-free (On t m items) f fine = refl
  goes-free (Halts t how m) f fine = refl
  goes-free (Into e x items) f fine =
      let faulted = comes_to (free told) nothing_left program (Faulted (Reentry x)) f in
      let pushed = goes_to (free told) nothing_left program e (record f { pending = record { end = x; paragraph = f.paragraph; rest = items } ∷ f.pending }) in
      (elim (ends_at x f.pending) as (λ b. IsFine (if b then faulted else pushed) → pushed ≡ (if b then faulted else pushed)) [
        | true ↦ λ fine. absurd (fine (Reentry x) refl)
        | false ↦ λ fine. refl
      ]) fine
  goes-free (To t m to) f fine = refl
  goes-free (ToEnd t m to) f fine = refl

  end-free : (pending : List Pending) (f : Flow) → IsFine (end_step (free told) nothing_left program pending f) → free_end told program pending f ≡ end_step (free told) nothing_left program pending f
  end-free [] f fine = refl
  end-free (top ∷ others) f fine =
      let faulted = comes_to (free told) nothing_left program (Faulted (Overlap f.paragraph)) f in
      let fallen = falls (free told) nothing_left program (slice_get program.paragraphs (suc f.paragraph)) f in
      let popped : Flow = record f { paragraph = top.paragraph; rest = top.rest; pending = others } in
      (elim (nat_eq top.end f.paragraph) as (λ b. IsFine (if b then popped else (if ends_at f.paragraph others then faulted else fallen)) → (if b then popped else fallen) ≡ (if b then popped else (if ends_at f.paragraph others then faulted else fallen))) [
        | true ↦ λ fine. refl
        | false ↦ λ fine. (elim (ends_at f.paragraph others) as (λ b. IsFine (if b then faulted else fallen) → fallen ≡ (if b then faulted else fallen)) [
          | true ↦ λ fine. absurd (fine (Overlap f.paragraph) refl)
          | false ↦ λ fine. refl
        ]) fine
      ]) fine

  rest-free : (rest : List Item) (f : Flow) → IsFine (rest_step (free told) nothing_left program rest f) → free_rest told program rest f ≡ rest_step (free told) nothing_left program rest f
  rest-free [] f fine = end-free f.pending f fine
  rest-free (x ∷ xs) f fine = goes-free (item_way (free told) x xs f.memory) f fine

  step-free : (standing : Standing (Unit {0})) (f : Flow) → IsFine (step_by (free told) nothing_left program standing f) → free_by told program standing f ≡ step_by (free told) nothing_left program standing f
  step-free Going f fine = rest-free f.rest f fine
  step-free (Over ending) f fine = refl

  steps-free : (n : ℕ) (f : Flow) → ((k : ℕ) → IsFine (iterate stepped k f)) → iterate (free_step told program) n f ≡ iterate stepped n f
  steps-free zero f fine = refl
  steps-free (suc n) f fine = ap (iterate (free_step told program) n) (step-free f.run.standing f (fine 1)) ∙ steps-free n (stepped f) (λ k. fine (suc k))

  pub free-as-checked : (HasFaultyRun told program → ⊥) → (n : ℕ) (ways : List ℕ) → iterate stepped n (flow 0 (rest_of program 0) [] ways) ≡ iterate (free_step told program) n (flow 0 (rest_of program 0) [] ways)
  free-as-checked not_faulty n ways = sym (steps-free n (flow 0 (rest_of program 0) [] ways) (λ k fault e. not_faulty (ways, k, fault, e)))
