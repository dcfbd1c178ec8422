-- A plan of one small program.
use Rattle.std.proofs.Common.{◌≡◌, ℕ, zero, suc, ◌<◌, true, false, ◌==◌, List, [], ◌∷◌, Some, None, refl, ap, sym, ◌∙◌, subst, arith, inl, inr}
use Rattle.std.proofs.lemmas.Bool.Decides.{eqb_tells}
use Rattle.control_flow_theory.specs.runs.Machine.{iterate}
use Rattle.control_flow_theory.specs.language.Language.{Go, Perform, Range, Main, Part}
use Rattle.control_flow_theory.specs.language.Items.{Item, Do, SentenceEnd}
use Rattle.control_flow_theory.specs.semantics.Items.{Way, On, Into, To, ToEnd, item_way}
use Rattle.control_flow_theory.specs.semantics.Source.{rest_of, source_step}
use Rattle.control_flow_theory.specs.semantics.Graph.{Label, end_of}
use Rattle.control_flow_theory.specs.lowering.FlowFacts.{IsSource}
use Rattle.control_flow_theory.specs.graph_rules.Walked.{In}
use Rattle.control_flow_theory.specs.lowering.WellFormed.{AreJustReached}
use Rattle.control_flow_theory.specs.lowering.flow.Comes.{begins, enters, goes_on, goes_to, goes_to_end, over, falls}
use Rattle.control_flow_theory.specs.lowering.Lowered.{lowered}
use Rattle.control_flow_theory.specs.lowering.Reached.{JumpsTo, IsReached, entered, jumped}
use Rattle.control_flow_theory.specs.lowering.flow.Paths.{Flow, flow, free, nothing_left, HasFaultyRun}
use Rattle.control_flow_theory.specs.lowering.flow.Entered.{FreelyComes, IsEntered, main, performed}
use Rattle.control_flow_theory.specs.lowering.flow.Called.{IsCalled}
use Rattle.control_flow_theory.specs.main_theorem.Chain.{IsNumberedPlan, lowered_graphs, CalledFromEarlier}
use Rattle.control_flow_theory.specs.main_theorem.PlanExample.{again, again_told, again_kept, same_numbers, no_added, APlanCanBeMade, ThePlanIsFollowed}
use Rattle.control_flow_theory.proofs.main_theorem_lemmas.graphs.NamedCells.{counters-named}
use Rattle.control_flow_theory.proofs.main_theorem_lemmas.SomeResult.{some-result-behaves}

abbrev whole_rest : List Item
whole_rest = Do (Go 0) ∷ SentenceEnd ∷ []

exact : (entry exit : ℕ) → again_told.returning entry exit ≡ true → FreelyComes again_told again (Part entry exit) exit []
exact entry exit is = absurd (let k : false ≡ true = is in cc)

main-label : (label : Label) → IsReached (lowered again_told again) Main label → label ≡ 0
main-label l entered = refl
main-label l (jumped label to h j) =
    let k : JumpsTo to (end_of ((lowered again_told again).node Main 0)) = subst (λ x. JumpsTo to (end_of ((lowered again_told again).node Main x))) (main-label label h) j in
    sym k

reached : (range : Range) (label : Label) → IsReached (lowered again_told again) range label → again_kept range label ≡ true
reached Main label h = ap (λ x. x == 0) (main-label label h)
reached (Part e x) label h = refl

just-main : (label : Label) → again_kept Main label ≡ true → IsReached (lowered again_told again) Main label
just-main label is = elim (eqb_tells label 0) [
  | inl h ↦ subst (IsReached (lowered again_told again) Main) (sym h.1) entered
  | inr h ↦ absurd (let k : true ≡ false = sym is ∙ h.0 in cc)
]

-- what the head of a rest comes to
abbrev way_of : List Item → List ℕ → Way (List ℕ)
way_of [] ways = On [] ways []
way_of (item ∷ rest) ways = item_way (free again_told) item rest ways

-- main's level stands at the beginning of the paragraph
main-rest : (range : Range) (number : ℕ) (rest : List Item) → FreelyComes again_told again range number rest → range ≡ Main → rest ≡ whole_rest
main-rest r n s begins is = refl
main-rest r n s (enters entry exit) is = absurd (let k : Part entry exit ≡ Main = is in cc)
main-rest r n s (goes_on range number item rest memory trace after items c e) is =
    absurd (let k : To [] memory 0 ≡ On trace after items = ap (λ x. way_of x memory) (sym (main-rest range number (item ∷ rest) c is)) ∙ e in cc)
main-rest r n s (goes_to range number item rest memory trace after to c e) is =
    let k : To [] memory 0 ≡ To trace after to = ap (λ x. way_of x memory) (sym (main-rest range number (item ∷ rest) c is)) ∙ e in
    let z : to ≡ 0 = cc in
    ap (λ x. rest_of again x) z
main-rest r n s (goes_to_end range number item rest memory trace after to c e) is =
    absurd (let k : To [] memory 0 ≡ ToEnd trace after to = ap (λ x. way_of x memory) (sym (main-rest range number (item ∷ rest) c is)) ∙ e in cc)
main-rest r n s (over range number item rest memory entry exit items c e d) is =
    absurd (let k : To [] memory 0 ≡ Into entry exit items = ap (λ x. way_of x memory) (sym (main-rest range number (item ∷ rest) c is)) ∙ e in cc)
main-rest r n s (falls range number next found off c) is = absurd (let k : [] ≡ whole_rest = main-rest range number [] c is in cc)

none-called : (entry exit : ℕ) → IsCalled again_told again Main entry exit → ⊥
none-called entry exit c = let k : Do (Perform entry exit) ∷ c.1 ≡ whole_rest = main-rest Main c.0 (Do (Perform entry exit) ∷ c.1) c.2 refl in cc

-- main alone is entered
main-alone : (range : Range) → IsEntered again_told again range → range ≡ Main
main-alone range main = refl
main-alone range (performed from number rest entry exit is c) =
    absurd (none-called entry exit (number, rest, subst (λ r. FreelyComes again_told again r number (Do (Perform entry exit) ∷ rest)) (main-alone from is) c))

returning : (entry exit : ℕ) → IsEntered again_told again (Part entry exit) → FreelyComes again_told again (Part entry exit) exit [] → again_told.returning entry exit ≡ true
returning entry exit is c = absurd (let k : Part entry exit ≡ Main = main-alone (Part entry exit) is in cc)

again-source : IsSource again_told again
again-source = ((((let lt : 0 < 1 = omega arith in lt), tt), tt), tt)

just-of : (range : Range) → In range (Main ∷ []) → AreJustReached again_told again range (again_kept range)
just-of Main here = (just-main, reached Main)
just-of (Part e x) here = absurd (let k : false ≡ true = here in cc)

-- a path never comes to a fault
going : (n : ℕ) (ways : List ℕ) → iterate (source_step (free again_told) nothing_left again) n (flow 0 whole_rest [] ways) ≡ flow 0 whole_rest [] ways
going zero ways = refl
going (suc n) ways = going n ways

not-faulty : HasFaultyRun again_told again → ⊥
not-faulty f = let k = ap (λ (s : Flow). s.run.standing) (sym (going f.1 f.0)) ∙ f.3 in cc

again-plan : IsNumberedPlan again_told again again_kept same_numbers no_added []
again-plan = record {
  plan = record {
    returning = returning;
    exact = exact;
    reached = reached;
    just = λ range here. just-of range here;
    entered = λ entry exit here. absurd (let k : false ≡ true = here in cc);
    order = (refl, (λ entry exit c. absurd (none-called entry exit c)), tt);
  };
  apart = λ range one other e. e;
  names = λ range here. counters-named again_told again again_kept same_numbers no_added range again-source (just-of range here) (((tt, tt), tt), tt);
}

pub plan-made : APlanCanBeMade
plan-made = (again-source, not-faulty, again-plan)

first-alone : CalledFromEarlier (Main ∷ []) (lowered_graphs again_told again again_kept same_numbers no_added)
first-alone zero range at le = absurd (omega (arith, le))
first-alone (suc n) range at le = absurd (let k : None ≡ Some range = at in cc)

pub plan-followed : {Memory Left World : Type 0} → ThePlanIsFollowed Memory Left World
plan-followed = λ acting left first empty told.
    some-result-behaves acting left first empty again_told again again_kept same_numbers no_added [] told again-source (let lt : 0 < 1 = omega arith in lt) not-faulty again-plan first-alone
