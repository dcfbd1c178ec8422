-- The whole chain.
use Rattle.std.proofs.Common.{◌≡◌, ℕ, zero, suc, ◌<◌, Bool, true, false, if◌then◌else◌, List, [], ◌∷◌, Some, slice_get, refl, ap, sym, ◌∙◌, subst, inl, inr}
use Rattle.std.specs.Prelude.{length}
use Rattle.control_flow_theory.specs.runs.Tied.{Tied}
use Rattle.control_flow_theory.specs.runs.Machine.{meaning}
use Rattle.control_flow_theory.proofs.runs_lemmas.Ties.{tied-sym, tied-trans, tied-at}
use Rattle.control_flow_theory.specs.language.Language.{none, Program, Range, Main, Part, same_range}
use Rattle.control_flow_theory.specs.semantics.Doing.{Acting, Celled, alone}
use Rattle.control_flow_theory.specs.semantics.Source.{source_machine}
use Rattle.control_flow_theory.specs.semantics.Graph.{Label, Tree, tree, End, Pick, Jump, Return, Stop, Dead, body_of, end_of, Family, IsLast}
use Rattle.control_flow_theory.specs.semantics.Walk.{walk_machine, main_machine}
use Rattle.control_flow_theory.specs.semantics.Structural.{structural}
use Rattle.control_flow_theory.specs.language.Structured.{IsStructuredControl}
use Rattle.control_flow_theory.specs.semantics_agree.Same.{SameBehaviour}
use Rattle.control_flow_theory.specs.lowering.FlowFacts.{FlowFacts, IsTold, IsSource}
use Rattle.control_flow_theory.specs.lowering.Lowered.{lowered}
use Rattle.control_flow_theory.specs.lowering.Reached.{kept}
use Rattle.control_flow_theory.specs.lowering.Renamed.{numbered_anew}
use Rattle.control_flow_theory.specs.lowering.flow.Paths.{HasFaultyRun}
use Rattle.control_flow_theory.specs.lowering.Laws.{IsSoundAt}
use Rattle.control_flow_theory.specs.graph_rules.Walked.{is_in, In, Ordered, walked, walked_from}
use Rattle.control_flow_theory.specs.graph_rules.Families.{Added, Has, MaySet, Ready, IsFamily, IsSound}
use Rattle.control_flow_theory.specs.graph_rules.Reduced.{Graph, tree_in, Graphs, family_of, kinds_of}
use Rattle.control_flow_theory.specs.graph_rules.Laws.{AsBefore}
use Rattle.control_flow_theory.specs.structuring.Closes.{IsClosed, closed_graph, all_closed}
use Rattle.control_flow_theory.specs.structuring.Laws.{PlainEnd}
use Rattle.control_flow_theory.specs.rendering.Rendering.{Naming, Procedure, place_of, rendered}
use Rattle.control_flow_theory.specs.rendering.Procedures.{Writable, AreProcedures}
use Rattle.control_flow_theory.specs.rendering.Serving.{Serves}
use Rattle.control_flow_theory.specs.main_theorem.Chain.{lowered_graphs, procedure_of, procedures_of, EachIsPerformed, EachStands, IsNumberedPlan}
use Rattle.control_flow_theory.proofs.rendering_lemmas.Written.{or_else}
use Rattle.control_flow_theory.proofs.semantics_lemmas.Ranges.{eq-self, same-self, range-tells}
use Rattle.control_flow_theory.proofs.graph_rules_lemmas.walks.Walks.{walked-tied}
use Rattle.control_flow_theory.proofs.graph_rules_lemmas.rules.Sounds.{sound-by-steps}
use Rattle.control_flow_theory.proofs.structuring_lemmas.closing.AllClosed.{closed-keeps}
use Rattle.control_flow_theory.proofs.structuring_lemmas.closing.ClosedEnding.{closed-ends}
use Rattle.control_flow_theory.proofs.lowering_lemmas.flow.Linked.{not-faulty-fine, family-main-sound, family-part-sound, numbered-keeps, numbered-sound}
use Rattle.control_flow_theory.proofs.rendering_lemmas.Chained.{restructured-same}
use Rattle.control_flow_theory.proofs.main_theorem_lemmas.graphs.LoweredGraphs.{graphs-family, graphs-closed}
use Rattle.control_flow_theory.proofs.main_theorem_lemmas.graphs.LaterCalls.{plan-fits}

-- no range stands twice
abbrev Apart : List Range → Type 0
Apart [] = Unit {0}
Apart (first ∷ others) = (is_in first others ≡ false) × Apart others

ordered-apart : (Reads Writes : Range → ℕ → Type 0) (family : Family) (order : List Range) → Ordered Reads Writes family order → Apart order
ordered-apart Reads Writes family [] is = tt
ordered-apart Reads Writes family (first ∷ others) is = (is.0, ordered-apart Reads Writes family others is.2)

-- The procedures of the closed graphs.
module _ (graphs : Graphs) where
  closed-never : (order : List Range) (r : Range) → is_in r order ≡ false → all_closed order graphs r ≡ graphs r
  closed-never [] r new = refl
  closed-never (x ∷ xs) r new = elim (range-tells x r) [
    | inl e ↦ absurd (let f : true ≡ false = sym (ap (λ b. if b then true else is_in r xs) e.0) ∙ new in cc)
    | inr e ↦ elim (range-tells r x) [
      | inl f ↦ absurd (e.1 (sym f.1))
      | inr f ↦
          ap (λ b. if b then closed_graph (all_closed xs graphs x) else all_closed xs graphs r) f.0
          ∙ closed-never xs r (sym (ap (λ b. if b then true else is_in r xs) e.0) ∙ new)
    ]
  ]

  -- each graph of the order is closed once
  closed-once : (order : List Range) → Apart order → (r : Range) → In r order → all_closed order graphs r ≡ closed_graph (graphs r)
  closed-once [] apart r here = absurd (let e : false ≡ true = here in cc)
  closed-once (x ∷ xs) apart r here = elim (range-tells r x) [
    | inl e ↦
        ap (λ b. if b then closed_graph (all_closed xs graphs x) else all_closed xs graphs r) e.0
        ∙ subst (λ y. closed_graph (all_closed xs graphs x) ≡ closed_graph (graphs y)) (sym e.1) (ap closed_graph (closed-never xs x apart.0))
    | inr e ↦
        ap (λ b. if b then closed_graph (all_closed xs graphs x) else all_closed xs graphs r) e.0
        ∙ closed-once xs apart.1 r (elim (range-tells x r) [
          | inl f ↦ absurd (e.1 (sym f.1))
          | inr f ↦ sym (ap (λ b. if b then true else is_in r xs) f.0) ∙ here
        ])
  ]

  abbrev mine : Range → Procedure
  mine r = procedure_of r (closed_graph (graphs r))

  pub at-procedure : (order : List Range) (n : ℕ) (p : Procedure) → slice_get (procedures_of order graphs) n ≡ Some p → (p ≡ mine p.range) × In p.range order
  at-procedure [] n p is = absurd (cc)
  at-procedure (r ∷ rs) zero p is =
      let e : mine r ≡ p = ap (or_else (mine r)) is in
      subst (λ q. (q ≡ mine q.range) × In q.range (r ∷ rs)) e (refl, ap (λ b. if b then true else is_in r rs) (same-self r))
  at-procedure (r ∷ rs) (suc n) p is =
      let k = at-procedure rs n p is in
      (k.0, elim (same_range r p.range) as (λ b. (if b then true else is_in p.range rs) ≡ true) [ true ↦ refl | false ↦ k.1 ])

  place-at : (order : List Range) → Apart order → (n : ℕ) (p : Procedure) → slice_get (procedures_of order graphs) n ≡ Some p → place_of (procedures_of order graphs) p.range ≡ n
  place-at [] apart n p is = absurd (cc)
  place-at (r ∷ rs) apart zero p is =
      let e : mine r ≡ p = ap (or_else (mine r)) is in
      subst (λ q. (if same_range r q.range then 0 else suc (place_of (procedures_of rs graphs) q.range)) ≡ 0) e (ap (λ b. if b then 0 else suc (place_of (procedures_of rs graphs) r)) (same-self r))
  place-at (r ∷ rs) apart (suc n) p is = elim (range-tells r p.range) [
    | inl e ↦ absurd (
        let f : is_in r rs ≡ true = ap (λ x. is_in x rs) e.1 ∙ (at-procedure rs n p is).1 in
        let g : false ≡ true = sym apart.0 ∙ f in
        cc)
    | inr e ↦ ap (λ b. if b then 0 else suc (place_of (procedures_of rs graphs) p.range)) e.0 ∙ ap suc (place-at rs apart.1 n p is)
  ]

  whole-tree : (t : Tree) → t ≡ tree (body_of t) (end_of t)
  whole-tree (tree body end) = refl

  plain-last : (end : End) → PlainEnd end → IsLast end
  plain-last (Pick picker arms) h = h
  plain-last (Jump to) h = h
  plain-last Return h = tt
  plain-last Stop h = tt
  plain-last Dead h = tt

  pub entry-last : (graph : Graph) → IsClosed graph → IsLast (end_of (tree_in (closed_graph graph).nodes (closed_graph graph).entry))
  entry-last graph closed =
      let k = closed-ends graph closed in
      let entry = (closed_graph graph).entry in
      let e : tree_in (closed_graph graph).nodes entry ≡ k.0 = ap (λ nodes. tree_in nodes entry) k.1 ∙ ap (λ b. if b then k.0 else tree none Dead) (eq-self entry) in
      subst (λ t. IsLast (end_of t)) (sym e) (plain-last (end_of k.0) k.2)

  -- the closed family has these procedures
  pub are-procedures : (naming : Naming) (kinds : Writable) (others : List Range) → Apart (Main ∷ others) → ((r : Range) → In r (Main ∷ others) → IsClosed (graphs r)) → EachStands naming kinds (procedures_of (Main ∷ others) graphs) → EachIsPerformed (procedures_of (Main ∷ others) graphs) →
      AreProcedures (family_of (all_closed (Main ∷ others) graphs)) naming kinds (procedures_of (Main ∷ others) graphs)
  are-procedures naming kinds others apart closed stands performed =
      let order = Main ∷ others in
      record {
        main = refl;
        alone = λ n p is. place-at order apart n p is;
        node = λ n p is.
            let k = at-procedure order n p is in
            let t = tree_in (closed_graph (graphs p.range)).nodes (closed_graph (graphs p.range)).entry in
            ap (λ g. tree_in g.nodes g.entry) (closed-once order apart p.range k.1) ∙ whole-tree t ∙ sym (ap (λ q. tree q.body q.end) k.0);
        last = λ n p is.
            let k = at-procedure order n p is in
            subst IsLast (sym (ap (λ q. q.end) k.0)) (entry-last (graphs p.range) (closed p.range k.1));
        stands = stands;
        performed = performed;
      }

module _ {Memory Left : Type 0} (acting : Acting Memory) (left : Memory → Left) where
  -- graphs that do what others do walk main as they do, with no cell set
  before-main-tied : (graphs others : Graphs) (order : List Range) → IsFamily (kinds_of graphs) (family_of graphs) order → AsBefore acting left graphs others order → In Main order →
      Tied (meaning (main_machine acting left (family_of graphs))) (meaning (main_machine acting left (family_of others)))
  before-main-tied graphs others order fg b here =
      let g = family_of graphs in let h = family_of others in
      let begins = λ (memory : Memory). (let c : Celled Memory = record { own = memory; cells = λ range cell. 0 } in c) in
      let ready = λ (memory : Memory). (let r : Ready Memory (kinds_of others) = record { memory = begins memory; ready = λ r c e. refl } in r) in
      let from = λ (start : Ready Memory (kinds_of others)). start.memory in
      let walk_g = walked acting left g order Main in
      let walk_h = walked acting left h order Main in
      let one = walked-tied acting left g (Has (kinds_of graphs)) (MaySet (kinds_of graphs)) order fg Main here in
      let three = walked-tied acting left h (Has (kinds_of others)) (MaySet (kinds_of others)) order b.family Main here in
      let middle = tied-at ready (walked_from acting left from g order Main) (walked_from acting left from h order Main) (b.tied Main here) in
      tied-trans (meaning (main_machine acting left g)) (λ memory. walk_g (begins memory)) (meaning (main_machine acting left h))
      (tied-sym (λ memory. walk_g (begins memory)) (meaning (main_machine acting left g)) (tied-at begins walk_g (meaning (walk_machine acting left g Main)) one))
      (tied-trans (λ memory. walk_g (begins memory)) (λ memory. walk_h (begins memory)) (meaning (main_machine acting left h)) middle (tied-at begins walk_h (meaning (walk_machine acting left h Main)) three))

  module _ (told : FlowFacts) (program : Program) (keep : Range → Label → Bool) (numbers : Range → ℕ → ℕ) (added : Range → List Added) (others : List Range)
      (is_told : IsTold told acting) (source : IsSource told program) (some : 0 < length program.paragraphs) (fair : HasFaultyRun told program → ⊥) (plan : IsNumberedPlan told program keep numbers added others) where
    abbrev graphs : Graphs
    graphs = lowered_graphs told program keep numbers added

    abbrev order : List Range
    order = Main ∷ others

    abbrev again : Family
    again = numbered_anew numbers (kept keep (lowered told program))

    same : again ≡ family_of graphs
    same = graphs-family told program keep numbers added

    graphs-fit : IsFamily (kinds_of graphs) (family_of graphs) order
    graphs-fit = plan-fits told program keep numbers added others source some plan

    lowered-follows : Tied (meaning (source_machine (alone acting) left program)) (meaning (main_machine acting left (family_of graphs)))
    lowered-follows =
        subst (λ family. Tied (meaning (source_machine (alone acting) left program)) (meaning (main_machine acting left family))) same
        (numbered-keeps acting left told program keep is_told source some plan.plan.returning fair plan.plan.reached numbers plan.apart)

    range-sound : (range : Range) → In range order → IsSoundAt acting left again range
    range-sound Main here = numbered-sound acting left told program keep is_told source some plan.plan.returning fair plan.plan.reached numbers plan.apart Main (family-main-sound acting left told program keep is_told source some plan.plan.returning fair plan.plan.reached)
    range-sound (Part e x) here =
        numbered-sound acting left told program keep is_told source some plan.plan.returning fair plan.plan.reached numbers plan.apart (Part e x)
        (family-part-sound acting left told program keep is_told source some plan.plan.returning fair plan.plan.reached e x (plan.plan.entered e x here).1)

    graphs-sound : IsSound acting left (kinds_of graphs) (family_of graphs) order
    graphs-sound = (sound-by-steps acting left (kinds_of graphs) (family_of graphs) order graphs-fit).0 (λ range here start n. subst (λ family. IsSoundAt acting left family range) same (range-sound range here) start.memory n)

    closed-at : (range : Range) → In range order → IsClosed (graphs range)
    closed-at Main here = graphs-closed told program keep numbers added source Main some (plan.plan.just Main here)
    closed-at (Part e x) here = graphs-closed told program keep numbers added source (Part e x) (plan.plan.entered e x here).0 (plan.plan.just (Part e x) here)

    closed-before : AsBefore acting left graphs (all_closed order graphs) order
    closed-before = (closed-keeps acting left graphs order graphs-fit graphs-sound closed-at).0

    pub closed-walks : Tied (meaning (main_machine acting left (family_of graphs))) (meaning (main_machine acting left (family_of (all_closed order graphs))))
    closed-walks = before-main-tied graphs (all_closed order graphs) order graphs-fit closed-before refl

pub headline-over-control : {Memory Other Left World : Type 0} (acting : Acting Memory) (left : Memory → Left) (first : World → Memory) (result : Acting Other) (other_left : Other → Left) (other_first : World → Other) (Carries : Celled Memory → Other → Type 0) (naming : Naming) (kinds : Writable)
    (told : FlowFacts) (program : Program) (keep : Range → Label → Bool) (numbers : Range → ℕ → ℕ) (added : Range → List Added) (others : List Range) →
    IsTold told acting → IsSource told program → 0 < length program.paragraphs → (HasFaultyRun told program → ⊥) →
    IsNumberedPlan told program keep numbers added others →
    EachStands naming kinds (procedures_of (Main ∷ others) (lowered_graphs told program keep numbers added)) → EachIsPerformed (procedures_of (Main ∷ others) (lowered_graphs told program keep numbers added)) → Serves acting left first result other_left other_first Carries naming kinds →
    IsStructuredControl (rendered naming (procedures_of (Main ∷ others) (lowered_graphs told program keep numbers added)))
    × SameBehaviour (λ world. meaning (source_machine (alone acting) left program) (first world)) (λ world. structural (alone result) other_left (rendered naming (procedures_of (Main ∷ others) (lowered_graphs told program keep numbers added))) (other_first world))
headline-over-control acting left first result other_left other_first Carries naming kinds told program keep numbers added others is_told source some fair plan stands performed serves =
    let graphs = lowered_graphs told program keep numbers added in
    let order = Main ∷ others in
    restructured-same acting left first result other_left other_first Carries naming kinds serves program (procedures_of order graphs) (not-faulty-fine acting left told program is_told source fair)
    (record {
      lowered = family_of graphs;
      shaped = family_of (all_closed order graphs);
      lowering = lowered-follows acting left told program keep numbers added others is_told source some fair plan;
      shaping = closed-walks acting left told program keep numbers added others is_told source some fair plan;
      are = are-procedures graphs naming kinds others (ordered-apart (Has (kinds_of graphs)) (MaySet (kinds_of graphs)) (family_of graphs) order (plan-fits told program keep numbers added others source some plan))
          (closed-at acting left told program keep numbers added others is_told source some fair plan) stands performed;
    })
