-- An order in which each range is performed by a path of an earlier one is one in which a kept node of an earlier one performs it.
use Rattle.std.proofs.Common.{◌≡◌, ℕ, zero, suc, ◌<◌, ◌≤◌, ◌==◌, arith, Bool, true, false, if◌then◌else◌, List, [], ◌∷◌, Some, slice_get, refl, ap, sym, ◌∙◌, subst, inl, inr}
use Rattle.std.specs.Prelude.{length}
use Rattle.control_flow_theory.specs.language.Language.{Stmt, Choose, Loop, Perform, Go, GoDepending, NextSentence, ExitParagraph, ExitSection, ExitPerform, StopRun, Stmts, none, also, Arms, done, given, missing, Body, Nested, Performed, Program, Range, Main, Part, same_range}
use Rattle.control_flow_theory.specs.language.Language as language
use Rattle.control_flow_theory.specs.semantics.Graph.{Label, Tree, tree, End, Pick, Jump, Return, Stop, Dead, Trees, no_more, more}
use Rattle.control_flow_theory.specs.lowering.FlowFacts.{FlowFacts}
use Rattle.control_flow_theory.specs.lowering.Lower as lower
use Rattle.control_flow_theory.specs.lowering.Lowered.{find, nodes_of, lowered}
use Rattle.control_flow_theory.specs.lowering.Reached.{kept_nodes}
use Rattle.control_flow_theory.specs.lowering.Renamed.{stmt_anew, stmts_anew, arms_anew, body_anew, end_anew, trees_anew, tree_anew}
use Rattle.control_flow_theory.specs.lowering.WellFormed.{IsRangeOf}
use Rattle.control_flow_theory.specs.lowering.flow.Entered.{IsEntered, main}
use Rattle.control_flow_theory.specs.graph_rules.Families.{Added}
use Rattle.control_flow_theory.specs.graph_rules.Walked.{is_in, In}
use Rattle.control_flow_theory.specs.rendering.Procedures.{stmt_calls, stmts_call, arms_call, body_calls}
use Rattle.control_flow_theory.specs.main_theorem.Chain.{graph_nodes, TreeCalls, EndCalls, TreesCall, NodesCall, lowered_graphs, IsNumberedPlan}
use Rattle.control_flow_theory.specs.main_theorem.CallsReached.{OrderByPathsIsOfGraphs, SomeResultByPaths}
use Rattle.control_flow_theory.proofs.main_theorem_lemmas.SomeResult.{some-result-behaves}
use Rattle.control_flow_theory.proofs.semantics_lemmas.Ranges.{same-self}
use Rattle.control_flow_theory.proofs.rendering_lemmas.Written.{or_else}
use Rattle.control_flow_theory.proofs.lowering_lemmas.graphs.Pruned.{kept-nodes-found}
use Rattle.control_flow_theory.proofs.main_theorem_lemmas.calls.CallsReached.{called-stands}

module _ (number : ℕ → ℕ) (r : Range) where
  mutual
    stmt-same : (s : Stmt) → stmt_calls r (stmt_anew number s) ≡ stmt_calls r s
    stmt-same (language.Do act) = refl
    stmt-same (Choose picker arms) = arms-same arms
    stmt-same (Loop control body) = body-same body
    stmt-same (Perform e x) = refl
    stmt-same (Go to) = refl
    stmt-same (GoDepending to on) = refl
    stmt-same NextSentence = refl
    stmt-same ExitParagraph = refl
    stmt-same (ExitSection last) = refl
    stmt-same (ExitPerform cycle) = refl
    stmt-same StopRun = refl

    stmts-same : (ss : Stmts) → stmts_call r (stmts_anew number ss) ≡ stmts_call r ss
    stmts-same none = refl
    stmts-same (also s ss) = ap (λ b. if b then true else stmts_call r (stmts_anew number ss)) (stmt-same s) ∙ ap (λ b. if stmt_calls r s then true else b) (stmts-same ss)

    arms-same : (arms : Arms) → arms_call r (arms_anew number arms) ≡ arms_call r arms
    arms-same done = refl
    arms-same (given arm others) = ap (λ b. if b then true else arms_call r (arms_anew number others)) (stmts-same arm) ∙ ap (λ b. if stmts_call r arm then true else b) (arms-same others)
    arms-same (missing others) = arms-same others

    body-same : (body : Body) → body_calls r (body_anew number body) ≡ body_calls r body
    body-same (Nested ss) = stmts-same ss
    body-same (Performed e x) = refl

  mutual
    end-anew-calls : (end : End) → EndCalls r end → EndCalls r (end_anew number end)
    end-anew-calls (Pick picker arms) h = trees-anew-call arms h
    end-anew-calls (Jump to) h = h
    end-anew-calls Return h = h
    end-anew-calls Stop h = h
    end-anew-calls Dead h = h

    trees-anew-call : (ts : Trees) → TreesCall r ts → TreesCall r (trees_anew number ts)
    trees-anew-call no_more h = h
    trees-anew-call (more (tree body end) others) (inl (inl h)) = inl (inl (stmts-same body ∙ h))
    trees-anew-call (more (tree body end) others) (inl (inr h)) = inl (inr (end-anew-calls end h))
    trees-anew-call (more (tree body end) others) (inr h) = inr (trees-anew-call others h)

  tree-anew-calls : (t : Tree) → TreeCalls r t → TreeCalls r (tree_anew number t)
  tree-anew-calls (tree body end) (inl h) = inl (stmts-same body ∙ h)
  tree-anew-calls (tree body end) (inr h) = inr (end-anew-calls end h)

  -- what is looked up stands among the nodes
  found-calls : (label : Label) (xs : List lower.Node) → TreeCalls r (find label xs) → NodesCall r (graph_nodes number xs)
  found-calls label [] (inl h) = absurd (let e : false ≡ true = h in cc)
  found-calls label [] (inr h) = absurd h
  found-calls label (x ∷ xs) h =
      (elim (x.key == label) as (λ b. TreeCalls r (if b then x.tree else find label xs) → NodesCall r (graph_nodes number (x ∷ xs))) [
        | true ↦ λ h. inl (tree-anew-calls x.tree h)
        | false ↦ λ h. inr (found-calls label xs h)
      ]) h

in-at : (order : List Range) (n : ℕ) (r : Range) → slice_get order n ≡ Some r → In r order
in-at [] n r is = absurd (cc)
in-at (x ∷ xs) zero r is = (let e : x ≡ r = ap (or_else x) is in subst (λ y. In y (x ∷ xs)) e (ap (λ b. if b then true else is_in x xs) (same-self x)))
in-at (x ∷ xs) (suc n) r is = elim (same_range x r) as (λ b. (if b then true else is_in r xs) ≡ true) [ true ↦ refl | false ↦ in-at xs n r is ]

module _ (told : FlowFacts) (program : Program) (keep : Range → Label → Bool) (numbers : Range → ℕ → ℕ) (added : Range → List Added) (others : List Range) (first : 0 < length program.paragraphs) (plan : IsNumberedPlan told program keep numbers added others) where
  of-program : (range : Range) → In range (Main ∷ others) → IsRangeOf program range
  of-program Main here = first
  of-program (Part entry exit) here = (plan.plan.entered entry exit here).0

  entered-in : (range : Range) → In range (Main ∷ others) → IsEntered told program range
  entered-in Main here = main
  entered-in (Part entry exit) here = (plan.plan.entered entry exit here).1

  node-calls : (range caller : Range) (label : Label) → keep caller label ≡ true → TreeCalls range ((lowered told program).node caller label) → NodesCall range (graph_nodes (numbers caller) (kept_nodes (keep caller) (nodes_of told program caller)))
  node-calls range caller label k h =
      found-calls (numbers caller) range label (kept_nodes (keep caller) (nodes_of told program caller))
      (subst (TreeCalls range) (kept-nodes-found told program keep caller label) (subst (λ b. TreeCalls range (if b then (lowered told program).node caller label else lower.end_alone Dead)) (sym k) h))

later-main : (others : List Range) (number : ℕ) → is_in Main others ≡ false → slice_get (Main ∷ others) number ≡ Some Main → 1 ≤ number → ⊥
later-main others zero gone is least = omega (arith, least)
later-main others (suc n) gone is least = let e : true ≡ false = sym (in-at others n Main is) ∙ gone in cc

pub order-is-of-graphs : OrderByPathsIsOfGraphs
order-is-of-graphs = λ told program keep numbers added others source some first plan called number range.
    (elim range as (λ r. slice_get (Main ∷ others) number ≡ Some r → 1 ≤ number → (from : ℕ) × (caller : Range) × (from < number) × (slice_get (Main ∷ others) from ≡ Some caller) × NodesCall r (lowered_graphs told program keep numbers added caller).nodes) [
      | Main ↦ λ is least. absurd (later-main others number plan.plan.order.0 is least)
      | Part e x ↦ λ is least.
          let c = called number e x is least in
          let here = in-at (Main ∷ others) c.0 c.1 c.3 in
          let s = called-stands told program source some plan.plan.returning c.1 (of-program told program keep numbers added others first plan c.1 here) (entered-in told program keep numbers added others first plan c.1 here) e x c.4 in
          (c.0, c.1, c.2, c.3, node-calls told program keep numbers added others first plan (Part e x) c.1 s.0 (plan.plan.reached c.1 s.0 s.1) s.2)
    ])

pub some-result-by-paths : {Memory Left World : Type 0} → SomeResultByPaths Memory Left World
some-result-by-paths = λ acting left first empty told program keep numbers added others is_told source fair not_faulty plan some called.
    some-result-behaves acting left first empty told program keep numbers added others is_told source fair not_faulty plan (order-is-of-graphs told program keep numbers added others source some fair plan called)
