-- The graphs of a lowered program can be written, and so can what closing leaves of them.
use Rattle.std.proofs.Common.{◌≡◌, ℕ, suc, ◌<◌, Bool, true, false, if◌then◌else◌, List, [], ◌∷◌, refl, ap, sym, subst, arith, inl}
use Rattle.std.specs.Prelude.{length}
use Rattle.control_flow_theory.specs.language.Language.{Act, Own, Set, Take, Lower, Test, Holds, Not, Is, Above, Picker, If, By, ByCell, Control, Times, Until, Varying, Stmt, Choose, Loop, Perform, Go, GoDepending, NextSentence, ExitParagraph, ExitSection, ExitPerform, StopRun, Stmts, none, also, Arms, done, given, missing, Body, Nested, Performed, Program, Range, Main, Part, same_range}
use Rattle.control_flow_theory.specs.language.Language as language
use Rattle.control_flow_theory.specs.semantics.Graph.{Label, Tree, tree, End, Pick, Jump, Return, Stop, Dead, Trees, no_more, more, body_of, end_of, Family, IsLast}
use Rattle.control_flow_theory.specs.lowering.FlowFacts.{FlowFacts, IsSource}
use Rattle.control_flow_theory.specs.graph_rules.Fits.{StmtFits, StmtsFit, ArmsFit, BodyFits, TreeFits, EndFits, TreesFit}
use Rattle.control_flow_theory.specs.graph_rules.Walked.{is_in, In}
use Rattle.control_flow_theory.specs.graph_rules.Families.{Added, Has, MaySet}
use Rattle.control_flow_theory.specs.graph_rules.Reduced.{Node, Graphs, tree_in, size, family_of, kinds_of}
use Rattle.control_flow_theory.specs.graph_rules.Shapes.{alone}
use Rattle.control_flow_theory.specs.structuring.Dispatches.{Numbered, labels_of, AreNodes}
use Rattle.control_flow_theory.specs.structuring.Closes.{IsClosed, closed_graph}
use Rattle.control_flow_theory.specs.rendering.Rendering.{Naming, Procedure, place_of, standing}
use Rattle.control_flow_theory.specs.rendering.Procedures.{Writable, PickerFits, StandsLater, StmtStands, StmtsStand, ArmsStand, BodyStands}
use Rattle.control_flow_theory.specs.main_theorem.Chain.{lowered_graphs, procedures_of, IsNumberedPlan, EachCellServed, EachStands, ClosedGraphsStand, TreeNames, MayBecome, PickServed, StmtServed, StmtsServed, ArmsServed, BodyServed, EndServed, TreesServed, TreeServed, GraphsServed}
use Rattle.control_flow_theory.proofs.graph_rules_lemmas.walks.Orders.{place, Behind, ordered-fits}
use Rattle.control_flow_theory.proofs.structuring_lemmas.closing.Closes.{are-nodes}
use Rattle.control_flow_theory.proofs.main_theorem_lemmas.graphs.LoweredGraphs.{graphs-closed}
use Rattle.control_flow_theory.proofs.main_theorem_lemmas.graphs.LaterCalls.{plan-fits}
use Rattle.control_flow_theory.proofs.main_theorem_lemmas.Chain.{at-procedure, entry-last}
use Rattle.control_flow_theory.proofs.structuring_lemmas.closing.SomeKept.{written-some}
use Rattle.control_flow_theory.proofs.main_theorem_lemmas.graphs.ChoicesKept.{Chooses, ArmsChoose, Picks, finds}
use Rattle.control_flow_theory.specs.graph_rules.EachTree.{EachTree, EachNode}
use Rattle.control_flow_theory.proofs.main_theorem_lemmas.graphs.OneCount.{ChoiceIs, EndIs, tree-none}
use Rattle.control_flow_theory.proofs.main_theorem_lemmas.graphs.OneCountKept.{first-of-closed}
use Rattle.control_flow_theory.proofs.main_theorem_lemmas.StandKept.{TreeStands, EndStands, TreesStand, AllStand, followed-stands, at-stands, closed-stands}

module _ (graphs : Graphs) where
  same-place : (ranges : List Range) (r : Range) → place_of (procedures_of ranges graphs) r ≡ place ranges r
  same-place [] r = refl
  same-place (x ∷ xs) r = ap (λ n. if same_range x r then 0 else suc n) (same-place xs r)

  below : (ranges : List Range) (to : Range) → In to ranges → place ranges to < length (procedures_of ranges graphs)
  below [] to here = absurd (let e : false ≡ true = here in cc)
  below (x ∷ xs) to here = elim (same_range x to) as (λ b. (if b then true else is_in to xs) ≡ true → (if b then 0 else suc (place xs to)) < suc (length (procedures_of xs graphs))) [
    | true ↦ λ h. omega arith
    | false ↦ λ h. (let k = below xs to h in omega (arith, k))
  ] here

  later : (ranges : List Range) (r to : Range) → Behind ranges r to → (place_of (procedures_of ranges graphs) r < place_of (procedures_of ranges graphs) to) × (place_of (procedures_of ranges graphs) to < length (procedures_of ranges graphs))
  later ranges r to h =
      let e = same-place ranges r in let f = same-place ranges to in
      (subst (λ n. n < place_of (procedures_of ranges graphs) to) (sym e) (subst (λ n. place ranges r < n) (sym f) h.1), subst (λ n. n < length (procedures_of ranges graphs)) (sym f) (below ranges to h.0))

module _ (naming : Naming) (kinds : Writable) (procedures : List Procedure) (range : Range) (C : Range → Type 0) (R W : ℕ → Type 0)
    (stands_later : (entry exit : ℕ) → C (Part entry exit) → StandsLater naming kinds procedures range (Part entry exit)) where
  pick-stands : (picker : Picker) (trees : Trees) (arms : Arms) → MayBecome trees arms → PickServed naming kinds procedures range picker trees → PickerFits naming kinds procedures range picker (standing (naming.empty range picker) 0 arms)
  pick-stands (If test) trees arms m h = h
  pick-stands (By chooser) trees arms m h = h arms m
  pick-stands (ByCell cell) trees arms m h = h

  mutual
    stmt-stands : (stmt : Stmt) → StmtFits C R W stmt → StmtServed naming kinds procedures range stmt → StmtStands naming kinds procedures range stmt
    stmt-stands (language.Do act) = λ k n. n
    stmt-stands (Choose picker arms) = λ k n. (n.0, arms-stand arms k.1 n.1)
    stmt-stands (Loop control body) = λ k n. (n.0, inl (body-stands-so body k.1 n.1))
    stmt-stands (Perform entry exit) = λ k n. stands_later entry exit k
    stmt-stands (Go to) = λ k n. k
    stmt-stands (GoDepending to chooser) = λ k n. k
    stmt-stands NextSentence = λ k n. k
    stmt-stands ExitParagraph = λ k n. k
    stmt-stands (ExitSection last) = λ k n. k
    stmt-stands (ExitPerform cycle) = λ k n. k
    stmt-stands StopRun = λ k n. tt

    stmts-stand : (stmts : Stmts) → StmtsFit C R W stmts → StmtsServed naming kinds procedures range stmts → StmtsStand naming kinds procedures range stmts
    stmts-stand none = λ k n. tt
    stmts-stand (also stmt stmts) = λ k n. (stmt-stands stmt k.0 n.0, inl (stmts-stand stmts k.1 n.1))

    arms-stand : (arms : Arms) → ArmsFit C R W arms → ArmsServed naming kinds procedures range arms → ArmsStand naming kinds procedures range arms
    arms-stand done = λ k n. tt
    arms-stand (given arm others) = λ k n. (stmts-stand arm k.0 n.0, arms-stand others k.1 n.1)
    arms-stand (missing others) = λ k n. arms-stand others k n

    body-stands-so : (body : Body) → BodyFits C R W body → BodyServed naming kinds procedures range body → BodyStands naming kinds procedures range body
    body-stands-so (Nested stmts) = λ k n. stmts-stand stmts k n
    body-stands-so (Performed entry exit) = λ k n. stands_later entry exit k

  mutual
    end-stands : (body : Stmts) (end : End) → StmtsFit C R W body → StmtsServed naming kinds procedures range body → EndFits C R W end → EndServed naming kinds procedures range end → EndStands naming kinds procedures range body end
    end-stands body (Pick picker arms) = λ f m k n. (
      λ news e s. followed-stands naming kinds procedures range body (alone (Choose picker news)) (stmts-stand body f m) ((pick-stands picker arms news e n.0, s), inl tt),
      trees-stand arms k.1 n.1,
    )
    end-stands body (Jump to) = λ f m k n. stmts-stand body f m
    end-stands body Return = λ f m k n. stmts-stand body f m
    end-stands body Stop = λ f m k n. stmts-stand body f m
    end-stands body Dead = λ f m k n. stmts-stand body f m

    trees-stand : (arms : Trees) → TreesFit C R W arms → TreesServed naming kinds procedures range arms → TreesStand naming kinds procedures range arms
    trees-stand no_more = λ k n. tt
    trees-stand (more (tree body end) others) = λ k n. (end-stands body end k.0.0 n.0 k.0.1 n.1, trees-stand others k.1 n.2)

  tree-stands : (t : Tree) → TreeFits C R W t → TreeServed naming kinds procedures range t → TreeStands naming kinds procedures range t
  tree-stands (tree body end) k n = end-stands body end k.0 n.0 k.1 n.1

  all-stand : (family : Family) (P : Label → Type 0) (nodes : List Node) → AreNodes family range P nodes → ((label : Label) → TreeStands naming kinds procedures range (family.node range label)) → AllStand naming kinds procedures range nodes
  all-stand family P [] are stand = tt
  all-stand family P (node ∷ nodes) are stand = (subst (TreeStands naming kinds procedures range) are.0 (stand node.label), all-stand family P nodes are.2 stand)

  -- before a last end stands the body alone
  body-stands : (t : Tree) → IsLast (end_of t) → TreeStands naming kinds procedures range t → StmtsStand naming kinds procedures range (body_of t)
  body-stands (tree body (Pick picker arms)) last h = absurd last
  body-stands (tree body (Jump to)) last h = absurd last
  body-stands (tree body Return) last h = h
  body-stands (tree body Stop) last h = h
  body-stands (tree body Dead) last h = h

module _ (Q : ℕ → ℕ → Type 0) (R W : ℕ → Type 0) (family : Family) (range : Range) (P : Label → Type 0) where
  none-of : (nodes : List Node) → AreNodes family range P nodes → ((label : Label) → TreeNames R W (family.node range label)) → EachNode (ChoiceIs Q) (EndIs Q) nodes
  none-of [] are names = tt
  none-of (node ∷ nodes) are names = (subst (EachTree (ChoiceIs Q) (EndIs Q)) are.0 (tree-none Q R W (family.node range node.label) (names node.label)), none-of nodes are.2 names)

module _ (naming : Naming) (kinds : Writable) (told : FlowFacts) (program : Program) (keep : Range → Label → Bool) (numbers : Range → ℕ → ℕ) (added : Range → List Added) (others : List Range)
    (all : EachCellServed kinds (Main ∷ others) (lowered_graphs told program keep numbers added)) (source : IsSource told program) (some : 0 < length program.paragraphs) (plan : IsNumberedPlan told program keep numbers added others)
    (served : GraphsServed naming kinds (Main ∷ others) (lowered_graphs told program keep numbers added)) where
  abbrev graphs : Graphs
  graphs = lowered_graphs told program keep numbers added

  abbrev order : List Range
  order = Main ∷ others

  abbrev procedures : List Procedure
  procedures = procedures_of order graphs

  pub closed-at : (r : Range) → In r order → IsClosed (graphs r)
  closed-at Main here = graphs-closed told program keep numbers added source Main some (plan.plan.just Main here)
  closed-at (Part e x) here = graphs-closed told program keep numbers added source (Part e x) (plan.plan.entered e x here).0 (plan.plan.just (Part e x) here)

  module _ (r : Range) (here : In r order) where
    abbrev R : ℕ → Type 0
    R = Has (kinds_of graphs) r

    abbrev W : ℕ → Type 0
    W = MaySet (kinds_of graphs) r

    behind-later : (entry exit : ℕ) → Behind order r (Part entry exit) → StandsLater naming kinds procedures r (Part entry exit)
    behind-later entry exit b = later graphs order r (Part entry exit) b

    node-stands : (label : Label) → TreeStands naming kinds procedures r ((family_of graphs).node r label)
    node-stands label =
        tree-stands naming kinds procedures r (Behind order r) R W behind-later ((family_of graphs).node r label)
        (ordered-fits (family_of graphs) (Has (kinds_of graphs)) (MaySet (kinds_of graphs)) order (plan-fits told program keep numbers added others source some plan) r here label) (served r here label)

    -- no choice by a cell stands in the lowered nodes
    none-choose : EachNode (ChoiceIs (λ c n. ⊥)) (EndIs (λ c n. ⊥)) (graphs r).nodes
    none-choose =
        let labels = labels_of (graphs r).nodes in
        none-of (λ c n. ⊥) R W (family_of graphs) r (Numbered labels) (graphs r).nodes
        (are-nodes (family_of graphs) r labels (graphs r).nodes (closed-at r here).rising (λ l t e n. e) (closed-at r here).jumps) (plan.names r here)

    graph-stands : AllStand naming kinds procedures r (graphs r).nodes
    graph-stands =
        let closed = closed-at r here in
        let labels = labels_of (graphs r).nodes in
        all-stand naming kinds procedures r (Behind order r) R W behind-later (family_of graphs) (Numbered labels) (graphs r).nodes
        (are-nodes (family_of graphs) r labels (graphs r).nodes closed.rising (λ l t e n. e) closed.jumps) node-stands

    entry-stands : StmtsStand naming kinds procedures r (body_of (tree_in (closed_graph (graphs r)).nodes (closed_graph (graphs r)).entry))
    entry-stands =
        let closed = closed_graph (graphs r) in
        let t = tree_in closed.nodes closed.entry in
        let whole = closed-stands naming kinds procedures r closed.added (body_of t) (size (graphs r).nodes) (all r here) (first-of-closed (graphs r) none-choose) (graphs r) (closed-at r here, omega arith)
        (λ cell kind is. is, λ cell arms h. written-some (Chooses cell arms) (ArmsChoose cell arms) (Picks cell arms) (finds cell arms) (graphs r) (closed-at r here) h) graph-stands in
        body-stands naming kinds procedures r (Behind order r) R W behind-later t (entry-last graphs (graphs r) (closed-at r here))
        (at-stands naming kinds procedures r (closed_graph (graphs r)).nodes (closed_graph (graphs r)).entry whole)

  each-stands : EachStands naming kinds procedures
  each-stands number procedure is =
      let at = at-procedure graphs order number procedure is in
      subst (λ body. StmtsStand naming kinds procedures procedure.range body) (sym (ap (λ q. q.body) at.0)) (entry-stands procedure.range at.1)

pub closed-graphs-stand : ClosedGraphsStand
closed-graphs-stand = λ naming kinds told program keep numbers added others all source some plan served. each-stands naming kinds told program keep numbers added others all source some plan served
