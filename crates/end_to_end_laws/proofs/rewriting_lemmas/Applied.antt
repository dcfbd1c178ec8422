-- Each rule, as the call answers that applies it, keeps what walks do.
use Rattle.std.proofs.Common.{◌≡◌, Bool, true, false, if◌then◌else◌, List, [], ◌∷◌, Ok, Err, refl, ap, sym, ◌∙◌, subst, inl, inr}
use Rattle.std.proofs.lemmas.Bool.Decides.{eqb_tells}
use Rattle.control_flow_theory.specs.language.Language.{Range, same_range}
use Rattle.control_flow_theory.specs.semantics.Doing.{Acting}
use Rattle.control_flow_theory.specs.semantics.Graph.{Label, Tree}
use Rattle.control_flow_theory.specs.graph_rules.Shapes.{joined}
use Rattle.control_flow_theory.specs.graph_rules.Reduced.{Node, Graph, Graphs, tree_in, each_tree, with_tree, with_graph, inline_graph, close_graph, inlines, loops, has_node, family_of, kinds_of}
use Rattle.control_flow_theory.specs.graph_rules.Walked.{In}
use Rattle.control_flow_theory.specs.structuring.Closes.{IsClosed, AllNumbered, exits_graph, dispatch_graph}
use Rattle.control_flow_theory.specs.structuring.Dispatches.{LeavesTree, Numbered, labels_of}
use Rattle.control_flow_theory.specs.structuring.Targets.{RisingLabels}
use Rattle.control_flow_theory.proofs.graph_rules_lemmas.walks.Framed.{kept-from-agreeing}
use Rattle.control_flow_theory.proofs.graph_rules_lemmas.shapes.Reducing.{each-in}
use Rattle.control_flow_theory.proofs.graph_rules_lemmas.shapes.Shaped.{Replaced, replaced-by}
use Rattle.control_flow_theory.proofs.graph_rules_lemmas.shapes.Shaping.{joined-joins}
use Rattle.control_flow_theory.proofs.graph_rules_lemmas.shapes.ShapeFits.{joined-fits}
use Rattle.control_flow_theory.proofs.graph_rules_lemmas.rules.Sounds.{self-tree}
use Rattle.control_flow_theory.proofs.structuring_lemmas.closing.Closes.{exits-gain, dispatch-gains}
use Rattle.control_flow_theory.proofs.structuring_lemmas.closing.RulesStayClosed.{join-closed, loop-closed, inline-closed}
use Rattle.control_flow_theory.proofs.structuring_lemmas.closing.StayClosed.{with-labels, by-labels, from-labels, with-numbered, tree-numbered, exits-closed, dispatch-closed}
use Rattle.control_flow_theory.proofs.structuring_lemmas.gathering.Kept.{exits-graph-keeps, dispatch-graph-keeps}
use Rattle.control_flow_theory.proofs.structuring_lemmas.gathering.Targets.{numbered-here, numbered-there}
use Rattle.end_to_end_laws.specs.rewriting.Families.{IsSoundFamily, WalkAlike}
use Rattle.end_to_end_laws.specs.rewriting.rule_walks.Laws.{with_node, JoinedTreesKeepWalks, JoinKeepsWalks, InlineKeepsWalks, LoopKeepsWalks, ExitsKeepWalks, DispatchKeepsWalks}
use Rattle.end_to_end_laws.proofs.rewriting_lemmas.RuleWalks.{Same, unchanged-same, node-same, inline-same, loop-same}

-- both, where one is asked before the other
pub both-true : (one two : Bool) → (if one then two else false) ≡ true → (one ≡ true) × (two ≡ true)
both-true true two is = (refl, is)
both-true false two is = cc

-- a label of a node is numbered
has-numbered : (label : Label) (nodes : List Node) → has_node nodes label ≡ true → Numbered (labels_of nodes) label
has-numbered label [] is = cc
has-numbered label (node ∷ nodes) is =
    elim (eqb_tells node.label label) [
      | inl e ↦ numbered-here node.label label (labels_of nodes) e.1
      | inr e ↦ numbered-there node.label label (labels_of nodes) (has-numbered label nodes (sym (ap (λ b. if b then true else has_node nodes label) e.0) ∙ is))
    ]

each-labels : (f : Tree → Tree) (nodes : List Node) → labels_of (each_tree f nodes) ≡ labels_of nodes
each-labels f [] = refl
each-labels f (node ∷ nodes) = ap (λ labels. node.label ∷ labels) (each-labels f nodes)

-- the jumps of a joined tree are to the same labels
joined-leaves : (graph : Graph) (label : Label) → IsClosed graph → LeavesTree (Numbered (labels_of graph.nodes)) (Unit {0}) (joined (tree_in graph.nodes label))
joined-leaves graph label closed =
    let all = each_tree joined graph.nodes in
    let there : LeavesTree (Numbered (labels_of all)) (Unit {0}) (tree_in all label) = tree-numbered (labels_of all) label all (join-closed graph closed).jumps in
    subst (λ t. LeavesTree (Numbered (labels_of graph.nodes)) (Unit {0}) t) (each-in joined refl graph.nodes label)
    (subst (λ labels. LeavesTree (Numbered labels) (Unit {0}) (tree_in all label)) (each-labels joined graph.nodes) there)

node-closed : (graph : Graph) (label : Label) (t : Tree) → IsClosed graph → LeavesTree (Numbered (labels_of graph.nodes)) (Unit {0}) t → IsClosed (with_node label t graph)
node-closed graph label t closed leaves =
    let same = with-labels label t graph.nodes in
    record {
      rising = from-labels (with_tree label t graph.nodes) (subst RisingLabels (sym same) (by-labels graph.nodes closed.rising));
      entry = subst (λ labels. Numbered labels graph.entry) (sym same) closed.entry;
      jumps = subst (λ labels. AllNumbered labels (with_tree label t graph.nodes)) (sym same) (with-numbered (labels_of graph.nodes) label t graph.nodes leaves closed.jumps);
    }

module _ {Memory Left : Type 0} (acting : Acting Memory) (left : Memory → Left) (graphs : Graphs) (order : List Range) (range : Range) (here : In range order) (sound : IsSoundFamily acting left graphs order) where
  abbrev mine : Graph
  mine = graphs range

  still-closed : (new : Graph) → IsClosed new → (r : Range) → In r order → IsClosed (with_graph graphs range new r)
  still-closed new closed r there =
      elim (same_range r range) as (λ b. IsClosed (if b then new else graphs r)) [ true ↦ closed | false ↦ sound.closed r there ]

  by-same : (new : Graph) → IsClosed new → Same acting left order graphs (with_graph graphs range new) → WalkAlike acting left graphs (with_graph graphs range new) order
  by-same new closed same = record {
    extends = same.extends;
    sound = record { closed = still-closed new closed; family = same.family; sound = same.does.0 };
    matched = λ r there twins m.
        kept-from-agreeing acting left (kinds_of graphs) (kinds_of (with_graph graphs range new)) (family_of graphs) (family_of (with_graph graphs range new)) order sound.family same.extends same.does r there twins.first
        (record { memory = twins.second; ready = twins.second_ready }) (twins.own, twins.cells) m;
  }

  replaced-with : (new graph : Graph) → new ≡ graph → Replaced graphs (with_graph graphs range new) range graph
  replaced-with new graph is = subst (Replaced graphs (with_graph graphs range new) range) is (replaced-by graphs range new)

  pub unchanged : (new : Graph) → new ≡ mine → WalkAlike acting left graphs (with_graph graphs range new) order
  unchanged new is =
      by-same new (subst IsClosed (sym is) (sound.closed range here))
      (unchanged-same acting left order graphs (with_graph graphs range new) range sound.family sound.sound (replaced-with new mine is))

  pub node-joined : (label : Label) (new : Graph) → new ≡ with_node label (joined (tree_in mine.nodes label)) mine → WalkAlike acting left graphs (with_graph graphs range new) order
  node-joined label new is =
      let t = tree_in mine.nodes label in
      by-same new (subst IsClosed (sym is) (node-closed mine label (joined t) (sound.closed range here) (joined-leaves mine label (sound.closed range here))))
      (node-same acting left order graphs (with_graph graphs range new) range sound.family sound.sound label (joined t) (joined-joins t)
      (λ Calls fits. joined-fits Calls _ _ t fits) (replaced-with new (with_node label (joined t) mine) is))

  pub node-unchanged : (label : Label) (new : Graph) → new ≡ with_node label (tree_in mine.nodes label) mine → WalkAlike acting left graphs (with_graph graphs range new) order
  node-unchanged label new is =
      let t = tree_in mine.nodes label in
      by-same new (subst IsClosed (sym is) (node-closed mine label t (sound.closed range here) (tree-numbered (labels_of mine.nodes) label mine.nodes (sound.closed range here).jumps)))
      (node-same acting left order graphs (with_graph graphs range new) range sound.family sound.sound label t (self-tree t)
      (λ Calls fits. fits) (replaced-with new (with_node label t mine) is))

  pub inlined-alike : (label : Label) (new : Graph) → inlines mine label ≡ true → new ≡ inline_graph label mine → WalkAlike acting left graphs (with_graph graphs range new) order
  inlined-alike label new applies is =
      by-same new (subst IsClosed (sym is) (inline-closed mine label applies (sound.closed range here)))
      (inline-same acting left order graphs (with_graph graphs range new) range sound.family sound.sound label applies (replaced-with new (inline_graph label mine) is))

  pub looped-alike : (label : Label) (new : Graph) → loops mine label ≡ true → new ≡ close_graph label mine → WalkAlike acting left graphs (with_graph graphs range new) order
  looped-alike label new applies is =
      by-same new (subst IsClosed (sym is) (loop-closed mine label (sound.closed range here)))
      (loop-same acting left order graphs (with_graph graphs range new) range sound.family sound.sound label applies (replaced-with new (close_graph label mine) is))

  pub exited-alike : (label : Label) (new : Graph) → has_node mine.nodes label ≡ true → new ≡ exits_graph label mine → WalkAlike acting left graphs (with_graph graphs range new) order
  exited-alike label new has is =
      subst (λ graph. WalkAlike acting left graphs (with_graph graphs range graph) order) (sym is)
      (let last = exits_graph label mine in
      let others = with_graph graphs range last in
      let there = has-numbered label mine.nodes has in
      let kept = exits-graph-keeps acting left graphs order sound.family sound.sound range label there in
      record {
        extends = (exits-gain graphs others range label there (replaced-by graphs range last)).extends;
        sound = record { closed = still-closed last (exits-closed mine label (sound.closed range here)); family = kept.family; sound = kept.sound };
        matched = kept.matched;
      })

  pub dispatched-alike : (new : Graph) → new ≡ dispatch_graph mine → WalkAlike acting left graphs (with_graph graphs range new) order
  dispatched-alike new is =
      subst (λ graph. WalkAlike acting left graphs (with_graph graphs range graph) order) (sym is)
      (let last = dispatch_graph mine in
      let others = with_graph graphs range last in
      let closed = sound.closed range here in
      let kept = dispatch-graph-keeps acting left graphs order sound.family sound.sound range closed in
      record {
        extends = (dispatch-gains graphs others range closed (replaced-by graphs range last)).extends;
        sound = record { closed = still-closed last (dispatch-closed mine); family = kept.family; sound = kept.sound };
        matched = kept.matched;
      })

module _ {Memory Left : Type 0} where
  pub join-tree-keeps : JoinedTreesKeepWalks Memory Left
  join-tree-keeps (Ok true) label old new is acting left graphs order range here at sound =
      node-joined acting left graphs order range here sound label (with_node label new old)
      (ap (λ t. with_node label t old) is.1 ∙ sym (ap (λ graph. with_node label (joined (tree_in graph.nodes label)) graph) at))
  join-tree-keeps (Ok false) label old new is acting left graphs order range here at sound =
      node-unchanged acting left graphs order range here sound label (with_node label new old)
      (ap (λ t. with_node label t old) is.1 ∙ sym (ap (λ graph. with_node label (tree_in graph.nodes label) graph) at))
  join-tree-keeps (Err fault) label old new is acting left graphs order range here at sound =
      node-unchanged acting left graphs order range here sound label (with_node label new old)
      (ap (λ t. with_node label t old) is ∙ sym (ap (λ graph. with_node label (tree_in graph.nodes label) graph) at))

  pub join-keeps-walks : JoinKeepsWalks Memory Left
  join-keeps-walks (Ok some) label old new is acting left graphs order range here at sound =
      node-joined acting left graphs order range here sound label new
      (is.1 ∙ sym (ap (λ graph. with_node label (joined (tree_in graph.nodes label)) graph) at))
  join-keeps-walks (Err fault) label old new is acting left graphs order range here at sound =
      unchanged acting left graphs order range here sound new (is ∙ sym at)

  pub inline-keeps-walks : InlineKeepsWalks Memory Left
  inline-keeps-walks (Ok true) label old new is acting left graphs order range here at sound =
      inlined-alike acting left graphs order range here sound label new
      (subst (λ graph. inlines graph label ≡ true) (sym at) (both-true (has_node old.nodes label) (inlines old label) is.0).1)
      (is.1 ∙ sym (ap (inline_graph label) at))
  inline-keeps-walks (Ok false) label old new is acting left graphs order range here at sound =
      unchanged acting left graphs order range here sound new (is.1 ∙ sym at)
  inline-keeps-walks (Err fault) label old new is acting left graphs order range here at sound =
      unchanged acting left graphs order range here sound new (is ∙ sym at)

  pub loop-keeps-walks : LoopKeepsWalks Memory Left
  loop-keeps-walks (Ok true) label old new is acting left graphs order range here at sound =
      looped-alike acting left graphs order range here sound label new
      (subst (λ graph. loops graph label ≡ true) (sym at) (both-true (has_node old.nodes label) (loops old label) is.0).1)
      (is.1 ∙ sym (ap (close_graph label) at))
  loop-keeps-walks (Ok false) label old new is acting left graphs order range here at sound =
      unchanged acting left graphs order range here sound new (is.1 ∙ sym at)
  loop-keeps-walks (Err fault) label old new is acting left graphs order range here at sound =
      unchanged acting left graphs order range here sound new (is ∙ sym at)

  pub exits-keep-walks : ExitsKeepWalks Memory Left
  exits-keep-walks (Ok true) label old new is acting left graphs order range here at sound =
      exited-alike acting left graphs order range here sound label new
      (subst (λ graph. has_node graph.nodes label ≡ true) (sym at) (both-true (has_node old.nodes label) _ is.0).0)
      (is.1 ∙ sym (ap (exits_graph label) at))
  exits-keep-walks (Ok false) label old new is acting left graphs order range here at sound =
      unchanged acting left graphs order range here sound new (is.1 ∙ sym at)
  exits-keep-walks (Err fault) label old new is acting left graphs order range here at sound =
      unchanged acting left graphs order range here sound new (is ∙ sym at)

  pub dispatch-keeps-walks : DispatchKeepsWalks Memory Left
  dispatch-keeps-walks (Ok done) old new ok err acting left graphs order range here at sound =
      dispatched-alike acting left graphs order range here sound new (ok ∙ sym (ap dispatch_graph at))
  dispatch-keeps-walks (Err fault) old new ok err acting left graphs order range here at sound =
      unchanged acting left graphs order range here sound new (err ∙ sym at)
