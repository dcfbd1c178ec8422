-- A graph whose jumps are to its nodes stays one, whatever rule applies.
use Rattle.std.proofs.Common.{◌≡◌, ◌≢◌, ℕ, ◌+◌, Bool, true, false, if◌then◌else◌, ◌==◌, List, [], ◌∷◌, Option, Some, None, refl, ap, sym, ◌∙◌, subst, arith, inl, inr}
use Rattle.std.proofs.lemmas.Bool.Decides.{eqb_tells}
use Rattle.control_flow_theory.specs.language.Language.{Picker, Stmts}
use Rattle.control_flow_theory.specs.semantics.Graph.{Label, Tree, tree, End, Pick, Jump, Return, Stop, Dead, Trees, no_more, more, body_of, end_of}
use Rattle.control_flow_theory.specs.graph_rules.Families.{Added}
use Rattle.control_flow_theory.specs.graph_rules.Shapes.{followed, Live, ToLabel, Back, end_at, Targets, NoTarget, Only, Several, same_live, both_targets, leaf_targets, arms_targets, join_by, joined, join_end, joined_arms, inlined, inline_end, inlined_arms, leaves_to, end_leaves_to, arms_leaves_to, other_targets, end_targets, other_arms_targets}
use Rattle.control_flow_theory.specs.graph_rules.Reduced.{Node, Graph, tree_in, each_tree, without, with_tree, join_graph, inline_graph, all_leaves_to, inlines, Form, form_of, looped_graph, close_form, close_by, close_graph, lowest, rule_step, stepped, shaped}
use Rattle.control_flow_theory.specs.structuring.Targets.{RisingLabels}
use Rattle.control_flow_theory.specs.structuring.Dispatches.{LeavesEnd, LeavesTree, LeavesTrees, Numbered, labels_of, Rising}
use Rattle.control_flow_theory.specs.structuring.Closes.{any_step, reduced_by_all, closed_graph, AllNumbered, IsClosed}
use Rattle.control_flow_theory.proofs.structuring_lemmas.gathering.Targets.{numbered-here, numbered-there, numbered-cases}
use Rattle.control_flow_theory.proofs.structuring_lemmas.closing.Closes.{AllAbove, rising-above}
use Rattle.control_flow_theory.proofs.structuring_lemmas.closing.InOrder.{Kept, rule-step-kept, shaped-kept, any-step-kept, by-all-kept, closed-kept}
use Rattle.control_flow_theory.proofs.structuring_lemmas.closing.StayClosed.{with-labels, by-labels, from-labels, with-numbered, tree-numbered, exits-closed, dispatch-closed}

-- Targets that are such labels.
module _ (P : Label → Type 0) where
  abbrev pub LiveIs : Live → Type 0
  LiveIs (ToLabel to) = P to
  LiveIs Back = Unit {0}

  abbrev pub TargetsAre : Targets → Type 0
  TargetsAre NoTarget = Unit {0}
  TargetsAre (Only live) = LiveIs live
  TargetsAre Several = Unit {0}

  both-are : (one two : Targets) → TargetsAre one → TargetsAre two → TargetsAre (both_targets one two)
  both-are NoTarget two h k = k
  both-are (Only live) NoTarget h k = h
  both-are (Only live) (Only other) h k = elim (same_live live other) as (λ b. TargetsAre (if b then Only other else Several)) [ true ↦ k | false ↦ tt ]
  both-are (Only live) Several h k = tt
  both-are Several two h k = tt

  leaf-are : (end : End) → LeavesEnd P (Unit {0}) end → TargetsAre (leaf_targets end)
  leaf-are (Pick picker arms) l = tt
  leaf-are (Jump to) l = l
  leaf-are Return l = tt
  leaf-are Stop l = tt
  leaf-are Dead l = tt

  end-leaves : (t : Tree) → LeavesTree P (Unit {0}) t → LeavesEnd P (Unit {0}) (end_of t)
  end-leaves (tree body end) l = l

  arms-are : (arms : Trees) → LeavesTrees P (Unit {0}) arms → TargetsAre (arms_targets arms)
  arms-are no_more l = tt
  arms-are (more first others) l = both-are (leaf_targets (end_of first)) (arms_targets others) (leaf-are (end_of first) (end-leaves first l.0)) (arms-are others l.1)

  live-leaves : (live : Live) → LiveIs live → LeavesEnd P (Unit {0}) (end_at live)
  live-leaves (ToLabel to) h = h
  live-leaves Back h = tt

  join-by-leaves : (body : Stmts) (picker : Picker) (arms : Trees) (targets : Targets) → LeavesTrees P (Unit {0}) arms → TargetsAre targets → LeavesTree P (Unit {0}) (join_by body picker arms targets)
  join-by-leaves body picker arms NoTarget l h = tt
  join-by-leaves body picker arms (Only live) l h = live-leaves live h
  join-by-leaves body picker arms Several l h = l

  mutual
    joined-leaves : (t : Tree) → LeavesTree P (Unit {0}) t → LeavesTree P (Unit {0}) (joined t)
    joined-leaves (tree body end) = λ l. join-end-leaves body end l

    join-end-leaves : (body : Stmts) (end : End) → LeavesEnd P (Unit {0}) end → LeavesTree P (Unit {0}) (join_end body end)
    join-end-leaves body (Pick picker arms) = λ l. (let k = joined-arms-leaves arms l in join-by-leaves body picker (joined_arms arms) (arms_targets (joined_arms arms)) k (arms-are (joined_arms arms) k))
    join-end-leaves body (Jump to) = λ l. l
    join-end-leaves body Return = λ l. tt
    join-end-leaves body Stop = λ l. tt
    join-end-leaves body Dead = λ l. tt

    joined-arms-leaves : (arms : Trees) → LeavesTrees P (Unit {0}) arms → LeavesTrees P (Unit {0}) (joined_arms arms)
    joined-arms-leaves no_more = λ l. tt
    joined-arms-leaves (more first others) = λ l. (joined-leaves first l.0, joined-arms-leaves others l.1)

  -- the targets of a loop's node
  module _ (label : Label) where
    mutual
      other-end : (end : End) → LeavesEnd P (Unit {0}) end → TargetsAre (end_targets label end)
      other-end (Pick picker arms) = λ l. other-arms arms l
      other-end (Jump to) = λ l. elim (to == label) as (λ b. TargetsAre (if b then NoTarget else Only (ToLabel to))) [ true ↦ tt | false ↦ l ]
      other-end Return = λ l. tt
      other-end Stop = λ l. tt
      other-end Dead = λ l. tt

      other-are : (t : Tree) → LeavesTree P (Unit {0}) t → TargetsAre (other_targets label t)
      other-are (tree body end) = λ l. other-end end l

      other-arms : (arms : Trees) → LeavesTrees P (Unit {0}) arms → TargetsAre (other_arms_targets label arms)
      other-arms no_more = λ l. tt
      other-arms (more first others) = λ l. both-are (other_targets label first) (other_arms_targets label others) (other-are first l.0) (other-arms others l.1)

-- The same labels, of a tree without jumps to one of them.
module _ (P Q : Label → Type 0) (label : Label) (stays : (to : Label) → P to → to ≢ label → Q to) where
  jump-stays : (to : Label) → P to → end_leaves_to label (Jump to) ≡ 0 → Q to
  jump-stays to p e = elim (eqb_tells to label) [
    | inl f ↦ absurd (let one_is : end_leaves_to label (Jump to) ≡ 1 = ap (λ b. if b then 1 else 0) f.0 in omega (arith, one_is, e))
    | inr f ↦ stays to p f.1
  ]

  both-zero : (a b : ℕ) → a + b ≡ 0 → (a ≡ 0) × (b ≡ 0)
  both-zero a b e = (omega (arith, e), omega (arith, e))

  mutual
    end-stays : (end : End) → LeavesEnd P (Unit {0}) end → end_leaves_to label end ≡ 0 → LeavesEnd Q (Unit {0}) end
    end-stays (Pick picker arms) = λ l e. arms-stay arms l e
    end-stays (Jump to) = λ l e. jump-stays to l e
    end-stays Return = λ l e. tt
    end-stays Stop = λ l e. tt
    end-stays Dead = λ l e. tt

    pub tree-stays : (t : Tree) → LeavesTree P (Unit {0}) t → leaves_to label t ≡ 0 → LeavesTree Q (Unit {0}) t
    tree-stays (tree body end) = λ l e. end-stays end l e

    arms-stay : (arms : Trees) → LeavesTrees P (Unit {0}) arms → arms_leaves_to label arms ≡ 0 → LeavesTrees Q (Unit {0}) arms
    arms-stay no_more = λ l e. tt
    arms-stay (more first others) = λ l e. (let z = both-zero (leaves_to label first) (arms_leaves_to label others) e in (tree-stays first l.0 z.0, arms-stay others l.1 z.1))

  -- with a node in place of the jumps to the label
  module _ (node : Tree) (node_leaves : LeavesEnd Q (Unit {0}) (end_of node)) where
    mutual
      inlined-leaves : (t : Tree) → LeavesTree P (Unit {0}) t → LeavesTree Q (Unit {0}) (inlined label node t)
      inlined-leaves (tree body end) = λ l. inline-end-leaves body end l

      inline-end-leaves : (body : Stmts) (end : End) → LeavesEnd P (Unit {0}) end → LeavesTree Q (Unit {0}) (inline_end label node body end)
      inline-end-leaves body (Pick picker arms) = λ l. inlined-arms-leaves arms l
      inline-end-leaves body (Jump to) = λ l.
          elim (eqb_tells to label) [
            | inl e ↦ subst (λ b. LeavesTree Q (Unit {0}) (if b then tree (followed body (body_of node)) (end_of node) else tree body (Jump to))) (sym e.0) node_leaves
            | inr e ↦ subst (λ b. LeavesTree Q (Unit {0}) (if b then tree (followed body (body_of node)) (end_of node) else tree body (Jump to))) (sym e.0) (stays to l e.1)
          ]
      inline-end-leaves body Return = λ l. tt
      inline-end-leaves body Stop = λ l. tt
      inline-end-leaves body Dead = λ l. tt

      inlined-arms-leaves : (arms : Trees) → LeavesTrees P (Unit {0}) arms → LeavesTrees Q (Unit {0}) (inlined_arms label node arms)
      inlined-arms-leaves no_more = λ l. tt
      inlined-arms-leaves (more first others) = λ l. (inlined-leaves first l.0, inlined-arms-leaves others l.1)

-- Join.

each-labels : (f : Tree → Tree) (nodes : List Node) → labels_of (each_tree f nodes) ≡ labels_of nodes
each-labels f [] = refl
each-labels f (node ∷ nodes) = ap (λ l. node.label ∷ l) (each-labels f nodes)

each-numbered : (P : Label → Type 0) (labels others : List Label) (f : Tree → Tree) (nodes : List Node) → ((t : Tree) → LeavesTree (Numbered labels) (Unit {0}) t → LeavesTree (Numbered others) (Unit {0}) (f t)) → AllNumbered labels nodes → AllNumbered others (each_tree f nodes)
each-numbered P labels others f [] h all = tt
each-numbered P labels others f (node ∷ nodes) h all = (h node.tree all.0, each-numbered P labels others f nodes h all.1)

pub join-closed : (graph : Graph) → IsClosed graph → IsClosed (join_graph graph)
join-closed graph closed =
    let labels = labels_of graph.nodes in
    let same = each-labels joined graph.nodes in
    record {
      rising = from-labels (each_tree joined graph.nodes) (subst RisingLabels (sym same) (by-labels graph.nodes closed.rising));
      entry = subst (λ l. Numbered l graph.entry) (sym same) closed.entry;
      jumps = subst (λ l. AllNumbered l (each_tree joined graph.nodes)) (sym same) (each-numbered (Numbered labels) labels labels joined graph.nodes (joined-leaves (Numbered labels)) closed.jumps);
    }

-- Loop.

looped-closed : (graph : Graph) (label : Label) (t : Tree) (kinds : List Added) → IsClosed graph → LeavesTree (Numbered (labels_of graph.nodes)) (Unit {0}) t → IsClosed (looped_graph label t kinds graph)
looped-closed graph label t kinds closed l =
    let same = with-labels label t graph.nodes in
    record {
      rising = from-labels (with_tree label t graph.nodes) (subst RisingLabels (sym same) (by-labels graph.nodes closed.rising));
      entry = subst (λ x. Numbered x graph.entry) (sym same) closed.entry;
      jumps = subst (λ x. AllNumbered x (with_tree label t graph.nodes)) (sym same) (with-numbered (labels_of graph.nodes) label t graph.nodes l closed.jumps);
    }

form-closed : (graph : Graph) (label : Label) (live : Live) (form : Option Form) → IsClosed graph → LiveIs (Numbered (labels_of graph.nodes)) live → IsClosed (close_form label live graph form)
form-closed graph label live (Some form) closed h = looped-closed graph label _ _ closed (live-leaves (Numbered (labels_of graph.nodes)) live h)
form-closed graph label live None closed h = looped-closed graph label _ _ closed (live-leaves (Numbered (labels_of graph.nodes)) live h)

by-closed : (graph : Graph) (label : Label) (targets : Targets) → IsClosed graph → TargetsAre (Numbered (labels_of graph.nodes)) targets → IsClosed (close_by label graph targets)
by-closed graph label NoTarget closed h = looped-closed graph label _ _ closed tt
by-closed graph label (Only live) closed h = form-closed graph label live (form_of label live (tree_in graph.nodes label)) closed h
by-closed graph label Several closed h = closed

pub loop-closed : (graph : Graph) (label : Label) → IsClosed graph → IsClosed (close_graph label graph)
loop-closed graph label closed =
    let labels = labels_of graph.nodes in
    by-closed graph label (other_targets label (tree_in graph.nodes label)) closed (other-are (Numbered labels) label (tree_in graph.nodes label) (tree-numbered labels label graph.nodes closed.jumps))

-- Inline.

above-without : (low label : Label) (nodes : List Node) → AllAbove low nodes → AllAbove low (without label nodes)
above-without low label [] h = tt
above-without low label (node ∷ nodes) h =
    let next = above-without low label nodes h.1 in
    elim (node.label == label) as (λ b. AllAbove low (if b then without label nodes else node ∷ without label nodes)) [ true ↦ next | false ↦ (h.0, next) ]

rises-cons : (node : Node) (nodes : List Node) → AllAbove node.label nodes → Rising nodes → Rising (node ∷ nodes)
rises-cons node [] h r = tt
rises-cons node (next ∷ nodes) h r = (h.0, r)

rising-without : (label : Label) (nodes : List Node) → Rising nodes → Rising (without label nodes)
rising-without label [] r = tt
rising-without label (node ∷ nodes) r =
    let h = rising-above node nodes r in
    let next = rising-without label nodes h.1 in
    elim (node.label == label) as (λ b. Rising (if b then without label nodes else node ∷ without label nodes)) [ true ↦ next | false ↦ rises-cons node (without label nodes) (above-without node.label label nodes h.0) next ]

numbered-without : (label : Label) (nodes : List Node) (to : Label) → Numbered (labels_of nodes) to → to ≢ label → Numbered (labels_of (without label nodes)) to
numbered-without label [] to n d = absurd (let e = n.1 in omega (arith, e))
numbered-without label (node ∷ nodes) to n d =
    let next = λ (k : Numbered (labels_of nodes) to). numbered-without label nodes to k d in
    elim (eqb_tells node.label label) [
      | inl e ↦ subst (λ b. Numbered (labels_of (if b then without label nodes else node ∷ without label nodes)) to) (sym e.0)
          (elim (numbered-cases node.label to (labels_of nodes) n) [ inl f ↦ absurd (d (sym f ∙ e.1)) | inr k ↦ next k ])
      | inr e ↦ subst (λ b. Numbered (labels_of (if b then without label nodes else node ∷ without label nodes)) to) (sym e.0)
          (elim (numbered-cases node.label to (labels_of nodes) n) [ inl f ↦ numbered-here node.label to (labels_of (without label nodes)) f | inr k ↦ numbered-there node.label to (labels_of (without label nodes)) (next k) ])
    ]

all-without : (labels : List Label) (label : Label) (nodes : List Node) → AllNumbered labels nodes → AllNumbered labels (without label nodes)
all-without labels label [] all = tt
all-without labels label (node ∷ nodes) all =
    let next = all-without labels label nodes all.1 in
    elim (node.label == label) as (λ b. AllNumbered labels (if b then without label nodes else node ∷ without label nodes)) [ true ↦ next | false ↦ (all.0, next) ]

not-entry : (graph : Graph) (label : Label) → inlines graph label ≡ true → graph.entry ≢ label
not-entry graph label e is =
    elim (eqb_tells label graph.entry) [
      | inl f ↦ (let q : false ≡ true = sym (ap (λ b. if b then false else (if leaves_to label (tree_in graph.nodes label) == 0 then all_leaves_to label graph.nodes == 1 else false)) f.0) ∙ e in cc)
      | inr f ↦ f.1 (sym is)
    ]

no-self : (graph : Graph) (label : Label) → inlines graph label ≡ true → leaves_to label (tree_in graph.nodes label) ≡ 0
no-self graph label e =
    elim (eqb_tells (leaves_to label (tree_in graph.nodes label)) 0) [
      | inl f ↦ f.1
      | inr f ↦ absurd (elim (label == graph.entry) as (λ b. (if b then false else (if leaves_to label (tree_in graph.nodes label) == 0 then all_leaves_to label graph.nodes == 1 else false)) ≡ true → ⊥) [
        | true ↦ λ x. (let q : false ≡ true = x in cc)
        | false ↦ λ x. (let q : false ≡ true = sym (ap (λ b. if b then all_leaves_to label graph.nodes == 1 else false) f.0) ∙ x in cc)
      ] e)
    ]

pub inline-closed : (graph : Graph) (label : Label) → inlines graph label ≡ true → IsClosed graph → IsClosed (inline_graph label graph)
inline-closed graph label applies closed =
    let labels = labels_of graph.nodes in
    let rest = without label graph.nodes in
    let node = tree_in graph.nodes label in
    let f = inlined label node in
    let same = each-labels f rest in
    let P = Numbered labels in
    let Q = Numbered (labels_of rest) in
    let stays = λ (to : Label) (p : P to) (d : to ≢ label). numbered-without label graph.nodes to p d in
    let own : LeavesTree Q (Unit {0}) node = tree-stays P Q label stays node (tree-numbered labels label graph.nodes closed.jumps) (no-self graph label applies) in
    record {
      rising = from-labels (each_tree f rest) (subst RisingLabels (sym same) (by-labels rest (rising-without label graph.nodes closed.rising)));
      entry = subst (λ l. Numbered l graph.entry) (sym same) (numbered-without label graph.nodes graph.entry closed.entry (not-entry graph label applies));
      jumps = subst (λ l. AllNumbered l (each_tree f rest)) (sym same)
          (each-numbered P labels (labels_of rest) f rest (inlined-leaves P Q label stays node (end-leaves Q node own)) (all-without labels label graph.nodes closed.jumps));
    }

-- The steps of the rules.

label-inj : (a b : Label) → Some a ≡ Some b → a ≡ b
label-inj a b e = cc

pub lowest-is : (applies : Label → Bool) (nodes : List Node) (label : Label) → lowest applies nodes ≡ Some label → applies label ≡ true
lowest-is applies [] label e = absurd (cc)
lowest-is applies (node ∷ nodes) label e =
    let next = λ (k : lowest applies nodes ≡ Some label). lowest-is applies nodes label k in
    elim (applies node.label) as (λ b. applies node.label ≡ b → (if b then Some node.label else lowest applies nodes) ≡ Some label → applies label ≡ true) [
      | true ↦ λ f e. subst (λ l. applies l ≡ true) (label-inj node.label label e) f
      | false ↦ λ f e. next e
    ] refl e

pub lowest-in : (applies : Label → Bool) (nodes : List Node) (label : Label) → lowest applies nodes ≡ Some label → Numbered (labels_of nodes) label
lowest-in applies [] label e = absurd (cc)
lowest-in applies (node ∷ nodes) label e =
    let next = λ (k : lowest applies nodes ≡ Some label). lowest-in applies nodes label k in
    elim (applies node.label) as (λ b. (if b then Some node.label else lowest applies nodes) ≡ Some label → Numbered (node.label ∷ labels_of nodes) label) [
      | true ↦ λ e. numbered-here node.label label (labels_of nodes) (label-inj node.label label e)
      | false ↦ λ e. numbered-there node.label label (labels_of nodes) (next e)
    ] e

rules-stay-closed : Kept IsClosed
rules-stay-closed = record {
  joins = join-closed;
  inlines = λ graph label e closed. inline-closed graph label (lowest-is (inlines graph) graph.nodes label e) closed;
  closes = λ graph label e closed. loop-closed graph label closed;
  exits = λ graph label e closed. exits-closed graph label closed;
  dispatches = λ graph e closed. dispatch-closed graph;
}

pub rule-step-closed : (graph : Graph) → IsClosed graph → IsClosed (stepped graph (rule_step graph))
rule-step-closed = rule-step-kept IsClosed rules-stay-closed

pub shaped-closed : (graph : Graph) → IsClosed graph → IsClosed (shaped graph)
shaped-closed = shaped-kept IsClosed rules-stay-closed

pub any-step-closed : (graph : Graph) → IsClosed graph → IsClosed (stepped graph (any_step graph))
any-step-closed = any-step-kept IsClosed rules-stay-closed

pub all-reduced-closed : (most : ℕ) (graph : Graph) → IsClosed graph → IsClosed (reduced_by_all most graph)
all-reduced-closed = by-all-kept IsClosed rules-stay-closed

-- all rules in their order
pub closed-closed : (graph : Graph) → IsClosed graph → IsClosed (closed_graph graph)
closed-closed = closed-kept IsClosed rules-stay-closed
