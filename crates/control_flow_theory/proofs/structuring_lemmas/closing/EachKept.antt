-- The rules keep it that every part is so, where what they make anew is.
use Rattle.std.proofs.Common.{◌≡◌, ◌≤◌, ℕ, zero, suc, ◌-◌, Bool, true, false, if◌then◌else◌, ◌==◌, List, [], ◌∷◌, Option, Some, None, refl, ap, sym, subst, arith}
use Rattle.control_flow_theory.specs.language.Language.{Set, Test, Is, Picker, ByCell, Until, Stmt, Do, Choose, Loop, StopRun, Stmts, none, also, Arms, done, given, missing, Nested}
use Rattle.control_flow_theory.specs.language.Each.{EachStmts, EachArm}
use Rattle.control_flow_theory.specs.semantics.Doing.{is_above}
use Rattle.control_flow_theory.specs.semantics.Graph.{Label, Tree, tree, End, Pick, Jump, Return, Stop, Dead, Trees, no_more, more, body_of, end_of}
use Rattle.control_flow_theory.specs.lowering.WellFormed.{tree_count}
use Rattle.control_flow_theory.specs.rendering.Rendering.{count_arms}
use Rattle.control_flow_theory.specs.graph_rules.Loops.{Keeper, Flagged, Endless, turned_test, tested_node}
use Rattle.control_flow_theory.specs.graph_rules.Shapes.{followed, alone, Live, ToLabel, Back, end_at, Targets, NoTarget, Only, Several, arms_targets, last_stmts, arms_stmts, join_by, joined, join_end, joined_arms, inlined, inline_end, inlined_arms, leaves_to, other_targets, leaving, flat, flat_end, flat_arms}
use Rattle.control_flow_theory.specs.graph_rules.Reduced.{Node, Graph, tree_in, count, with_tree, without, each_tree, join_graph, inline_graph, Form, form_of, close_form, close_by, close_graph, size}
use Rattle.control_flow_theory.specs.graph_rules.EachTree.{EachTree, EachEnd, EachTrees, EachNode}
use Rattle.control_flow_theory.specs.structuring.Dispatches.{number_in, tree_returns, stated_end, stated_tree, stated_arms, length_of, set_to, exit_jump, bare, state_jump, node_arms, some_returns, return_if, labels_of}
use Rattle.control_flow_theory.specs.structuring.Targets.{targets_of, with_exits}
use Rattle.control_flow_theory.specs.structuring.Closes.{none_left_out, are_several, has_exits, exits_graph, dispatch_graph, closed_graph}
use Rattle.control_flow_theory.proofs.graph_rules_lemmas.shapes.Reducing.{form-is}
use Rattle.control_flow_theory.proofs.structuring_lemmas.closing.InOrder.{Kept, closed-kept}
use Rattle.control_flow_theory.proofs.structuring_lemmas.closing.RulesStayClosed.{lowest-is}
use Rattle.control_flow_theory.proofs.structuring_lemmas.closing.TwoExits.{two-exits}
use Rattle.control_flow_theory.proofs.main_theorem_lemmas.graphs.ArmCounts.{joined-count, inlined-count}

-- an arm for each of the trees, and each arm is given
abbrev pub AsMany : Trees → Arms → Type 0
AsMany no_more done = Unit {0}
AsMany (more first others) (given arm arms) = AsMany others arms
AsMany trees arms = ⊥

pub as-many-count : (trees : Trees) (arms : Arms) → AsMany trees arms → count_arms arms ≡ tree_count trees
as-many-count no_more done h = refl
as-many-count no_more (given arm arms) h = absurd h
as-many-count no_more (missing arms) h = absurd h
as-many-count (more first others) done h = absurd h
as-many-count (more first others) (given arm arms) h = ap suc (as-many-count others arms h)
as-many-count (more first others) (missing arms) h = absurd h

arms-as-many : (trees : Trees) → AsMany trees (arms_stmts trees)
arms-as-many no_more = tt
arms-as-many (more first others) = arms-as-many others

flat-as-many : (keeper : Keeper) (cell : ℕ) (label : Label) (trees : Trees) → AsMany trees (flat_arms keeper cell label trees)
flat-as-many keeper cell label no_more = tt
flat-as-many keeper cell label (more first others) = flat-as-many keeper cell label others

stated-as-many : (jump : Label → Stmts) (return : Stmts) (picker : Picker) (k : ℕ) (trees : Trees) → AsMany trees (stated_arms none_left_out jump return picker k trees)
stated-as-many jump return picker k no_more = tt
stated-as-many jump return picker k (more first others) = stated-as-many jump return picker (suc k) others

-- the trees of the nodes
abbrev pub trees_of : List Node → Trees
trees_of [] = no_more
trees_of (node ∷ nodes) = more node.tree (trees_of nodes)

nodes-as-many : (state : ℕ) (labels : List Label) (nodes : List Node) → AsMany (trees_of nodes) (node_arms none_left_out state labels nodes)
nodes-as-many state labels [] = tt
nodes-as-many state labels (node ∷ nodes) = nodes-as-many state labels nodes

pub trees-count : (nodes : List Node) → tree_count (trees_of nodes) ≡ size nodes
trees-count [] = refl
trees-count (node ∷ nodes) = ap suc (trees-count nodes)

-- What the rules make anew is so: a stop, a number that a cell takes, a loop, and the choice that a choice becomes whose arms are
-- all given; and a choice is so by how many trees it has.
pub record BearsRules (At : Stmt → Type 0) (AtPick : Picker → Trees → Type 0) : Type 0 where
  pub stops : At StopRun
  pub sets : (cell value : ℕ) → At (Do (Set cell value))
  pub loops : (after : Bool) (test : Test) (body : Stmts) → At (Loop (Until after test) (Nested body))
  pub picks : (picker : Picker) (trees : Trees) (arms : Arms) → AsMany trees arms → AtPick picker trees → At (Choose picker arms)
  pub counts : (picker : Picker) (one other : Trees) → tree_count other ≡ tree_count one → AtPick picker one → AtPick picker other

module _ (At : Stmt → Type 0) (AtPick : Picker → Trees → Type 0) (bears : BearsRules At AtPick) where
  abbrev IsStmts : Stmts → Type 0
  IsStmts stmts = EachStmts At stmts

  abbrev IsTree : Tree → Type 0
  IsTree t = EachTree At AtPick t

  abbrev IsEnd : End → Type 0
  IsEnd end = EachEnd At AtPick end

  abbrev AreTrees : Trees → Type 0
  AreTrees trees = EachTrees At AtPick trees

  abbrev AreNodes : List Node → Type 0
  AreNodes nodes = EachNode At AtPick nodes

  pub followed-each : (a b : Stmts) → IsStmts a → IsStmts b → IsStmts (followed a b)
  followed-each none b h k = k
  followed-each (also s a) b h k = (h.0, followed-each a b h.1 k)

  chosen-each : (body : Stmts) (picker : Picker) (trees : Trees) (arms : Arms) → AsMany trees arms → IsStmts body → AtPick picker trees → EachArm At arms → IsStmts (followed body (alone (Choose picker arms)))
  chosen-each body picker trees arms many h p k = followed-each body (alone (Choose picker arms)) h ((bears.picks picker trees arms many p, k), tt)

  pub body-each : (t : Tree) → IsTree t → IsStmts (body_of t)
  body-each (tree body end) h = h.0

  end-at-each : (live : Live) → IsEnd (end_at live)
  end-at-each (ToLabel to) = tt
  end-at-each Back = tt

  -- Join.

  last-each : (end : End) → IsStmts (last_stmts end)
  last-each (Pick picker trees) = tt
  last-each (Jump to) = tt
  last-each Return = tt
  last-each Stop = (bears.stops, tt)
  last-each Dead = tt

  arms-stmts-each : (trees : Trees) → AreTrees trees → EachArm At (arms_stmts trees)
  arms-stmts-each no_more k = tt
  arms-stmts-each (more (tree body end) others) k = (followed-each body (last_stmts end) k.0.0 (last-each end), arms-stmts-each others k.1)

  join-by-each : (body : Stmts) (picker : Picker) (trees : Trees) (targets : Targets) → IsStmts body → AtPick picker trees → AreTrees trees → IsTree (join_by body picker trees targets)
  join-by-each body picker trees NoTarget h p k = (chosen-each body picker trees (arms_stmts trees) (arms-as-many trees) h p (arms-stmts-each trees k), tt)
  join-by-each body picker trees (Only live) h p k = (chosen-each body picker trees (arms_stmts trees) (arms-as-many trees) h p (arms-stmts-each trees k), end-at-each live)
  join-by-each body picker trees Several h p k = (h, (p, k))

  mutual
    joined-each : (t : Tree) → IsTree t → IsTree (joined t)
    joined-each (tree body end) = λ h. join-end-each body end h.0 h.1

    join-end-each : (body : Stmts) (end : End) → IsStmts body → IsEnd end → IsTree (join_end body end)
    join-end-each body (Pick picker trees) = λ h k.
        join-by-each body picker (joined_arms trees) (arms_targets (joined_arms trees)) h (bears.counts picker trees (joined_arms trees) (joined-count trees) k.0) (joined-arms-each trees k.1)
    join-end-each body (Jump to) = λ h k. (h, k)
    join-end-each body Return = λ h k. (h, k)
    join-end-each body Stop = λ h k. (h, k)
    join-end-each body Dead = λ h k. (h, k)

    joined-arms-each : (trees : Trees) → AreTrees trees → AreTrees (joined_arms trees)
    joined-arms-each no_more = λ k. tt
    joined-arms-each (more first others) = λ k. (joined-each first k.0, joined-arms-each others k.1)

  -- Inline.

  behind-each : (body : Stmts) (node : Tree) → IsStmts body → IsTree node → IsTree (tree (followed body (body_of node)) (end_of node))
  behind-each body (tree nested end) h k = (followed-each body nested h k.0, k.1)

  module _ (label : Label) (node : Tree) (node_each : IsTree node) where
    mutual
      inlined-each : (t : Tree) → IsTree t → IsTree (inlined label node t)
      inlined-each (tree body end) = λ h. inline-end-each body end h.0 h.1

      inline-end-each : (body : Stmts) (end : End) → IsStmts body → IsEnd end → IsTree (inline_end label node body end)
      inline-end-each body (Pick picker trees) = λ h k. (h, (bears.counts picker trees (inlined_arms label node trees) (inlined-count label node trees) k.0, inlined-arms-each trees k.1))
      inline-end-each body (Jump to) = λ h k. elim (to == label) as (λ b. IsTree (if b then tree (followed body (body_of node)) (end_of node) else tree body (Jump to))) [
        | true ↦ behind-each body node h node_each
        | false ↦ (h, tt)
      ]
      inline-end-each body Return = λ h k. (h, k)
      inline-end-each body Stop = λ h k. (h, k)
      inline-end-each body Dead = λ h k. (h, k)

      inlined-arms-each : (trees : Trees) → AreTrees trees → AreTrees (inlined_arms label node trees)
      inlined-arms-each no_more = λ k. tt
      inlined-arms-each (more first others) = λ k. (inlined-each first k.0, inlined-arms-each others k.1)

  -- Loops.

  leaving-each : (keeper : Keeper) (cell : ℕ) → IsStmts (leaving keeper cell)
  leaving-each Flagged cell = (bears.sets cell 1, tt)
  leaving-each Endless cell = tt

  module _ (keeper : Keeper) (cell : ℕ) (label : Label) where
    mutual
      flat-each : (t : Tree) → IsTree t → IsStmts (flat keeper cell label t)
      flat-each (tree body end) = λ h. flat-end-each body end h.0 h.1

      flat-end-each : (body : Stmts) (end : End) → IsStmts body → IsEnd end → IsStmts (followed body (flat_end keeper cell label end))
      flat-end-each body (Pick picker trees) = λ h k. chosen-each body picker trees (flat_arms keeper cell label trees) (flat-as-many keeper cell label trees) h k.0 (flat-arms-each trees k.1)
      flat-end-each body (Jump to) = λ h k. elim (to == label) as (λ b. IsStmts (followed body (if b then none else leaving keeper cell))) [
        | true ↦ followed-each body none h tt
        | false ↦ followed-each body (leaving keeper cell) h (leaving-each keeper cell)
      ]
      flat-end-each body Return = λ h k. followed-each body (leaving keeper cell) h (leaving-each keeper cell)
      flat-end-each body Stop = λ h k. followed-each body (alone StopRun) h (bears.stops, tt)
      flat-end-each body Dead = λ h k. followed-each body none h tt

      flat-arms-each : (trees : Trees) → AreTrees trees → EachArm At (flat_arms keeper cell label trees)
      flat-arms-each no_more = λ k. tt
      flat-arms-each (more first others) = λ k. (flat-each first k.0, flat-arms-each others k.1)

  module _ (jump : Label → Stmts) (return : Stmts) (jumps : (to : Label) → IsStmts (jump to)) (returns : IsStmts return) where
    mutual
      stated-each : (t : Tree) → IsTree t → IsStmts (stated_tree none_left_out jump return t)
      stated-each (tree body end) = λ h. stated-end-each body end h.0 h.1

      stated-end-each : (body : Stmts) (end : End) → IsStmts body → IsEnd end → IsStmts (followed body (stated_end none_left_out jump return end))
      stated-end-each body (Pick picker trees) = λ h k. chosen-each body picker trees (stated_arms none_left_out jump return picker 0 trees) (stated-as-many jump return picker 0 trees) h k.0 (stated-arms-each picker 0 trees k.1)
      stated-end-each body (Jump to) = λ h k. followed-each body (jump to) h (jumps to)
      stated-end-each body Return = λ h k. followed-each body return h returns
      stated-end-each body Stop = λ h k. followed-each body (alone StopRun) h (bears.stops, tt)
      stated-end-each body Dead = λ h k. followed-each body none h tt

      stated-arms-each : (picker : Picker) (k : ℕ) (trees : Trees) → AreTrees trees → EachArm At (stated_arms none_left_out jump return picker k trees)
      stated-arms-each picker k no_more = λ h. tt
      stated-arms-each picker k (more first others) = λ h. (stated-each first h.0, stated-arms-each picker (suc k) others h.1)

  tested-each : (after turned : Bool) (test : Test) (label : Label) (body : Stmts) (live : Live) → IsTree (tested_node after turned test label body (end_at live)) → IsStmts body
  tested-each false false test label body live h = h.1.1.1.0.0
  tested-each false true test label body live h = h.1.1.0.0
  tested-each true false test label body live h = h.0
  tested-each true true test label body live h = h.0

  -- Graphs.

  pub at-each : (nodes : List Node) (label : Label) → AreNodes nodes → IsTree (tree_in nodes label)
  at-each [] label h = (tt, tt)
  at-each (node ∷ nodes) label h = elim (node.label == label) as (λ b. IsTree (if b then node.tree else tree_in nodes label)) [ true ↦ h.0 | false ↦ at-each nodes label h.1 ]

  with-each : (label : Label) (t : Tree) → IsTree t → (nodes : List Node) → AreNodes nodes → AreNodes (with_tree label t nodes)
  with-each label t k [] h = tt
  with-each label t k (node ∷ nodes) h =
      elim (node.label == label) as (λ b. AreNodes (if b then (let first : Node = record { label = node.label; tree = t } in first ∷ with_tree label t nodes) else node ∷ with_tree label t nodes)) [
        | true ↦ (k, with-each label t k nodes h.1)
        | false ↦ (h.0, with-each label t k nodes h.1)
      ]

  trees-each : (f : Tree → Tree) → ((t : Tree) → IsTree t → IsTree (f t)) → (nodes : List Node) → AreNodes nodes → AreNodes (each_tree f nodes)
  trees-each f k [] h = tt
  trees-each f k (node ∷ nodes) h = (k node.tree h.0, trees-each f k nodes h.1)

  without-each : (label : Label) (nodes : List Node) → AreNodes nodes → AreNodes (without label nodes)
  without-each label [] h = tt
  without-each label (node ∷ nodes) h = elim (node.label == label) as (λ b. AreNodes (if b then without label nodes else node ∷ without label nodes)) [
    | true ↦ without-each label nodes h.1
    | false ↦ (h.0, without-each label nodes h.1)
  ]

  pub join-graph-each : (graph : Graph) → AreNodes graph.nodes → AreNodes (join_graph graph).nodes
  join-graph-each graph h = trees-each joined joined-each graph.nodes h

  pub inline-graph-each : (label : Label) (graph : Graph) → AreNodes graph.nodes → AreNodes (inline_graph label graph).nodes
  inline-graph-each label graph h =
      trees-each (inlined label (tree_in graph.nodes label)) (inlined-each label (tree_in graph.nodes label) (at-each graph.nodes label h)) (without label graph.nodes) (without-each label graph.nodes h)

  close-form-each : (label : Label) (live : Live) (graph : Graph) (form : Option Form) → form_of label live (tree_in graph.nodes label) ≡ form → AreNodes graph.nodes → AreNodes (close_form label live graph form).nodes
  close-form-each label live graph (Some form) e h =
      let t = tree_in graph.nodes label in
      let k = tested-each form.after form.turned form.test label form.body live (subst IsTree (form-is label live t form e) (at-each graph.nodes label h)) in
      let test = turned_test form.turned form.test in
      with-each label (tree (alone (Loop (Until form.after test) (Nested form.body))) (end_at live)) (((bears.loops form.after test form.body, k), tt), end-at-each live) graph.nodes h
  close-form-each label live graph None e h =
      let cell = count graph.added in
      let body = flat Flagged cell label (tree_in graph.nodes label) in
      let k = flat-each Flagged cell label (tree_in graph.nodes label) (at-each graph.nodes label h) in
      with-each label (tree (also (Do (Set cell 0)) (also (Loop (Until false (Is cell 1)) (Nested body)) none)) (end_at live))
      ((bears.sets cell 0, ((bears.loops false (Is cell 1) body, k), tt)), end-at-each live) graph.nodes h

  close-by-each : (label : Label) (graph : Graph) (targets : Targets) → AreNodes graph.nodes → AreNodes (close_by label graph targets).nodes
  close-by-each label graph NoTarget h =
      let cell = count graph.added in
      let body = flat Endless cell label (tree_in graph.nodes label) in
      let k = flat-each Endless cell label (tree_in graph.nodes label) (at-each graph.nodes label h) in
      with-each label (tree (also (Loop (Until false (Is cell 1)) (Nested body)) none) Dead) (((bears.loops false (Is cell 1) body, k), tt), tt) graph.nodes h
  close-by-each label graph (Only live) h = close-form-each label live graph (form_of label live (tree_in graph.nodes label)) refl h
  close-by-each label graph Several h = h

  pub close-graph-each : (label : Label) (graph : Graph) → AreNodes graph.nodes → AreNodes (close_graph label graph).nodes
  close-graph-each label graph h = close-by-each label graph (other_targets label (tree_in graph.nodes label)) h

  bare-each : (targets : List Label) (returns : Bool) → AreTrees (bare targets returns)
  bare-each [] false = tt
  bare-each [] true = ((tt, tt), tt)
  bare-each (first ∷ others) returns = ((tt, tt), bare-each others returns)

  exit-jump-each : (exit : ℕ) (label : Label) (targets : List Label) (to : Label) → IsStmts (exit_jump exit label targets to)
  exit-jump-each exit label targets to =
      elim (to == label) as (λ b. IsStmts (if b then none else set_to exit (number_in targets to))) [ true ↦ tt | false ↦ (bears.sets exit (number_in targets to), tt) ]

  -- where the choice among the exits by the new cell is so
  pub exits-each : (label : Label) (graph : Graph) → AtPick (ByCell (count graph.added)) (bare (targets_of label (tree_in graph.nodes label)) (tree_returns (tree_in graph.nodes label))) → AreNodes graph.nodes → AreNodes (exits_graph label graph).nodes
  exits-each label graph p h =
      let exit = count graph.added in
      let t = tree_in graph.nodes label in
      let targets = targets_of label t in
      let last = suc (length_of targets) in
      let turn = stated-each (exit_jump exit label targets) (set_to exit last) (exit-jump-each exit label targets) (bears.sets exit last, tt) t (at-each graph.nodes label h) in
      with-each label (with_exits none_left_out exit label t) ((bears.sets exit 0, ((bears.loops _ _ _, turn), tt)), (p, bare-each targets (tree_returns t))) graph.nodes h

  node-arms-each : (state : ℕ) (labels : List Label) (nodes : List Node) → AreNodes nodes → EachArm At (node_arms none_left_out state labels nodes)
  node-arms-each state labels [] h = tt
  node-arms-each state labels (node ∷ nodes) h = (
    stated-each (state_jump state labels) (set_to state 0) (λ to. (bears.sets state (number_in labels to), tt)) (bears.sets state 0, tt) node.tree h.0,
    node-arms-each state labels nodes h.1,
  )

  return-each : (returns : Bool) → IsEnd (return_if returns)
  return-each true = tt
  return-each false = tt

  -- where the choice among the nodes by the new cell is so
  pub dispatch-each : (graph : Graph) → AtPick (ByCell (count graph.added)) (trees_of graph.nodes) → AreNodes graph.nodes → AreNodes (dispatch_graph graph).nodes
  dispatch-each graph p h =
      let state = count graph.added in
      let labels = labels_of graph.nodes in
      let here = bears.picks (ByCell state) (trees_of graph.nodes) (node_arms none_left_out state labels graph.nodes) (nodes-as-many state labels graph.nodes) p in
      (((bears.sets _ _, ((bears.loops _ _ _, ((here, node-arms-each state labels graph.nodes h), tt)), tt)), return-each (some_returns graph.nodes)), tt)

  -- All rules in their order, where a choice by a cell is so that has two trees or more.
  module _ (cells : (cell : ℕ) (trees : Trees) → 2 ≤ tree_count trees → AtPick (ByCell cell) trees) where
    both-of : (one other : Bool) → (if one then other else false) ≡ true → other ≡ true
    both-of true other is = is
    both-of false other is = cc

    above-one : (n : ℕ) → is_above (n - 1) ≡ true → 2 ≤ n
    above-one zero is = absurd cc
    above-one (suc zero) is = absurd cc
    above-one (suc (suc n)) is = omega arith

    rules-keep : Kept (λ graph. AreNodes graph.nodes)
    rules-keep = record {
      joins = λ graph h. join-graph-each graph h;
      inlines = λ graph label e h. inline-graph-each label graph h;
      closes = λ graph label e h. close-graph-each label graph h;
      exits = λ graph label e h.
          let t = tree_in graph.nodes label in
          let several = both-of (is_above (leaves_to label t)) (are_several (other_targets label t)) (lowest-is (has_exits graph) graph.nodes label e) in
          exits-each label graph (cells (count graph.added) (bare (targets_of label t) (tree_returns t)) (two-exits label t several)) h;
      dispatches = λ graph e h.
          dispatch-each graph (cells (count graph.added) (trees_of graph.nodes) (subst (λ n. 2 ≤ n) (sym (trees-count graph.nodes)) (above-one (size graph.nodes) e))) h;
    }

    pub closed-each : (graph : Graph) → AreNodes graph.nodes → AreNodes (closed_graph graph).nodes
    closed-each = closed-kept (λ graph. AreNodes graph.nodes) rules-keep
