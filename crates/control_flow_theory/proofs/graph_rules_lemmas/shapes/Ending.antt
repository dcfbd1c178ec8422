-- Shaping ends where no rule applies.
use Rattle.std.proofs.Common.{◌≡◌, ◌≢◌, ℕ, zero, suc, ◌+◌, ◌*◌, ◌≤◌, ◌<◌, Bool, true, false, if◌then◌else◌, ◌==◌, List, [], ◌∷◌, Option, Some, None, refl, ap, sym, ◌∙◌, subst, arith, inl, inr}
use Rattle.std.proofs.lemmas.Bool.Decides.{eqb_tells}
use Rattle.control_flow_theory.specs.language.Language.{Until, Loop, Stmts, Nested, Picker}
use Rattle.control_flow_theory.specs.semantics.Doing.{is_above}
use Rattle.control_flow_theory.specs.semantics.Graph.{Label, Tree, tree, End, Pick, Jump, Return, Stop, Dead, Trees, no_more, more, body_of, end_of}
use Rattle.control_flow_theory.specs.graph_rules.Loops.{Flagged, Endless, loop_of, turned_test}
use Rattle.control_flow_theory.specs.graph_rules.Shapes.{followed, alone, Live, ToLabel, end_at, Targets, NoTarget, Only, Several, same_live, both_targets, leaf_targets, arms_targets, join_by, joined, join_end, joined_arms, inlined, inline_end, inlined_arms, leaves_to, end_leaves_to, arms_leaves_to, other_targets, end_targets, other_arms_targets, flat}
use Rattle.control_flow_theory.specs.graph_rules.Families.{Added, Never, Flag}
use Rattle.control_flow_theory.specs.graph_rules.Reduced.{Node, Graph, tree_in, count, each_tree, without, with_tree, join_graph, inline_graph, all_leaves_to, inlines, Form, form_of, looped_graph, close_form, close_by, close_graph, at_most_one, loops, lowest, inline_step, loop_step, rule_step, stepped, reduced, size, shaped}

-- Join makes no jump.

module _ (l : Label) where
  abbrev weight : Targets → ℕ
  weight NoTarget = 0
  weight (Only live) = end_leaves_to l (end_at live)
  weight Several = 0

  both-weight : (one two : Targets) → weight (both_targets one two) ≤ weight one + weight two
  both-weight NoTarget two = omega arith
  both-weight (Only a) NoTarget = omega arith
  both-weight (Only a) (Only b) = elim (same_live a b) as (λ t. weight (if t then Only b else Several) ≤ weight (Only a) + weight (Only b)) [ true ↦ omega arith | false ↦ omega arith ]
  both-weight (Only a) Several = omega arith
  both-weight Several two = omega arith

  leaf-weight : (end : End) → weight (leaf_targets end) ≤ end_leaves_to l end
  leaf-weight (Pick picker arms) = omega arith
  leaf-weight (Jump to) = omega arith
  leaf-weight Return = omega arith
  leaf-weight Stop = omega arith
  leaf-weight Dead = omega arith

  end-leaves : (t : Tree) → leaves_to l t ≡ end_leaves_to l (end_of t)
  end-leaves (tree body end) = refl

  arms-weight : (arms : Trees) → weight (arms_targets arms) ≤ arms_leaves_to l arms
  arms-weight no_more = omega arith
  arms-weight (more first others) =
      let a = both-weight (leaf_targets (end_of first)) (arms_targets others) in let b = leaf-weight (end_of first) in let c = arms-weight others in let d = end-leaves first in omega (arith, a, b, c, d)

  by-leaves : (body : Stmts) (picker : Picker) (arms : Trees) (targets : Targets) → arms_targets arms ≡ targets → leaves_to l (join_by body picker arms targets) ≤ arms_leaves_to l arms
  by-leaves body picker arms NoTarget is = omega arith
  by-leaves body picker arms (Only live) is = let a = arms-weight arms in let b = ap weight is in omega (arith, a, b)
  by-leaves body picker arms Several is = omega arith

  mutual
    leaves-joined : (t : Tree) → leaves_to l (joined t) ≤ leaves_to l t
    leaves-joined (tree body end) = end-joined body end

    end-joined : (body : Stmts) (end : End) → leaves_to l (join_end body end) ≤ end_leaves_to l end
    end-joined body (Pick picker arms) = let a = by-leaves body picker (joined_arms arms) (arms_targets (joined_arms arms)) refl in let b = arms-joined arms in omega (arith, a, b)
    end-joined body (Jump to) = omega arith
    end-joined body Return = omega arith
    end-joined body Stop = omega arith
    end-joined body Dead = omega arith

    arms-joined : (arms : Trees) → arms_leaves_to l (joined_arms arms) ≤ arms_leaves_to l arms
    arms-joined no_more = omega arith
    arms-joined (more first others) = let a = leaves-joined first in let b = arms-joined others in omega (arith, a, b)

-- Inline makes jumps only where the node's tree comes.

module _ (l label : Label) (node : Tree) where
  abbrev K : ℕ
  K = leaves_to l node

  jump-inlined : (body : Stmts) (to : Label) → leaves_to l (inline_end label node body (Jump to)) ≤ end_leaves_to l (Jump to) + end_leaves_to label (Jump to) * K
  jump-inlined body to =
      elim (to == label) as (λ t. (to == label) ≡ t → leaves_to l (if t then tree (followed body (body_of node)) (end_of node) else tree body (Jump to)) ≤ end_leaves_to l (Jump to) + (if t then 1 else 0) * K) [
        | true ↦ λ e. let d = end-leaves l node in omega (arith, d)
        | false ↦ λ e. omega arith
      ] refl

  mutual
    leaves-inlined : (t : Tree) → leaves_to l (inlined label node t) ≤ leaves_to l t + leaves_to label t * K
    leaves-inlined (tree body end) = end-inlined body end

    end-inlined : (body : Stmts) (end : End) → leaves_to l (inline_end label node body end) ≤ end_leaves_to l end + end_leaves_to label end * K
    end-inlined body (Pick picker arms) = arms-inlined arms
    end-inlined body (Jump to) = jump-inlined body to
    end-inlined body Return = omega arith
    end-inlined body Stop = omega arith
    end-inlined body Dead = omega arith

    arms-inlined : (arms : Trees) → arms_leaves_to l (inlined_arms label node arms) ≤ arms_leaves_to l arms + arms_leaves_to label arms * K
    arms-inlined no_more = omega arith
    arms-inlined (more first others) = let a = leaves-inlined first in let b = arms-inlined others in omega (arith, a, b)

-- The nodes that jump to themselves.

abbrev one_if : ℕ → ℕ
one_if zero = 0
one_if (suc n) = 1

abbrev selfs : List Node → ℕ
selfs [] = 0
selfs (node ∷ nodes) = one_if (leaves_to node.label node.tree) + selfs nodes

one-most : (n : ℕ) → one_if n ≤ 1
one-most zero = omega arith
one-most (suc n) = omega arith

one-less : (m n : ℕ) → m ≤ n → one_if m ≤ one_if n
one-less zero n le = omega arith
one-less (suc m) zero le = absurd (omega (arith, le))
one-less (suc m) (suc n) le = omega arith

pub selfs-most : (nodes : List Node) → selfs nodes ≤ size nodes
selfs-most [] = omega arith
selfs-most (node ∷ nodes) = let a = one-most (leaves_to node.label node.tree) in let b = selfs-most nodes in omega (arith, a, b)

pub each-size : (f : Tree → Tree) (nodes : List Node) → size (each_tree f nodes) ≡ size nodes
each-size f [] = refl
each-size f (node ∷ nodes) = ap suc (each-size f nodes)

pub joined-selfs : (nodes : List Node) → selfs (each_tree joined nodes) ≤ selfs nodes
joined-selfs [] = omega arith
joined-selfs (node ∷ nodes) =
    let a = one-less (leaves_to node.label (joined node.tree)) (leaves_to node.label node.tree) (leaves-joined node.label node.tree) in let b = joined-selfs nodes in omega (arith, a, b)

-- a node gets at most as many new jumps to itself as it has jumps to the inlined one
one-inlined : (m n k p : ℕ) → m ≤ n + k * p → one_if m ≤ one_if n + k
one-inlined m n zero p le = let a = one-less m n (omega (arith, le)) in omega (arith, a)
one-inlined m n (suc k) p le = let a = one-most m in omega (arith, a)

inlined-selfs : (label : Label) (node : Tree) (nodes : List Node) → selfs (each_tree (inlined label node) nodes) ≤ selfs nodes + all_leaves_to label nodes
inlined-selfs label node [] = omega arith
inlined-selfs label node (x ∷ nodes) =
    let a = one-inlined (leaves_to x.label (inlined label node x.tree)) (leaves_to x.label x.tree) (leaves_to label x.tree) (leaves_to x.label node) (leaves-inlined x.label label node x.tree) in
    let b = inlined-selfs label node nodes in omega (arith, a, b)

module _ (label : Label) where
  without-size : (nodes : List Node) → size (without label nodes) ≤ size nodes
  without-size [] = omega arith
  without-size (node ∷ nodes) = let a = without-size nodes in elim (node.label == label) as (λ t. size (if t then without label nodes else node ∷ without label nodes) ≤ suc (size nodes)) [ true ↦ omega (arith, a) | false ↦ omega (arith, a) ]

  without-selfs : (nodes : List Node) → selfs (without label nodes) ≤ selfs nodes
  without-selfs [] = omega arith
  without-selfs (node ∷ nodes) = let a = without-selfs nodes in elim (node.label == label) as (λ t. selfs (if t then without label nodes else node ∷ without label nodes) ≤ one_if (leaves_to node.label node.tree) + selfs nodes) [ true ↦ omega (arith, a) | false ↦ omega (arith, a) ]

  without-leaves : (l : Label) (nodes : List Node) → all_leaves_to l (without label nodes) ≤ all_leaves_to l nodes
  without-leaves l [] = omega arith
  without-leaves l (node ∷ nodes) = let a = without-leaves l nodes in elim (node.label == label) as (λ t. all_leaves_to l (if t then without label nodes else node ∷ without label nodes) ≤ leaves_to l node.tree + all_leaves_to l nodes) [ true ↦ omega (arith, a) | false ↦ omega (arith, a) ]

  -- a label that was found has a node
  found-less : (applies : Label → Bool) (nodes : List Node) → lowest applies nodes ≡ Some label → size (without label nodes) < size nodes
  found-less applies [] e = absurd (cc)
  found-less applies (node ∷ nodes) e =
      let a = without-size nodes in
      elim (eqb_tells node.label label) [
        | inl d ↦ subst (λ t. size (if t then without label nodes else node ∷ without label nodes) < suc (size nodes)) (sym d.0) (omega (arith, a))
        | inr d ↦ subst (λ t. size (if t then without label nodes else node ∷ without label nodes) < suc (size nodes)) (sym d.0)
            (let b = found-less applies nodes (elim (applies node.label) as (λ t. (if t then Some node.label else lowest applies nodes) ≡ Some label → lowest applies nodes ≡ Some label) [ true ↦ λ e. absurd (d.1 (inj node.label e)) | false ↦ λ e. e ] e) in omega (arith, b))
      ]
    where
      inj : (a : Label) → Some a ≡ Some label → a ≡ label
      inj a e = cc

  with-size : (t : Tree) (nodes : List Node) → size (with_tree label t nodes) ≡ size nodes
  with-size t [] = refl
  with-size t (node ∷ nodes) = elim (node.label == label) as (λ b. size (if b then record { label = node.label; tree = t } ∷ with_tree label t nodes else node ∷ with_tree label t nodes) ≡ suc (size nodes)) [ true ↦ ap suc (with-size t nodes) | false ↦ ap suc (with-size t nodes) ]

  module _ (t : Tree) (no_jump : leaves_to label t ≡ 0) where
    at-node : (n : Label) → n ≡ label → one_if (leaves_to n t) ≡ 0
    at-node n e = ap (λ x. one_if (leaves_to x t)) e ∙ ap one_if no_jump

    with-selfs : (nodes : List Node) → selfs (with_tree label t nodes) ≤ selfs nodes
    with-selfs [] = omega arith
    with-selfs (node ∷ nodes) =
        let a = with-selfs nodes in
        elim (eqb_tells node.label label) [
          | inl d ↦ subst (λ b. selfs (if b then record { label = node.label; tree = t } ∷ with_tree label t nodes else node ∷ with_tree label t nodes) ≤ one_if (leaves_to node.label node.tree) + selfs nodes) (sym d.0) (let z = at-node node.label d.1 in omega (arith, a, z))
          | inr d ↦ subst (λ b. selfs (if b then record { label = node.label; tree = t } ∷ with_tree label t nodes else node ∷ with_tree label t nodes) ≤ one_if (leaves_to node.label node.tree) + selfs nodes) (sym d.0) (omega (arith, a))
        ]

    some-one : (n : ℕ) → n ≢ 0 → one_if n ≡ 1
    some-one zero h = absurd (h refl)
    some-one (suc n) h = refl

    with-less : (nodes : List Node) → leaves_to label (tree_in nodes label) ≢ 0 → selfs (with_tree label t nodes) < selfs nodes
    with-less [] some = absurd (some refl)
    with-less (node ∷ nodes) some =
        elim (eqb_tells node.label label) [
          | inl d ↦
              let a = with-selfs nodes in
              let z = at-node node.label d.1 in
              let one = ap (λ x. one_if (leaves_to x node.tree)) d.1 ∙ some-one (leaves_to label node.tree) (subst (λ b. leaves_to label (if b then node.tree else tree_in nodes label) ≢ 0) d.0 some) in
              subst (λ b. selfs (if b then record { label = node.label; tree = t } ∷ with_tree label t nodes else node ∷ with_tree label t nodes) < one_if (leaves_to node.label node.tree) + selfs nodes) (sym d.0) (omega (arith, a, z, one))
          | inr d ↦
              let a = with-less nodes (subst (λ b. leaves_to label (if b then node.tree else tree_in nodes label) ≢ 0) d.0 some) in
              subst (λ b. selfs (if b then record { label = node.label; tree = t } ∷ with_tree label t nodes else node ∷ with_tree label t nodes) < one_if (leaves_to node.label node.tree) + selfs nodes) (sym d.0) (omega (arith, a))
        ]

  -- no other target is the label itself
  abbrev Other : Targets → Type 0
  Other NoTarget = Unit {0}
  Other (Only live) = end_leaves_to label (end_at live) ≡ 0
  Other Several = Unit {0}

  both-other : (one two : Targets) → Other one → Other two → Other (both_targets one two)
  both-other NoTarget two h k = k
  both-other (Only a) NoTarget h k = h
  both-other (Only a) (Only b) h k = elim (same_live a b) as (λ t. Other (if t then Only b else Several)) [ true ↦ k | false ↦ tt ]
  both-other (Only a) Several h k = tt
  both-other Several two h k = tt

  jump-other : (to : Label) → Other (end_targets label (Jump to))
  jump-other to = elim (to == label) as (λ t. (to == label) ≡ t → Other (if t then NoTarget else Only (ToLabel to))) [
    | true ↦ λ e. tt
    | false ↦ λ e. subst (λ t. (let n : ℕ = if t then 1 else 0 in n ≡ 0)) (sym e) refl
  ] refl

  mutual
    other-is : (t : Tree) → Other (other_targets label t)
    other-is (tree body end) = end-other end

    end-other : (end : End) → Other (end_targets label end)
    end-other (Pick picker arms) = arms-other arms
    end-other (Jump to) = jump-other to
    end-other Return = refl
    end-other Stop = tt
    end-other Dead = tt

    arms-other : (arms : Trees) → Other (other_arms_targets label arms)
    arms-other no_more = tt
    arms-other (more first others) = both-other (other_targets label first) (other_arms_targets label others) (other-is first) (arms-other others)

-- What falls with each step.
abbrev pub left_to_do : Graph → ℕ
left_to_do graph = 2 * size graph.nodes + selfs graph.nodes

pub looped-less : (label : Label) (t : Tree) (cells : List Added) (graph : Graph) → leaves_to label t ≡ 0 → leaves_to label (tree_in graph.nodes label) ≢ 0 → left_to_do (looped_graph label t cells graph) < left_to_do graph
looped-less label t cells graph clean some = let a = with-size label t graph.nodes in let b = with-less label t clean graph.nodes some in omega (arith, a, b)

close-less : (label : Label) (graph : Graph) → loops graph label ≡ true → left_to_do (close_graph label graph) < left_to_do graph
close-less label graph applies = by-targets (other_targets label (tree_in graph.nodes label)) refl
  where
    some : leaves_to label (tree_in graph.nodes label) ≢ 0
    some zero_is = let q : false ≡ true = sym (ap (λ n. if is_above n then at_most_one (other_targets label (tree_in graph.nodes label)) else false) zero_is) ∙ applies in cc

    above : (n : ℕ) → n ≢ 0 → is_above n ≡ true
    above zero h = absurd (h refl)
    above (suc n) h = refl

    few : at_most_one (other_targets label (tree_in graph.nodes label)) ≡ true
    few = sym (ap (λ t. if t then at_most_one (other_targets label (tree_in graph.nodes label)) else false) (above (leaves_to label (tree_in graph.nodes label)) some)) ∙ applies

    by-form : (live : Live) → end_leaves_to label (end_at live) ≡ 0 → (form : Option Form) → left_to_do (close_form label live graph form) < left_to_do graph
    by-form live clean (Some form) = looped-less label (tree (alone (Loop (Until form.after (turned_test form.turned form.test)) (Nested form.body))) (end_at live)) [] graph clean some
    by-form live clean None = looped-less label (tree (loop_of Flagged (count graph.added) (flat Flagged (count graph.added) label (tree_in graph.nodes label))) (end_at live)) (Flag ∷ []) graph clean some

    by-targets : (targets : Targets) → other_targets label (tree_in graph.nodes label) ≡ targets → left_to_do (close_by label graph targets) < left_to_do graph
    by-targets NoTarget is = looped-less label (tree (loop_of Endless (count graph.added) (flat Endless (count graph.added) label (tree_in graph.nodes label))) Dead) (Never ∷ []) graph refl some
    by-targets (Only live) is = by-form live (subst (Other label) is (other-is label (tree_in graph.nodes label))) (form_of label live (tree_in graph.nodes label))
    by-targets Several is = absurd (let q : false ≡ true = sym (ap at_most_one is) ∙ few in cc)

inline-less : (label : Label) (graph : Graph) → inlines graph label ≡ true → size (without label graph.nodes) < size graph.nodes → left_to_do (join_graph (inline_graph label graph)) < left_to_do graph
inline-less label graph applies fewer =
    let node = tree_in graph.nodes label in
    let rest = without label graph.nodes in
    let news = each_tree (inlined label node) rest in
    let a = each-size joined news in let b = each-size (inlined label node) rest in
    let c = joined-selfs news in let d = inlined-selfs label node rest in let e = without-selfs label graph.nodes in let f = without-leaves label label graph.nodes in
    let g = one-leaf in
    omega (arith, a, b, c, d, e, f, g, fewer)
  where
    one-leaf : all_leaves_to label graph.nodes ≡ 1
    one-leaf =
        elim (eqb_tells (all_leaves_to label graph.nodes) 1) [
          | inl z ↦ z.1
          | inr z ↦ absurd (let q = sym (ap (λ t. if label == graph.entry then false else (if leaves_to label (tree_in graph.nodes label) == 0 then t else false)) z.0) ∙ applies in never (label == graph.entry) (leaves_to label (tree_in graph.nodes label) == 0) q)
        ]
      where
        never : (a b : Bool) → (if a then false else (if b then false else false)) ≡ true → ⊥
        never true b e = cc
        never false true e = cc
        never false false e = cc

found-applies : (applies : Label → Bool) (nodes : List Node) (label : Label) → lowest applies nodes ≡ Some label → applies label ≡ true
found-applies applies [] label e = absurd (cc)
found-applies applies (node ∷ nodes) label e =
    elim (applies node.label) as (λ t. applies node.label ≡ t → (if t then Some node.label else lowest applies nodes) ≡ Some label → applies label ≡ true) [
      | true ↦ λ f e. subst (λ l. applies l ≡ true) (inj node.label e) f
      | false ↦ λ f e. found-applies applies nodes label e
    ] refl e
  where
    inj : (a : Label) → Some a ≡ Some label → a ≡ label
    inj a e = cc

-- a step takes something away, or there is none
abbrev pub Falls : Graph → Option Graph → Type 0
Falls graph None = Unit {0}
Falls graph (Some next) = left_to_do next < left_to_do graph

inline-falls : (graph : Graph) (found : Option Label) → lowest (inlines graph) graph.nodes ≡ found → Falls graph (inline_step graph found)
inline-falls graph None is = tt
inline-falls graph (Some label) is = inline-less label graph (found-applies (inlines graph) graph.nodes label is) (found-less label (inlines graph) graph.nodes is)

loop-falls : (graph : Graph) (found : Option Label) → lowest (loops graph) graph.nodes ≡ found → Falls graph (loop_step graph found)
loop-falls graph None is = inline-falls graph (lowest (inlines graph) graph.nodes) refl
loop-falls graph (Some label) is = close-less label graph (found-applies (loops graph) graph.nodes label is)

pub step-falls : (graph : Graph) → Falls graph (rule_step graph)
step-falls graph = loop-falls graph (lowest (loops graph) graph.nodes) refl

reduced-stays : (most : ℕ) (graph : Graph) → rule_step graph ≡ None → reduced most graph ≡ graph
reduced-stays zero graph is = refl
reduced-stays (suc most) graph is = ap (λ x. reduced most (stepped graph x)) is ∙ reduced-stays most graph is

pub reduced-ends : (most : ℕ) (graph : Graph) → left_to_do graph ≤ most → rule_step (reduced most graph) ≡ None
reduced-ends zero graph le =
    elim (rule_step graph) as (λ found. rule_step graph ≡ found → Falls graph found → rule_step graph ≡ None) [
      | None ↦ λ is falls. is
      | Some next ↦ λ is falls. absurd (omega (arith, falls, le))
    ] refl (step-falls graph)
reduced-ends (suc most) graph le =
    elim (rule_step graph) as (λ found. rule_step graph ≡ found → Falls graph found → rule_step (reduced most (stepped graph found)) ≡ None) [
      | None ↦ λ is falls. ap rule_step (reduced-stays most graph is) ∙ is
      | Some next ↦ λ is falls. reduced-ends most next (omega (arith, falls, le))
    ] refl (step-falls graph)

pub shaped-ends : (graph : Graph) → rule_step (shaped graph) ≡ None
shaped-ends graph =
    reduced-ends (3 * size graph.nodes) (join_graph graph)
    (let a = each-size joined graph.nodes in let b = selfs-most (each_tree joined graph.nodes) in omega (arith, a, b))
