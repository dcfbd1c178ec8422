-- A closed graph stays closed.
use Rattle.std.proofs.Common.{◌≡◌, ◌≢◌, ℕ, zero, suc, ◌*◌, Bool, true, false, if◌then◌else◌, ◌==◌, List, [], ◌∷◌, Option, Some, None, refl, ap, sym, ◌∙◌, subst, inl, inr}
use Rattle.std.proofs.lemmas.Bool.Decides.{eqb_tells}
use Rattle.control_flow_theory.specs.language.Language.{Until, Loop, Stmts, Picker, Nested}
use Rattle.control_flow_theory.specs.semantics.Graph.{Label, Tree, tree, End, Pick, Jump, Return, Stop, Dead, Trees, no_more, more, body_of, end_of}
use Rattle.control_flow_theory.specs.graph_rules.Joins.{JumpsEnd, JumpsTree, JumpsTrees}
use Rattle.control_flow_theory.specs.graph_rules.Inlines.{PlainEnd, PlainTree, PlainTrees}
use Rattle.control_flow_theory.specs.graph_rules.Loops.{Flagged, Endless, loop_of, turned_test}
use Rattle.control_flow_theory.specs.graph_rules.Families.{Added, Never, Flag}
use Rattle.control_flow_theory.specs.graph_rules.Shapes.{followed, alone, Live, ToLabel, end_at, Targets, NoTarget, Only, Several, same_live, both_targets, leaf_targets, arms_targets, join_by, joined, join_end, joined_arms, inlined, inline_end, inlined_arms, leaves_to, other_targets, end_targets, other_arms_targets, flat}
use Rattle.control_flow_theory.specs.graph_rules.Reduced.{Node, Graph, tree_in, count, each_tree, without, with_tree, join_graph, inline_graph, all_leaves_to, inlines, Form, form_of, looped_graph, close_form, close_by, close_graph, lowest, loops, inline_step, loop_step, rule_step, stepped, reduced, size, shaped, has_node, JumpsAmong, LeadsToNodes}
use Rattle.control_flow_theory.proofs.graph_rules_lemmas.shapes.Shaping.{no-leaves-plain}

module _ (P Q : Label → Type 0) (f : (l : Label) → P l → Q l) where
  mutual
    pub jumps-more : (t : Tree) → JumpsTree P t → JumpsTree Q t
    jumps-more (tree body end) = end-more end

    end-more : (end : End) → JumpsEnd P end → JumpsEnd Q end
    end-more (Pick picker arms) = arms-more arms
    end-more (Jump to) = f to
    end-more Return = λ h. h
    end-more Stop = λ h. h
    end-more Dead = λ h. h

    arms-more : (arms : Trees) → JumpsTrees P arms → JumpsTrees Q arms
    arms-more no_more = λ h. h
    arms-more (more first others) = λ h. (jumps-more first h.0, arms-more others h.1)

  among-more : (nodes : List Node) → JumpsAmong P nodes → JumpsAmong Q nodes
  among-more [] h = tt
  among-more (node ∷ nodes) h = (jumps-more node.tree h.0, among-more nodes h.1)

module _ (P : Label → Type 0) where
  abbrev Targets-in : Targets → Type 0
  Targets-in NoTarget = Unit {0}
  Targets-in (Only live) = JumpsEnd P (end_at live)
  Targets-in Several = Unit {0}

  both-in : (one two : Targets) → Targets-in one → Targets-in two → Targets-in (both_targets one two)
  both-in NoTarget two h k = k
  both-in (Only a) NoTarget h k = h
  both-in (Only a) (Only b) h k = elim (same_live a b) as (λ t. Targets-in (if t then Only b else Several)) [ true ↦ k | false ↦ tt ]
  both-in (Only a) Several h k = tt
  both-in Several two h k = tt

  leaf-in : (end : End) → JumpsEnd P end → Targets-in (leaf_targets end)
  leaf-in (Pick picker arms) h = tt
  leaf-in (Jump to) h = h
  leaf-in Return h = tt
  leaf-in Stop h = tt
  leaf-in Dead h = tt

  end-jumps : (t : Tree) → JumpsTree P t → JumpsEnd P (end_of t)
  end-jumps (tree body end) h = h

  arms-in : (arms : Trees) → JumpsTrees P arms → Targets-in (arms_targets arms)
  arms-in no_more h = tt
  arms-in (more first others) h = both-in (leaf_targets (end_of first)) (arms_targets others) (leaf-in (end_of first) (end-jumps first h.0)) (arms-in others h.1)

  by-jumps : (body : Stmts) (picker : Picker) (arms : Trees) (targets : Targets) → Targets-in targets → JumpsTrees P arms → JumpsTree P (join_by body picker arms targets)
  by-jumps body picker arms NoTarget t h = tt
  by-jumps body picker arms (Only live) t h = t
  by-jumps body picker arms Several t h = h

  mutual
    joined-jumps : (t : Tree) → JumpsTree P t → JumpsTree P (joined t)
    joined-jumps (tree body end) = end-joined body end

    end-joined : (body : Stmts) (end : End) → JumpsEnd P end → JumpsTree P (join_end body end)
    end-joined body (Pick picker arms) = λ h. let a = arms-joined arms h in by-jumps body picker (joined_arms arms) (arms_targets (joined_arms arms)) (arms-in (joined_arms arms) a) a
    end-joined body (Jump to) = λ h. h
    end-joined body Return = λ h. h
    end-joined body Stop = λ h. h
    end-joined body Dead = λ h. h

    arms-joined : (arms : Trees) → JumpsTrees P arms → JumpsTrees P (joined_arms arms)
    arms-joined no_more = λ h. h
    arms-joined (more first others) = λ h. (joined-jumps first h.0, arms-joined others h.1)

  each-joined : (nodes : List Node) → JumpsAmong P nodes → JumpsAmong P (each_tree joined nodes)
  each-joined [] h = tt
  each-joined (node ∷ nodes) h = (joined-jumps node.tree h.0, each-joined nodes h.1)

  -- the tree at a label
  tree-jumps : (nodes : List Node) (label : Label) → JumpsAmong P nodes → JumpsTree P (tree_in nodes label)
  tree-jumps [] label h = tt
  tree-jumps (node ∷ nodes) label h = elim (node.label == label) as (λ t. JumpsTree P (if t then node.tree else tree_in nodes label)) [ true ↦ h.0 | false ↦ tree-jumps nodes label h.1 ]

  with-jumps : (label : Label) (t : Tree) → JumpsTree P t → (nodes : List Node) → JumpsAmong P nodes → JumpsAmong P (with_tree label t nodes)
  with-jumps label t j [] h = tt
  with-jumps label t j (node ∷ nodes) h =
      elim (node.label == label) as (λ b. JumpsAmong P (if b then record { label = node.label; tree = t } ∷ with_tree label t nodes else node ∷ with_tree label t nodes)) [ true ↦ (j, with-jumps label t j nodes h.1) | false ↦ (h.0, with-jumps label t j nodes h.1) ]

  without-jumps : (label : Label) (nodes : List Node) → JumpsAmong P nodes → JumpsAmong P (without label nodes)
  without-jumps label [] h = tt
  without-jumps label (node ∷ nodes) h = elim (node.label == label) as (λ b. JumpsAmong P (if b then without label nodes else node ∷ without label nodes)) [ true ↦ without-jumps label nodes h.1 | false ↦ (h.0, without-jumps label nodes h.1) ]

  module _ (label : Label) where
    jump-in : (to : Label) → P to → Targets-in (end_targets label (Jump to))
    jump-in to h = elim (to == label) as (λ t. Targets-in (if t then NoTarget else Only (ToLabel to))) [ true ↦ tt | false ↦ h ]

    mutual
      other-in : (t : Tree) → JumpsTree P t → Targets-in (other_targets label t)
      other-in (tree body end) = end-in end

      end-in : (end : End) → JumpsEnd P end → Targets-in (end_targets label end)
      end-in (Pick picker arms) = other-arms-in arms
      end-in (Jump to) = jump-in to
      end-in Return = λ h. tt
      end-in Stop = λ h. tt
      end-in Dead = λ h. tt

      other-arms-in : (arms : Trees) → JumpsTrees P arms → Targets-in (other_arms_targets label arms)
      other-arms-in no_more = λ h. tt
      other-arms-in (more first others) = λ h. both-in (other_targets label first) (other_arms_targets label others) (other-in first h.0) (other-arms-in others h.1)

    -- the jumps of a tree into which a node went lead elsewhere
    abbrev Elsewhere : Label → Type 0
    Elsewhere l = P l × (l ≢ label)

    mutual
      plain-jumps : (t : Tree) → PlainTree (λ l. l ≡ label) t → JumpsTree P t → JumpsTree Elsewhere t
      plain-jumps (tree body end) = end-plain end

      end-plain : (end : End) → PlainEnd (λ l. l ≡ label) end → JumpsEnd P end → JumpsEnd Elsewhere end
      end-plain (Pick picker arms) = arms-plain arms
      end-plain (Jump to) = λ p h. (h, p)
      end-plain Return = λ p h. h
      end-plain Stop = λ p h. h
      end-plain Dead = λ p h. h

      arms-plain : (arms : Trees) → PlainTrees (λ l. l ≡ label) arms → JumpsTrees P arms → JumpsTrees Elsewhere arms
      arms-plain no_more = λ p h. h
      arms-plain (more first others) = λ p h. (plain-jumps first p.0 h.0, arms-plain others p.1 h.1)

    module _ (node : Tree) (node_jumps : JumpsTree Elsewhere node) where
      node-end : (t : Tree) → JumpsTree Elsewhere t → JumpsEnd Elsewhere (end_of t)
      node-end (tree body end) h = h

      jump-inlined : (body : Stmts) (to : Label) → P to → JumpsTree Elsewhere (inline_end label node body (Jump to))
      jump-inlined body to h = elim (eqb_tells to label) [
        | inl e ↦ subst (λ b. JumpsTree Elsewhere (if b then tree (followed body (body_of node)) (end_of node) else tree body (Jump to))) (sym e.0) (node-end node node_jumps)
        | inr e ↦ subst (λ b. JumpsTree Elsewhere (if b then tree (followed body (body_of node)) (end_of node) else tree body (Jump to))) (sym e.0) (h, e.1)
      ]

      mutual
        inlined-jumps : (t : Tree) → JumpsTree P t → JumpsTree Elsewhere (inlined label node t)
        inlined-jumps (tree body end) = end-inlined body end

        end-inlined : (body : Stmts) (end : End) → JumpsEnd P end → JumpsTree Elsewhere (inline_end label node body end)
        end-inlined body (Pick picker arms) = arms-inlined arms
        end-inlined body (Jump to) = jump-inlined body to
        end-inlined body Return = λ h. h
        end-inlined body Stop = λ h. h
        end-inlined body Dead = λ h. h

        arms-inlined : (arms : Trees) → JumpsTrees P arms → JumpsTrees Elsewhere (inlined_arms label node arms)
        arms-inlined no_more = λ h. h
        arms-inlined (more first others) = λ h. (inlined-jumps first h.0, arms-inlined others h.1)

      each-inlined : (nodes : List Node) → JumpsAmong P nodes → JumpsAmong Elsewhere (each_tree (inlined label node) nodes)
      each-inlined [] h = tt
      each-inlined (x ∷ nodes) h = (inlined-jumps x.tree h.0, each-inlined nodes h.1)

-- The labels of the nodes.

each-has : (f : Tree → Tree) (nodes : List Node) (l : Label) → has_node (each_tree f nodes) l ≡ has_node nodes l
each-has f [] l = refl
each-has f (node ∷ nodes) l = ap (λ x. if node.label == l then true else x) (each-has f nodes l)

with-has : (label : Label) (t : Tree) (nodes : List Node) (l : Label) → has_node (with_tree label t nodes) l ≡ has_node nodes l
with-has label t [] l = refl
with-has label t (node ∷ nodes) l =
    elim (node.label == label) as (λ b. has_node (if b then record { label = node.label; tree = t } ∷ with_tree label t nodes else node ∷ with_tree label t nodes) l ≡ (if node.label == l then true else has_node nodes l)) [
      | true ↦ ap (λ x. if node.label == l then true else x) (with-has label t nodes l)
      | false ↦ ap (λ x. if node.label == l then true else x) (with-has label t nodes l)
    ]

without-has : (label l : Label) → l ≢ label → (nodes : List Node) → has_node (without label nodes) l ≡ has_node nodes l
without-has label l other [] = refl
without-has label l other (node ∷ nodes) =
    elim (eqb_tells node.label label) [
      | inl e ↦ ap (λ t. has_node (if t then without label nodes else node ∷ without label nodes) l) e.0 ∙ without-has label l other nodes
          ∙ sym (elim (eqb_tells node.label l) [ inl d ↦ absurd (other (sym d.1 ∙ e.1)) | inr d ↦ ap (λ t. if t then true else has_node nodes l) d.0 ])
      | inr e ↦ ap (λ t. has_node (if t then without label nodes else node ∷ without label nodes) l) e.0 ∙ ap (λ x. if node.label == l then true else x) (without-has label l other nodes)
    ]

-- Each step.

join-closed : (graph : Graph) → LeadsToNodes graph → LeadsToNodes (join_graph graph)
join-closed graph c = (
  each-has joined graph.nodes graph.entry ∙ c.0,
  among-more (λ l. has_node graph.nodes l ≡ true) (λ l. has_node (each_tree joined graph.nodes) l ≡ true) (λ l h. each-has joined graph.nodes l ∙ h) (each_tree joined graph.nodes) (each-joined (λ l. has_node graph.nodes l ≡ true) graph.nodes c.1),
)

looped-closed : (label : Label) (t : Tree) (cells : List Added) (graph : Graph) → JumpsTree (λ l. has_node graph.nodes l ≡ true) t → LeadsToNodes graph → LeadsToNodes (looped_graph label t cells graph)
looped-closed label t cells graph j c = (
  with-has label t graph.nodes graph.entry ∙ c.0,
  among-more (λ l. has_node graph.nodes l ≡ true) (λ l. has_node (with_tree label t graph.nodes) l ≡ true) (λ l h. with-has label t graph.nodes l ∙ h) (with_tree label t graph.nodes) (with-jumps (λ l. has_node graph.nodes l ≡ true) label t j graph.nodes c.1),
)

close-closed : (label : Label) (graph : Graph) → LeadsToNodes graph → LeadsToNodes (close_graph label graph)
close-closed label graph c = by (other_targets label (tree_in graph.nodes label)) (other-in P label (tree_in graph.nodes label) (tree-jumps P graph.nodes label c.1))
  where
    P : Label → Type 0
    P l = has_node graph.nodes l ≡ true

    by-form : (live : Live) → JumpsEnd (λ l. has_node graph.nodes l ≡ true) (end_at live) → (form : Option Form) → LeadsToNodes (close_form label live graph form)
    by-form live j (Some form) = looped-closed label (tree (alone (Loop (Until form.after (turned_test form.turned form.test)) (Nested form.body))) (end_at live)) [] graph j c
    by-form live j None = looped-closed label (tree (loop_of Flagged (count graph.added) (flat Flagged (count graph.added) label (tree_in graph.nodes label))) (end_at live)) (Flag ∷ []) graph j c

    by : (targets : Targets) → Targets-in (λ l. has_node graph.nodes l ≡ true) targets → LeadsToNodes (close_by label graph targets)
    by NoTarget j = looped-closed label (tree (loop_of Endless (count graph.added) (flat Endless (count graph.added) label (tree_in graph.nodes label))) Dead) (Never ∷ []) graph tt c
    by (Only live) j = by-form live j (form_of label live (tree_in graph.nodes label))
    by Several j = c

inline-closed : (label : Label) (graph : Graph) → label ≢ graph.entry → leaves_to label (tree_in graph.nodes label) ≡ 0 → LeadsToNodes graph → LeadsToNodes (inline_graph label graph)
inline-closed label graph inside bare c =
    let node = tree_in graph.nodes label in
    let rest = without label graph.nodes in
    let among = λ (l : Label). has_node graph.nodes l ≡ true in
    let j = plain-jumps among label node (no-leaves-plain label (λ l. l ≡ label) (λ l e. e) node bare) (tree-jumps among graph.nodes label c.1) in (
      each-has (inlined label node) rest graph.entry ∙ without-has label graph.entry (λ e. inside (sym e)) graph.nodes ∙ c.0,
      among-more (Elsewhere among label) (λ l. has_node (each_tree (inlined label node) rest) l ≡ true) (λ l h. each-has (inlined label node) rest l ∙ without-has label l h.1 graph.nodes ∙ h.0) (each_tree (inlined label node) rest)
          (each-inlined among label node j rest (without-jumps among label graph.nodes c.1)),
    )

inline-facts : (graph : Graph) (label : Label) → inlines graph label ≡ true → (label ≢ graph.entry) × (leaves_to label (tree_in graph.nodes label) ≡ 0)
inline-facts graph label e =
    elim (eqb_tells label graph.entry) [
      | inl d ↦ absurd (let q = sym (ap (λ t. if t then false else (if leaves_to label (tree_in graph.nodes label) == 0 then all_leaves_to label graph.nodes == 1 else false)) d.0) ∙ e in cc)
      | inr d ↦ (
        d.1,
        elim (eqb_tells (leaves_to label (tree_in graph.nodes label)) 0) [
          | inl z ↦ z.1
          | inr z ↦ absurd (let q = sym (ap (λ t. if t then false else (if leaves_to label (tree_in graph.nodes label) == 0 then all_leaves_to label graph.nodes == 1 else false)) d.0 ∙ ap (λ t. if t then all_leaves_to label graph.nodes == 1 else false) z.0) ∙ e in cc)
        ],
      )
    ]

found-applies : (applies : Label → Bool) (nodes : List Node) (label : Label) → lowest applies nodes ≡ Some label → applies label ≡ true
found-applies applies [] label e = absurd (cc)
found-applies applies (node ∷ nodes) label e =
    elim (applies node.label) as (λ t. applies node.label ≡ t → (if t then Some node.label else lowest applies nodes) ≡ Some label → applies label ≡ true) [
      | true ↦ λ f e. subst (λ l. applies l ≡ true) (inj node.label e) f
      | false ↦ λ f e. found-applies applies nodes label e
    ] refl e
  where
    inj : (a : Label) → Some a ≡ Some label → a ≡ label
    inj a e = cc

by-inline : (graph : Graph) → LeadsToNodes graph → (found : Option Label) → lowest (inlines graph) graph.nodes ≡ found → LeadsToNodes (stepped graph (inline_step graph found))
by-inline graph c None is = c
by-inline graph c (Some label) is = let f = inline-facts graph label (found-applies (inlines graph) graph.nodes label is) in join-closed (inline_graph label graph) (inline-closed label graph f.0 f.1 c)

by-loop : (graph : Graph) → LeadsToNodes graph → (found : Option Label) → LeadsToNodes (stepped graph (loop_step graph found))
by-loop graph c None = by-inline graph c (lowest (inlines graph) graph.nodes) refl
by-loop graph c (Some label) = close-closed label graph c

reduced-closed : (most : ℕ) (graph : Graph) → LeadsToNodes graph → LeadsToNodes (reduced most graph)
reduced-closed zero graph c = c
reduced-closed (suc most) graph c = reduced-closed most (stepped graph (rule_step graph)) (by-loop graph c (lowest (loops graph) graph.nodes))

pub shaped-closed : (graph : Graph) → LeadsToNodes graph → LeadsToNodes (shaped graph)
shaped-closed graph c = reduced-closed (3 * size graph.nodes) (join_graph graph) (join-closed graph c)
