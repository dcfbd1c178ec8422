-- What is left of a shaped graph with one node: a body, and an end that is no jump and no choice.
use Rattle.std.proofs.Common.{◌≡◌, ℕ, zero, suc, ◌*◌, true, false, if◌then◌else◌, ◌==◌, List, [], ◌∷◌, Option, Some, None, refl, ap, sym, ◌∙◌, subst, inl, inr, arith}
use Rattle.std.proofs.lemmas.Bool.Decides.{eqb_tells}
use Rattle.control_flow_theory.specs.language.Language.{Until, Loop, Stmts, none, Picker, Nested}
use Rattle.control_flow_theory.specs.semantics.Doing.{is_above}
use Rattle.control_flow_theory.specs.semantics.Graph.{Label, Tree, tree, End, Pick, Jump, Return, Stop, Dead, Trees, no_more, more, end_of, IsLast}
use Rattle.control_flow_theory.specs.graph_rules.Joins.{JumpsEnd, JumpsTree, JumpsTrees}
use Rattle.control_flow_theory.specs.graph_rules.Loops.{Flagged, Endless, loop_of, turned_test}
use Rattle.control_flow_theory.specs.graph_rules.Shapes.{alone, Live, ToLabel, Back, end_at, Targets, NoTarget, Only, Several, both_targets, leaf_targets, arms_targets, join_by, joined, join_end, joined_arms, leaves_to, end_leaves_to, arms_leaves_to, other_targets, end_targets, other_arms_targets, flat}
use Rattle.control_flow_theory.specs.graph_rules.Reduced.{Node, Graph, tree_in, count, each_tree, with_tree, join_graph, inline_graph, inlines, Form, form_of, close_form, close_by, close_graph, at_most_one, lowest, loops, inline_step, loop_step, rule_step, stepped, reduced, size, shaped, has_node, JumpsAmong, LeadsToNodes}
use Rattle.control_flow_theory.proofs.semantics_lemmas.Ranges.{eq-self}
use Rattle.control_flow_theory.proofs.graph_rules_lemmas.shapes.Shaping.{Within}
use Rattle.control_flow_theory.proofs.graph_rules_lemmas.shapes.Ending.{shaped-ends}
use Rattle.control_flow_theory.proofs.graph_rules_lemmas.shapes.Closed.{jumps-more, shaped-closed}

-- All live leaves of a tree return.

abbrev mutual
  Returns : Tree → Type 0
  Returns (tree body end) = ReturnsEnd end

  ReturnsEnd : End → Type 0
  ReturnsEnd (Pick picker arms) = ReturnsArms arms
  ReturnsEnd (Jump to) = ⊥
  ReturnsEnd Return = Unit {0}
  ReturnsEnd Stop = Unit {0}
  ReturnsEnd Dead = Unit {0}

  ReturnsArms : Trees → Type 0
  ReturnsArms no_more = Unit {0}
  ReturnsArms (more first others) = Returns first × ReturnsArms others

-- where all live leaves return, the end is a leaf
abbrev Tidy : Tree → Type 0
Tidy t = Returns t → IsLast (end_of t)

last-within : (end : End) → IsLast end → Within Back (leaf_targets end)
last-within (Pick picker arms) h = h
last-within (Jump to) h = absurd h
last-within Return h = refl
last-within Stop h = tt
last-within Dead h = tt

within-both : (one two : Targets) → Within Back one → Within Back two → Within Back (both_targets one two)
within-both NoTarget two h k = k
within-both (Only a) NoTarget h k = h
within-both (Only a) (Only b) h k = subst (λ x. Within Back (both_targets (Only x) (Only b))) (sym h) (subst (λ x. Within Back (both_targets (Only Back) (Only x))) (sym k) refl)
within-both (Only a) Several h k = k
within-both Several two h k = h

abbrev AllTidy : Trees → Type 0
AllTidy no_more = Unit {0}
AllTidy (more first others) = Tidy first × AllTidy others

arms-within : (arms : Trees) → AllTidy arms → ReturnsArms arms → Within Back (arms_targets arms)
arms-within no_more t r = tt
arms-within (more first others) t r = within-both (leaf_targets (end_of first)) (arms_targets others) (last-within (end_of first) (t.0 r.0)) (arms-within others t.1 r.1)

by-tidy : (body : Stmts) (picker : Picker) (arms : Trees) (targets : Targets) → arms_targets arms ≡ targets → AllTidy arms → Tidy (join_by body picker arms targets)
by-tidy body picker arms NoTarget is t = λ r. tt
by-tidy body picker arms (Only live) is t = leaf live
  where
    leaf : (live : Live) → ReturnsEnd (end_at live) → IsLast (end_at live)
    leaf (ToLabel to) r = r
    leaf Back r = tt
by-tidy body picker arms Several is t = λ r. subst (Within Back) is (arms-within arms t r)

mutual
  joined-tidy : (t : Tree) → Tidy (joined t)
  joined-tidy (tree body end) = end-tidy body end

  end-tidy : (body : Stmts) (end : End) → Tidy (join_end body end)
  end-tidy body (Pick picker arms) = by-tidy body picker (joined_arms arms) (arms_targets (joined_arms arms)) refl (arms-tidy arms)
  end-tidy body (Jump to) = λ r. r
  end-tidy body Return = λ r. r
  end-tidy body Stop = λ r. r
  end-tidy body Dead = λ r. r

  arms-tidy : (arms : Trees) → AllTidy (joined_arms arms)
  arms-tidy no_more = tt
  arms-tidy (more first others) = (joined-tidy first, arms-tidy others)

-- Every tree of a graph that is being shaped is tidy.

abbrev TidyNodes : List Node → Type 0
TidyNodes [] = Unit {0}
TidyNodes (node ∷ nodes) = Tidy node.tree × TidyNodes nodes

each-tidy : (nodes : List Node) → TidyNodes (each_tree joined nodes)
each-tidy [] = tt
each-tidy (node ∷ nodes) = (joined-tidy node.tree, each-tidy nodes)

with-tidy : (label : Label) (t : Tree) → Tidy t → (nodes : List Node) → TidyNodes nodes → TidyNodes (with_tree label t nodes)
with-tidy label t h [] k = tt
with-tidy label t h (node ∷ nodes) k =
    elim (node.label == label) as (λ b. TidyNodes (if b then record { label = node.label; tree = t } ∷ with_tree label t nodes else node ∷ with_tree label t nodes)) [ true ↦ (h, with-tidy label t h nodes k.1) | false ↦ (k.0, with-tidy label t h nodes k.1) ]

leaf-tidy : (stmts : Stmts) (live : Live) → Tidy (tree stmts (end_at live))
leaf-tidy stmts (ToLabel to) = λ r. r
leaf-tidy stmts Back = λ r. r

close-tidy : (label : Label) (graph : Graph) → TidyNodes graph.nodes → TidyNodes (close_graph label graph).nodes
close-tidy label graph h = by (other_targets label (tree_in graph.nodes label))
  where
    by-form : (live : Live) (form : Option Form) → TidyNodes (close_form label live graph form).nodes
    by-form live (Some form) = let stmts = alone (Loop (Until form.after (turned_test form.turned form.test)) (Nested form.body)) in with-tidy label (tree stmts (end_at live)) (leaf-tidy stmts live) graph.nodes h
    by-form live None = let stmts = loop_of Flagged (count graph.added) (flat Flagged (count graph.added) label (tree_in graph.nodes label)) in with-tidy label (tree stmts (end_at live)) (leaf-tidy stmts live) graph.nodes h

    by : (targets : Targets) → TidyNodes (close_by label graph targets).nodes
    by NoTarget = let stmts = loop_of Endless (count graph.added) (flat Endless (count graph.added) label (tree_in graph.nodes label)) in with-tidy label (tree stmts Dead) (λ r. r) graph.nodes h
    by (Only live) = by-form live (form_of label live (tree_in graph.nodes label))
    by Several = h

inline-tidy : (graph : Graph) → TidyNodes graph.nodes → (found : Option Label) → TidyNodes (stepped graph (inline_step graph found)).nodes
inline-tidy graph h None = h
inline-tidy graph h (Some label) = each-tidy (inline_graph label graph).nodes

loop-tidy : (graph : Graph) → TidyNodes graph.nodes → (found : Option Label) → TidyNodes (stepped graph (loop_step graph found)).nodes
loop-tidy graph h None = inline-tidy graph h (lowest (inlines graph) graph.nodes)
loop-tidy graph h (Some label) = close-tidy label graph h

reduced-tidy : (most : ℕ) (graph : Graph) → TidyNodes graph.nodes → TidyNodes (reduced most graph).nodes
reduced-tidy zero graph h = h
reduced-tidy (suc most) graph h = reduced-tidy most (stepped graph (rule_step graph)) (loop-tidy graph h (lowest (loops graph) graph.nodes))

shaped-tidy : (graph : Graph) → TidyNodes (shaped graph).nodes
shaped-tidy graph = reduced-tidy (3 * size graph.nodes) (join_graph graph) (each-tidy graph.nodes)

-- A single node.

module _ (label : Label) where
  abbrev Here : Label → Type 0
  Here l = l ≡ label

  jump-within : (to : Label) → Here to → Within Back (end_targets label (Jump to))
  jump-within to e = elim (eqb_tells to label) [
    | inl d ↦ subst (λ t. Within Back (if t then NoTarget else Only (ToLabel to))) (sym d.0) tt
    | inr d ↦ absurd (d.1 e)
  ]

  mutual
    others-within : (t : Tree) → JumpsTree Here t → Within Back (other_targets label t)
    others-within (tree body end) = end-within end

    end-within : (end : End) → JumpsEnd Here end → Within Back (end_targets label end)
    end-within (Pick picker arms) = all-within arms
    end-within (Jump to) = jump-within to
    end-within Return = λ h. refl
    end-within Stop = λ h. tt
    end-within Dead = λ h. tt

    all-within : (arms : Trees) → JumpsTrees Here arms → Within Back (other_arms_targets label arms)
    all-within no_more = λ h. tt
    all-within (more first others) = λ h. within-both (other_targets label first) (other_arms_targets label others) (others-within first h.0) (all-within others h.1)

  no-jump : (to : Label) → Here to → end_leaves_to label (Jump to) ≡ 0 → ⊥
  no-jump to e z = elim (eqb_tells to label) [
    | inl d ↦ let one : ℕ = 1 in let f : end_leaves_to label (Jump to) ≡ one = ap (λ t. if t then one else 0) d.0 in omega (arith, z, f)
    | inr d ↦ d.1 e
  ]

  mutual
    all-return : (t : Tree) → JumpsTree Here t → leaves_to label t ≡ 0 → Returns t
    all-return (tree body end) = end-return end

    end-return : (end : End) → JumpsEnd Here end → end_leaves_to label end ≡ 0 → ReturnsEnd end
    end-return (Pick picker arms) = arms-return arms
    end-return (Jump to) = no-jump to
    end-return Return = λ h z. tt
    end-return Stop = λ h z. tt
    end-return Dead = λ h z. tt

    arms-return : (arms : Trees) → JumpsTrees Here arms → arms_leaves_to label arms ≡ 0 → ReturnsArms arms
    arms-return no_more = λ h z. tt
    arms-return (more first others) = λ h z. (all-return first h.0 (omega (arith, z)), arms-return others h.1 (omega (arith, z)))

within-few : (targets : Targets) → Within Back targets → at_most_one targets ≡ true
within-few NoTarget h = refl
within-few (Only live) h = refl
within-few Several h = absurd h

-- a found label gives a step
step-found : (graph : Graph) (found : Option Label) → loop_step graph found ≡ None → found ≡ None
step-found graph None e = refl
step-found graph (Some label) e = absurd (cc)

single-loops : (graph : Graph) (node : Node) → graph.nodes ≡ node ∷ [] → rule_step graph ≡ None → loops graph node.label ≡ false
single-loops graph node is ends =
    let e : lowest (loops graph) (node ∷ []) ≡ None = ap (lowest (loops graph)) (sym is) ∙ step-found graph (lowest (loops graph) graph.nodes) ends in
    elim (loops graph node.label) as (λ t. (if t then Some node.label else None) ≡ None → t ≡ false) [ true ↦ λ e. absurd (cc) | false ↦ λ e. refl ] e

pub single-last : (graph : Graph) (node : Node) → LeadsToNodes graph → (shaped graph).nodes ≡ node ∷ [] → IsLast (end_of node.tree)
single-last graph node closed is =
    let g = shaped graph in
    let c = shaped-closed graph closed in
    let among = subst (λ ns. JumpsAmong (λ l. has_node ns l ≡ true) ns) is c.1 in
    let here : JumpsTree (λ l. l ≡ node.label) node.tree = jumps-more (λ l. has_node (node ∷ []) l ≡ true) (λ l. l ≡ node.label) (λ l h. only l h) node.tree among.0 in
    let tidy = subst TidyNodes is (shaped-tidy graph) in
    let at_label : tree_in g.nodes node.label ≡ node.tree = ap (λ ns. tree_in ns node.label) is ∙ ap (λ t. if t then node.tree else tree none Dead) (eq-self node.label) in
    let stuck : (if is_above (leaves_to node.label node.tree) then at_most_one (other_targets node.label node.tree) else false) ≡ false =
    ap (λ t. if is_above (leaves_to node.label t) then at_most_one (other_targets node.label t) else false) (sym at_label) ∙ single-loops g node is (shaped-ends graph) in
    let few = within-few (other_targets node.label node.tree) (others-within node.label node.tree here) in
    tidy.0 (all-return node.label node.tree here (zero-of (leaves_to node.label node.tree) (ap (λ t. if is_above (leaves_to node.label node.tree) then t else false) (sym few) ∙ stuck)))
  where
    only : (l : Label) → has_node (node ∷ []) l ≡ true → l ≡ node.label
    only l h = elim (eqb_tells node.label l) [ inl d ↦ sym d.1 | inr d ↦ absurd (let q = sym (ap (λ t. if t then true else false) d.0) ∙ h in cc) ]

    zero-of : (n : ℕ) → (if is_above n then true else false) ≡ false → n ≡ 0
    zero-of zero e = refl
    zero-of (suc n) e = absurd (cc)
