-- Graphs that are rewritten, as a tree in them changes or a node goes.
use Rattle.std.proofs.Common.{◌≡◌, ◌≢◌, ◌≤◌, inl, inr, ℕ, zero, suc, ◌+◌, Bool, true, false, cond, if◌then◌else◌, ◌==◌, List, [], ◌∷◌, Option, Some, None, refl, ap, sym, ◌∙◌, subst, arith, nat_cmp}
use Rattle.std.specs.Map.{keys_of, remove_entry}
use Rattle.std.specs.BTreeMap.{BTreeMap, is_at, Updates}
use Rattle.std.specs.BTreeMap as map
use Rattle.std.proofs.lemmas.Bool.Decides.{eqb_tells}
use Rattle.slab.specs.Slab.{Slab, get}
use Rattle.slab.specs.Slab as slab
use Rattle.control_flow_theory.specs.semantics.Doing.{is_above}
use Rattle.control_flow_theory.specs.semantics.Graph.{Label, Tree}
use Rattle.control_flow_theory.specs.graph_rules.Shapes.{leaves_to}
use Rattle.control_flow_theory.specs.graph_rules.Reduced.{Node, Graph, tree_in, has_node, without, with_tree, all_leaves_to}
use Rattle.control_flow_theory.specs.structuring.Dispatches.{Rising, labels_of}
use Rattle.control_flow_theory.proofs.structuring_lemmas.closing.Closes.{rising-above}
use Rattle.control_flow_theory.proofs.graph_rules_lemmas.shapes.Reducing.{with-other, without-in}
use Rattle.branch_tree.specs.Tree.{seen_tree}
use Rattle.graph_rewriting.specs.Rewriting.{IsSound, bare, Fits}
use Rattle.graph_rewriting.specs.Counting.{Stands, Holds, turned, Rewrites}
use Rattle.graph_rewriting.specs.declared.kept.Kept.{Kept}
use Rattle.graph_rewriting.proofs.NodeRows.{has_with, tree_with, rising_with, with_same, leaves_with, leaves_split, none_above, has_without, leaves_without, rising_without, without_none}
use Rattle.graph_rewriting.proofs.CountRows.{holds_as}
use Rattle.graph_rewriting.proofs.WorkRows.{at_label}

-- Numbers above zero.

above_more : (n m : ℕ) → n ≤ m → is_above n ≡ true → is_above m ≡ true
above_more zero m most above = absurd (cc)
above_more (suc n) zero most above = let no : ⊥ = omega (arith, most) in absurd no
above_more (suc n) (suc m) most above = refl

above_either : (a b : ℕ) (has : Bool) → (is_above a ≡ true → has ≡ true) → (is_above b ≡ true → has ≡ true) →
    is_above (a + b) ≡ true → has ≡ true
above_either zero b has one other above = other (above_more (0 + b) b (omega arith) above)
above_either (suc a) b has one other above = one refl

-- the graph with these nodes
abbrev pub with_nodes : List Node → Graph → Graph
with_nodes nodes graph = record { entry = graph.entry; nodes = nodes; added = graph.added }

-- A graph stays sound.

module _ (graph : Graph) (label : Label) (sound : IsSound graph) (has : has_node graph.nodes label ≡ true) where
  pub sound_taken : IsSound (with_nodes (with_tree label bare graph.nodes) graph)
  sound_taken =
      let split = λ (l : Label). leaves_split l label graph.nodes sound.rising has in
      record {
        rising = rising_with label bare graph.nodes sound.rising;
        entry = has_with label graph.entry bare graph.nodes ∙ sound.entry;
        closed = λ l above.
            has_with label l bare graph.nodes
            ∙ sound.closed l (above_more (all_leaves_to l (with_tree label bare graph.nodes)) (all_leaves_to l graph.nodes) (let s = split l in omega (arith, s)) above);
        few = λ l. let s = split l in let f = sound.few l in omega (arith, s, f);
      }

  module _ (is_bare : tree_in graph.nodes label ≡ bare) where
    -- the bare tree that stands there
    bare_stands : with_tree label bare graph.nodes ≡ graph.nodes
    bare_stands = sym (ap (λ t. with_tree label t graph.nodes) is_bare) ∙ with_same label graph.nodes sound.rising

    pub leaves_put : (l : Label) (t : Tree) → all_leaves_to l (with_tree label t graph.nodes) ≡ leaves_to l t + all_leaves_to l graph.nodes
    leaves_put l t =
        leaves_with l label t graph.nodes sound.rising has ∙ ap (λ ns. leaves_to l t + all_leaves_to l ns) bare_stands

    pub sound_put : (t : Tree) → Fits t graph.nodes → IsSound (with_nodes (with_tree label t graph.nodes) graph)
    sound_put t fits = record {
      rising = rising_with label t graph.nodes sound.rising;
      entry = has_with label graph.entry t graph.nodes ∙ sound.entry;
      closed = λ l above.
          has_with label l t graph.nodes
          ∙ above_either (leaves_to l t) (all_leaves_to l graph.nodes) (has_node graph.nodes l) (fits.closed l) (sound.closed l)
          (sym (ap is_above (leaves_put l t)) ∙ above);
      few = λ l. let e = leaves_put l t in let f = fits.few l in omega (arith, e, f);
    }

    pub leaves_gone : (l : Label) → all_leaves_to l (without label graph.nodes) ≡ all_leaves_to l graph.nodes
    leaves_gone l = leaves_without l label graph.nodes ∙ ap (all_leaves_to l) bare_stands

    pub sound_without : label ≢ graph.entry → all_leaves_to label graph.nodes ≡ 0 → IsSound (with_nodes (without label graph.nodes) graph)
    sound_without differ unused = record {
      rising = rising_without label graph.nodes sound.rising;
      entry = has_without label graph.entry graph.nodes (λ e. differ (sym e)) ∙ sound.entry;
      closed = λ l above.
          let leads : is_above (all_leaves_to l graph.nodes) ≡ true = sym (ap is_above (leaves_gone l)) ∙ above in
          has_without label l graph.nodes
          (λ e. let none : is_above 0 ≡ true = sym (ap is_above (ap (λ x. all_leaves_to x graph.nodes) e ∙ unused)) ∙ leads in cc)
          ∙ sound.closed l leads;
      few = λ l. let e = leaves_gone l in let f = sound.few l in omega (arith, e, f);
    }

  -- What a tree that isn't larger may be put for.

  pub fits_less : (t : Tree) → ((l : Label) → leaves_to l t ≤ leaves_to l (tree_in graph.nodes label)) →
      Fits t (with_tree label bare graph.nodes)
  fits_less t less =
      let split = λ (l : Label). leaves_split l label graph.nodes sound.rising has in
      record {
        few = λ l. let s = split l in let f = sound.few l in let h = less l in omega (arith, s, f, h);
        closed = λ l above.
            has_with label l bare graph.nodes
            ∙ sound.closed l (above_more (leaves_to l t) (all_leaves_to l graph.nodes) (let s = split l in let h = less l in omega (arith, s, h)) above);
      }

-- What the keys lead to.

module _ (keys : BTreeMap ℕ ℕ) (old new : Slab Kept) (label : Label) (key : ℕ) (before after : Kept)
    (led : map.get nat_cmp keys label ≡ Some key) (rewrites : Rewrites key before after old new)
    (label_is : after.node.label ≡ before.node.label) (count_is : after.incoming ≡ before.incoming) where
  retreed_here : (trees : Label → Tree) (counts : Label → ℕ) (l : Label) →
      Stands old label key (trees label) (counts label) → Stands old l key (trees l) (counts l) →
      Stands new l key (if label == l then seen_tree after.node.tree else trees l) (counts l)
  retreed_here trees counts l own h =
      let had = rewrites.had in
      let there = h.here in
      let own_there = own.here in
      let same : h.kept ≡ before = cc in
      let own_same : own.kept ≡ before = cc in
      let is : label ≡ l = sym own.label_is ∙ ap (λ k. k.node.label) (own_same ∙ sym same) ∙ h.label_is in
      record {
        kept = after;
        here = rewrites.has;
        label_is = label_is ∙ ap (λ k. k.node.label) (sym same) ∙ h.label_is;
        tree_is = elim (eqb_tells label l) [
          | inl e ↦ sym (ap (λ b. if b then seen_tree after.node.tree else trees l) e.0)
          | inr e ↦ absurd (e.1 is)
        ];
        count_is = count_is ∙ ap (λ k. k.incoming) (sym same) ∙ h.count_is;
      }

  retreed_else : (trees : Label → Tree) (counts : Label → ℕ) (l : Label) (k : ℕ) → k ≢ key →
      map.get nat_cmp keys l ≡ Some k → Stands old l k (trees l) (counts l) →
      Stands new l k (if label == l then seen_tree after.node.tree else trees l) (counts l)
  retreed_else trees counts l k differ lead h = record {
    kept = h.kept;
    here = rewrites.others k differ ∙ h.here;
    label_is = h.label_is;
    tree_is = elim (eqb_tells label l) [
      | inl e ↦ let there = subst (λ x. map.get nat_cmp keys x ≡ Some k) (sym e.1) lead in let same : k ≡ key = cc in absurd (differ same)
      | inr e ↦ h.tree_is ∙ sym (ap (λ b. if b then seen_tree after.node.tree else trees l) e.0)
    ];
    count_is = h.count_is;
  }

  -- one label has another tree
  pub holds_retreed : (trees : Label → Tree) (counts : Label → ℕ) → Holds keys old trees counts →
      Holds keys new (λ l. if label == l then seen_tree after.node.tree else trees l) counts
  holds_retreed trees counts holds l k lead =
      let h = holds l k lead in
      elim (eqb_tells k key) [
        | inl e ↦
            subst (λ x. Stands new l x (if label == l then seen_tree after.node.tree else trees l) (counts l)) (sym e.1)
            (retreed_here trees counts l (holds label key led) (subst (λ x. Stands old l x (trees l) (counts l)) e.1 h))
        | inr e ↦ retreed_else trees counts l k e.1 lead h
      ]

  tree_of_with : (nodes : List Node) (t : Tree) → seen_tree after.node.tree ≡ t → has_node nodes label ≡ true → (l : Label) →
      (if label == l then seen_tree after.node.tree else tree_in nodes l) ≡ tree_in (with_tree label t nodes) l
  tree_of_with nodes t is has l =
      elim (eqb_tells label l) [
        | inl e ↦
            ap (λ b. if b then seen_tree after.node.tree else tree_in nodes l) e.0 ∙ is
            ∙ sym (tree_with label t nodes has) ∙ ap (tree_in (with_tree label t nodes)) e.1
        | inr e ↦
            ap (λ b. if b then seen_tree after.node.tree else tree_in nodes l) e.0
            ∙ sym (with-other label l t (λ s. e.1 (sym s)) nodes)
      ]

  pub holds_with : (nodes : List Node) (t : Tree) (counts : Label → ℕ) → seen_tree after.node.tree ≡ t →
      has_node nodes label ≡ true → Holds keys old (tree_in nodes) counts →
      Holds keys new (tree_in (with_tree label t nodes)) counts
  holds_with nodes t counts is has holds =
      holds_as keys new (λ l. if label == l then seen_tree after.node.tree else tree_in nodes l)
      (tree_in (with_tree label t nodes)) counts counts (λ l k lead. tree_of_with nodes t is has l)
      (λ l k lead. refl) (holds_retreed (tree_in nodes) counts holds)

-- counts with fewer leaves, and with more
pub counts_taken : (keys : BTreeMap ℕ ℕ) (slots : Slab Kept) (trees : Label → Tree) (nodes : List Node) (label : Label) (t : Tree) →
    Rising nodes → has_node nodes label ≡ true → t ≡ tree_in nodes label →
    Holds keys slots trees (λ l. turned false (leaves_to l t) (all_leaves_to l nodes)) →
    Holds keys slots trees (λ l. all_leaves_to l (with_tree label bare nodes))
counts_taken keys slots trees nodes label t rising has is holds =
    holds_as keys slots trees trees (λ l. turned false (leaves_to l t) (all_leaves_to l nodes))
    (λ l. all_leaves_to l (with_tree label bare nodes)) (λ l k led. refl)
    (λ l k led. let s = leaves_split l label nodes rising has in let e = ap (leaves_to l) is in omega (arith, s, e)) holds

pub counts_put : (keys : BTreeMap ℕ ℕ) (slots : Slab Kept) (trees : Label → Tree) (graph : Graph) (label : Label) (t : Tree) →
    (sound : IsSound graph) → (has : has_node graph.nodes label ≡ true) → (is_bare : tree_in graph.nodes label ≡ bare) → Fits t graph.nodes →
    Holds keys slots trees (λ l. turned true (leaves_to l t) (all_leaves_to l graph.nodes)) →
    Holds keys slots trees (λ l. all_leaves_to l (with_tree label t graph.nodes))
counts_put keys slots trees graph label t sound has is_bare fits holds =
    holds_as keys slots trees trees (λ l. turned true (leaves_to l t) (all_leaves_to l graph.nodes))
    (λ l. all_leaves_to l (with_tree label t graph.nodes)) (λ l k led. refl)
    (λ l k led. let e = leaves_put graph label sound has is_bare l t in let f = fits.few l in omega (arith, e, f)) holds

-- Without a node.

removed_step : (z : Bool) (label : Label) (node : Node) (nodes : List Node) (e : ℕ × ℕ) (es : List (ℕ × ℕ)) →
    node.label ≡ e.0 → labels_of nodes ≡ keys_of es →
    labels_of (without label nodes) ≡ keys_of (remove_entry (is_at (nat_cmp label)) es) →
    (z ≡ true → without label nodes ≡ nodes) →
    labels_of (if z then without label nodes else node ∷ without label nodes)
    ≡ keys_of (cond z es (e ∷ remove_entry (is_at (nat_cmp label)) es))
removed_step true label node nodes e es first others next gone = ap labels_of (gone refl) ∙ others
removed_step false label node nodes e es first others next gone =
    ap (λ l. l ∷ labels_of (without label nodes)) first ∙ ap (λ ls. e.0 ∷ ls) next

pub labels_removed : (label : Label) (nodes : List Node) (es : List (ℕ × ℕ)) → Rising nodes → labels_of nodes ≡ keys_of es →
    labels_of (without label nodes) ≡ keys_of (remove_entry (is_at (nat_cmp label)) es)
labels_removed label [] [] rising is = refl
labels_removed label [] (e ∷ es) rising is = absurd (cc)
labels_removed label (node ∷ nodes) [] rising is = absurd (cc)
labels_removed label (node ∷ nodes) (e ∷ es) rising is =
    let up = rising-above node nodes rising in
    let first : node.label ≡ e.0 = cc in
    let others : labels_of nodes ≡ keys_of es = cc in
    let next = labels_removed label nodes es up.1 others in
    removed_step (node.label == label) label node nodes e es first others next
    (λ z. without_none label nodes (elim (eqb_tells node.label label) [
      | inl t ↦ subst (λ l. has_node nodes l ≡ false) t.1 (none_above node.label nodes up.0)
      | inr f ↦ let no = f.0 in absurd (cc)
    ]))
    ∙ ap (λ z. keys_of (cond z es (e ∷ remove_entry (is_at (nat_cmp label)) es))) (ap (λ l. l == label) first ∙ at_label label e.0)

pub gone_step : (z : Bool) (o : Option ℕ) (k : ℕ) → cond z None o ≡ Some k → (z ≡ false) × (o ≡ Some k)
gone_step true o k h = absurd (cc)
gone_step false o k h = (refl, h)

-- the other labels lead to what they led to
pub holds_without : (keys others : BTreeMap ℕ ℕ) (old new : Slab Kept) (label : Label) (key : ℕ) (nodes : List Node) (counts more : Label → ℕ) →
    map.get nat_cmp keys label ≡ Some key → Updates nat_cmp keys others label None → slab.Updates old new key None →
    ((l : Label) → counts l ≡ more l) →
    Holds keys old (tree_in nodes) counts → Holds others new (tree_in (without label nodes)) more
holds_without keys others old new label key nodes counts more led updates gone same holds l k lead =
    let facts = gone_step (is_at (nat_cmp label) l) (map.get nat_cmp keys l) k (sym (updates.0 l) ∙ lead) in
    let h = holds l k facts.1 in
    let own = holds label key led in
    let apart : l ≢ label = λ e. let z : (l == label) ≡ false = at_label label l ∙ facts.0 in
    elim (eqb_tells l label) [ inl t ↦ let yes = t.0 in cc | inr f ↦ f.1 e ] in
    let differ : k ≢ key = λ e.
    let here : get old key ≡ Some h.kept = subst (λ x. get old x ≡ Some h.kept) e h.here in
    let own_here = own.here in
    let alike : h.kept ≡ own.kept = cc in
    apart (sym h.label_is ∙ ap (λ x. x.node.label) alike ∙ own.label_is) in
    record {
      kept = h.kept;
      here = gone.others k differ ∙ h.here;
      label_is = h.label_is;
      tree_is = h.tree_is ∙ sym (without-in label l apart nodes);
      count_is = h.count_is ∙ same l;
    }
