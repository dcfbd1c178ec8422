-- Counts of leaves, as trees come and go.
use Rattle.std.proofs.Common.{List, [], ◌∷◌, length, take, get_or, add-one, ◌≡◌, ◌<◌, ◌≤◌, inl, inr, ℕ, zero, suc, ◌+◌, Bool, true, false, if◌then◌else◌, Some, None, refl, ap, sym, ◌∙◌, subst, arith, nat_cmp}
use Rattle.std.specs.BTreeMap.{BTreeMap}
use Rattle.std.specs.BTreeMap as map
use Rattle.std.proofs.lemmas.Bool.{eq-eqb}
use Rattle.std.proofs.lemmas.Bool.Decides.{eqb_tells}
use Rattle.std.specs.Option.{IsSome}
use Rattle.slab.specs.Slab.{Slab, get, with_value}
use Rattle.slab.proofs.SlabLemmas.{Updates-with_value}
use Rattle.control_flow_theory.specs.semantics.Graph.{Label, Tree}
use Rattle.control_flow_theory.specs.graph_rules.Shapes.{leaves_to, end_leaves_to, arms_leaves_to}
use Rattle.branch_tree.specs.Tree.{seen_tree, seen_trees, seen_end}
use Rattle.branch_tree.specs.declared.tree.Tree as code
use Rattle.branch_tree.specs.declared.tree.End.{End}
use Rattle.branch_tree.proofs.TreeRows.{seen_tree_is}
use Rattle.graph_rewriting.specs.Counting.{Stands, Holds, turned, Counts, once_at, Rewrites}
use Rattle.graph_rewriting.specs.declared.kept.Kept.{Kept}

pub turned_none : (comes : Bool) (n : ℕ) → turned comes 0 n ≡ n
turned_none true n = omega arith
turned_none false n = omega arith

pub turned_both : (comes : Bool) (a b n : ℕ) → turned comes b (turned comes a n) ≡ turned comes (a + b) n
turned_both true a b n = omega arith
turned_both false a b n = omega arith

-- the node with this tree
abbrev pub retreed : Kept → code.Tree → Kept
retreed kept t = record {
  node = record { label = kept.node.label; tree = t };
  incoming = kept.incoming;
  sources = kept.sources;
}

-- a write to a slot that has a node
pub rewrites_value : (slots : Slab Kept) (key : ℕ) (before after : Kept) → get slots key ≡ Some before →
    Rewrites key before after slots (with_value slots key after)
rewrites_value slots key before after had =
    let updates = Updates-with_value slots key after (subst (λ o. IsSome o) (sym had) refl) in
    record { had = had; has = updates.changed; others = updates.others }

-- the leaves of a tree are those of its end
pub leaves_by_end : (l : Label) (t : code.Tree) (end : End) → t.end ≡ end → leaves_to l (seen_tree t) ≡ end_leaves_to l (seen_end end)
leaves_by_end l t end is = ap (leaves_to l) (seen_tree_is t) ∙ ap (λ e. end_leaves_to l (seen_end e)) is

-- the leaves of arms, one after the other
arms_next : (l : Label) (arms : List code.Tree) (i : ℕ) (d : code.Tree) → i < length arms →
    arms_leaves_to l (seen_trees (take i arms)) + leaves_to l (seen_tree (get_or arms i d))
    ≡ arms_leaves_to l (seen_trees (take (suc i) arms))
arms_next l [] i d within = let no : ⊥ = omega (arith, within) in absurd no
arms_next l (arm ∷ arms) zero d within = omega arith
arms_next l (arm ∷ arms) (suc i) d within =
    let less : i < length arms = omega (arith, within) in
    let h = arms_next l arms i d less in
    omega (arith, h)

pub arm_next : (l : Label) (arms : List code.Tree) (i : ℕ) (arm : code.Tree) → i < length arms →
    arm ≡ get_or arms i arm →
    arms_leaves_to l (seen_trees (take i arms)) + leaves_to l (seen_tree arm)
    ≡ arms_leaves_to l (seen_trees (take (i + 1) arms))
arm_next l arms i arm within is =
    ap (λ t. arms_leaves_to l (seen_trees (take i arms)) + leaves_to l (seen_tree t)) is
    ∙ arms_next l arms i arm within
    ∙ ap (λ n. arms_leaves_to l (seen_trees (take n arms))) (sym (add-one i))

pub arms_end : (arms : List code.Tree) (i : ℕ) → length arms ≤ i → take i arms ≡ arms
arms_end [] zero most = refl
arms_end [] (suc i) most = refl
arms_end (arm ∷ arms) zero most = let no : ⊥ = omega (arith, most) in absurd no
arms_end (arm ∷ arms) (suc i) most =
    let less : length arms ≤ i = omega (arith, most) in ap (λ l. arm ∷ l) (arms_end arms i less)

-- the node stands there with another count
pub stands_as : (slots : Slab Kept) (label : Label) (key : ℕ) (t u : Tree) (m n : ℕ) → t ≡ u → m ≡ n →
    Stands slots label key t m → Stands slots label key u n
stands_as slots label key t u m n e f h = record {
  kept = h.kept;
  here = h.here;
  label_is = h.label_is;
  tree_is = h.tree_is ∙ e;
  count_is = h.count_is ∙ f;
}

module _ (keys : BTreeMap ℕ ℕ) where
  -- what is led to is the same at each label that has a node
  pub holds_as : (slots : Slab Kept) (trees others : Label → Tree) (counts more : Label → ℕ) →
      ((l : Label) (k : ℕ) → map.get nat_cmp keys l ≡ Some k → trees l ≡ others l) →
      ((l : Label) (k : ℕ) → map.get nat_cmp keys l ≡ Some k → counts l ≡ more l) →
      Holds keys slots trees counts → Holds keys slots others more
  holds_as slots trees others counts more e f holds l k led =
      stands_as slots l k (trees l) (others l) (counts l) (more l) (e l k led) (f l k led) (holds l k led)

  module _ (comes : Bool) where
    pub counts_none : (slots : Slab Kept) → Counts comes (λ l. 0) keys slots slots
    counts_none slots trees counts holds =
        holds_as slots trees trees counts (λ l. turned comes 0 (counts l)) (λ l k led. refl)
        (λ l k led. sym (turned_none comes (counts l))) holds

    pub counts_as : (f g : Label → ℕ) (old new : Slab Kept) → ((l : Label) → f l ≡ g l) →
        Counts comes f keys old new → Counts comes g keys old new
    counts_as f g old new e h trees counts holds =
        holds_as new trees trees (λ l. turned comes (f l) (counts l)) (λ l. turned comes (g l) (counts l))
        (λ l k led. refl) (λ l k led. ap (λ n. turned comes n (counts l)) (e l)) (h trees counts holds)

    pub counts_both : (f g : Label → ℕ) (old mid new : Slab Kept) →
        Counts comes f keys old mid → Counts comes g keys mid new → Counts comes (λ l. f l + g l) keys old new
    counts_both f g old mid new h i trees counts holds =
        holds_as new trees trees (λ l. turned comes (g l) (turned comes (f l) (counts l)))
        (λ l. turned comes (f l + g l) (counts l)) (λ l k led. refl)
        (λ l k led. turned_both comes (f l) (g l) (counts l))
        (i trees (λ l. turned comes (f l) (counts l)) (h trees counts holds))

    once_other : (label l : Label) → (l ≡ label → ⊥) → once_at label l ≡ 0
    once_other label l differ = elim (eqb_tells label l) [
      | inl e ↦ absurd (differ (sym e.1))
      | inr e ↦ ap (λ z. if z then 1 else 0) e.0
    ]

    once_same : (label l : Label) → l ≡ label → once_at label l ≡ 1
    once_same label l is = ap (λ z. if z then 1 else 0) (eq-eqb label l (sym is))

    stays : (label : Label) (slots : Slab Kept) (trees : Label → Tree) (counts : Label → ℕ) (l : Label) (k : ℕ) →
        (l ≡ label → ⊥) → Stands slots l k (trees l) (counts l) →
        Stands slots l k (trees l) (turned comes (once_at label l) (counts l))
    stays label slots trees counts l k differ h =
        stands_as slots l k (trees l) (trees l) (counts l) (turned comes (once_at label l) (counts l)) refl
        (sym (turned_none comes (counts l)) ∙ ap (λ n. turned comes n (counts l)) (sym (once_other label l differ))) h

    -- a label that has no node is passed over
    pub counts_past : (label : Label) (slots : Slab Kept) → map.get nat_cmp keys label ≡ None →
        Counts comes (once_at label) keys slots slots
    counts_past label slots none trees counts holds l k led =
        stays label slots trees counts l k (λ is. let there = subst (λ x. map.get nat_cmp keys x ≡ Some k) is led in cc) (holds l k led)

    -- no key leads to an empty slot
    pub counts_empty : (label : Label) (key : ℕ) (slots : Slab Kept) → map.get nat_cmp keys label ≡ Some key →
        get slots key ≡ None → Counts comes (once_at label) keys slots slots
    counts_empty label key slots led none trees counts holds =
        let some = (holds label key led).here in let no : ⊥ = cc in absurd no

    module _ (label : Label) (key : ℕ) (old new : Slab Kept) (before after : Kept)
        (led : map.get nat_cmp keys label ≡ Some key) (rewrites : Rewrites key before after old new)
        (node : after.node ≡ before.node) (count : after.incoming ≡ turned comes 1 before.incoming) where
      here : (trees : Label → Tree) (counts : Label → ℕ) (l : Label) →
          Stands old label key (trees label) (counts label) → Stands old l key (trees l) (counts l) →
          Stands new l key (trees l) (turned comes (once_at label l) (counts l))
      here trees counts l own h =
          let had = rewrites.had in
          let there = h.here in
          let own_there = own.here in
          let same : h.kept ≡ before = cc in
          let own_same : own.kept ≡ before = cc in
          let is : l ≡ label = sym h.label_is ∙ ap (λ k. k.node.label) (same ∙ sym own_same) ∙ own.label_is in
          record {
            kept = after;
            here = rewrites.has;
            label_is = ap (λ n. n.label) node ∙ ap (λ k. k.node.label) (sym same) ∙ h.label_is;
            tree_is = ap (λ n. seen_tree n.tree) node ∙ ap (λ k. seen_tree k.node.tree) (sym same) ∙ h.tree_is;
            count_is =
                count ∙ ap (λ k. turned comes 1 k.incoming) (sym same) ∙ ap (turned comes 1) h.count_is
                ∙ ap (λ n. turned comes n (counts l)) (sym (once_same label l is));
          }

      -- one leaf more or less to a label
      pub counts_leaf : Counts comes (once_at label) keys old new
      counts_leaf trees counts holds l k lead =
          let h = holds l k lead in
          elim (eqb_tells k key) [
            | inl e ↦
                subst (λ x. Stands new l x (trees l) (turned comes (once_at label l) (counts l))) (sym e.1)
                (here trees counts l (holds label key led) (subst (λ x. Stands old l x (trees l) (counts l)) e.1 h))
            | inr e ↦
                let stays_there : Stands new l k (trees l) (counts l) = record {
                  kept = h.kept;
                  here = rewrites.others k e.1 ∙ h.here;
                  label_is = h.label_is;
                  tree_is = h.tree_is;
                  count_is = h.count_is;
                } in
                stays label new trees counts l k
                (λ is. let there = subst (λ x. map.get nat_cmp keys x ≡ Some k) is lead in let same : k ≡ key = cc in e.1 same)
                stays_there
          ]
