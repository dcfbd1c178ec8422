-- What is stored after a change is the changed graph.
use Rattle.std.proofs.Common.{◌≡◌, ◌≢◌, ℕ, true, false, List, Some, None, refl, ap, sym, ◌∙◌, subst, nat_cmp}
use Rattle.std.specs.Map.{keys_of, remove_entry}
use Rattle.std.specs.BTreeMap.{BTreeMap, IsOrdered, is_at, Updates}
use Rattle.std.specs.BTreeMap as map
use Rattle.slab.specs.Slab.{Slab, get}
use Rattle.slab.specs.Slab as slab
use Rattle.control_flow_theory.specs.semantics.Graph.{Label, Tree}
use Rattle.control_flow_theory.specs.graph_rules.Shapes.{leaves_to}
use Rattle.control_flow_theory.specs.graph_rules.Reduced.{Node, Graph, tree_in, has_node, without, with_tree, all_leaves_to}
use Rattle.control_flow_theory.specs.structuring.Dispatches.{labels_of}
use Rattle.control_flow_theory.proofs.structuring_lemmas.closing.StayClosed.{with-labels}
use Rattle.branch_tree.specs.Tree.{seen_tree}
use Rattle.graph_rewriting.specs.Helds.{Held, seen_work}
use Rattle.graph_rewriting.specs.Rewriting.{IsSound, bare, Fits, WithNodes}
use Rattle.graph_rewriting.specs.Counting.{Holds, turned, Counts, TakesOut, PutsIn}
use Rattle.control_flow_theory.specs.structuring.Closes.{IsClosed}
use Rattle.graph_rewriting.specs.Filling.{Filled, NoneFull}
use Rattle.graph_rewriting.proofs.FillRows.{sound_filled, exact}
use Rattle.graph_rewriting.specs.Work.{held_of, IsWhole}
use Rattle.graph_rewriting.specs.declared.kept.Kept.{Kept}
use Rattle.branch_tree.specs.declared.tree.Tree as code
use Rattle.graph_rewriting.specs.declared.work.Work.TheInside.{Inside}
use Rattle.graph_rewriting.proofs.WorkRows.{nodes_in, nodes_are, labels_in, some_key, its_tree, whole_again}
use Rattle.graph_rewriting.proofs.ChangeRows.{with_nodes, sound_taken, sound_put, sound_without, leaves_gone, holds_with, counts_taken, counts_put, labels_removed, holds_without}

-- it is whole, and has these nodes
pub record Stored (work : Inside) (nodes : List Node) : Type 0 where
  pub whole : IsWhole work
  pub are : nodes_in work ≡ nodes

pub stored : (work : Inside) (graph : Graph) → IsOrdered nat_cmp work.keys →
    labels_of graph.nodes ≡ keys_of work.keys.entries → graph.entry ≡ work.entry → IsSound graph →
    Holds work.keys work.slots (tree_in graph.nodes) (λ l. all_leaves_to l graph.nodes) → Stored work graph.nodes
stored work graph ordered labels entry sound holds = record {
  whole = whole_again work graph ordered labels entry sound holds;
  are = nodes_are work.keys work.slots graph.nodes (λ l. all_leaves_to l graph.nodes) ordered holds sound.rising labels;
}

-- the work with these slots, and with these keys too
abbrev pub with_keys : Inside → BTreeMap ℕ ℕ → Slab Kept → Inside
with_keys work keys slots = record { slots = slots; keys = keys; entry = work.entry; added = work.added }

abbrev pub with_slots : Inside → Slab Kept → Inside
with_slots work slots = record { slots = slots; keys = work.keys; entry = work.entry; added = work.added }

module _ (work : Inside) (whole : IsWhole work) (label : Label) (key : ℕ)
    (led : map.get nat_cmp work.keys label ≡ Some key) where
  abbrev nodes : List Node
  nodes = nodes_in work

  abbrev graph : Graph
  graph = seen_work (held_of work)

  has : has_node nodes label ≡ true
  has = some_key work whole label key led

  labels_with : (t : Tree) → labels_of (with_tree label t nodes) ≡ keys_of work.keys.entries
  labels_with t = with-labels label t nodes ∙ labels_in work whole

  pub had_tree : (t : code.Tree) (mid : Slab Kept) → TakesOut (Some t) key work.slots mid →
      seen_tree t ≡ tree_in nodes label
  had_tree t mid out =
      ap seen_tree out.4 ∙ its_tree work whole label key out.0 led out.2.had

  pub taken_stored : (t : code.Tree) (mid new : Slab Kept) → TakesOut (Some t) key work.slots mid →
      Counts false (λ l. leaves_to l (seen_tree t)) work.keys mid new →
      Stored (with_slots work new) (with_tree label bare nodes)
  taken_stored t mid new out counts =
      let now = with_tree label bare nodes in
      let before : Holds work.keys mid (tree_in now) (λ l. all_leaves_to l nodes) =
      holds_with work.keys work.slots mid label key out.0 out.1 led out.2 out.3.0 out.3.1 nodes bare
      (λ l. all_leaves_to l nodes) out.5 has whole.holds in
      stored (with_slots work new) (with_nodes now graph) whole.ordered (labels_with bare) refl
      (sound_taken graph label whole.sound has)
      (counts_taken work.keys new (tree_in now) nodes label (seen_tree t) whole.sound.rising has (had_tree t mid out)
      (counts (tree_in now) (λ l. all_leaves_to l nodes) before))

  module _ (is_bare : tree_in nodes label ≡ bare) where
    pub put_stored : (t : code.Tree) (mid new : Slab Kept) → Fits (seen_tree t) nodes →
        Counts true (λ l. leaves_to l (seen_tree t)) work.keys work.slots mid → PutsIn t key mid new →
        Stored (with_slots work new) (with_tree label (seen_tree t) nodes)
    put_stored t mid new fits counts puts =
        let now = with_tree label (seen_tree t) nodes in
        let counted = λ (l : Label). turned true (leaves_to l (seen_tree t)) (all_leaves_to l nodes) in
        let before : Holds work.keys mid (tree_in nodes) counted = counts (tree_in nodes) (λ l. all_leaves_to l nodes) whole.holds in
        let stands = before label key led in
        let into = puts stands.kept stands.here in
        stored (with_slots work new) (with_nodes now graph) whole.ordered (labels_with (seen_tree t)) refl
        (sound_put graph label whole.sound has is_bare (seen_tree t) fits)
        (counts_put work.keys new (tree_in now) graph label (seen_tree t) whole.sound has is_bare fits
        (holds_with work.keys mid new label key stands.kept into.0 led into.1 into.2.0 into.2.1 nodes (seen_tree t)
        counted (ap seen_tree into.3) has before))

    pub removed_stored : (keys : BTreeMap ℕ ℕ) (new : Slab Kept) → IsOrdered nat_cmp keys →
        keys.entries ≡ remove_entry (is_at (nat_cmp label)) work.keys.entries →
        Updates nat_cmp work.keys keys label None → slab.Updates work.slots new key None →
        label ≢ work.entry → all_leaves_to label nodes ≡ 0 →
        Stored (with_keys work keys new) (without label nodes)
    removed_stored keys new ordered entries updates gone differ unused =
        stored (with_keys work keys new)
        (with_nodes (without label nodes) graph) ordered
        (labels_removed label nodes work.keys.entries whole.sound.rising (labels_in work whole) ∙ ap keys_of (sym entries)) refl
        (sound_without graph label whole.sound has is_bare differ unused)
        (holds_without work.keys keys work.slots new label key nodes (λ l. all_leaves_to l nodes)
        (λ l. all_leaves_to l (without label nodes)) led updates gone
        (λ l. sym (leaves_gone graph label whole.sound has is_bare l)) whole.holds)

-- the change, as contracts see it
pub seen_change : (change : List Node → List Node) (old new : Inside) (held : Held) → held_of old ≡ held →
    nodes_in new ≡ change (nodes_in old) → new.entry ≡ old.entry → new.added ≡ old.added →
    WithNodes (change (seen_work held).nodes) held (held_of new)
seen_change change old new held view are entry added =
    subst (λ h. WithNodes (change (seen_work h).nodes) h (held_of new)) view
    (record { nodes_are = are; entry_stays = entry; added_stays = added })

-- a graph that is stored anew
pub made_stored : (work : Inside) (graph : Graph) → IsClosed graph → Filled graph.nodes work.keys work.slots →
    NoneFull work.slots work.keys.entries → graph.entry ≡ work.entry → Stored work graph.nodes
made_stored work graph closed filled none entry =
    stored work graph filled.ordered (sym filled.labels) entry
    (sound_filled graph work.keys work.slots closed filled none)
    (exact graph.nodes work.keys work.slots filled none)
