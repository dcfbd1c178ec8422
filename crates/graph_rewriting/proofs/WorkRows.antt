-- Graphs that are rewritten, as they are stored.
use Rattle.std.proofs.Common.{◌≡◌, ◌≢◌, ◌<◌, ◌≤◌, ◌⊎◌, inl, inr, ℕ, zero, suc, ◌^◌, Bool, true, false, cond, if◌then◌else◌, ◌==◌, List, [], ◌∷◌, All, Option, Some, None, is_some, refl, ap, sym, ◌∙◌, subst, arith, nat_cmp}
use Rattle.std.specs.declared.cmp.Ordering.TheVariants.{Less, Equal, Greater}
use Rattle.std.specs.Ordering.{is_eq}
use Rattle.std.specs.Map.{lookup, keys_of}
use Rattle.std.specs.BTreeMap.{BTreeMap, IsOrdered, is_at}
use Rattle.std.specs.BTreeMap as map
use Rattle.std.specs.Cmp.{nat_cmp_is}
use Rattle.std.proofs.lemmas.Cmp.{nat_cmp_total}
use Rattle.std.proofs.lemmas.Bool.{cases_lt}
use Rattle.std.proofs.lemmas.Bool.Decides.{eqb_tells}
use Rattle.std.proofs.lemmas.Map.Views.{All-found}
use Rattle.slab.specs.Slab.{Slab, get}
use Rattle.control_flow_theory.specs.semantics.Doing.{is_above}
use Rattle.control_flow_theory.specs.semantics.Graph.{Label, Tree}
use Rattle.control_flow_theory.specs.graph_rules.Reduced.{Node, Graph, tree_in, has_node, all_leaves_to}
use Rattle.control_flow_theory.specs.structuring.Dispatches.{Rising, labels_of}
use Rattle.branch_tree.specs.Tree.{seen_tree}
use Rattle.branch_tree.specs.Graph.{seen_nodes}
use Rattle.graph_rewriting.specs.Rewriting.{IsSound}
use Rattle.graph_rewriting.specs.Counting.{Stands, Holds}
use Rattle.graph_rewriting.specs.Work.{and_kept, nodes_by, IsWhole}
use Rattle.graph_rewriting.specs.declared.kept.Kept.{Kept}
use Rattle.graph_rewriting.specs.declared.work.Work.TheInside.{Inside}
use Rattle.graph_rewriting.proofs.NodeRows.{nodes_from, labels_from, found_again}

apart : (label k : ℕ) → k ≢ label → (label < k) ⊎ (k ≤ label) → false ≡ is_eq (nat_cmp label k)
apart label k ne (inl less) = ap is_eq (nat_cmp_is label k Less less)
apart label k ne (inr least) = ap is_eq (nat_cmp_is label k Greater (omega (arith, ne, least)))

-- a look-up by order tests as one by equality
pub at_label : (label k : ℕ) → (k == label) ≡ is_eq (nat_cmp label k)
at_label label k =
    elim (eqb_tells k label) [
      | inl same ↦ same.0 ∙ ap is_eq (nat_cmp_is label k Equal (sym same.1))
      | inr other ↦ other.0 ∙ apart label k other.1 (cases_lt label k)
    ]

-- each of these keys leads to its node
abbrev AllStand : Slab Kept → (Label → Tree) → (Label → ℕ) → List (ℕ × ℕ) → Type 0
AllStand slots trees counts [] = Unit {0}
AllStand slots trees counts (e ∷ es) =
    Stands slots e.0 e.1 (trees e.0) (counts e.0) × AllStand slots trees counts es

module _ (keys : BTreeMap ℕ ℕ) (slots : Slab Kept) (trees : Label → Tree) (counts : Label → ℕ) where
  all_stand : (es : List (ℕ × ℕ)) → Holds keys slots trees counts →
      All (λ e. map.get nat_cmp keys e.0 ≡ Some e.1) es → AllStand slots trees counts es
  all_stand [] holds all = tt
  all_stand (e ∷ es) holds all = (
    holds e.0 e.1 (all 0 e (omega arith)),
    all_stand es holds (λ k d within. all (suc k) d (omega (arith, within))),
  )

  nodes_stand : (es : List (ℕ × ℕ)) → AllStand slots trees counts es →
      seen_nodes (nodes_by slots es) ≡ nodes_from trees (keys_of es)
  nodes_stand [] h = refl
  nodes_stand (e ∷ es) h =
      let made : ℕ → Tree → Node = λ l t. record { label = l; tree = t } in
      ap (λ o. seen_nodes (and_kept o (nodes_by slots es))) h.0.here
      ∙ ap (λ l. made l (seen_tree h.0.kept.node.tree) ∷ seen_nodes (nodes_by slots es)) h.0.label_is
      ∙ ap (λ t. made e.0 t ∷ seen_nodes (nodes_by slots es)) h.0.tree_is
      ∙ ap (λ l. made e.0 (trees e.0) ∷ l) (nodes_stand es h.1)

  -- the nodes are those of the trees that the keys lead to
  pub nodes_held : IsOrdered nat_cmp keys → Holds keys slots trees counts →
      seen_nodes (nodes_by slots keys.entries) ≡ nodes_from trees (keys_of keys.entries)
  nodes_held ordered holds =
      nodes_stand keys.entries (all_stand keys.entries holds (All-found nat_cmp_total keys ordered))

has_step : (z : Bool) (k : ℕ) (has : Bool) (others : Option ℕ) → has ≡ is_some others →
    (if z then true else has) ≡ is_some (cond z (Some k) others)
has_step true k has others h = refl
has_step false k has others h = h

has_from : (trees : Label → Tree) (l : Label) (es : List (ℕ × ℕ)) →
    has_node (nodes_from trees (keys_of es)) l ≡ is_some (lookup (is_at (nat_cmp l)) es)
has_from trees l [] = refl
has_from trees l (e ∷ es) =
    has_step (e.0 == l) e.1 (has_node (nodes_from trees (keys_of es)) l) (lookup (is_at (nat_cmp l)) es) (has_from trees l es)
    ∙ ap (λ z. is_some (cond z (Some e.1) (lookup (is_at (nat_cmp l)) es))) (at_label l e.0)

has_labels : (trees : Label → Tree) (l : Label) (nodes : List Node) →
    has_node nodes l ≡ has_node (nodes_from trees (labels_of nodes)) l
has_labels trees l [] = refl
has_labels trees l (node ∷ nodes) = ap (λ z. if node.label == l then true else z) (has_labels trees l nodes)

-- a node stands where there is a key
pub has_key : (keys : BTreeMap ℕ ℕ) (nodes : List Node) (l : Label) → labels_of nodes ≡ keys_of keys.entries →
    has_node nodes l ≡ is_some (map.get nat_cmp keys l)
has_key keys nodes l labels =
    has_labels (tree_in nodes) l nodes
    ∙ ap (λ ls. has_node (nodes_from (tree_in nodes) ls) l) labels
    ∙ has_from (tree_in nodes) l keys.entries

-- where they are led to by their labels they are these nodes
pub nodes_are : (keys : BTreeMap ℕ ℕ) (slots : Slab Kept) (nodes : List Node) (counts : Label → ℕ) →
    IsOrdered nat_cmp keys → Holds keys slots (tree_in nodes) counts → Rising nodes →
    labels_of nodes ≡ keys_of keys.entries → seen_nodes (nodes_by slots keys.entries) ≡ nodes
nodes_are keys slots nodes counts ordered holds rising labels =
    nodes_held keys slots (tree_in nodes) counts ordered holds
    ∙ ap (nodes_from (tree_in nodes)) (sym labels)
    ∙ found_again nodes rising

abbrev pub nodes_in : Inside → List Node
nodes_in work = seen_nodes (nodes_by work.slots work.keys.entries)

module _ (work : Inside) (whole : IsWhole work) where
  pub labels_in : labels_of (nodes_in work) ≡ keys_of work.keys.entries
  labels_in =
      ap labels_of (nodes_held work.keys work.slots (tree_in (nodes_in work)) (λ l. all_leaves_to l (nodes_in work)) whole.ordered whole.holds)
      ∙ labels_from (tree_in (nodes_in work)) (keys_of work.keys.entries)

  pub has_in : (l : Label) → has_node (nodes_in work) l ≡ is_some (map.get nat_cmp work.keys l)
  has_in l = has_key work.keys (nodes_in work) l labels_in

  pub no_key : (l : Label) → map.get nat_cmp work.keys l ≡ None → has_node (nodes_in work) l ≡ false
  no_key l e = has_in l ∙ ap is_some e

  pub some_key : (l : Label) (key : ℕ) → map.get nat_cmp work.keys l ≡ Some key → has_node (nodes_in work) l ≡ true
  some_key l key e = has_in l ∙ ap is_some e

  none_to : (n : ℕ) (has : Bool) → has ≡ false → (is_above n ≡ true → has ≡ true) → 0 ≡ n
  none_to zero has absent closed = refl
  none_to (suc n) has absent closed = let there : has ≡ true = closed refl in let never : ⊥ = cc in absurd never

  pub no_leaves : (l : Label) → map.get nat_cmp work.keys l ≡ None → 0 ≡ all_leaves_to l (nodes_in work)
  no_leaves l e =
      none_to (all_leaves_to l (nodes_in work)) (has_node (nodes_in work) l) (no_key l e) (whole.sound.closed l)

  pub no_slot : (l : Label) (key : ℕ) → map.get nat_cmp work.keys l ≡ Some key → get work.slots key ≡ None → ⊥
  no_slot l key e none =
      let h = whole.holds l key e in
      let some = h.here in
      cc

  pub its_count : (l : Label) (key : ℕ) (kept : Kept) → map.get nat_cmp work.keys l ≡ Some key →
      get work.slots key ≡ Some kept → kept.incoming ≡ all_leaves_to l (nodes_in work)
  its_count l key kept e here =
      let h = whole.holds l key e in
      let some = h.here in
      let same : kept ≡ h.kept = cc in
      ap (λ k. k.incoming) same ∙ h.count_is

  pub its_label : (l : Label) (key : ℕ) (kept : Kept) → map.get nat_cmp work.keys l ≡ Some key →
      get work.slots key ≡ Some kept → kept.node.label ≡ l
  its_label l key kept e here =
      let h = whole.holds l key e in
      let some = h.here in
      let same : kept ≡ h.kept = cc in
      ap (λ k. k.node.label) same ∙ h.label_is

  pub its_tree : (l : Label) (key : ℕ) (kept : Kept) → map.get nat_cmp work.keys l ≡ Some key →
      get work.slots key ≡ Some kept → seen_tree kept.node.tree ≡ tree_in (nodes_in work) l
  its_tree l key kept e here =
      let h = whole.holds l key e in
      let some = h.here in
      let same : kept ≡ h.kept = cc in
      ap (λ k. seen_tree k.node.tree) same ∙ h.tree_is

-- a graph is stored where its trees and counts are led to by its labels
pub whole_again : (work : Inside) (graph : Graph) → IsOrdered nat_cmp work.keys →
    labels_of graph.nodes ≡ keys_of work.keys.entries → graph.entry ≡ work.entry → IsSound graph →
    Holds work.keys work.slots (tree_in graph.nodes) (λ l. all_leaves_to l graph.nodes) → IsWhole work
whole_again work graph ordered labels entry sound holds =
    let are : graph.nodes ≡ nodes_in work = sym (nodes_are work.keys work.slots graph.nodes (λ l. all_leaves_to l graph.nodes) ordered holds sound.rising labels) in
    record {
      ordered = ordered;
      holds = subst (λ ns. Holds work.keys work.slots (tree_in ns) (λ l. all_leaves_to l ns)) are holds;
      sound = record {
        rising = subst (λ ns. Rising ns) are sound.rising;
        entry = subst (λ e. has_node (nodes_in work) e ≡ true) entry (subst (λ ns. has_node ns graph.entry ≡ true) are sound.entry);
        closed = λ l. subst (λ ns. is_above (all_leaves_to l ns) ≡ true → has_node ns l ≡ true) are (sound.closed l);
        few = λ l. subst (λ ns. all_leaves_to l ns < 2 ^ 32) are (sound.few l);
      };
    }
