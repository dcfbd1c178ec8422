-- The nodes of a graph into slots, and back.
use Rattle.std.proofs.Common.{◌≡◌, ◌≢◌, ◌<◌, ◌≤◌, inl, inr, ℕ, zero, suc, ◌+◌, ◌-◌, ◌^◌, Bool, true, false, cond, if◌then◌else◌, ◌==◌, List, [], ◌∷◌, ◌++◌, length, take, drop, get_or, Option, Some, None, is_some, refl, ap, sym, ◌∙◌, subst, arith, add-one, nat_cmp}
use Rattle.std.specs.declared.cmp.Ordering.TheVariants.{Greater}
use Rattle.std.specs.Ordering.{match_ordering}
use Rattle.std.specs.Cmp.{nat_cmp_is}
use Rattle.std.specs.Map.{keys_of, lookup}
use Rattle.std.specs.BTreeMap.{BTreeMap, IsOrdered, insert_entry, is_at, Updates}
use Rattle.std.specs.BTreeMap as map
use Rattle.std.proofs.lemmas.Bool.{eq-eqb}
use Rattle.std.proofs.lemmas.List.{map-append, take_all}
use Rattle.std.proofs.lemmas.Bool.Decides.{eqb_tells}
use Rattle.slab.specs.Slab.{Slab, get}
use Rattle.slab.specs.Slab as slab
use Rattle.control_flow_theory.specs.semantics.Doing.{is_above}
use Rattle.control_flow_theory.specs.semantics.Graph.{Label, Tree, tree, End, Pick, Jump, Return, Stop, Dead, Trees, no_more, more}
use Rattle.control_flow_theory.specs.graph_rules.Shapes.{leaves_to, end_leaves_to, arms_leaves_to}
use Rattle.control_flow_theory.specs.graph_rules.Reduced.{Node, Graph, has_node, tree_in, all_leaves_to}
use Rattle.control_flow_theory.specs.structuring.Dispatches.{Rising, labels_of, Numbered, LeavesTree, LeavesEnd, LeavesTrees}
use Rattle.control_flow_theory.specs.structuring.Closes.{AllNumbered, IsClosed}
use Rattle.control_flow_theory.proofs.structuring_lemmas.closing.Closes.{AllAbove, rising-above}
use Rattle.control_flow_theory.proofs.structuring_lemmas.gathering.Targets.{numbered-cases}
use Rattle.branch_tree.specs.Tree.{seen_tree}
use Rattle.branch_tree.specs.Graph.{seen_node, seen_nodes}
use Rattle.graph_rewriting.specs.Rewriting.{IsSound, bare}
use Rattle.graph_rewriting.specs.Counting.{Stands, Holds, turned, Counts, PutsIn}
use Rattle.graph_rewriting.specs.Filling.{AddsBare, Emptied, FillsAt, Filled, NoneFull, Leads}
use Rattle.graph_rewriting.specs.Work.{nodes_by, and_kept}
use Rattle.graph_rewriting.specs.declared.kept.Kept.{Kept}
use Rattle.branch_tree.specs.declared.graph.Node as code
use Rattle.branch_tree.specs.declared.tree.Tree as code_tree
use Rattle.graph_rewriting.proofs.CountRows.{holds_as}
use Rattle.graph_rewriting.proofs.WorkRows.{at_label, has_key, nodes_held}
use Rattle.graph_rewriting.proofs.ChangeRows.{holds_retreed, gone_step}

-- Labels that rise.

abbrev Below : Label → List Label → Type 0
Below label [] = Unit {0}
Below label (first ∷ labels) = (first < label) × Below label labels

above_last : (low : Label) (front : List Node) (node : Node) → AllAbove low (front ++ node ∷ []) → low < node.label
above_last low [] node above = above.0
above_last low (first ∷ front) node above = above_last low front node above.1

below_last : (front : List Node) (node : Node) → Rising (front ++ node ∷ []) → Below node.label (labels_of front)
below_last [] node rising = tt
below_last (first ∷ front) node rising =
    let up = rising-above first (front ++ node ∷ []) rising in
    (above_last first.label front node up.0, below_last front node up.1)

rising_front : (front back : List Node) → Rising (front ++ back) → Rising front
rising_front [] back rising = tt
rising_front (first ∷ []) back rising = tt
rising_front (first ∷ next ∷ front) back rising = (rising.0, rising_front (next ∷ front) back rising.1)

labels_push : (front : List Node) (node : Node) → labels_of (front ++ node ∷ []) ≡ labels_of front ++ node.label ∷ []
labels_push [] node = refl
labels_push (first ∷ front) node = ap (λ l. first.label ∷ l) (labels_push front node)

-- a label above all others comes last
insert_last : (es : List (ℕ × ℕ)) (label key : ℕ) → Below label (keys_of es) →
    keys_of (insert_entry nat_cmp es label key) ≡ keys_of es ++ label ∷ []
insert_last [] label key below = refl
insert_last (e ∷ es) label key below =
    ap (λ o. keys_of (match_ordering o ((label, key) ∷ e ∷ es) ((e.0, key) ∷ es) (e ∷ insert_entry nat_cmp es label key)))
    (sym (nat_cmp_is label e.0 Greater below.0))
    ∙ ap (λ l. e.0 ∷ l) (insert_last es label key below.1)

-- the front of nodes, and one more
pub front_next : (nodes : List code.Node) (i : ℕ) (node : code.Node) → i < length nodes → node ≡ get_or nodes i node →
    seen_nodes (take (i + 1) nodes) ≡ seen_nodes (take i nodes) ++ seen_node node ∷ []
front_next nodes i node within is = ap (λ n. seen_nodes (take n nodes)) (add-one i) ∙ go nodes i within is
  where
    go : (nodes : List code.Node) (i : ℕ) → i < length nodes → node ≡ get_or nodes i node →
        seen_nodes (take (suc i) nodes) ≡ seen_nodes (take i nodes) ++ seen_node node ∷ []
    go [] i within is = let no : ⊥ = omega (arith, within) in absurd no
    go (first ∷ nodes) zero within is = ap (λ n. seen_node n ∷ []) (sym is)
    go (first ∷ nodes) (suc i) within is =
        let less : i < length nodes = omega (arith, within) in ap (λ l. seen_node first ∷ l) (go nodes i less is)

split_at : (nodes : List code.Node) (i : ℕ) → seen_nodes nodes ≡ seen_nodes (take i nodes) ++ seen_nodes (drop i nodes)
split_at [] zero = refl
split_at [] (suc i) = refl
split_at (first ∷ nodes) zero = refl
split_at (first ∷ nodes) (suc i) = ap (λ l. seen_node first ∷ l) (split_at nodes i)

front_rises : (nodes : List code.Node) (i : ℕ) → Rising (seen_nodes nodes) → Rising (seen_nodes (take i nodes))
front_rises nodes i rising =
    rising_front (seen_nodes (take i nodes)) (seen_nodes (drop i nodes)) (subst (λ ns. Rising ns) (split_at nodes i) rising)

-- Empty slots.

pub emptied_none : (keys : BTreeMap ℕ ℕ) (slots : Slab Kept) → keys.entries ≡ [] → IsOrdered nat_cmp keys → Emptied [] keys slots
emptied_none keys slots empty ordered = record {
  labels = ap keys_of empty;
  ordered = ordered;
  holds = λ l k led.
      let none : lookup (is_at (nat_cmp l)) keys.entries ≡ None = ap (lookup (is_at (nat_cmp l))) empty in
      let no : ⊥ = cc in absurd no;
}

added_step : (z : Bool) (key k : ℕ) (o : Option ℕ) (P : Type 0) → cond z (Some key) o ≡ Some k →
    (z ≡ true → key ≡ k → P) → (z ≡ false → o ≡ Some k → P) → P
added_step true key k o P e here there = here refl (let is : key ≡ k = cc in is)
added_step false key k o P e here there = there refl e

same_label : (label l : Label) → is_at (nat_cmp label) l ≡ true → l ≡ label
same_label label l at = elim (eqb_tells l label) [
  | inl e ↦ e.1
  | inr e ↦ let no : (l == label) ≡ true = at_label label l ∙ at in let f = e.0 in absurd (cc)
]

added_holds : (label : Label) (keys others : BTreeMap ℕ ℕ) (old new : Slab Kept) → AddsBare label keys old others new →
    Holds keys old (λ l. bare) (λ l. 0) → Holds others new (λ l. bare) (λ l. 0)
added_holds label keys others old new adds holds l k led =
    added_step (is_at (nat_cmp label) l) adds.key k (map.get nat_cmp keys l) (Stands new l k bare 0) (sym (adds.keys_are.0 l) ∙ led)
    (λ at is. record {
      kept = adds.kept;
      here = ap (get new) (sym is) ∙ adds.slots.changed;
      label_is = adds.label_is ∙ sym (same_label label l at);
      tree_is = adds.tree_is;
      count_is = adds.count_is;
    })
    (λ other lead.
    let h = holds l k lead in
    let apart : k ≢ adds.key = λ e.
    let there : get old adds.key ≡ Some h.kept = ap (get old) (sym e) ∙ h.here in
    let none = adds.vacant in let no : ⊥ = cc in no in
    record {
      kept = h.kept;
      here = adds.slots.others k apart ∙ h.here;
      label_is = h.label_is;
      tree_is = h.tree_is;
      count_is = h.count_is;
    })

emptied_more : (front : List Node) (node : Node) (keys others : BTreeMap ℕ ℕ) (old new : Slab Kept) →
    Rising (front ++ node ∷ []) → Emptied front keys old → AddsBare node.label keys old others new →
    Emptied (front ++ node ∷ []) others new
emptied_more front node keys others old new rising emptied adds = record {
  labels =
      ap keys_of adds.entries
      ∙ insert_last keys.entries node.label adds.key (subst (Below node.label) (sym emptied.labels) (below_last front node rising))
      ∙ ap (λ ls. ls ++ node.label ∷ []) emptied.labels
      ∙ sym (labels_push front node);
  ordered = adds.ordered;
  holds = added_holds node.label keys others old new adds emptied.holds;
}

pub emptied_next : (nodes : List code.Node) (i : ℕ) (node : code.Node) (keys others : BTreeMap ℕ ℕ) (old new : Slab Kept) →
    i < length nodes → node ≡ get_or nodes i node → Rising (seen_nodes nodes) →
    Emptied (seen_nodes (take i nodes)) keys old → AddsBare node.label keys old others new →
    Emptied (seen_nodes (take (i + 1) nodes)) others new
emptied_next nodes i node keys others old new within is rising emptied adds =
    let next = front_next nodes i node within is in
    subst (λ ns. Emptied ns others new) (sym next)
    (emptied_more (seen_nodes (take i nodes)) (seen_node node) keys others old new
    (subst (λ ns. Rising ns) next (front_rises nodes (i + 1) rising)) emptied adds)

pub emptied_all : (nodes : List code.Node) (i : ℕ) (keys : BTreeMap ℕ ℕ) (slots : Slab Kept) → length nodes ≤ i →
    Emptied (seen_nodes (take i nodes)) keys slots → Emptied (seen_nodes nodes) keys slots
emptied_all nodes i keys slots past = subst (λ ns. Emptied (seen_nodes ns) keys slots) (take_all i nodes past)

-- Slots that are filled.

pub filled_at : (label : Label) (t : code_tree.Tree) (keys : BTreeMap ℕ ℕ) (key : ℕ) (old mid new : Slab Kept) →
    map.get nat_cmp keys label ≡ Some key → Counts true (λ l. leaves_to l (seen_tree t)) keys old mid → PutsIn t key mid new →
    FillsAt label (seen_tree t) keys old new
filled_at label t keys key old mid new led counted puts nodes has labels trees counts holds =
    let counted_now = λ (l : Label). turned true (leaves_to l (seen_tree t)) (counts l) in
    let before : Holds keys mid trees counted_now = counted trees counts holds in
    let stands = before label key led in
    let into = puts stands.kept stands.here in
    holds_as keys new (λ l. if label == l then seen_tree into.0.node.tree else trees l) (λ l. if label == l then seen_tree t else trees l)
    counted_now counted_now (λ l k lead. ap (λ u. if label == l then seen_tree u else trees l) into.3) (λ l k lead. refl)
    (holds_retreed keys mid new label key stands.kept into.0 led into.1 into.2.0 into.2.1 trees counted_now before)

-- a label that leads nowhere is none of theirs
pub filled_none : (label : Label) (t : Tree) (keys : BTreeMap ℕ ℕ) (slots : Slab Kept) → map.get nat_cmp keys label ≡ None →
    FillsAt label t keys slots slots
filled_none label t keys slots none nodes has labels trees counts holds =
    let absent : has_node nodes label ≡ false = has_key keys nodes label (sym labels) ∙ ap is_some none in
    let no : ⊥ = cc in absurd no

-- the nodes behind these are in their slots
pub record Filling (rest : List Node) (all : List Node) (keys : BTreeMap ℕ ℕ) (slots : Slab Kept) : Type 0 where
  pub done : List Node
  pub are : rest ++ done ≡ all
  pub labels : keys_of keys.entries ≡ labels_of all
  pub ordered : IsOrdered nat_cmp keys
  pub holds : Holds keys slots (tree_in done) (λ l. turned true (all_leaves_to l done) 0)

append_nil : (nodes : List Node) → nodes ++ [] ≡ nodes
append_nil [] = refl
append_nil (node ∷ nodes) = ap (λ l. node ∷ l) (append_nil nodes)

pub filling_start : (all : List Node) (keys : BTreeMap ℕ ℕ) (slots : Slab Kept) → Emptied all keys slots → Filling all all keys slots
filling_start all keys slots emptied = record {
  done = [];
  are = append_nil all;
  labels = emptied.labels;
  ordered = emptied.ordered;
  holds = emptied.holds;
}

has_last : (rest done : List Node) (node : Node) → has_node (rest ++ node ∷ done) node.label ≡ true
has_last [] done node = ap (λ b. if b then true else has_node done node.label) (eq-eqb node.label node.label refl)
has_last (first ∷ rest) done node = elim (first.label == node.label) as (λ b. (if b then true else has_node (rest ++ node ∷ done) node.label) ≡ true) [
  | true ↦ refl
  | false ↦ has_last rest done node
]

shifted : (rest done : List Node) (node : Node) → (rest ++ node ∷ []) ++ done ≡ rest ++ node ∷ done
shifted [] done node = refl
shifted (first ∷ rest) done node = ap (λ l. first ∷ l) (shifted rest done node)

filling_more : (rest : List Node) (node : Node) (all : List Node) (keys : BTreeMap ℕ ℕ) (old new : Slab Kept) →
    Filling (rest ++ node ∷ []) all keys old → FillsAt node.label node.tree keys old new → Filling rest all keys new
filling_more rest node all keys old new filling fills =
    let done = filling.done in
    let are : rest ++ node ∷ done ≡ all = sym (shifted rest done node) ∙ filling.are in
    record {
      done = node ∷ done;
      are = are;
      labels = filling.labels;
      ordered = filling.ordered;
      holds =
          holds_as keys new (λ l. if node.label == l then node.tree else tree_in done l) (tree_in (node ∷ done))
          (λ l. turned true (leaves_to l node.tree) (turned true (all_leaves_to l done) 0))
          (λ l. turned true (all_leaves_to l (node ∷ done)) 0) (λ l k led. refl)
          (λ l k led. omega arith)
          (fills all (subst (λ ns. has_node ns node.label ≡ true) are (has_last rest done node)) filling.labels
          (tree_in done) (λ l. turned true (all_leaves_to l done) 0) filling.holds);
    }

pub filling_next : (nodes others : List code.Node) (node : code.Node) (all : List Node) (keys : BTreeMap ℕ ℕ) (old new : Slab Kept) →
    nodes ≡ others ++ node ∷ [] → Filling (seen_nodes nodes) all keys old →
    FillsAt node.label (seen_tree node.tree) keys old new → Filling (seen_nodes others) all keys new
filling_next nodes others node all keys old new is filling fills =
    filling_more (seen_nodes others) (seen_node node) all keys old new
    (subst (λ ns. Filling ns all keys old) (ap seen_nodes is ∙ map-append seen_node others (node ∷ [])) filling) fills

pub filled_all : (nodes : List code.Node) (all : List Node) (keys : BTreeMap ℕ ℕ) (slots : Slab Kept) → nodes ≡ [] →
    Filling (seen_nodes nodes) all keys slots → Filled all keys slots
filled_all nodes all keys slots none filling =
    let filled = subst (λ ns. Filling (seen_nodes ns) all keys slots) none filling in
    record {
      labels = filled.labels;
      ordered = filled.ordered;
      holds = subst (λ ns. Holds keys slots (tree_in ns) (λ l. turned true (all_leaves_to l ns) 0)) filled.are filled.holds;
    }

-- Counts that are told.

full_step : (z : Bool) (slots : Slab Kept) (e : ℕ × ℕ) (k : ℕ) (others : Option ℕ) (kept : Kept) →
    cond z (Some e.1) others ≡ Some k → get slots k ≡ Some kept →
    ((kept : Kept) → get slots e.1 ≡ Some kept → kept.incoming < 2 ^ 32 - 1) →
    (others ≡ Some k → kept.incoming < 2 ^ 32 - 1) → kept.incoming < 2 ^ 32 - 1
full_step true slots e k others kept is here told next =
    let same : e.1 ≡ k = cc in told kept (ap (get slots) same ∙ here)
full_step false slots e k others kept is here told next = next is

told_at : (slots : Slab Kept) (es : List (ℕ × ℕ)) (l : Label) (k : ℕ) (kept : Kept) → lookup (is_at (nat_cmp l)) es ≡ Some k →
    get slots k ≡ Some kept → NoneFull slots es → kept.incoming < 2 ^ 32 - 1
told_at slots [] l k kept led here none = let no : ⊥ = cc in absurd no
told_at slots (e ∷ es) l k kept led here none =
    full_step (is_at (nat_cmp l) e.0) slots e k (lookup (is_at (nat_cmp l)) es) kept led here none.0
    (λ lead. told_at slots es l k kept lead here none.1)

few_of : (n : ℕ) → turned true n 0 < 2 ^ 32 - 1 → n < 2 ^ 32 - 1
few_of n h = omega (arith, h)

exact_of : (n : ℕ) → n < 2 ^ 32 - 1 → turned true n 0 ≡ n
exact_of n h = omega (arith, h)

module _ (nodes : List Node) (keys : BTreeMap ℕ ℕ) (slots : Slab Kept) (filled : Filled nodes keys slots)
    (none : NoneFull slots keys.entries) where
  few_here : (l : Label) (k : ℕ) → map.get nat_cmp keys l ≡ Some k → all_leaves_to l nodes < 2 ^ 32 - 1
  few_here l k led =
      let h = filled.holds l k led in
      let told = told_at slots keys.entries l k h.kept led h.here none in
      let is = h.count_is in
      few_of (all_leaves_to l nodes) (subst (λ n. n < 2 ^ 32 - 1) is told)

  pub exact : Holds keys slots (tree_in nodes) (λ l. all_leaves_to l nodes)
  exact =
      holds_as keys slots (tree_in nodes) (tree_in nodes) (λ l. turned true (all_leaves_to l nodes) 0) (λ l. all_leaves_to l nodes)
      (λ l k led. refl) (λ l k led. exact_of (all_leaves_to l nodes) (few_here l k led)) filled.holds

  pub few_at : (l : Label) → has_node nodes l ≡ true → all_leaves_to l nodes < 2 ^ 32
  few_at l has =
      let there : is_some (map.get nat_cmp keys l) ≡ true = sym (has_key keys nodes l (sym filled.labels)) ∙ has in
      go (map.get nat_cmp keys l) refl there
    where
      go : (o : Option ℕ) → map.get nat_cmp keys l ≡ o → is_some o ≡ true → all_leaves_to l nodes < 2 ^ 32
      go None e some = absurd (cc)
      go (Some k) e some = let few = few_here l k e in omega (arith, few)

-- Closed graphs.

either_above : (a b : ℕ) (P : Type 0) → (is_above a ≡ true → P) → (is_above b ≡ true → P) → is_above (a + b) ≡ true → P
either_above zero b P one other above = other (subst (λ n. is_above n ≡ true) (let e : 0 + b ≡ b = omega arith in e) above)
either_above (suc a) b P one other above = one refl

module _ (P : Label → Type 0) (l : Label) where
  mutual
    leaf_tree : (t : Tree) → LeavesTree P (Unit {0}) t → is_above (leaves_to l t) ≡ true → P l
    leaf_tree (tree body end) = λ all above. leaf_end end all above

    leaf_end : (end : End) → LeavesEnd P (Unit {0}) end → is_above (end_leaves_to l end) ≡ true → P l
    leaf_end (Pick picker arms) = λ all above. leaf_arms arms all above
    leaf_end (Jump to) = λ all above. elim (eqb_tells to l) [
      | inl e ↦ subst P e.1 all
      | inr e ↦ let none : is_above 0 ≡ true = sym (ap (λ b. is_above (if b then 1 else 0)) e.0) ∙ above in absurd (cc)
    ]
    leaf_end Return = λ all above. absurd (cc)
    leaf_end Stop = λ all above. absurd (cc)
    leaf_end Dead = λ all above. absurd (cc)

    leaf_arms : (arms : Trees) → LeavesTrees P (Unit {0}) arms → is_above (arms_leaves_to l arms) ≡ true → P l
    leaf_arms no_more = λ all above. absurd (cc)
    leaf_arms (more first others) = λ all above.
        either_above (leaves_to l first) (arms_leaves_to l others) (P l) (leaf_tree first all.0) (leaf_arms others all.1) above

leaf_nodes : (labels : List Label) (l : Label) (nodes : List Node) → AllNumbered labels nodes → is_above (all_leaves_to l nodes) ≡ true → Numbered labels l
leaf_nodes labels l [] all above = absurd (cc)
leaf_nodes labels l (node ∷ nodes) all above =
    either_above (leaves_to l node.tree) (all_leaves_to l nodes) (Numbered labels l) (leaf_tree (Numbered labels) l node.tree all.0)
    (leaf_nodes labels l nodes all.1) above

has_numbered : (l : Label) (nodes : List Node) → Numbered (labels_of nodes) l → has_node nodes l ≡ true
has_numbered l [] n = absurd (let e = n.1 in omega (arith, e))
has_numbered l (node ∷ nodes) n = elim (numbered-cases node.label l (labels_of nodes) n) [
  | inl e ↦ ap (λ b. if b then true else has_node nodes l) (eq-eqb node.label l e)
  | inr k ↦
      let next = has_numbered l nodes k in
      elim (node.label == l) as (λ b. (if b then true else has_node nodes l) ≡ true) [ true ↦ refl | false ↦ next ]
]

few_other : (n : ℕ) (has : Bool) → (is_above n ≡ true → has ≡ true) → (has ≡ true → n < 2 ^ 32) → n < 2 ^ 32
few_other zero has closed few = omega arith
few_other (suc n) has closed few = few (closed refl)

pub sound_filled : (graph : Graph) (keys : BTreeMap ℕ ℕ) (slots : Slab Kept) → IsClosed graph → Filled graph.nodes keys slots →
    NoneFull slots keys.entries → IsSound graph
sound_filled graph keys slots closed filled none =
    let leads = λ (l : Label) (above : is_above (all_leaves_to l graph.nodes) ≡ true).
    has_numbered l graph.nodes (leaf_nodes (labels_of graph.nodes) l graph.nodes closed.jumps above) in
    record {
      rising = closed.rising;
      entry = has_numbered graph.entry graph.nodes closed.entry;
      closed = leads;
      few = λ l. few_other (all_leaves_to l graph.nodes) (has_node graph.nodes l) (leads l) (few_at graph.nodes keys slots filled none l);
    }

-- Nodes that come out.

pub leads_fewer : (keys others : BTreeMap ℕ ℕ) (old new : Slab Kept) (label : Label) (key : ℕ) (trees : Label → Tree) (counts : Label → ℕ) →
    map.get nat_cmp keys label ≡ Some key → Updates nat_cmp keys others label None → slab.Updates old new key None →
    Holds keys old trees counts → Holds others new trees counts
leads_fewer keys others old new label key trees counts led updates gone holds l k lead =
    let facts = gone_step (is_at (nat_cmp label) l) (map.get nat_cmp keys l) k (sym (updates.0 l) ∙ lead) in
    let h = holds l k facts.1 in
    let own = holds label key led in
    let differ : k ≢ key = λ e.
    let here : get old key ≡ Some h.kept = ap (get old) (sym e) ∙ h.here in
    let own_here = own.here in
    let alike : h.kept ≡ own.kept = cc in
    let is : l ≡ label = sym h.label_is ∙ ap (λ x. x.node.label) alike ∙ own.label_is in
    let z : (l == label) ≡ false = at_label label l ∙ facts.0 in
    let yes : (l == label) ≡ true = eq-eqb l label is in
    let no : ⊥ = cc in no in
    record {
      kept = h.kept;
      here = gone.others k differ ∙ h.here;
      label_is = h.label_is;
      tree_is = h.tree_is;
      count_is = h.count_is;
    }

keys_fewer : (keys others : BTreeMap ℕ ℕ) (slots : Slab Kept) (label : Label) (trees : Label → Tree) (counts : Label → ℕ) →
    Updates nat_cmp keys others label None → Holds keys slots trees counts → Holds others slots trees counts
keys_fewer keys others slots label trees counts updates holds l k lead =
    let facts = gone_step (is_at (nat_cmp label) l) (map.get nat_cmp keys l) k (sym (updates.0 l) ∙ lead) in
    holds l k facts.1

pub record Emptying (keys : BTreeMap ℕ ℕ) (slots : Slab Kept) (out all : List Node) : Type 0 where
  pub ordered : IsOrdered nat_cmp keys
  pub leads : Leads keys slots
  pub are : out ++ seen_nodes (nodes_by slots keys.entries) ≡ all

appended : (out rest : List Node) (node : Node) → (out ++ node ∷ []) ++ rest ≡ out ++ node ∷ rest
appended [] rest node = refl
appended (first ∷ out) rest node = ap (λ l. first ∷ l) (appended out rest node)

pub emptying_next : (keys others : BTreeMap ℕ ℕ) (old new : Slab Kept) (label key : ℕ) (kept : Kept) (out longer all : List Node) →
    Emptying keys old out all → keys.entries ≡ (label, key) ∷ others.entries → map.get nat_cmp keys label ≡ Some key →
    Updates nat_cmp keys others label None → IsOrdered nat_cmp others → slab.Updates old new key None →
    get old key ≡ Some kept → longer ≡ out ++ seen_node kept.node ∷ [] → Emptying others new longer all
emptying_next keys others old new label key kept out longer all emptying entries led updates ordered gone here is =
    let leads = emptying.leads in
    let later = leads_fewer keys others old new label key leads.trees leads.counts led updates gone leads.holds in
    let same : seen_nodes (nodes_by new others.entries) ≡ seen_nodes (nodes_by old others.entries) =
    nodes_held others new leads.trees leads.counts ordered later
    ∙ sym (nodes_held others old leads.trees leads.counts ordered (keys_fewer keys others old label leads.trees leads.counts updates leads.holds)) in
    record {
      ordered = ordered;
      leads = record { trees = leads.trees; counts = leads.counts; holds = later };
      are =
          ap (λ l. l ++ seen_nodes (nodes_by new others.entries)) is
          ∙ ap (λ l. (out ++ seen_node kept.node ∷ []) ++ l) same
          ∙ appended out (seen_nodes (nodes_by old others.entries)) (seen_node kept.node)
          ∙ sym (ap (λ o. out ++ seen_nodes (and_kept o (nodes_by old others.entries))) here)
          ∙ sym (ap (λ es. out ++ seen_nodes (nodes_by old es)) entries)
          ∙ emptying.are;
    }

-- the first key leads to no empty slot
pub emptying_led : (keys : BTreeMap ℕ ℕ) (slots : Slab Kept) (label key : ℕ) (out all : List Node) →
    Emptying keys slots out all → map.get nat_cmp keys label ≡ Some key → get slots key ≡ None → ⊥
emptying_led keys slots label key out all emptying led none =
    let there = (emptying.leads.holds label key led).here in cc

pub emptying_all : (keys : BTreeMap ℕ ℕ) (slots : Slab Kept) (out all : List Node) → keys.entries ≡ [] →
    Emptying keys slots out all → out ≡ all
emptying_all keys slots out all none emptying =
    sym (append_nil out) ∙ sym (ap (λ es. out ++ seen_nodes (nodes_by slots es)) none) ∙ emptying.are

pub nothing_left : (nodes : List code.Node) → length nodes ≡ 0 → nodes ≡ []
nothing_left [] none = refl
nothing_left (node ∷ nodes) none = let no : ⊥ = omega (arith, none) in absurd no
