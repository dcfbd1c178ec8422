-- The nodes of a range that are kept, added up.
use Rattle.std.proofs.Common.{◌≡◌, ℕ, ◌+◌, ◌*◌, ◌-◌, ◌^◌, ◌<◌, ◌≤◌, inl, inr, min, Bool, true, false, if◌then◌else◌, List, [], ◌∷◌, zero, suc, take, map, sum_by, refl, ap, ap₂, sym, ◌∙◌, arith, eqb}
use Rattle.std.specs.List.{AllByRecursion, IsDistinct}
use Rattle.std.proofs.lemmas.Bool.Decides.{eqb_tells}
use Rattle.std.proofs.lemmas.List.Sums.{sum_by-cons}
use Rattle.std.proofs.lemmas.Map.Keys.{IsDistinct-head, IsDistinct-tail}
use Rattle.cob_tree.specs.declared.program.Program.{Program}
use Rattle.cob_tree.specs.declared.program.Range as code
use Rattle.control_flow_theory.specs.language.Control.{control_of}
use Rattle.control_flow_theory.specs.semantics.Graph as graph
use Rattle.control_flow_theory.specs.lowering.Lower.{Node}
use Rattle.control_flow_theory.specs.lowering.Lowered.{Within, nodes_of, place_in}
use Rattle.control_flow_theory.specs.lowering.Reached.{kept_nodes}
use Rattle.control_flow_theory.specs.lowering.WellFormed.{AreJustReached, IsLabelOf}
use Rattle.control_flow_theory.proofs.lowering_lemmas.graphs.Families.{found-self}
use Rattle.branch_tree.specs.Graph.{seen_graph}
use Rattle.branch_tree.specs.declared.graph.Graph.{Graph}
use Rattle.pending_returns.specs.levels.Reach.{Holds, IsMarked}
use Rattle.pending_returns.proofs.levels_lemmas.Searching.{distinct}
use Rattle.flow_graph.specs.graph_sizes.Sizing.{graph_size, node_size, tree_size}
use Rattle.lowering_labels.specs.points.FallThrough.{seen_range}
use Rattle.lowering_labels.specs.points.Layout.{end_from}
use Rattle.statement_lowering.specs.LowerList.{flow_facts_by}
use Rattle.statement_lowering.specs.declared.context.LoweringContext.{LoweringContext}
use Rattle.flow_graph.specs.label_trees.Node.{node_in}
use Rattle.statement_lowering.specs.declared.continuations.continuation.Continuation.{Continuation}
use Rattle.flow_graph.specs.Counts.{CountsTo, IsLargerIn}
use Rattle.flow_graph.specs.Lowered.{IsLoweredIn, lowered_graph, node_of}
use Rattle.flow_graph.specs.Reaching.{AreReachedIn, IsRangeIn, Reaches}
use Rattle.flow_graph.proofs.GraphRows.{found_by}
use Rattle.flow_graph.proofs.LabelRows.{nodes_within, reached_label}
use Rattle.flow_graph.proofs.NodeRows.{Found, IsIn, get_in, in_holds, in_is, is_in, is_there}

-- the nodes that are kept
abbrev pub total : (graph.Label → Bool) → List Node → ℕ
total keep [] = 0
total keep (one ∷ others) = (if keep one.key then 1 + tree_size one.tree else 0) + total keep others

pub total-is : (keep : graph.Label → Bool) (nodes : List Node) →
    sum_by node_size (map node_of (kept_nodes keep nodes)) ≡ total keep nodes
total-is keep [] = refl
total-is keep (one ∷ others) =
    elim (keep one.key) as (λ b.
    sum_by node_size (map node_of (if b then one ∷ kept_nodes keep others else kept_nodes keep others))
    ≡ (if b then 1 + tree_size one.tree else 0) + total keep others) [
      | true ↦ sum_by-cons node_size (node_of one) (map node_of (kept_nodes keep others))
          ∙ ap (λ (n : ℕ). 1 + tree_size one.tree + n) (total-is keep others)
      | false ↦ let rest = total-is keep others in omega (arith, rest)
    ]

total-none : (nodes : List Node) → total (is_in []) nodes ≡ 0
total-none [] = refl
total-none (one ∷ others) = let rest = total-none others in omega (arith, rest)

abbrev with_one : Bool → Bool → Bool
with_one here others = if here then true else others

in-others : (x y : ℕ) (xs : List ℕ) → (x ≡ y → ⊥) → is_in (x ∷ xs) y ≡ is_in xs y
in-others x y xs ne = elim (eqb_tells x y) [
  | inl e ↦ absurd (ne e.1)
  | inr e ↦ ap (λ b. with_one b (is_in xs y)) e.0
]

in-first : (x y : ℕ) (xs : List ℕ) → x ≡ y → is_in (x ∷ xs) y ≡ true
in-first x y xs same = elim (eqb_tells x y) [
  | inl e ↦ ap (λ b. with_one b (is_in xs y)) e.0
  | inr e ↦ absurd (e.1 same)
]

-- a label that stands before all of them changes none
others-same : (x low high : ℕ) (xs : List ℕ) (nodes : List Node) → Within low high nodes →
    x + 1 ≤ low → total (is_in (x ∷ xs)) nodes ≡ total (is_in xs) nodes
others-same x low high xs [] within lt = refl
others-same x low high xs (one ∷ others) within lt =
    let above : low ≤ one.key = within.0 in
    ap₂ (λ (b : Bool) (n : ℕ). (if b then 1 + tree_size one.tree else 0) + n)
    (in-others x one.key xs (λ same. let no : ⊥ = omega (arith, same, above, lt) in no))
    (others-same x (one.key + 1) high xs others within.1 (omega (arith, above, lt)))

module _ (trees : graph.Label → graph.Tree) where
  abbrev pub weight : ℕ → ℕ
  weight label = 1 + tree_size (trees label)

  one-more : (x low high : ℕ) (xs : List ℕ) (nodes : List Node) → Within low high nodes →
      Found trees nodes → is_in xs x ≡ false → IsLabelOf nodes x →
      total (is_in (x ∷ xs)) nodes ≡ weight x + total (is_in xs) nodes
  one-more x low high xs [] within found fresh known = absurd known
  one-more x low high xs (one ∷ others) within found fresh known =
      elim (eqb_tells x one.key) [
        | inl e ↦
            let same : x ≡ one.key = e.1 in
            let size : weight x ≡ 1 + tree_size one.tree =
            ap (λ (n : ℕ). weight n) same ∙ ap (λ t. 1 + tree_size t) found.0 in
            let off : is_in xs one.key ≡ false = ap (λ (n : ℕ). is_in xs n) (sym same) ∙ fresh in
            let new : total (is_in (x ∷ xs)) (one ∷ others)
            ≡ 1 + tree_size one.tree + total (is_in xs) others =
            ap₂ (λ (b : Bool) (n : ℕ). (if b then 1 + tree_size one.tree else 0) + n)
            (in-first x one.key xs same)
            (others-same x (one.key + 1) high xs others within.1 (omega (arith, same))) in
            let old : total (is_in xs) (one ∷ others) ≡ 0 + total (is_in xs) others =
            ap (λ (b : Bool). (if b then 1 + tree_size one.tree else 0) + total (is_in xs) others)
            off in
            omega (arith, size, new, old)
        | inr e ↦
            let ne : x ≡ one.key → ⊥ = e.1 in
            let later : IsLabelOf others x = elim known [
              | inl same ↦ absurd (ne (sym same))
              | inr behind ↦ behind
            ] in
            let rest = one-more x (one.key + 1) high xs others within.1 found.1 fresh later in
            let new : total (is_in (x ∷ xs)) (one ∷ others)
            ≡ (if is_in xs one.key then 1 + tree_size one.tree else 0)
            + total (is_in (x ∷ xs)) others =
            ap (λ (b : Bool). (if b then 1 + tree_size one.tree else 0)
            + total (is_in (x ∷ xs)) others) (in-others x one.key xs ne) in
            omega (arith, new, rest)
      ]

  pub kept-sum : (labels : List ℕ) (low high : ℕ) (nodes : List Node) → Within low high nodes →
      Found trees nodes → IsDistinct eqb labels →
      ((label : ℕ) → IsIn labels label → IsLabelOf nodes label) →
      total (is_in labels) nodes ≡ sum_by weight labels
  kept-sum [] low high nodes within found apart known = total-none nodes
  kept-sum (x ∷ xs) low high nodes within found apart known =
      one-more x low high xs nodes within found (fresh x xs apart) (known x (inl refl))
      ∙ ap (λ (n : ℕ). weight x + n)
      (kept-sum xs low high nodes within found (IsDistinct-tail eqb x xs apart)
      (λ label there. known label (inr there)))
      ∙ sym (sum_by-cons weight x xs)
    where
      not-in : (x : ℕ) (xs : List ℕ) → AllByRecursion (λ y. eqb x y ≡ false) xs →
          is_in xs x ≡ false
      not-in x [] apart = refl
      not-in x (y ∷ ys) apart = elim (eqb_tells y x) [
        | inl e ↦ absurd (elim (eqb_tells x y) [
          | inl f ↦ (let both : true ≡ false = sym f.0 ∙ apart.0 in let k : ⊥ = cc in k)
          | inr f ↦ f.1 (sym e.1)
        ])
        | inr e ↦ ap (λ b. with_one b (is_in ys x)) e.0 ∙ not-in x ys apart.1
      ]

      fresh : (x : ℕ) (xs : List ℕ) → IsDistinct eqb (x ∷ xs) → is_in xs x ≡ false
      fresh x xs apart = not-in x xs (IsDistinct-head eqb x xs apart)

-- whoever keeps more of them has more

total-grows : (less more : graph.Label → Bool) (nodes : List Node) →
    ((label : graph.Label) → less label ≡ true → more label ≡ true) →
    total less nodes ≤ total more nodes
total-grows less more [] keeps = omega arith
total-grows less more (one ∷ others) keeps =
    let rest = total-grows less more others keeps in
    elim (less one.key) as (λ b. less one.key ≡ b →
    (if b then 1 + tree_size one.tree else 0) + total less others
    ≤ (if more one.key then 1 + tree_size one.tree else 0) + total more others) [
      | true ↦ λ is.
          let same = ap (λ (b : Bool). (if b then 1 + tree_size one.tree else 0)) (keeps one.key is) in
          omega (arith, rest, same)
      | false ↦ λ is. omega (arith, rest)
    ] refl

front-sum : (by : ℕ → ℕ) (xs : List ℕ) (n : ℕ) → sum_by by (take n xs) ≤ sum_by by xs
front-sum by [] zero = omega arith
front-sum by [] (suc n) = omega arith
front-sum by (x ∷ xs) zero = omega arith
front-sum by (x ∷ xs) (suc n) =
    omega (arith, sum_by-cons by x (take n xs), sum_by-cons by x xs, front-sum by xs n)

-- so it is of labels that are reached, of which some may still lack

module _ (telling : LoweringContext) (spots : List Continuation) (range : code.Range) (places : List ℕ)
    (marks : List Bool) (marked : IsMarked places marks)
    (sound : (program : Program) → IsRangeIn telling spots range program → (label : ℕ) →
    Holds places label → Reaches telling program range label) (program : Program)
    (is : IsRangeIn telling spots range program) where
  abbrev all : List Node
  all = nodes_of (flow_facts_by telling) (control_of program) (seen_range range)

  abbrev sum : List ℕ → ℕ
  sum labels = sum_by (weight (node_in telling program range)) labels

  abbrev size : (graph.Label → Bool) → ℕ
  size keep = graph_size
      (lowered_graph (flow_facts_by telling) (control_of program) (seen_range range) keep)

  pub places-sum : total (is_in places) all ≡ sum places
  places-sum =
      let told = flow_facts_by telling in
      let seen = control_of program in
      let end = 3 * end_from 0 program.paragraphs in
      let within = nodes_within told program (seen_range range) in
      let trees = node_in telling program range in
      let found : Found trees all =
      found_by told (place_in seen) trees all
      (found-self told (place_in seen) 0 end all within) in
      kept-sum trees places 0 end all within found (distinct places marked.once)
      (λ label there. reached_label told seen (seen_range range) label is.table.source is.own
      (sound program is label (in_holds places label there)))

  pub places-just : ((label : ℕ) → Reaches telling program range label → Holds places label) →
      AreJustReached (flow_facts_by telling) (control_of program) (seen_range range) (is_in places)
  places-just holds = (
    λ label on. sound program is label (in_holds places label (is_there places label on)),
    λ label reaches.
        let there = holds label reaches in
        in_is places label (get_in places there.0 label there.1),
  )

  pub sum-least : (keep : graph.Label → Bool) →
      AreJustReached (flow_facts_by telling) (control_of program) (seen_range range) keep →
      sum places ≤ size keep
  sum-least keep just =
      let grows = total-grows (is_in places) keep all (λ label on.
      just.1 label (sound program is label (in_holds places label (is_there places label on)))) in
      let kept : size keep ≡ total keep all = total-is keep all in
      omega (arith, grows, places-sum, kept)

  pub sum-whole : ((label : ℕ) → Reaches telling program range label → Holds places label) →
      (keep : graph.Label → Bool) →
      AreJustReached (flow_facts_by telling) (control_of program) (seen_range range) keep →
      size keep ≡ sum places
  sum-whole holds keep just =
      let least = sum-least keep just in
      let grows = total-grows keep (is_in places) all
      (λ label on. (places-just holds).1 label (just.0 label on)) in
      let kept : size keep ≡ total keep all = total-is keep all in
      omega (arith, least, grows, places-sum, kept)

-- past a number of labels and statements, and not past it

pub larger : (telling : LoweringContext) (spots : List Continuation) (range : code.Range) (places : List ℕ)
    (marks : List Bool) → IsMarked places marks →
    ((program : Program) → IsRangeIn telling spots range program → (label : ℕ) →
    Holds places label → Reaches telling program range label) → (at count most : ℕ) →
    CountsTo telling spots range (take at places) count → most < count →
    IsLargerIn telling spots range most
larger telling spots range places marks marked sound at count most counts past =
    λ program is keep just.
    let by : ℕ → ℕ = weight (node_in telling program range) in
    let least : sum_by by places
    ≤ graph_size (lowered_graph (flow_facts_by telling) (control_of program) (seen_range range) keep) =
    sum-least telling spots range places marks marked sound program is keep just in
    let front : sum_by by (take at places) ≤ sum_by by places = front-sum by places at in
    let counted : count ≡ min (sum_by by (take at places)) (2 ^ 64 - 1) = counts program is.table in
    omega (arith, least, front, counted, past)

pub within-most : (telling : LoweringContext) (spots : List Continuation) (range : code.Range) (places : List ℕ)
    (marks : List Bool) → IsMarked places marks → AreReachedIn telling spots range places →
    (count most : ℕ) → CountsTo telling spots range places count → count ≤ most →
    most < 2 ^ 64 - 1 → ((program : Program) × IsRangeIn telling spots range program) →
    (graph : Graph) → IsLoweredIn telling spots range graph →
    graph_size (seen_graph graph) ≤ most
within-most telling spots range places marks marked reached count most counts few small some made lowered =
    let program = some.0 in
    let is = some.1 in
    let low = lowered program is in
    let by : ℕ → ℕ = weight (node_in telling program range) in
    let kept : ℕ =
    graph_size (lowered_graph (flow_facts_by telling) (control_of program) (seen_range range) low.0) in
    let whole : kept ≡ sum_by by places =
    sum-whole telling spots range places marks marked (λ other on. (reached other on).0)
    program is (reached program is).1 low.0 low.1 in
    let counted : count ≡ min (sum_by by places) (2 ^ 64 - 1) = counts program is.table in
    let same : graph_size (seen_graph made) ≡ kept = ap graph_size low.2 in
    omega (arith, whole, counted, few, small, same)
