-- The targets of a node's live leaves are numbered in label order, so the exits rule needs no more than the node.
use Rattle.std.proofs.Common.{◌≡◌, ◌≢◌, ℕ, zero, suc, ◌-◌, ◌<◌, Bool, true, false, if◌then◌else◌, ◌==◌, List, [], ◌∷◌, refl, ap, sym, ◌∙◌, subst, arith, ◌⊎◌, inl, inr}
use Rattle.std.proofs.lemmas.Bool.Decides.{eqb_tells}
use Rattle.control_flow_theory.proofs.runs_lemmas.Ties.{le_or}
use Rattle.control_flow_theory.specs.language.Language.{Picker, Range}
use Rattle.control_flow_theory.specs.semantics.Doing.{is_above}
use Rattle.control_flow_theory.specs.semantics.Graph.{Label, Tree, tree, End, Pick, Jump, Return, Stop, Dead, Trees, no_more, more, Family}
use Rattle.control_flow_theory.specs.structuring.Dispatches.{LeavesEnd, LeavesTree, LeavesTrees, tree_returns, one_further, number_in, Numbered, Exited}
use Rattle.control_flow_theory.specs.structuring.Targets.{is_below, inserted, end_targets, tree_targets, trees_targets, targets_of, RisingLabels, ClosedByExits}
use Rattle.control_flow_theory.proofs.structuring_lemmas.gathering.Dispatch.{leaves-tree}

-- numbers of the labels of a longer list
pub numbered-here : (first label : Label) (others : List Label) → first ≡ label → Numbered (first ∷ others) label
numbered-here first label others is = elim (eqb_tells first label) [
  | inl e ↦ (0, ap (λ b. if b then 1 else one_further (number_in others label)) e.0)
  | inr e ↦ absurd (e.1 is)
]

pub numbered-there : (first label : Label) (others : List Label) → Numbered others label → Numbered (first ∷ others) label
numbered-there first label others n = elim (eqb_tells first label) [
  | inl e ↦ numbered-here first label others e.1
  | inr e ↦ (suc n.0, ap (λ b. if b then 1 else one_further (number_in others label)) e.0 ∙ ap one_further n.1)
]

pub numbered-cases : (first label : Label) (others : List Label) → Numbered (first ∷ others) label → (first ≡ label) ⊎ Numbered others label
numbered-cases first label others n = elim (eqb_tells first label) [
  | inl e ↦ inl e.1
  | inr e ↦ inr (by (number_in others label) refl (sym (ap (λ b. if b then 1 else one_further (number_in others label)) e.0) ∙ n.1))
]
  where
    by : (m : ℕ) → number_in others label ≡ m → one_further m ≡ suc n.0 → Numbered others label
    by zero is e = absurd (omega (arith, e))
    by (suc m) is e = (m, is)

inserted-has : (label : Label) (found : List Label) → Numbered (inserted label found) label
inserted-has label [] = numbered-here label label [] refl
inserted-has label (first ∷ others) =
    let next = inserted-has label others in
    elim (label == first) as (λ b. label == first ≡ b → Numbered (if b then first ∷ others else (if is_below label first then label ∷ first ∷ others else first ∷ inserted label others)) label) [
      | true ↦ λ e. numbered-here first label others (equal label first e)
      | false ↦ λ e. elim (is_below label first) as (λ b. Numbered (if b then label ∷ first ∷ others else first ∷ inserted label others) label) [
        | true ↦ numbered-here label label (first ∷ others) refl
        | false ↦ numbered-there first label (inserted label others) next
      ]
    ] refl
  where
    equal : (a b : ℕ) → a == b ≡ true → b ≡ a
    equal a b e = elim (eqb_tells a b) [ inl f ↦ sym f.1 | inr f ↦ absurd (let x = sym f.0 ∙ e in cc) ]

inserted-keeps : (label other : Label) (found : List Label) → Numbered found other → Numbered (inserted label found) other
inserted-keeps label other [] n = absurd (let e = n.1 in omega (arith, e))
inserted-keeps label other (first ∷ others) n =
    let next = λ (k : Numbered others other). inserted-keeps label other others k in
    elim (label == first) as (λ b. Numbered (if b then first ∷ others else (if is_below label first then label ∷ first ∷ others else first ∷ inserted label others)) other) [
      | true ↦ n
      | false ↦ elim (is_below label first) as (λ b. Numbered (if b then label ∷ first ∷ others else first ∷ inserted label others) other) [
        | true ↦ numbered-there label other (first ∷ others) n
        | false ↦ elim (numbered-cases first other others n) [
          | inl is ↦ numbered-here first other (inserted label others) is
          | inr k ↦ numbered-there first other (inserted label others) (next k)
        ]
      ]
    ]

module _ (label : Label) where
  mutual
    end-keeps : (end : End) (found : List Label) (other : Label) → Numbered found other → Numbered (end_targets label end found) other
    end-keeps (Pick picker arms) = λ found other n. trees-keep arms found other n
    end-keeps (Jump to) = λ found other n. elim (to == label) as (λ b. Numbered (if b then found else inserted to found) other) [ true ↦ n | false ↦ inserted-keeps to other found n ]
    end-keeps Return = λ found other n. n
    end-keeps Stop = λ found other n. n
    end-keeps Dead = λ found other n. n

    tree-keeps : (t : Tree) (found : List Label) (other : Label) → Numbered found other → Numbered (tree_targets label t found) other
    tree-keeps (tree body end) = λ found other n. end-keeps end found other n

    trees-keep : (arms : Trees) (found : List Label) (other : Label) → Numbered found other → Numbered (trees_targets label arms found) other
    trees-keep no_more = λ found other n. n
    trees-keep (more first others) = λ found other n. trees-keep others (tree_targets label first found) other (tree-keeps first found other n)

  abbrev Found : List Label → Label → Type 0
  Found found to = (to ≡ label) ⊎ Numbered found to

  -- each jump is to the label or a target that is found, of any list that has the targets
  mutual
    end-found : (end : End) (found all : List Label) → ((to : Label) → Numbered (end_targets label end found) to → Numbered all to) → LeavesEnd (Found all) (Unit {0}) end
    end-found (Pick picker arms) = λ found all f. trees-found arms found all f
    end-found (Jump to) = λ found all f.
        elim (eqb_tells to label) [
          | inl e ↦ inl e.1
          | inr e ↦ inr (f to (subst (λ b. Numbered (if b then found else inserted to found) to) (sym e.0) (inserted-has to found)))
        ]
    end-found Return = λ found all f. tt
    end-found Stop = λ found all f. tt
    end-found Dead = λ found all f. tt

    tree-found : (t : Tree) (found all : List Label) → ((to : Label) → Numbered (tree_targets label t found) to → Numbered all to) → LeavesTree (Found all) (Unit {0}) t
    tree-found (tree body end) = λ found all f. end-found end found all f

    trees-found : (arms : Trees) (found all : List Label) → ((to : Label) → Numbered (trees_targets label arms found) to → Numbered all to) → LeavesTrees (Found all) (Unit {0}) arms
    trees-found no_more = λ found all f. tt
    trees-found (more first others) = λ found all f.
        (tree-found first found all (λ to n. f to (trees-keep others (tree_targets label first found) to n)), trees-found others (tree_targets label first found) all f)

-- the targets that are numbered are those of the node
pub closed-exits : (left_out : Picker → ℕ → Bool) (range : Range) (label : Label) (exit : ℕ) (g h : Family) → ClosedByExits left_out range label exit g h →
    Exited left_out range label exit (targets_of label (g.node range label)) (tree_returns (g.node range label)) g h
closed-exits left_out range label exit g h is =
    let t = g.node range label in
    record {
      entries = is.entries;
      leaves = leaves-tree (λ to. (to ≡ label) ⊎ Numbered (targets_of label t) to) (tree_returns t ≡ true) t (tree-found label t [] (targets_of label t) (λ to n. n)) (λ e. e);
      node = is.node;
      others = is.others;
    }

-- The targets rise.

below : (a b : ℕ) → is_below a b ≡ true → a < b
below a b e = elim (le_or b a) [
  | inl le ↦ absurd (let z : b - a ≡ 0 = omega (arith, le) in let f : false ≡ true = sym (ap is_above z) ∙ e in cc)
  | inr lt ↦ lt
]

above : (x : ℕ) → is_above x ≡ false → x ≡ 0
above zero e = refl
above (suc x) e = absurd (let f : true ≡ false = e in cc)

not-below : (a b : ℕ) → is_below a b ≡ false → a ≢ b → b < a
not-below a b e differ = elim (le_or a b) [
  | inl le ↦ let z = above (b - a) e in absurd (differ (omega (arith, z, le)))
  | inr lt ↦ lt
]

-- a label before all of them
abbrev Heads : Label → List Label → Type 0
Heads label [] = Unit {0}
Heads label (first ∷ others) = label < first

heads-rise : (label : Label) (others : List Label) → Heads label others → RisingLabels others → RisingLabels (label ∷ others)
heads-rise label [] heads rising = tt
heads-rise label (first ∷ others) heads rising = (heads, rising)

rest-rises : (first : Label) (others : List Label) → RisingLabels (first ∷ others) → RisingLabels others × Heads first others
rest-rises first [] rising = (tt, tt)
rest-rises first (next ∷ others) rising = (rising.1, rising.0)

inserted-heads : (first label : Label) (others : List Label) → first < label → Heads first others → Heads first (inserted label others)
inserted-heads first label [] lt heads = lt
inserted-heads first label (next ∷ others) lt heads =
    elim (label == next) as (λ b. Heads first (if b then next ∷ others else (if is_below label next then label ∷ next ∷ others else next ∷ inserted label others))) [
      | true ↦ heads
      | false ↦ elim (is_below label next) as (λ b. Heads first (if b then label ∷ next ∷ others else next ∷ inserted label others)) [ true ↦ lt | false ↦ heads ]
    ]

inserted-rises : (label : Label) (found : List Label) → RisingLabels found → RisingLabels (inserted label found)
inserted-rises label [] rising = tt
inserted-rises label (first ∷ others) rising =
    let rest = rest-rises first others rising in
    let next = inserted-rises label others rest.0 in
    elim (eqb_tells label first) [
      | inl e ↦ subst (λ b. RisingLabels (if b then first ∷ others else (if is_below label first then label ∷ first ∷ others else first ∷ inserted label others))) (sym e.0) rising
      | inr e ↦ subst (λ b. RisingLabels (if b then first ∷ others else (if is_below label first then label ∷ first ∷ others else first ∷ inserted label others))) (sym e.0)
          (elim (is_below label first) as (λ b. is_below label first ≡ b → RisingLabels (if b then label ∷ first ∷ others else first ∷ inserted label others)) [
            | true ↦ λ f. (below label first f, rising)
            | false ↦ λ f. heads-rise first (inserted label others) (inserted-heads first label others (not-below label first f e.1) rest.1) next
          ] refl)
    ]

module _ (label : Label) where
  mutual
    end-rises : (end : End) (found : List Label) → RisingLabels found → RisingLabels (end_targets label end found)
    end-rises (Pick picker arms) = λ found rising. trees-rise arms found rising
    end-rises (Jump to) = λ found rising. elim (to == label) as (λ b. RisingLabels (if b then found else inserted to found)) [ true ↦ rising | false ↦ inserted-rises to found rising ]
    end-rises Return = λ found rising. rising
    end-rises Stop = λ found rising. rising
    end-rises Dead = λ found rising. rising

    tree-rises : (t : Tree) (found : List Label) → RisingLabels found → RisingLabels (tree_targets label t found)
    tree-rises (tree body end) = λ found rising. end-rises end found rising

    trees-rise : (arms : Trees) (found : List Label) → RisingLabels found → RisingLabels (trees_targets label arms found)
    trees-rise no_more = λ found rising. rising
    trees-rise (more first others) = λ found rising. trees-rise others (tree_targets label first found) (tree-rises first found rising)

  pub targets-rise : (t : Tree) → RisingLabels (targets_of label t)
  targets-rise t = tree-rises t [] tt
