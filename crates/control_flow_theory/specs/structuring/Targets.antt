-- The targets of a node's live leaves, and the exits rule as a function of the node.
use Rattle.std.specs.Prelude.{ℕ, ◌≡◌, ◌-◌, ◌<◌, Bool, if◌then◌else◌, ◌==◌, List, [], ◌∷◌}
use Rattle.control_flow_theory.specs.language.Language.{Picker, Range}
use Rattle.control_flow_theory.specs.semantics.Doing.{is_above}
use Rattle.control_flow_theory.specs.semantics.Graph.{Label, Tree, tree, End, Pick, Jump, Return, Stop, Dead, Trees, no_more, more, Family}
use Rattle.control_flow_theory.specs.structuring.Dispatches.{tree_returns, exited}

-- the first number is below the second
abbrev pub is_below : ℕ → ℕ → Bool
is_below a b = is_above (b - a)

-- the label among labels that rise, once
abbrev pub inserted : Label → List Label → List Label
inserted label [] = label ∷ []
inserted label (first ∷ others) =
    if label == first then first ∷ others
    else (if is_below label first then label ∷ first ∷ others
    else first ∷ inserted label others)

-- the labels but this one to which leaves jump, with those that were found before
module _ (label : Label) where
  abbrev mutual
    -- the targets of an end, after those found before
    pub end_targets : End → List Label → List Label
    end_targets (Pick picker arms) found = trees_targets arms found
    end_targets (Jump to) found = if to == label then found else inserted to found
    end_targets Return found = found
    end_targets Stop found = found
    end_targets Dead found = found

    -- the targets of a tree, after those found before
    pub tree_targets : Tree → List Label → List Label
    tree_targets (tree body end) found = end_targets end found

    -- the targets of these trees, after those found before
    pub trees_targets : Trees → List Label → List Label
    trees_targets no_more found = found
    trees_targets (more first others) found = trees_targets others (tree_targets first found)

-- the targets of a tree, in label order, without this label
abbrev pub targets_of : Label → Tree → List Label
targets_of label t = tree_targets label t []

-- the labels rise
abbrev pub RisingLabels : List Label → Type 0
RisingLabels [] = Unit {0}
RisingLabels (first ∷ []) = Unit {0}
RisingLabels (first ∷ next ∷ others) = (first < next) × RisingLabels (next ∷ others)

-- the node as a loop with its exits
abbrev pub with_exits : (Picker → ℕ → Bool) → ℕ → Label → Tree → Tree
with_exits left_out exit label t =
    exited left_out exit label (targets_of label t) (tree_returns t) t

-- the family with the node closed by its exits
pub record ClosedByExits (left_out : Picker → ℕ → Bool) (range : Range) (label : Label) (exit : ℕ)
    (g h : Family) : Type 0 where
  -- the entries are the same
  pub entries : (r : Range) → h.entry r ≡ g.entry r
  -- the node is closed by its exits
  pub node : h.node range label ≡ with_exits left_out exit label (g.node range label)
  -- the other nodes are the same
  pub others : (r : Range) (l : Label) → ((r ≡ range) × (l ≡ label) → ⊥) → h.node r l ≡ g.node r l
