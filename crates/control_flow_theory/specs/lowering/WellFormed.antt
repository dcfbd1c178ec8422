-- What holds of each lowered graph by its form: there is no escape in a body, each Pick has its
-- arms, each jump leads to a node, and the labels rise.
use Rattle.std.specs.Prelude.{ℕ, suc, ◌≡◌, ◌<◌, ◌⊎◌, Bool, true, List, [], ◌∷◌, length}
use Rattle.control_flow_theory.specs.language.Language.{Picker, If, By, ByCell, Program, Range}
use Rattle.control_flow_theory.specs.semantics.Graph.{Label, Tree, tree, End, Pick, Jump, Return, Stop, Dead, Trees, no_more, more}
use Rattle.control_flow_theory.specs.lowering.FlowFacts.{FlowFacts, IsSource}
use Rattle.control_flow_theory.specs.lowering.Completes.{wholes}
use Rattle.control_flow_theory.specs.lowering.Lower.{Node, end_alone}
use Rattle.control_flow_theory.specs.lowering.flow.Comes.{entry_of}
use Rattle.control_flow_theory.specs.lowering.Lowered.{nodes_of, lowered, Within}
use Rattle.control_flow_theory.specs.lowering.Reached.{IsReached, kept_nodes}

-- one of the nodes has the label
abbrev pub IsLabelOf : List Node → Label → Type 0
IsLabelOf [] label = ⊥
IsLabelOf (one ∷ others) label = (one.key ≡ label) ⊎ IsLabelOf others label

-- how many trees there are
abbrev pub tree_count : Trees → ℕ
tree_count no_more = 0
tree_count (more first others) = suc (tree_count others)

-- there are as many arms as what chooses gives; of a choice by a cell nothing is asked
abbrev pub HasArms : FlowFacts → Picker → ℕ → Type 0
HasArms told (If test) arms = arms ≡ 2
HasArms told (By chooser) arms = told.width chooser ≡ arms
HasArms told (ByCell cell) arms = Unit {0}

-- the first arm is there, empty and Dead
abbrev pub IsFirstDead : Trees → Type 0
IsFirstDead no_more = ⊥
IsFirstDead (more first others) = first ≡ end_alone Dead

-- the first arm is empty and Dead, where what chooses is a chooser that never gives it
abbrev pub HasDeadFirst : FlowFacts → Picker → Trees → Type 0
HasDeadFirst told (If test) arms = Unit {0}
HasDeadFirst told (By chooser) arms = told.never_first chooser ≡ true → IsFirstDead arms
HasDeadFirst told (ByCell cell) arms = Unit {0}

abbrev mutual
  -- an end is well formed: each choice in it has its arms, and each jump leads to one of these
  -- nodes
  pub IsWellEnd : FlowFacts → List Node → End → Type 0
  IsWellEnd told labels (Pick picker arms) = HasArms told picker (tree_count arms)
      × AreWell told labels arms × HasDeadFirst told picker arms
  IsWellEnd told labels (Jump to) = IsLabelOf labels to
  IsWellEnd told labels Return = Unit {0}
  IsWellEnd told labels Stop = Unit {0}
  IsWellEnd told labels Dead = Unit {0}

  -- each of these trees is well formed
  pub AreWell : FlowFacts → List Node → Trees → Type 0
  AreWell told labels no_more = Unit {0}
  AreWell told labels (more (tree body end) others) =
      (wholes body ≡ true) × IsWellEnd told labels end × AreWell told labels others

-- a tree is well formed: its body holds no escape, and its end is well formed
abbrev pub IsWellTree : FlowFacts → List Node → Tree → Type 0
IsWellTree told labels (tree body end) = (wholes body ≡ true) × IsWellEnd told labels end

-- the tree of each node is well formed, where jumps lead to the nodes of the first list
abbrev pub AllAreWell : FlowFacts → List Node → List Node → Type 0
AllAreWell told labels [] = Unit {0}
AllAreWell told labels (one ∷ others) =
    IsWellTree told labels one.tree × AllAreWell told labels others

-- the range is of this program
abbrev pub IsRangeOf : Program → Range → Type 0
IsRangeOf program range = entry_of range < length program.paragraphs

-- the nodes of a range
abbrev pub LoweredGraphsAreWellFormed : Type 0
LoweredGraphsAreWellFormed = (told : FlowFacts) (program : Program) (range : Range) →
    IsSource told program → IsRangeOf program range →
    AllAreWell told (nodes_of told program range) (nodes_of told program range)
    × IsLabelOf (nodes_of told program range) ((lowered told program).entry range)
    × ((high : ℕ) × Within 0 high (nodes_of told program range))

-- these are exactly the nodes that are reached
abbrev pub AreJustReached : FlowFacts → Program → Range → (Label → Bool) → Type 0
AreJustReached told program range keep =
    ((label : Label) → keep label ≡ true → IsReached (lowered told program) range label)
    × ((label : Label) → IsReached (lowered told program) range label → keep label ≡ true)

-- the nodes that are reached in a range of a source are well formed
abbrev pub ReachedGraphsAreWellFormed : Type 0
ReachedGraphsAreWellFormed =
    (told : FlowFacts) (program : Program) (range : Range) (keep : Label → Bool) →
    IsSource told program → IsRangeOf program range → AreJustReached told program range keep →
    AllAreWell told (kept_nodes keep (nodes_of told program range))
    (kept_nodes keep (nodes_of told program range))
    × IsLabelOf (kept_nodes keep (nodes_of told program range)) ((lowered told program).entry range)
    × ((high : ℕ) × Within 0 high (kept_nodes keep (nodes_of told program range)))
