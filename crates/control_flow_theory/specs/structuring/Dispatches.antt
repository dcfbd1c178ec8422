-- The rules that close nodes by a number in a cell: a loop with a flag, a loop with several exits,
-- and the dispatch over all nodes that are left.
use Rattle.std.specs.Prelude.{ℕ, zero, suc, ◌≡◌, ◌≢◌, ◌<◌, Bool, true, false, if◌then◌else◌, ◌==◌, List, [], ◌∷◌, ◌⊎◌}
use Rattle.control_flow_theory.specs.language.Language.{Set, Test, Is, Above, Picker, ByCell, Stmt, Choose, StopRun, Stmts, none, also, Arms, done, given, missing, Range}
use Rattle.control_flow_theory.specs.language.Language as language
use Rattle.control_flow_theory.specs.semantics.Graph.{Label, Tree, tree, End, Pick, Jump, Return, Stop, Dead, Trees, no_more, more, Family}
use Rattle.control_flow_theory.specs.graph_rules.Shapes.{followed}
use Rattle.control_flow_theory.specs.graph_rules.Reduced.{Node}
use Rattle.control_flow_theory.specs.structuring.Gathers.{loop_from}

-- an arm; where it is empty it may be left out
abbrev pub arm_or_none : Bool → Stmts → Arms → Arms
arm_or_none false arm others = given arm others
arm_or_none true none others = missing others
arm_or_none true (also stmt stmts) others = given (also stmt stmts) others

-- Statements that stand for a tree, where such statements stand for its jumps and its returns, and
-- such arms are left out where they are empty.
module _ (left_out : Picker → ℕ → Bool) (jump : Label → Stmts) (return : Stmts) where
  abbrev mutual
    -- the statements that stand for an end
    pub stated_end : End → Stmts
    stated_end (Pick picker arms) = also (Choose picker (stated_arms picker 0 arms)) none
    stated_end (Jump to) = jump to
    stated_end Return = return
    stated_end Stop = also StopRun none
    stated_end Dead = none

    -- the statements that stand for a tree
    pub stated_tree : Tree → Stmts
    stated_tree (tree body end) = followed body (stated_end end)

    -- the arms that stand for these trees, the first of which has this number
    pub stated_arms : Picker → ℕ → Trees → Arms
    stated_arms picker k no_more = done
    stated_arms picker k (more first others) =
        arm_or_none (left_out picker k) (stated_tree first) (stated_arms picker (suc k) others)

-- What the live leaves of a tree are.
module _ (P : Label → Type 0) (Q : Type 0) where
  abbrev mutual
    -- the jumps of an end are to such labels, and it returns only where it may
    pub LeavesEnd : End → Type 0
    LeavesEnd (Pick picker arms) = LeavesTrees arms
    LeavesEnd (Jump to) = P to
    LeavesEnd Return = Q
    LeavesEnd Stop = Unit {0}
    LeavesEnd Dead = Unit {0}

    -- the same of a tree
    pub LeavesTree : Tree → Type 0
    LeavesTree (tree body end) = LeavesEnd end

    -- the same of these trees
    pub LeavesTrees : Trees → Type 0
    LeavesTrees no_more = Unit {0}
    LeavesTrees (more first others) = LeavesTree first × LeavesTrees others

-- one of the two holds
abbrev pub either : Bool → Bool → Bool
either true other = true
either false other = other

-- some leaf returns
abbrev mutual
  pub end_returns : End → Bool
  end_returns (Pick picker arms) = trees_return arms
  end_returns (Jump to) = false
  end_returns Return = true
  end_returns Stop = false
  end_returns Dead = false

  -- a leaf of the tree returns
  pub tree_returns : Tree → Bool
  tree_returns (tree body end) = end_returns end

  -- a leaf of one of these trees returns
  pub trees_return : Trees → Bool
  trees_return no_more = false
  trees_return (more first others) = either (tree_returns first) (trees_return others)

-- the number in the list with one more before it; 0 stays 0
abbrev pub one_further : ℕ → ℕ
one_further zero = 0
one_further (suc number) = suc (suc number)

-- the number of the label in the list, from 1; 0 where it isn't there
abbrev pub number_in : List Label → Label → ℕ
number_in [] label = 0
number_in (first ∷ others) label =
    if first == label then 1 else one_further (number_in others label)

-- the label is in the list
abbrev pub Numbered : List Label → Label → Type 0
Numbered labels label = (n : ℕ) × (number_in labels label ≡ suc n)

-- the cell takes the number
abbrev pub set_to : ℕ → ℕ → Stmts
set_to cell number = also (language.Do (Set cell number)) none

-- A loop with a flag.

-- a jump within the loop: to the loop's own label it goes on, to any other it sets the flag
abbrev pub flag_jump : ℕ → Label → Label → Stmts
flag_jump flag label to = if to == label then none else set_to flag 1

-- the node as a loop that ends where its flag is 1
abbrev pub flagged : (Picker → ℕ → Bool) → ℕ → Label → End → Tree → Tree
flagged left_out flag label out t =
    loop_from flag (Is flag 1) (stated_tree left_out (flag_jump flag label) (set_to flag 1) t) out 0

-- the family with the loop in place of the node, each of whose live leaves is a jump to it or the
-- one end after it
pub record ClosedByFlag (left_out : Picker → ℕ → Bool) (range : Range) (label : Label) (flag : ℕ)
    (out : End) (g h : Family) : Type 0 where
  -- the entries are the same
  pub entries : (r : Range) → h.entry r ≡ g.entry r
  -- each live leaf goes on with the loop, or to the one end
  pub leaves : LeavesTree (λ to. (to ≡ label) ⊎ (out ≡ Jump to)) (out ≡ Return) (g.node range label)
  -- the node becomes the loop
  pub node : h.node range label ≡ flagged left_out flag label out (g.node range label)
  -- the other nodes are the same
  pub others : (r : Range) (l : Label) → ((r ≡ range) × (l ≡ label) → ⊥) → h.node r l ≡ g.node r l

-- A loop with several exits.

-- how many labels there are
abbrev pub length_of : List Label → ℕ
length_of [] = 0
length_of (first ∷ others) = suc (length_of others)

-- a jump to the loop's own label goes on, any other sets the cell to the number of its target
abbrev pub exit_jump : ℕ → Label → List Label → Label → Stmts
exit_jump exit label targets to = if to == label then none else set_to exit (number_in targets to)

-- the bare targets in order, a return last
abbrev pub bare : List Label → Bool → Trees
bare [] false = no_more
bare [] true = more (tree none Return) no_more
bare (first ∷ others) returns = more (tree none (Jump first)) (bare others returns)

-- the node as a loop that ends where the cell is above zero, and then a choice of its targets by
-- the cell
abbrev pub exited : (Picker → ℕ → Bool) → ℕ → Label → List Label → Bool → Tree → Tree
exited left_out exit label targets returns t =
    loop_from exit (Above exit)
    (stated_tree left_out (exit_jump exit label targets) (set_to exit (suc (length_of targets)))
    t) (Pick (ByCell exit) (bare targets returns)) 0

-- the family with the loop in place of the node, whose other live leaves jump to such targets, or
-- return where that is one
pub record Exited (left_out : Picker → ℕ → Bool) (range : Range) (label : Label) (exit : ℕ)
    (targets : List Label) (returns : Bool) (g h : Family) : Type 0 where
  -- the entries are the same
  pub entries : (r : Range) → h.entry r ≡ g.entry r
  -- each live leaf goes on with the loop, or to a target
  pub leaves : LeavesTree (λ to. (to ≡ label) ⊎ Numbered targets to) (returns ≡ true)
      (g.node range label)
  -- the node becomes the loop, and then a choice of its targets
  pub node : h.node range label ≡ exited left_out exit label targets returns (g.node range label)
  -- the other nodes are the same
  pub others : (r : Range) (l : Label) → ((r ≡ range) × (l ≡ label) → ⊥) → h.node r l ≡ g.node r l

-- The dispatch.

-- the labels of these nodes
abbrev pub labels_of : List Node → List Label
labels_of [] = []
labels_of (node ∷ others) = node.label ∷ labels_of others

-- the nodes are in label order
abbrev pub Rising : List Node → Type 0
Rising [] = Unit {0}
Rising (node ∷ []) = Unit {0}
Rising (node ∷ next ∷ others) = (node.label < next.label) × Rising (next ∷ others)

-- a leaf of one of these nodes returns
abbrev pub some_returns : List Node → Bool
some_returns [] = false
some_returns (node ∷ others) = either (tree_returns node.tree) (some_returns others)

-- a jump sets the state to the number of its label
abbrev pub state_jump : ℕ → List Label → Label → Stmts
state_jump state labels to = set_to state (number_in labels to)

-- one arm for each node
abbrev pub node_arms : (Picker → ℕ → Bool) → ℕ → List Label → List Node → Arms
node_arms left_out state labels [] = done
node_arms left_out state labels (node ∷ others) =
    given (stated_tree left_out (state_jump state labels) (set_to state 0) node.tree)
    (node_arms left_out state labels others)

-- a return, where some leaf returns
abbrev pub return_if : Bool → End
return_if true = Return
return_if false = Dead

-- the one node in place of the nodes, entered at this label
abbrev pub dispatched : (Picker → ℕ → Bool) → ℕ → Label → List Node → Tree
dispatched left_out state entry nodes =
    loop_from state (Is state 0)
    (also (Choose (ByCell state) (node_arms left_out state (labels_of nodes) nodes)) none)
    (return_if (some_returns nodes)) (number_in (labels_of nodes) entry)

-- these are the family's nodes, and their jumps lead to such labels
abbrev pub AreNodes : Family → Range → (Label → Type 0) → List Node → Type 0
AreNodes family range P [] = Unit {0}
AreNodes family range P (node ∷ others) = (family.node range node.label ≡ node.tree)
    × LeavesTree P (Unit {0}) node.tree × AreNodes family range P others

-- the family with the one node in place of the range's nodes
pub record Dispatched (left_out : Picker → ℕ → Bool) (range : Range) (state : ℕ) (nodes : List Node)
    (g h : Family) : Type 0 where
  -- the entries are the same
  pub entries : (r : Range) → h.entry r ≡ g.entry r
  pub rising : Rising nodes
  -- the range's entry is among the nodes
  pub entry : Numbered (labels_of nodes) (g.entry range)
  -- the nodes are all of the range, and jump to one another
  pub nodes_are : AreNodes g range (Numbered (labels_of nodes)) nodes
  -- the entry's node becomes the dispatch
  pub node : h.node range (g.entry range) ≡ dispatched left_out state (g.entry range) nodes
  -- the other nodes of the range are gone, or are what they were
  pub rest : (l : Label) → l ≢ g.entry range →
      (h.node range l ≡ g.node range l) ⊎ (h.node range l ≡ tree none Dead)
  -- the other ranges are the same
  pub others : (r : Range) → r ≢ range → (l : Label) → h.node r l ≡ g.node r l
