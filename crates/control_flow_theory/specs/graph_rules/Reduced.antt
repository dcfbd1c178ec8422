-- Graphs of ranges as lists of nodes, and how Join, Loop and Inline reduce them.
use Rattle.std.specs.Prelude.{ℕ, zero, suc, ◌+◌, ◌*◌, Bool, true, false, if◌then◌else◌, ◌==◌, List, [], ◌∷◌, ◌++◌, Option, Some, None, ◌≡◌}
use Rattle.control_flow_theory.specs.language.Language.{Test, If, By, ByCell, Picker, Until, Loop, Stmts, none, also, Nested, Range, same_range}
use Rattle.control_flow_theory.specs.semantics.Doing.{is_above}
use Rattle.control_flow_theory.specs.semantics.Graph.{Label, Tree, tree, End, Pick, Jump, Return, Stop, Dead, Trees, no_more, more, Family}
use Rattle.control_flow_theory.specs.graph_rules.Loops.{Flagged, Endless, loop_of, turned_test}
use Rattle.control_flow_theory.specs.graph_rules.Joins.{JumpsTree}
use Rattle.control_flow_theory.specs.graph_rules.Families.{Added, Never, Flag, Kinds}
use Rattle.control_flow_theory.specs.graph_rules.Shapes.{alone, Live, ToLabel, Back, end_at, Targets, NoTarget, Only, Several, same_live, joined, inlined, leaves_to, other_targets, flat}

-- a tree with its label
pub record Node : Type 0 where
  pub label : Label
  pub tree : Tree

-- nodes in rising label order, and the added cells in the order in which they were made
pub record Graph : Type 0 where
  pub entry : Label
  pub nodes : List Node
  pub added : List Added

-- the tree at a label; where there is none, one to which no run comes
abbrev pub tree_in : List Node → Label → Tree
tree_in [] label = tree none Dead
tree_in (node ∷ nodes) label = if node.label == label then node.tree else tree_in nodes label

-- what the added cell with this number is for
abbrev pub kind_at : List Added → ℕ → Option Added
kind_at [] cell = None
kind_at (kind ∷ kinds) zero = Some kind
kind_at (kind ∷ kinds) (suc cell) = kind_at kinds cell

-- how many added cells there are
abbrev pub count : List Added → ℕ
count [] = 0
count (kind ∷ kinds) = suc (count kinds)

-- the graph of each range
abbrev pub Graphs : Type 0
Graphs = Range → Graph

-- the graphs as a family
abbrev pub family_of : Graphs → Family
family_of graphs =
    record {
      entry = λ range. (graphs range).entry;
      node = λ range label. tree_in (graphs range).nodes label;
    }

-- the added cells of each range
abbrev pub kinds_of : Graphs → Kinds
kinds_of graphs range cell = kind_at (graphs range).added cell

-- the graphs with this one at the range
abbrev pub with_graph : Graphs → Range → Graph → Graphs
with_graph graphs range graph = λ r. if same_range r range then graph else graphs r

-- the nodes with each tree changed so
abbrev pub each_tree : (Tree → Tree) → List Node → List Node
each_tree f [] = []
each_tree f (node ∷ nodes) = record { label = node.label; tree = f node.tree } ∷ each_tree f nodes

-- the nodes but those at this label
abbrev pub without : Label → List Node → List Node
without label [] = []
without label (node ∷ nodes) =
    if node.label == label then without label nodes else node ∷ without label nodes

-- the tree at the label is this one
abbrev pub with_tree : Label → Tree → List Node → List Node
with_tree label t [] = []
with_tree label t (node ∷ nodes) =
    if node.label == label then record { label = node.label; tree = t } ∷ with_tree label t nodes
    else node ∷ with_tree label t nodes

-- Join, everywhere.

-- the graph after all joins
abbrev pub join_graph : Graph → Graph
join_graph graph =
    record { entry = graph.entry; nodes = each_tree joined graph.nodes; added = graph.added }

-- Inline of a node.

-- the graph without this node, whose tree takes the place of each jump to it
abbrev pub inline_graph : Label → Graph → Graph
inline_graph label graph =
    record {
      entry = graph.entry;
      nodes = each_tree (inlined label (tree_in graph.nodes label)) (without label graph.nodes);
      added = graph.added;
    }

-- the number of leaves of these nodes that jump to the label
abbrev pub all_leaves_to : Label → List Node → ℕ
all_leaves_to label [] = 0
all_leaves_to label (node ∷ nodes) = leaves_to label node.tree + all_leaves_to label nodes

-- exactly one leaf of the graph jumps to it, from another node, and it isn't the entry
abbrev pub inlines : Graph → Label → Bool
inlines graph label =
    if label == graph.entry then false
    else (if leaves_to label (tree_in graph.nodes label) == 0
    then all_leaves_to label graph.nodes == 1 else false)

-- Loop on a node.

-- a tree that is only this leaf
abbrev pub is_leaf : Live → End → Bool
is_leaf live (Pick picker arms) = false
is_leaf live (Jump to) = same_live live (ToLabel to)
is_leaf live Return = same_live live Back
is_leaf live Stop = false
is_leaf live Dead = false

-- a tree that is nothing but this leaf
abbrev pub is_bare : Live → Tree → Bool
is_bare live (tree none end) = is_leaf live end
is_bare live (tree (also first others) end) = false

-- what comes before the jump back, where a tree ends in it
abbrev pub stays : Label → Tree → Option Stmts
stays label (tree body (Pick picker arms)) = None
stays label (tree body (Jump to)) = if to == label then Some body else None
stays label (tree body Return) = None
stays label (tree body Stop) = None
stays label (tree body Dead) = None

-- a loop with a test of its own: tested after, turned, by this test, with this body
pub record Form : Type 0 where
  pub after : Bool
  -- the test is negated
  pub turned : Bool
  pub test : Test
  pub body : Stmts

-- a loop tested before: one arm leaves at once, and the other ends in the jump back
abbrev pub pretest : Bool → Test → Bool → Option Stmts → Option Form → Option Form
pretest turned test true (Some body) other =
    Some (record { after = false; turned = turned; test = test; body = body })
pretest turned test true None other = other
pretest turned test false found other = other

-- a loop tested after: one arm leaves at once, and the other jumps back at once
abbrev pub posttest : Bool → Test → Stmts → Bool → Bool → Option Form → Option Form
posttest turned test body true true other =
    Some (record { after = true; turned = turned; test = test; body = body })
posttest turned test body true false other = other
posttest turned test body false bare other = other

-- the form of a loop whose node ends in an IF with these two arms: tested before where nothing
-- comes before the IF, else tested after
abbrev pub form_two : Label → Live → Stmts → Test → Tree → Tree → Option Form
form_two label live none test one two =
    pretest false test (is_bare live one) (stays label two)
    (pretest true test (is_bare live two) (stays label one) None)
form_two label live (also first others) test one two =
    posttest false test (also first others) (is_bare live one) (is_bare (ToLabel label) two)
    (posttest true test (also first others) (is_bare live two) (is_bare (ToLabel label) one)
    None)

-- the form of a loop whose node ends in an IF with these arms
abbrev pub form_arms : Label → Live → Stmts → Test → Trees → Option Form
form_arms label live body test no_more = None
form_arms label live body test (more one no_more) = None
form_arms label live body test (more one (more two no_more)) = form_two label live body test one two
form_arms label live body test (more one (more two (more three others))) = None

-- the form of a loop whose node ends in a choice; it has one only where that is an IF
abbrev pub form_pick : Label → Live → Stmts → Picker → Trees → Option Form
form_pick label live body (If test) arms = form_arms label live body test arms
form_pick label live body (By chooser) arms = None
form_pick label live body (ByCell cell) arms = None

-- the form of a loop whose node has this body and end
abbrev pub form_end : Label → Live → Stmts → End → Option Form
form_end label live body (Pick picker arms) = form_pick label live body picker arms
form_end label live body (Jump to) = None
form_end label live body Return = None
form_end label live body Stop = None
form_end label live body Dead = None

-- the form of the loop on a label that leaves to this leaf, if it has a test of its own
abbrev pub form_of : Label → Live → Tree → Option Form
form_of label live (tree body end) = form_end label live body end

-- the graph with this tree at the label
abbrev pub looped_graph : Label → Tree → List Added → Graph → Graph
looped_graph label t kinds graph =
    record {
      entry = graph.entry;
      nodes = with_tree label t graph.nodes;
      added = graph.added ++ kinds;
    }

-- the loop of this form in place of the node, or else a loop with a flag
abbrev pub close_form : Label → Live → Graph → Option Form → Graph
close_form label live graph (Some form) =
    looped_graph label
    (tree (alone (Loop (Until form.after (turned_test form.turned form.test)) (Nested form.body)))
    (end_at live)) [] graph
close_form label live graph None =
    looped_graph label
    (tree (loop_of Flagged (count graph.added)
    (flat Flagged (count graph.added) label (tree_in graph.nodes label))) (end_at live))
    (Flag ∷ []) graph

-- the node with these targets as a loop: endless where there is none, by the form that fits where
-- there is one; left as it is where there are several
abbrev pub close_by : Label → Graph → Targets → Graph
close_by label graph NoTarget =
    looped_graph label
    (tree (loop_of Endless (count graph.added)
    (flat Endless (count graph.added) label (tree_in graph.nodes label))) Dead) (Never ∷ []) graph
close_by label graph (Only live) =
    close_form label live graph (form_of label live (tree_in graph.nodes label))
close_by label graph Several = graph

-- the graph with a loop in place of the node at the label
abbrev pub close_graph : Label → Graph → Graph
close_graph label graph = close_by label graph (other_targets label (tree_in graph.nodes label))

-- there is no target, or one
abbrev pub at_most_one : Targets → Bool
at_most_one NoTarget = true
at_most_one (Only live) = true
at_most_one Several = false

-- Loop applies at the label: a leaf of its node jumps back to it, and the others have one target at
-- most
abbrev pub loops : Graph → Label → Bool
loops graph label =
    if is_above (leaves_to label (tree_in graph.nodes label))
    then at_most_one (other_targets label (tree_in graph.nodes label)) else false

-- The order of the rules: Join always; then Loop on the lowest label where it applies, else Inline
-- on the lowest.

-- the first label to which the rule applies
abbrev pub lowest : (Label → Bool) → List Node → Option Label
lowest applies [] = None
lowest applies (node ∷ nodes) = if applies node.label then Some node.label else lowest applies nodes

-- Inline of this node, and then all joins
abbrev pub inline_step : Graph → Option Label → Option Graph
inline_step graph None = None
inline_step graph (Some label) = Some (join_graph (inline_graph label graph))

-- Loop on this label; where there is none, Inline of the lowest that it applies to
abbrev pub loop_step : Graph → Option Label → Option Graph
loop_step graph None = inline_step graph (lowest (inlines graph) graph.nodes)
loop_step graph (Some label) = Some (close_graph label graph)

-- the graph after one rule, where one applies
abbrev pub rule_step : Graph → Option Graph
rule_step graph = loop_step graph (lowest (loops graph) graph.nodes)

-- the graph after one step, where a rule applies
abbrev pub stepped : Graph → Option Graph → Graph
stepped graph None = graph
stepped graph (Some next) = next

-- the graph after at most so many steps of the rules
abbrev pub reduced : ℕ → Graph → Graph
reduced zero graph = graph
reduced (suc most) graph = reduced most (stepped graph (rule_step graph))

-- how many nodes there are
abbrev pub size : List Node → ℕ
size [] = 0
size (node ∷ nodes) = suc (size nodes)

-- each step takes a node away, or a node's jumps to itself: three times the nodes are enough
abbrev pub shaped : Graph → Graph
shaped graph = reduced (3 * size graph.nodes) (join_graph graph)

-- the graphs of these ranges shaped
abbrev pub all_shaped : List Range → Graphs → Graphs
all_shaped [] graphs = graphs
all_shaped (range ∷ ranges) graphs =
    with_graph (all_shaped ranges graphs) range (shaped (all_shaped ranges graphs range))

-- A graph is closed where its entry and each label that a leaf jumps to are labels of its nodes.

-- one of the nodes has the label
abbrev pub has_node : List Node → Label → Bool
has_node [] label = false
has_node (node ∷ nodes) label = if node.label == label then true else has_node nodes label

-- each jump of the nodes is to such a label
abbrev pub JumpsAmong : (Label → Type 0) → List Node → Type 0
JumpsAmong P [] = Unit {0}
JumpsAmong P (node ∷ nodes) = JumpsTree P node.tree × JumpsAmong P nodes

-- the graph is closed
abbrev pub LeadsToNodes : Graph → Type 0
LeadsToNodes graph = (has_node graph.nodes graph.entry ≡ true)
    × JumpsAmong (λ label. has_node graph.nodes label ≡ true) graph.nodes
