-- What Join answers, and leaves.
use Rattle.std.specs.Prelude.{◌≡◌, Bool, true, false, is_some, Result, Ok, Err}
use Rattle.cob_base.specs.declared.memory.NoMemory.{NoMemory}
use Rattle.control_flow_theory.specs.language.Language.{Stmts, Picker, Choose}
use Rattle.control_flow_theory.specs.semantics.Graph.{Label, Tree, tree, End, Trees}
use Rattle.control_flow_theory.specs.graph_rules.Shapes.{followed, alone, arms_stmts, joined, joined_once, once_arms}
use Rattle.control_flow_theory.specs.graph_rules.Reduced.{Graph, tree_in, with_tree}

-- a choice as a statement after a body, and then this end
abbrev pub choice_then : Stmts → Picker → Trees → End → Tree
choice_then body picker arms end =
    tree (followed body (alone (Choose picker (arms_stmts arms)))) end

-- some choice of the tree may be joined
abbrev pub may_join : Tree → Bool
may_join t = is_some (joined_once t)

-- some choice within these arms may be joined
abbrev pub arms_may_join : Trees → Bool
arms_may_join arms = is_some (once_arms arms)

-- true with all joins made, exactly where there is one; else, and without memory, the tree is as it
-- was
abbrev pub JoinsAll : Result Bool NoMemory → Tree → Tree → Type 0
JoinsAll (Ok true) old new = (may_join old ≡ true) × (new ≡ joined old)
JoinsAll (Ok false) old new = (may_join old ≡ false) × (new ≡ old)
JoinsAll (Err fault) old new = new ≡ old

-- the graph with all joins in the tree at the label
abbrev pub joined_at : Label → Graph → Graph
joined_at label graph = record {
  entry = graph.entry;
  nodes = with_tree label (joined (tree_in graph.nodes label)) graph.nodes;
  added = graph.added;
}

-- true with all joins made in that tree, exactly where there is one; without memory the graph is as
-- it was
abbrev pub JoinsAt : Result Bool NoMemory → Label → Graph → Graph → Type 0
JoinsAt (Ok some) label old new = (may_join (tree_in old.nodes label) ≡ some)
    × (new ≡ joined_at label old)
JoinsAt (Err fault) label old new = new ≡ old
