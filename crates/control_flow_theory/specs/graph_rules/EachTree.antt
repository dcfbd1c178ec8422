-- Every part of a tree or a graph is so: each statement in it, and each choice at an end.
use Rattle.std.specs.Prelude.{List, [], ◌∷◌}
use Rattle.control_flow_theory.specs.language.Language.{Picker, Stmt}
use Rattle.control_flow_theory.specs.language.Each.{EachStmts}
use Rattle.control_flow_theory.specs.semantics.Graph.{Tree, tree, End, Pick, Jump, Return, Stop, Dead, Trees, no_more, more}
use Rattle.control_flow_theory.specs.graph_rules.Reduced.{Node}

module _ (At : Stmt → Type 0) (AtPick : Picker → Trees → Type 0) where
  abbrev mutual
    -- each statement and each choice of a tree is so
    pub EachTree : Tree → Type 0
    EachTree (tree body end) = EachStmts At body × EachEnd end

    -- each statement and each choice of an end is so
    pub EachEnd : End → Type 0
    EachEnd (Pick picker trees) = AtPick picker trees × EachTrees trees
    EachEnd (Jump to) = Unit {0}
    EachEnd Return = Unit {0}
    EachEnd Stop = Unit {0}
    EachEnd Dead = Unit {0}

    -- each statement and each choice of these trees is so
    pub EachTrees : Trees → Type 0
    EachTrees no_more = Unit {0}
    EachTrees (more first others) = EachTree first × EachTrees others

  -- each statement and each choice of these nodes is so
  abbrev pub EachNode : List Node → Type 0
  EachNode [] = Unit {0}
  EachNode (node ∷ nodes) = EachTree node.tree × EachNode nodes
