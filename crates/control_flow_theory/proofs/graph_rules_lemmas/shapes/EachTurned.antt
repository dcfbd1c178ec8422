-- Where every part is so, what follows from it holds of every part.
use Rattle.std.proofs.Common.{List, [], ◌∷◌}
use Rattle.control_flow_theory.specs.language.Language.{Picker, Stmt, Choose, Loop, Perform, Stmts, none, also, Arms, done, given, missing, Body, Nested, Performed}
use Rattle.control_flow_theory.specs.language.Each.{EachStmt, EachStmts, EachArm, EachBody}
use Rattle.control_flow_theory.specs.semantics.Graph.{Tree, tree, End, Pick, Jump, Return, Stop, Dead, Trees, no_more, more}
use Rattle.control_flow_theory.specs.graph_rules.Reduced.{Node}
use Rattle.control_flow_theory.specs.graph_rules.EachTree.{EachTree, EachEnd, EachTrees, EachNode}

module _ (At Then : Stmt → Type 0) (turn : (stmt : Stmt) → At stmt → Then stmt) where
  mutual
    stmt-turned : (stmt : Stmt) → EachStmt At stmt → EachStmt Then stmt
    stmt-turned (Choose picker arms) = λ h. (turn (Choose picker arms) h.0, arms-turned arms h.1)
    stmt-turned (Loop control body) = λ h. (turn (Loop control body) h.0, body-turned body h.1)
    stmt-turned stmt = λ h. turn stmt h

    pub stmts-turned : (stmts : Stmts) → EachStmts At stmts → EachStmts Then stmts
    stmts-turned none = λ h. tt
    stmts-turned (also stmt stmts) = λ h. (stmt-turned stmt h.0, stmts-turned stmts h.1)

    arms-turned : (arms : Arms) → EachArm At arms → EachArm Then arms
    arms-turned done = λ h. tt
    arms-turned (given arm others) = λ h. (stmts-turned arm h.0, arms-turned others h.1)
    arms-turned (missing others) = λ h. arms-turned others h

    body-turned : (body : Body) → EachBody At body → EachBody Then body
    body-turned (Nested stmts) = λ h. stmts-turned stmts h
    body-turned (Performed entry exit) = λ h. turn (Perform entry exit) h

  module _ (AtPick ThenPick : Picker → Trees → Type 0) (turn_pick : (picker : Picker) (trees : Trees) → AtPick picker trees → ThenPick picker trees) where
    mutual
      pub tree-turned : (t : Tree) → EachTree At AtPick t → EachTree Then ThenPick t
      tree-turned (tree body end) = λ h. (stmts-turned body h.0, end-turned end h.1)

      end-turned : (end : End) → EachEnd At AtPick end → EachEnd Then ThenPick end
      end-turned (Pick picker trees) = λ h. (turn_pick picker trees h.0, trees-turned trees h.1)
      end-turned (Jump to) = λ h. h
      end-turned Return = λ h. h
      end-turned Stop = λ h. h
      end-turned Dead = λ h. h

      trees-turned : (trees : Trees) → EachTrees At AtPick trees → EachTrees Then ThenPick trees
      trees-turned no_more = λ h. h
      trees-turned (more first others) = λ h. (tree-turned first h.0, trees-turned others h.1)

    pub nodes-turned : (nodes : List Node) → EachNode At AtPick nodes → EachNode Then ThenPick nodes
    nodes-turned [] h = tt
    nodes-turned (node ∷ nodes) h = (tree-turned node.tree h.0, nodes-turned nodes h.1)
