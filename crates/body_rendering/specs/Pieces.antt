-- What is written of a body, of the arms of its choices, and of a tree within a loop.
use Rattle.std.specs.Prelude.{◌≡◌, List, ◌++◌, map}
use Rattle.cob_tree.specs.declared.stmt.Stmt.{Stmt}
use Rattle.control_flow_theory.specs.language.Control.{seen, seen_stmts}
use Rattle.control_flow_theory.specs.language.Language.{Choose, Stmts}
use Rattle.control_flow_theory.specs.language.Language as language
use Rattle.control_flow_theory.specs.graph_rules.Shapes.{arm_stmts, followed}
use Rattle.control_flow_theory.specs.structuring.Closes.{none_left_out}
use Rattle.control_flow_theory.specs.structuring.Dispatches.{stated_arms, stated_end}
use Rattle.branch_tree.specs.Choosers.{seen_picker}
use Rattle.branch_tree.specs.Tree.{seen_tree, seen_trees, seen_end, stated, jump_within, return_within}
use Rattle.branch_tree.specs.declared.chooser.Picker.{Picker}
use Rattle.branch_tree.specs.declared.tree.End.{End}
use Rattle.branch_tree.specs.declared.tree.Leaves.{Leaves}
use Rattle.branch_tree.specs.declared.tree.Tree.{Tree}
use Rattle.statement_builders.specs.arms.Placing.{ArePlaced}
use Rattle.statement_builders.specs.arms.Written.{Way, written, all_written}
use Rattle.statement_builders.specs.declared.arms.placing.ProcedurePlace.{ProcedurePlace}
use Rattle.statement_builders.specs.item_words.Words.{AreItems, EachWay}
use Rattle.statement_builders.specs.declared.item_words.cells.CellItem.{CellItem}

-- words on cells are added, whatever is performed
abbrev pub AddsWords : List CellItem → Stmts → (old new : List Stmt) → Type 0
AddsWords cells stmts old new = EachWay cells
    (λ way. seen_stmts 0 new ≡ followed (seen_stmts 0 old) (all_written way stmts))

module _ (cells : List CellItem) (places : List ProcedurePlace) where
  -- it holds of each way with these items and places
  abbrev pub Each : (Way → Type 0) → Type 0
  Each Holds = (way : Way) → AreItems way cells → ArePlaced way.place places → Holds way

  -- the statement is what is written of this one
  abbrev pub IsMade : language.Stmt → Stmt → Type 0
  IsMade stmt made = Each (λ way. seen 0 made ≡ written way stmt)

  -- the statements are what is written of these
  abbrev pub AreMade : Stmts → List Stmt → Type 0
  AreMade stmts made = Each (λ way. seen_stmts 0 made ≡ all_written way stmts)

  -- what is written of these statements is added
  abbrev pub AddsStmts : Stmts → (old new : List Stmt) → Type 0
  AddsStmts stmts old new =
      Each (λ way. seen_stmts 0 new ≡ followed (seen_stmts 0 old) (all_written way stmts))

  -- a list for each arm
  abbrev pub AddsLists : (Tree → Stmts) → List Tree → (old new : List (List Stmt)) → Type 0
  AddsLists stmts_in arms old new =
      Each (λ way. map (seen_stmts 0) new
      ≡ map (seen_stmts 0) old ++ map (all_written way) (map stmts_in arms))

-- the statements of an arm
abbrev pub within_arm : Tree → Stmts
within_arm arm = arm_stmts (seen_tree arm)

-- the statements of a tree within a loop
abbrev pub within_loop : Leaves → Tree → Stmts
within_loop leaves tree = stated leaves (seen_tree tree)

-- the statements of an end within a loop
abbrev pub end_stmts : Leaves → End → Stmts
end_stmts leaves end =
    stated_end none_left_out (jump_within leaves) (return_within leaves) (seen_end end)

-- a choice whose arms are trees within a loop
abbrev pub stated_choice : Leaves → Picker → List Tree → language.Stmt
stated_choice leaves by arms =
    Choose (seen_picker by) (stated_arms none_left_out (jump_within leaves) (return_within leaves)
    (seen_picker by) 0 (seen_trees arms))
