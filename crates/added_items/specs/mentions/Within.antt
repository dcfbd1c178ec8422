-- What trees within a loop name.
use Rattle.std.specs.Prelude.{List, [], ◌++◌}
use Rattle.control_flow_theory.specs.language.Language.{Stmts}
use Rattle.control_flow_theory.specs.semantics.Graph.{End, Trees, no_more, more}
use Rattle.control_flow_theory.specs.structuring.Closes.{none_left_out}
use Rattle.control_flow_theory.specs.structuring.Dispatches.{stated_end}
use Rattle.branch_tree.specs.declared.tree.Leaves.{Leaves}
use Rattle.branch_tree.specs.Tree.{jump_within, return_within, stated}
use Rattle.added_items.specs.mentions.CellUse.{cell_uses}
use Rattle.added_items.specs.declared.mentions.cell_use.CellUse.{CellUse}

-- the statements that an end is within a loop
abbrev pub end_within : Leaves → End → Stmts
end_within leaves end = stated_end none_left_out (jump_within leaves) (return_within leaves) end

-- tree after tree
abbrev pub trees_within : Leaves → Trees → List CellUse
trees_within leaves no_more = []
trees_within leaves (more first others) =
    cell_uses (stated leaves first) ++ trees_within leaves others
