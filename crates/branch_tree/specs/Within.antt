-- What trees within a loop are stated as.
use Rattle.std.specs.Prelude.{ℕ}
use Rattle.control_flow_theory.specs.language.Language.{Picker, Stmts, Arms}
use Rattle.control_flow_theory.specs.semantics.Graph.{End, Trees}
use Rattle.control_flow_theory.specs.structuring.Closes.{none_left_out}
use Rattle.control_flow_theory.specs.structuring.Dispatches.{stated_end, stated_arms}
use Rattle.branch_tree.specs.declared.tree.Leaves.{Leaves}
use Rattle.branch_tree.specs.Tree.{jump_within, return_within}

-- the statements that an end is within a loop
abbrev pub end_within : Leaves → End → Stmts
end_within leaves end = stated_end none_left_out (jump_within leaves) (return_within leaves) end

-- the arms from one with this number on
abbrev pub arms_within : Leaves → Picker → ℕ → Trees → Arms
arms_within leaves picker k trees =
    stated_arms none_left_out (jump_within leaves) (return_within leaves) picker k trees
