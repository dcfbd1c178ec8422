-- No rule changes how many arms a choice has.
use Rattle.std.proofs.Common.{◌≡◌, ℕ, suc, refl, ap}
use Rattle.control_flow_theory.specs.language.Language.{Picker, Stmts}
use Rattle.control_flow_theory.specs.semantics.Graph.{Label, Tree, Trees, no_more, more}
use Rattle.control_flow_theory.specs.lowering.WellFormed.{tree_count}
use Rattle.control_flow_theory.specs.rendering.Rendering.{count_arms}
use Rattle.control_flow_theory.specs.graph_rules.Loops.{Keeper}
use Rattle.control_flow_theory.specs.graph_rules.Shapes.{Targets, NoTarget, Only, Several, both_targets, arms_stmts, joined_arms, inlined_arms, flat_arms}
use Rattle.control_flow_theory.specs.structuring.Dispatches.{stated_arms}
use Rattle.control_flow_theory.specs.structuring.Closes.{none_left_out}

pub last-several : (t : Targets) → both_targets t Several ≡ Several
last-several NoTarget = refl
last-several (Only live) = refl
last-several Several = refl

pub joined-count : (arms : Trees) → tree_count (joined_arms arms) ≡ tree_count arms
joined-count no_more = refl
joined-count (more first others) = ap suc (joined-count others)

pub arms-count : (arms : Trees) → count_arms (arms_stmts arms) ≡ tree_count arms
arms-count no_more = refl
arms-count (more first others) = ap suc (arms-count others)

pub inlined-count : (label : Label) (node : Tree) (arms : Trees) → tree_count (inlined_arms label node arms) ≡ tree_count arms
inlined-count label node no_more = refl
inlined-count label node (more first others) = ap suc (inlined-count label node others)

pub flat-count : (keeper : Keeper) (cell : ℕ) (label : Label) (arms : Trees) → count_arms (flat_arms keeper cell label arms) ≡ tree_count arms
flat-count keeper cell label no_more = refl
flat-count keeper cell label (more first others) = ap suc (flat-count keeper cell label others)

pub stated-count : (jump : Label → Stmts) (return : Stmts) (picker : Picker) (k : ℕ) (arms : Trees) → count_arms (stated_arms none_left_out jump return picker k arms) ≡ tree_count arms
stated-count jump return picker k no_more = refl
stated-count jump return picker k (more first others) = ap suc (stated-count jump return picker (suc k) others)
