-- What the rules make of the arms of a choice: as many, and nothing of a first one that is Dead.
use Rattle.std.proofs.Common.{◌≡◌, ℕ, suc, refl, ap, sym, ◌∙◌, subst}
use Rattle.control_flow_theory.specs.language.Language.{Picker, Stmts, none, Arms, given}
use Rattle.control_flow_theory.specs.semantics.Graph.{Label, Tree, Trees, no_more, more}
use Rattle.control_flow_theory.specs.lowering.WellFormed.{IsFirstDead}
use Rattle.control_flow_theory.specs.graph_rules.Loops.{Keeper}
use Rattle.control_flow_theory.specs.graph_rules.Shapes.{arm_stmts, arms_stmts, joined, joined_arms, inlined, inlined_arms, flat, flat_arms}
use Rattle.control_flow_theory.specs.structuring.Dispatches.{stated_tree, stated_arms}
use Rattle.control_flow_theory.specs.structuring.Closes.{none_left_out}
use Rattle.control_flow_theory.specs.main_theorem.Chain.{StartsEmpty, MayBecome}
use Rattle.control_flow_theory.proofs.main_theorem_lemmas.graphs.ArmCounts.{joined-count, arms-count, inlined-count, flat-count, stated-count}

-- an arm with nothing in it
starts : (arm : Stmts) (others : Arms) → arm ≡ none → StartsEmpty (given arm others)
starts arm others is = subst (λ s. StartsEmpty (given s others)) (sym is) tt

pub arms-become : (arms : Trees) → MayBecome arms (arms_stmts arms)
arms-become no_more = record { as_many = refl; dead = λ d. tt }
arms-become (more first others) = record {
  as_many = arms-count (more first others);
  dead = λ d. starts (arm_stmts first) (arms_stmts others) (ap arm_stmts d);
}

pub flat-becomes : (keeper : Keeper) (cell : ℕ) (label : Label) (arms : Trees) → MayBecome arms (flat_arms keeper cell label arms)
flat-becomes keeper cell label no_more = record { as_many = refl; dead = λ d. tt }
flat-becomes keeper cell label (more first others) = record {
  as_many = flat-count keeper cell label (more first others);
  dead = λ d. starts (flat keeper cell label first) (flat_arms keeper cell label others) (ap (flat keeper cell label) d);
}

pub stated-becomes : (jump : Label → Stmts) (return : Stmts) (picker : Picker) (k : ℕ) (arms : Trees) → MayBecome arms (stated_arms none_left_out jump return picker k arms)
stated-becomes jump return picker k no_more = record { as_many = refl; dead = λ d. tt }
stated-becomes jump return picker k (more first others) = record {
  as_many = stated-count jump return picker k (more first others);
  dead = λ d. starts (stated_tree none_left_out jump return first) (stated_arms none_left_out jump return picker (suc k) others) (ap (stated_tree none_left_out jump return) d);
}

-- what Join and Inline leave of a first arm that is Dead is Dead

joined-dead : (arms : Trees) → IsFirstDead arms → IsFirstDead (joined_arms arms)
joined-dead no_more d = d
joined-dead (more first others) d = ap joined d

pub joined-becomes : (trees : Trees) (arms : Arms) → MayBecome (joined_arms trees) arms → MayBecome trees arms
joined-becomes trees arms m = record { as_many = m.as_many ∙ joined-count trees; dead = λ d. m.dead (joined-dead trees d) }

inlined-dead : (label : Label) (node : Tree) (arms : Trees) → IsFirstDead arms → IsFirstDead (inlined_arms label node arms)
inlined-dead label node no_more d = d
inlined-dead label node (more first others) d = ap (inlined label node) d

pub inlined-becomes : (label : Label) (node : Tree) (trees : Trees) (arms : Arms) → MayBecome (inlined_arms label node trees) arms → MayBecome trees arms
inlined-becomes label node trees arms m = record { as_many = m.as_many ∙ inlined-count label node trees; dead = λ d. m.dead (inlined-dead label node trees d) }
