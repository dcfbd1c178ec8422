-- All rules on graphs keep the arms of choices.
use Rattle.std.proofs.Common.{◌≡◌, ◌≤◌, true, false, refl, arith}
use Rattle.control_flow_theory.specs.language.Language.{Evaluate, Read, Arith, Depending, Picker, If, By, ByCell, Stmts, Arms, done, given, missing}
use Rattle.control_flow_theory.specs.semantics.Graph.{Trees, no_more, more}
use Rattle.control_flow_theory.specs.lowering.WellFormed.{tree_count}
use Rattle.control_flow_theory.proofs.structuring_lemmas.closing.EachKept.{AsMany, BearsRules, closed-each}
use Rattle.procedure_split.specs.split_depth.Arms.{HasArms, ChoiceHasArms}
use Rattle.procedure_split.specs.kept_arms.Trees.{SomeTree, PickHasArms}
use Rattle.procedure_split.specs.kept_arms.Laws.{RulesKeepArms}

-- whatever chooses, a first arm that is there is enough
full-has : (picker : Picker) (arm : Stmts) (others : Arms) → HasArms picker (given arm others)
full-has (If test) arm others = refl
full-has (By (Evaluate subject tests has_other)) arm others = refl
full-has (By (Read file into true)) arm others = refl
full-has (By (Read file into false)) arm others = refl
full-has (By (Arith calc into)) arm others = refl
full-has (By (Depending on names)) arm others = refl
full-has (ByCell cell) arm others = refl

chosen-has : (picker : Picker) (trees : Trees) (arms : Arms) → AsMany trees arms → SomeTree trees → HasArms picker arms
chosen-has picker no_more arms many some = absurd some
chosen-has picker (more first others) done many some = absurd many
chosen-has picker (more first others) (given arm arms) many some = full-has picker arm arms
chosen-has picker (more first others) (missing arms) many some = absurd many

counted-some : (one other : Trees) → tree_count other ≡ tree_count one → SomeTree one → SomeTree other
counted-some no_more other same some = absurd some
counted-some (more first others) no_more same some = absurd (omega (arith, same))
counted-some (more first others) (more one rest) same some = tt

two-some : (trees : Trees) → 2 ≤ tree_count trees → SomeTree trees
two-some no_more two = absurd (omega (arith, two))
two-some (more first others) two = tt

pub bears-rules : BearsRules ChoiceHasArms PickHasArms
bears-rules = record {
  stops = tt;
  sets = λ cell value. tt;
  loops = λ after test body. tt;
  picks = chosen-has;
  counts = λ picker one other same some. counted-some one other same some;
}

pub closed-has : RulesKeepArms
closed-has = closed-each ChoiceHasArms PickHasArms bears-rules (λ cell trees two. two-some trees two)
