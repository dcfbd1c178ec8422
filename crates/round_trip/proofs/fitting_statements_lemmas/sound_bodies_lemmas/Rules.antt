-- All rules on graphs keep them sound.
use Rattle.std.proofs.Common.{ℕ, Bool, le-leb, sym, subst}
use Rattle.control_flow_theory.specs.language.Language.{Simple}
use Rattle.control_flow_theory.specs.lowering.WellFormed.{tree_count}
use Rattle.control_flow_theory.proofs.structuring_lemmas.closing.EachKept.{as-many-count, BearsRules, closed-each}
use Rattle.round_trip.specs.fitting_statements.sound_bodies.Sound.{two_arms, PickerIsSound, IsSound}
use Rattle.round_trip.specs.fitting_statements.sound_bodies.Trees.{PickIsSound}
use Rattle.round_trip.specs.fitting_statements.sound_bodies.Laws.{RulesKeepSoundness}

pub bears-rules : (begins : Simple → Bool) (enough : (cell arms : ℕ) → Bool) → BearsRules (IsSound begins enough) (PickIsSound begins enough)
bears-rules begins enough = record {
  stops = tt;
  sets = λ cell value. tt;
  loops = λ after test body. tt;
  picks = λ picker trees arms many h. subst (PickerIsSound begins enough picker) (sym (as-many-count trees arms many)) h;
  counts = λ picker one other same h. subst (PickerIsSound begins enough picker) (sym same) h;
}

pub closed-sound : RulesKeepSoundness
closed-sound = λ begins graph h. closed-each (IsSound begins two_arms) (PickIsSound begins two_arms) (bears-rules begins two_arms) (λ cell trees two. le-leb 2 (tree_count trees) two) graph h
