-- What is found.
use Rattle.std.specs.Prelude.{Bool}
use Rattle.control_flow_theory.specs.language.Language.{Chooser, Program}
use Rattle.program_points.specs.declared.paths.trail.Trail.{Trail}
use Rattle.program_points.specs.paths.Accepted.{IsAccepted, NoneTwice, lemma_ranges, hop_ranges}

-- the trail is accepted, with no range twice among its lemmas or among its hops
pub record IsFound (never_first : Chooser → Bool) (program : Program) (trail : Trail) : Type 0 where
  pub accepted : IsAccepted never_first program trail
  pub lemmas_once : NoneTwice (lemma_ranges trail.lemmas)
  pub hops_once : NoneTwice (hop_ranges trail.hops)
