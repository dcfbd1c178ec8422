use Rattle.std.proofs.Common.{sym, ◌∙◌}
use Rattle.cob_store.proofs.Occurrence.{none_left}
use Rattle.cob_store.proofs.place.occurrence_at.Goals as goal

pub returns-in_default : goal.returns-in_default
returns-in_default c = sym (none_left _ c.loop-offset.left.now c.loop-offset.at c.in_default.ensures.cases) ∙ c.loop-offset.invariant
