use Rattle.procedure_split.proofs.shaped_ranges_lemmas.Planning.{are-planned}
use Rattle.procedure_split.proofs.shaped_ranges.laws.ranges_are_planned.Goals as goal

pub returns : goal.returns
returns c = are-planned
