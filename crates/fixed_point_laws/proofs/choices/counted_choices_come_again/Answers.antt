use Rattle.fixed_point_laws.proofs.ChoiceLemmas.{come-again}
use Rattle.fixed_point_laws.proofs.choices.counted_choices_come_again.Goals as goal

pub returns : goal.returns
returns c = come-again
