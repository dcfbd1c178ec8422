use Rattle.trace_compare.proofs.DifferingLemmas.{turned}
use Rattle.trace_compare.proofs.laws.the_answer_is_the_same_the_other_way_round.Goals as goal

pub returns : goal.returns
returns c = turned
