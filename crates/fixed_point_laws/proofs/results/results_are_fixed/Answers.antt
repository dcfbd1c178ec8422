use Rattle.fixed_point_laws.proofs.ResultLemmas.{are-fixed}
use Rattle.fixed_point_laws.proofs.results.results_are_fixed.Goals as goal

pub returns : goal.returns
returns c = are-fixed c.split_programs_read_back.ensures
