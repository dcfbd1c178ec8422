use Rattle.fixed_point_laws.proofs.RangeLemmas.{name-few, pass-none}
use Rattle.fixed_point_laws.proofs.ranges.structured_programs_name_few.Goals as goal

pub returns-clause-few : goal.returns-clause-few
returns-clause-few c = name-few

pub returns-clause-within : goal.returns-clause-within
returns-clause-within c = pass-none
