use Rattle.end_to_end_laws.proofs.results_lemmas.restructured_programs_lemmas.FromSplit.{splits-restructured}
use Rattle.end_to_end_laws.proofs.results.restructured_programs.splits_are_restructured.Goals as goal

pub returns : goal.returns
returns c = splits-restructured
