use Rattle.end_to_end_laws.proofs.results_lemmas.read_headline_lemmas.WellMade.{read-alike}
use Rattle.end_to_end_laws.proofs.results.read_headline.programs_that_are_read_behave_alike.Goals as goal

pub returns : goal.returns
returns c = read-alike
