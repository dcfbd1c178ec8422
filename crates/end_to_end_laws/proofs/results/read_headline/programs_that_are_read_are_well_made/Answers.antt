use Rattle.end_to_end_laws.proofs.results_lemmas.read_headline_lemmas.WellMade.{well-made}
use Rattle.end_to_end_laws.proofs.results.read_headline.programs_that_are_read_are_well_made.Goals as goal

pub returns : goal.returns
returns c = well-made
