use Rattle.end_to_end_laws.proofs.results_lemmas.readable_results_lemmas.Results.{split-readable}
use Rattle.end_to_end_laws.proofs.results.readable_results.split_programs_are_readable.Goals as goal

pub returns : goal.returns
returns c = split-readable c.own_fits_spell.ensures c.programs_that_are_read_fit.ensures
