use Rattle.end_to_end_laws.proofs.results_lemmas.result_procedures_lemmas.Result.{result-spelled}
use Rattle.end_to_end_laws.proofs.results.result_procedures.fit_results_are_spelled.Goals as goal

pub returns : goal.returns
returns c = result-spelled c.own_fits_spell.ensures
