use Rattle.end_to_end_laws.proofs.results_lemmas.result_procedures_lemmas.Ranges.{ranges}
use Rattle.end_to_end_laws.proofs.results.result_procedures.structured_procedures_are_ranges.Goals as goal

pub returns : goal.returns
returns c = ranges
