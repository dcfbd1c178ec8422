use Rattle.end_to_end_laws.proofs.results_lemmas.result_procedures_lemmas.Paragraphs.{split-have}
use Rattle.end_to_end_laws.proofs.results.result_procedures.split_programs_have_procedures.Goals as goal

pub returns : goal.returns
returns c = split-have
