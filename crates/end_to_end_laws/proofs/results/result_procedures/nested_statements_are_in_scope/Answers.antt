use Rattle.end_to_end_laws.proofs.results_lemmas.result_procedures_lemmas.Scope.{in-scope}
use Rattle.end_to_end_laws.proofs.results.result_procedures.nested_statements_are_in_scope.Goals as goal

pub returns : goal.returns
returns c = in-scope
