use Rattle.control_flow_theory.proofs.main_theorem_lemmas.calls.CalledEarlier.{some-result-by-paths}
use Rattle.control_flow_theory.proofs.main_theorem.some_result_by_paths.Goals as goal

pub returns : goal.returns
returns g c = some-result-by-paths
