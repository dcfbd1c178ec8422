use Rattle.control_flow_theory.proofs.main_theorem_lemmas.SomeResult.{some-result-behaves}
use Rattle.control_flow_theory.proofs.main_theorem.some_result_behaves.Goals as goal

pub returns : goal.returns
returns g c = some-result-behaves
