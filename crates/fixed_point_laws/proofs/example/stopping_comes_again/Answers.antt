use Rattle.fixed_point_laws.proofs.ExampleLemmas.{comes-again}
use Rattle.fixed_point_laws.proofs.example.stopping_comes_again.Goals as goal

pub returns : goal.returns
returns c = comes-again
