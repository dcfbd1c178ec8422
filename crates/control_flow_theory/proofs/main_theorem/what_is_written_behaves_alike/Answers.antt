use Rattle.control_flow_theory.proofs.main_theorem_lemmas.Whole.{written-behaves, some-parts}
use Rattle.control_flow_theory.proofs.main_theorem.what_is_written_behaves_alike.Goals as goal

pub returns-clause-headline : goal.returns-clause-headline
returns-clause-headline g c = λ parts plan program can agree. written-behaves g.C.Carrying.carries parts plan program can agree

pub returns-clause-met : goal.returns-clause-met
returns-clause-met g c = some-parts
