use Rattle.restructure_asks.proofs.LawLemmas.{due-comes, accepted-done, faulty-refused, refused-faulty, usage-comes, generated-comes, trial-comes}
use Rattle.restructure_asks.proofs.laws.due_answer_comes.Goals as goal

pub returns-clause-due : goal.returns-clause-due
returns-clause-due c = due-comes

pub returns-clause-usage : goal.returns-clause-usage
returns-clause-usage c = usage-comes

pub returns-clause-generated : goal.returns-clause-generated
returns-clause-generated c = generated-comes

pub returns-clause-tried : goal.returns-clause-tried
returns-clause-tried c = trial-comes

pub returns-clause-accepted : goal.returns-clause-accepted
returns-clause-accepted c = accepted-done

pub returns-clause-faulty : goal.returns-clause-faulty
returns-clause-faulty c = faulty-refused

pub returns-clause-flow : goal.returns-clause-flow
returns-clause-flow c = refused-faulty
