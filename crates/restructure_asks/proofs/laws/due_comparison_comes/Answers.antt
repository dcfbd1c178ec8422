use Rattle.restructure_asks.proofs.CompareLawLemmas.{comparisons-tell, due-comparison, one-comparison}
use Rattle.restructure_asks.proofs.laws.due_comparison_comes.Goals as goal

pub returns-clause-one : goal.returns-clause-one
returns-clause-one c = one-comparison

pub returns-clause-due : goal.returns-clause-due
returns-clause-due c = due-comparison

pub returns-clause-tells : goal.returns-clause-tells
returns-clause-tells c = comparisons-tell
