use Rattle.structured_run_laws.proofs.AgreementLemmas.{are-tied, show-alike, stop-alike}
use Rattle.structured_run_laws.proofs.agreement.both_meanings_agree.Goals as goal

pub returns-clause-tied : goal.returns-clause-tied
returns-clause-tied c = are-tied

pub returns-clause-stop : goal.returns-clause-stop
returns-clause-stop c = stop-alike

pub returns-clause-show : goal.returns-clause-show
returns-clause-show c = show-alike
