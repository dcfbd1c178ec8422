use Rattle.procedure_split.proofs.report_lemmas.OneReport.{one-report}
use Rattle.procedure_split.proofs.report.laws.programs_have_one_report.Goals as goal

pub returns : goal.returns
returns c program summary other added one another is also first second =
    one-report program summary other added one another is also first second
