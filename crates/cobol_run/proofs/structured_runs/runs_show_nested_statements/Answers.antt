use Rattle.cobol_run.proofs.structured_runs_lemmas.Shown.{nested-shown}
use Rattle.cobol_run.proofs.structured_runs.runs_show_nested_statements.Goals as goal

pub returns : goal.returns
returns c =
    nested-shown c.a_structured_program_behaves_as_itself.ensures.same
    c.a_structured_program_behaves_as_itself.ensures.faultless
