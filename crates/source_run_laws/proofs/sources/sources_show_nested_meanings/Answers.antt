use Rattle.source_run_laws.proofs.SourceLemmas.{plain-shown, results-shown, sources-reached, sources-shown}
use Rattle.source_run_laws.proofs.sources.sources_show_nested_meanings.Goals as goal

pub returns-clause-shown : goal.returns-clause-shown
returns-clause-shown c = sources-shown c.runs_show_nested_meanings.ensures.shown

pub returns-clause-plain : goal.returns-clause-plain
returns-clause-plain c = plain-shown c.runs_show_nested_statements.ensures

pub returns-clause-reached : goal.returns-clause-reached
returns-clause-reached c = sources-reached c.runs_show_nested_meanings.ensures.reached

pub returns-clause-results : goal.returns-clause-results
returns-clause-results c = results-shown (sources-shown c.runs_show_nested_meanings.ensures.shown)
