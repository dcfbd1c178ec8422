use Rattle.source_run_laws.proofs.AskLemmas.{asked-results, asked-shown}
use Rattle.source_run_laws.proofs.asks.asked_runs_show_nested_meanings.Goals as goal

pub returns-clause-shown : goal.returns-clause-shown
returns-clause-shown c = asked-shown c.sources_show_nested_meanings.ensures.shown

pub returns-clause-results : goal.returns-clause-results
returns-clause-results c = asked-results c.sources_show_nested_meanings.ensures.shown
