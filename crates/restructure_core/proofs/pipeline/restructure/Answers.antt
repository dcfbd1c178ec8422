use Rattle.restructure_core.proofs.OneAnswer.{comes-unread, comes-past, comes-faulty, comes-limited, comes-done, comes-again}
use Rattle.restructure_core.proofs.pipeline.restructure.Goals as goal

pub returns-clause-unread : goal.returns-clause-unread
returns-clause-unread c = comes-unread c.args.bytes.now c.restructured.result c.restructured.ensures.done c.restructured.ensures.refused

pub returns-clause-ranges : goal.returns-clause-ranges
returns-clause-ranges c = comes-past c.args.bytes.now c.restructured.result c.restructured.ensures.done c.restructured.ensures.refused

pub returns-clause-faulty : goal.returns-clause-faulty
returns-clause-faulty c = comes-faulty c.args.bytes.now c.restructured.result c.restructured.ensures.done c.restructured.ensures.refused

pub returns-clause-past : goal.returns-clause-past
returns-clause-past c = comes-limited c.args.bytes.now c.restructured.result c.restructured.ensures.done c.restructured.ensures.refused

pub returns-clause-accepted : goal.returns-clause-accepted
returns-clause-accepted c = comes-done c.args.bytes.now c.restructured.result c.restructured.ensures.done c.restructured.ensures.refused

pub returns-clause-again : goal.returns-clause-again
returns-clause-again c = comes-again c.args.bytes.now c.restructured.result c.restructured.ensures.done c.restructured.ensures.refused c.results_are_fixed.ensures
