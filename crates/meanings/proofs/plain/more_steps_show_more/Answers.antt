use Rattle.meanings.proofs.plain_lemmas.Growth.{source-grows, source-steady}
use Rattle.meanings.proofs.plain.more_steps_show_more.Goals as goal

pub returns-clause-grows : goal.returns-clause-grows
returns-clause-grows c = source-grows

pub returns-clause-steady : goal.returns-clause-steady
returns-clause-steady c = source-steady
