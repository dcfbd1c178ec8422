use Rattle.meanings.proofs.plain_lemmas.Units.{structural-steady}
use Rattle.meanings.proofs.plain.more_units_show_more.Goals as goal

pub returns : goal.returns
returns c = structural-steady
