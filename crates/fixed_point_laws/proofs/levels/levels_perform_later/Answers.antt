use Rattle.fixed_point_laws.proofs.LevelLemmas.{perform-later, are-paragraphs}
use Rattle.fixed_point_laws.proofs.levels.levels_perform_later.Goals as goal

pub returns-clause-later : goal.returns-clause-later
returns-clause-later c = perform-later

pub returns-clause-entered : goal.returns-clause-entered
returns-clause-entered c = are-paragraphs
