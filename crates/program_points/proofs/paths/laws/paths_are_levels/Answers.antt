use Rattle.program_points.proofs.paths_lemmas.Runs.{stands, levels-run}
use Rattle.program_points.proofs.paths.laws.paths_are_levels.Goals as goal

pub returns : goal.returns
returns c = λ never_first program base point pending. (stands never_first program base point pending, λ range l d. levels-run never_first program base range pending l point d)
