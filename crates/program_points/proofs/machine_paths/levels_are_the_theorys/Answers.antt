use Rattle.program_points.proofs.machine_paths_lemmas.Uncounting.{u-again}
use Rattle.std.proofs.Common.{sym}
use Rattle.program_points.specs.machine_paths.Uncounted.{point_at}
use Rattle.program_points.proofs.machine_paths_lemmas.SameLevels.{comes-here, comes-back}
use Rattle.program_points.proofs.machine_paths.levels_are_the_theorys.Goals as goal

pub returns : goal.returns
returns c = λ told program source some range number rest. (comes-here told program source some range number rest, λ d. comes-back told program source some range (point_at number rest) d rest (sym (u-again rest)))
