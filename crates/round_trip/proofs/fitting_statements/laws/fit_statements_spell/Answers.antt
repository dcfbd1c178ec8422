use Rattle.std.proofs.Common.{arith, suc}
use Rattle.round_trip.proofs.fitting_statements_lemmas.Spelled as spelled
use Rattle.round_trip.proofs.fitting_statements.laws.fit_statements_spell.Goals as goal

pub returns : goal.returns
returns g c program F levels scope list filled fit scoped depth =
    spelled.spelled F (suc levels) scope list (record { filled = filled; fit = fit; scoped = scoped; depth = omega arith })
