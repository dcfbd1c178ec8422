use Rattle.std.proofs.Common.{refl}
use Rattle.cob_tree.specs.declared.place.Place.{out-Place, roll-Place}
use Rattle.cob_tree.specs.declared.place.Operand.{out-Operand}
use Rattle.cob_tree.specs.declared.cond.Cond.{out-Cond}
use Rattle.cob_tree.specs.declared.stmt.Stmt.{out-Stmt}
use Rattle.control_flow_theory.proofs.structuring_lemmas.closing.Examples.{closed-before, family-before}
use Rattle.control_flow_theory.proofs.structuring.worked_graphs_close_as_said.Goals as goal

pub returns-clause-exits : goal.returns-clause-exits
returns-clause-exits c = refl

pub returns-clause-state : goal.returns-clause-state
returns-clause-state c = refl

pub returns-clause-walks : goal.returns-clause-walks
unfolding out-Stmt out-Cond out-Place roll-Place out-Operand denote.Hole.Carrier.out denote.Hole.Carrier.roll
returns-clause-walks c = (refl, refl)

pub returns-clause-premises : goal.returns-clause-premises
returns-clause-premises c = (closed-before, family-before)

pub returns-clause-units : goal.returns-clause-units
unfolding out-Stmt out-Cond out-Place roll-Place out-Operand denote.Hole.Carrier.out denote.Hole.Carrier.roll
returns-clause-units c = refl
