-- Small programs run as said.
use Rattle.std.proofs.Common.{refl}
use Rattle.cob_tree.specs.declared.place.Place.{out-Place, roll-Place}
use Rattle.cob_tree.specs.declared.place.Operand.{out-Operand}
use Rattle.cob_tree.specs.declared.cond.Cond.{out-Cond}
use Rattle.cob_tree.specs.declared.stmt.Stmt.{out-Stmt}
use Rattle.control_flow_theory.specs.semantics.Examples.{JumpsRunAs, FamiliesWalkAs, SourcesRunAs, NestedRunAs, BothRunAlike}

pub jumps_run : JumpsRunAs
unfolding out-Stmt out-Cond out-Place roll-Place out-Operand denote.Hole.Carrier.out denote.Hole.Carrier.roll
jumps_run = (refl, refl, refl, refl, refl, refl)

pub families_walk : FamiliesWalkAs
unfolding out-Stmt out-Cond out-Place roll-Place out-Operand denote.Hole.Carrier.out denote.Hole.Carrier.roll
families_walk = (refl, refl, refl)

pub sources_run : SourcesRunAs
unfolding out-Stmt out-Cond out-Place roll-Place out-Operand denote.Hole.Carrier.out denote.Hole.Carrier.roll
sources_run =
    (refl, refl, refl, refl, refl, refl, refl, refl, refl, refl, refl, refl, refl, refl, refl)

pub nested_run : NestedRunAs
unfolding out-Stmt out-Cond out-Place roll-Place out-Operand denote.Hole.Carrier.out denote.Hole.Carrier.roll
nested_run = (refl, refl, refl, refl, refl, refl, refl, refl, refl, refl)

pub both_run : BothRunAlike
unfolding out-Stmt out-Cond out-Place roll-Place out-Operand denote.Hole.Carrier.out denote.Hole.Carrier.roll
both_run = (refl, refl, refl, refl, refl)
