use Rattle.std.proofs.Common.{◌≡◌, drop, false}
use Rattle.meanings.specs.statements.Arithmetic.{all_targeted}
use Rattle.cob_act.specs.Arithmetic.{seen_basis}
use Rattle.cob_act.proofs.arithmetic.calculated.Given as goal

abbrev pub invariant-loop-target : goal.invariant-loop-target
invariant-loop-target l = all_targeted l.areas l.guarded (seen_basis l.basis) l.failed l.store (drop l.target-index l.targets) ≡ all_targeted l.areas l.guarded (seen_basis l.basis) false l.initial.store l.targets
