use Rattle.std.proofs.Common.{ℕ, List, length, sym, subst}
use Rattle.pending_returns.specs.Tabled.{AllBelow}
use Rattle.pending_returns.proofs.faults.fault.fault_at.Goals as goal

pub ends_one-requires : goal.ends_one-requires
ends_one-requires c = subst (λ (ns : List ℕ). AllBelow (length c.args.levels.now) ns) (sym c.as_slice.ensures) c.requires
