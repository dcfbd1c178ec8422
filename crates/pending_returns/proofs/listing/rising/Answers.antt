use Rattle.std.proofs.Common.{ℕ, List, subst, sym}
use Rattle.pending_returns.specs.Tabled.{Orders}
use Rattle.pending_returns.proofs.Ordering.{orders}
use Rattle.pending_returns.proofs.listing.rising.Goals as goal

pub returns : goal.returns
returns c =
    let sorted = c.sort_unstable.new.self.items in
    subst (λ (ns : List ℕ). Orders c.args.numbers.now ns) (sym c.from_vec.ensures)
    (orders c.args.numbers.now c.in_ok-sorted.sorted.items sorted c.in_ok-sorted.ensures.items c.requires.once c.sort_unstable.ensures.permutation c.sort_unstable.ensures.sorted)
