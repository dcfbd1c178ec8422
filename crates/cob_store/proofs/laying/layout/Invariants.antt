use Rattle.std.proofs.Common.{◌≡◌, ◌≤◌, drop, length}
use Rattle.cob_store.specs.Laying.{laid_from, nothing_laid}
use Rattle.cob_store.specs.Size.{sized}
use Rattle.cob_store.proofs.laying.layout.Given as goal

abbrev pub invariant-loop-entry : goal.invariant-loop-entry
invariant-loop-entry l = record { few : length l.laid.roots ≤ l.entry-index; same : laid_from l.laid (drop l.entry-index l.entries) l.sizes ≡ laid_from nothing_laid l.entries (sized l.entries).sizes }
