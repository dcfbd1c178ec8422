use Rattle.std.proofs.Common.{length}
use Rattle.symbol_tables.proofs.data_names.table.+are_within.Given as goal

abbrev pub decreases-are_within : goal.decreases-are_within
decreases-are_within l = length l.above.now
