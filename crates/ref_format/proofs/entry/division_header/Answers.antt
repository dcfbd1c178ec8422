use Rattle.std.proofs.Common.{rules}
use Rattle.ref_format.specs.Entry.{division_headers}
use Rattle.ref_format.proofs.entry.division_header.Goals as goal

pub returns-then-card-eq32 : goal.returns-then-card-eq32
unfolding division_headers
returns-then-card-eq32 c = search rules
