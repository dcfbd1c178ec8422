use Rattle.ref_format.proofs.RowsAreRead as law
use Rattle.ref_format.proofs.laws.rows_are_read.Goals as goal

pub returns : goal.returns
returns c = law.rows_are_read
