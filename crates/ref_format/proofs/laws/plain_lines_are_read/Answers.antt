use Rattle.ref_format.proofs.PlainLinesAreRead as law
use Rattle.ref_format.proofs.laws.plain_lines_are_read.Goals as goal

pub returns : goal.returns
returns c = law.plain_lines_are_read
