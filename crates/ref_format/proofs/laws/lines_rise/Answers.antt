use Rattle.ref_format.proofs.LinesRise as law
use Rattle.ref_format.proofs.laws.lines_rise.Goals as goal

pub returns : goal.returns
returns c = law.lines_rise
