use Rattle.ref_format.proofs.TextStandsOnKeptLines as law
use Rattle.ref_format.proofs.laws.text_stands_on_kept_lines.Goals as goal

pub returns : goal.returns
returns c = law.text_stands_on_kept_lines
