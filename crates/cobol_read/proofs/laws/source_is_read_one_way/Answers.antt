use Rattle.cobol_read.proofs.OneWay.{one_way}
use Rattle.cobol_read.proofs.laws.source_is_read_one_way.Goals as goal

pub returns : goal.returns
returns c = one_way
