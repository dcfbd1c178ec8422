use Rattle.fixed_point_laws.proofs.TableLemmas.{tell-arms}
use Rattle.fixed_point_laws.proofs.tables.tables_tell_arms.Goals as goal

pub returns : goal.returns
returns c = tell-arms
