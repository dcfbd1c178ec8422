use Rattle.procedure_split.proofs.written_depth_lemmas.Written.{stmts-below}
use Rattle.procedure_split.proofs.written_depth.written_bodies_nest_as_judged.Goals as goal

pub returns : goal.returns
returns c naming place range leaves stmts h = stmts-below naming place range leaves stmts h
