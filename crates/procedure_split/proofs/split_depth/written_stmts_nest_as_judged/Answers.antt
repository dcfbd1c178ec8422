use Rattle.procedure_split.proofs.split_depth_lemmas.Exact.{stmts-exact}
use Rattle.procedure_split.proofs.split_depth.written_stmts_nest_as_judged.Goals as goal

pub returns : goal.returns
returns c way stmts h = stmts-exact way stmts h
