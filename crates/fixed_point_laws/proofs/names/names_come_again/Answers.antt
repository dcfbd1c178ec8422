use Rattle.fixed_point_laws.proofs.NameLemmas.{parts-keep, reads-alike, acts-so, choosers-again}
use Rattle.fixed_point_laws.proofs.names.names_come_again.Goals as goal

pub returns-clause-parts : goal.returns-clause-parts
returns-clause-parts c = parts-keep

pub returns-clause-reads : goal.returns-clause-reads
returns-clause-reads c = reads-alike

pub returns-clause-acts : goal.returns-clause-acts
returns-clause-acts c = acts-so

pub returns-clause-choosers : goal.returns-clause-choosers
returns-clause-choosers c = choosers-again
