use Rattle.file_model.specs.Status.{other_row}
use Rattle.file_model.proofs.operations_lemmas.TakingLemmas.{length_noted}
use Rattle.file_model.proofs.operations.noting.noted.Goals as goal

pub returns-clause-rows : goal.returns-clause-rows
returns-clause-rows c = length_noted other_row c.args.table.now.rows c.note_other.new.self.rows c.args.file c.requires c.note_other.ensures
