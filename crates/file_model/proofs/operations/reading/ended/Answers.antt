use Rattle.std.proofs.Common.{true}
use Rattle.file_model.specs.Status.{read_row}
use Rattle.file_model.proofs.operations_lemmas.TakingLemmas.{length_noted}
use Rattle.file_model.proofs.operations.reading.ended.Goals as goal

pub returns-clause-rows : goal.returns-clause-rows
returns-clause-rows c = length_noted (read_row true) c.args.table.now.rows c.note_read.new.self.rows c.args.file c.requires c.note_read.ensures
