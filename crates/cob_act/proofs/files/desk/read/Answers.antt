use Rattle.std.proofs.Common.{false, length, refl}
use Rattle.file_model.specs.Attempts.{Address, read_at}
use Rattle.file_model.specs.Status.{may_read}
use Rattle.cob_act.proofs.files_lemmas.BenchLemmas.{done_over, none_asked}
use Rattle.cob_act.proofs.files_lemmas.DeskLemmas.{beyond, past_row, record_came, stays_over, tried_over}
use Rattle.cob_act.proofs.files.desk.read.Goals as goal

pub returns-clause-bench : goal.returns-clause-bench
returns-clause-bench g c =
    done_over c.args.files.now c.args.file c.read.result _ _ _ _ c.args.table.now.rows c.read.new.table.rows (c.if-not-has_row.ensures.file refl) c.read.ensures.bench c.read.ensures.notes

pub returns-clause-breaks : goal.returns-clause-breaks
returns-clause-breaks g c = λ world.
    stays_over c.args.files.now c.args.file c.read.result _ _ _ _ c.args.table.now.rows c.read.new.table.rows world (λ (address : Address). read_at world c.args.file address (length c.args.into.now)) (c.if-not-has_row.ensures.file refl) c.read.ensures.bench c.read.ensures.notes
    (c.read.ensures.world world)

pub returns-then-not-has_row-clause-bench : goal.returns-then-not-has_row-clause-bench
returns-then-not-has_row-clause-bench g c = none_asked c.args.files.now c.args.bench.now.left _

pub returns-clause-does : goal.returns-clause-does
returns-clause-does g c = λ world.
    tried_over c.args.files.now c.args.file c.read.result _ _ _ _ c.args.table.now.rows c.read.new.table.rows world (λ (address : Address). read_at world c.args.file address (length c.args.into.now)) (c.if-not-has_row.ensures.file refl) c.read.ensures.rows c.read.ensures.bench
    (c.read.ensures.world world)

pub returns-clause-record : goal.returns-clause-record
returns-clause-record g c = λ world.
    record_came c.args.files.now c.args.file c.read.result _ _ c.args.table.now.rows world c.read.new.into (λ (address : Address). read_at world c.args.file address (length c.args.into.now)) (c.if-not-has_row.ensures.file refl)
    (c.read.ensures.record world)

pub returns-then-not-has_row-clause-does : goal.returns-then-not-has_row-clause-does
returns-then-not-has_row-clause-does g c = λ world over.
    past_row c.args.files.now _ c.args.table.now.rows world c.args.file 47 may_read _ refl refl (beyond false (length c.args.table.now.rows) (length c.args.files.now) c.args.file c.if-not-has_row.ensures.has refl over.rows over.few) over
