use Rattle.std.proofs.Common.{false, length, refl}
use Rattle.file_model.specs.Attempts.{Address, opened_at}
use Rattle.file_model.specs.operations.Calls.{addresses_of}
use Rattle.cob_act.proofs.files_lemmas.BenchLemmas.{done_over, none_asked}
use Rattle.cob_act.proofs.files_lemmas.DeskLemmas.{beyond, past_opened, stays_over, tried_over}
use Rattle.cob_act.proofs.files.desk.open.Goals as goal

pub returns-clause-bench : goal.returns-clause-bench
returns-clause-bench g c =
    done_over c.args.files.now c.args.opening.file c.open.result _ _ _ _ c.args.table.now.rows c.open.new.table.rows (c.if-not-has_row.ensures.file refl) c.open.ensures.bench c.open.ensures.notes

pub returns-clause-breaks : goal.returns-clause-breaks
returns-clause-breaks g c = λ world.
    stays_over c.args.files.now c.args.opening.file c.open.result _ _ _ _ c.args.table.now.rows c.open.new.table.rows world (λ (address : Address). opened_at world (addresses_of c.args.files.now) c.args.opening.file address c.args.opening.how) (c.if-not-has_row.ensures.file refl) c.open.ensures.bench c.open.ensures.notes
    (c.open.ensures.world world)

pub returns-then-not-has_row-clause-bench : goal.returns-then-not-has_row-clause-bench
returns-then-not-has_row-clause-bench g c = none_asked c.args.files.now c.args.bench.now.left _

pub returns-clause-does : goal.returns-clause-does
returns-clause-does g c = λ world.
    tried_over c.args.files.now c.args.opening.file c.open.result _ _ _ _ c.args.table.now.rows c.open.new.table.rows world (λ (address : Address). opened_at world (addresses_of c.args.files.now) c.args.opening.file address c.args.opening.how) (c.if-not-has_row.ensures.file refl) c.open.ensures.rows c.open.ensures.bench
    (c.open.ensures.world world)

pub returns-then-not-has_row-clause-does : goal.returns-then-not-has_row-clause-does
returns-then-not-has_row-clause-does g c = λ world over.
    past_opened c.args.files.now _ c.args.table.now.rows world c.args.opening.file c.args.opening.how (beyond false (length c.args.table.now.rows) (length c.args.files.now) c.args.opening.file c.if-not-has_row.ensures.has refl over.rows over.few) over
