use Rattle.std.proofs.Common.{false, length, refl}
use Rattle.file_model.specs.Attempts.{Address, rewritten_at}
use Rattle.file_model.specs.Status.{may_rewrite}
use Rattle.cob_act.proofs.files_lemmas.BenchLemmas.{done_over, none_asked}
use Rattle.cob_act.proofs.files_lemmas.DeskLemmas.{beyond, past_row, stays_over, tried_over}
use Rattle.cob_act.proofs.files.desk.rewrite.Goals as goal

pub returns-clause-bench : goal.returns-clause-bench
returns-clause-bench g c =
    done_over c.args.files.now c.args.file c.rewrite.result _ _ _ _ c.args.table.now.rows c.rewrite.new.table.rows (c.if-not-has_row.ensures.file refl) c.rewrite.ensures.bench c.rewrite.ensures.notes

pub returns-clause-breaks : goal.returns-clause-breaks
returns-clause-breaks g c = λ world.
    stays_over c.args.files.now c.args.file c.rewrite.result _ _ _ _ c.args.table.now.rows c.rewrite.new.table.rows world (λ (address : Address). rewritten_at world c.args.file address c.args.bytes.now) (c.if-not-has_row.ensures.file refl) c.rewrite.ensures.bench c.rewrite.ensures.notes
    (λ address here stands told. c.rewrite.ensures.world world address here stands)

pub returns-then-not-has_row-clause-bench : goal.returns-then-not-has_row-clause-bench
returns-then-not-has_row-clause-bench g c = none_asked c.args.files.now c.args.bench.now.left _

pub returns-clause-does : goal.returns-clause-does
returns-clause-does g c = λ world.
    tried_over c.args.files.now c.args.file c.rewrite.result _ _ _ _ c.args.table.now.rows c.rewrite.new.table.rows world (λ (address : Address). rewritten_at world c.args.file address c.args.bytes.now) (c.if-not-has_row.ensures.file refl) c.rewrite.ensures.rows c.rewrite.ensures.bench
    (λ address here stands told. c.rewrite.ensures.world world address here stands)

pub returns-then-not-has_row-clause-does : goal.returns-then-not-has_row-clause-does
returns-then-not-has_row-clause-does g c = λ world over.
    past_row c.args.files.now _ c.args.table.now.rows world c.args.file 49 may_rewrite _ refl refl (beyond false (length c.args.table.now.rows) (length c.args.files.now) c.args.file c.if-not-has_row.ensures.has refl over.rows over.few) over
