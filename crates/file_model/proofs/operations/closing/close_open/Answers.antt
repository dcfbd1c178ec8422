use Rattle.std.proofs.Common.{◌≡◌, ◌∙◌, ◌++◌, ◌||◌, ◌≤◌, Bool, ap, arith, length, sym}
use Rattle.std.proofs.lemmas.List.{length-map}
use Rattle.file_model.specs.operations.Calls.{addresses_of}
use Rattle.file_model.proofs.operations_lemmas.ShutLemmas.{closes_all, or_false, or_true, shuts_next}
use Rattle.file_model.proofs.operations.closing.close_open.Goals.{then-close_if_open, else-close_if_open}
use Rattle.file_model.proofs.operations.closing.close_open.Goals as goal

pub loop-file-preserved : goal.loop-file-preserved
loop-file-preserved g c =
    let is : c.if-close_if_open.failed ≡ (c.loop-file.failed || c.close_if_open.result) =
    elim c.if-close_if_open.branch [
      | then-close_if_open w ↦ w.failed-is ∙ or_true c.loop-file.failed ∙ sym (ap (λ (b : Bool). c.loop-file.failed || b) w.if-close_if_open.true)
      | else-close_if_open w ↦ w.failed-is ∙ or_false c.loop-file.failed ∙ sym (ap (λ (b : Bool). c.loop-file.failed || b) w.if-close_if_open.false)
    ] in (
      c.close_if_open.ensures.rows ∙ c.loop-file.invariant.0,
      λ gone left old apart left_of.
          let one = c.loop-file.invariant.1 gone left old apart left_of in
          shuts_next c.loop-file.file c.if-close_if_open.failed c.loop-file.failed c.close_if_open.result (addresses_of c.args.files.now) gone left c.args.bench.now.left c.loop-file.bench.left c.close_if_open.new.bench.left old _ _ _ c.args.table.now.rows c.loop-file.table.rows c.close_if_open.new.table.rows is one
          (c.close_if_open.ensures.shuts (one.more ++ gone) left old one.apart one.left_of),
    )

pub returns-clause-closes : goal.returns-clause-closes
returns-clause-closes g c = λ gone left old apart left_of.
    let past : length (addresses_of c.args.files.now) ≤ c.loop-file.file = simp length-map (omega (arith, c.loop-file-test.false)) in
    closes_all c.loop-file.file c.loop-file.failed (addresses_of c.args.files.now) gone left c.args.bench.now.left c.loop-file.bench.left old _ _ c.args.table.now.rows c.loop-file.table.rows past (c.loop-file.invariant.1 gone left old apart left_of)
