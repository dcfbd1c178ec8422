use Rattle.std.proofs.Common.{◌≡◌, ◌∙◌, ◌<◌, ◌^◌, List, ap, arith, false, length, refl, subst, sym}
use Rattle.cob_tree.specs.declared.file.FileEntry.{FileEntry}
use Rattle.cobol_run.specs.declared.held.Plan.{Plan}
use Rattle.cobol_run.specs.Filing.{some_open}
use Rattle.cobol_run.proofs.ShutLemmas.{closes_with, left_broken, left_closed, left_late, never_unnamed_late, none_left, place_left}
use Rattle.cobol_run.proofs.running.close_files.Goals.{else-failed-via-then-failed+then-not-breaks_off+else-left-gt0, else-failed-via-then-failed+else-not-breaks_off, else-failed-via-else-failed}
use Rattle.cobol_run.proofs.running.close_files.Goals as goal

pub returns-then-not-some_open-clause-ends : goal.returns-then-not-some_open-clause-ends
returns-then-not-some_open-clause-ends g c = λ start steps sink left old plan few so.
    let none : some_open c.args.machine.now.table.rows ≡ false = sym c.some_open.ensures ∙ c.if-not-some_open.true in
    none_left start c.args.machine.now steps sink left c.args.bench.now.left old _ c.args.ran plan none so

pub returns-then-left-gt0-clause-ends : goal.returns-then-left-gt0-clause-ends
returns-then-left-gt0-clause-ends g c = λ start steps sink left old plan few so.
    let entries = c.as_slice-files.ensures ∙ ap (λ (p : Plan). p.program.now.files) plan in
    let closes = closes_with start c.args.machine.now steps sink left c.args.bench.now.left c.close_left-failed.new.bench.left old _ _ c.args.ran c.close_left-failed.result c.as_slice-files.result.now entries few so c.close_left-failed.ensures.closes in
    left_late start c.args.machine.now steps sink left c.args.bench.now.left c.close_left-failed.new.bench.left old _ _ c.args.ran plan so c.close_left-failed.result closes _ c.device_fault.result _ (sym c.breaks_off.ensures ∙ c.if-not-breaks_off.true) c.if-failed.true refl c.device_fault.ensures.named

pub returns-else-failed-clause-ends : goal.returns-else-failed-clause-ends
returns-else-failed-clause-ends g c = λ start steps sink left old plan few so.
    let entries = c.as_slice-files.ensures ∙ ap (λ (p : Plan). p.program.now.files) plan in
    let closes = closes_with start c.args.machine.now steps sink left c.args.bench.now.left c.close_left-failed.new.bench.left old _ _ c.args.ran c.close_left-failed.result c.as_slice-files.result.now entries few so c.close_left-failed.ensures.closes in
    elim c.else-failed.branch [
      | else-failed-via-then-failed+then-not-breaks_off+else-left-gt0 w ↦
          absurd (place_left start c.args.machine.now steps sink left c.args.bench.now.left c.close_left-failed.new.bench.left old _ _ c.args.ran plan so c.close_left-failed.result closes w.if-failed.true (let empty = w.if-left-gt0.false in omega (arith, empty)))
      | else-failed-via-then-failed+else-not-breaks_off w ↦
          left_broken start c.args.machine.now steps sink left c.args.bench.now.left c.close_left-failed.new.bench.left old _ _ c.args.ran plan so c.close_left-failed.result closes (sym w.breaks_off.ensures ∙ w.if-not-breaks_off.false)
      | else-failed-via-else-failed w ↦
          left_closed start c.args.machine.now steps sink left c.args.bench.now.left c.close_left-failed.new.bench.left old _ _ c.args.ran plan so c.close_left-failed.result closes w.if-failed.false
    ]

pub returns-then-left-gt0-clause-memory : goal.returns-then-left-gt0-clause-memory
returns-then-left-gt0-clause-memory g c = λ few fits is.
    let entries = c.as_slice-files.ensures in
    absurd (never_unnamed_late _ c.device_fault.result c.close_left-failed.result c.as_slice-files.result.now c.args.bench.now.left c.close_left-failed.new.bench.left _ _ c.args.machine.now.table.rows fits
    (c.close_left-failed.ensures.closes (subst (λ (l : List FileEntry). length l < 2 ^ 32) (sym entries) few)) c.if-failed.true c.device_fault.ensures.named is)
