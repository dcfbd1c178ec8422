use Rattle.std.proofs.Common.{length, ap, arith}
use Rattle.std.proofs.lemmas.List.{take_rest, length-drop}
use Rattle.cob_base.specs.Spelling.{word_byte}
use Rattle.cobol_lex.specs.Word.{word_run}
use Rattle.cobol_lex.proofs.RunLemmas.{run_on_at, run_ends_at}
use Rattle.cobol_lex.proofs.word.word_length.Goals as goal

pub returns-then-run-lt16 : goal.returns-then-run-lt16
returns-then-run-lt16 c =
    let bytes = c.args.bytes.now in
    let at = c.loop-at.at in
    let rest = take_rest bytes at in
    let run = c.word_byte_run-run.ensures in
    run_ends_at word_byte at c.word_byte_run-run.result bytes _ rest (omega (arith, run.within, ap length rest, length-drop at bytes, c.loop-at-test.true)) run.each c.loop-at.invariant.so_far (run.ends c.if-run-lt16.true)

pub loop-at-preserved : goal.loop-at-preserved
loop-at-preserved c =
    let bytes = c.args.bytes.now in
    let at = c.loop-at.at in
    let rest = take_rest bytes at in
    let run = c.word_byte_run-run.ensures in
    record {
      within = omega (arith, run.within, c.loop-at-test.true);
      so_far = run_on_at word_byte at c.word_byte_run-run.result bytes _ rest (omega (arith, run.within, ap length rest, length-drop at bytes, c.loop-at-test.true)) run.each c.loop-at.invariant.so_far;
    }

pub returns : goal.returns
returns c =
    let bytes = c.args.bytes.now in
    let at = c.loop-at.at in
    let same = ap (λ xs. length (word_run xs)) (take_rest bytes at) in
    omega (arith, c.short_length.ensures.value, same, c.loop-at.invariant.so_far)
