use Rattle.std.proofs.Common.{◌≡◌, ◌++◌, ◌<◌, length, slice_index_or, arith}
use Rattle.std.proofs.lemmas.Bool.{eq-eqb, ne_eqb}
use Rattle.std.proofs.lemmas.Result.{on_ok_weaker}
use Rattle.edit_fields.specs.Laws.{printed}
use Rattle.cobol_print.proofs.units_lemmas.MaskLemmas.{run-on, run-ends, last-run}
use Rattle.cobol_print.proofs.units.picture.add_mask.Goals as goal

pub loop-byte-preserved-then-symbol-byte : goal.loop-byte-preserved-then-symbol-byte
loop-byte-preserved-then-symbol-byte c =
    let l = c.loop-byte in
    record {
      short = omega (arith, l.invariant.short);
      text = run-on l.text (c.args.text.now ++ printed c.args.mask.now) c.in-Some.rest.now l.symbol l.run l.byte-index c.loop-byte-test.true (eq-eqb l.symbol (slice_index_or c.in-Some.rest.now l.byte-index 0) c.if-symbol-byte.true) l.invariant.text;
    }

pub loop-byte-preserved : goal.loop-byte-preserved
loop-byte-preserved c =
    let l = c.loop-byte in
    record {
      short = omega arith;
      text = run-ends l.text c.add_run.new.text (c.args.text.now ++ printed c.args.mask.now) c.in-Some.rest.now l.symbol l.run l.byte-index c.loop-byte-test.true
          (omega (arith, c.requires, c.in-Some.ensures, c.loop-byte-test.true, l.invariant.short)) (ne_eqb l.symbol (slice_index_or c.in-Some.rest.now l.byte-index 0) c.if-symbol-byte.false) c.in_ok-add_run.ensures l.invariant.text;
    }

pub returns : goal.returns
returns c =
    let l = c.loop-byte in
    let past : l.byte-index ≡ length c.in-Some.rest.now = omega (arith, c.loop-byte-test.false, l.auto.byte-index-end) in
    let few : l.run < 1000 = omega (arith, c.requires, c.in-Some.ensures, past, l.invariant.short) in
    on_ok_weaker c.add_run-2.result
    (λ is. last-run l.text c.add_run-2.new.text (c.args.text.now ++ printed c.args.mask.now) c.in-Some.rest.now l.symbol l.run l.byte-index past few is l.invariant.text)
    c.add_run-2.ensures
