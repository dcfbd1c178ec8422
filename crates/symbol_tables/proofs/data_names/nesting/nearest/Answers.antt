use Rattle.std.proofs.Common.{◌<◌, length, sym, ap, ◌∙◌, arith}
use Rattle.symbol_tables.specs.declared.data_names.nesting.Nesting.{Nesting}
use Rattle.symbol_tables.proofs.data_names_lemmas.NestingLemmas.{nearest_last, next_count, nearest_next, nearest_none, nesting_in}
use Rattle.symbol_tables.proofs.data_names.nesting.nearest.Goals as goal

pub returns-then-not-same_file : goal.returns-then-not-same_file
returns-then-not-same_file c =
    let w = rw c.in-Some.is at c.loop-next.invariant.within in
    let s = nearest_last c.args.bound c.args.file c.args.entries.now c.in-Some.number c.index-entries-number.result (omega (arith, w, c.requires.within)) c.index-entries-number.is in
    rw (c.in-Some.is, s, ← c.same_file.ensures, c.if-not-same_file.true) at c.loop-next.invariant.same

pub returns-then-holds : goal.returns-then-holds
returns-then-holds c =
    let w = rw c.in-Some.is at c.loop-next.invariant.within in
    let s = nearest_last c.args.bound c.args.file c.args.entries.now c.in-Some.number c.index-entries-number.result (omega (arith, w, c.requires.within)) c.index-entries-number.is in
    rw (c.in-Some.is, s, ← c.same_file.ensures, c.if-not-same_file.false, ← c.holds.ensures, c.if-holds.true) at c.loop-next.invariant.same

pub loop-next-smaller : goal.loop-next-smaller
loop-next-smaller c =
    let w = rw c.in-Some.is at c.loop-next.invariant.within in
    let m = nesting_in c.args.entries.now c.args.nestings.now c.in-Some.number c.index-entries-number.result c.nesting_at.result c.requires.table c.requires.within (omega (arith, w)) c.index-entries-number.is c.nesting_at.ensures in
    let n = next_count c.args.bound c.args.entries.now c.in-Some.number c.index-entries-number.result c.nesting_at.result (omega (arith, w, c.requires.within)) m in
    rw c.in-Some.is (omega (arith, n, c.next_for-next.ensures))

pub loop-next-preserved : goal.loop-next-preserved
loop-next-preserved c =
    let w = rw c.in-Some.is at c.loop-next.invariant.within in
    let h : c.in-Some.number < length c.args.entries.now = omega (arith, w, c.requires.within) in
    let m = nesting_in c.args.entries.now c.args.nestings.now c.in-Some.number c.index-entries-number.result c.nesting_at.result c.requires.table c.requires.within (omega (arith, w)) c.index-entries-number.is c.nesting_at.ensures in
    let n = next_count c.args.bound c.args.entries.now c.in-Some.number c.index-entries-number.result c.nesting_at.result h m in
    let k = nearest_next c.args.bound c.args.file c.args.entries.now c.in-Some.number c.index-entries-number.result c.nesting_at.result.holder h c.index-entries-number.is (sym c.same_file.ensures ∙ c.if-not-same_file.false) (sym c.holds.ensures ∙ c.if-holds.false) (ap (λ (m : Nesting). m.holder) m) in
    record {
      within = omega (arith, n, w, c.next_for-next.ensures);
      same = rw c.next_for-next.ensures (k ∙ rw c.in-Some.is at c.loop-next.invariant.same);
    }

pub returns : goal.returns
returns c =
    rw (c.in_default.is, nearest_none) at c.loop-next.invariant.same
