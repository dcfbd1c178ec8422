use Rattle.std.proofs.Common.{◌≡◌, ◌-◌, ◌<◌, true, false, ap, length, reverse, sym, take, ◌∙◌, arith}
use Rattle.symbol_tables.specs.data_names.Grouping.{bound_of, holds, same_file}
use Rattle.declaration_checks.proofs.BackLemmas.{last_alike_none, last_alike_step}
use Rattle.declaration_checks.proofs.TableLemmas.{alike_in, alike_level}
use Rattle.declaration_checks.proofs.table.last_alike.Goals as goal

pub returns-then-not-same_file : goal.returns-then-not-same_file
returns-then-not-same_file c =
    let s = last_alike_step c.args.entry.now c.args.entries.now c.loop-at.at c.index-entries-at.result c.loop-at-test.true (omega (arith, c.loop-at.invariant.within, c.requires.within)) c.index-entries-at.is in
    rw (s, ← c.same_file.ensures, c.if-not-same_file.true) at c.loop-at.invariant.same

pub returns-then-holds : goal.returns-then-holds
returns-then-holds c =
    let s = last_alike_step c.args.entry.now c.args.entries.now c.loop-at.at c.index-entries-at.result c.loop-at-test.true (omega (arith, c.loop-at.invariant.within, c.requires.within)) c.index-entries-at.is in
    let h : holds (bound_of c.args.entry.now.level) c.index-entries-at.result ≡ true = ap (λ b. holds b c.index-entries-at.result) (sym c.bound_of-bound.ensures) ∙ (sym c.holds.ensures ∙ c.if-holds.true) in
    rw (s, ← c.same_file.ensures, c.if-not-same_file.false, h) at c.loop-at.invariant.same

pub returns-then-is_level_of : goal.returns-then-is_level_of
returns-then-is_level_of c =
    let entry = c.args.entry.now in
    let entries = c.args.entries.now in
    let n = c.loop-at.at - 1 in
    let x = c.index-entries-at.result in
    let s = last_alike_step entry entries c.loop-at.at x c.loop-at-test.true (omega (arith, c.loop-at.invariant.within, c.requires.within)) c.index-entries-at.is in
    let h : holds (bound_of entry.level) x ≡ false = ap (λ b. holds b x) (sym c.bound_of-bound.ensures) ∙ (sym c.holds.ensures ∙ c.if-holds.false) in
    let inside : n < length c.args.alikes.now = omega (arith, c.loop-at-test.true, c.loop-at.invariant.within) in
    let a = alike_in entries c.args.alikes.now n x c.alike_at.result c.requires.table c.requires.within inside c.index-entries-at.is c.alike_at.ensures in
    let same : same_file entry.file x.file ≡ true = sym c.same_file.ensures ∙ c.if-not-same_file.false in
    let l = alike_level entry x n (reverse (take n entries)) c.alike_at.result same (sym c.is_level_of.ensures ∙ c.if-is_level_of.true) a in
    c.alike_of.ensures ∙ sym l
    ∙ (rw (s, ← c.same_file.ensures, c.if-not-same_file.false, h) at c.loop-at.invariant.same)

pub loop-at-preserved : goal.loop-at-preserved
loop-at-preserved c =
    let s = last_alike_step c.args.entry.now c.args.entries.now c.loop-at.at c.index-entries-at.result c.loop-at-test.true (omega (arith, c.loop-at.invariant.within, c.requires.within)) c.index-entries-at.is in
    let h : holds (bound_of c.args.entry.now.level) c.index-entries-at.result ≡ false = ap (λ b. holds b c.index-entries-at.result) (sym c.bound_of-bound.ensures) ∙ (sym c.holds.ensures ∙ c.if-holds.false) in
    record {
      within = omega (arith, c.loop-at.invariant.within);
      same = rw (s, ← c.same_file.ensures, c.if-not-same_file.false, h, ← c.is_level_of.ensures, c.if-is_level_of.false) at c.loop-at.invariant.same;
    }

pub returns : goal.returns
returns c =
    let none : c.loop-at.at ≡ 0 = omega (arith, c.loop-at-test.false) in
    rw (none, last_alike_none) at c.loop-at.invariant.same
