use Rattle.std.proofs.Common.{◌<◌, length, arith}
use Rattle.std.proofs.lemmas.List.{append-nil, append_assoc}
use Rattle.symbol_tables.proofs.data_names_lemmas.GroupingLemmas.{bool_byte-le, dims_in-cons, group_words-cons}
use Rattle.symbol_tables.proofs.data_names_lemmas.NestingLemmas.{groups_from_step, holder_within, table_length}
use Rattle.symbol_tables.proofs.data_names.above.groups_above.Goals as goal

pub nesting_at-next-requires : goal.nesting_at-next-requires
nesting_at-next-requires c =
    let w = rw c.in-Some.is at c.loop-next.invariant.within in
    omega (arith, w, table_length c.args.entries.now c.args.nestings.now c.requires.table)

pub overflow_add-dims : goal.overflow_add-dims
overflow_add-dims c =
    let r = rw c.in-Some.is at c.loop-next.invariant.room in
    omega (arith, r, c.requires.short, c.from-dims.ensures, bool_byte-le c.repeats.result)

pub loop-next-smaller : goal.loop-next-smaller
loop-next-smaller c =
    let w = rw c.in-Some.is at c.loop-next.invariant.within in
    let k = holder_within c.args.entries.now c.args.nestings.now c.in-Some.number c.index-entries-number.result c.nesting_at-next.result c.requires.table (omega (arith, w)) c.index-entries-number.is c.nesting_at-next.ensures in
    rw c.in-Some.is (omega (arith, k))

pub loop-next-preserved : goal.loop-next-preserved
loop-next-preserved c =
    let w = rw c.in-Some.is at c.loop-next.invariant.within in
    let r = rw c.in-Some.is at c.loop-next.invariant.room in
    let h : c.in-Some.number < length c.args.entries.now = omega (arith, w) in
    let k = holder_within c.args.entries.now c.args.nestings.now c.in-Some.number c.index-entries-number.result c.nesting_at-next.result c.requires.table h c.index-entries-number.is c.nesting_at-next.ensures in
    let s = groups_from_step c.args.entries.now c.args.nestings.now c.in-Some.number c.index-entries-number.result c.nesting_at-next.result c.requires.table h c.index-entries-number.is c.nesting_at-next.ensures in
    let f = rw (c.in-Some.is, s, group_words-cons) at c.loop-next.invariant.words in
    let g = rw (c.in-Some.is, s, dims_in-cons, ← c.repeats.ensures, ← c.from-dims.ensures) at c.loop-next.invariant.dims in
    record {
      within = omega (arith, k, h);
      room = omega (arith, k, r, c.from-dims.ensures, bool_byte-le c.repeats.result);
      words = rw (c.in_ok-add_word.ensures, append_assoc) f;
      dims = omega (arith, g);
    }

pub returns-clause-words : goal.returns-clause-words
returns-clause-words c = rw (c.in_default.is, append-nil) at c.loop-next.invariant.words

pub returns-clause-dims : goal.returns-clause-dims
returns-clause-dims c =
    let d = rw c.in_default.is at c.loop-next.invariant.dims in
    omega (arith, d)
