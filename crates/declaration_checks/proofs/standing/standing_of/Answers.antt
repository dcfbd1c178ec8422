use Rattle.std.proofs.Common.{◌≡◌, ◌<◌, length, sym, ◌∙◌, refl, arith}
use Rattle.std.specs.List.{list_any}
use Rattle.symbol_tables.specs.data_names.Grouping.{dims_in}
use Rattle.symbol_tables.specs.data_names.Nesting.{groups_from}
use Rattle.symbol_tables.proofs.data_names_lemmas.GroupingLemmas.{bool_byte-le, dims_in-cons}
use Rattle.symbol_tables.proofs.data_names_lemmas.NestingLemmas.{groups_from_step, holder_within, table_length}
use Rattle.declaration_checks.specs.Standing.{bars_value}
use Rattle.declaration_checks.proofs.BackLemmas.{or_assoc, or_false}
use Rattle.declaration_checks.proofs.standing.standing_of.Goals as goal

pub nesting_at-next-requires : goal.nesting_at-next-requires
nesting_at-next-requires c =
    let w = rw c.in-Some.is at c.loop-next.invariant.within in
    omega (arith, w, table_length c.args.entries.now c.args.nestings.now c.requires.table)

pub overflow_add-dims : goal.overflow_add-dims
overflow_add-dims c =
    let r = rw c.in-Some.is at c.loop-next.invariant.room in
    omega (arith, r, c.requires.short, c.from-dims.ensures, bool_byte-le c.repeats.result)

pub loop-next-smaller : goal.loop-next-smaller
loop-next-smaller c =
    let w = rw c.in-Some.is at c.loop-next.invariant.within in
    let k = holder_within c.args.entries.now c.args.nestings.now c.in-Some.number c.index-entries-number.result c.nesting_at-next.result c.requires.table (omega (arith, w)) c.index-entries-number.is c.nesting_at-next.ensures in
    rw c.in-Some.is (omega (arith, k))

pub loop-next-preserved : goal.loop-next-preserved
loop-next-preserved c =
    let x = c.index-entries-number.result in
    let w = rw c.in-Some.is at c.loop-next.invariant.within in
    let r = rw c.in-Some.is at c.loop-next.invariant.room in
    let h : c.in-Some.number < length c.args.entries.now = omega (arith, w) in
    let k = holder_within c.args.entries.now c.args.nestings.now c.in-Some.number x c.nesting_at-next.result c.requires.table h c.index-entries-number.is c.nesting_at-next.ensures in
    let s = groups_from_step c.args.entries.now c.args.nestings.now c.in-Some.number x c.nesting_at-next.result c.requires.table h c.index-entries-number.is c.nesting_at-next.ensures in
    let above = list_any bars_value (groups_from c.args.entries.now c.nesting_at-next.result.holder) in
    let e = rw (c.in-Some.is, s, dims_in-cons, ← c.repeats.ensures, ← c.from-dims.ensures) at c.loop-next.invariant.dims in
    let f = rw (c.in-Some.is, s) at c.loop-next.invariant.barred in
    record {
      within = omega (arith, k, h);
      room = omega (arith, k, r, c.from-dims.ensures, bool_byte-le c.repeats.result);
      dims = omega (arith, e);
      barred = rw (c.barred_too-barred.ensures) (sym (or_assoc c.loop-next.barred (bars_value x) above) ∙ f);
    }

pub returns : goal.returns
returns c =
    let e = rw c.in_default.is at c.loop-next.invariant.dims in
    let f = rw c.in_default.is at c.loop-next.invariant.barred in
    let groups = groups_from c.args.entries.now c.args.holder in
    let dims : c.loop-next.dims ≡ dims_in groups = omega (arith, e) in
    let barred : c.loop-next.barred ≡ list_any bars_value groups = sym (or_false c.loop-next.barred) ∙ f in
    rw (dims, barred) refl
