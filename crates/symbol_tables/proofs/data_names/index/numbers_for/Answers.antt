use Rattle.std.proofs.Common.{ap, length, nat_lt, ◌∙◌}
use Rattle.symbol_tables.specs.data_names.Index.{find_among}
use Rattle.symbol_tables.proofs.data_names_lemmas.IndexLemmas.{find_among_either, find_among_find, find_among_within}
use Rattle.symbol_tables.proofs.data_names.index.numbers_for.Goals as goal

pub loop-group-init : goal.loop-group-init
loop-group-init c names named held =
    let word = c.args.word.now in
    ap (find_among names word c.args.of.now) (c.numbers_of-numbers.ensures ∙ named word)
    ∙ find_among_find names word c.args.of.now

pub loop-group-preserved : goal.loop-group-preserved
loop-group-preserved c names named held =
    let word = c.args.word.now in
    let of = c.args.of.now in
    let group = c.group-item.result in
    let numbers = c.loop-group.numbers.now in
    let others = c.numbers_of.result.now in
    let held_by = ap (find_among names word of) (c.numbers_of.ensures ∙ held group) ∙ find_among_within names word of c.loop-group.group-index group c.loop-group-test.true c.group-item.is in
    find_among_either names word of _ numbers others (nat_lt (length others) (length numbers)) c.fewer-numbers.ensures (c.loop-group.invariant names named held) held_by
