use Rattle.std.proofs.Common.{◌≡◌, [], drop}
use Rattle.std.proofs.lemmas.List.{append-nil, append_assoc}
use Rattle.std.proofs.Math.ListN.{drop_of_length-le}
use Rattle.symbol_tables.proofs.data_names_lemmas.NamesLemmas.{names_from-at, names_from-none}
use Rattle.symbol_tables.proofs.data_names.table.item_names.Goals as goal

pub loop-at-preserved : goal.loop-at-preserved
loop-at-preserved c =
    let n = names_from-at c.args.files.now c.args.entries.now c.loop-at.at c.index-entries-at.result c.loop-at-test.true c.index-entries-at.is in
    let f = rw (n, ← c.in_ok-name_of.ensures) at c.loop-at.invariant in
    rw (c.in_ok-push.ensures.ok, append_assoc) f

pub returns : goal.returns
returns c =
    let d : drop c.loop-at.at c.args.entries.now ≡ [] = drop_of_length-le c.args.entries.now c.loop-at-test.false in
    rw (d, names_from-none, append-nil) at c.loop-at.invariant
