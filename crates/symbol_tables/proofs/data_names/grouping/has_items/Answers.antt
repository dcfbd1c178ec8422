use Rattle.std.proofs.Common.{sym, ap, ◌∙◌}
use Rattle.std.proofs.Math.ListN.{drop_of_length-le}
use Rattle.symbol_tables.specs.data_names.Grouping.{has_items}
use Rattle.symbol_tables.proofs.data_names_lemmas.GroupingLemmas.{has_items-cons, has_items-none}
use Rattle.symbol_tables.proofs.data_names.grouping.has_items.Goals as goal

pub returns-then-not-same_file : goal.returns-then-not-same_file
returns-then-not-same_file c =
    let e = has_items-cons c.args.level c.args.file c.args.behind.now c.loop-entry.entry-index c.entry-item.result c.loop-entry-test.true in
    let f = rw (← c.entry-item.is, ← c.same_file.ensures, c.if-not-same_file.true) at e in
    sym (c.loop-entry.invariant ∙ f)

pub returns-then-is_numbered : goal.returns-then-is_numbered
returns-then-is_numbered c =
    let e = has_items-cons c.args.level c.args.file c.args.behind.now c.loop-entry.entry-index c.entry-item.result c.loop-entry-test.true in
    let f = rw (← c.entry-item.is, ← c.same_file.ensures, c.if-not-same_file.false, ← c.is_numbered.ensures, c.if-is_numbered.true) at e in
    sym (c.loop-entry.invariant ∙ f)

pub loop-entry-preserved : goal.loop-entry-preserved
loop-entry-preserved c =
    let e = has_items-cons c.args.level c.args.file c.args.behind.now c.loop-entry.entry-index c.entry-item.result c.loop-entry-test.true in
    let f = rw (← c.entry-item.is, ← c.same_file.ensures, c.if-not-same_file.false, ← c.is_numbered.ensures, c.if-is_numbered.false) at e in
    c.loop-entry.invariant ∙ f

pub returns : goal.returns
returns c = sym (c.loop-entry.invariant ∙ ap (has_items c.args.level c.args.file) (drop_of_length-le c.args.behind.now c.loop-entry-test.false) ∙ has_items-none c.args.level c.args.file)
