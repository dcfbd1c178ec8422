use Rattle.std.proofs.Common.{◌++◌, ap, sym, ◌∙◌}
use Rattle.symbol_tables.specs.data_names.Grouping.{word_list}
use Rattle.declaration_checks.proofs.TableLemmas.{names_in_step}
use Rattle.declaration_checks.proofs.table.names_in.Goals as goal

pub loop-entry-preserved : goal.loop-entry-preserved
loop-entry-preserved c =
    c.in_ok-add_name.ensures
    ∙ ap (λ l. l ++ word_list c.entry-item.result.name) c.loop-entry.invariant
    ∙ sym (names_in_step c.args.entries.now c.loop-entry.entry-index c.entry-item.result c.loop-entry-test.true c.entry-item.is)
