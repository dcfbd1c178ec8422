use Rattle.std.proofs.Common.{sym, ap, ◌∙◌}
use Rattle.ref_format.specs.Column.{has_tab}
use Rattle.ref_format.proofs.ColumnLemmas.{card_of-plain}
use Rattle.ref_format.proofs.column.card_of_line.Goals as goal

pub returns-else-has_tab : goal.returns-else-has_tab
returns-else-has_tab c =
    let plain = c.plain_card-card.ensures in
    plain ∙ card_of-plain c.args.line.now (ap has_tab (sym plain) ∙ sym c.has_tab.ensures ∙ c.if-has_tab.false)
