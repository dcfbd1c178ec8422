use Rattle.std.proofs.Common.{◌≡◌, ap, ◌∙◌}
use Rattle.symbol_tables.specs.declared.data_names.nesting.Nesting.{Nesting}
use Rattle.symbol_tables.proofs.data_names_lemmas.NestingLemmas.{found_nesting, found_within}
use Rattle.declaration_checks.specs.Standing.{before, holder_of}
use Rattle.declaration_checks.specs.Usage.{entry_usage, usage_above}
use Rattle.declaration_checks.proofs.usage.next_usage.Goals as goal

pub nesting_at-requires : goal.nesting_at-requires
nesting_at-requires c = found_within c.args.bases.now c.args.nestings.now c.args.at c.args.entry.now c.requires.table c.requires.entry

pub returns : goal.returns
returns c =
    let bases = c.args.bases.now in
    let entry = c.args.entry.now in
    let usages = c.args.usages.now in
    let m = found_nesting bases c.args.nestings.now c.args.at entry c.nesting_at.result c.requires.table c.requires.entry c.nesting_at.ensures in
    let above : c.usage_above-above.result ≡ usage_above usages (holder_of entry (before bases c.args.at)) = c.usage_above-above.ensures ∙ ap (λ (m : Nesting). usage_above usages m.holder) m in
    c.entry_usage.ensures ∙ ap (λ above. entry_usage entry above c.args.own) above
