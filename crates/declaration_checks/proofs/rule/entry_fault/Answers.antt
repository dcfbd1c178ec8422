use Rattle.std.proofs.Common.{ap, ◌∙◌}
use Rattle.symbol_tables.specs.declared.data_names.nesting.Nesting.{Nesting}
use Rattle.symbol_tables.proofs.data_names_lemmas.NestingLemmas.{found_nesting, found_within}
use Rattle.declaration_checks.specs.declared.table.Tables.{Tables}
use Rattle.declaration_checks.specs.Rule.{held_fault}
use Rattle.declaration_checks.proofs.rule.entry_fault.Goals as goal

pub nesting_at-holder-requires : goal.nesting_at-holder-requires
nesting_at-holder-requires c = found_within c.args.bases.now c.as_slice.result.now c.args.at c.args.entry.now (c.as_slice.ensures ∙ ap (λ (t : Tables). t.nestings) c.requires.table) c.requires.own

pub returns : goal.returns
returns c =
    let m = found_nesting c.args.bases.now c.as_slice.result.now c.args.at c.args.entry.now c.nesting_at-holder.result (c.as_slice.ensures ∙ ap (λ (t : Tables). t.nestings) c.requires.table) c.requires.own c.nesting_at-holder.ensures in
    c.held_fault.ensures ∙ ap (λ (m : Nesting). held_fault c.args.bases.now c.args.sizes.now c.args.tables.now.usages c.args.at c.args.entry.now c.args.draft.now m.holder) m
