use Rattle.std.proofs.Common.{◌≡◌, ◌+◌, ap, drop, sym, ◌∙◌, arith}
use Rattle.std.proofs.lemmas.Option.{slice_get_within}
use Rattle.symbol_tables.specs.declared.data_names.nesting.Nesting.{Nesting}
use Rattle.symbol_tables.specs.data_names.Names.{is_group}
use Rattle.symbol_tables.proofs.data_names_lemmas.NestingLemmas.{found_nesting, found_within, own_groups, own_within}
use Rattle.declaration_checks.specs.declared.table.Tables.{Tables}
use Rattle.declaration_checks.specs.Rule.{clauses_fault, target_by, target_of}
use Rattle.declaration_checks.specs.Standing.{before, holder_of, standing_in, standing_of}
use Rattle.declaration_checks.specs.Usage.{usage_above}
use Rattle.declaration_checks.proofs.rule.item_fault.Goals as goal

pub nesting_at-nesting-requires : goal.nesting_at-nesting-requires
nesting_at-nesting-requires c = found_within c.args.bases.now c.as_slice-nestings.result.now c.args.at c.args.entry.now (c.as_slice-nestings.ensures ∙ ap (λ (t : Tables). t.nestings) c.requires.table) c.requires.own

pub standing_of-standing-requires-clause-within : goal.standing_of-standing-requires-clause-within
standing_of-standing-requires-clause-within c =
    let bases = c.args.bases.now in
    let entry = c.args.entry.now in
    let within = slice_get_within bases c.args.at entry c.requires.own in
    let m = found_nesting bases c.as_slice-nestings.result.now c.args.at entry c.nesting_at-nesting.result (c.as_slice-nestings.ensures ∙ ap (λ (t : Tables). t.nestings) c.requires.table) c.requires.own c.nesting_at-nesting.ensures in
    omega (arith, within, own_within bases c.args.at entry c.nesting_at-nesting.result (omega (arith, within)) m)

pub returns : goal.returns
returns c =
    let bases = c.args.bases.now in
    let sizes = c.args.sizes.now in
    let at = c.args.at in
    let entry = c.args.entry.now in
    let draft = c.args.draft.now in
    let within = slice_get_within bases at entry c.requires.own in
    let m = found_nesting bases c.as_slice-nestings.result.now at entry c.nesting_at-nesting.result (c.as_slice-nestings.ensures ∙ ap (λ (t : Tables). t.nestings) c.requires.table) c.requires.own c.nesting_at-nesting.ensures in
    let group : c.nesting_at-nesting.result.group ≡ is_group entry (drop (at + 1) bases) = ap (λ (m : Nesting). m.group) m in
    let groups = own_groups bases at entry c.nesting_at-nesting.result (omega (arith, within)) m in
    let target : c.target_by-target.result ≡ target_of bases sizes at entry = c.target_by-target.ensures ∙ ap (λ b. target_by b sizes at entry) group in
    let standing : c.standing_of-standing.result ≡ standing_of entry (before bases at) = c.standing_of-standing.ensures ∙ sym (ap standing_in groups) in
    let usages = c.args.tables.now.usages in
    let above : c.usage_above-above.result ≡ usage_above usages (holder_of entry (before bases at)) = c.usage_above-above.ensures ∙ ap (λ us. usage_above us c.nesting_at-nesting.result.holder) c.as_slice.ensures ∙ ap (λ (m : Nesting). usage_above usages m.holder) m in
    let clauses : c.clauses_fault.result ≡ clauses_fault entry (target_of bases sizes at entry) (standing_of entry (before bases at)) (usage_above usages (holder_of entry (before bases at))) draft =
    c.clauses_fault.ensures
    ∙ ap (λ t. clauses_fault entry t c.standing_of-standing.result c.usage_above-above.result draft) target
    ∙ ap (λ s. clauses_fault entry (target_of bases sizes at entry) s c.usage_above-above.result draft) standing
    ∙ ap (λ u. clauses_fault entry (target_of bases sizes at entry) (standing_of entry (before bases at)) u draft) above in
    rw (clauses, c.redefines_fault.ensures, c.as_slice-2.ensures) at c.first_of.ensures
