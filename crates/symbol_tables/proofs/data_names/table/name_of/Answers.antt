use Rattle.std.proofs.Common.{◌≡◌, ◌+◌, ◌++◌, ◌∷◌, ap, drop, refl, reverse, sym, take, ◌∙◌, arith}
use Rattle.symbol_tables.specs.declared.data_names.nesting.Nesting.{Nesting}
use Rattle.symbol_tables.specs.data_names.Grouping.{bound_of, dims_in, group_words, groups_of}
use Rattle.symbol_tables.specs.data_names.Names.{file_words, is_group, kind_of}
use Rattle.symbol_tables.proofs.data_names_lemmas.GroupingLemmas.{dims_in-cons}
use Rattle.symbol_tables.proofs.data_names_lemmas.NestingLemmas.{own_groups, own_nesting, own_within, table_length}
use Rattle.symbol_tables.proofs.data_names.table.name_of.Goals as goal

pub nesting_at-nesting-requires : goal.nesting_at-nesting-requires
nesting_at-nesting-requires c =
    omega (arith, c.requires.within, table_length c.args.entries.now c.args.nestings.now c.requires.table)

pub groups_above-requires-clause-within : goal.groups_above-requires-clause-within
groups_above-requires-clause-within c =
    let m = own_nesting c.args.entries.now c.args.nestings.now c.args.at c.args.entry.now c.nesting_at-nesting.result c.requires.table c.requires.within c.requires.own c.nesting_at-nesting.ensures in
    let w = own_within c.args.entries.now c.args.at c.args.entry.now c.nesting_at-nesting.result (omega (arith, c.requires.within)) m in
    omega (arith, w, c.requires.within)

pub returns : goal.returns
returns c =
    let entry = c.args.entry.now in
    let behind = drop (c.args.at + 1) c.args.entries.now in
    let groups = groups_of (bound_of entry.level) entry.file (reverse (take c.args.at c.args.entries.now)) in
    let m = own_nesting c.args.entries.now c.args.nestings.now c.args.at entry c.nesting_at-nesting.result c.requires.table c.requires.within c.requires.own c.nesting_at-nesting.ensures in
    let g = own_groups c.args.entries.now c.args.at entry c.nesting_at-nesting.result (omega (arith, c.requires.within)) m in
    let group : c.nesting_at-nesting.result.group ≡ is_group entry behind = ap (λ (m : Nesting). m.group) m in
    let above = c.in_ok-add_file.ensures ∙ ap (λ l. l ++ file_words c.args.files.now entry.file) (c.in_ok-above.ensures.words ∙ sym (ap group_words g)) in
    let kind : c.kind_of.result ≡ kind_of entry behind = rw group at c.kind_of.ensures in
    let more = rw (← c.repeats.ensures, ← c.from.ensures) at (dims_in-cons entry groups) in
    let fewer = c.in_ok-above.ensures.dims ∙ sym (ap dims_in g) in
    let dims : c.in_ok-above.above.dims + c.from.result ≡ dims_in (entry ∷ groups) = omega (arith, more, fewer) in
    rw (above, kind, dims) refl
