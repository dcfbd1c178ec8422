use Rattle.std.proofs.Common.{◌≡◌, ◌+◌, ap, drop, ◌∙◌, refl, sym}
use Rattle.symbol_tables.specs.declared.data_names.nesting.Nesting.{Nesting}
use Rattle.symbol_tables.specs.data_names.Names.{is_group}
use Rattle.symbol_tables.proofs.data_names_lemmas.NestingLemmas.{found_nesting, found_within}
use Rattle.declaration_checks.specs.Base.{spans_of}
use Rattle.declaration_checks.specs.Rule.{target_by, target_of}
use Rattle.declaration_checks.specs.Value.{spans_fault}
use Rattle.declaration_checks.proofs.rule.fits_at.Goals as goal

pub nesting_at-requires : goal.nesting_at-requires
nesting_at-requires c =
    let found = rw c.in-Some.is at c.base_at.ensures in
    found_within c.args.bases.now c.args.nestings.now c.args.item c.in-Some.entry.now c.requires (sym found)

pub returns-in-None : goal.returns-in-None
returns-in-None c =
    let none = rw c.in-None.is at c.base_at.ensures in
    rw (← none) refl

pub returns-in-Some : goal.returns-in-Some
returns-in-Some c =
    let found = rw c.in-Some.is at c.base_at.ensures in
    let entry = c.in-Some.entry.now in
    let sizes = c.args.sizes.now in
    let item = c.args.item in
    let m = found_nesting c.args.bases.now c.args.nestings.now item entry c.nesting_at.result c.requires (sym found) c.nesting_at.ensures in
    let group : c.nesting_at.result.group ≡ is_group entry (drop (item + 1) c.args.bases.now) = ap (λ (m : Nesting). m.group) m in
    let target : c.target_by.result ≡ target_of c.args.bases.now sizes item entry = c.target_by.ensures ∙ ap (λ b. target_by b sizes item entry) group in
    let spans = c.spans_of.ensures ∙ ap spans_of c.as_slice.ensures in
    let fault = c.spans_fault.ensures ∙ ap (λ t. spans_fault t c.spans_of.result.now) target ∙ ap (spans_fault (target_of c.args.bases.now sizes item entry)) spans in
    rw (← found) fault
