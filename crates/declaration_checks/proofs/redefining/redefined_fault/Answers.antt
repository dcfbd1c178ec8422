use Rattle.std.proofs.Common.{ap, sym, ◌∙◌, if◌then◌else◌}
use Rattle.std.specs.List.{list_any}
use Rattle.std.specs.Str.{bytes_eq}
use Rattle.parser_combinators.specs.declared.note.NameKind.TheVariants.{Redefines, Unknown}
use Rattle.declaration_checks.specs.declared.table.Tables.{Tables}
use Rattle.declaration_checks.specs.Fault.{fault_at}
use Rattle.declaration_checks.specs.Redefining.{item_fault}
use Rattle.declaration_checks.proofs.TableLemmas.{any_named}
use Rattle.declaration_checks.proofs.redefining.redefined_fault.Goals as goal

pub returns-in-None : goal.returns-in-None
returns-in-None c =
    let bases = c.args.bases.now in
    let name = c.args.name.now in
    let at = c.args.name_at in
    let any = ap (λ (t : Tables). list_any (bytes_eq name) t.names) c.requires.table ∙ any_named name bases in
    c.name_fault.ensures
    ∙ ap (λ b. if b then fault_at Redefines at else fault_at Unknown at) any
    ∙ ap (item_fault bases c.args.sizes.now c.args.at c.args.entry.now name at) (sym c.in-None.is ∙ c.redefined.ensures.value)
