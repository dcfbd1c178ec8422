use Rattle.std.proofs.Common.{length, position, ap, sym, ◌∙◌}
use Rattle.std.specs.Str.{bytes_eq}
use Rattle.declaration_checks.specs.File.{number_by}
use Rattle.declaration_checks.proofs.FileLemmas.{place_selected}
use Rattle.declaration_checks.proofs.file.file_number.Goals as goal

pub returns-in-None-clause-value : goal.returns-in-None-clause-value
returns-in-None-clause-value c =
    let name = c.args.fd.now.name in
    let selects = c.args.selects.now in
    let found = c.first.ensures.value ∙ ap (position (bytes_eq name)) c.requires.names ∙ place_selected name selects in
    ap (number_by (length selects) c.args.at) (sym c.in-None.is ∙ found)

pub returns-in-Some-clause-value : goal.returns-in-Some-clause-value
returns-in-Some-clause-value c =
    let name = c.args.fd.now.name in
    let selects = c.args.selects.now in
    let found = c.first.ensures.value ∙ ap (position (bytes_eq name)) c.requires.names ∙ place_selected name selects in
    ap (number_by (length selects) c.args.at) (sym c.in-Some.is ∙ found)
