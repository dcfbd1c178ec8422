use Rattle.std.proofs.Common.{◌≡◌, ap, length, reverse, sym, take, ◌∙◌, arith}
use Rattle.std.proofs.lemmas.List.{length-reverse, length-take-le}
use Rattle.std.proofs.lemmas.Option.{slice_get_within}
use Rattle.declaration_checks.specs.Redefining.{meant_at}
use Rattle.declaration_checks.proofs.TableLemmas.{alike_number, alike_within, found_alike, some_within}
use Rattle.declaration_checks.proofs.redefining.redefined.Goals as goal

pub alike_at-requires : goal.alike_at-requires
alike_at-requires c = alike_within c.args.bases.now c.args.alikes.now c.args.at c.args.entry.now c.requires.table c.requires.own

pub returns-in-None-clause-value : goal.returns-in-None-clause-value
returns-in-None-clause-value c =
    let a = found_alike c.args.bases.now c.args.alikes.now c.args.at c.args.entry.now c.alike_at.result c.requires.table c.requires.own c.alike_at.ensures in
    ap (meant_at c.args.bases.now c.args.name.now c.args.entry.now) (sym c.in-None.is ∙ a)

pub returns-in-Some-clause-value : goal.returns-in-Some-clause-value
returns-in-Some-clause-value c =
    let a = found_alike c.args.bases.now c.args.alikes.now c.args.at c.args.entry.now c.alike_at.result c.requires.table c.requires.own c.alike_at.ensures in
    c.if_meant.ensures.value
    ∙ ap (meant_at c.args.bases.now c.args.name.now c.args.entry.now) (sym c.in-Some.is ∙ a)

pub returns-in-Some-clause-within : goal.returns-in-Some-clause-within
returns-in-Some-clause-within c =
    let bases = c.args.bases.now in
    let at = c.args.at in
    let entry = c.args.entry.now in
    let a = found_alike bases c.args.alikes.now at entry c.alike_at.result c.requires.table c.requires.own c.alike_at.ensures in
    let inside = slice_get_within bases at entry c.requires.own in
    let n = alike_number entry (reverse (take at bases)) c.in-Some.number (sym a ∙ c.in-Some.is) in
    let count : length (reverse (take at bases)) ≡ at = length-reverse (take at bases) ∙ length-take-le at bases (omega (arith, inside)) in
    some_within c.if_meant.result c.in-Some.number (length bases) c.if_meant.ensures.within (omega (arith, n, count, inside))
