use Rattle.std.proofs.Common.{◌∙◌, ap, sym, length, arith}
use Rattle.program_points.proofs.table_building_lemmas.Tables.{whole-table, whole-tidy, whole-ranges, whole-counts}
use Rattle.program_points.proofs.table_building.number.table_of.Goals as goal

pub build_paragraphs-requires-clause-count : goal.build_paragraphs-requires-clause-count
build_paragraphs-requires-clause-count c = c.in_ok-numbering.ensures.count ∙ c.len-count.ensures ∙ ap (λ ps. length ps) (sym c.as_slice-paragraphs.ensures)

pub build_paragraphs-requires-clause-owners : goal.build_paragraphs-requires-clause-owners
build_paragraphs-requires-clause-owners c = omega (arith, c.in_ok-numbering.ensures.places.size, c.in_ok-numbering.ensures.owners.size)

pub returns-clause-table : goal.returns-clause-table
returns-clause-table c =
    let b = c.in_ok-numbering in
    let old = b.numbering in
    let new = c.build_paragraphs.new.numbering in
    let p = c.in_ok-build_paragraphs.ensures in
    let t = c.in_ok-table in
    whole-table c.args.program.now c.as_slice-files.result.now c.as_slice-paragraphs.result.now c.len-count.result old.builder.count new.builder.count old.builder.places.items new.builder.places.items old.builder.ranges.items new.builder.ranges.items old.owners.items new.owners.items t.table
    c.as_slice-files.ensures c.as_slice-paragraphs.ensures c.len-count.ensures b.ensures.count p.count b.ensures.places b.ensures.owners p.builds t.ensures.places t.ensures.owners t.ensures.ranges t.ensures.starts t.ensures.entries

pub returns-clause-tidy : goal.returns-clause-tidy
returns-clause-tidy c =
    let b = c.in_ok-numbering in
    let old = b.numbering in
    let new = c.build_paragraphs.new.numbering in
    let p = c.in_ok-build_paragraphs.ensures in
    let t = c.in_ok-table in
    whole-tidy c.args.program.now c.as_slice-files.result.now c.as_slice-paragraphs.result.now c.len-count.result old.builder.count new.builder.count old.builder.places.items new.builder.places.items old.builder.ranges.items new.builder.ranges.items old.owners.items new.owners.items t.table
    c.as_slice-files.ensures c.as_slice-paragraphs.ensures c.len-count.ensures b.ensures.count p.count b.ensures.places b.ensures.owners p.builds t.ensures.places t.ensures.owners t.ensures.ranges t.ensures.starts t.ensures.entries p.owners

pub returns-clause-ranges : goal.returns-clause-ranges
returns-clause-ranges c =
    let b = c.in_ok-numbering in
    let old = b.numbering in
    let new = c.build_paragraphs.new.numbering in
    let p = c.in_ok-build_paragraphs.ensures in
    let t = c.in_ok-table in
    whole-ranges c.args.program.now c.as_slice-files.result.now c.as_slice-paragraphs.result.now c.len-count.result old.builder.count new.builder.count old.builder.places.items new.builder.places.items old.builder.ranges.items new.builder.ranges.items old.owners.items new.owners.items t.table
    c.as_slice-files.ensures c.as_slice-paragraphs.ensures c.len-count.ensures b.ensures.count p.count b.ensures.places b.ensures.owners p.builds t.ensures.places t.ensures.owners t.ensures.ranges t.ensures.starts c.args.ranges.items b.ensures.ranges (omega (arith, c.if-len-known.false, c.len-known.ensures))

pub returns-clause-starts : goal.returns-clause-starts
returns-clause-starts c =
    let b = c.in_ok-numbering in
    let old = b.numbering in
    let new = c.build_paragraphs.new.numbering in
    let p = c.in_ok-build_paragraphs.ensures in
    let t = c.in_ok-table in
    whole-counts c.args.program.now c.as_slice-files.result.now c.as_slice-paragraphs.result.now c.len-count.result old.builder.count new.builder.count old.builder.places.items new.builder.places.items old.builder.ranges.items new.builder.ranges.items old.owners.items new.owners.items t.table
    c.as_slice-files.ensures c.as_slice-paragraphs.ensures c.len-count.ensures b.ensures.count p.count b.ensures.places b.ensures.owners p.builds t.ensures.places t.ensures.owners t.ensures.ranges t.ensures.starts
