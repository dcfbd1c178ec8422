use Rattle.std.proofs.Common.{◌≡◌, ◌<◌, ◌∙◌, length, map, refl, sym, ap, subst, Some, arith}
use Rattle.std.proofs.lemmas.Option.{slice_get_read}
use Rattle.control_flow_theory.specs.language.Control.{seen_sentence}
use Rattle.program_points.specs.declared.point_table.table.ProgramPoint.{ProgramPoint}
use Rattle.program_points.specs.numbering.Kind.{never_first_of}
use Rattle.program_points.specs.table_building.Numbering.{Extends}
use Rattle.program_points.proofs.table_building_lemmas.Paragraphs.{build-paragraph}
use Rattle.program_points.proofs.table_building.paragraph.build_paragraph.Goals as goal

pub returns-clause-builds : goal.returns-clause-builds
returns-clause-builds c =
    let old = c.args.numbering.now in
    let mid = c.build_rest.new.self in
    let begin = c.in_ok-begin.begin in
    let lt : begin < length mid.places.items = omega (arith, c.if-begin-len.false, c.len.ensures) in
    build-paragraph (never_first_of c.args.files.now) old.builder.count old.builder.places.items mid.places.items _ old.builder.ranges.items mid.ranges.items mid.ranges.items old.owners.items c.own.new.owners.items (map (seen_sentence c.args.here.last) c.args.sentences.now) c.args.here.number begin c.in_ok-place.place
    c.requires.here.0 c.in_ok-begin.ensures.builds lt (omega (arith, c.if-begin-here.false))
    (slice_get_read mid.places.items (length mid.places.items) begin c.index.result.now refl lt c.index.ensures ∙ ap (λ (p : ProgramPoint). Some p) (sym c.in_ok-place.ensures)) c.requires.owners (let size : c.len-2.result ≡ length mid.places.items = omega (arith, c.len-2.ensures) in subst (λ n. Extends old.owners.items c.own.new.owners.items n c.args.here.number) size c.in_ok-own.ensures) refl refl
