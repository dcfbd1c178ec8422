use Rattle.std.proofs.Common.{◌≡◌, ◌<◌, ◌-◌, ◌∙◌, ℕ, suc, get_or, length, refl, subst, arith}
use Rattle.std.proofs.lemmas.Option.{slice_get-get_or}
use Rattle.control_flow_theory.specs.language.Control.{seen_paragraph, seen_paragraphs}
use Rattle.program_points.specs.numbering.Kind.{never_first_of}
use Rattle.program_points.proofs.table_building_lemmas.Paragraphs.{NumbersFrom, from-none, from-more}
use Rattle.program_points.proofs.table_building_lemmas.Sections.{last-inside, paragraph-at}
use Rattle.program_points.proofs.table_building.number.build_paragraphs.Goals as goal

pub loop-number-init : goal.loop-number-init
loop-number-init c =
    let old = c.args.numbering.now in
    record {
      count = refl;
      owners = c.requires.owners;
      last = λ lt. absurd (omega (arith, lt, c.requires.count));
      builds = from-none (never_first_of c.args.files.now) (seen_paragraphs 0 c.args.paragraphs.now) old.builder.count old.builder.count old.builder.places.items old.builder.ranges.items old.owners.items refl;
    }

pub build_paragraph-requires-clause-here : goal.build_paragraph-requires-clause-here
build_paragraph-requires-clause-here c =
    let ps = c.args.paragraphs.now in
    let k : ℕ = c.loop-number.number - 1 in
    let lt : k < length ps = omega (arith, c.loop-number-test.true, c.loop-number.auto.number, c.requires.count) in
    let inside = last-inside ps k c.last_of-last.result lt c.last_of-last.ensures in
    let same = c.loop-number.invariant.count in
    let count = c.requires.count in
    let few = c.requires.few in
    (omega (arith, lt, same, count), omega (arith, inside, same, count), omega (arith, few, same, count))

pub loop-number-preserved : goal.loop-number-preserved
loop-number-preserved c =
    let ps = c.args.paragraphs.now in
    let old = c.args.numbering.now in
    let mid = c.loop-number.numbering in
    let new = c.build_paragraph.new.numbering in
    let k : ℕ = c.loop-number.number - 1 in
    let p = get_or ps k c.index-paragraphs-number.result in
    let up : c.loop-number.number ≡ suc k = omega (arith, c.loop-number-test.true) in
    let lt : k < length ps = omega (arith, c.loop-number-test.true, c.loop-number.auto.number, c.requires.count) in
    record {
      count = c.in_ok-build_paragraph.ensures.count ∙ c.loop-number.invariant.count;
      owners = c.in_ok-build_paragraph.ensures.owners;
      last = λ less. c.last_of-last.ensures;
      builds = from-more (never_first_of c.args.files.now) (seen_paragraphs 0 ps) old.builder.count mid.builder.count k c.loop-number.number old.builder.places.items mid.builder.places.items new.builder.places.items old.builder.ranges.items mid.builder.ranges.items new.builder.ranges.items
          old.owners.items mid.owners.items new.owners.items (seen_paragraph c.last_of-last.result p) up c.loop-number.invariant.count
          (λ program is. paragraph-at program ps k c.last_of-last.result p is (slice_get-get_or ps k c.index-paragraphs-number.result lt) c.last_of-last.ensures)
          c.loop-number.invariant.builds c.in_ok-build_paragraph.ensures.builds;
    }

pub returns-clause-builds : goal.returns-clause-builds
returns-clause-builds c =
    let old = c.args.numbering.now in
    let now = c.loop-number.numbering in
    let zero : c.loop-number.number ≡ 0 = omega (arith, c.loop-number-test.false) in
    subst (λ (n : ℕ). NumbersFrom (never_first_of c.args.files.now) (seen_paragraphs 0 c.args.paragraphs.now) old.builder.count n old.builder.places.items now.builder.places.items old.builder.ranges.items now.builder.ranges.items old.owners.items now.owners.items) zero c.loop-number.invariant.builds
