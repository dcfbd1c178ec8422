use Rattle.std.proofs.Common.{◌≡◌, ◌+◌, suc, get_or, refl, ap, ◌∙◌, ◌++◌, ◌∷◌, [], None, slice_get, arith}
use Rattle.std.proofs.lemmas.Option.{slice_get-get_or}
use Rattle.cob_tree.specs.declared.program.Range.{Range}
use Rattle.program_points.specs.perform_ranges.Named.{main_range}
use Rattle.program_points.proofs.perform_ranges_lemmas.Ordered.{rising-begins, rising-step, rising-ends}
use Rattle.program_points.proofs.perform_ranges.rising.rising_of.Goals as goal

pub loop-range-init : goal.loop-range-init
loop-range-init c = record {
  so = rising-begins c.args.sorted.now c.push.new.self.items (c.in_ok-push.ensures.items ∙ ap (λ rs. rs ++ main_range ∷ []) c.new-ranges.ensures.items);
  last = refl;
}

pub add_behind-requires : goal.add_behind-requires
add_behind-requires c =
    let none : Range = record { entry = 0; exit = None } in
    let list = c.args.sorted.now in
    let i = c.loop-range.range-index in
    c.requires i c.loop-range.last (get_or list i none) c.loop-range.invariant.last (slice_get-get_or list i none c.loop-range-test.true)

pub loop-range-preserved : goal.loop-range-preserved
loop-range-preserved c =
    let none : Range = record { entry = 0; exit = None } in
    let list = c.args.sorted.now in
    let i = c.loop-range.range-index in
    let up : i + 1 ≡ suc i = omega arith in
    record {
      so = rising-step list i c.loop-range.ranges.items c.add_behind.new.ranges.items c.loop-range.last (get_or list i none) (slice_get-get_or list i none c.loop-range-test.true) c.in_ok-add_behind.ensures c.loop-range.invariant.so;
      last = ap (λ n. slice_get (main_range ∷ list) n) up ∙ slice_get-get_or list i none c.loop-range-test.true;
    }

pub returns : goal.returns
returns c = rising-ends c.args.sorted.now c.loop-range.range-index c.loop-range.ranges.items c.loop-range.last c.loop-range-test.false c.loop-range.invariant.so
