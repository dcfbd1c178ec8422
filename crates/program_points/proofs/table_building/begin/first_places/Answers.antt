use Rattle.std.proofs.Common.{◌≡◌, length, refl, arith}
use Rattle.program_points.specs.declared.point_table.table.ProgramPoint.TheVariants.{Stops, Ends}
use Rattle.program_points.proofs.table_building_lemmas.Beginning.{holding-none, holding-more, one-more}
use Rattle.program_points.proofs.table_building.begin.first_places.Goals as goal

pub loop-start-preserved : goal.loop-start-preserved
loop-start-preserved c = one-more c.loop-start.places.items c.push.new.self.items Stops c.loop-start.start c.loop-start.invariant c.in_ok-push.ensures.items

pub loop-number-init : goal.loop-number-init
loop-number-init c = record {
  size = omega (arith, c.loop-start.invariant, c.loop-start-test.false, c.loop-start.auto.start-end);
  ends = holding-none Ends c.args.count c.loop-start.places.items;
}

pub loop-number-preserved : goal.loop-number-preserved
loop-number-preserved c = record {
  size = omega (arith, one-more c.loop-number.places.items c.push-in-loop-number.new.self.items (Ends c.loop-number.number) (length c.loop-number.places.items) refl c.in_ok-push-2.ensures.items, c.loop-number.invariant.size);
  ends = holding-more Ends c.args.count c.loop-number.number c.loop-number.places.items c.push-in-loop-number.new.self.items c.loop-number.invariant.size c.in_ok-push-2.ensures.items c.loop-number.invariant.ends;
}

pub returns : goal.returns
returns c =
    let all : c.loop-number.number ≡ c.args.count = omega (arith, c.loop-number-test.false, c.loop-number.auto.number-end) in
    record {
      size = omega (arith, c.loop-number.invariant.size, all);
      ends = λ k lt. c.loop-number.invariant.ends k (omega (arith, lt, all));
    }
