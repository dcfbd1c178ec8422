use Rattle.std.proofs.Common.{◌≡◌, ◌+◌, ◌∙◌, ℕ, ap, sym, length, refl, slice_get, arith}
use Rattle.program_points.proofs.table_building_lemmas.Beginning.{holding-none, holding-more, holding-kept, one-more}
use Rattle.program_points.proofs.table_building.begin.numbers_twice.Goals as goal

pub loop-start-init : goal.loop-start-init
loop-start-init c = record { size = omega arith; first = holding-none (λ (k : ℕ). k) 0 _ }

pub loop-start-preserved : goal.loop-start-preserved
loop-start-preserved c = record {
  size = one-more c.loop-start.owners.items c.push.new.self.items c.loop-start.start c.loop-start.start c.loop-start.invariant.size c.in_ok-push.ensures.items;
  first = holding-more (λ (k : ℕ). k) 0 c.loop-start.start c.loop-start.owners.items c.push.new.self.items (omega (arith, c.loop-start.invariant.size)) c.in_ok-push.ensures.items c.loop-start.invariant.first;
}

pub loop-number-init : goal.loop-number-init
loop-number-init c =
    let all : c.loop-start.start ≡ c.args.count = omega (arith, c.loop-start-test.false, c.loop-start.auto.start-end) in
    record {
      size = omega (arith, c.loop-start.invariant.size, all);
      first = λ k lt. c.loop-start.invariant.first k (omega (arith, lt, all));
      second = holding-none (λ (k : ℕ). k) c.args.count c.loop-start.owners.items;
    }

pub loop-number-preserved : goal.loop-number-preserved
loop-number-preserved c = record {
  size = omega (arith, one-more c.loop-number.owners.items c.push-in-loop-number.new.self.items c.loop-number.number (length c.loop-number.owners.items) refl c.in_ok-push-2.ensures.items, c.loop-number.invariant.size);
  first = holding-kept (λ (k : ℕ). k) 0 c.args.count c.loop-number.owners.items c.push-in-loop-number.new.self.items c.loop-number.number (omega (arith, c.loop-number.invariant.size)) c.in_ok-push-2.ensures.items c.loop-number.invariant.first;
  second = holding-more (λ (k : ℕ). k) c.args.count c.loop-number.number c.loop-number.owners.items c.push-in-loop-number.new.self.items c.loop-number.invariant.size c.in_ok-push-2.ensures.items c.loop-number.invariant.second;
}

pub returns : goal.returns
returns c =
    let all : c.loop-number.number ≡ c.args.count = omega (arith, c.loop-number-test.false, c.loop-number.auto.number-end) in
    record {
      size = omega (arith, c.loop-number.invariant.size, all);
      first = λ k lt. (let same : 0 + k ≡ k = omega arith in ap (λ (n : ℕ). slice_get c.loop-number.owners.items n) (sym same) ∙ c.loop-number.invariant.first k lt);
      second = λ k lt. c.loop-number.invariant.second k (omega (arith, lt, all));
    }
