use Rattle.std.proofs.Common.{◌≡◌, ◌<◌, ℕ, List, length, true, false, Some, refl, sym, ap, ◌∙◌, arith, slice_get}
use Rattle.std.proofs.lemmas.Option.{slice_get_within, slice_get_read}
use Rattle.std.proofs.Math.ListN.{length-set}
use Rattle.pending_returns.proofs.levels_lemmas.Marking.{left-more, left-end}
use Rattle.pending_returns.proofs.levels.reach.Reach.clear.Goals as goal

pub index_mut-requires : goal.index_mut-requires
index_mut-requires c =
    let inv = c.loop-at.invariant in
    let places = c.loop-at.self.places.items in
    let here = c.index.result.now in
    let is = slice_get_read places (length places) c.loop-at.at here refl (omega (arith, c.loop-at-test.true, c.len-at-end.ensures, ap (λ (ps : List ℕ). length ps) inv.places)) c.index.ensures in
    let was : slice_get c.args.self.now.places.items c.loop-at.at ≡ Some here = ap (λ (ps : List ℕ). slice_get ps c.loop-at.at) (sym inv.places) ∙ is in
    let lt : here < length c.args.self.now.marks.items = slice_get_within c.args.self.now.marks.items here true (c.requires.marked.marked here (c.loop-at.at, was)) in
    omega (arith, lt, inv.size)

pub loop-at-preserved : goal.loop-at-preserved
loop-at-preserved c =
    let inv = c.loop-at.invariant in
    let places = c.loop-at.self.places.items in
    let here = c.index.result.now in
    let is = slice_get_read places (length places) c.loop-at.at here refl (omega (arith, c.loop-at-test.true, c.len-at-end.ensures, ap (λ (ps : List ℕ). length ps) inv.places)) c.index.ensures in
    record {
      places = inv.places;
      size = length-set c.loop-at.self.marks.items here false ∙ inv.size;
      left = left-more places c.loop-at.self.marks.items c.loop-at.at here is inv.left;
    }

pub returns-clause-marked : goal.returns-clause-marked
returns-clause-marked c =
    let inv = c.loop-at.invariant in
    left-end c.loop-at.self.places.items c.clear.new.self.items c.loop-at.self.marks.items c.loop-at.at
    (omega (arith, c.loop-at-test.false, c.len-at-end.ensures, ap (λ (ps : List ℕ). length ps) inv.places)) c.clear.ensures.items inv.left
