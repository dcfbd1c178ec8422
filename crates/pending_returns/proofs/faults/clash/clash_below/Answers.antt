use Rattle.std.proofs.Common.{length, refl, arith}
use Rattle.std.proofs.lemmas.Option.{slice_get_read}
use Rattle.pending_returns.proofs.faults_lemmas.Led.{there-below}
use Rattle.pending_returns.proofs.faults_lemmas.Standing.{fine-more, fine-all}
use Rattle.pending_returns.proofs.faults.clash.clash_below.Goals as goal

pub bounds-levels-last : goal.bounds-levels-last
bounds-levels-last c =
    let reach = c.callees_from.new.reach in
    let here = slice_get_read reach.places.items (length reach.places.items) c.loop-at.at c.index-last.result.now refl (omega (arith, c.len-at-end.ensures, c.loop-at-test.true)) c.index-last.ensures in
    there-below reach.places.items reach.marks.items (length c.args.levels.now) c.loop-at.at c.index-last.result.now c.in_ok-callees_from.ensures.marked c.in_ok-callees_from.ensures.size here

pub fault_at-requires : goal.fault_at-requires
fault_at-requires c =
    let reach = c.callees_from.new.reach in
    let levels = c.args.levels.now in
    let last = c.index-last.result.now in
    let facts = c.index-levels-last.result in
    let here = slice_get_read reach.places.items (length reach.places.items) c.loop-at.at last refl (omega (arith, c.len-at-end.ensures, c.loop-at-test.true)) c.index-last.ensures in
    let inside = there-below reach.places.items reach.marks.items (length levels) c.loop-at.at last c.in_ok-callees_from.ensures.marked c.in_ok-callees_from.ensures.size here in
    c.requires.known last facts (slice_get_read levels (length levels) last facts refl inside c.index-levels-last.is)

pub returns-in-Some-clause-found : goal.returns-in-Some-clause-found
returns-in-Some-clause-found c =
    let reach = c.callees_from.new.reach in
    let levels = c.args.levels.now in
    let last = c.index-last.result.now in
    let facts = c.index-levels-last.result in
    let here = slice_get_read reach.places.items (length reach.places.items) c.loop-at.at last refl (omega (arith, c.len-at-end.ensures, c.loop-at-test.true)) c.index-last.ensures in
    let inside = there-below reach.places.items reach.marks.items (length levels) c.loop-at.at last c.in_ok-callees_from.ensures.marked c.in_ok-callees_from.ensures.size here in
    record {
      is_base = refl;
      leads = (c.in_ok-callees_from.ensures.led last).0 (c.loop-at.at, here);
      facts = facts;
      level = slice_get_read levels (length levels) last facts refl inside c.index-levels-last.is;
      faults = c.in-Some.ensures;
    }

pub loop-at-preserved : goal.loop-at-preserved
loop-at-preserved c =
    let reach = c.callees_from.new.reach in
    let levels = c.args.levels.now in
    let last = c.index-last.result.now in
    let facts = c.index-levels-last.result in
    let here = slice_get_read reach.places.items (length reach.places.items) c.loop-at.at last refl (omega (arith, c.len-at-end.ensures, c.loop-at-test.true)) c.index-last.ensures in
    let inside = there-below reach.places.items reach.marks.items (length levels) c.loop-at.at last c.in_ok-callees_from.ensures.marked c.in_ok-callees_from.ensures.size here in
    fine-more levels reach.places.items c.args.end c.loop-at.at last facts here (slice_get_read levels (length levels) last facts refl inside c.index-levels-last.is) c.in-None.ensures c.loop-at.invariant

pub returns-clause-found : goal.returns-clause-found
returns-clause-found c = fine-all c.args.levels.now c.args.base c.args.end c.callees_from.new.reach.places.items c.loop-at.at (omega (arith, c.len-at-end.ensures, c.loop-at-test.false)) c.in_ok-callees_from.ensures.led c.loop-at.invariant
