use Rattle.pending_returns.proofs.levels.working.run_worklist.Goals as goal

pub loop-at-preserved : goal.loop-at-preserved
loop-at-preserved c = record {
  marked = c.update_range.ensures.marked;
  places = c.update_range.ensures.places;
  size = c.update_range.ensures.size;
  sound = λ never_first program points is sound. c.update_range.ensures.sound never_first program points is (c.loop-at.invariant.sound never_first program points is sound);
}

pub returns-in_err-update_range-clause-sound : goal.returns-in_err-update_range-clause-sound
returns-in_err-update_range-clause-sound c = λ never_first program points is sound. c.update_range.ensures.sound never_first program points is (c.loop-at.invariant.sound never_first program points is sound)
