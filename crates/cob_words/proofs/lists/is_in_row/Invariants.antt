use Rattle.std.proofs.Common.{◌≡◌, false, map, take}
use Rattle.cob_words.specs.Lists.{is_listed}
use Rattle.cob_words.proofs.lists.is_in_row.Given as goal

abbrev pub invariant-loop-w : goal.invariant-loop-w
invariant-loop-w l = is_listed (map (λ w. w.now) (take l.w-index l.row)) l.word ≡ false
