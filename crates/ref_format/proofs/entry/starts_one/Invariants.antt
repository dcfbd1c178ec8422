use Rattle.std.proofs.Common.{◌≡◌, false, map, take}
use Rattle.ref_format.specs.Entry.{starts_one}
use Rattle.ref_format.proofs.entry.starts_one.Given as goal

abbrev pub invariant-loop-word : goal.invariant-loop-word
invariant-loop-word l = starts_one (map (λ w. w.now) (take l.word-index l.words)) l.text ≡ false
