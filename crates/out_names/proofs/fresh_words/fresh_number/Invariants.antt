use Rattle.std.proofs.Common.{◌≡◌, ◌-◌}
use Rattle.out_names.specs.FreshWords.{first_free, fresh_number}
use Rattle.out_names.proofs.fresh_words.fresh_number.Given as goal

abbrev pub invariant-loop-number : goal.invariant-loop-number
invariant-loop-number l = first_free (l.end - l.number) l.words l.stem l.number ≡ fresh_number l.words l.stem l.fn.from
