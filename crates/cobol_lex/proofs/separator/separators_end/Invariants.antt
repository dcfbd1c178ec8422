use Rattle.std.proofs.Common.{◌≡◌, ℕ, ◌-◌, ◌<◌, ◌≤◌, true, length, get_or}
use Rattle.cobol_lex.specs.Byte.{is_separator}
use Rattle.cobol_lex.proofs.separator.separators_end.Given as goal

abbrev pub invariant-loop-end : goal.invariant-loop-end
invariant-loop-end l = record {
  further : l.at < l.end;
  within : l.end ≤ length l.bytes;
  separators : (k : ℕ) → l.at < k → k < l.end → is_separator (get_or l.bytes k 0) ≡ true;
}

abbrev pub decreases-loop-end : goal.decreases-loop-end
decreases-loop-end l = length l.bytes - l.end
