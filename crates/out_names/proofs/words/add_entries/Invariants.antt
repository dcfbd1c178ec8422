use Rattle.std.proofs.Common.{◌≡◌, ◌++◌, drop}
use Rattle.out_names.specs.Words.{entry_names}
use Rattle.out_names.proofs.words.add_entries.Given as goal

abbrev pub invariant-loop-entry : goal.invariant-loop-entry
invariant-loop-entry l = l.words ++ entry_names (drop l.entry-index l.entries) ≡ l.fn.words ++ entry_names l.entries
