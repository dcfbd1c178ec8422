use Rattle.std.proofs.Common.{◌≡◌, ◌≤◌, length, drop}
use Rattle.out_names.specs.Words.{with_words, table_of}
use Rattle.out_names.proofs.words.table_of.Given as goal

abbrev pub invariant-loop-word : goal.invariant-loop-word
invariant-loop-word l = (with_words l.table (drop l.word-index l.words) ≡ table_of l.words) × (length l.table ≤ l.word-index)
