use Rattle.std.proofs.Common.{◌≡◌, ◌++◌, drop}
use Rattle.out_names.specs.Words.{file_names}
use Rattle.out_names.proofs.words.add_files.Given as goal

abbrev pub invariant-loop-file : goal.invariant-loop-file
invariant-loop-file l = l.words ++ file_names (drop l.file-index l.files) ≡ l.fn.words ++ file_names l.files
