use Rattle.std.proofs.Common.{◌≡◌, map, take}
use Rattle.symbol_tables.proofs.data_names.table.file_names.Given as goal

abbrev pub invariant-loop-file : goal.invariant-loop-file
invariant-loop-file l = l.words ≡ map (λ file. file.name) (take l.file-index l.files)
