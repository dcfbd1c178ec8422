use Rattle.std.proofs.Common.{◌≡◌, take}
use Rattle.std.specs.List.{fold}
use Rattle.symbol_tables.specs.declared.data_names.name.Referent.TheVariants.{Unknown}
use Rattle.symbol_tables.specs.data_names.Index.{tally}
use Rattle.symbol_tables.proofs.data_names.table.find_among.Given as goal

abbrev pub invariant-loop-place : goal.invariant-loop-place
invariant-loop-place l = l.found ≡ fold (tally l.names l.word l.of) Unknown (take l.place-index l.places)
