use Rattle.std.proofs.Common.{map, refl}
use Rattle.file_model.specs.contracts.operations.watched.BoxDynDeviceWatched.TheImpl.{seen-value}
use Rattle.cobol_run.proofs.FallLemmas.{none_fell}
use Rattle.trace_compare.specs.Side.{files_of}
use Rattle.trace_compare.proofs.pair.Pair.run.Goals as goal

pub turns-init : goal.turns-init
turns-init g c = record {
  room = c.requires.room;
  first = refl;
  second = refl;
  first_falls = none_fell (files_of c.args.self.now.first) c.args.bench.now.left (map (seen-value g.dyn-1).it c.args.bench.now.devices.items);
  second_falls = none_fell (files_of c.args.self.now.second) c.args.other.now.left (map (seen-value g.dyn-1).it c.args.other.now.devices.items);
  stands = λ p q files other_files steps own own_too both. both;
}
