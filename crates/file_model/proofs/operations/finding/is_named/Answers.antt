use Rattle.std.proofs.Common.{◌∙◌, ◌≡◌, IfSome, Option, ap, arith, sym, subst}
use Rattle.std.specs.Str.{bytes_eq}
use Rattle.file_model.specs.operations.Seen.{Seen}
use Rattle.file_model.specs.contracts.operations.watched.BoxDynDeviceWatched.TheImpl.{seen-value}
use Rattle.file_model.proofs.operations_lemmas.CallLemmas.{seen_at}
use Rattle.file_model.proofs.operations.finding.is_named.Goals as goal

pub returns : goal.returns
returns g c =
    let fits = c.args.bench.now.within in
    subst (λ (o : Option Seen). IfSome o (λ device. c.eq.result ≡ bytes_eq device.name c.args.name.now))
    (sym (seen_at (seen-value g.dyn-1).it c.args.bench.now.devices.items c.args.bench.now.devices.len c.args.at c.index.result.now c.args.bench.now.devices.ok.0 (omega (arith, fits)) c.index.ensures))
    (c.eq.ensures ∙ ap (λ n. bytes_eq n c.args.name.now) c.device_name.ensures)
