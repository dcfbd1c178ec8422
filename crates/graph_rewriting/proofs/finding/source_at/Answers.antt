use Rattle.std.proofs.Common.{◌≡◌, Some, ap, sym, ◌∙◌, arith}
use Rattle.std.specs.Option.{option_copied}
use Rattle.graph_rewriting.proofs.finding.source_at.Goals as goal

pub returns-then-found-key : goal.returns-then-found-key
returns-then-found-key c =
    let is : c.in-Some-get.found.now ≡ c.args.key = omega (arith, c.if-found-key.true) in
    record {
      key = c.args.key;
      kept = c.in-Some.kept.now;
      led = sym c.get-in-Some.ensures.value ∙ ap option_copied c.in-Some-get.is ∙ ap Some is;
      here = sym c.get.ensures ∙ ap option_copied c.in-Some.is;
      jumps = sym c.jumps_to.ensures ∙ c.if-not-jumps_to.false;
    }
