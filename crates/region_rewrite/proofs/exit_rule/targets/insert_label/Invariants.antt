use Rattle.std.proofs.Common.{◌≡◌}
use Rattle.region_rewrite.proofs.exit_rule_lemmas.ExitRows.{Further}
use Rattle.region_rewrite.proofs.exit_rule.targets.insert_label.Given as goal

abbrev pub invariant-loop-at : goal.invariant-loop-at
invariant-loop-at l = record {
  same : l.labels ≡ l.fn.labels;
  further : Further l.label l.fn.labels.items l.at;
}
