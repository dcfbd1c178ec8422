use Rattle.std.proofs.Common.{[], ◌∷◌, ◌++◌, ap, sym, ◌∙◌}
use Rattle.std.proofs.lemmas.Result.{on_ok_weaker}
use Rattle.cobol_print.specs.units.Unit.{unit_at, ended}
use Rattle.cobol_print.proofs.units_lemmas.UnitLemmas.{ended-last}
use Rattle.cobol_print.proofs.units.unit.Units.end.Goals as goal

pub returns : goal.returns
returns c =
    on_ok_weaker c.add.result
    (λ e. e ∙ ap (λ tokens. c.take_last.new.self ++ unit_at c.in-Some.unit.column tokens ∷ []) c.in_ok-push.ensures.ok
    ∙ sym (ended-last c.take_last.new.self c.in-Some.unit) ∙ ap ended (sym c.in-Some.ensures))
    c.add.ensures
