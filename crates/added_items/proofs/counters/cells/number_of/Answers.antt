use Rattle.std.proofs.Common.{◌≡◌, Ok, Err, ◌∙◌, rules}
use Rattle.std.proofs.lemmas.Result.{IfOk-weaker}
use Rattle.added_items.proofs.counters_lemmas.CellRows.{found-place}
use Rattle.added_items.proofs.counters.cells.number_of.Goals as goal

pub returns-in-Ok-try_from : goal.returns-in-Ok-try_from
returns-in-Ok-try_from c =
    let cells = c.args.cells.now in
    let found = found-place cells c.args.cell (Ok c.in-Ok.at) c.requires c.in-Ok.ensures.position in
    let same : c.in-Ok-try_from.number ≡ c.in-Ok.at = search rules in
    same ∙ found

pub returns-in-Err : goal.returns-in-Err
returns-in-Err c =
    let cells = c.args.cells.now in
    let found = found-place cells c.args.cell (Err c.in-Err.field-0) c.requires c.in-Err.ensures.position in
    IfOk-weaker c.number_behind.result _ _ (λ number h. h ∙ found) c.number_behind.ensures
