use Rattle.std.proofs.Common.{◌≡◌, ◌++◌, [], ◌∷◌, None, Some, set, get_or, sym, ◌∙◌, subst}
use Rattle.std.proofs.lemmas.List.{get_or_default}
use Rattle.added_items.specs.item_table.Assignment.{AreHeld}
use Rattle.added_items.proofs.item_table_lemmas.HoldingLemmas.{held-more}
use Rattle.added_items.proofs.item_table.assignment.hold.Goals as goal

pub returns-in_ok-push-in-None-clause-held : goal.returns-in_ok-push-in-None-clause-held
returns-in_ok-push-in-None-clause-held c =
    let old = c.args.holding.now in
    let numbers = old.numbers.items in
    let place = c.args.place in
    let none : get_or numbers place None ≡ None =
    get_or_default numbers place None c.index.result.now c.requires.within ∙ sym c.index.ensures ∙ c.in-None.is in
    subst (λ held. AreHeld held (set numbers place (Some c.len-number.result))) (sym c.in_ok-push-in-None.ensures.ok)
    (subst (λ n. AreHeld (old.held ++ place ∷ []) (set numbers place (Some n))) (sym c.len-number.ensures)
    (held-more old.held numbers place c.requires.within c.requires.held none))
