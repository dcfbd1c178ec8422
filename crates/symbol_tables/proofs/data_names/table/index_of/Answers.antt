use Rattle.std.proofs.Common.{◌≡◌, ◌+◌, ◌++◌, ◌∷◌, [], length, take, sym, ap, ◌∙◌, arith, if◌then◌else◌}
use Rattle.std.proofs.lemmas.List.{length-take-le, take_more}
use Rattle.symbol_tables.specs.data_names.Index.{places_of}
use Rattle.symbol_tables.specs.data_names.Look.{is_called}
use Rattle.symbol_tables.proofs.data_names_lemmas.IndexLemmas.{places_of_push}
use Rattle.symbol_tables.proofs.data_names.table.index_of.Goals as goal

pub loop-at-preserved : goal.loop-at-preserved
loop-at-preserved c word =
    let items = c.args.items.now in
    let at = c.loop-at.at in
    let x = c.index-items-at.result in
    let more : take (at + 1) items ≡ take at items ++ x ∷ [] = take_more items at x c.loop-at-test.true ∙ ap (λ y. take at items ++ y ∷ []) (sym c.index-items-at.is) in
    let count : length (take at items) ≡ at = length-take-le at items (omega arith) in
    let pushed = ap (places_of word) more ∙ places_of_push word (take at items) x ∙ ap (λ n. places_of word (take at items) ++ (if is_called word x.word then n ∷ [] else [])) count in
    c.in_ok-add_name.ensures word ∙ ap (λ l. l ++ (if is_called word x.word then at ∷ [] else [])) (c.loop-at.invariant word) ∙ sym pushed
