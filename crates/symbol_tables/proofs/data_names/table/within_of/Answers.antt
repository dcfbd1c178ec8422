use Rattle.std.proofs.Common.{◌≡◌, ◌+◌, ◌++◌, ◌∷◌, [], length, take, sym, ap, ◌∙◌, arith, if◌then◌else◌}
use Rattle.std.proofs.lemmas.List.{length-take-le, take_more}
use Rattle.std.specs.List.{list_any}
use Rattle.std.specs.Str.{bytes_eq}
use Rattle.symbol_tables.specs.data_names.Index.{numbers_in, places_within}
use Rattle.symbol_tables.proofs.data_names_lemmas.IndexLemmas.{places_within_push}
use Rattle.symbol_tables.proofs.data_names.table.within_of.Goals as goal

pub loop-at-preserved : goal.loop-at-preserved
loop-at-preserved c word =
    let items = c.args.items.now in
    let at = c.loop-at.at in
    let x = c.index-items-at.result in
    let more : take (at + 1) items ≡ take at items ++ x ∷ [] = take_more items at x c.loop-at-test.true ∙ ap (λ y. take at items ++ y ∷ []) (sym c.index-items-at.is) in
    let count : length (take at items) ≡ at = length-take-le at items (omega arith) in
    let pushed = ap (places_within word) more ∙ places_within_push word (take at items) x ∙ ap (λ n. places_within word (take at items) ++ (if list_any (bytes_eq word) x.above then n ∷ [] else [])) count in
    c.in_ok-add_to_each.ensures word
    ∙ ap (λ words. numbers_in c.loop-at.index word ++ (if list_any (bytes_eq word) words then at ∷ [] else [])) c.as_slice.ensures
    ∙ ap (λ l. l ++ (if list_any (bytes_eq word) x.above then at ∷ [] else [])) (c.loop-at.invariant word) ∙ sym pushed
