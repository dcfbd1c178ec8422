use Rattle.std.proofs.Common.{◌≡◌, ◌+◌, ◌++◌, ◌∷◌, ◌||◌, [], take, sym, ap, ◌∙◌, if◌then◌else◌}
use Rattle.std.proofs.lemmas.List.Folds.{list_any_more}
use Rattle.std.specs.List.{list_any}
use Rattle.std.specs.Str.{bytes_eq}
use Rattle.symbol_tables.specs.data_names.Index.{numbers_in}
use Rattle.symbol_tables.proofs.data_names_lemmas.EachLemmas.{each_step}
use Rattle.symbol_tables.proofs.data_names.index.add_to_each.Goals as goal

pub loop-at-preserved : goal.loop-at-preserved
loop-at-preserved c other =
    let words = c.args.words.now in
    let at = c.loop-at.at in
    let x = c.index-words-at.result in
    let seen = take at words in
    let more : list_any (bytes_eq other) (take (at + 1) words) ≡ (list_any (bytes_eq other) seen || bytes_eq other x) = list_any_more (bytes_eq other) words at x c.loop-at-test.true ∙ ap (λ y. list_any (bytes_eq other) seen || bytes_eq other y) (sym c.index-words-at.is) in
    let start = numbers_in c.args.index.now other in
    each_step seen x other start (numbers_in c.loop-at.index other) _ c.args.number (c.loop-at.invariant other) (c.in_ok-add_new.ensures other)
    ∙ ap (λ b. start ++ (if b then c.args.number ∷ [] else [])) (sym more)
