use Rattle.std.proofs.Common.{◌≡◌, ℕ, ◌<◌, map, length, true, List, [], get_or, Bor, sym}
use Rattle.std.proofs.lemmas.List.{get_or-map, length-map}
use Rattle.std.proofs.lemmas.List.Folds.{list_any_at}
use Rattle.ref_format.specs.Entry.{starts_folded}
use Rattle.ref_format.proofs.entry.starts_one.Goals as goal

pub returns-then-starts_folded : goal.returns-then-starts_folded
returns-then-starts_folded c =
    let text = c.args.text.now in
    let at : ℕ = c.loop-word.word-index in
    let words : List (List ℕ) = map {A = Bor (List ℕ)} {B = List ℕ} (λ w. w.now) c.args.words.now in
    let within : at < length words = simp length-map c.loop-word-test.true in
    let here : starts_folded (get_or words at []) text ≡ true =
    simp (get_or-map {X = Bor (List ℕ)} {Y = List ℕ} (λ w. w.now) c.args.words.now at record { ref_ptr = (0, 0); now = [] } [] c.loop-word-test.true) cc in
    sym (list_any_at (λ word. starts_folded word text) words at [] within here)
