use Rattle.std.proofs.Common.{◌≡◌, ℕ, ◌<◌, map, length, true, List, [], get_or, Bor, sym}
use Rattle.std.proofs.lemmas.List.{get_or-map, length-map}
use Rattle.std.proofs.lemmas.List.Folds.{list_any_at}
use Rattle.std.specs.Str.{bytes_eq}
use Rattle.cob_words.proofs.lists.is_in_row.Goals as goal

pub returns-then-is_same : goal.returns-then-is_same
returns-then-is_same c =
    let word = c.args.word.now in
    let words : List (List ℕ) = map {A = Bor (List ℕ)} {B = List ℕ} (λ w. w.now) c.args.row.now in
    let within : c.loop-w.w-index < length words = simp length-map c.loop-w-test.true in
    let here : bytes_eq word (get_or words c.loop-w.w-index []) ≡ true = simp (get_or-map {X = Bor (List ℕ)} {Y = List ℕ} (λ w. w.now) c.args.row.now c.loop-w.w-index record { ref_ptr = (0, 0); now = [] } [] c.loop-w-test.true) cc in
    sym (list_any_at (bytes_eq word) words c.loop-w.w-index [] within here)
