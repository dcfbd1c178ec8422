-- Counts that are made one after the other.
use Rattle.std.proofs.Common.{◌≡◌, ◌+◌, ◌<◌, ℕ, List, [], ◌∷◌, ◌++◌, map, length, drop, ap, sym, ◌∙◌, add-one, append_assoc, drop-cons}
use Rattle.std.proofs.lemmas.List.{map-append}
use Rattle.control_flow_theory.specs.main_theorem.Numbering.{counts}
use Rattle.control_flow_theory.specs.graph_rules.Families as families
use Rattle.branch_tree.specs.Graph.{seen_added}
use Rattle.branch_tree.specs.declared.graph.Added.{Added}
use Rattle.branch_tree.specs.declared.graph.Added.TheVariants as added

-- one more
pub one-counted : (made : List Added) (cells : List ℕ) (at : ℕ) → at < length cells → map seen_added made ++ counts (drop at cells) ≡ counts cells →
    map seen_added (made ++ added.Count ∷ []) ++ counts (drop (at + 1) cells) ≡ counts cells
one-counted made cells at within before =
    ap (λ l. l ++ counts (drop (at + 1) cells)) (map-append seen_added made (added.Count ∷ []))
    ∙ append_assoc (map seen_added made) (families.Count ∷ []) (counts (drop (at + 1) cells))
    ∙ ap (λ n. map seen_added made ++ families.Count ∷ counts (drop n cells)) (add-one at)
    ∙ ap (λ l. map seen_added made ++ counts l) (sym (drop-cons cells at 0 within))
    ∙ before
