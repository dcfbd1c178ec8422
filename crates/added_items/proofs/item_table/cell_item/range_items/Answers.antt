use Rattle.std.proofs.Common.{◌≡◌, ℕ, ◌+◌, ◌<◌, None, Some, map, length, ap, sym, ◌∙◌, subst, arith}
use Rattle.std.specs.Prelude.{slice_get}
use Rattle.std.proofs.lemmas.List.{length_push, get_or_default}
use Rattle.branch_tree.specs.Graph.{seen_added}
use Rattle.added_items.specs.mentions.CellUse.{first_arms}
use Rattle.added_items.specs.item_table.CellItem.{IsAsked}
use Rattle.added_items.specs.item_table.Owners.{kind_in}
use Rattle.added_items.specs.item_table.Numbering.{number_at}
use Rattle.added_items.specs.item_table.Tables.{ends_in_other, most_by}
use Rattle.statement_builders.specs.declared.item_words.cells.CellItem.{CellItem}
use Rattle.added_items.proofs.item_table_lemmas.Asked.{item-asked}
use Rattle.added_items.proofs.item_table_lemmas.HoldingLemmas.{each-push}
use Rattle.added_items.proofs.item_table.cell_item.range_items.Goals as goal

pub loop-cell-preserved : goal.loop-cell-preserved
loop-cell-preserved c =
    let cell = c.loop-cell.cell in
    let items = c.loop-cell.items in
    let made = c.in_ok-cell_item.field-0 in
    let arms = c.in_ok-arms.arms.items in
    let told = c.args.told.now in
    let kinds = map seen_added c.args.added.now in
    let within : cell < length arms = omega (arith, c.in_ok-arms.ensures.size, c.loop-cell-test.true) in
    let first : c.index.result.now ≡ first_arms cell told =
    c.index.ensures ∙ get_or_default arms cell c.index.result.now None within ∙ c.in_ok-arms.ensures.value cell within in
    let asked = λ (k : ℕ) (found : CellItem).
    IsAsked (c.args.first + number_at c.args.numbering.now (c.args.before + k)) (most_by (first_arms k told) (kind_in kinds k)) (ends_in_other (kind_in kinds k)) found in
    let last : asked cell made = item-asked _ _ _ _ _ made first c.kind_in-kind.ensures c.in_ok-cell_item.ensures in
    record {
      count = ap length c.in_ok-push.ensures.ok ∙ length_push items made ∙ ap (λ n. n + 1) c.loop-cell.invariant.count;
      each = λ k found got.
          each-push asked items made c.loop-cell.invariant.each (subst (λ n. asked n made) (sym c.loop-cell.invariant.count) last) k found
          (subst (λ xs. slice_get xs k ≡ Some found) c.in_ok-push.ensures.ok got);
    }
