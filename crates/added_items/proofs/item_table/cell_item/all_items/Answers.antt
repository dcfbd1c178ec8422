use Rattle.std.proofs.Common.{◌≡◌, suc, ◌+◌, Some, map, take, length, get_or, ap, sym, ◌∙◌, subst, add-one, arith}
use Rattle.std.specs.Prelude.{slice_get}
use Rattle.std.proofs.lemmas.List.{length_push, length-map}
use Rattle.branch_tree.specs.Graph.{seen_added}
use Rattle.branch_tree.specs.Tree.{seen_body}
use Rattle.added_items.specs.mentions.CellUse.{cell_uses, first_arms}
use Rattle.added_items.specs.item_table.CellItem.{AreAsked}
use Rattle.added_items.specs.item_table.Numbering.{number_at}
use Rattle.added_items.specs.item_table.Row.{kinds_of_row}
use Rattle.added_items.specs.item_table.Seen.{seen_ranges}
use Rattle.added_items.proofs.item_table_lemmas.Asked.{all-more}
use Rattle.added_items.proofs.item_table_lemmas.RowLemmas.{row-next, row-front, range-at, told-at}
use Rattle.added_items.proofs.item_table.cell_item.all_items.Goals as goal

pub range_items-requires-clause-within : goal.range_items-requires-clause-within
range_items-requires-clause-within c =
    let ranges = c.args.ranges.now in
    let at = c.loop-at.at in
    let next = row-next ranges at c.index-ranges-at.result c.loop-at-test.true in
    let front = row-front (seen_ranges ranges) (suc at) in
    let row = ap length c.requires.row in
    let size = length-map c.args.numbering.now.kinds seen_added in
    omega (arith, next, front, row, size, c.loop-at.invariant.before)

pub overflow_add-before : goal.overflow_add-before
overflow_add-before c =
    let ranges = c.args.ranges.now in
    let at = c.loop-at.at in
    let next = row-next ranges at c.index-ranges-at.result c.loop-at-test.true in
    let front = row-front (seen_ranges ranges) (suc at) in
    let row = ap length c.requires.row in
    let size = length-map c.args.numbering.now.kinds seen_added in
    omega (arith, next, front, row, size, c.loop-at.invariant.before, c.requires.whole.few)

pub loop-at-preserved : goal.loop-at-preserved
loop-at-preserved c =
    let ranges = c.args.ranges.now in
    let seen = seen_ranges ranges in
    let at = c.loop-at.at in
    let one = get_or ranges at c.index-ranges-at.result in
    let number = number_at c.args.numbering.now in
    let lists = c.loop-at.lists in
    let made = c.in_ok-range_items.field-0 in
    let told = c.as_slice.result.now in
    let next = row-next ranges at c.index-ranges-at.result c.loop-at-test.true in
    let tells : told ≡ cell_uses (seen_body one.body.now.items) =
    c.as_slice.ensures ∙ c.index-told-at.is ∙ ap (λ ts. get_or ts at c.index-told-at.result) c.requires.told
    ∙ told-at ranges at c.index-ranges-at.result c.index-told-at.result c.loop-at-test.true in
    let last : AreAsked number c.args.first (length (kinds_of_row (take at seen))) (map seen_added one.added.now) (λ cell. first_arms cell told) made =
    subst (λ n. AreAsked number c.args.first n (map seen_added one.added.now) (λ cell. first_arms cell told) made) c.loop-at.invariant.before c.in_ok-range_items.ensures in
    record {
      before =
          ap (λ n. n + length one.added.now) c.loop-at.invariant.before ∙ sym next
          ∙ ap (λ n. length (kinds_of_row (take n seen))) (sym (add-one at));
      count = ap length c.in_ok-push.ensures.ok ∙ length_push lists made ∙ ap (λ n. n + 1) c.loop-at.invariant.count;
      each = λ k other items stands got.
          all-more number c.args.first ranges lists made at one told
          (range-at ranges at c.index-ranges-at.result c.loop-at-test.true) tells c.loop-at.invariant.count c.loop-at.invariant.each last k other items stands
          (subst (λ xs. slice_get xs k ≡ Some items) c.in_ok-push.ensures.ok got);
    }
