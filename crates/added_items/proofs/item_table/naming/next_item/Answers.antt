use Rattle.std.proofs.Common.{ap, arith}
use Rattle.out_names.proofs.FreshLemmas.{fresh_is_near}
use Rattle.branch_tree.specs.Graph.{seen_added}
use Rattle.added_items.specs.item_table.Naming.{stem_of}
use Rattle.added_items.proofs.item_table.naming.next_item.Goals as goal

pub overflow_add-made : goal.overflow_add-made
overflow_add-made c =
    let near = fresh_is_near c.args.words.now (stem_of (seen_added c.args.kind)) c.next_of-from.result in
    omega (arith, near, ap (λ made. made.number) c.in_ok-made.ensures)
