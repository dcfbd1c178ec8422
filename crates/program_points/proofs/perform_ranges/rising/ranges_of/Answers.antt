use Rattle.std.proofs.Common.{◌≡◌, List, ap, sym, ◌∙◌, ◌++◌, subst, rules}
use Rattle.std.specs.List.Sorted.{IsSortedByKey}
use Rattle.cob_tree.specs.declared.program.Range.{Range}
use Rattle.program_points.specs.perform_ranges.Named.{named_paragraphs}
use Rattle.program_points.proofs.perform_ranges_lemmas.Ordered.{rising-sorted}
use Rattle.program_points.proofs.perform_ranges_lemmas.Sorted.{from-sort, key_order, sort_key, sorted-exit, sorted-in-order}
use Rattle.program_points.proofs.perform_ranges.rising.ranges_of.Goals as goal

pub rising_of-requires : goal.rising_of-requires
rising_of-requires c =
    let found = c.named_paragraphs.new.found.items in
    let sorted = c.sort_by_key.new.self.items in
    let list = c.as_slice-2.result.now in
    let paragraphs = c.args.program.now.paragraphs in
    let same = c.as_slice-2.ensures.value in
    let is : found ≡ named_paragraphs paragraphs =
    c.in_ok-named_paragraphs.ensures ∙ ap (λ (rs : List Range). rs ++ named_paragraphs c.as_slice.result.now) c.new-found.ensures.items ∙ ap named_paragraphs c.as_slice.ensures in
    sorted-in-order list (sorted-exit found sorted list paragraphs is c.sort_by_key.ensures.permutation same)
    (subst (λ (rs : List Range). IsSortedByKey sort_key key_order rs) (sym same) (from-sort sorted c.in_ok-sort_by_key.ensures.sorted (λ a r q k. search rules)))

pub returns : goal.returns
returns c = rising-sorted c.named_paragraphs.new.found.items c.sort_by_key.new.self.items c.as_slice-2.result.now (named_paragraphs c.args.program.now.paragraphs) c.in_ok-ranges.ranges.items
    (c.in_ok-named_paragraphs.ensures ∙ ap (λ (rs : List Range). rs ++ named_paragraphs c.as_slice.result.now) c.new-found.ensures.items ∙ ap named_paragraphs c.as_slice.ensures) c.sort_by_key.ensures.permutation c.as_slice-2.ensures.value c.in_ok-ranges.ensures
