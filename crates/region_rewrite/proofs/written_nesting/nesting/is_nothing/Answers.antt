use Rattle.std.proofs.Common.{◌≡◌, ◌==◌, length, ap, ◌∙◌, rules}
use Rattle.std.specs.VecDeque.{deque_len}
use Rattle.region_rewrite.proofs.written_nesting_lemmas.NestingRows.{none_left}
use Rattle.region_rewrite.proofs.written_nesting.nesting.is_nothing.Goals as goal

pub returns : goal.returns
returns c =
    let body = c.args.body.now in
    let long : deque_len body ≡ length body.items = search rules in
    c.is_empty.ensures ∙ ap (λ n. n == 0) long ∙ none_left body.items
