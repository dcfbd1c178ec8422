use Rattle.std.proofs.Common.{◌≡◌, ◌≤◌, length, arith}
use Rattle.std.proofs.lemmas.List.{length-map}
use Rattle.pending_returns.specs.levels.Reach.{trues}
use Rattle.pending_returns.proofs.levels_lemmas.Searching.{trues-most}
use Rattle.overlap_trail.specs.finding.Search.{is_there, flags_of}
use Rattle.overlap_trail.proofs.finding.return_lemmas.known_of.Goals as goal

pub rounds-smaller : goal.rounds-smaller
rounds-smaller c =
    let numbers = c.round.new.known.numbers.items in
    let up = c.in_ok-round.ensures.more c.if-not-branch.false in
    let most : trues (flags_of numbers) ≤ length (flags_of numbers) = trues-most (flags_of numbers) in
    let same : length (flags_of numbers) ≡ length numbers = length-map numbers (λ o. is_there o) in
    omega (arith, up, most, same, c.in_ok-round.ensures.knows.size)
