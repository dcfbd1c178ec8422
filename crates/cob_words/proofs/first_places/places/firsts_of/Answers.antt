use Rattle.std.proofs.Common.{◌≡◌, ◌+◌, ◌-◌, ◌<◌, Some, ap, arith, cond, drop, length, sym, ◌∙◌}
use Rattle.std.proofs.lemmas.Iterator.Adapters.{position_from-zero}
use Rattle.std.specs.List.{position_from}
use Rattle.std.specs.Str.{bytes_eq}
use Rattle.cob_words.proofs.first_places_lemmas.PlaceLemmas.{from_step}
use Rattle.cob_words.proofs.first_places_lemmas.WordLemmas.{bytes_eq_sym}
use Rattle.cob_words.proofs.first_places.places.firsts_of.Goals as goal

pub loop-at-preserved : goal.loop-at-preserved
loop-at-preserved c =
    let words = c.args.words.now in
    let at = c.loop-at.at in
    let n = c.loop-at.at - 1 in
    let x = c.index-words-at.result in
    let one : n + 1 ≡ at = omega (arith, c.loop-at-test.true) in
    let within : n < length words = omega (arith, c.loop-at-test.true, c.loop-at.invariant.within) in
    record {
      within = omega (arith, c.loop-at.invariant.within);
      firsts = λ word.
          let s = rw one at (from_step (bytes_eq word) words n x within c.index-words-at.is) in
          c.in_ok-put.ensures word
          ∙ ap (cond (bytes_eq x word) (Some n)) (c.loop-at.invariant.firsts word)
          ∙ ap (λ b. cond b (Some n) (position_from (bytes_eq word) at (drop at words))) (bytes_eq_sym x word)
          ∙ sym s;
    }

pub returns : goal.returns
returns c word =
    let none : c.loop-at.at ≡ 0 = omega (arith, c.loop-at-test.false) in
    rw none at (c.loop-at.invariant.firsts word)
    ∙ sym (position_from-zero (bytes_eq word) c.args.words.now)
