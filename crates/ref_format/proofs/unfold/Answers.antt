use Rattle.std.proofs.Common.{◌≡◌, ◌∷◌, ℕ, ◌+◌, false, List, [], None, length, refl, sym, ap, ◌∙◌, arith}
use Rattle.std.proofs.lemmas.Result.{err_from_is_err_and}
use Rattle.std.proofs.lemmas.Bool.Decides.{nat_tests}
use Rattle.ref_format.specs.Line.{line_of}
use Rattle.ref_format.specs.Joining.{fault_of, literal_at_end}
use Rattle.ref_format.proofs.UnfoldLemmas.{text_behind, text_behind-all, text_behind-none, text_behind-dropped, text_behind-fault, text_behind-kept}
use Rattle.ref_format.proofs.JoiningLemmas.{none_of_ok, some_of_err, err_told}
use Rattle.ref_format.proofs.unfold.Goals as goal

nil_of_length : (bytes : List ℕ) → length bytes ≡ 0 → bytes ≡ []
nil_of_length [] e = refl
nil_of_length (b ∷ bytes) e = absurd (omega (arith, e))

pub loop-rest-init : goal.loop-rest-init
loop-rest-init c =
    let bytes = c.args.bytes.now in
    let joining = c.new-joining.result in
    let made = c.new-joining.ensures in
    record {
      lines_left = omega arith;
      sound = record { open_at_end = made.literal ∙ ap literal_at_end (sym made.text); begins = λ _. made.text };
      text = ap (λ last. text_behind false false 1 last joining.text bytes) made.last
          ∙ ap (λ text. text_behind false false 1 None text bytes) made.text
          ∙ text_behind-all bytes;
    }

pub loop-rest-preserved : goal.loop-rest-preserved
loop-rest-preserved c =
    let before = c.loop-rest in
    let fits = before.invariant.lines_left in
    let shorter = c.first_line.ensures.shorter in
    let last = before.joining.last in
    let text = before.joining.text in
    let number : ℕ = before.number + 1 in
    let card = c.card_of_line-card.result in
    let no_fault = ap (λ l. fault_of last l (line_of number card)) (sym before.invariant.sound.open_at_end) ∙ none_of_ok (fault_of last before.joining.literal (line_of number card)) tt c.in_ok-add.field-0 c.in_ok-add.ensures.fault in
    let kept = text_behind-kept _ _ _ _ _ number last text before.rest.now _ _ card c.first_line.ensures.first c.card_of_line-card.ensures c.drops.ensures.over c.drops.ensures.inside c.drops.ensures.answer c.if-drops.false no_fault in
    record {
      lines_left = omega (arith, fits, shorter);
      sound = c.in_ok-add.ensures.sound;
      text = rw (c.in_ok-add.ensures.last, c.in_ok-add.ensures.text) (sym kept ∙ before.invariant.text);
    }

pub returns-in_err-add : goal.returns-in_err-add
returns-in_err-add c =
    let before = c.loop-rest in
    let last = before.joining.last in
    let text = before.joining.text in
    let number : ℕ = before.number + 1 in
    let card = c.card_of_line-card.result in
    let p = err_from_is_err_and c.from_residual.result c.from_residual.ensures.1 in
    let fault = c.in_err-add.field-0.0 in
    rw (p.1, p.2) (λ other.
    let found = some_of_err (fault_of last before.joining.literal (line_of number card)) tt fault (c.in_err-add.ensures.fault other) in
    let same = ap (λ l. fault_of last l (line_of number card)) (sym before.invariant.sound.open_at_end) ∙ found.1 in
    let failed = text_behind-fault _ _ _ _ _ number last text before.rest.now c.first_line.result.0.now c.first_line.result.1.now card c.first_line.ensures.first c.card_of_line-card.ensures c.drops.ensures.over c.drops.ensures.inside c.drops.ensures.answer found.0 c.if-drops.false same in
    sym before.invariant.text ∙ err_told _ found.0 fault failed found.2)

pub loop-rest-preserved-then-drops : goal.loop-rest-preserved-then-drops
loop-rest-preserved-then-drops c =
    let before = c.loop-rest in
    let fits = before.invariant.lines_left in
    let shorter = c.first_line.ensures.shorter in
    let dropped = text_behind-dropped _ _ _ _ _ (before.number + 1) before.joining.last before.joining.text before.rest.now _ _ c.card_of_line-card.result c.first_line.ensures.first c.card_of_line-card.ensures c.drops.ensures.over c.drops.ensures.inside c.drops.ensures.answer c.if-drops.true in
    record {
      lines_left = omega (arith, fits, shorter);
      sound = before.invariant.sound;
      text = sym dropped ∙ before.invariant.text;
    }

pub returns : goal.returns
returns c =
    let before = c.loop-rest in
    let joining = before.joining in
    let none : before.rest.now ≡ [] = nil_of_length before.rest.now (grind (arith, nat_tests, c.loop-rest-test.ensures)) in
    sym before.invariant.text ∙ ap (λ rest. text_behind before.entries.over before.entries.inside (before.number + 1) joining.last joining.text rest) none
    ∙ text_behind-none before.entries.over before.entries.inside (before.number + 1) joining.last joining.text
