use Rattle.std.proofs.Common.{◌≡◌, ◌+◌, ◌-◌, ◌++◌, length, drop, replicate, Some, None, sym, ap, ◌∙◌, arith}
use Rattle.std.proofs.lemmas.List.{length-replicate}
use Rattle.edit_fields.specs.Reading.{counted, written_from, written_out}
use Rattle.edit_fields.proofs.HeldMasks.{all_written, count_begins, count_ends, count_goes_on, room_for_run, room_for_symbol, run_written, symbol_comes, symbol_written}
use Rattle.edit_fields.proofs.symbols.written_out.Goals as goal
use Rattle.edit_fields.proofs.symbols.written_out.Goals.{in-Some+then-is_digit, in-Some+else-is_digit, in-None+then-upper-eq40, in-None+else-upper-eq40}

pub repeat-requires : goal.repeat-requires
repeat-requires c =
    let text = c.args.text.now in
    let l = c.loop-place in
    let so_far = l.invariant ∙ ap (λ o. l.symbols ++ written_from o l.last (drop l.place text)) c.in-Some.is in
    let other = sym c.is_digit.ensures ∙ c.if-is_digit.false in
    let ends = count_ends (written_out text) l.symbols text c.in-Some.so_far l.last l.place c.to_ascii_uppercase-upper.result c.loop-place-test.true c.to_ascii_uppercase-upper.ensures.value other so_far in
    let room = room_for_run (written_out text) l.symbols (replicate (c.in-Some.so_far - 1) l.last) (written_from None l.last (drop (l.place + 1) text)) ends c.requires in
    let run : length (replicate (c.in-Some.so_far - 1) l.last) ≡ c.in-Some.so_far - 1 = length-replicate (c.in-Some.so_far - 1) l.last in
    omega (arith, room, run, c.saturating_sub.ensures)

pub push-requires : goal.push-requires
push-requires c =
    let text = c.args.text.now in
    let l = c.loop-place in
    let outside = l.invariant ∙ ap (λ o. l.symbols ++ written_from o l.last (drop l.place text)) c.in-None.is in
    let comes = symbol_comes (written_out text) l.symbols text l.last l.place c.to_ascii_uppercase-upper.result c.loop-place-test.true c.to_ascii_uppercase-upper.ensures.value c.if-upper-eq40.false outside in
    room_for_symbol (written_out text) l.symbols (written_from None c.to_ascii_uppercase-upper.result (drop (l.place + 1) text)) c.to_ascii_uppercase-upper.result comes c.requires

pub loop-place-preserved : goal.loop-place-preserved
loop-place-preserved c =
    let text = c.args.text.now in
    let l = c.loop-place in
    let upper = c.to_ascii_uppercase-upper.result in
    let is = c.to_ascii_uppercase-upper.ensures.value in
    let on = l.place + 1 in
    elim c.match-count.branch [
      | in-Some+then-is_digit w ↦
          let so_far = l.invariant ∙ ap (λ o. l.symbols ++ written_from o l.last (drop l.place text)) w.in-Some.is in
          let goes = count_goes_on (written_out text) l.symbols text w.in-Some.so_far l.last l.place upper c.loop-place-test.true is (sym w.is_digit.ensures ∙ w.if-is_digit.true) so_far in
          let count = w.count-is ∙ ap Some w.counted.ensures in
          goes ∙ ap (λ s. s ++ written_from (Some (counted w.in-Some.so_far (upper - 48))) l.last (drop on text)) (sym w.symbols-is)
          ∙ ap (λ o. c.match-count.symbols ++ written_from o l.last (drop on text)) (sym count)
          ∙ ap (λ n. c.match-count.symbols ++ written_from c.match-count.count n (drop on text)) (sym w.last-is)
      | in-Some+else-is_digit w ↦
          let so_far = l.invariant ∙ ap (λ o. l.symbols ++ written_from o l.last (drop l.place text)) w.in-Some.is in
          let ends = count_ends (written_out text) l.symbols text w.in-Some.so_far l.last l.place upper c.loop-place-test.true is (sym w.is_digit.ensures ∙ w.if-is_digit.false) so_far in
          let new = w.symbols-is ∙ w.repeat.ensures ∙ ap (λ n. l.symbols ++ replicate n l.last) w.saturating_sub.ensures in
          run_written (written_out text) l.symbols (replicate (w.in-Some.so_far - 1) l.last) (written_from None l.last (drop on text)) c.match-count.symbols new ends
          ∙ ap (λ o. c.match-count.symbols ++ written_from o l.last (drop on text)) (sym w.count-is)
          ∙ ap (λ n. c.match-count.symbols ++ written_from c.match-count.count n (drop on text)) (sym w.last-is)
      | in-None+then-upper-eq40 w ↦
          let outside = l.invariant ∙ ap (λ o. l.symbols ++ written_from o l.last (drop l.place text)) w.in-None.is in
          let begins = count_begins (written_out text) l.symbols text l.last l.place upper c.loop-place-test.true is w.if-upper-eq40.true outside in
          begins ∙ ap (λ s. s ++ written_from (Some 0) l.last (drop on text)) (sym w.symbols-is)
          ∙ ap (λ o. c.match-count.symbols ++ written_from o l.last (drop on text)) (sym w.count-is)
          ∙ ap (λ n. c.match-count.symbols ++ written_from c.match-count.count n (drop on text)) (sym w.last-is)
      | in-None+else-upper-eq40 w ↦
          let outside = l.invariant ∙ ap (λ o. l.symbols ++ written_from o l.last (drop l.place text)) w.in-None.is in
          let comes = symbol_comes (written_out text) l.symbols text l.last l.place upper c.loop-place-test.true is w.if-upper-eq40.false outside in
          symbol_written (written_out text) l.symbols (written_from None upper (drop on text)) c.match-count.symbols upper (w.symbols-is ∙ w.push.ensures) comes
          ∙ ap (λ o. c.match-count.symbols ++ written_from o upper (drop on text)) (sym (w.count-is ∙ w.in-None.is))
          ∙ ap (λ n. c.match-count.symbols ++ written_from c.match-count.count n (drop on text)) (sym w.last-is)
    ]

pub returns : goal.returns
returns c =
    let past : c.loop-place.place ≡ length c.args.text.now = omega arith in
    all_written (written_out c.args.text.now) c.loop-place.symbols c.args.text.now c.loop-place.count c.loop-place.last c.loop-place.place past c.loop-place.invariant
