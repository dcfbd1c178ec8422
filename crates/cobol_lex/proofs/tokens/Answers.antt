use Rattle.std.proofs.Common.{◌≡◌, ◌+◌, ◌-◌, arith, refl, ap, sym, ◌∙◌, length, drop, length-drop}
use Rattle.ref_format.specs.declared.placed.Placed.{Placed}
use Rattle.cobol_lex.specs.Token.{tokens_of}
use Rattle.cobol_lex.proofs.TokenLemmas.{on_separators, on_token, on_fault, bytes_left, lines_passed, length_bytes, fault_answer}
use Rattle.cobol_lex.proofs.tokens.Goals as goal

none : Placed
none = record { byte = 0; line = 0 }

pub loop-at-preserved-then-is_separator : goal.loop-at-preserved-then-is_separator
loop-at-preserved-then-is_separator c =
    let text = c.args.text.now in
    let bytes = c.bytes-bytes.result.now in
    let at = c.loop-at.at in
    let run = c.separators_end-end.ensures in
    let end = c.separators_end-end.result in
    let reached : at + (end - at) ≡ end = omega (arith, run.further) in
    record {
      within = omega (arith, run.within, ap length c.bytes-bytes.ensures, length_bytes text);
      lines = lines_passed at end (end - at) text c.loop-at.lines _ reached c.loop-at.invariant.lines c.pass.ensures;
      tokens = on_separators c.loop-at.awaits c.loop-at.before _ at _ text none bytes c.loop-at.tokens (tokens_of text)
          c.bytes-bytes.ensures c.loop-at.invariant.tokens c.loop-at-test.true
          (sym c.is_separator.ensures ∙ c.if-is_separator.true)
          run.further run.within run.separators refl;
    }

pub loop-at-preserved : goal.loop-at-preserved
loop-at-preserved c =
    let text = c.args.text.now in
    let bytes = c.bytes-bytes.result.now in
    let at = c.loop-at.at in
    record {
      within = omega (arith, c.in_ok-lexeme.ensures.within, ap length (bytes_left at bytes text c.bytes-bytes.ensures), length_bytes (drop at text), length-drop at text, c.loop-at-test.true, ap length c.bytes-bytes.ensures, length_bytes text);
      lines = lines_passed at _ _ text c.loop-at.lines _ refl c.loop-at.invariant.lines c.pass-in-loop-at.ensures;
      tokens = on_token c.loop-at.awaits _ c.loop-at.before _ at _ text none bytes c.loop-at.lines _ c.loop-at.tokens _ c.in_ok-lexeme.lexeme (tokens_of text)
          c.bytes-bytes.ensures c.loop-at.invariant.lines c.first-line.ensures (bytes_left at bytes text c.bytes-bytes.ensures) c.loop-at.invariant.tokens c.loop-at-test.true
          (sym c.is_separator.ensures ∙ c.if-is_separator.false)
          c.in_ok-lexeme.ensures.value
          c.in_ok-lexeme.ensures.within
          c.awaits_behind-awaits.ensures
          refl
          c.in_ok-push.ensures.ok;
    }

pub returns-in_err-lexeme : goal.returns-in_err-lexeme
returns-in_err-lexeme c =
    let text = c.args.text.now in
    let bytes = c.bytes-bytes.result.now in
    let at = c.loop-at.at in
    fault_answer (tokens_of text) c.from_residual.result c.in_err-lexeme.field-0.0 c.from_residual.ensures.1
    (λ other. on_fault c.loop-at.awaits c.loop-at.before at _ text none bytes c.loop-at.lines _ c.loop-at.tokens _ (tokens_of text)
    c.bytes-bytes.ensures c.loop-at.invariant.lines c.first-line.ensures (bytes_left at bytes text c.bytes-bytes.ensures) c.loop-at.invariant.tokens c.loop-at-test.true
    (sym c.is_separator.ensures ∙ c.if-is_separator.false) (c.in_err-lexeme.ensures.value other))
