use Rattle.std.proofs.Common.{◌∙◌, arith, length-drop}
use Rattle.std.proofs.lemmas.List.{length-take}
use Rattle.cobol_lex.specs.declared.token.Token.{Token}
use Rattle.symbol_tables.proofs.procedure_names_lemmas.ScanLemmas.{first_of, goes_on, turn_within, turned_on, turned_off}
use Rattle.symbol_tables.proofs.procedure_names.scan.scanned.Goals as goal
use Rattle.symbol_tables.proofs.procedure_names.scan.scanned.Goals.{then-may_head+in_ok-scan, else-may_head}

pub tokens-preserved : goal.tokens-preserved
tokens-preserved c =
    let token = c.token-item.result in
    let at = c.tokens in
    let first = first_of at.rest.now token c.in-len1-up.len_at_least c.token-item.is in
    elim c.if-may_head.branch [
      | then-may_head+in_ok-scan w ↦
          let turn = turned_on at.may_head token.kind _ at.index at.scan _ w.if-may_head.true (w.scan-is ∙ w.in_ok-scan.ensures) in
          record {
            same = goes_on at.rest.now token _ at.may_head _ at.index at.scan _ _ first turn c.is_period-may_head.ensures at.invariant.same;
            left = omega (arith, length-take {A = Token}, length-drop {A = Token}, at.invariant.left, c.in-len1-up.len_at_least);
            behind = omega (arith, at.invariant.behind);
            within = turn_within c.args.from at.index token _ at.may_head at.scan _ at.invariant.behind turn at.invariant.within;
          }
      | else-may_head w ↦
          let turn = turned_off at.may_head token.kind _ at.index at.scan _ w.if-may_head.false w.scan-is in
          record {
            same = goes_on at.rest.now token _ at.may_head _ at.index at.scan _ _ first turn c.is_period-may_head.ensures at.invariant.same;
            left = omega (arith, length-take {A = Token}, length-drop {A = Token}, at.invariant.left, c.in-len1-up.len_at_least);
            behind = omega (arith, at.invariant.behind);
            within = turn_within c.args.from at.index token _ at.may_head at.scan _ at.invariant.behind turn at.invariant.within;
          }
    ]
