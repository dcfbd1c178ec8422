-- Where no fault is noted up to behind a value, none was noted before it.
use Rattle.std.proofs.Common.{◌≡◌, Bool, true, false, if◌then◌else◌, Option, Some, None, refl, ap, sym, ◌∙◌}
use Rattle.parser_combinators.specs.declared.note.Note.{Note}
use Rattle.parser_combinators.specs.Note.{precedes, earliest}
use Rattle.parser_combinators.specs.Form.{Input, behind_fault, noted_before, Outcome, Got, Stop, Form}
use Rattle.parser_combinators.proofs.Lawful.{Lawful, got_is}

pub neither : (early late : Option Note) → earliest early late ≡ None → (early ≡ None) × (late ≡ None)
neither None late e = (refl, e)
neither (Some early) None e = absurd cc
neither (Some early) (Some late) e = go (precedes late early) e
  where
    go : (b : Bool) → (if b then Some late else Some early) ≡ None → (Some early ≡ None) × (Some late ≡ None)
    go true e = absurd cc
    go false e = absurd cc

alone : (fault : Option Note) → earliest fault None ≡ fault
alone None = refl
alone (Some note) = refl

pub clean : {A : Type 0} {f : Form A} → Lawful f → (p : Input) (a : A) (q : Input) → f.reads p ≡ Got a q → q.fault ≡ None → p.fault ≡ None
clean {A = A} {f = f} F p a q e n = go (f.reads bare) refl
  where
    bare : Input
    bare = record { rest = p.rest; taken = p.taken; fault = None }

    same : behind_fault p.fault bare ≡ p
    same = ap (λ fault. record { rest = p.rest; taken = p.taken; fault = fault }) (alone p.fault)

    noted : f.reads p ≡ noted_before p.fault (f.reads bare)
    noted = ap f.reads (sym same) ∙ F.noted bare p.fault

    go : (o : Outcome A) → f.reads bare ≡ o → p.fault ≡ None
    go (Got b r) is =
        let there = got_is a b q (behind_fault p.fault r) (sym e ∙ (noted ∙ ap (noted_before p.fault) is)) in
        (neither p.fault r.fault (sym (ap (λ r. r.fault) there.1) ∙ n)).0
    go (Stop why rest) is = absurd (stopped (sym e ∙ (noted ∙ ap (noted_before p.fault) is)))
      where
        stopped : Got a q ≡ Stop why rest → ⊥
        stopped e = cc
