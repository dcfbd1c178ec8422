-- Facts that are put together.
use Rattle.std.proofs.Common.{◌≡◌, Bool, true, false, if◌then◌else◌, inl, inr, refl, ap, sym, ◌∙◌}
use Rattle.std.proofs.lemmas.Bool.{cases_Bool}
use Rattle.control_flow_theory.specs.language.Language.{Stmt, Stmts, none, also, Arms, done, given, missing}
use Rattle.control_flow_theory.specs.lowering.FlowFacts.{FlowFacts}
use Rattle.control_flow_theory.specs.lowering.Completes.{completes, complete, leaves_loop, leave_loop, whole, wholes, cut, cuts, leaves_sentence, leave_sentence}
use Rattle.program_facts.specs.declared.completion.facts.Facts.{Facts}
use Rattle.program_facts.specs.completion.Facts.{facts_of, facts_of_all, facts_of_arms, acting, no_arms, beside, both, behind, missing_arm}

abbrev made : Bool → Bool → Bool → Bool → Facts
made c l w s = record { completes = c; leaves_loop = l; whole = w; leaves_sentence = s }

if-same : (b : Bool) → (if b then true else false) ≡ b
if-same true = refl
if-same false = refl

or-assoc : (a b c : Bool) → (if (if a then true else b) then true else c) ≡ (if a then true else (if b then true else c))
or-assoc true b c = refl
or-assoc false b c = refl

and-assoc : (a b c : Bool) → (if (if a then b else false) then c else false) ≡ (if a then (if b then c else false) else false)
and-assoc true b c = refl
and-assoc false b c = refl

same : (c c' l l' w w' s s' : Bool) → c ≡ c' → l ≡ l' → w ≡ w' → s ≡ s' → made c l w s ≡ made c' l' w' s'
same c c' l l' w w' s s' e f g h =
    ap (λ x. made x l w s) e ∙ ap (λ x. made c' x w s) f ∙ ap (λ x. made c' l' x s) g ∙ ap (made c' l' w') h

pub beside_none : (f : Facts) → beside f no_arms ≡ f
beside_none f = same _ _ _ _ _ _ _ _ (if-same f.completes) (if-same f.leaves_loop) (if-same f.whole) (if-same f.leaves_sentence)

pub beside_assoc : (a b c : Facts) → beside (beside a b) c ≡ beside a (beside b c)
beside_assoc a b c =
    same _ _ _ _ _ _ _ _ (or-assoc a.completes b.completes c.completes) (or-assoc a.leaves_loop b.leaves_loop c.leaves_loop)
    (and-assoc a.whole b.whole c.whole) (or-assoc a.leaves_sentence b.leaves_sentence c.leaves_sentence)

both_assoc : (a b c : Facts) → both (both a b) c ≡ both a (both b c)
both_assoc a b c =
    same _ _ _ _ _ _ _ _ refl (or-assoc a.leaves_loop b.leaves_loop c.leaves_loop)
    (and-assoc a.whole b.whole c.whole) (or-assoc a.leaves_sentence b.leaves_sentence c.leaves_sentence)

-- what can complete, and what can't
pub behind_open : (a b : Facts) → a.completes ≡ true → behind a b ≡ both a b
behind_open a b h = ap (λ t. if t then both a b else a) h

pub behind_shut : (a b : Facts) → a.completes ≡ false → behind a b ≡ a
behind_shut a b h = ap (λ t. if t then both a b else a) h

pub behind_assoc : (a b c : Facts) → behind (behind a b) c ≡ behind a (behind b c)
behind_assoc a b c = elim (cases_Bool a.completes) [
  | inl goes ↦
      let e = behind_open a b goes in
      elim (cases_Bool b.completes) [
        | inl opens ↦
            ap (λ f. behind f c) e ∙ behind_open (both a b) c opens ∙ both_assoc a b c
            ∙ ap (both a) (sym (behind_open b c opens)) ∙ sym (behind_open a (behind b c) goes)
        | inr shuts ↦
            ap (λ f. behind f c) e ∙ behind_shut (both a b) c shuts
            ∙ ap (both a) (sym (behind_shut b c shuts)) ∙ sym (behind_open a (behind b c) goes)
      ]
  | inr stops ↦ ap (λ f. behind f c) (behind_shut a b stops) ∙ behind_shut a c stops ∙ sym (behind_shut a (behind b c) stops)
]

pub behind_nothing : (a : Facts) → behind a acting ≡ a
behind_nothing a = elim (cases_Bool a.completes) [
  | inl goes ↦ behind_open a acting goes ∙ same _ _ _ _ _ _ _ _ (sym goes) (if-same a.leaves_loop) (if-same a.whole) (if-same a.leaves_sentence)
  | inr stops ↦ behind_shut a acting stops
]

pub all_begin : (told : FlowFacts) (stmt : Stmt) (stmts : Stmts) →
    facts_of_all told (also stmt stmts) ≡ behind (facts_of told stmt) (facts_of_all told stmts)
all_begin told stmt stmts = elim (cases_Bool (completes told stmt)) [
  | inl goes ↦
      same _ _ _ _ _ _ _ _ (ap (λ b. if b then complete told stmts else false) goes)
      (ap (λ b. if leaves_loop told stmt then true else (if b then leave_loop told stmts else false)) goes)
      (ap (λ b. if whole (cut told stmt) then wholes (if b then cuts told stmts else none) else false) goes)
      (ap (λ b. if leaves_sentence (cut told stmt) then true else leave_sentence (if b then cuts told stmts else none)) goes)
      ∙ sym (behind_open (facts_of told stmt) (facts_of_all told stmts) goes)
  | inr stops ↦
      same _ _ _ _ _ _ _ _ (ap (λ b. if b then complete told stmts else false) stops ∙ sym stops)
      (ap (λ b. if leaves_loop told stmt then true else (if b then leave_loop told stmts else false)) stops ∙ if-same (leaves_loop told stmt))
      (ap (λ b. if whole (cut told stmt) then wholes (if b then cuts told stmts else none) else false) stops ∙ if-same (whole (cut told stmt)))
      (ap (λ b. if leaves_sentence (cut told stmt) then true else leave_sentence (if b then cuts told stmts else none)) stops ∙ if-same (leaves_sentence (cut told stmt)))
      ∙ sym (behind_shut (facts_of told stmt) (facts_of_all told stmts) stops)
]

-- a missing arm, and one that stands
pub missing_begins : (told : FlowFacts) (is_dead : Bool) (others : Arms) →
    facts_of_arms told is_dead (missing others) ≡ missing_arm is_dead (facts_of_arms told false others)
missing_begins told true others = refl
missing_begins told false others = refl

pub last_given : (told : FlowFacts) (is_dead : Bool) (arm : Stmts) → facts_of_arms told is_dead (given arm done) ≡ facts_of_all told arm
last_given told is_dead arm = beside_none (facts_of_all told arm)
