-- What the parts of a source program do is the same beside cells.
use Rattle.std.proofs.Common.{◌≡◌, ℕ, not, refl, ap, ◌∙◌}
use Rattle.control_flow_theory.specs.semantics.Outcome.{Tried, Got, Ends}
use Rattle.control_flow_theory.specs.language.Language.{Act, Own, Set, Take, Lower, Test, Holds, Not, Is, Above, Picker, If, By, ByCell, Range}
use Rattle.control_flow_theory.specs.semantics.Doing.{Acting, giving, keeping, arm_of, alone_act, alone_test, alone_pick, Celled, own_is, celled_act, celled_test, celled_pick}
use Rattle.control_flow_theory.specs.language.Own.{OwnAct, OwnTest}
use Rattle.control_flow_theory.specs.lowering.FlowFacts.{FlowFacts, OwnPicker}

pub giving-keeping : {Memory Other A B : Type 0} (f : A → B) (h : Memory → Other) (t : Tried Memory A) → giving f (keeping h t) ≡ keeping h (giving f t)
giving-keeping f h (Got trace value memory) = refl
giving-keeping f h (Ends trace kind memory) = refl

module _ {Memory : Type 0} (acting : Acting Memory) (range : Range) where
  pub celled-acts : (act : Act) (c : Celled Memory) → OwnAct act → celled_act acting range act c ≡ keeping (own_is c) (alone_act acting act c.own)
  celled-acts (Own simple) c own = refl
  celled-acts (Set cell value) c own = absurd own
  celled-acts (Take cell amount) c own = absurd own
  celled-acts (Lower cell) c own = absurd own

  pub celled-tests : (test : Test) (c : Celled Memory) → OwnTest test → celled_test acting range test c ≡ keeping (own_is c) (alone_test acting test c.own)
  celled-tests (Holds cond) c own = refl
  celled-tests (Not test) c own = ap (giving not) (celled-tests test c own) ∙ giving-keeping not (own_is c) (alone_test acting test c.own)
  celled-tests (Is cell value) c own = absurd own
  celled-tests (Above cell) c own = absurd own

  pub celled-picks : (told : FlowFacts) (picker : Picker) (arms : ℕ) (c : Celled Memory) → OwnPicker told picker arms → celled_pick acting range picker c ≡ keeping (own_is c) (alone_pick acting picker c.own)
  celled-picks told (If test) arms c own = ap (giving arm_of) (celled-tests test c own.0) ∙ giving-keeping arm_of (own_is c) (alone_test acting test c.own)
  celled-picks told (By chooser) arms c own = refl
  celled-picks told (ByCell cell) arms c own = absurd own
