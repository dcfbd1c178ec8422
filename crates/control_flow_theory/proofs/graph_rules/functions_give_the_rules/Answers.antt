use Rattle.std.proofs.Common.{◌≡◌, refl, subst, sym}
use Rattle.control_flow_theory.specs.graph_rules.Loops.{Flagged, Endless}
use Rattle.control_flow_theory.specs.graph_rules.Shapes.{end_at}
use Rattle.control_flow_theory.proofs.graph_rules_lemmas.shapes.Shaping.{Leaves, joined-joins, inlined-inlines, flat-loops}
use Rattle.control_flow_theory.proofs.graph_rules_lemmas.shapes.Reducing.{form-is}
use Rattle.control_flow_theory.proofs.graph_rules_lemmas.shapes.Once.{one-join-gives, joins-add-up, no-join-is-left}
use Rattle.control_flow_theory.proofs.graph_rules.functions_give_the_rules.Goals as goal

pub returns-clause-join : goal.returns-clause-join
returns-clause-join c = joined-joins

pub returns-clause-inline : goal.returns-clause-inline
returns-clause-inline c = λ label node t. inlined-inlines label node (λ l. l ≡ label) (λ l e. e) (λ l e. e) t

pub returns-clause-endless : goal.returns-clause-endless
returns-clause-endless c = λ cell label out t is. flat-loops Endless cell label out t (subst (Leaves Endless cell label out) (sym is) tt)

pub returns-clause-flag : goal.returns-clause-flag
returns-clause-flag c = λ cell label live t is. flat-loops Flagged cell label (end_at live) t (subst (Leaves Flagged cell label (end_at live)) (sym is) (refl, refl))

pub returns-clause-form : goal.returns-clause-form
returns-clause-form c = form-is

pub returns-clause-one_join : goal.returns-clause-one_join
returns-clause-one_join c = one-join-gives

pub returns-clause-joins : goal.returns-clause-joins
returns-clause-joins c = joins-add-up

pub returns-clause-no_join : goal.returns-clause-no_join
returns-clause-no_join c = no-join-is-left
