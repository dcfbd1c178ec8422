-- Nodes of a graph that is rewritten, as they are found.
use Rattle.std.proofs.Common.{◌≡◌, suc, List, [], ◌∷◌, length, Option, Some, None, Result, Ok, Err, IfOk, refl, ap, sym, ◌∙◌, subst}
use Rattle.std.specs.Map.{keys_of}
use Rattle.std.proofs.lemmas.List.{length-map}
use Rattle.control_flow_theory.specs.semantics.Doing.{is_above}
use Rattle.control_flow_theory.specs.semantics.Graph.{Label}
use Rattle.control_flow_theory.specs.graph_rules.Shapes.{leaves_to}
use Rattle.control_flow_theory.specs.graph_rules.Reduced.{Node, size}
use Rattle.control_flow_theory.specs.structuring.Dispatches.{labels_of}
use Rattle.graph_rewriting.specs.Helds.{Held, seen_work}
use Rattle.graph_rewriting.specs.Rewriting.{Source}
use Rattle.graph_rewriting.specs.Work.{held_of, IsWhole, JumpsFrom, AnySource}
use Rattle.graph_rewriting.specs.declared.work.Work.TheInside.{Inside}
use Rattle.graph_rewriting.proofs.WorkRows.{labels_in, some_key, its_tree}

pub if_ok : {T E : Type 0} (r : Result T E) (P Q : T → Type 0) → ((x : T) → P x → Q x) → IfOk r P → IfOk r Q
if_ok (Ok x) P Q f h = f x h
if_ok (Err e) P Q f h = tt

size_of : (nodes : List Node) → length (labels_of nodes) ≡ size nodes
size_of [] = refl
size_of (node ∷ nodes) = ap suc (size_of nodes)

module _ (work : Inside) (whole : IsWhole work) (held : Held) (view : held_of work ≡ held) where
  pub labels_seen : labels_of (seen_work held).nodes ≡ keys_of work.keys.entries
  labels_seen = subst (λ h. labels_of (seen_work h).nodes ≡ keys_of work.keys.entries) view (labels_in work whole)

  pub size_seen : length work.keys.entries ≡ size (seen_work held).nodes
  size_seen =
      sym (length-map work.keys.entries (λ e. e.0))
      ∙ ap length (sym labels_seen)
      ∙ size_of (seen_work held).nodes

  pub source_seen : (from label : Label) → JumpsFrom label work.keys work.slots from →
      Source (Some from) (seen_work held).nodes label
  source_seen from label h =
      subst (λ x. Source (Some from) (seen_work x).nodes label) view
      (some_key work whole from h.key h.led, ap (λ t. is_above (leaves_to label t)) (sym (its_tree work whole from h.key h.kept h.led h.here)) ∙ h.jumps)

  pub any_seen : (r : Option Label) (label : Label) → AnySource r label work.keys work.slots →
      Source r (seen_work held).nodes label
  any_seen None label h = subst (λ x. Source None (seen_work x).nodes label) view h
  any_seen (Some from) label h = source_seen from label h
