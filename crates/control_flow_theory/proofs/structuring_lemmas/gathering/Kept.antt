-- The laws of the rules that close nodes by a number in a cell.
use Rattle.std.proofs.Common.{◌≡◌, ℕ, true}
use Rattle.control_flow_theory.specs.graph_rules.Fits.{EndFits}
use Rattle.control_flow_theory.specs.language.Language.{Range}
use Rattle.control_flow_theory.specs.structuring.Laws.{Behind, Goes, Returns, end_behind, GatheringKeeps, FlagKeeps, ExitsKeep, NodeExitsKeep, DispatchKeeps, ExitsGraphKeeps, DispatchGraphKeeps, TargetsRise}
use Rattle.control_flow_theory.specs.structuring.Dispatches.{tree_returns}
use Rattle.control_flow_theory.specs.structuring.Targets.{targets_of}
use Rattle.control_flow_theory.specs.graph_rules.Reduced.{family_of, kinds_of, with_graph, count}
use Rattle.control_flow_theory.specs.structuring.Closes.{none_left_out, exits_graph, dispatch_graph}
use Rattle.control_flow_theory.proofs.graph_rules_lemmas.shapes.Shaped.{replaced-by}
use Rattle.control_flow_theory.proofs.structuring_lemmas.closing.Closes.{exits-gain, exits-close, dispatch-gains, dispatch-closes}
use Rattle.control_flow_theory.proofs.structuring_lemmas.gathering.Keep.{gather-kept}
use Rattle.control_flow_theory.proofs.structuring_lemmas.gathering.Targets.{closed-exits, targets-rise}
use Rattle.control_flow_theory.proofs.structuring_lemmas.gathering.DispatchKeeps.{flag-kept, exits-kept, dispatch-kept}

behind-fits : (behind : Behind) (Calls : Range → Type 0) (R W : ℕ → Type 0) → EndFits Calls R W (end_behind behind)
behind-fits (Goes to) Calls R W = tt
behind-fits Returns Calls R W = tt

module _ {Memory Left : Type 0} where
  pub gathering-keeps : GatheringKeeps Memory Left
  gathering-keeps = λ acting left kinds kinds2 g h order range cell gains family sound reached inside test body out gathered family_too.
      gather-kept acting left kinds kinds2 (λ r l. reached r l ≡ true) (λ n l. inside n l ≡ true) range cell test body out g h order gains family sound gathered family_too

  pub flag-keeps : FlagKeeps Memory Left
  flag-keeps = λ acting left kinds kinds2 g h order range flag gains family sound left_out label behind flagged.
      flag-kept acting left left_out kinds kinds2 g h order range flag gains family sound label (end_behind behind) (behind-fits behind) flagged

  pub exits-keep : ExitsKeep Memory Left
  exits-keep = λ acting left kinds kinds2 g h order range exit gains family sound left_out label targets returns exited.
      exits-kept acting left left_out kinds kinds2 g h order range exit gains family sound label targets returns exited

  pub node-exits-keep : NodeExitsKeep Memory Left
  node-exits-keep = λ acting left kinds kinds2 g h order range exit gains family sound left_out label closed.
      let t = g.node range label in
      exits-kept acting left left_out kinds kinds2 g h order range exit gains family sound label (targets_of label t) (tree_returns t) (closed-exits left_out range label exit g h closed)

  pub dispatch-keeps : DispatchKeeps Memory Left
  dispatch-keeps = λ acting left kinds kinds2 g h order range state gains family sound left_out nodes dispatched.
      dispatch-kept acting left left_out kinds kinds2 g h order range state gains family sound nodes dispatched

  pub exits-graph-keeps : ExitsGraphKeeps Memory Left
  exits-graph-keeps = λ acting left graphs order family sound range label there.
      let now = with_graph graphs range (exits_graph label (graphs range)) in
      node-exits-keep acting left (kinds_of graphs) (kinds_of now) (family_of graphs) (family_of now) order range (count (graphs range).added) (exits-gain graphs now range label there (replaced-by graphs range (exits_graph label (graphs range)))) family sound none_left_out label (exits-close graphs now range label there (replaced-by graphs range (exits_graph label (graphs range))))

  pub dispatch-graph-keeps : DispatchGraphKeeps Memory Left
  dispatch-graph-keeps = λ acting left graphs order family sound range closed.
      let now = with_graph graphs range (dispatch_graph (graphs range)) in
      dispatch-keeps acting left (kinds_of graphs) (kinds_of now) (family_of graphs) (family_of now) order range (count (graphs range).added) (dispatch-gains graphs now range closed (replaced-by graphs range (dispatch_graph (graphs range)))) family sound none_left_out (graphs range).nodes (dispatch-closes graphs now range closed (replaced-by graphs range (dispatch_graph (graphs range))))

pub targets-all-rise : TargetsRise
targets-all-rise = targets-rise
