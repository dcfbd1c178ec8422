use Rattle.std.proofs.Common.{◌≡◌, map, string_bytes, false, Result, Ok, sym, subst}
use Rattle.std.specs.Prelude.{IfOk}
use Rattle.cob_base.specs.Source.{source_call}
use Rattle.cob_base.specs.Sink.{sink_call}
use Rattle.file_model.specs.contracts.operations.watched.BenchShown.TheImpl.{all-value}
use Rattle.restructure_core.specs.run.Bench.{bench_call}
use Rattle.restructure_asks.specs.Ask.{ask_of}
use Rattle.restructure_asks.specs.Tool.{Ends, EndsCompared, EndsWithFiles}
use Rattle.restructure_asks.specs.Program.{is_page}
use Rattle.restructure_asks.proofs.command_line.program.Goals as goal

if-ok : {T E : Type 0} (r : Result T E) (x : T) (P : T → Type 0) → r ≡ Ok x → P x → IfOk r P
if-ok r x P is h = subst (λ q. IfOk q P) (sym is) h

pub returns-in-Ok-clause-ask : goal.returns-in-Ok-clause-ask
returns-in-Ok-clause-ask g c =
    let source = source_call g.S.Source.left g.S.Source.faults c.args.source.now c.serve.new.source in
    let out = sink_call g.K.Sink.held g.K.Sink.faults c.args.out.now c.serve.new.out in
    let notes = sink_call g.N.Sink.held g.N.Sink.faults c.args.notes.now c.serve.new.notes in
    if-ok c.args.words c.in-Ok.words _ c.in-Ok.is
    (subst (λ ws. is_page (map string_bytes ws) ≡ false → Ends (ask_of (map string_bytes ws)) source out notes c.serve.result) c.as_slice.ensures.value c.serve.ensures.ask)

pub returns-in-Ok-clause-over : goal.returns-in-Ok-clause-over
returns-in-Ok-clause-over g c =
    let source = source_call g.S.Source.left g.S.Source.faults c.args.source.now c.serve.new.source in
    let out = sink_call g.K.Sink.held g.K.Sink.faults c.args.out.now c.serve.new.out in
    let notes = sink_call g.N.Sink.held g.N.Sink.faults c.args.notes.now c.serve.new.notes in
    let bench = bench_call (all-value g.dyn-1).it c.args.bench.now c.serve.new.bench in
    if-ok c.args.words c.in-Ok.words _ c.in-Ok.is
    (subst (λ ws. is_page (map string_bytes ws) ≡ false → EndsWithFiles (ask_of (map string_bytes ws)) source out notes bench c.serve.result) c.as_slice.ensures.value c.serve.ensures.over)

pub returns-in-Ok-clause-compared : goal.returns-in-Ok-clause-compared
returns-in-Ok-clause-compared g c =
    let source = source_call g.S.Source.left g.S.Source.faults c.args.source.now c.serve.new.source in
    let out = sink_call g.K.Sink.held g.K.Sink.faults c.args.out.now c.serve.new.out in
    let notes = sink_call g.N.Sink.held g.N.Sink.faults c.args.notes.now c.serve.new.notes in
    let bench = bench_call (all-value g.dyn-1).it c.args.bench.now c.serve.new.bench in
    let second = bench_call (all-value g.dyn-1).it c.args.second.now c.serve.new.second in
    if-ok c.args.words c.in-Ok.words _ c.in-Ok.is
    (subst (λ ws. is_page (map string_bytes ws) ≡ false → EndsCompared (ask_of (map string_bytes ws)) source out notes bench second c.serve.result) c.as_slice.ensures.value c.serve.ensures.compared)
