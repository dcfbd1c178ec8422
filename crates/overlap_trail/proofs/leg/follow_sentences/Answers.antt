use Rattle.std.proofs.Common.{◌+◌, map, drop, subst, sym, arith}
use Rattle.control_flow_theory.specs.language.Control.{seen_stmts, seen_sentence}
use Rattle.overlap_trail.specs.Follow.{known_of}
use Rattle.overlap_trail.proofs.Sentences.{SentencesOn, sentences-begin, sentences-through, sentences-left, sentences-to, sentences-ended, sentences-broken, sentences-cycled, sentences-section, sentences-met, sentences-lost, sentences-end, sentences-at, sentences-past}
use Rattle.overlap_trail.proofs.leg.follow_sentences.Goals as goal
use Rattle.overlap_trail.proofs.leg.follow_sentences.Goals.{in-Through, in-Left}

pub loop-sentence-init : goal.loop-sentence-init
loop-sentence-init c = record {
  follows = λ last. sentences-begin (known_of c.args.files.now c.args.lemmas.now) c.args.moves.now c.args.taken (map (seen_sentence last) c.args.sentences.now);
  begun = omega arith;
  within = c.requires;
}

pub loop-sentence-preserved : goal.loop-sentence-preserved
loop-sentence-preserved c =
    let ss = c.args.sentences.now in
    let i = c.loop-sentence.sentence-index in
    let item = c.sentence-item.result in
    elim c.match-follow_stmts.branch [
      | in-Through w ↦ record {
        follows = λ last. subst (λ n. SentencesOn (known_of c.args.files.now c.args.lemmas.now) c.args.moves.now (map (seen_sentence last) ss) (map (seen_sentence last) (drop (i + 1) ss)) c.args.taken n) (sym w.now-is) (sentences-through (known_of c.args.files.now c.args.lemmas.now) c.args.moves.now last c.args.taken (map (seen_sentence last) ss) (map (seen_sentence last) (drop i ss)) (map (seen_sentence last) (drop (i + 1) ss)) (seen_stmts last item.stmts) c.loop-sentence.now (sentences-at last ss i item c.loop-sentence-test.true c.sentence-item.is) (c.loop-sentence.invariant.follows last) w.in-Through.behind (w.in-Through.ensures.follows last));
        begun = omega (arith, w.in-Through.ensures.taken.0, w.now-is, c.loop-sentence.invariant.begun);
        within = omega (arith, w.in-Through.ensures.taken.1, w.now-is);
      }
      | in-Left w ↦ record {
        follows = λ last. subst (λ n. SentencesOn (known_of c.args.files.now c.args.lemmas.now) c.args.moves.now (map (seen_sentence last) ss) (map (seen_sentence last) (drop (i + 1) ss)) c.args.taken n) (sym w.now-is) (sentences-left (known_of c.args.files.now c.args.lemmas.now) c.args.moves.now last c.args.taken (map (seen_sentence last) ss) (map (seen_sentence last) (drop i ss)) (map (seen_sentence last) (drop (i + 1) ss)) (seen_stmts last item.stmts) c.loop-sentence.now (sentences-at last ss i item c.loop-sentence-test.true c.sentence-item.is) (c.loop-sentence.invariant.follows last) w.in-Left.behind (w.in-Left.ensures.follows last));
        begun = omega (arith, w.in-Left.ensures.taken.0, w.now-is, c.loop-sentence.invariant.begun);
        within = omega (arith, w.in-Left.ensures.taken.1, w.now-is);
      }
    ]

pub returns-in-To-clause-follows : goal.returns-in-To-clause-follows
returns-in-To-clause-follows c = λ last.
    let ss = c.args.sentences.now in
    let i = c.loop-sentence.sentence-index in
    let item = c.sentence-item.result in
    sentences-to (known_of c.args.files.now c.args.lemmas.now) c.args.moves.now last c.args.taken (map (seen_sentence last) ss) (map (seen_sentence last) (drop i ss)) (map (seen_sentence last) (drop (i + 1) ss)) (seen_stmts last item.stmts) c.loop-sentence.now (sentences-at last ss i item c.loop-sentence-test.true c.sentence-item.is) (c.loop-sentence.invariant.follows last) c.in-To.to c.in-To.behind (c.in-To.ensures.follows last)

pub returns-in-Ended-clause-follows : goal.returns-in-Ended-clause-follows
returns-in-Ended-clause-follows c = λ last.
    let ss = c.args.sentences.now in
    let i = c.loop-sentence.sentence-index in
    let item = c.sentence-item.result in
    sentences-ended (known_of c.args.files.now c.args.lemmas.now) c.args.moves.now last c.args.taken (map (seen_sentence last) ss) (map (seen_sentence last) (drop i ss)) (map (seen_sentence last) (drop (i + 1) ss)) (seen_stmts last item.stmts) c.loop-sentence.now (sentences-at last ss i item c.loop-sentence-test.true c.sentence-item.is) (c.loop-sentence.invariant.follows last) c.in-Ended.behind (c.in-Ended.ensures.follows last)

pub returns-in-Broken-clause-follows : goal.returns-in-Broken-clause-follows
returns-in-Broken-clause-follows c = λ last.
    let ss = c.args.sentences.now in
    let i = c.loop-sentence.sentence-index in
    let item = c.sentence-item.result in
    sentences-broken (known_of c.args.files.now c.args.lemmas.now) c.args.moves.now last c.args.taken (map (seen_sentence last) ss) (map (seen_sentence last) (drop i ss)) (map (seen_sentence last) (drop (i + 1) ss)) (seen_stmts last item.stmts) c.loop-sentence.now (sentences-at last ss i item c.loop-sentence-test.true c.sentence-item.is) (c.loop-sentence.invariant.follows last) c.in-Broken.behind (c.in-Broken.ensures.follows last)

pub returns-in-Cycled-clause-follows : goal.returns-in-Cycled-clause-follows
returns-in-Cycled-clause-follows c = λ last.
    let ss = c.args.sentences.now in
    let i = c.loop-sentence.sentence-index in
    let item = c.sentence-item.result in
    sentences-cycled (known_of c.args.files.now c.args.lemmas.now) c.args.moves.now last c.args.taken (map (seen_sentence last) ss) (map (seen_sentence last) (drop i ss)) (map (seen_sentence last) (drop (i + 1) ss)) (seen_stmts last item.stmts) c.loop-sentence.now (sentences-at last ss i item c.loop-sentence-test.true c.sentence-item.is) (c.loop-sentence.invariant.follows last) c.in-Cycled.behind (c.in-Cycled.ensures.follows last)

pub returns-in-SectionEnded-clause-follows : goal.returns-in-SectionEnded-clause-follows
returns-in-SectionEnded-clause-follows c = λ last.
    let ss = c.args.sentences.now in
    let i = c.loop-sentence.sentence-index in
    let item = c.sentence-item.result in
    sentences-section (known_of c.args.files.now c.args.lemmas.now) c.args.moves.now last c.args.taken (map (seen_sentence last) ss) (map (seen_sentence last) (drop i ss)) (map (seen_sentence last) (drop (i + 1) ss)) (seen_stmts last item.stmts) c.loop-sentence.now (sentences-at last ss i item c.loop-sentence-test.true c.sentence-item.is) (c.loop-sentence.invariant.follows last) c.in-SectionEnded.behind (c.in-SectionEnded.ensures.follows last)

pub returns-in-Met-clause-follows : goal.returns-in-Met-clause-follows
returns-in-Met-clause-follows c = λ last.
    let ss = c.args.sentences.now in
    let i = c.loop-sentence.sentence-index in
    let item = c.sentence-item.result in
    sentences-met (known_of c.args.files.now c.args.lemmas.now) c.args.moves.now last c.args.taken (map (seen_sentence last) ss) (map (seen_sentence last) (drop i ss)) (map (seen_sentence last) (drop (i + 1) ss)) (seen_stmts last item.stmts) c.loop-sentence.now (sentences-at last ss i item c.loop-sentence-test.true c.sentence-item.is) (c.loop-sentence.invariant.follows last) c.in-Met.entry c.in-Met.exit c.in-Met.behind (c.in-Met.ensures.follows last)

pub returns-in-Lost-clause-follows : goal.returns-in-Lost-clause-follows
returns-in-Lost-clause-follows c = λ last.
    let ss = c.args.sentences.now in
    let i = c.loop-sentence.sentence-index in
    let item = c.sentence-item.result in
    sentences-lost (known_of c.args.files.now c.args.lemmas.now) c.args.moves.now last c.args.taken (map (seen_sentence last) ss) (map (seen_sentence last) (drop i ss)) (map (seen_sentence last) (drop (i + 1) ss)) (seen_stmts last item.stmts) c.loop-sentence.now (sentences-at last ss i item c.loop-sentence-test.true c.sentence-item.is) (c.loop-sentence.invariant.follows last) (c.in-Lost.ensures.follows last)

pub returns-clause-follows : goal.returns-clause-follows
returns-clause-follows c = λ last.
    let ss = c.args.sentences.now in
    sentences-end (known_of c.args.files.now c.args.lemmas.now) c.args.moves.now last c.args.taken (map (seen_sentence last) ss) (map (seen_sentence last) (drop c.loop-sentence.sentence-index ss)) c.loop-sentence.now (sentences-past last ss c.loop-sentence.sentence-index c.loop-sentence-test.false) (c.loop-sentence.invariant.follows last)
