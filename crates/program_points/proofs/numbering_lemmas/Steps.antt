-- What single statements add.
use Rattle.std.proofs.Common.{◌≡◌, ◌+◌, ◌<◌, ℕ, suc, Bool, true, false, if◌then◌else◌, List, [], ◌∷◌, ◌++◌, map, length, Option, Some, None, option_map, slice_get, refl, ap, sym, ◌∙◌, arith, length-append}
use Rattle.cob_tree.specs.declared.program.Range.{Range}
use Rattle.control_flow_theory.specs.language.Language.{Act, Picker, Chooser, Choose, Perform, Go, GoDepending, NextSentence, ExitParagraph, ExitSection, ExitPerform, StopRun, Arms, done, given, missing, Stmts, none, also, Program}
use Rattle.control_flow_theory.specs.language.Language as language
use Rattle.control_flow_theory.specs.language.Items.{Item, Do, before, before_arm, past_sentence, from_loop}
use Rattle.control_flow_theory.specs.semantics.Items.{way_after, to_one}
use Rattle.control_flow_theory.specs.lowering.FlowFacts.{arm_count}
use Rattle.program_points.specs.paths.Step.{Point, at, start, by_way, led, some_given, first_is_barred, without_first, ways_from, ways_of, next}
use Rattle.program_points.specs.paths.Step as lang
use Rattle.program_points.specs.paths.Flow.{part}
use Rattle.program_points.specs.declared.point_table.table.ProgramPoint.{ProgramPoint}
use Rattle.program_points.specs.declared.point_table.table.ProgramPoint.TheVariants.{Goes, Chooses, Calls, Stops}
use Rattle.program_points.specs.point_table.Table.{AllBelow}
use Rattle.program_points.specs.declared.numbering.build.Exits.{Exits}
use Rattle.program_points.specs.numbering.Build.{HasParagraphs, branches_of, branch_points, barring}
use Rattle.program_points.proofs.numbering_lemmas.Growing.{Built, Branched, one-place, build-goes, with_point, point-here, grown-add, grown-then, below-append, below-more}

-- the ways of a choice are where its branches begin
arm-ways : (never_first : Chooser → Bool) (program : Program) (number : ℕ) (picker : Picker) (rest : List Item) (whole arms : Arms) (way : ℕ) → ((k : ℕ) → before_arm whole (way + k) rest ≡ before_arm arms k rest) →
    ways_from never_first program number way (arm_count arms) (Do (Choose picker whole)) rest ≡ branch_points number rest (branches_of arms)
arm-ways never_first program number picker rest whole done way same = refl
arm-ways never_first program number picker rest whole (given arm others) way same =
    let none_more : way ≡ way + 0 = omega arith in
    let first : before_arm whole way rest ≡ before arm rest = ap (λ n. before_arm whole n rest) none_more ∙ same 0 in
    ap (λ r. Some (at number r) ∷ ways_from never_first program number (suc way) (arm_count others) (Do (Choose picker whole)) rest) first
    ∙ ap (λ ws. Some (at number (before arm rest)) ∷ ws) (arm-ways never_first program number picker rest whole others (suc way) (λ k. (let more : suc way + k ≡ way + suc k = omega arith in ap (λ n. before_arm whole n rest) more ∙ same (suc k))))
arm-ways never_first program number picker rest whole (missing others) way same =
    let none_more : way ≡ way + 0 = omega arith in
    let first : before_arm whole way rest ≡ rest = ap (λ n. before_arm whole n rest) none_more ∙ same 0 in
    ap (λ r. Some (at number r) ∷ ways_from never_first program number (suc way) (arm_count others) (Do (Choose picker whole)) rest) first
    ∙ ap (λ ws. Some (at number rest) ∷ ws) (arm-ways never_first program number picker rest whole others (suc way) (λ k. (let more : suc way + k ≡ way + suc k = omega arith in ap (λ n. before_arm whole n rest) more ∙ same (suc k))))

choice-ways : (never_first : Chooser → Bool) (program : Program) (number : ℕ) (picker : Picker) (rest : List Item) (arms : Arms) (barred : Bool) → (if some_given arms then arm_count arms else 1) ≡ arm_count arms → first_is_barred never_first (Do (Choose picker arms)) ≡ barred →
    ways_of never_first program number (Do (Choose picker arms)) rest ≡ without_first barred (branch_points number rest (branches_of arms))
choice-ways never_first program number picker rest arms barred some is =
    ap (λ b. without_first b (ways_from never_first program number 0 (if some_given arms then arm_count arms else 1) (Do (Choose picker arms)) rest)) is
    ∙ ap (λ n. without_first barred (ways_from never_first program number 0 n (Do (Choose picker arms)) rest)) some
    ∙ ap (without_first barred) (arm-ways never_first program number picker rest arms arms 0 (λ k. (let same : 0 + k ≡ k = omega arith in ap (λ n. before_arm arms n rest) same)))

barring-map : (barred : Bool) (points : ℕ → Point) (ways : List (Option ℕ)) → without_first barred (map (λ (way : Option ℕ). option_map points way) ways) ≡ map (λ (way : Option ℕ). option_map points way) (barring barred ways)
barring-map true points [] = refl
barring-map true points (w ∷ ws) = refl
barring-map false points ways = refl

barring-below : (barred : Bool) (most : ℕ) (ways : List (Option ℕ)) → AllBelow most ways → AllBelow most (barring barred ways)
barring-below true most [] below = tt
barring-below true most (None ∷ ws) below = below
barring-below true most (Some w ∷ ws) below = below.1
barring-below false most ways below = below

named-ways : (never_first : Chooser → Bool) (program : Program) (number : ℕ) (on_it : Chooser) (rest : List Item) (whole names : List ℕ) (way : ℕ) → ((k : ℕ) → slice_get whole (way + k) ≡ slice_get names k) →
    ways_from never_first program number way (suc (length names)) (Do (GoDepending whole on_it)) rest ≡ map (λ (n : ℕ). Some (start program n)) names ++ Some (at number rest) ∷ []
named-ways never_first program number on_it rest whole [] way same =
    let none_more : way ≡ way + 0 = omega arith in
    let first : slice_get whole way ≡ None = ap (λ n. slice_get whole n) none_more ∙ same 0 in
    ap (λ (o : Option ℕ). led program number (way_after [] (to_one (by_way way) o rest tt)) ∷ []) first
named-ways never_first program number on_it rest whole (name ∷ names) way same =
    let none_more : way ≡ way + 0 = omega arith in
    let first : slice_get whole way ≡ Some name = ap (λ n. slice_get whole n) none_more ∙ same 0 in
    ap (λ (o : Option ℕ). led program number (way_after [] (to_one (by_way way) o rest tt)) ∷ ways_from never_first program number (suc way) (suc (length names)) (Do (GoDepending whole on_it)) rest) first
    ∙ ap (λ ws. Some (start program name) ∷ ws) (named-ways never_first program number on_it rest whole names (suc way) (λ k. (let more : suc way + k ≡ way + suc k = omega arith in ap (λ n. slice_get whole n) more ∙ same (suc k))))

depending-next : (never_first : Chooser → Bool) (program : Program) (number : ℕ) (on_it : Chooser) (rest : List Item) (names : List ℕ) →
    next never_first program (at number (Do (GoDepending names on_it) ∷ rest)) ≡ lang.Ways (ways_of never_first program number (Do (GoDepending names on_it)) rest)
depending-next never_first program number on_it rest [] = refl
depending-next never_first program number on_it rest (name ∷ names) = refl

named-told : (program : Program) (count : ℕ) (places : List ProgramPoint) (points : ℕ → Point) (names : List ℕ) (point : Point) (after : ℕ) → HasParagraphs program count places points → points after ≡ point → AllBelow count (map (λ (n : ℕ). Some n) names) →
    map (λ (n : ℕ). Some (start program n)) names ++ Some point ∷ [] ≡ map (λ (way : Option ℕ). option_map points way) (map (λ (n : ℕ). Some n) names ++ Some after ∷ [])
named-told program count places points [] point after has same below = ap (λ (p : Point). Some p ∷ []) (sym same)
named-told program count places points (name ∷ names) point after has same below =
    ap (λ (p : Point). Some p ∷ (map (λ (n : ℕ). Some (start program n)) names ++ Some point ∷ [])) (sym (has.starts name below.0))
    ∙ ap (λ (ws : List (Option Point)). Some (points name) ∷ ws) (named-told program count places points names point after has same below.1)

module _ (never_first : Chooser → Bool) (count number : ℕ) where
  abbrev B : List ProgramPoint → List ProgramPoint → List Range → List Range → Stmts → Exits → ℕ → Type 0
  B old new r0 r1 stmts exits begin = Built never_first count number old new r0 r1 stmts exits begin

  pub build-act : (old : List ProgramPoint) (ranges : List Range) (act : Act) (exits : Exits) → B old (old ++ Goes exits.after ∷ []) ranges ranges (also (language.Do act) none) exits (length old)
  build-act old ranges act exits = build-goes never_first count number old ranges (language.Do act) exits exits.after (λ program rest. at number rest) (λ program points rest behind. (refl, behind.after))

  pub build-go : (old : List ProgramPoint) (ranges : List Range) (to : ℕ) (exits : Exits) → to < count → B old (old ++ Goes to ∷ []) ranges ranges (also (Go to) none) exits (length old)
  build-go old ranges to exits lt = build-goes never_first count number old ranges (Go to) exits to (λ program rest. start program to)
      (λ program points rest behind. (refl, (behind.paragraphs.starts to lt, omega (arith, behind.paragraphs.room))))

  pub build-leave : (old : List ProgramPoint) (ranges : List Range) (exits : Exits) → B old (old ++ Goes exits.leave ∷ []) ranges ranges (also NextSentence none) exits (length old)
  build-leave old ranges exits = build-goes never_first count number old ranges NextSentence exits exits.leave (λ program rest. at number (past_sentence rest)) (λ program points rest behind. (refl, behind.leave))

  pub build-exit-paragraph : (old : List ProgramPoint) (ranges : List Range) (exits : Exits) (place : ℕ) → place ≡ count + number → B old (old ++ Goes place ∷ []) ranges ranges (also ExitParagraph none) exits (length old)
  build-exit-paragraph old ranges exits place is = build-goes never_first count number old ranges ExitParagraph exits place (λ program rest. at number [])
      (λ program points rest behind. (refl, (ap points is ∙ behind.paragraphs.ends number behind.here, omega (arith, behind.paragraphs.room, behind.here, is))))

  pub build-exit-section : (old : List ProgramPoint) (ranges : List Range) (exits : Exits) (last place : ℕ) → place ≡ count + last → last < count → B old (old ++ Goes place ∷ []) ranges ranges (also (ExitSection last) none) exits (length old)
  build-exit-section old ranges exits last place is lt = build-goes never_first count number old ranges (ExitSection last) exits place (λ program rest. at last [])
      (λ program points rest behind. (refl, (ap points is ∙ behind.paragraphs.ends last lt, omega (arith, behind.paragraphs.room, lt, is))))

  pub build-exit-loop : (old : List ProgramPoint) (ranges : List Range) (exits : Exits) (cycle : Bool) → B old (old ++ Goes (if cycle then exits.cycled else exits.broken) ∷ []) ranges ranges (also (ExitPerform cycle) none) exits (length old)
  build-exit-loop old ranges exits true = build-goes never_first count number old ranges (ExitPerform true) exits exits.cycled (λ program rest. at number (from_loop true rest)) (λ program points rest behind. (refl, behind.cycled))
  build-exit-loop old ranges exits false = build-goes never_first count number old ranges (ExitPerform false) exits exits.broken (λ program rest. at number (from_loop false rest)) (λ program points rest behind. (refl, behind.broken))

  pub build-stop : (old : List ProgramPoint) (ranges : List Range) (exits : Exits) → B old (old ++ Stops ∷ []) ranges ranges (also StopRun none) exits (length old)
  build-stop old ranges exits = one-place never_first count number old ranges ranges Stops StopRun exits (λ n r e. e) (λ program points rest behind. refl)

  pub build-call : (old : List ProgramPoint) (r0 r1 : List Range) (range entry exit : ℕ) (exits : Exits) → ((n : ℕ) (known : Range) → slice_get r0 n ≡ Some known → slice_get r1 n ≡ Some known) → slice_get r1 range ≡ Some (part entry exit) →
      B old (old ++ Calls range exits.after ∷ []) r0 r1 (also (Perform entry exit) none) exits (length old)
  build-call old r0 r1 range entry exit exits kept is = one-place never_first count number old r0 r1 (Calls range exits.after) (Perform entry exit) exits kept
      (λ program points rest behind. (entry, exit, ap (λ (p : Point). lang.Calls entry exit p) (sym behind.after.0), is, behind.after.1))

  pub build-depending : (old : List ProgramPoint) (ranges : List Range) (names : List ℕ) (on_it : Chooser) (exits : Exits) → AllBelow count (map (λ (n : ℕ). Some n) names) →
      B old (old ++ Chooses (map (λ (n : ℕ). Some n) names ++ Some exits.after ∷ []) ∷ []) ranges ranges (also (GoDepending names on_it) none) exits (length old)
  build-depending old ranges names on_it exits below = one-place never_first count number old ranges ranges (Chooses (map (λ (n : ℕ). Some n) names ++ Some exits.after ∷ [])) (GoDepending names on_it) exits (λ n r e. e)
      (λ program points rest behind. (
        depending-next never_first program number on_it rest names
            ∙ ap (λ (ws : List (Option Point)). lang.Ways ws) (named-ways never_first program number on_it rest names names 0 (λ k. (let same : 0 + k ≡ k = omega arith in ap (λ n. slice_get names n) same))
            ∙ named-told program count old points names (at number rest) exits.after behind.paragraphs behind.after.0 below),
        below-append (length old) (map (λ (n : ℕ). Some n) names) (Some exits.after ∷ []) (below-more count (length old) (map (λ (n : ℕ). Some n) names) (omega (arith, behind.paragraphs.room)) below) (behind.after.1, tt),
      ))

  -- a choice among what was built
  pub build-choose : (old mid : List ProgramPoint) (r0 r1 : List Range) (picker : Picker) (arms : Arms) (exits : Exits) (barred : Bool) (ways : List (Option ℕ)) → Branched never_first count number old mid r0 r1 (branches_of arms) exits ways →
      (if some_given arms then arm_count arms else 1) ≡ arm_count arms → first_is_barred never_first (Do (Choose picker arms)) ≡ barred → B old (mid ++ Chooses (barring barred ways) ∷ []) r0 r1 (also (Choose picker arms) none) exits (length mid)
  build-choose old mid r0 r1 picker arms exits barred ways built some is = λ program points rest behind.
      let a = built program points rest behind in
      let point = at number (Do (Choose picker arms) ∷ rest) in
      let place = Chooses (barring barred ways) in (
        with_point a.0 (length mid) point,
        grown-then never_first program number old mid (mid ++ place ∷ []) r0 r1 r1 points a.0 (with_point a.0 (length mid) point) a.1
            (grown-add never_first program number mid r1 r1 a.0 place point refl (λ n r e. e) (
              ap (λ (ws : List (Option Point)). lang.Ways ws) (choice-ways never_first program number picker rest arms barred some is ∙ ap (without_first barred) a.2 ∙ barring-map barred a.0 ways),
              barring-below barred (length mid) ways a.3,
            )),
        (point-here a.0 (length mid) point, omega (arith, length-append mid (place ∷ []))),
      )
