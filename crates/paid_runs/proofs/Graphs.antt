-- What is so of the graph of a text's reached code, for its marks.
use Rattle.std.proofs.Common.{◌≡◌, ℕ, suc, ◌+◌, ◌*◌, ◌<◌, Bool, true, false, cond, not, ◌&&◌, ◌%◌, List, [], ◌∷◌, refl, sym, ap, ◌∙◌, subst, arith, Option, Some, None, ⊎_elim, slice_get}
use Rattle.std.specs.Prelude.{All, ◌==◌}
use Rattle.std.specs.List.{sum_by, list_any}
use Rattle.std.proofs.lemmas.Bool.{eqb-true, false_from_ne_true, and_from, eq-eqb}
use Rattle.scale_base.specs.declared.instruction.Instr.{Instr}
use Rattle.scale_base.specs.declared.instruction.Instr.TheVariants as instr
use Rattle.scale_base.specs.declared.stepping.Class.{Class}
use Rattle.scale_base.specs.declared.stepping.Class.TheVariants as classes
use Rattle.scale_base.specs.Image.{Image, is_in, is_word_address}
use Rattle.cost_theory.specs.Graph.{Graph, Loops, IsWalk, end_of}
use Rattle.cost_theory.specs.Accepted.{IsProgram, IsInBody, StaysWithin, AreWeights}
use Rattle.scale_base.specs.declared.edges.EdgeKind.TheVariants.{End}
use Rattle.cost_theory.specs.declared.flow.Flow.TheVariants as flow
use Rattle.cost_theory.specs.Reached.{LeadsTo, Code, place_after, edge_at, edge_to, callee_of, edges_of, call_returns}
use Rattle.cost_theory.specs.Reached.Reached.{onward}
use Rattle.cost_theory.proofs.Laws.{edge_leads, callee-call, callee_word, returns_word, back-word, back_ends, edge_word, is_program, Within, accepted_entered, header_held}
use Rattle.code_text.specs.Text.{Text, text_of, instr_at, instr_kind, kind_at}
use Rattle.code_text.specs.EdgeCosts.{edge_class}
use Rattle.code_text.specs.TextGraph.{text_graph}
use Rattle.graph_runs.specs.Laws.{IsProgramOf}
use Rattle.code_text.proofs.Laws.{kind_facts, weights_are}
use Rattle.stub_writer.specs.Stubs.{Site, Place, Forked, Straight}
use Rattle.stored_runs.specs.Cycles.{fragment_cost}
use Rattle.stored_runs.specs.Marks.{place_at, fragments_of_class, jumps_by}
use Rattle.stored_runs.specs.Stubbed.{IsSafeSite, IsOfImage}
use Rattle.stored_runs.specs.Patched.{IsPatched}
use Rattle.paid_runs.specs.Marked.{extra_by, extra_site_weights, stored_site_weights}
use Rattle.paid_runs.specs.MarkedLaws.{TargetsAreWords, LoopsAreCountable, StoredWeightsAreWeights, PatchedWeightsAreWeights}

pub targets_are_words : TargetsAreWords
targets_are_words = λ t code l extent prog f v to reached leads.
    let facts = kind_facts t to (prog.reached.words f to (onward to reached leads)) in (facts.0, facts.1)

-- ---- loops that can be counted

-- no walk starts behind an end
no_way : (g : Graph) (es : List ℕ) (v : ℕ) → IsWalk g None es → end_of g None es ≡ Some v → ⊥
no_way g [] v walk ends = cc
no_way g (e ∷ es) v walk ends = let bad = walk.1 in cc

some_same : (a b : ℕ) → Some a ≡ Some b → a ≡ b
some_same a b e = cc

module _ (t : Text) (code : Code) (l : Loops) (extent : ℕ → ℕ → Bool) (counted : ℕ → Bool) (prog : IsProgramOf t code l extent) where
  abbrev g : Graph
  g = text_graph t code

  program : IsProgram (text_graph t code)
  program = is_program (kind_at t) t.entry code prog.reached.lists prog.reached.words prog.calls

  -- where an edge of a call leads
  call_leads : (e h v : ℕ) → e < g.edges → kind_at t (g.source e) ≡ flow.Call h → g.target e ≡ Some v → v ≡ g.source e + 4
  call_leads e h v lt calls to =
      let x = edge_word (kind_at t) t.entry code prog.reached.lists prog.reached.words e lt in
      let to2 : place_after x.0.kind x.0.to ≡ Some v = sym (ap edge_to x.1) ∙ to in
      ⊎_elim
      (λ leads. let never : LeadsTo (flow.Call h) (g.source e) v = subst (λ w. LeadsTo w (g.source e) v) calls leads in absurd never)
      (λ back. back.3)
      (edge_leads (kind_at t (g.source e)) (g.source e) (call_returns code (kind_at t (g.source e))) x.0 v x.2 to2)

  call_word : (e f : ℕ) → e < g.edges → g.callee e ≡ Some f → (h : ℕ) × (kind_at t (g.source e) ≡ flow.Call h)
  call_word e f lt callee =
      let c = callee-call code.functions (kind_at t (g.source e)) f (sym (callee_word (kind_at t) code.functions code.edges e lt) ∙ callee) in (c.0, c.1)

  -- a call that comes back does so within the loops round it
  stays_inside : (k e f v : ℕ) → k < l.loops → e < g.edges → g.callee e ≡ Some f → g.target e ≡ Some v → l.inside k (g.source e) ≡ true → l.inside k v ≡ true
  stays_inside k e f v kl lt callee to in_u = by_walk ((prog.loops.bodies k (g.source e) kl).0 in_u)
    where
      held : l.inside k (l.header k) ≡ true
      held = header_held g l extent program (accepted_entered prog.loops) k kl

      by_rest : IsInBody g (l.header k) (extent k) (g.source e) → (d : ℕ) (es : List ℕ) → IsWalk g (Some v) es → end_of g (Some v) es ≡ Some (l.header k) → StaysWithin g (extent k) es → l.inside k v ≡ true
      by_rest body d [] walk ends within = ap (l.inside k) (some_same v (l.header k) ends) ∙ held
      by_rest body d (c ∷ cs) walk ends within =
          (prog.loops.bodies k v kl).1 ((program.stays e v lt to).1 ∙ body.0, body.1, (c, cs, walk, ends, within))

      by_target : IsInBody g (l.header k) (extent k) (g.source e) → (d : ℕ) (es : List ℕ) → d < g.edges → g.source e ≡ g.source d → (o : Option ℕ) → g.target d ≡ o → IsWalk g o es → end_of g o es ≡ Some (l.header k) → StaysWithin g (extent k) es → l.inside k v ≡ true
      by_target body d es dl same None to2 walk ends within = absurd (no_way g es (l.header k) walk ends)
      by_target body d es dl same (Some x) to2 walk ends within =
          let word = call_word e f lt callee in
          let there : x ≡ v = call_leads d word.0 x dl (ap (kind_at t) (sym same) ∙ word.1) to2 ∙ (ap (λ u. u + 4) (sym same) ∙ sym (call_leads e word.0 v lt word.1 to)) in
          by_rest body d es (subst (λ y. IsWalk g (Some y) es) there walk) (subst (λ y. end_of g (Some y) es ≡ Some (l.header k)) there ends) within

      by_walk : IsInBody g (l.header k) (extent k) (g.source e) → l.inside k v ≡ true
      by_walk body = by_target body body.2.0 body.2.1 body.2.2.0 (some_same (g.source e) (g.source body.2.0) body.2.2.1) (g.target body.2.0) refl body.2.2.2 body.2.3 body.2.4.1

  -- no return stands in a loop
  return_outside : (k e : ℕ) → k < l.loops → e < g.edges → g.returns e ≡ true → l.inside k (g.source e) ≡ false
  return_outside k e kl lt returns = false_from_ne_true (l.inside k (g.source e)) (λ in_u. by_walk ((prog.loops.bodies k (g.source e) kl).0 in_u))
    where
      is_kind : kind_at t (g.source e) ≡ flow.Return
      is_kind = back-word (kind_at t (g.source e)) (sym (returns_word (kind_at t) code.edges e lt) ∙ returns)

      ends_there : (d : ℕ) → d < g.edges → g.source e ≡ g.source d → g.target d ≡ None
      ends_there d dl same =
          let x = edge_word (kind_at t) t.entry code prog.reached.lists prog.reached.words d dl in
          let word : kind_at t (g.source d) ≡ flow.Return = ap (kind_at t) (sym same) ∙ is_kind in
          let kind : x.0.kind ≡ End = back_ends (g.source d) (call_returns code (kind_at t (g.source d))) x.0 (subst (λ w. Within x.0 (edges_of w (g.source d) (call_returns code (kind_at t (g.source d))))) word x.2) in
          ap edge_to x.1 ∙ ap (λ q. place_after q x.0.to) kind

      by_walk : IsInBody g (l.header k) (extent k) (g.source e) → ⊥
      by_walk body =
          let none = ends_there body.2.0 body.2.2.0 (some_same (g.source e) (g.source body.2.0) body.2.2.1) in
          no_way g body.2.1 (l.header k) (subst (λ o. IsWalk g o body.2.1) none body.2.2.2) (subst (λ o. end_of g o body.2.1 ≡ Some (l.header k)) none body.2.3)

pub loops_are_countable : LoopsAreCountable
loops_are_countable = λ t code l extent counted prog no_back. record {
  calls = λ k e f v kl ck lt callee to. (no_back k e f v kl ck lt callee to, not_left (l.inside k (edge_at (slice_get code.edges e))) (l.inside k v) (stays_inside t code l extent counted prog k e f v kl lt callee to));
  returns = λ k e kl ck lt returns. return_outside t code l extent counted prog k e kl lt returns;
}
  where
    not_left : (a b : Bool) → (a ≡ true → b ≡ true) → (a && not b) ≡ false
    not_left true b h = ap not (h refl)
    not_left false b h = refl

-- ---- weights

record IsSite (image : Image) (levels : ℕ) (limits : ℕ → ℕ) (v : ℕ) (p : Place) : Type 0 where
  site : Site
  at_is : site.at ≡ v
  place_is : site.place ≡ p
  safe : IsSafeSite image levels limits site

site_at : (image : Image) (levels : ℕ) (limits : ℕ → ℕ) (v : ℕ) (p : Place) (sites : List Site) → All (IsSafeSite image levels limits) sites → place_at sites v ≡ Some p → IsSite image levels limits v p
site_at image levels limits v p [] safe e = absurd cc
site_at image levels limits v p (s ∷ sites) safe e = step (s.at == v) refl e (site_at image levels limits v p sites (λ k d lt. safe (suc k) d (omega arith)))
  where
    step : (b : Bool) → (s.at == v) ≡ b → cond b (Some s.place) (place_at sites v) ≡ Some p → (place_at sites v ≡ Some p → IsSite image levels limits v p) → IsSite image levels limits v p
    step true is f go = record { site = s; at_is = eqb-true s.at v is; place_is = (let same : s.place ≡ p = cc in same); safe = safe 0 s (omega arith) }
    step false is f go = go f

-- a marked instruction is no call
no_site_calls : (image : Image) (v h : ℕ) (p : Place) → IsOfImage image v p → kind_at (text_of image) v ≡ flow.Call h → ⊥
no_site_calls image v h p of calls =
    let t = text_of image in
    let facts = kind_facts t v (λ bad. let never : ⊥ = cc in never) in
    by_place p of facts.2.0 facts.2.1 (sym facts.2.2 ∙ calls)
  where
    by_place : (p : Place) → IsOfImage image v p → (i : Instr) → instr_at (text_of image) v ≡ Some i → instr_kind (text_of image) v i ≡ flow.Call h → ⊥
    by_place (Forked op rs1 rs2 untaken taken) of2 i at kind =
        let same : i ≡ instr.Branch op rs1 rs2 of2.0 = (let a = of2.1 in cc) in
        let there = subst (λ j. instr_kind (text_of image) v j ≡ flow.Call h) same kind in cc
    by_place (Straight way) of2 i at kind =
        let same : i ≡ instr.Jal 0 of2.0 = (let a = of2.1 in cc) in
        let there = subst (λ j. instr_kind (text_of image) v j ≡ flow.Call h) same kind in cc

no_extra : (costs : Class → ℕ) (sites : List Site) (at : ℕ) (o : Option Class) → place_at sites at ≡ None → extra_by costs sites at o ≡ 0
no_extra costs sites at None none = refl
no_extra costs sites at (Some class) none = subst (λ p. jumps_by p * costs classes.Jump + sum_by (fragment_cost costs) (fragments_of_class p class) ≡ 0) (sym none) (omega arith)

-- where no call is marked
weights_by : (image : Image) (sites : List Site) (code : Code) (costs : Class → ℕ) → ((v h : ℕ) → kind_at (text_of image) v ≡ flow.Call h → place_at sites v ≡ None)
    → AreWeights (text_graph (text_of image) code) (stored_site_weights (text_of image) code costs sites) × AreWeights (text_graph (text_of image) code) (extra_site_weights (text_of image) code costs sites)
weights_by image sites code costs unmarked =
    let t = text_of image in
    let g : Graph = text_graph t code in
    let zero : (e f : ℕ) → e < g.edges → g.callee e ≡ Some f → extra_site_weights t code costs sites e ≡ 0 = λ e f lt callee.
    let c = callee-call code.functions (kind_at t (g.source e)) f (sym (callee_word (kind_at t) code.functions code.edges e lt) ∙ callee) in
    no_extra costs sites (g.source e) (edge_class t (slice_get code.edges e)) (unmarked (g.source e) c.0 c.1) in
    let extra : AreWeights g (extra_site_weights t code costs sites) = λ d e f dl el same callee.
    let other : g.callee e ≡ Some f = sym (same_callee t code d e dl el same) ∙ callee in zero d f dl callee ∙ sym (zero e f el other) in
    (λ d e f dl el same callee. let a = weights_are t code costs d e f dl el same callee in let b = extra d e f dl el same callee in omega (arith, a, b), extra)
  where
    same_callee : (t : Text) (code : Code) (d e : ℕ) → d < (text_graph t code).edges → e < (text_graph t code).edges → edge_at (slice_get code.edges d) ≡ edge_at (slice_get code.edges e) → (text_graph t code).callee d ≡ (text_graph t code).callee e
    same_callee t code d e dl el same =
        callee_word (kind_at t) code.functions code.edges d dl ∙ (ap (λ v. callee_of code.functions (kind_at t v)) same ∙ sym (callee_word (kind_at t) code.functions code.edges e el))

pub weights_of_calls : StoredWeightsAreWeights
weights_of_calls = λ image levels limits sites code costs safe. weights_by image sites code costs (λ v h calls. unmarked image levels limits sites v h safe calls (place_at sites v) refl)
  where
    unmarked : (image : Image) (levels : ℕ) (limits : ℕ → ℕ) (sites : List Site) (v h : ℕ) → All (IsSafeSite image levels limits) sites → kind_at (text_of image) v ≡ flow.Call h → (o : Option Place) → place_at sites v ≡ o → place_at sites v ≡ None
    unmarked image levels limits sites v h safe calls None e = e
    unmarked image levels limits sites v h safe calls (Some p) e =
        let s = site_at image levels limits v p sites safe e in
        absurd (no_site_calls image v h p (subst (λ a. IsOfImage image a p) s.at_is (subst (IsOfImage image s.site.at) s.place_is s.safe.place)) calls)

pub patched_weights : PatchedWeightsAreWeights
patched_weights = λ image patched levels limits sites start p code costs. weights_by image sites code costs (λ v h calls. unmarked image patched levels limits sites start p v h calls (place_at sites v) refl)
  where
    unmarked : (image patched : Image) (levels : ℕ) (limits : ℕ → ℕ) (sites : List Site) (start : ℕ) → IsPatched image patched levels limits sites start → (v h : ℕ) → kind_at (text_of image) v ≡ flow.Call h → (o : Option Place) → place_at sites v ≡ o → place_at sites v ≡ None
    unmarked image patched levels limits sites start p v h calls None e = e
    unmarked image patched levels limits sites start p v h calls (Some q) e =
        let facts = kind_facts (text_of image) v (λ bad. let never : ⊥ = cc in never) in
        let word : is_word_address image v ≡ true = and_from (v % 4 == 0) (list_any (is_in v) image.text) (eq-eqb (v % 4) 0 facts.0) facts.1 in
        absurd (no_site_calls image v h q (p.stubs [] v q word e).of_image calls)
