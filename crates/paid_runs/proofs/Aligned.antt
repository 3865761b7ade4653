-- A run's moves beside its steps: what they cost, and what they do to the counters.
use Rattle.std.proofs.Common.{◌≡◌, ℕ, ◌+◌, Bool, true, false, cond, ◌&&◌, List, [], ◌∷◌, map, refl, sym, ap, ◌∙◌, subst, arith, Some, None}
use Rattle.std.specs.Prelude.{slice_get}
use Rattle.std.specs.List.{sum_by}
use Rattle.std.proofs.lemmas.List.Sums.{sum_by-cons}
use Rattle.scale_base.specs.declared.stepping.Class.{Class}
use Rattle.scale_base.specs.declared.stepping.Stepped.{Stepped}
use Rattle.cost_theory.specs.Graph.{Graph, Loops, is_header, leaves}
use Rattle.cost_theory.specs.Accepted.{IsProgram}
use Rattle.cost_theory.specs.Reached.{Code, edge_at}
use Rattle.cost_theory.specs.Steps as steps
use Rattle.cost_theory.specs.Steps.Transition.{Along, Call, Return, Exit}
use Rattle.code_text.specs.Text.{Text}
use Rattle.code_text.specs.EdgeCosts.{edge_class, cost_of}
use Rattle.graph_runs.specs.RunTransitions.{places_of, classes_of}
use Rattle.code_text.specs.TextGraph.{text_graph}
use Rattle.stub_writer.specs.Stubs.{Site}
use Rattle.stored_runs.specs.Marks.{Shadow, place_at, fragments_of_class, counters_behind, extra_cycles, stored_cycles, shadow_more, shadow_after}
use Rattle.paid_runs.specs.Shadows.{count_over, counted_move, counted_moves}
use Rattle.paid_runs.specs.Marked.{extra_by, extra_site_weights, stored_site_weights}
use Rattle.paid_runs.specs.Counters.{AreCounted}

-- the moves start where the steps do, and go over edges of their classes
pub record AreAligned (t : Text) (code : Code) (ms : List steps.Transition) (xs : List Stepped) : Type 0 where
  pub places : places_of t code ms ≡ map (λ x. x.pc) xs
  pub classes : classes_of t code ms ≡ map (λ x. Some x.class) xs

pub record IsFirst (t : Text) (code : Code) (m : steps.Transition) (ms : List steps.Transition) (x : Stepped) (xs : List Stepped) : Type 0 where
  pub place : edge_at (slice_get code.edges (steps.edge_of m)) ≡ x.pc
  pub class : edge_class t (slice_get code.edges (steps.edge_of m)) ≡ Some x.class
  pub rest : AreAligned t code ms xs

heads : {A : Type 0} (x y : A) (xs ys : List A) → x ∷ xs ≡ y ∷ ys → x ≡ y
heads x y xs ys e = cc

tails : {A : Type 0} (x y : A) (xs ys : List A) → x ∷ xs ≡ y ∷ ys → xs ≡ ys
tails x y xs ys e = cc

pub first_of_both : (t : Text) (code : Code) (m : steps.Transition) (ms : List steps.Transition) (x : Stepped) (xs : List Stepped) → AreAligned t code (m ∷ ms) (x ∷ xs) → IsFirst t code m ms x xs
first_of_both t code m ms x xs h = record {
  place = heads ((text_graph t code).source (steps.edge_of m)) x.pc (places_of t code ms) (map (λ y. y.pc) xs) h.places;
  class = heads (edge_class t (slice_get code.edges (steps.edge_of m))) (Some x.class) (classes_of t code ms) (map (λ y. Some y.class) xs) h.classes;
  rest = record {
    places = tails ((text_graph t code).source (steps.edge_of m)) x.pc (places_of t code ms) (map (λ y. y.pc) xs) h.places;
    classes = tails (edge_class t (slice_get code.edges (steps.edge_of m))) (Some x.class) (classes_of t code ms) (map (λ y. Some y.class) xs) h.classes;
  };
}

module _ (t : Text) (code : Code) (costs : Class → ℕ) (sites : List Site) where
  pub stored_at : (m : steps.Transition) (ms : List steps.Transition) (x : Stepped) (xs : List Stepped) → IsFirst t code m ms x xs → stored_site_weights t code costs sites (steps.edge_of m) ≡ stored_cycles costs sites x
  stored_at m ms x xs h =
      ap (λ o. cost_of costs o + extra_by costs sites (edge_at (slice_get code.edges (steps.edge_of m))) o) h.class
      ∙ ap (λ at. costs x.class + extra_by costs sites at (Some x.class)) h.place

  extra_at : (m : steps.Transition) (ms : List steps.Transition) (x : Stepped) (xs : List Stepped) → IsFirst t code m ms x xs → extra_site_weights t code costs sites (steps.edge_of m) ≡ extra_cycles costs sites x
  extra_at m ms x xs h =
      ap (λ o. extra_by costs sites (edge_at (slice_get code.edges (steps.edge_of m))) o) h.class ∙ ap (λ at. extra_by costs sites at (Some x.class)) h.place

  pub stored_sum : (ms : List steps.Transition) (xs : List Stepped) → AreAligned t code ms xs → steps.cycles (stored_site_weights t code costs sites) ms ≡ sum_by (stored_cycles costs sites) xs
  stored_sum [] [] h = refl
  stored_sum [] (x ∷ xs) h = let bad = h.places in absurd cc
  stored_sum (m ∷ ms) [] h = let bad = h.places in absurd cc
  stored_sum (m ∷ ms) (x ∷ xs) h =
      let f = first_of_both t code m ms x xs h in
      let here = stored_at m ms x xs f in
      let rest = stored_sum ms xs f.rest in
      omega (arith, here, rest, sum_by-cons (stored_cycles costs sites) x xs)

  pub extra_sum : (ms : List steps.Transition) (xs : List Stepped) → AreAligned t code ms xs → steps.cycles (extra_site_weights t code costs sites) ms ≡ sum_by (extra_cycles costs sites) xs
  extra_sum [] [] h = refl
  extra_sum [] (x ∷ xs) h = let bad = h.places in absurd cc
  extra_sum (m ∷ ms) [] h = let bad = h.places in absurd cc
  extra_sum (m ∷ ms) (x ∷ xs) h =
      let f = first_of_both t code m ms x xs h in
      let here = extra_at m ms x xs f in
      let rest = extra_sum ms xs f.rest in
      omega (arith, here, rest, sum_by-cons (extra_cycles costs sites) x xs)

-- ---- counters

-- an edge that leads to no node changes no count
no_count : (g : Graph) (l : Loops) (k e n : ℕ) → g.target e ≡ None → count_over g l k e n ≡ n
no_count g l k e n to =
    subst (λ p. cond (l.inside k (g.source e) && is_header l k p) (n + 1) (cond (leaves l k (g.source e) p) 0 n) ≡ n) (sym to) (by_source (l.inside k (g.source e)))
  where
    by_source : (b : Bool) → cond (b && false) (n + 1) n ≡ n
    by_source true = refl
    by_source false = refl

module _ (t : Text) (code : Code) (l : Loops) (sites : List Site) (is_of : ℕ → ℕ → Bool) (prog : IsProgram (text_graph t code)) (marked : AreCounted t code l sites is_of) where
  moved : (s : steps.GraphState) (m : steps.Transition) (counts : ℕ → ℕ) (k : ℕ) → steps.IsKept (text_graph t code) l s m → count_over (text_graph t code) l k (steps.edge_of m) (counts k) ≡ counted_move (text_graph t code) l counts m k
  moved s (Along e) counts k kept = refl
  moved s (Call e f) counts k kept = no_count (text_graph t code) l k e (counts k) kept.move.1
  moved s (Return e) counts k kept = no_count (text_graph t code) l k e (counts k) (prog.return_end e kept.edge kept.move.0).0
  moved s (Exit e) counts k kept = no_count (text_graph t code) l k e (counts k) (prog.exit_end e kept.edge kept.move).0

  -- behind one move
  pub counted_after : (m : steps.Transition) (ms : List steps.Transition) (x : Stepped) (xs : List Stepped) (s : steps.GraphState) (h : Shadow) (counts : ℕ → ℕ) → steps.IsKept (text_graph t code) l s m → IsFirst t code m ms x xs
      → (w k : ℕ) → is_of w k ≡ true → h.counters w ≡ counts k → (shadow_more sites h x).counters w ≡ counted_move (text_graph t code) l counts m k
  counted_after m ms x xs s h counts kept f w k is same =
      sym (ap (λ at. counters_behind (fragments_of_class (place_at sites at) x.class) h.counters w) f.place)
      ∙ (marked.counts (steps.edge_of m) x.class kept.edge f.class w k is h.counters
      ∙ (ap (count_over (text_graph t code) l k (steps.edge_of m)) same ∙ moved s m counts k kept))

  pub counters_are : (w k : ℕ) → is_of w k ≡ true → (ms : List steps.Transition) (xs : List Stepped) (s : steps.GraphState) (h : Shadow) (counts : ℕ → ℕ) → steps.AreKept (text_graph t code) l s ms → AreAligned t code ms xs
      → h.counters w ≡ counts k → (shadow_after sites h xs).counters w ≡ counted_moves (text_graph t code) l counts ms k
  counters_are w k is [] [] s h counts kept aligned same = same
  counters_are w k is [] (x ∷ xs) s h counts kept aligned same = let bad = aligned.places in absurd cc
  counters_are w k is (m ∷ ms) [] s h counts kept aligned same = let bad = aligned.places in absurd cc
  counters_are w k is (m ∷ ms) (x ∷ xs) s h counts kept aligned same =
      let f = first_of_both t code m ms x xs aligned in
      counters_are w k is ms xs (steps.after (text_graph t code) l s m) (shadow_more sites h x) (counted_move (text_graph t code) l counts m) kept.1 f.rest
      (counted_after m ms x xs s h counts kept.0 f w k is same)

  -- a word that is no loop's stays as it is
  pub others_are : (w : ℕ) → ((k : ℕ) → is_of w k ≡ true → ⊥) → (ms : List steps.Transition) (xs : List Stepped) (s : steps.GraphState) (h : Shadow) → steps.AreKept (text_graph t code) l s ms → AreAligned t code ms xs
      → (shadow_after sites h xs).counters w ≡ h.counters w
  others_are w none [] [] s h kept aligned = refl
  others_are w none [] (x ∷ xs) s h kept aligned = let bad = aligned.places in absurd cc
  others_are w none (m ∷ ms) [] s h kept aligned = let bad = aligned.places in absurd cc
  others_are w none (m ∷ ms) (x ∷ xs) s h kept aligned =
      let f = first_of_both t code m ms x xs aligned in
      others_are w none ms xs (steps.after (text_graph t code) l s m) (shadow_more sites h x) kept.1 f.rest
      ∙ (sym (ap (λ at. counters_behind (fragments_of_class (place_at sites at) x.class) h.counters w) f.place)
      ∙ marked.others (steps.edge_of m) x.class kept.0.edge f.class w none h.counters)
