-- Where each counted loop has one word, the words are counters of the loops.
use Rattle.std.proofs.Common.{◌≡◌, ℕ, ◌<◌, ◌≤◌, Bool, true, ◌&&◌, List, refl, ap, ◌∙◌, subst, eqb-true, eq-eqb}
use Rattle.std.specs.Prelude.{◌==◌, nat_lt, slice_get}
use Rattle.std.proofs.lemmas.Bool.{and_from, and_parts, ltb-true, lt-ltb}
use Rattle.cost_theory.specs.Graph.{Graph, Loops}
use Rattle.cost_theory.specs.Reached.{Code, edge_at}
use Rattle.code_text.specs.Text.{Text}
use Rattle.code_text.specs.TextGraph.{text_graph}
use Rattle.stub_writer.specs.Stubs.{Site}
use Rattle.stored_runs.specs.Marks.{place_at, fragments_of_class, counters_behind}
use Rattle.paid_runs.specs.Shadows.{AreCountable, count_over}
use Rattle.paid_runs.specs.Marked.{AreMarked, AreLimits}
use Rattle.paid_runs.specs.Counters.{AreCounterWords, AreCounted, by_words}

module _ (l : Loops) (counted : ℕ → Bool) (word : ℕ → ℕ) where
  pub word_of_loop : (w k : ℕ) → by_words l counted word w k ≡ true → (k < l.loops) × (counted k ≡ true) × (word k ≡ w)
  word_of_loop w k is =
      let a = and_parts (nat_lt k l.loops) (counted k && (word k == w)) is in
      let b = and_parts (counted k) (word k == w) a.1 in
      (ltb-true k l.loops a.0, b.0, eqb-true (word k) w b.1)

  pub is_word : (k : ℕ) → k < l.loops → counted k ≡ true → by_words l counted word (word k) k ≡ true
  is_word k low is = and_from (nat_lt k l.loops) (counted k && (word k == word k)) (lt-ltb k l.loops low) (and_from (counted k) (word k == word k) is (eq-eqb (word k) (word k) refl))

  pub countable_of : (g : Graph) → AreCountable g l counted → (w k : ℕ) → by_words l counted word w k ≡ true → AreCountable g l (λ j. j == k)
  countable_of g able w k is =
      let same = λ (j : ℕ) (e : (j == k) ≡ true). ap counted (eqb-true j k e) ∙ (word_of_loop w k is).1 in
      record {
        calls = λ j e f v low on. able.calls j e f v low (same j on);
        returns = λ j e low on. able.returns j e low (same j on);
      }

  pub counters_of : (g : Graph) (limits : ℕ → ℕ) → AreCountable g l counted → AreLimits l counted word limits → AreCounterWords g l limits (by_words l counted word)
  counters_of g limits able within = record {
    loops = λ w k is. (word_of_loop w k is).0;
    countable = countable_of g able;
    limited = λ w k is. let p = word_of_loop w k is in subst (λ v. l.bound k ≤ limits v) p.2 (within k p.0 p.1);
  }

  pub counted_of : (t : Text) (code : Code) (sites : List Site) → AreMarked t code l sites counted word → AreCounted t code l sites (by_words l counted word)
  counted_of t code sites marked = record {
    counts = λ e class lt of w k is c.
        let p = word_of_loop w k is in
        subst (λ v. counters_behind (fragments_of_class (place_at sites (edge_at (slice_get code.edges e))) class) c v ≡ count_over (text_graph t code) l k e (c v)) p.2 (marked.loops e class lt of k p.0 p.1 c);
    others = λ e class lt of w none c. marked.others e class lt of w (λ k low on same. none k (subst (λ v. by_words l counted word v k ≡ true) same (is_word k low on))) c;
  }
