-- The answers that `rewrite` may give agree.
use Rattle.std.proofs.Common.{◌≡◌, ◌≢◌, ℕ, ◌<◌, ◌≤◌, List, [], map, length, slice_get, Some, None, Err, sym, ap, ◌∙◌, subst, arith, ◌⊎◌, inl, inr}
use Rattle.std.specs.Prelude.{min}
use Rattle.scale_base.specs.declared.fragments.Mark.{Mark}
use Rattle.scale_base.specs.declared.refusal.Refusal.TheVariants.{DeadlineMissed}
use Rattle.scale_base.specs.declared.stepping.Class.{Class}
use Rattle.scale_base.specs.Image.{Image}
use Rattle.power_model.specs.Numbers.{PowerModel}
use Rattle.power_model.specs.Price.{time_at}
use Rattle.power_model.specs.Slowest.{slowest_of, fastest}
use Rattle.elf_patch.specs.Stored.{IsStubBase}
use Rattle.loop_file.specs.declared.notes.LoopNote.{LoopNote}
use Rattle.cost_theory.specs.Worst.{Numbers}
use Rattle.scale_base.specs.declared.edges.Edge.{Edge}
use Rattle.code_text.specs.EdgeCosts.{edge_class}
use Rattle.code_text.specs.Text.{text_of}
use Rattle.flow_graph.specs.FlowGraph.{FlowGraph}
use Rattle.flow_graph.proofs.Laws.{some_is}
use Rattle.loop_forest.specs.Tree.{LoopView, loops}
use Rattle.scale_sites.specs.Counters.{counted_loops}
use Rattle.stub_writer.specs.Stubs.{Site, block_size, out_of_reach}
use Rattle.rewritten_runs.specs.Stubs.{IsWeighed, rewritten_file, marks_by_slack, told_at, fragment_of, fragments_at}
use Rattle.rewritten_runs.proofs.Laws.{led_class, marked_led}
use Rattle.program_sources.specs.Sources.{sources_of}
use Rattle.marked_images.specs.Refused.{IsLoopRefused, IsCounterRefused}
use Rattle.scaler.specs.Rewritten.{IsTooLong, IsTooLate, IsProgramRewritten, IsRewrittenProgram, IsRewritten}
use Rattle.marked_images.specs.Stored.{rewritten_summary, unless_out_of_reach}
use Rattle.scaler.specs.RewrittenAs.{IsRewrittenAs, with_gain, notes_with}
use Rattle.scaler.specs.Agree.{AreAlikeAnswers, RewrittenAnswersAgree, RewrittenAsAnswersAgree}
use Rattle.scaler.proofs.agree.Counted.{counters_not_refused, counter_refusals_same}
use Rattle.scaler.proofs.agree.Pairs.{Answer, HasGraph, HasTree, alike_same, then_alike, codes_alike, code_not_refused, loops_alike, loops_not_refused}
use Rattle.scaler.proofs.agree.SameFragments.{extra_worst, fragments_same}
use Rattle.scaler.proofs.agree.SameMarks.{same, marks_same, stored_alike}
use Rattle.scaler.proofs.agree.SameSites.{sites_moved, sites_same, base_same}

module _ (power : PowerModel) (image : Image) (notes : List LoopNote) where
  -- ---- what is stored

  abbrev given : FlowGraph → (ℕ → List Mark) → (start worst stubs : ℕ) → List Site → ℕ → Answer
  given v marked start worst stubs sites base = unless_out_of_reach (out_of_reach base sites) (rewritten_file image sites base start, rewritten_summary power v marked start worst stubs sites)

  worst_same : (v v' : FlowGraph) (t t' : LoopView) (plain plain' stored stored' : Numbers) → IsWeighed power image notes v t plain stored → IsWeighed power image notes v' t' plain' stored' → stored.worst 0 ≡ stored'.worst 0
  worst_same v v' t t' plain plain' stored stored' one other = (stored_alike power image notes v v' t t' plain plain' stored stored' one other).whole

  -- an edge with fragments has a class
  classed : (one : Answer) (r : IsProgramRewritten power image notes one) (e : ℕ) → e < length r.code.code.edges → fragments_at power image r.code r.tree (marks_by_slack power image r.code r.tree r.plain) r.stored r.least e ≢ [] →
      (class : Class) × (edge_class (text_of image) (slice_get r.code.code.edges e) ≡ Some class)
  classed one r e lt some =
      let marked = marks_by_slack power image r.code r.tree r.plain in
      let f = fragment_of power (loops r.code r.tree) (counted_loops r.tree) r.stored (told_at power image r.code r.tree marked r.stored r.least e) in
      let to = marked_led power image notes r.code r.tree r.plain r.stored r.weighed e lt (λ none. some (ap (map f) none)) in
      led_class (text_of image) r.code.code r.weighed.code_is.reached e to.0 lt to.1

  sites_are : (one other : Answer) (r : IsProgramRewritten power image notes one) (r' : IsProgramRewritten power image notes other) → r.sites ≡ r'.sites
  sites_are one other r r' =
      let frags = fragments_at power image r.code r.tree (marks_by_slack power image r.code r.tree r.plain) r.stored r.least in
      let frags' = fragments_at power image r'.code r'.tree (marks_by_slack power image r'.code r'.tree r'.plain) r'.stored r'.least in
      let e = fragments_same power image notes r.code r'.code r.tree r'.tree r.plain r'.plain r.stored r'.stored r.weighed r'.weighed r.least r'.least r.stubs.least_are r'.stubs.least_are in
      let edges = (same power image notes r.code r'.code r.tree r'.tree r.plain r'.plain r.stored r'.stored r.weighed r'.weighed).edges in
      sites_same image r.code.code r.weighed.code_is.reached frags (classed one r) r.sites r'.sites r.stubs.sites_are
      (sites_moved image r.code.code r'.code.code frags frags' r'.sites (sym edges) (sym e) r'.stubs.sites_are)

  rewritten_same : (one other : Answer) → IsProgramRewritten power image notes one → IsProgramRewritten power image notes other → one ≡ other
  rewritten_same one other r r' =
      let worst = worst_same r.code r'.code r.tree r'.tree r.plain r'.plain r.stored r'.stored r.weighed r'.weighed in
      let marks = marks_same power image notes r.code r'.code r.tree r'.tree r.plain r'.plain r.stored r'.stored r.weighed r'.weighed in
      let edges = (same power image notes r.code r'.code r.tree r'.tree r.plain r'.plain r.stored r'.stored r.weighed r'.weighed).edges in
      let stubs = extra_worst power image notes r.code r'.code r.tree r'.tree r.plain r'.plain r.stored r'.stored r.weighed r'.weighed r.extra r'.extra r.stubs.extra_are r'.stubs.extra_are in
      let sites = sites_are one other r r' in
      let start : r.start ≡ r'.start = some_is r.start r'.start (sym r.slow ∙ (ap (slowest_of power) worst ∙ r'.slow)) in
      let base : r.base ≡ r'.base = base_same image (min (block_size r'.sites) 4194304) r.base r'.base (subst (λ (xs : List Site). IsStubBase image (min (block_size xs) 4194304) r.base) sites r.stubs.base_is) r'.stubs.base_is in
      let marked = marks_by_slack power image r.code r.tree r.plain in
      let marked' = marks_by_slack power image r'.code r'.tree r'.plain in
      r.answer_is
      ∙ (ap (λ (m : ℕ → List Mark). given r.code m r.start (r.stored.worst 0) (r.extra.worst 0) r.sites r.base) marks
      ∙ (ap (λ (es : List Edge). given (record r.code { code = record r.code.code { edges = es } }) marked' r.start (r.stored.worst 0) (r.extra.worst 0) r.sites r.base) edges
      ∙ (ap (λ (x : ℕ). given r'.code marked' x (r.stored.worst 0) (r.extra.worst 0) r.sites r.base) start
      ∙ (ap (λ (x : ℕ). given r'.code marked' r'.start x (r.extra.worst 0) r.sites r.base) worst
      ∙ (ap (λ (x : ℕ). given r'.code marked' r'.start (r'.stored.worst 0) x r.sites r.base) stubs
      ∙ (ap (λ (xs : List Site). given r'.code marked' r'.start (r'.stored.worst 0) (r'.extra.worst 0) xs r.base) sites
      ∙ (ap (λ (x : ℕ). given r'.code marked' r'.start (r'.stored.worst 0) (r'.extra.worst 0) r'.sites x) base
      ∙ sym r'.answer_is)))))))

  -- ---- with numbers

  abbrev Weighed : Answer → Type 0
  Weighed one = IsTooLong power image notes one ⊎ (IsTooLate power image notes one ⊎ IsProgramRewritten power image notes one)

  record HasNumbers : Type 0 where
    pub code : FlowGraph
    pub tree : LoopView
    pub plain : Numbers
    pub stored : Numbers
    pub weighed : IsWeighed power image notes code tree plain stored

  numbers_of : (one : Answer) → Weighed one → HasNumbers
  numbers_of one (inl r) = record { code = r.code; tree = r.tree; plain = r.plain; stored = r.stored; weighed = r.weighed }
  numbers_of one (inr (inl r)) = record { code = r.code; tree = r.tree; plain = r.plain; stored = r.stored; weighed = r.weighed }
  numbers_of one (inr (inr r)) = record { code = r.code; tree = r.tree; plain = r.plain; stored = r.stored; weighed = r.weighed }

  -- the worst cycles are over the limit or not, and in time or not
  long_short : (x y : ℕ) → x ≡ y → 281474976710656 < x → y ≤ 281474976710656 → ⊥
  long_short x y e long short = omega arith

  late_done : (x y start : ℕ) → x ≡ y → slowest_of power x ≡ None → slowest_of power y ≡ Some start → ⊥
  late_done x y start e none some = let both : None ≡ Some start = sym none ∙ (ap (slowest_of power) e ∙ some) in let bad : ⊥ = cc in bad

  by_numbers : (one other : Answer) → Weighed one → Weighed other → AreAlikeAnswers one other
  by_numbers one other (inl r) (inl r') = alike_same one other (r.answer_is ∙ sym r'.answer_is)
  by_numbers one other (inl r) (inr (inl r')) = absurd (long_short (r.stored.worst 0) (r'.stored.worst 0) (worst_same r.code r'.code r.tree r'.tree r.plain r'.plain r.stored r'.stored r.weighed r'.weighed) r.long r'.short)
  by_numbers one other (inl r) (inr (inr r')) = absurd (long_short (r.stored.worst 0) (r'.stored.worst 0) (worst_same r.code r'.code r.tree r'.tree r.plain r'.plain r.stored r'.stored r.weighed r'.weighed) r.long r'.short)
  by_numbers one other (inr (inl r)) (inl r') = absurd (long_short (r'.stored.worst 0) (r.stored.worst 0) (worst_same r'.code r.code r'.tree r.tree r'.plain r.plain r'.stored r.stored r'.weighed r.weighed) r'.long r.short)
  by_numbers one other (inr (inr r)) (inl r') = absurd (long_short (r'.stored.worst 0) (r.stored.worst 0) (worst_same r'.code r.code r'.tree r.tree r'.plain r.plain r'.stored r.stored r'.weighed r.weighed) r'.long r.short)
  by_numbers one other (inr (inl r)) (inr (inl r')) = alike_same one other (r.answer_is
      ∙ (ap {B = Answer} (λ (x : ℕ). Err (DeadlineMissed (time_at power (fastest power) x) power.deadline)) (worst_same r.code r'.code r.tree r'.tree r.plain r'.plain r.stored r'.stored r.weighed r'.weighed) ∙ sym r'.answer_is))
  by_numbers one other (inr (inl r)) (inr (inr r')) = absurd (late_done (r.stored.worst 0) (r'.stored.worst 0) r'.start (worst_same r.code r'.code r.tree r'.tree r.plain r'.plain r.stored r'.stored r.weighed r'.weighed) r.late r'.slow)
  by_numbers one other (inr (inr r)) (inr (inl r')) = absurd (late_done (r'.stored.worst 0) (r.stored.worst 0) r.start (worst_same r'.code r.code r'.tree r.tree r'.plain r.plain r'.stored r.stored r'.weighed r.weighed) r'.late r.slow)
  by_numbers one other (inr (inr r)) (inr (inr r')) = alike_same one other (rewritten_same one other r r')

  -- ---- with loops

  abbrev Looped : Answer → Type 0
  Looped one = IsCounterRefused image notes one ⊎ Weighed one

  not_counted : (one : Answer) → HasNumbers → IsCounterRefused image notes one → ⊥
  not_counted one n r = counters_not_refused image notes n.code r.code n.tree r.tree r.refusal
      (record { code_is = n.weighed.code_is; tree_is = n.weighed.tree_is }) (record { code_is = r.code_is; tree_is = r.tree_is }) n.weighed.counters.0 n.weighed.counters.2 r.why

  by_counters : (one other : Answer) → Looped one → Looped other → AreAlikeAnswers one other
  by_counters one other (inl r) (inl r') = alike_same one other (r.answer_is ∙ (ap {B = Answer} (λ x. Err x) (counter_refusals_same image notes r.code r'.code r.tree r'.tree r.refusal r'.refusal
      (record { code_is = r.code_is; tree_is = r.tree_is }) (record { code_is = r'.code_is; tree_is = r'.tree_is }) r.why r'.why) ∙ sym r'.answer_is))
  by_counters one other (inl r) (inr n') = absurd (not_counted one (numbers_of other n') r)
  by_counters one other (inr n) (inl r') = absurd (not_counted other (numbers_of one n) r')
  by_counters one other (inr n) (inr n') = by_numbers one other n n'

  tree_of : (one : Answer) → Looped one → HasTree image notes
  tree_of one (inl r) = record { code = r.code; tree = r.tree; code_is = r.code_is; tree_is = r.tree_is }
  tree_of one (inr w) = let n = numbers_of one w in record { code = n.code; tree = n.tree; code_is = n.weighed.code_is; tree_is = n.weighed.tree_is }

  -- ---- with a graph

  abbrev Graphed : Answer → Type 0
  Graphed one = IsLoopRefused image notes one ⊎ Looped one

  by_loops : (one other : Answer) → Graphed one → Graphed other → AreAlikeAnswers one other
  by_loops one other (inl r) (inl r') = loops_alike image notes one other r r'
  by_loops one other (inl r) (inr h') = absurd (loops_not_refused image notes one (tree_of other h') r)
  by_loops one other (inr h) (inl r') = absurd (loops_not_refused image notes other (tree_of one h) r')
  by_loops one other (inr h) (inr h') = by_counters one other h h'

  graph_of : (one : Answer) → Graphed one → HasGraph image
  graph_of one (inl r) = record { code = r.code; code_is = r.code_is }
  graph_of one (inr h) = let n = tree_of one h in record { code = n.code; code_is = n.code_is }

  pub programs_rewritten_alike : (one other : Answer) → IsRewrittenProgram power image notes one → IsRewrittenProgram power image notes other → AreAlikeAnswers one other
  programs_rewritten_alike one other (inl r) (inl r') = codes_alike image one other r r'
  programs_rewritten_alike one other (inl r) (inr h') = absurd (code_not_refused image one (graph_of other h') r)
  programs_rewritten_alike one other (inr h) (inl r') = absurd (code_not_refused image other (graph_of one h) r')
  programs_rewritten_alike one other (inr h) (inr h') = by_loops one other h h'

pub rewritten_answers : RewrittenAnswersAgree
unfolding IsRewritten
rewritten_answers file machine notes_file =
    then_alike (sources_of file machine notes_file) _ (λ s. programs_rewritten_alike s.power s.view s.notes)

pub rewritten_as_answers : RewrittenAsAnswersAgree
unfolding IsRewrittenAs
rewritten_as_answers file machine notes_file min_gain counters =
    then_alike (sources_of file machine notes_file) _ (λ s. programs_rewritten_alike (with_gain s.power min_gain) s.view (notes_with counters s.notes))
