-- From the parts of a program's scaling to what is stored of it.
use Rattle.std.proofs.Common.{◌≡◌, ℕ, zero, suc, ◌<◌, ◌≤◌, Bool, List, length, map, slice_get, Option, Some, None, Ok, Err, refl, sym, ap, ◌∙◌, subst, arith}
use Rattle.std.specs.Prelude.{All, min}
use Rattle.std.specs.List.{list_any}
use Rattle.scale_base.specs.declared.refusal.Refusal.{Refusal}
use Rattle.scale_base.specs.declared.refusal.Stop.{Stop}
use Rattle.scale_base.specs.declared.refusal.Stop.TheVariants.{Refused, Memory}
use Rattle.scale_base.specs.declared.summary.Summary.{Summary}
use Rattle.scale_base.specs.Answer.{AnswersBy}
use Rattle.scale_base.specs.Image.{Image}
use Rattle.power_model.specs.Numbers.{PowerModel}
use Rattle.power_model.specs.Price.{time_at}
use Rattle.power_model.specs.Slowest.{is_in_time}
use Rattle.cost_theory.specs.Graph.{sum_below, only}
use Rattle.cycle_laws.specs.Charged.{Charged}
use Rattle.cost_theory.specs.Worst.{Numbers}
use Rattle.elf_patch.specs.Stored.{IsStubBase}
use Rattle.code_text.specs.Text.{text_of}
use Rattle.flow_graph.specs.FlowGraph.{FlowGraph, IsGraphOf}
use Rattle.loop_file.specs.declared.notes.LoopNote.{LoopNote}
use Rattle.loop_forest.specs.Tree.{LoopView, IsTreeOf}
use Rattle.scale_base.specs.declared.fragments.Mark.{Mark}
use Rattle.scale_sites.specs.Counters.{AreCounters, counted_loops}
use Rattle.scale_sites.specs.Sites.{marks_at_edge}
use Rattle.stub_writer.specs.declared.site.StubBlock.{StubBlock}
use Rattle.stub_writer.specs.declared.site.StubSite.{StubSite}
use Rattle.stub_writer.specs.Block.{Block, block_view, block_of, unless_far as block_unless_far}
use Rattle.stub_writer.specs.Sites.{site_of}
use Rattle.stub_writer.specs.Stubs.{block_size, block_bytes, patches_from, out_of_reach}
use Rattle.rewritten_runs.specs.Stubs.{IsWeighedWith, HasStubsWith, AreSitesOf, fragments_with, edges_with, is_switch, is_exit_mark, is_count}
use Rattle.std.proofs.Math.Path.{fun_ext}
use Rattle.level_tables.specs.Budgets.{meets_in_budget}
use Rattle.marked_images.specs.Stored.{BudgetRule, rewritten_summary, unless_out_of_reach}
use Rattle.marked_images.specs.declared.scaling.Scaling.{Scaling}
use Rattle.marked_images.specs.declared.stubs.Marking.{Marking}
use Rattle.marked_images.specs.Markings.{test_of}
use Rattle.marked_images.specs.Wanted.{Wanted, marked_where}
use Rattle.marked_images.specs.Scalings.{IsBlockGiven, IsMarkedAt, IsMarkingFound, IsExtraFound, AreStubsOf, IsMarkedProgram, HasMarks, AreStubsFound, IsScaled, IsScalingFound}
use Rattle.marked_images.proofs.Parts.{found_below}

-- ---- stops

abbrev Stopped : PowerModel → Image → List LoopNote → FlowGraph → LoopView → Wanted → BudgetRule → Stop → Type 0
Stopped power image notes v t wanted rule stop = AnswersBy {X = Scaling} {Y = Scaling} (λ s. s) (Err stop) (IsScalingFound power image notes v t wanted rule)

module _ (power : PowerModel) (image : Image) (notes : List LoopNote) (wanted : Wanted) (rule : BudgetRule) (v : FlowGraph) (t : LoopView) (is : IsGraphOf (text_of image) v) (tree : IsTreeOf v notes t) (counts : AreCounters v t (Ok (counted_loops t))) where
  -- ---- the marking is there

  module _ (m : Marking) (start : ℕ) (found : IsMarkingFound power image v t wanted rule (Ok (m, start))) where
    abbrev stored : Numbers
    stored = found.0

    abbrev least : Charged
    least = found.1

    abbrev at : IsMarkedAt power image v t wanted rule stored least m start
    at = found.2

    weighed : IsWeighedWith power image notes v t (marked_where v t wanted) stored
    weighed = record { code_is = is; tree_is = tree; counters = counts; stored_are = at.stored_are }

    pub marked_program : IsMarkedProgram power image v t m
    marked_program = (notes, wanted, stored, least, weighed, at.marking)

    pub start_low : start < length power.levels
    start_low = let lt = found_below (is_in_time power (stored.worst 0)) 0 (length power.levels) start at.slow in omega (arith, lt)

    pub cycles_stop : (stop : Stop) → ((wanted : Wanted) → HasMarks v t wanted m.sites → AnswersBy {X = ℕ} {Y = ℕ} (λ n. n) (Err stop) (IsExtraFound power v t wanted)) → Stopped power image notes v t wanted rule stop
    cycles_stop Memory h = tt
    cycles_stop (Refused refusal) h = absurd (h wanted at.marks)

    -- ---- and the stubs

    module _ (cycles : ℕ) (extra_is : (wanted : Wanted) → HasMarks v t wanted m.sites → IsExtraFound power v t wanted (Ok cycles))
        (stubs : List StubSite) (stubs_are : AreStubsFound power image v t m stubs) where
      abbrev extra : Numbers
      extra = (extra_is wanted at.marks).0

      cycles_are : cycles ≡ extra.worst 0
      cycles_are = (extra_is wanted at.marks).2

      are : AreStubsOf power image v t wanted stored least m stubs
      are = stubs_are notes wanted stored least weighed at.marking

      pub few_stubs : length stubs ≤ 131072
      few_stubs = are.few

      pub each_stub : All Rattle.stub_writer.specs.Sites.IsSite stubs
      each_stub = are.each

      test_is : test_of power m ≡ meets_in_budget power (rule start (stored.worst 0))
      test_is = ap (meets_in_budget power) (fun_ext at.budgets)

      has_stubs : (base : ℕ) → IsStubBase image (min (block_size (map site_of stubs)) 4194304) base → HasStubsWith power (meets_in_budget power (rule start (stored.worst 0))) image v t (marked_where v t wanted) stored extra least (map site_of stubs) base
      has_stubs base b = record { least_are = at.least_are; extra_are = (extra_is wanted at.marks).1; sites_are = subst (λ q. AreSitesOf image v.code (fragments_with power q image v t (marked_where v t wanted) stored least) (map site_of stubs)) test_is are.are; base_is = b }

      far_by : (o : Option ℕ) (block : Block) (given : List ℕ × Summary) (refusal : Refusal) → block_unless_far o block ≡ Err refusal → Err refusal ≡ unless_out_of_reach o given
      far_by None block given refusal e = let never : ⊥ = cc in absurd never
      far_by (Some far) block given refusal e = cc

      near_by : (o : Option ℕ) (block made : Block) → block_unless_far o block ≡ Ok made → (o ≡ None) × (made ≡ block)
      near_by None block made e = (refl, cc)
      near_by (Some far) block made e = let never : ⊥ = cc in absurd never

      pub block_stops : (stop : Stop) → AnswersBy {X = StubBlock × ℕ} {Y = StubBlock × ℕ} (λ x. x) (Err stop) (IsBlockGiven image stubs) → Stopped power image notes v t wanted rule stop
      block_stops Memory h = tt
      block_stops (Refused refusal) h = record {
        stored = stored;
        extra = extra;
        least = least;
        sites = map site_of stubs;
        base = h.0;
        start = start;
        weighed = weighed;
        short = at.short;
        slow = at.slow;
        stubs = has_stubs h.0 h.1;
        answer_is = far_by (out_of_reach h.0 (map site_of stubs)) (block_of h.0 (map site_of stubs)) _ refusal h.2;
      }

      sum_same : (n : ℕ) (f g : ℕ → ℕ) → ((k : ℕ) → k < n → f k ≡ g k) → sum_below n f ≡ sum_below n g
      sum_same zero f g h = refl
      sum_same (suc n) f g h = let a = sum_same n f g (λ k lt. h k (omega arith)) in let b = h n (omega arith) in omega (arith, a, b)

      pub edges_same : (kind : Mark → Bool) → edges_with kind v (marks_at_edge m.sites) ≡ edges_with kind v (marked_where v t wanted)
      edges_same kind = sum_same (length v.code.edges) _ _ (λ e lt. ap (λ ms. only (list_any kind ms) 1) (at.marks.marks e lt))

      pub scaled : (s : Scaling) → s.stubs.items ≡ stubs → IsBlockGiven image stubs (Ok (s.block, s.base)) → s.summary.start ≡ start → slice_get m.worst.worst 0 ≡ Some s.summary.worst
          → s.summary.time ≡ time_at power s.summary.start s.summary.worst → s.summary.deadline ≡ power.deadline → s.summary.stub_cycles ≡ cycles
          → s.summary.switch_edges ≡ edges_with is_switch v (marks_at_edge m.sites) → s.summary.exit_edges ≡ edges_with is_exit_mark v (marks_at_edge m.sites) → s.summary.count_edges ≡ edges_with is_count v (marks_at_edge m.sites)
          → s.summary.stub_bytes ≡ block_size (map site_of stubs) → IsScaled power image notes v t wanted rule s
      scaled s same given started total time deadline added switch exit count size = record {
        kinds = at.marking.kinds;
        stored = stored;
        extra = extra;
        least = least;
        weighed = weighed;
        short = at.short;
        slow = at.slow ∙ ap Some (sym started);
        stubs = subst (λ (k : ℕ). HasStubsWith power (meets_in_budget power (rule k (stored.worst 0))) image v t (marked_where v t wanted) stored extra least (map site_of s.stubs.items) s.base) (sym started) (subst (λ l. HasStubsWith power (meets_in_budget power (rule start (stored.worst 0))) image v t (marked_where v t wanted) stored extra least (map site_of l) s.base) (sym same) (has_stubs s.base given.0));
        near = subst (λ l. out_of_reach s.base (map site_of l) ≡ None) (sym same) near.0;
        bytes = ap (λ (b : Block). b.bytes) near.1 ∙ ap (λ l. block_bytes s.base (map site_of l)) (sym same);
        patches = ap (λ (b : Block). b.patches) near.1 ∙ ap (λ l. patches_from s.base (map site_of l)) (sym same);
        summary = whole;
      }
        where
          near : (out_of_reach s.base (map site_of stubs) ≡ None) × (block_view s.block ≡ block_of s.base (map site_of stubs))
          near = near_by (out_of_reach s.base (map site_of stubs)) (block_of s.base (map site_of stubs)) (block_view s.block) given.1

          worst_is : s.summary.worst ≡ stored.worst 0
          worst_is = let a = at.worst in let b = total in cc

          whole : record {
            start = s.summary.start;
            worst = s.summary.worst;
            time = s.summary.time;
            deadline = s.summary.deadline;
            stub_cycles = s.summary.stub_cycles;
            switch_edges = s.summary.switch_edges;
            exit_edges = s.summary.exit_edges;
            count_edges = s.summary.count_edges;
            stub_bytes = s.summary.stub_bytes;
          } ≡ rewritten_summary power v (marked_where v t wanted) s.summary.start (stored.worst 0) (extra.worst 0) (map site_of s.stubs.items)
          whole = rw (time, worst_is, deadline, added ∙ cycles_are, switch ∙ edges_same is_switch, exit ∙ edges_same is_exit_mark, count ∙ edges_same is_count, size ∙ ap (λ l. block_size (map site_of l)) (sym same)) refl
