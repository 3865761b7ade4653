-- The stored image of a paced program keeps the promise: its tables keep budgets.
use Rattle.std.proofs.Common.{◌≡◌, ℕ, ◌+◌, ◌-◌, ◌*◌, ◌/◌, ◌<◌, ◌≤◌, ◌==◌, nat_lt, Bool, true, false, cond, List, length, Some, None, Ok, refl, sym, ap, subst, arith, eq-eqb}
use Rattle.std.proofs.Math.Nat.{mul-le-mul_right}
use Rattle.scale_base.specs.declared.ranges.Keyed.{Keyed}
use Rattle.scale_base.specs.Image.{Image, image_of}
use Rattle.scale_base.specs.Run.{starting_level}
use Rattle.power_model.specs.Numbers.{PowerModel, IsPowerModel}
use Rattle.power_model.specs.Price.{time_at}
use Rattle.power_model.specs.Switches.{costs_of}
use Rattle.elf_patch.specs.Stored.{stored_image}
use Rattle.stored_laws.specs.StoredView.{stored_view}
use Rattle.stored_laws.proofs.Laws.{law}
use Rattle.cost_theory.specs.Graph.{Graph, Loops}
use Rattle.cost_theory.specs.Worst.{Numbers, AreNumbers}
use Rattle.cycle_laws.specs.Charged.{AreCharged}
use Rattle.code_text.specs.Text.{text_of}
use Rattle.code_text.specs.TextGraph.{text_graph}
use Rattle.flow_graph.specs.FlowGraph.{FlowGraph, graph}
use Rattle.graph_runs.specs.Laws.{IsProgramOf}
use Rattle.loop_file.specs.declared.notes.LoopNote.{LoopNote}
use Rattle.loop_file.specs.Kept.{noted_loops}
use Rattle.loop_forest.specs.Tree.{LoopView, loops}
use Rattle.scale_sites.specs.Counters.{counted_loops}
use Rattle.stub_writer.specs.Stubs.{Site, block_bytes, patches_from}
use Rattle.stored_runs.specs.Stubbed.{IsStubbed}
use Rattle.stored_runs.proofs.Laws.{stubbed_patched}
use Rattle.paid_runs.specs.Marked as marked_specs
use Rattle.paid_runs.specs.Patched.{IsBudgeted}
use Rattle.paid_runs.specs.Timely.{weights_of}
use Rattle.paid_runs.proofs.Laws.{budgeted_safe, counted_of, counters_of, tables_keep_budgets, weights_of_calls}
use Rattle.rewritten_runs.specs.Promise.{KeepsThePromise}
use Rattle.rewritten_runs.specs.Stubs.{IsWeighed, is_counted, counter_of}
use Rattle.rewritten_runs.proofs.Laws.{countable, graph_program, kept_by_tree, limited, program_is}
use Rattle.paced_images.specs.declared.wanted.SwitchSite.{SwitchSite}
use Rattle.marked_images.specs.Wanted.{ChoosesSites, Wanted, marked_where}
use Rattle.paced_images.specs.Paced.{paced_budget, paced_rule, paced_test}
use Rattle.paced_images.specs.Wanted.{wanted_of}
use Rattle.paced_images.proofs.Ended.{promised}
use Rattle.paced_images.proofs.PacedCounts.{are_marked}
use Rattle.paced_images.proofs.PacedTables.{tabled}
use Rattle.paced_images.proofs.PacedWeights.{stored_same, extra_same}
use Rattle.marked_images.proofs.Laws.{IsMade, bound_small, can_store, found_in_time, safe as safe_stubs, start_low, slack_plain, slack_stored, slack_weighed}
use Rattle.paced_images.proofs.WantedMarks.{chooses}

-- what a stored image is read as has the original's text, and the block as its keyed segment
pub view_text : (image : Image) (file : List ℕ) (base : ℕ) (block : List ℕ) (start : ℕ) → (stored_view image file base block start).text ≡ image.text
unfolding stored_view
view_text image file base block start = refl

abbrev pub key_of : ℕ → List ℕ → ℕ → Keyed
key_of base block start = record { range = record { from = base; to = base + length block }; start = start }

pub view_key : (image : Image) (file : List ℕ) (base : ℕ) (block : List ℕ) (start : ℕ) → (stored_view image file base block start).keyed_segment ≡ Some (key_of base block start)
unfolding stored_view
view_key image file base block start = refl

-- budgets are within the deadline
quarters : (share time : ℕ) → share ≤ 4 → share * time / 4 ≤ time
quarters share time few =
    let more : share * time ≤ 4 * time = mul-le-mul_right {m = share} {n = 4} time few in
    omega (arith, more)

budget_within : (power : PowerModel) (start worst share i : ℕ) → share ≤ 4 → time_at power start worst ≤ power.deadline → paced_budget power start worst share i ≤ power.deadline
budget_within power start worst share i few le = by (i == start) (i == 0) (nat_lt i start)
  where
    by : (a b c : Bool) → cond a (time_at power start worst) (cond b power.deadline (cond c (time_at power start worst + share * (power.deadline - time_at power start worst) / 4) 0)) ≤ power.deadline
    by true b c = le
    by false true c = omega arith
    by false false true = let part = quarters share (power.deadline - time_at power start worst) few in omega (arith, part, le)
    by false false false = omega arith

budget_first : (power : PowerModel) (start worst share : ℕ) → paced_budget power start worst share start ≡ time_at power start worst
budget_first power start worst share =
    ap (λ b. cond b (time_at power start worst) (cond (start == 0) power.deadline (cond (nat_lt start start) (time_at power start worst + share * (power.deadline - time_at power start worst) / 4) 0))) (eq-eqb start start refl)

module _ (power : PowerModel) (ok : IsPowerModel power) (image : Image) (notes : List LoopNote) (v : FlowGraph) (t : LoopView) (wanted : List SwitchSite) (tallied : List ℕ) (share : ℕ) (sites : List Site) (base start : ℕ) (read : image_of image.file ≡ Ok image) (no_key : image.keyed_segment ≡ None) (short : length image.file ≤ 4194304) (few_quarters : share ≤ 4) (is : IsMade power image notes v t (wanted_of v t wanted tallied) (paced_rule power share) sites base start) where
  abbrev chosen : Wanted
  chosen = wanted_of v t wanted tallied

  abbrev test : Rattle.level_tables.specs.declared.edge_numbers.EdgeNumbers.EdgeNumbers → ℕ → ℕ → Bool
  test = paced_test power start (is.stored.worst 0) share

  abbrev budget : ℕ → ℕ
  budget = paced_budget power start (is.stored.worst 0) share

  abbrev l : Loops
  l = loops v t

  abbrev extent : ℕ → ℕ → Bool
  extent = (noted_loops notes).inside

  abbrev levels : ℕ
  levels = length power.levels

  abbrev limits : ℕ → ℕ
  limits w = l.bound (Rattle.rewritten_runs.specs.Stubs.loop_of (counted_loops t) w)

  kinds : ChoosesSites v chosen.switch
  kinds = chooses v wanted

  abbrev plain : Numbers
  plain = slack_plain power image notes v t chosen is.stored is.weighed kinds

  abbrev other : Numbers
  other = slack_stored power image notes v t chosen is.stored is.weighed kinds

  weighed : IsWeighed power image notes v t plain other
  weighed = slack_weighed power image notes v t chosen is.stored is.weighed kinds

  prog : IsProgramOf (text_of image) v.code l extent
  prog = program_is power image notes v t plain other weighed

  abbrev pub stored : Image
  stored = stored_view image (stored_image image.file (patches_from base sites) base (block_bytes base sites) start) base (block_bytes base sites) start

  stubbed : IsStubbed image.file image levels limits sites base start stored
  stubbed = record {
    read = read;
    storable = can_store power ok image notes v t chosen (paced_rule power share) sites base start read no_key short is;
    stored_is = law image.file image (patches_from base sites) base (block_bytes base sites) start read (can_store power ok image notes v t chosen (paced_rule power share) sites base start read no_key short is);
    near = is.near;
    ascending = is.stubs.sites_are.ascending;
    safe = safe_stubs power ok image notes v t chosen (paced_rule power share) sites base start read no_key short is;
    start_is_level = start_low power ok image notes v t chosen (paced_rule power share) sites base start read no_key short is;
    few_levels = ok.few;
    small_limits = λ k. let b = bound_small power ok image notes v t chosen is.stored is.weighed kinds test is.least sites is.stubs.sites_are (Rattle.rewritten_runs.specs.Stubs.loop_of (counted_loops t) k) in omega (arith, b);
  }

  same_stored : weights_of power (text_of image) v.code sites ≡ Rattle.rewritten_runs.specs.Stubs.stored_weights power image v (marked_where v t chosen)
  same_stored = stored_same power image notes v t chosen is.stored is.weighed kinds test is.least sites is.stubs.sites_are

  same_extra : marked_specs.extra_site_weights (text_of image) v.code (costs_of power) sites ≡ Rattle.rewritten_runs.specs.Stubs.extra_weights power v (marked_where v t chosen)
  same_extra = extra_same power image notes v t chosen is.stored is.weighed kinds test is.least sites is.stubs.sites_are

  in_time : time_at power start (is.stored.worst 0) ≤ power.deadline
  in_time = found_in_time power (is.stored.worst 0) start is.slow

  abbrev is_of : ℕ → ℕ → Bool
  is_of = Rattle.paid_runs.specs.Counters.by_words l (is_counted t) (counter_of t)

  pub budgeted : IsBudgeted power budget image stored limits sites start v.code l extent is_of is.stored is.least is.extra
  budgeted = record {
    power_is = ok;
    patched_is = stubbed_patched image.file image levels limits sites base start stored stubbed;
    program = prog;
    counters = counters_of l (is_counted t) (counter_of t) (text_graph (text_of image) v.code) limits (countable power image notes v t plain other weighed) (limited power image notes v t plain other weighed);
    counted = counted_of l (is_counted t) (counter_of t) (text_of image) v.code sites (are_marked power image notes v t chosen is.stored is.weighed kinds test is.least sites is.stubs.sites_are);
    analyzed = record {
      program = graph_program power image notes v t plain other weighed;
      accepted = prog.loops;
      weights = (weights_of_calls image levels limits sites v.code (costs_of power) (safe_stubs power ok image notes v t chosen (paced_rule power share) sites base start read no_key short is)).0;
      numbers = subst (λ (q : Graph). AreNumbers q l (weights_of power (text_of image) v.code sites) is.stored) (sym is.weighed.code_is.graph_is) (subst (λ (w : ℕ → ℕ). AreNumbers (graph v) l w is.stored) (sym same_stored) is.weighed.stored_are);
    };
    added = record {
      program = graph_program power image notes v t plain other weighed;
      accepted = prog.loops;
      weights = (weights_of_calls image levels limits sites v.code (costs_of power) (safe_stubs power ok image notes v t chosen (paced_rule power share) sites base start read no_key short is)).1;
      numbers = subst (λ (q : Graph). AreNumbers q l (marked_specs.extra_site_weights (text_of image) v.code (costs_of power) sites) is.extra) (sym is.weighed.code_is.graph_is) (subst (λ (w : ℕ → ℕ). AreNumbers (graph v) l w is.extra) (sym same_extra) is.stubs.extra_are);
    };
    least_is = subst (λ (q : Graph). AreCharged q l (weights_of power (text_of image) v.code sites) is.least) (sym is.weighed.code_is.graph_is) (subst (λ (w : ℕ → ℕ). AreCharged (graph v) l w is.least) (sym same_stored) is.stubs.least_are);
    tables = tables_keep_budgets power budget (text_of image) v.code l sites is_of is.stored is.least (tabled power ok image notes v t chosen is.stored is.weighed kinds budget is.least sites is.stubs.sites_are);
    budgets = record {
      first = (let e = budget_first power start (is.stored.worst 0) share in omega (arith, e));
      within = λ i low. budget_within power start (is.stored.worst 0) share i few_quarters in_time;
    };
  }

  pub stored_is : image_of (stored_image image.file (patches_from base sites) base (block_bytes base sites) start) ≡ Ok stored
  stored_is = stubbed.stored_is

  starts : starting_level levels stored.keyed_segment ≡ start
  starts = (stubbed_patched image.file image levels limits sites base start stored stubbed).start_is

  pub keeps : KeepsThePromise power image notes stored (is.extra.worst 0)
  keeps input steps status kept exited =
      let k = kept_by_tree v notes t is.weighed.tree_is image levels input steps kept.carried kept.kept in
      let r = budgeted_safe power budget image stored limits sites start v.code l extent is_of is.stored is.least is.extra budgeted input steps kept.carried k in
      let is_level : starting_level levels stored.keyed_segment < levels = (let lt = start_low power ok image notes v t chosen (paced_rule power share) sites base start read no_key short is in omega (arith, lt, starts)) in
      promised power image stored sites v.code l is_of is.stored is.extra input steps status kept.carried is_level (subst (λ i. Rattle.paid_runs.specs.Patched.IsTunedRun power image stored sites i v.code l is_of is.stored is.extra input steps kept.carried) (sym starts) r.0) exited
