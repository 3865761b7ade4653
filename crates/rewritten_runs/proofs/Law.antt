-- A rewritten image follows the original in time, and keeps the promise.
use Rattle.std.proofs.Common.{◌≡◌, ℕ, zero, suc, ◌+◌, ◌*◌, ◌<◌, ◌≤◌, ◌⊎◌, inl, inr, Bool, true, false, List, [], ◌∷◌, length, slice_get, Option, Some, None, Ok, refl, sym, ap, ◌∙◌, subst, arith}
use Rattle.std.specs.Prelude.{All, IsTrue, min, find}
use Rattle.std.specs.List.{range_with_len, list_any}
use Rattle.std.proofs.lemmas.List.Elements.{All-nil, All-cons}
use Rattle.std.proofs.lemmas.Option.{get_or_from_slice_get}
use Rattle.scale_base.specs.declared.ranges.Keyed.{Keyed}
use Rattle.scale_base.specs.Image.{Image, image_of, contents, is_in, is_word_address}
use Rattle.scale_base.specs.Layout.{layout_of, is_keyed}
use Rattle.scale_base.specs.Word.{word_of}
use Rattle.scale_base.proofs.Laws.{contents-are}
use Rattle.power_model.specs.Numbers.{PowerModel, IsPowerModel}
use Rattle.power_model.specs.Price.{time_at}
use Rattle.power_model.specs.Slowest.{slowest_of, is_in_time}
use Rattle.elf_patch.specs.Stored.{stored_image, IsStubBase}
use Rattle.stored_laws.specs.StoredView.{IsStorable, stored_view}
use Rattle.stored_laws.proofs.Laws.{law}
use Rattle.machine_laws.proofs.Laws.{found_in, found_passes}
use Rattle.cost_theory.specs.Graph.{Graph, Loops}
use Rattle.cycle_laws.specs.Charged.{Charged, AreCharged}
use Rattle.cost_theory.specs.Worst.{Numbers, AreNumbers}
use Rattle.cost_theory.specs.Reached.{edge_at}
use Rattle.cost_theory.proofs.Laws.{source_reached, some_get}
use Rattle.code_text.specs.EdgeCosts.{weights}
use Rattle.code_text.specs.TextGraph.{text_graph}
use Rattle.code_text.specs.Text.{text_of, kind_at}
use Rattle.flow_graph.specs.FlowGraph.{FlowGraph, graph}
use Rattle.loop_file.specs.declared.notes.LoopNote.{LoopNote}
use Rattle.loop_file.specs.Kept.{noted_loops}
use Rattle.loop_forest.specs.Noted.{node_address}
use Rattle.loop_forest.specs.Tree.{LoopView, loops, IsInnermost}
use Rattle.scale_sites.specs.Counters.{counted_loops}
use Rattle.scale_sites.specs.Marks.{AreLoopsOnce}
use Rattle.scale_sites.specs.Sites.{is_branch}
use Rattle.stub_writer.specs.Stubs.{Site, block_size, block_bytes, patches_from, stub_len, jump, out_of_reach}
use Rattle.stored_runs.specs.Stubbed.{IsStubbed, IsSafeSite}
use Rattle.stored_runs.proofs.Laws.{frame}
use Rattle.level_tables.specs.Budgets.{AreBudgets}
use Rattle.paid_runs.specs.Marked as marked_specs
use Rattle.paid_runs.proofs.Laws.{weights_of_calls}
use Rattle.power_model.specs.Switches.{costs_of}
use Rattle.paid_runs.specs.Timely.{weights_of}
use Rattle.rewritten_runs.specs.Laws.{IsSafelyRewrittenBy, RewrittenImagesFollow, KeepsBudgets, BudgetedImagesFollow, ChosenImagesFollow}
use Rattle.level_tables.proofs.Laws.{both_in_budget}
use Rattle.rewritten_runs.specs.Stubs.{Rule, by_slack, by_choice, IsWeighedBy, IsWeighed, HasStubsBy, HasStubs, marks_by, stored_weights, extra_weights, rewritten_file, loop_of}
use Rattle.rewritten_runs.proofs.Programs.{kept_by_tree}
use Rattle.rewritten_runs.proofs.Supplied.{IsSuppliedBy, IsSupplied}
use Rattle.rewritten_runs.proofs.Follows.{follows, keeps}
use Rattle.rewritten_runs.proofs.Marked.{program_is, graph_program, countable, are_marked, limited, shadows, loop_count, counted_is}
use Rattle.rewritten_runs.proofs.MarkOrder.{in_get, set_distinct}
use Rattle.rewritten_runs.proofs.FewMarks.{depth, few_marks}
use Rattle.rewritten_runs.proofs.SafeSites.{safe_sites, bound_small}
use Rattle.rewritten_runs.proofs.Short.{block_short, block_bytes_len}
use Rattle.rewritten_runs.proofs.Tabled.{are_tables}
use Rattle.rewritten_runs.proofs.Weighed.{stored_same, extra_same}

-- the file of an image is the one that it was read from
contents_file : (file : List ℕ) → (contents file).file ≡ file
unfolding contents
contents_file file = refl

pub file_is : (file : List ℕ) (image : Image) → image_of file ≡ Ok image → image.file ≡ file
file_is file image e = sym (ap (λ (i : Image). i.file) (contents-are file image e)) ∙ contents_file file

-- what a stored image is read as has the original's text
view_text : (image : Image) (file : List ℕ) (base : ℕ) (block : List ℕ) (start : ℕ) → (stored_view image file base block start).text ≡ image.text
unfolding stored_view
view_text image file base block start = refl

-- and the block as its keyed segment
abbrev key_of : ℕ → List ℕ → ℕ → Keyed
key_of base block start = record { range = record { from = base; to = base + length block }; start = start }

view_key : (image : Image) (file : List ℕ) (base : ℕ) (block : List ℕ) (start : ℕ) → (stored_view image file base block start).keyed_segment ≡ Some (key_of base block start)
unfolding stored_view
view_key image file base block start = refl

-- the patches are on words of the text
patched_words : (image : Image) (at : ℕ) (sites : List Site) → All (λ s. is_word_address image s.at ≡ true) sites → All (λ p. IsTrue (is_word_address image p.at)) (patches_from at sites)
patched_words image at [] h = All-nil (λ p. IsTrue (is_word_address image p.at))
patched_words image at (site ∷ sites) h =
    All-cons (λ p. IsTrue (is_word_address image p.at)) (record { at = site.at; word = word_of (jump site.at at) }) (patches_from (at + 4 * stub_len site) sites) (h 0 site (omega arith)) (patched_words image (at + 4 * stub_len site) sites (λ k d lt. h (suc k) d (omega arith)))

found_below : (p : ℕ → Bool) (a n x : ℕ) → find p (range_with_len a n) ≡ Some x → x < a + n
found_below p a zero x e = absurd cc
found_below p a (suc n) x e =
    elim (found_in (p a) x a (find p (range_with_len (a + 1) n)) e) [
      | inl h ↦ omega (arith, h.1)
      | inr h ↦ omega (arith, found_below p (a + 1) n x h.1)
    ]

module _ (budget : ℕ → ℕ) (rule : Rule) (power : PowerModel) (strong : KeepsBudgets power budget rule) (ok : IsPowerModel power) (file : List ℕ) (image : Image) (notes : List LoopNote) (v : FlowGraph) (tree : LoopView) (plain stored extra : Numbers) (least : Charged) (sites : List Site) (base start : ℕ)
    (read : image_of file ≡ Ok image) (no_key : image.keyed_segment ≡ None) (short_file : length file ≤ 4194304) (weighed : IsWeighedBy power image notes v tree rule plain stored) (start_low : start < length power.levels) (budgets : AreBudgets power budget start (stored.worst 0))
    (stubs : HasStubsBy power image v tree rule stored extra least sites base) (near : out_of_reach base sites ≡ None) where
  abbrev l : Loops
  l = loops v tree

  abbrev g : Graph
  g = text_graph (text_of image) v.code

  abbrev extent : ℕ → ℕ → Bool
  extent = (noted_loops notes).inside

  abbrev levels : ℕ
  levels = length power.levels

  abbrev limits : ℕ → ℕ
  limits w = l.bound (loop_of (counted_loops tree) w)

  prog : Rattle.graph_runs.specs.Laws.IsProgramOf (text_of image) v.code l extent
  prog = program_is power image notes v tree plain stored weighed

  -- ---- marks are few

  innermost_of : (u : ℕ) (o : Option ℕ) → IsInnermost l u o → ((o ≡ None) × ((k : ℕ) → k < l.loops → l.inside k u ≡ true → ⊥)) ⊎ ((j : ℕ) × (j < l.loops) × (l.inside j u ≡ true) × ((k w : ℕ) → k < l.loops → l.inside k u ≡ true → l.inside j w ≡ true → l.inside k w ≡ true))
  innermost_of u None h = inl (refl, h)
  innermost_of u (Some j) h = inr (j, h.0, h.1, λ k w kl on there. h.2 k w kl on there)

  flag_count : length tree.counted ≡ l.loops
  flag_count = let a = weighed.tree_is.tree.counted_size in let b = loop_count power image notes v tree plain stored weighed in omega (arith, a, b)

  are_loops : AreLoopsOnce l (counted_loops tree)
  are_loops k h = let at = in_get k (counted_loops tree) h in (counted_is power image notes v tree plain stored weighed at.0 k at.1).loop

  few : (e : ℕ) → e < length v.code.edges → length (marks_by v tree rule e) ≤ 17
  few e lt =
      let r = source_reached (kind_at (text_of image)) image.entry v.code prog.reached.lists prog.reached.words e lt in
      let node = (prog.reached.lists.nodes (edge_at (slice_get v.code.edges e))).1 r in
      let size = weighed.tree_is.tree.innermost_size in
      let within = Rattle.std.proofs.lemmas.Option.slice_get_within v.code.nodes node.0 (edge_at (slice_get v.code.edges e)) node.1 in
      let o = some_get tree.innermost node.0 (omega (arith, size, within)) in
      let address : node_address v node.0 ≡ edge_at (slice_get v.code.edges e) = get_or_from_slice_get v.code.nodes node.0 (edge_at (slice_get v.code.edges e)) 0 node.1 in
      let is = weighed.tree_is.tree.innermost node.0 o.0 o.1 in
      let gp = graph_program power image notes v tree plain stored weighed in
      let d = depth g l extent gp prog.loops tree.counted flag_count are_loops (set_distinct 0 tree.counted) (edge_at (slice_get v.code.edges e)) o.0 (innermost_of (edge_at (slice_get v.code.edges e)) o.0 (subst (λ a. IsInnermost l a o.0) address is)) in
      few_marks g l extent gp prog.loops tree.counted flag_count are_loops (set_distinct 0 tree.counted) e (is_branch v e) _ rule.least_gain lt d

  -- ---- the stored image

  safe : All (IsSafeSite image levels limits) sites
  safe = safe_sites power ok image notes v tree plain stored weighed least sites stubs.sites_are few

  size_small : block_size sites ≤ 4194304
  size_small = block_short file image levels limits sites base (min (block_size sites) 4194304) read (omega arith) stubs.base_is safe near

  same_len : min (block_size sites) 4194304 ≡ length (block_bytes base sites)
  same_len = let n = block_bytes_len base sites in omega (arith, n, size_small)

  pub storable_by : IsStorable image (patches_from base sites) base (block_bytes base sites) start
  storable_by = record {
    file = (let n = ap length (file_is file image read) in omega (arith, n, short_file));
    no_key = no_key;
    words = patched_words image base sites (λ k d lt. (stubs.sites_are.words k d lt).0);
    place = subst (λ n. IsStubBase image n base) same_len stubs.base_is;
    block_short = (let n = block_bytes_len base sites in omega (arith, n, size_small));
    start_small = (let few = ok.few in omega (arith, start_low, few));
  }

  abbrev pub rewritten : Image
  rewritten = stored_view image (stored_image file (patches_from base sites) base (block_bytes base sites) start) base (block_bytes base sites) start

  stubbed : IsStubbed file image levels limits sites base start rewritten
  stubbed = record {
    read = read;
    storable = storable_by;
    stored_is = law file image (patches_from base sites) base (block_bytes base sites) start read storable_by;
    near = near;
    ascending = stubs.sites_are.ascending;
    safe = safe;
    start_is_level = start_low;
    few_levels = ok.few;
    small_limits = λ k. let b = bound_small power ok image notes v tree plain stored weighed least sites stubs.sites_are few (loop_of (counted_loops tree) k) in omega (arith, b);
  }

  -- ---- what the laws ask

  same_stored : weights_of power (text_of image) v.code sites ≡ stored_weights power image v (marks_by v tree rule)
  same_stored = stored_same power image notes v tree plain stored weighed least sites stubs.sites_are

  same_extra : marked_specs.extra_site_weights (text_of image) v.code (costs_of power) sites ≡ extra_weights power v (marks_by v tree rule)
  same_extra = extra_same power image notes v tree plain stored weighed least sites stubs.sites_are

  pub supplied_by : IsSuppliedBy power budget file image notes v tree rule plain stored extra least sites base start rewritten
  supplied_by = record {
    limits = limits;
    ok = ok;
    graph_is = weighed.code_is.graph_is;
    kept_by_tree = λ input n c kept. kept_by_tree v notes tree weighed.tree_is image levels input n c kept;
    stubbed = stubbed;
    program = prog;
    countable = countable power image notes v tree plain stored weighed;
    marked = are_marked power image notes v tree plain stored weighed sites least stubs.sites_are.ways;
    limited = limited power image notes v tree plain stored weighed;
    shadows = shadows power image notes v tree plain stored weighed;
    analyzed = record {
      program = graph_program power image notes v tree plain stored weighed;
      accepted = prog.loops;
      weights = (weights_of_calls image levels limits sites v.code (costs_of power) safe).0;
      numbers = subst (λ (q : Graph). AreNumbers q l (weights_of power (text_of image) v.code sites) stored) (sym weighed.code_is.graph_is) (subst (λ (w : ℕ → ℕ). AreNumbers (graph v) l w stored) (sym same_stored) weighed.stored_are);
    };
    extra_analyzed = record {
      program = graph_program power image notes v tree plain stored weighed;
      accepted = prog.loops;
      weights = (weights_of_calls image levels limits sites v.code (costs_of power) safe).1;
      numbers = subst (λ (q : Graph). AreNumbers q l (marked_specs.extra_site_weights (text_of image) v.code (costs_of power) sites) extra) (sym weighed.code_is.graph_is) (subst (λ (w : ℕ → ℕ). AreNumbers (graph v) l w extra) (sym same_extra) stubs.extra_are);
    };
    least_are = subst (λ (q : Graph). AreCharged q l (weights_of power (text_of image) v.code sites) least) (sym weighed.code_is.graph_is) (subst (λ (w : ℕ → ℕ). AreCharged (graph v) l w least) (sym same_stored) stubs.least_are);
    tables = are_tables power ok image notes v tree plain stored weighed least sites stubs.sites_are budget strong;
    plain_are = subst (λ (q : Graph). AreNumbers q l (weights (text_of image) v.code (costs_of power)) plain) (sym weighed.code_is.graph_is) weighed.plain_are;
    budgets = budgets;
    in_time = (let first = budgets.first in let late = budgets.within start start_low in omega (arith, first, late));
    weights_are = same_stored;
  }

  off_key : (a : ℕ) → list_any (is_in a) image.text ≡ true → is_keyed (layout_of rewritten) a ≡ false
  off_key a on = ((frame file image rewritten sites base start levels [] read storable_by stubbed.stored_is stubs.sites_are.ascending).alike a on).right

  pub rewritten_is_safe : IsSafelyRewrittenBy power image notes v tree rule plain stored (extra.worst 0) start (rewritten_file image sites base start)
  rewritten_is_safe = record {
    rewritten = rewritten;
    is = ap (λ f. image_of (stored_image f (patches_from base sites) base (block_bytes base sites) start)) (file_is file image read) ∙ stubbed.stored_is;
    same_text = view_text image (stored_image file (patches_from base sites) base (block_bytes base sites) start) base (block_bytes base sites) start;
    key = key_of base (block_bytes base sites) start;
    keyed = view_key image (stored_image file (patches_from base sites) base (block_bytes base sites) start) base (block_bytes base sites) start;
    starts = refl;
    promise = keeps power file image notes v tree plain stored extra least sites base start rewritten supplied_by off_key;
    follows = follows power file image notes v tree plain stored extra least sites base start rewritten supplied_by off_key;
  }

pub budgeted_follow : BudgetedImagesFollow
budgeted_follow = λ power ok budget rule strong file image notes v t plain stored extra least sites base start read no_key short weighed low budgets stubs near.
    rewritten_is_safe budget rule power strong ok file image notes v t plain stored extra least sites base start read no_key short weighed low budgets stubs near

pub chosen_follow : ChosenImagesFollow
chosen_follow = λ power ok budget chosen. budgeted_follow power ok budget (by_choice power budget chosen) (λ told i j met. met)

-- ---- by the rule of slacks, with the deadline as each budget

slack_keeps : (power : PowerModel) (image : Image) (v : FlowGraph) (tree : LoopView) (plain : Numbers) → KeepsBudgets power (λ i. power.deadline) (by_slack power image v tree plain)
slack_keeps power image v tree plain told i j met = both_in_budget power told i j met

module _ (power : PowerModel) (ok : IsPowerModel power) (file : List ℕ) (image : Image) (notes : List LoopNote) (v : FlowGraph) (tree : LoopView) (plain stored extra : Numbers) (least : Charged) (sites : List Site) (base start : ℕ)
    (read : image_of file ≡ Ok image) (no_key : image.keyed_segment ≡ None) (short_file : length file ≤ 4194304) (weighed : IsWeighed power image notes v tree plain stored) (slow : slowest_of power (stored.worst 0) ≡ Some start)
    (stubs : HasStubs power image v tree plain stored extra least sites base) (near : out_of_reach base sites ≡ None) where
  slow_low : start < length power.levels
  slow_low = let lt = found_below (is_in_time power (stored.worst 0)) 0 (length power.levels) start slow in omega (arith, lt)

  slow_budgets : AreBudgets power (λ i. power.deadline) start (stored.worst 0)
  slow_budgets = record {
    first = Rattle.rewritten_runs.proofs.TableLaws.leb-le (time_at power start (stored.worst 0)) power.deadline (found_passes (is_in_time power (stored.worst 0)) (range_with_len 0 (length power.levels)) start slow);
    within = λ i low. omega arith;
  }

  pub storable : IsStorable image (patches_from base sites) base (block_bytes base sites) start
  storable = storable_by (λ i. power.deadline) (by_slack power image v tree plain) power (slack_keeps power image v tree plain) ok file image notes v tree plain stored extra least sites base start read no_key short_file weighed slow_low slow_budgets stubs near

  pub supplied : IsSupplied power file image notes v tree plain stored extra least sites base start (stored_view image (stored_image file (patches_from base sites) base (block_bytes base sites) start) base (block_bytes base sites) start)
  supplied = supplied_by (λ i. power.deadline) (by_slack power image v tree plain) power (slack_keeps power image v tree plain) ok file image notes v tree plain stored extra least sites base start read no_key short_file weighed slow_low slow_budgets stubs near

pub rewritten_follow : RewrittenImagesFollow
rewritten_follow = λ power ok file image notes v t plain stored extra least sites base start read no_key short weighed _ slow stubs near.
    budgeted_follow power ok (λ i. power.deadline) (by_slack power image v t plain) (slack_keeps power image v t plain) file image notes v t plain stored extra least sites base start read no_key short weighed
    (slow_low power ok file image notes v t plain stored extra least sites base start read no_key short weighed slow stubs near)
    (slow_budgets power ok file image notes v t plain stored extra least sites base start read no_key short weighed slow stubs near) stubs near
