-- What is asked where the file of a scaling is written.
use Rattle.std.proofs.Common.{◌≡◌, ℕ, zero, suc, ◌+◌, ◌*◌, ◌<◌, ◌≤◌, ◌%◌, List, [], ◌∷◌, length, map, true, Some, None, Ok, sym, subst, arith}
use Rattle.std.specs.Prelude.{slice_index, All, IsTrue, min}
use Rattle.std.specs.List.Sorted.{IsStrictlyIncreasing}
use Rattle.std.proofs.lemmas.List.Elements.{All-nil, All-cons}
use Rattle.scale_base.specs.declared.ranges.Patch.{Patch}
use Rattle.scale_base.specs.Image.{Image, image_of, is_word_address}
use Rattle.scale_base.specs.Word.{word_of}
use Rattle.power_model.specs.Numbers.{PowerModel, IsPowerModel}
use Rattle.power_model.specs.Slowest.{is_in_time, slowest_of}
use Rattle.elf_patch.specs.Stored.{IsStubBase}
use Rattle.loop_file.specs.declared.notes.LoopNote.{LoopNote}
use Rattle.cost_theory.specs.Worst.{Numbers}
use Rattle.cycle_laws.specs.Charged.{Charged}
use Rattle.flow_graph.specs.FlowGraph.{FlowGraph}
use Rattle.loop_forest.specs.Tree.{LoopView, loops}
use Rattle.scale_sites.specs.Counters.{counted_loops}
use Rattle.stub_writer.specs.Sites.{site_of}
use Rattle.stub_writer.specs.Stubs.{Site, block_size, block_bytes, patches_from, out_of_reach, stub_len, jump}
use Rattle.stored_laws.specs.StoredView.{IsStorable}
use Rattle.stored_runs.specs.Stubbed.{AreAscending, IsSafeSite}
use Rattle.rewritten_runs.specs.Stubs.{IsWeighedWith, HasStubsWith, loop_of}
use Rattle.rewritten_runs.proofs.Laws.{block_bytes_len, block_short}
use Rattle.marked_images.proofs.Parts.{found_below}
use Rattle.marked_images.specs.declared.scaling.Scaling.{Scaling}
use Rattle.level_tables.specs.Budgets.{meets_in_budget}
use Rattle.marked_images.specs.Scalings.{IsScaled}
use Rattle.marked_images.specs.Stored.{BudgetRule}
use Rattle.marked_images.specs.Wanted.{ChoosesSites, Wanted, marked_where}
use Rattle.marked_images.proofs.SafeStubs.{safe_sites}

-- what is known of a program with its stubs at a base, and its starting level
pub record IsMade (power : PowerModel) (image : Image) (notes : List LoopNote) (v : FlowGraph) (t : LoopView) (wanted : Wanted) (rule : BudgetRule) (sites : List Site) (base start : ℕ) : Type 0 where
  pub kinds : ChoosesSites v wanted.switch
  pub stored : Numbers
  pub extra : Numbers
  pub least : Charged
  pub weighed : IsWeighedWith power image notes v t (marked_where v t wanted) stored
  pub slow : slowest_of power (stored.worst 0) ≡ Some start
  pub stubs : HasStubsWith power (meets_in_budget power (rule start (stored.worst 0))) image v t (marked_where v t wanted) stored extra least sites base
  pub near : out_of_reach base sites ≡ None

pub made_of : (power : PowerModel) (image : Image) (notes : List LoopNote) (v : FlowGraph) (t : LoopView) (wanted : Wanted) (rule : BudgetRule) (s : Scaling) → IsScaled power image notes v t wanted rule s → IsMade power image notes v t wanted rule (map site_of s.stubs.items) s.base s.summary.start
made_of power image notes v t wanted rule s is = record { kinds = is.kinds; stored = is.stored; extra = is.extra; least = is.least; weighed = is.weighed; slow = is.slow; stubs = is.stubs; near = is.near }

-- the patches are on words of the text
patched_words : (image : Image) (at : ℕ) (sites : List Site) → All (λ s. is_word_address image s.at ≡ true) sites → All (λ p. IsTrue (is_word_address image p.at)) (patches_from at sites)
patched_words image at [] h = All-nil (λ p. IsTrue (is_word_address image p.at))
patched_words image at (site ∷ sites) h =
    All-cons (λ p. IsTrue (is_word_address image p.at)) (record { at = site.at; word = word_of (jump site.at at) }) (patches_from (at + 4 * stub_len site) sites) (h 0 site (omega arith)) (patched_words image (at + 4 * stub_len site) sites (λ k d lt. h (suc k) d (omega arith)))

module _ (power : PowerModel) (ok : IsPowerModel power) (image : Image) (notes : List LoopNote) (v : FlowGraph) (t : LoopView) (wanted : Wanted) (rule : BudgetRule) (sites : List Site) (base start : ℕ) (read : image_of image.file ≡ Ok image) (no_key : image.keyed_segment ≡ None) (short : length image.file ≤ 4194304) (is : IsMade power image notes v t wanted rule sites base start) where
  abbrev pub limits : ℕ → ℕ
  limits w = (loops v t).bound (loop_of (counted_loops t) w)

  pub safe : All (IsSafeSite image (length power.levels) limits) sites
  safe = safe_sites power ok image notes v t wanted is.stored is.weighed is.kinds (meets_in_budget power (rule start (is.stored.worst 0))) is.least sites is.stubs.sites_are

  size_small : block_size sites ≤ 4194304
  size_small = block_short image.file image (length power.levels) limits sites base (min (block_size sites) 4194304) read (omega arith) is.stubs.base_is safe is.near

  same_len : min (block_size sites) 4194304 ≡ length (block_bytes base sites)
  same_len = let n = block_bytes_len base sites in omega (arith, n, size_small)

  pub start_low : start < length power.levels
  start_low = let lt = found_below (is_in_time power (is.stored.worst 0)) 0 (length power.levels) start is.slow in omega (arith, lt)

  pub can_store : IsStorable image (patches_from base sites) base (block_bytes base sites) start
  can_store = record {
    file = short;
    no_key = no_key;
    words = patched_words image base sites (λ k d lt. (is.stubs.sites_are.words k d lt).0);
    place = subst (λ n. IsStubBase image n base) same_len is.stubs.base_is;
    block_short = (let n = block_bytes_len base sites in omega (arith, n, size_small));
    start_small = (let few = ok.few in omega (arith, start_low, few));
  }

  ascends : (from : ℕ) (l : List Site) → AreAscending l → IsStrictlyIncreasing (map (λ (p : Patch). p.at) (patches_from from l))
  ascends from [] h k lt = let bad : ⊥ = omega (arith, lt) in absurd bad
  ascends from (x ∷ []) h k lt = let bad : ⊥ = omega (arith, lt) in absurd bad
  ascends from (x ∷ y ∷ l) h zero lt = h.0 0 y (omega arith)
  ascends from (x ∷ y ∷ l) h (suc k) lt =
      let e : suc k + 1 ≡ suc (k + 1) = omega arith in
      let below = ascends (from + 4 * stub_len x) (y ∷ l) h.1 k (omega (arith, lt)) in
      subst (λ i. slice_index (map (λ (p : Patch). p.at) (patches_from from (x ∷ y ∷ l))) (suc k) < slice_index (map (λ (p : Patch). p.at) (patches_from from (x ∷ y ∷ l))) i) (sym e) below

  pub ascending : IsStrictlyIncreasing (map (λ (p : Patch). p.at) (patches_from base sites))
  ascending = ascends base sites is.stubs.sites_are.ascending

  pub whole_words : length (block_bytes base sites) % 4 ≡ 0
  whole_words = let n = block_bytes_len base sites in omega (arith, n)
