-- From what the parts of a check find to its verdict.
use Rattle.std.proofs.Common.{◌≡◌, ℕ, ◌^◌, ◌<◌, ◌≤◌, List, length, slice_get, Some, None, Ok, Err, sym, ap, ◌∙◌, subst, arith}
use Rattle.std.specs.Prelude.{slice_index}
use Rattle.std.proofs.lemmas.List.{length-map}
use Rattle.std.proofs.lemmas.Option.{get_or_from_slice_get}
use Rattle.scale_base.specs.declared.refusal.Refusal.{Refusal}
use Rattle.scale_base.specs.declared.verdict.Checked.{Checked}
use Rattle.scale_base.specs.Image.{Image}
use Rattle.power_model.specs.declared.power.Costs.{Costs}
use Rattle.power_model.specs.Price.{cycles_of, time_at}
use Rattle.power_model.specs.Switches.{costs_of}
use Rattle.graph_algorithms.specs.Arcs.{number_in_place}
use Rattle.cost_theory.specs.Accepted.{IsProgram, AreAccepted, AreWeights}
use Rattle.cost_theory.specs.Graph.{Graph, Loops}
use Rattle.cost_theory.specs.Laws.{IsAnalyzed}
use Rattle.cost_theory.specs.Worst.{Numbers, AreNumbers}
use Rattle.cycle_laws.specs.Charged.{Charged, AreCharged}
use Rattle.code_text.specs.Text.{Text, text_of}
use Rattle.code_text.specs.TextGraph.{text_graph}
use Rattle.flow_graph.specs.FlowGraph.{FlowGraph, graph}
use Rattle.loop_file.specs.Kept.{noted_loops}
use Rattle.loop_forest.specs.Noted.{node_address}
use Rattle.loop_forest.specs.Tree.{loops}
use Rattle.worst_cycles.specs.Worst.{WorstView, by_edge, HasLeftSizes, IsLeftOf, IsWorstFound}
use Rattle.least_cycles.specs.Found.{LeastView, HasWorstInRange, HoldsLeast, AreSmallLeast}
use Rattle.rewritten_runs.proofs.Laws.{worst_grows}
use Rattle.paid_runs.specs.Marked.{extra_site_weights, stored_site_weights}
use Rattle.foreign_scan.specs.Scanned.{Found}
use Rattle.foreign_scan.specs.Shown.{ScannedSites}
use Rattle.image_check.specs.declared.checking.Original.{Original}
use Rattle.image_check.specs.declared.checking.Received.{Received}
use Rattle.image_check.specs.declared.checking.CostsWithStubs.{CostsWithStubs}
use Rattle.image_check.specs.Causes.{IsFirstBadCounter, IsFirstBadLevel}
use Rattle.image_check.specs.Safe.{Owner, AreOwners, AreSafeOn, sites_of}
use Rattle.image_check.specs.Known.{owner_by, AreWeighed, AreKnown, IsLevelsAnswer}
use Rattle.image_check.specs.Weights.{AreExtraWeights, AreStoredWeights}
use Rattle.image_check.specs.Checked.{graph_by, weights_with, key_level, IsCounted, HasLevel, CountsNoLoop, IsOverLong, IsMisled, IsPassed}
use Rattle.image_check.specs.Checks.{IsOriginal, IsScannedBy, IsReceived, AreShortCosts, MeetsDeadline, AreExtraCycles}
use Rattle.image_check.proofs.CallEdges.{extra_are_weights, stored_are_weights}
use Rattle.rewritten_runs.proofs.Laws.{slack_in_range, rest_in_range, turns_in_range}

some_number : {a b : ℕ} → Some a ≡ Some b → a ≡ b
some_number e = cc

module _ (p : Original) (is : IsOriginal p) where
  abbrev v : FlowGraph
  v = p.graph

  abbrev l : Loops
  l = loops p.graph p.tree

  abbrev t : Text
  t = text_of p.view

  abbrev g : Graph
  g = graph_by p.view p.graph

  by_text : (P : Graph → Type 0) → P (graph v) → P (text_graph t v.code)
  by_text P h = subst P (sym is.code_is.graph_is) h

  by_lists : (P : Graph → Type 0) → P (text_graph t v.code) → P (graph v)
  by_lists P h = subst P is.code_is.graph_is h

  -- the scan finds no cause, and a counter counts no loop
  pub counts_none : (image : Image) (found : Found) (sites : ScannedSites) (counter : ℕ) → IsScannedBy p image found sites → IsFirstBadCounter (graph v) v.code l found counter → CountsNoLoop p.view image p.graph p.tree counter
  counts_none image found sites counter scanned bad = record {
    found = found;
    scanned = scanned.scanned;
    bad = by_text (λ g. IsFirstBadCounter g v.code l found counter) bad;
  }

  module _ (r : Received) (found : Found) (received : IsReceived p r found) where
    abbrev owner : Owner
    owner = owner_by r.owners

    abbrev stored : ℕ → ℕ
    stored = weights_with p.power p.view r.view p.graph p.tree owner found

    abbrev added : ℕ → ℕ
    added = extra_site_weights t v.code (costs_of p.power) (sites_of p.view r.view v.code l owner found)

    owners_are : AreOwners g v.code l found owner
    owners_are = by_text (λ g. AreOwners g v.code l found owner) received.owners

    -- ---- the weights

    pub stored_is : (costs : Costs) → costs ≡ p.power.costs → (ws : List ℕ) → AreStoredWeights costs p.graph r.sites ws → by_edge ws ≡ stored
    stored_is costs same ws h = h p.view r.view p.tree owner found received.scanned ∙ ap (λ k. stored_site_weights t v.code (cycles_of k) (sites_of p.view r.view v.code l owner found)) same

    pub stored_calls : AreWeights g stored
    stored_calls = stored_are_weights p.view r.view v.code l owner found received.scanned.code.reached received.scanned.scanned (costs_of p.power)

    pub calls_of : (ws : List ℕ) → by_edge ws ≡ stored → AreWeights (graph v) (by_edge ws)
    calls_of ws same = subst (λ w. AreWeights (graph v) w) (sym same) (by_lists (λ g. AreWeights g stored) stored_calls)

    pub added_is : (costs : Costs) → costs ≡ p.power.costs → (ws : List ℕ) → AreExtraWeights costs p.graph r.sites ws → by_edge ws ≡ added
    added_is costs same ws h = h p.view r.view p.tree owner found received.scanned ∙ ap (λ k. extra_site_weights t v.code (cycles_of k) (sites_of p.view r.view v.code l owner found)) same

    added_calls : AreWeights g added
    added_calls = extra_are_weights p.view r.view v.code l owner found received.scanned.code.reached received.scanned.scanned (costs_of p.power)

    pub added_calls_of : (ws : List ℕ) → by_edge ws ≡ added → AreWeights (graph v) (by_edge ws)
    added_calls_of ws same = subst (λ w. AreWeights (graph v) w) (sym same) (by_lists (λ g. AreWeights g added) added_calls)

    -- ---- the worst cycles

    numbers_with : (n : Numbers) (ws : List ℕ) → by_edge ws ≡ stored → AreNumbers (graph v) l (by_edge ws) n → AreNumbers g l stored n
    numbers_with n ws same h = by_text (λ g. AreNumbers g l stored n) (subst (λ w. AreNumbers (graph v) l w n) same h)

    counted_by : (n : Numbers) (ws : List ℕ) → by_edge ws ≡ stored → AreNumbers (graph v) l (by_edge ws) n → IsCounted p.power p.view r.view p.graph p.tree found owner n
    counted_by n ws same h = record { scanned = received.scanned.scanned; owners = owners_are; numbers = numbers_with n ws same h }

    pub over_long : (ws : List ℕ) (refusal : Refusal) → by_edge ws ≡ stored → IsWorstFound (graph v) l (by_edge ws) (Err refusal) → IsOverLong p.power p.view r.view p.graph p.tree
    over_long ws refusal same h = record { found = found; owner = owner; n = h.1.0; counted = counted_by h.1.0 ws same h.1.1; long = h.1.2 }

    pub short_costs : (ws : List ℕ) (x : WorstView) → by_edge ws ≡ stored → length ws ≡ length v.code.edges → ((e : ℕ) → e < length v.code.edges → slice_index ws e ≤ 4294967295)
        → IsWorstFound (graph v) l (by_edge ws) (Ok x) → HasLeftSizes p.graph x → IsLeftOf p.graph l (by_edge ws) x → (n : Numbers) × AreShortCosts p r (record { weights = ws; worst = x }) found n
    short_costs ws x same size light h sizes left =
        let here = h.numbers.2 0 is.code_is.flow.program.main in (
          h.numbers.0,
          record {
            received = received;
            size = size;
            weights_are = same;
            light = light;
            numbers = h.numbers.1;
            short = subst (λ y. y ≤ 2 ^ 48) (get_or_from_slice_get x.worst 0 (h.numbers.0.worst 0) 0 here) h.small;
            worst = here;
            iterations_size = h.loops_size;
            iterations = h.numbers.3;
            sizes = sizes;
            left = left;
          },
        )

    pub extra_cycles_are : (ws : List ℕ) (x : WorstView) (total : ℕ) → by_edge ws ≡ added → IsWorstFound (graph v) l (by_edge ws) (Ok x) → slice_get x.worst 0 ≡ Some total → AreExtraCycles p r found total
    extra_cycles_are ws x total same h here =
        let n = h.numbers.0 in
        (n, subst (λ w. AreNumbers (graph v) l w n) same h.numbers.1, some_number (sym here ∙ h.numbers.2 0 is.code_is.flow.program.main))

  -- ---- the worst cycles are in range

  module _ (r : Received) (c : CostsWithStubs) (found : Found) (n : Numbers) (h : AreShortCosts p r c found n) where
    counted : IsCounted p.power p.view r.view p.graph p.tree found (owner_by r.owners) n
    counted = counted_by r found h.received n c.weights h.weights_are h.numbers

    pub total_is : (total : ℕ) → slice_get c.worst.worst 0 ≡ Some total → total ≡ n.worst 0
    total_is total here = some_number (sym here ∙ h.worst)

    -- what the stubs add is in range too
    pub never_long : (ws : List ℕ) (refusal : Refusal) → by_edge ws ≡ added r found h.received → IsWorstFound (graph v) l (by_edge ws) (Err refusal) → ⊥
    never_long ws refusal same long =
        let m = long.1.0 in
        let less = subst (λ w. AreNumbers (graph v) l w m) same long.1.1 in
        let more = subst (λ w. AreNumbers (graph v) l w n) h.weights_are h.numbers in
        let le = worst_grows (graph v) l is.code_is.flow.program (added r found h.received) (stored r found h.received) m n less.worst more.worst (λ e lt. omega arith) 0 is.code_is.flow.program.main in
        let over = long.1.2 in
        let short = h.short in
        omega (arith, le, over, short)

    has_level : (start : ℕ) → start ≡ key_level p.power r.view → start < length p.power.levels → HasLevel p.power p.view r.view p.graph p.tree found (owner_by r.owners) n
    has_level start a lt = record { counted = counted; short = h.short; level = subst (λ x. x < length p.power.levels) a lt }

    pub in_time : (start total need have : ℕ) → start ≡ key_level p.power r.view → start < length p.power.levels → slice_get c.worst.worst 0 ≡ Some total → need ≡ time_at p.power start total → have ≡ p.power.deadline → need ≤ have → MeetsDeadline p r n start
    in_time start total need have a lt here e f le = record {
      start_is = a;
      level = lt;
      in_time = (let x = e ∙ ap (time_at p.power start) (total_is total here) in subst (λ y. y ≤ p.power.deadline) x (subst (λ y. need ≤ y) f le));
    }

    pub least_calls : AreWeights (graph v) (number_in_place c.weights)
    least_calls = calls_of r found h.received c.weights h.weights_are

    pub worst_in_range : HasWorstInRange p.graph l (number_in_place c.weights)
    worst_in_range = (n, h.numbers, h.short)

    -- ---- the least cycles

    analyzed_lists : IsAnalyzed (graph v) l (noted_loops p.notes).inside (by_edge c.weights) n
    analyzed_lists = record { program = is.code_is.flow.program; accepted = is.tree_is.tree.accepted; weights = least_calls; numbers = h.numbers }

    module _ (ends : LeastView) (least : Charged) (least_are : AreCharged (graph v) l (number_in_place c.weights) least) (holds : HoldsLeast p.graph l least ends) (small : AreSmallLeast p.graph ends) where
      count : l.loops ≡ length p.tree.headers
      count = length-map p.tree.headers (node_address v)

      weighed : AreWeighed p.graph p.tree (by_edge c.weights) n least c.worst ends
      weighed = record {
        slacks_size = h.sizes.slacks;
        rests_size = h.sizes.rests;
        iterations_size = h.iterations_size ∙ count;
        left = h.left n h.numbers;
        iteration = λ k kl. h.iterations k (let q = count in omega (arith, q, kl));
        after_size = small.after_size;
        after = holds.after;
        slack_small = λ e lt. (let q = slack_in_range (graph v) l (noted_loops p.notes).inside (by_edge c.weights) n analyzed_lists 4294967295 h.light e lt in let s = h.short in omega (arith, q, s));
        rest_small = λ e lt. (let q = rest_in_range (graph v) l (noted_loops p.notes).inside (by_edge c.weights) n analyzed_lists e lt in let s = h.short in omega (arith, q, s));
        turns_small = λ k kl. (let a = count in let q = turns_in_range (graph v) l (noted_loops p.notes).inside (by_edge c.weights) n analyzed_lists k (omega (arith, a, kl)) in let s = h.short in omega (arith, q, s));
        after_small = λ e z lt to. small.after e z (holds.after e lt ∙ ap Some to);
      }

      pub known : AreKnown p.view r.view p.graph p.tree r.sites r.owners c.worst ends found (by_edge c.weights) n least
      known = record { found_is = h.received.scanned; owners_are = h.received.owners; weighed = weighed }

      charged : AreCharged g l (stored r found h.received) least
      charged = by_text (λ g. AreCharged g l (stored r found h.received) least) (subst (λ w. AreCharged (graph v) l w least) h.weights_are least_are)

      pub misled : (start at from : ℕ) → MeetsDeadline p r n start → IsFirstBadLevel p.power r.view (graph v) v.code l (owner_by r.owners) (by_edge c.weights) n least found at from → IsMisled p.power p.view r.view p.graph p.tree at from
      misled start at from t bad = record {
        found = found;
        owner = owner_by r.owners;
        n = n;
        least = least;
        level = has_level start t.start_is t.level;
        in_time = subst (λ i. time_at p.power i (n.worst 0) ≤ p.power.deadline) t.start_is t.in_time;
        least_is = charged;
        bad = by_text (λ g. IsFirstBadLevel p.power r.view g v.code l (owner_by r.owners) (stored r found h.received) n least found at from)
            (subst (λ w. IsFirstBadLevel p.power r.view (graph v) v.code l (owner_by r.owners) w n least found at from) h.weights_are bad);
      }

      pub passed : (checked : Checked) (total cycles : ℕ) → MeetsDeadline p r n checked.start → IsLevelsAnswer p.power r.view p.graph l (owner_by r.owners) (by_edge c.weights) n least found None → slice_get c.worst.worst 0 ≡ Some total → AreExtraCycles p r found cycles
          → checked.worst ≡ total → checked.time ≡ time_at p.power checked.start total → checked.deadline ≡ p.power.deadline → checked.stub_cycles ≡ cycles → IsPassed p.power p.view r.view p.notes p.graph p.tree checked
      passed checked total cycles t levels here more worst time deadline stubs = record {
        found = found;
        owner = owner_by r.owners;
        n = n;
        least = least;
        more = more.0;
        safe = record {
          scanned = h.received.scanned.scanned;
          owners = owners_are r found h.received;
          analyzed = record {
            program = by_text IsProgram is.code_is.flow.program;
            accepted = by_text (λ g. AreAccepted g l (noted_loops p.notes).inside) is.tree_is.tree.accepted;
            weights = stored_calls r found h.received;
            numbers = counted.numbers;
          };
          least_is = charged;
          added = record {
            program = by_text IsProgram is.code_is.flow.program;
            accepted = by_text (λ g. AreAccepted g l (noted_loops p.notes).inside) is.tree_is.tree.accepted;
            weights = added_calls r found h.received;
            numbers = by_text (λ g. AreNumbers g l (added r found h.received) more.0) more.1;
          };
          not_long = h.short;
          start = subst (λ i. i < length p.power.levels) t.start_is t.level;
          in_time = subst (λ i. time_at p.power i (n.worst 0) ≤ p.power.deadline) t.start_is t.in_time;
          levels = by_text (λ g. (e : ℕ) → e < length v.code.edges → AreSafeOn p.power r.view g l (owner_by r.owners) (stored r found h.received) n least found e (slice_get v.code.edges e))
              (subst (λ w. (e : ℕ) → e < length v.code.edges → AreSafeOn p.power r.view (graph v) l (owner_by r.owners) w n least found e (slice_get v.code.edges e)) h.weights_are levels);
        };
        start = t.start_is;
        worst = worst ∙ total_is total here;
        time = time ∙ (ap (λ i. time_at p.power i total) t.start_is ∙ ap (time_at p.power (key_level p.power r.view)) (total_is total here));
        deadline = deadline;
        stub_cycles = stubs ∙ more.2;
      }
