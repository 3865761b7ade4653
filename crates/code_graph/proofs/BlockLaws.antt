-- The stretches between nodes that begin blocks are the blocks of the graph.
use Rattle.std.proofs.Common.{◌≡◌, ℕ, zero, suc, ◌+◌, ◌*◌, ◌-◌, ◌<◌, ◌≤◌, Bool, true, List, length, get_or, Option, Some, refl, sym, ap, ◌∙◌, subst, arith, ◌⊎◌, ⊎_elim}
use Rattle.std.specs.Prelude.{slice_get}
use Rattle.std.proofs.lemmas.Bool.{cases_lt}
use Rattle.std.proofs.lemmas.List.{get_or_past}
use Rattle.std.proofs.lemmas.Option.{slice_get_within, slice_get-get_or, get_or_from_slice_get}
use Rattle.scale_base.specs.declared.ranges.Range.{Range}
use Rattle.cost_theory.specs.Accepted.{IsNode}
use Rattle.cost_theory.proofs.Laws.{some_get}
use Rattle.flow_graph.specs.FlowGraph.{FlowGraph, graph}
use Rattle.flow_graph.specs.Blocks.{IsJoined, IsInBlock, IsBlock, AreBlocks}
use Rattle.code_graph.specs.Assembling.{AreHeads, AreUp, AreStretches, AreBlocksBy, stretch}
use Rattle.flow_graph.proofs.Laws.{Once, ascending_once, less_same_more}
use Rattle.code_graph.proofs.HeadLaws.{AreGraphLists, IsFollowed, followed, unjoined, is_head}

-- ---- ascending numbers that stand at the flags that are up

module _ (n : ℕ) (flags : List Bool) (starts : List ℕ) (up : AreUp n flags starts) where
  start_at : (b : ℕ) → b < length starts → slice_get starts b ≡ Some (get_or starts b 0)
  start_at b lt = slice_get-get_or starts b 0 lt

  pub start_below : (b : ℕ) → b < length starts → get_or starts b 0 < n
  start_below b lt = (up.up b (get_or starts b 0) (start_at b lt)).0

  pub start_up : (b : ℕ) → b < length starts → slice_get flags (get_or starts b 0) ≡ Some true
  start_up b lt = (up.up b (get_or starts b 0) (start_at b lt)).1

  starts_rise : (b c : ℕ) → b < c → c < length starts → get_or starts b 0 < get_or starts c 0
  starts_rise b c bc cl = up.ascending b c (get_or starts b 0) (get_or starts c 0) bc (start_at b (omega arith)) (start_at c cl)

  starts_reach : (b c : ℕ) → b ≤ c → c < length starts → get_or starts b 0 ≤ get_or starts c 0
  starts_reach b c bc cl = ⊎_elim
      (λ (lt : b < c). let r = starts_rise b c lt cl in omega arith)
      (λ (ge : c ≤ b). let e : b ≡ c = omega arith in let same : get_or starts b 0 ≡ get_or starts c 0 = ap (λ i. get_or starts i 0) e in omega arith)
      (cases_lt b c)

  pub end_is : (b : ℕ) → b + 1 < length starts → get_or starts (b + 1) n ≡ get_or starts (b + 1) 0
  end_is b lt = get_or_from_slice_get starts (b + 1) (get_or starts (b + 1) 0) n (start_at (b + 1) lt)

  pub end_last : (b : ℕ) → length starts ≤ b + 1 → get_or starts (b + 1) n ≡ n
  end_last b le = get_or_past starts (b + 1) n le

  pub end_above : (b : ℕ) → b < length starts → (get_or starts b 0 < get_or starts (b + 1) n) × (get_or starts (b + 1) n ≤ n)
  end_above b lt = ⊎_elim
      (λ (more : b + 1 < length starts). let e = end_is b more in let r = starts_rise b (b + 1) (omega arith) more in let l = start_below (b + 1) more in (omega arith, omega arith))
      (λ (last : length starts ≤ b + 1). let e = end_last b last in let l = start_below b lt in (omega arith, omega arith))
      (cases_lt (b + 1) (length starts))

  -- the end of one is at most the start of a later one
  pub end_before : (b c : ℕ) → b < c → c < length starts → get_or starts (b + 1) n ≤ get_or starts c 0
  end_before b c bc cl = let e = end_is b (omega arith) in let r = starts_reach (b + 1) c (omega arith) cl in omega arith

  -- no flag is up between them
  pub between_down : (b j : ℕ) → b < length starts → get_or starts b 0 < j → j < get_or starts (b + 1) n → slice_get flags j ≡ Some true → ⊥
  between_down b j bl low high is =
      let most = (end_above b bl).1 in
      let w = up.whole j (omega arith) is in
      let cl = slice_get_within starts w.0 j w.1 in
      let same : get_or starts w.0 0 ≡ j = get_or_from_slice_get starts w.0 j 0 w.1 in
      ⊎_elim
      (λ (later : b < w.0). let r = end_before b w.0 later cl in let bad : ⊥ = omega arith in bad)
      (λ (sooner : w.0 ≤ b). let r = starts_reach w.0 b sooner bl in let bad : ⊥ = omega arith in bad)
      (cases_lt b w.0)

  -- each number is in one, if the first flag is up
  pub in_some : (k : ℕ) → k < n → slice_get flags 0 ≡ Some true → (b : ℕ) × (b < length starts) × (get_or starts b 0 ≤ k) × (k < get_or starts (b + 1) n)
  in_some zero kn is = begun 0 kn is
    where
      begun : (k : ℕ) → k < n → slice_get flags k ≡ Some true → (b : ℕ) × (b < length starts) × (get_or starts b 0 ≤ k) × (k < get_or starts (b + 1) n)
      begun k kn is =
          let w = up.whole k kn is in
          let cl = slice_get_within starts w.0 k w.1 in
          let same : get_or starts w.0 0 ≡ k = get_or_from_slice_get starts w.0 k 0 w.1 in
          let above = (end_above w.0 cl).0 in
          (w.0, cl, omega arith, omega arith)
  in_some (suc k) kn is = ⊎_elim
      (λ (here : slice_get flags (suc k) ≡ Some true).
      let w = up.whole (suc k) kn here in
      let cl = slice_get_within starts w.0 (suc k) w.1 in
      let same : get_or starts w.0 0 ≡ suc k = get_or_from_slice_get starts w.0 (suc k) 0 w.1 in
      let above = (end_above w.0 cl).0 in
      (w.0, cl, omega arith, omega arith))
      (λ (down : slice_get flags (suc k) ≡ Some true → ⊥).
      let w = in_some k (omega arith) is in
      let low : get_or starts w.0 0 ≤ k = w.2 in
      let high : k < get_or starts (w.0 + 1) n = w.3 in
      (w.0, w.1, omega arith, further w.0 high down))
      (is_head flags (suc k))
    where
      further : (b : ℕ) → k < get_or starts (b + 1) n → (slice_get flags (suc k) ≡ Some true → ⊥) → suc k < get_or starts (b + 1) n
      further b high down = ⊎_elim
          (λ (more : suc k < get_or starts (b + 1) n). more)
          (λ (le : get_or starts (b + 1) n ≤ suc k). ⊎_elim
          (λ (next : b + 1 < length starts).
          let e = end_is b next in
          let same : get_or starts (b + 1) 0 ≡ suc k = omega arith in
          absurd (down (subst (λ i. slice_get flags i ≡ Some true) same (start_up (b + 1) next))))
          (λ (last : length starts ≤ b + 1). let e = end_last b last in let bad : ⊥ = omega arith in absurd bad)
          (cases_lt (b + 1) (length starts)))
          (cases_lt (suc k) (get_or starts (b + 1) n))

-- ---- blocks

module _ (v : FlowGraph) (firsts sources : List ℕ) (targets : List (Option ℕ)) (are : AreGraphLists v firsts sources targets) (heads : List Bool) (starts : List ℕ)
    (heads_are : AreHeads (length v.code.edges) v.code.nodes v.code.owners v.code.functions v.code.edges firsts sources targets heads) (up : AreUp (length v.code.nodes) heads starts) where
  once : Once v.code.nodes
  once = ascending_once v.code.nodes are.flow.ascending

  node_at : (k : ℕ) → k < length v.code.nodes → slice_get v.code.nodes k ≡ Some (get_or v.code.nodes k 0)
  node_at k lt = slice_get-get_or v.code.nodes k 0 lt

  -- the first node begins a block
  first_head : 0 < length v.code.nodes → slice_get heads 0 ≡ Some true
  first_head lt = ⊎_elim (λ (is : slice_get heads 0 ≡ Some true). is)
      (λ (down : slice_get heads 0 ≡ Some true → ⊥).
      let f = followed v firsts sources targets are heads heads_are 0 (get_or v.code.nodes 0 0) (node_at 0 lt) down in
      let before = f.before in
      let bad : ⊥ = omega arith in absurd bad)
      (is_head heads 0)

  module _ (b : ℕ) (bl : b < length starts) where
    -- the node behind one that isn't the last is joined to it
    behind : (k : ℕ) → get_or starts b 0 ≤ k → k + 1 < get_or starts (b + 1) (length v.code.nodes) → IsFollowed v (k + 1) (get_or v.code.nodes (k + 1) 0)
    behind k low high =
        let most = (end_above (length v.code.nodes) heads starts up b bl).1 in
        followed v firsts sources targets are heads heads_are (k + 1) (get_or v.code.nodes (k + 1) 0) (node_at (k + 1) (omega arith))
        (between_down (length v.code.nodes) heads starts up b (k + 1) bl (omega arith) high)

    follows : (k : ℕ) (f : IsFollowed v (k + 1) (get_or v.code.nodes (k + 1) 0)) → f.a ≡ get_or v.code.nodes k 0
    follows k f = let e : f.i ≡ k = (let s = f.before in omega arith) in sym (get_or_from_slice_get v.code.nodes k f.a 0 (ap (slice_get v.code.nodes) (sym e) ∙ f.at))

    -- the nodes of a stretch
    run : (d : ℕ) → get_or starts b 0 + d < get_or starts (b + 1) (length v.code.nodes) →
        (get_or v.code.nodes (get_or starts b 0 + d) 0 ≡ get_or v.code.nodes (get_or starts b 0) 0 + 4 * d) ×
        ((graph v).owner (get_or v.code.nodes (get_or starts b 0 + d) 0) ≡ (graph v).owner (get_or v.code.nodes (get_or starts b 0) 0))
    run zero lt =
        let e : get_or starts b 0 + 0 ≡ get_or starts b 0 = omega arith in
        let same : get_or v.code.nodes (get_or starts b 0 + 0) 0 ≡ get_or v.code.nodes (get_or starts b 0) 0 = ap (λ k. get_or v.code.nodes k 0) e in
        (omega arith, ap (graph v).owner same)
    run (suc d) lt =
        let more = run d (omega arith) in
        let e : get_or starts b 0 + suc d ≡ get_or starts b 0 + d + 1 = omega arith in
        let f = behind (get_or starts b 0 + d) (omega arith) (omega arith) in
        let same : f.a ≡ get_or v.code.nodes (get_or starts b 0 + d) 0 = follows (get_or starts b 0 + d) f in
        let next : get_or v.code.nodes (get_or starts b 0 + d + 1) 0 ≡ f.a + 4 = f.behind in
        let step : get_or v.code.nodes (get_or starts b 0 + suc d) 0 ≡ get_or v.code.nodes (get_or starts b 0 + d + 1) 0 = ap (λ k. get_or v.code.nodes k 0) e in
        let old : get_or v.code.nodes (get_or starts b 0 + d) 0 ≡ get_or v.code.nodes (get_or starts b 0) 0 + 4 * d = more.0 in
        (omega arith, ap (graph v).owner step ∙ f.owner ∙ ap (graph v).owner same ∙ more.1)

    -- a node of a stretch, by how far it is from the first
    place : (k : ℕ) → get_or starts b 0 ≤ k → k < get_or starts (b + 1) (length v.code.nodes) →
        (get_or v.code.nodes k 0 ≡ get_or v.code.nodes (get_or starts b 0) 0 + 4 * (k - get_or starts b 0)) ×
        ((graph v).owner (get_or v.code.nodes k 0) ≡ (graph v).owner (get_or v.code.nodes (get_or starts b 0) 0))
    place k low high =
        let e : get_or starts b 0 + (k - get_or starts b 0) ≡ k = omega arith in
        subst (λ i. (get_or v.code.nodes i 0 ≡ get_or v.code.nodes (get_or starts b 0) 0 + 4 * (k - get_or starts b 0)) ×
        ((graph v).owner (get_or v.code.nodes i 0) ≡ (graph v).owner (get_or v.code.nodes (get_or starts b 0) 0))) e (run (k - get_or starts b 0) (omega arith))

    size : (stretch v.code.nodes starts b).to ≡ (stretch v.code.nodes starts b).from + 4 * (get_or starts (b + 1) (length v.code.nodes) - get_or starts b 0)
    size =
        let above = (end_above (length v.code.nodes) heads starts up b bl).0 in
        let last = (place (get_or starts (b + 1) (length v.code.nodes) - 1) (omega arith) (omega arith)).0 in
        omega arith

    -- an address of the stretch is a node of it
    pub in_stretch : (a : ℕ) → IsInBlock (stretch v.code.nodes starts b) a → (k : ℕ) × (get_or starts b 0 ≤ k) × (k < get_or starts (b + 1) (length v.code.nodes)) × (slice_get v.code.nodes k ≡ Some a)
    in_stretch a is =
        let above = (end_above (length v.code.nodes) heads starts up b bl).0 in
        let most = (end_above (length v.code.nodes) heads starts up b bl).1 in
        let s = size in
        let at : a ≡ get_or v.code.nodes (get_or starts b 0) 0 + 4 * is.0 = is.1 in
        let below : a < (stretch v.code.nodes starts b).to = is.2 in
        let high : get_or starts b 0 + is.0 < get_or starts (b + 1) (length v.code.nodes) = omega arith in
        let here = (run is.0 high).0 in
        let same : get_or v.code.nodes (get_or starts b 0 + is.0) 0 ≡ a = omega arith in
        (get_or starts b 0 + is.0, omega arith, high, node_at (get_or starts b 0 + is.0) (omega arith) ∙ ap Some same)

    pub stretch_in : (k a : ℕ) → get_or starts b 0 ≤ k → k < get_or starts (b + 1) (length v.code.nodes) → slice_get v.code.nodes k ≡ Some a → IsInBlock (stretch v.code.nodes starts b) a
    stretch_in k a low high at =
        let same : get_or v.code.nodes k 0 ≡ a = get_or_from_slice_get v.code.nodes k a 0 at in
        let here = (place k low high).0 in
        let s = size in
        (k - get_or starts b 0, omega arith, omega arith)

    pub is_block : IsBlock v (stretch v.code.nodes starts b)
    is_block = record {
      count = get_or starts (b + 1) (length v.code.nodes) - get_or starts b 0;
      some = (let above = (end_above (length v.code.nodes) heads starts up b bl).0 in omega arith);
      size = size;
      nodes = λ a is. (let k = in_stretch a is in (are.flow.nodes a).0 (k.0, k.3));
      function = λ a is. (let k = in_stretch a is in ap (graph v).owner (sym (get_or_from_slice_get v.code.nodes k.0 a 0 k.3)) ∙ (place k.0 k.1 k.2).1);
      joined = λ a is below. joins a (in_stretch a is) below;
      entry = λ f lt is. enters f lt (in_stretch ((graph v).entry f) is);
    }
      where
        joins : (a : ℕ) → (k : ℕ) × (get_or starts b 0 ≤ k) × (k < get_or starts (b + 1) (length v.code.nodes)) × (slice_get v.code.nodes k ≡ Some a) → a + 4 < (stretch v.code.nodes starts b).to → IsJoined v a
        joins a (k, low, high, at) below =
            let same : get_or v.code.nodes k 0 ≡ a = get_or_from_slice_get v.code.nodes k a 0 at in
            let here = (place k low high).0 in
            let s = size in
            let f = behind k low (omega arith) in
            subst (IsJoined v) (follows k f ∙ same) f.joined

        enters : (f : ℕ) → f < (graph v).functions → (k : ℕ) × (get_or starts b 0 ≤ k) × (k < get_or starts (b + 1) (length v.code.nodes)) × (slice_get v.code.nodes k ≡ Some ((graph v).entry f)) →
            (graph v).entry f ≡ (stretch v.code.nodes starts b).from
        enters f lt (k, low, high, at) =
            let most = (end_above (length v.code.nodes) heads starts up b bl).1 in
            let same : get_or v.code.nodes k 0 ≡ (graph v).entry f = get_or_from_slice_get v.code.nodes k ((graph v).entry f) 0 at in
            ⊎_elim
            (λ (more : get_or starts b 0 < k).
            let g = followed v firsts sources targets are heads heads_are k ((graph v).entry f) at (between_down (length v.code.nodes) heads starts up b k bl more high) in
            absurd (g.no_entry f lt refl))
            (λ (le : k ≤ get_or starts b 0). let e : k ≡ get_or starts b 0 = omega arith in sym same ∙ ap (λ i. get_or v.code.nodes i 0) e)
            (cases_lt (get_or starts b 0) k)

  -- stretches lie apart
  apart : (b c : ℕ) → b < c → c < length starts → (stretch v.code.nodes starts b).to ≤ (stretch v.code.nodes starts c).from
  apart b c bc cl =
      let above = (end_above (length v.code.nodes) heads starts up b (omega arith)).0 in
      let before = end_before (length v.code.nodes) heads starts up b c bc cl in
      let below = start_below (length v.code.nodes) heads starts up c cl in
      are.spaced (get_or starts (b + 1) (length v.code.nodes) - 1) (get_or starts c 0) (get_or v.code.nodes (get_or starts (b + 1) (length v.code.nodes) - 1) 0) (get_or v.code.nodes (get_or starts c 0) 0)
      (omega arith) (node_at (get_or starts (b + 1) (length v.code.nodes) - 1) (omega arith)) (node_at (get_or starts c 0) below)

  -- a stretch begins with a node that begins a block
  unmerged : (b c : ℕ) → b < length starts → c < length starts → (stretch v.code.nodes starts b).to ≡ (stretch v.code.nodes starts c).from →
      IsBlock v (record { from = (stretch v.code.nodes starts b).from; to = (stretch v.code.nodes starts c).to }) → ⊥
  unmerged b c bl cl meet both =
      let one = is_block b bl in
      let other = is_block c cl in
      let above = (end_above (length v.code.nodes) heads starts up b bl).0 in
      let most = (end_above (length v.code.nodes) heads starts up b bl).1 in
      let one_size : (stretch v.code.nodes starts b).to ≡ (stretch v.code.nodes starts b).from + 4 * one.count = one.size in
      let one_some : 0 < one.count = one.some in
      let other_size : (stretch v.code.nodes starts c).to ≡ (stretch v.code.nodes starts c).from + 4 * other.count = other.size in
      let other_some : 0 < other.count = other.some in
      let last : IsInBlock (stretch v.code.nodes starts b) (get_or v.code.nodes (get_or starts (b + 1) (length v.code.nodes) - 1) 0) =
      stretch_in b bl (get_or starts (b + 1) (length v.code.nodes) - 1) (get_or v.code.nodes (get_or starts (b + 1) (length v.code.nodes) - 1) 0) (omega arith) (omega arith) (node_at (get_or starts (b + 1) (length v.code.nodes) - 1) (omega arith)) in
      let at : get_or v.code.nodes (get_or starts (b + 1) (length v.code.nodes) - 1) 0 ≡ (stretch v.code.nodes starts b).from + 4 * last.0 = last.1 in
      let end : (stretch v.code.nodes starts b).to ≡ get_or v.code.nodes (get_or starts (b + 1) (length v.code.nodes) - 1) 0 + 4 = refl in
      unjoined v firsts sources targets are heads heads_are (get_or starts c 0) (get_or v.code.nodes (get_or starts c 0) 0) (get_or v.code.nodes (get_or starts (b + 1) (length v.code.nodes) - 1) 0)
      (node_at (get_or starts c 0) (start_below (length v.code.nodes) heads starts up c cl)) (omega arith)
      (both.joined (get_or v.code.nodes (get_or starts (b + 1) (length v.code.nodes) - 1) 0) (last.0, at, omega arith) (omega arith))
      (λ f lt is. let inside = both.entry f lt (one.count, (let m = meet in omega arith), (let m = meet in omega arith)) in let bad : ⊥ = omega arith in bad)
      (start_up (length v.code.nodes) heads starts up c cl)

  module _ (blocks : List Range) (blocks_are : AreStretches (length starts) v.code.nodes starts blocks) where
    within : (b : ℕ) (block : Range) → slice_get blocks b ≡ Some block → b < length starts
    within b block at = let lt = slice_get_within blocks b block at in let s = blocks_are.size in omega arith

    is_apart : (b c : ℕ) (one other : Range) → b < c → slice_get blocks b ≡ Some one → slice_get blocks c ≡ Some other → one.to ≤ other.from
    is_apart b c one other bc at_b at_c =
        subst (λ (x : Range). x.to ≤ other.from) (sym (blocks_are.each b one at_b)) (subst (λ (x : Range). (stretch v.code.nodes starts b).to ≤ x.from) (sym (blocks_are.each c other at_c)) (apart b c bc (within c other at_c)))

    holds : (a : ℕ) → IsNode (graph v) a → (b : ℕ) × (block : Range) × (slice_get blocks b ≡ Some block) × IsInBlock block a
    holds a node =
        let k = (are.flow.nodes a).1 node in
        let kl = slice_get_within v.code.nodes k.0 a k.1 in
        let w = in_some (length v.code.nodes) heads starts up k.0 kl (first_head (omega arith)) in
        let block = some_get blocks w.0 (let lt = w.1 in let s = blocks_are.size in omega arith) in
        (w.0, block.0, block.1, subst (λ (x : Range). IsInBlock x a) (sym (blocks_are.each w.0 block.0 block.1)) (stretch_in w.0 w.1 k.0 a w.2 w.3 k.1))

    one_only : (a b c : ℕ) (one other : Range) → slice_get blocks b ≡ Some one → slice_get blocks c ≡ Some other → IsInBlock one a → IsInBlock other a → b ≡ c
    one_only a b c one other at_b at_c in_b in_c =
        let from_b : a ≡ one.from + 4 * in_b.0 = in_b.1 in
        let from_c : a ≡ other.from + 4 * in_c.0 = in_c.1 in
        let to_b : a < one.to = in_b.2 in
        let to_c : a < other.to = in_c.2 in
        ⊎_elim
        (λ (lt : b < c). let r : one.to ≤ other.from = is_apart b c one other lt at_b at_c in let bad : ⊥ = omega arith in absurd bad)
        (λ (r : (b ≡ c) ⊎ (c < b)). ⊎_elim (λ (e : b ≡ c). e)
        (λ (gt : c < b). let q : other.to ≤ one.from = is_apart c b other one gt at_c at_b in let bad : ⊥ = omega arith in absurd bad) r)
        (less_same_more b c)

    pub are_blocks : AreBlocks v blocks
    are_blocks = record {
      each = λ b block at. subst (IsBlock v) (sym (blocks_are.each b block at)) (is_block b (within b block at));
      ascending = is_apart;
      whole = holds;
      once = one_only;
      largest = λ b c one other at_b at_c meet both.
          (let is_b : one ≡ stretch v.code.nodes starts b = blocks_are.each b one at_b in
          let is_c : other ≡ stretch v.code.nodes starts c = blocks_are.each c other at_c in
          unmerged b c (within b one at_b) (within c other at_c) (ap (λ (x : Range). x.to) (sym is_b) ∙ meet ∙ ap (λ (x : Range). x.from) is_c)
          (subst (λ (x : Range). IsBlock v (record { from = (stretch v.code.nodes starts b).from; to = x.to })) is_c (subst (λ (x : Range). IsBlock v (record { from = x.from; to = other.to })) is_b both)));
    }

-- the blocks of a graph, and how many they are
pub blocks_by : (v : FlowGraph) (firsts sources : List ℕ) (targets : List (Option ℕ)) (blocks : List Range) → AreGraphLists v firsts sources targets →
    AreBlocksBy v.code.nodes v.code.owners v.code.functions v.code.edges firsts sources targets blocks → AreBlocks v blocks × (length blocks ≤ length v.code.nodes)
blocks_by v firsts sources targets blocks are by =
    (are_blocks v firsts sources targets are by.heads by.starts by.heads_are by.starts_are blocks by.blocks_are, let size = by.blocks_are.size in let few = by.starts_are.few in omega arith)
