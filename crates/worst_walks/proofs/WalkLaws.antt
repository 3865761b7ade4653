-- Numbers of a walk that fit together are those of a walk, and tables of them its totals.
use Rattle.std.proofs.Common.{◌≡◌, ℕ, ◌+◌, ◌*◌, ◌<◌, Bool, true, false, not, ◌&&◌, ◌↔◌, nat_eq, List, length, slice_get, slice_index, Vec, Option, Some, None, is_some, refl, sym, ap, ap₂, ◌∙◌, subst, arith, eqb-true, eq-eqb}
use Rattle.std.proofs.lemmas.Option.{slice_get-get_or, get_or_from_slice_get}
use Rattle.cost_theory.specs.Graph.{total, sum_below, only, enters, is_back, IsPlainPath, IsClosing}
use Rattle.cost_theory.specs.Worst.{at_some}
use Rattle.cost_theory.specs.Lists.{body_of}
use Rattle.cost_theory.proofs.Laws.{sum-same, sum-one, accepted_entered, headers-distinct, entry_header}
use Rattle.graph_algorithms.specs.Arcs.{number_in_place}
use Rattle.flow_graph.specs.FlowGraph.{FlowGraph, graph, IsFlowGraph}
use Rattle.loop_forest.specs.Tree.{LoopView, loops, IsLoopTree, IsInnermost}
use Rattle.walk_laws.specs.Walks.{AreCounts, is_number, taken_total}
use Rattle.walk_laws.proofs.Laws.{counts_are, called_sum, taken-add}
use Rattle.worst_walks.specs.Tallies.{IsTally, outside_of, key_at, taken_sum, lists_sum}
use Rattle.worst_walks.specs.Fitted.{AreTaken, AreOnes, AreCalled, AreEntered, IsWalked}
use Rattle.std.specs.declared.alloc.Global.{Global}
use Rattle.worst_cycles.specs.Worst.{by_edge}
use Rattle.worst_walks.specs.declared.own.OwnCycles.{OwnCycles}
use Rattle.worst_walks.specs.Owned.{AreTurns, AreWhole}
use Rattle.worst_walks.specs.declared.counts.WalkCounts.{WalkCounts}
use Rattle.worst_walks.specs.Explained.{AreTotals, IsWorstWalk, calls_of, begins_in, entries_of, turns_of, loop_cycles, function_cycles}
use Rattle.worst_walks.proofs.Passes.{taken_none, gone_sum}
use Rattle.worst_walks.proofs.EnterLaws.{loop_count, loop_within, loop_below}

-- a tally, where what each cost is counted as is known
pub tally_as : (n count : ℕ) (keys : List (Option ℕ)) (times costs table : List ℕ) (c : ℕ → ℕ → ℕ) → IsTally count keys times costs table → length keys ≡ n →
    ((k e : ℕ) → k < count → e < n → only (is_number k (key_at keys e)) (number_in_place costs e) ≡ c k e) →
    (k : ℕ) → k < count → number_in_place table k ≡ sum_below n (λ e. number_in_place times e * c k e)
tally_as n count keys times costs table c is size same k kl =
    is.each k kl ∙ ap (λ m. sum_below m (λ e. number_in_place times e * only (is_number k (key_at keys e)) (number_in_place costs e))) size ∙
    sum-same n (λ e. number_in_place times e * only (is_number k (key_at keys e)) (number_in_place costs e)) (λ e. number_in_place times e * c k e)
    (λ e el. ap (λ y. number_in_place times e * y) (same k e kl el))

-- two tests that hold together are one
pub same_test : (a b : Bool) → (a ≡ true → b ≡ true) → (b ≡ true → a ≡ true) → a ≡ b
same_test true true f g = refl
same_test true false f g = sym (f refl)
same_test false true f g = g refl
same_test false false f g = refl

pub number_is : (k : ℕ) (o : Option ℕ) → is_number k o ≡ true → o ≡ Some k
number_is k None h = let bad : ⊥ = cc in absurd bad
number_is k (Some j) h = ap Some (eqb-true j k h)

pub is_same_number : (k : ℕ) (o : Option ℕ) → o ≡ Some k → is_number k o ≡ true
is_same_number k o e = subst (λ p. is_number k p ≡ true) (sym e) (eq-eqb k k refl)

pub called_fit : (v : FlowGraph) (keys : List (Option ℕ)) (taken ones table begun calls : List ℕ) → AreOnes (length v.code.edges) ones → length keys ≡ length v.code.edges →
    ((e : ℕ) → e < length v.code.edges → key_at keys e ≡ (graph v).callee e) → IsTally (length v.code.functions) keys taken ones table →
    ((f : ℕ) → f < length v.code.functions → number_in_place begun f ≡ only (nat_eq f 0) 1) →
    ((f : ℕ) → f < length v.code.functions → number_in_place calls f ≡ number_in_place table f + number_in_place begun f) → AreCalled v taken calls
called_fit v keys taken ones table begun calls one size called is first sums f fl =
    sums f fl ∙ ap₂ (λ x y. x + y)
    (tally_as (length v.code.edges) (length v.code.functions) keys taken ones table (λ k e. only (is_number k ((graph v).callee e)) 1) is size
    (λ k e kl el. ap₂ (λ o x. only (is_number k o) x) (called e el) (one.each e el)) f fl) (first f fl)

module _ (v : FlowGraph) (t : LoopView) (extent : ℕ → ℕ → Bool) (flow : IsFlowGraph v) (is : IsLoopTree v extent t) where
  begun_same : (f k : ℕ) → f < length v.code.functions → k < (loops v t).loops → (o : Option ℕ) → IsInnermost (loops v t) ((graph v).entry f) o → is_number k o ≡ (loops v t).inside k ((graph v).entry f)
  begun_same f k fl kl None inner = same_test false ((loops v t).inside k ((graph v).entry f)) (λ h. let bad : ⊥ = cc in absurd bad) (λ h. absurd (inner k kl h))
  begun_same f k fl kl (Some j) inner = same_test (nat_eq j k) ((loops v t).inside k ((graph v).entry f))
      (λ h. subst (λ i. (loops v t).inside i ((graph v).entry f) ≡ true) (eqb-true j k h) inner.1)
      (λ h. eq-eqb j k (headers-distinct (graph v) (loops v t) extent flow.program (accepted_entered is.accepted) j k inner.0 kl
      (sym (entry_header (graph v) (loops v t) extent flow.program (accepted_entered is.accepted) f j fl inner.0 inner.1) ∙
      entry_header (graph v) (loops v t) extent flow.program (accepted_entered is.accepted) f k fl kl h)))

  pub entered_fit : (entered begun : List (Option ℕ)) (taken ones function_ones over by_call calls entries : List ℕ) →
      AreOnes (length v.code.edges) ones → AreOnes (length v.code.functions) function_ones → length entered ≡ length v.code.edges → length begun ≡ length v.code.functions →
      ((e : ℕ) → e < length v.code.edges → (k : ℕ) → (key_at entered e ≡ Some k) ↔ ((k < length t.headers) × (enters (loops v t) k ((graph v).source e) ((graph v).target e) ≡ true))) →
      ((f : ℕ) → f < length v.code.functions → IsInnermost (loops v t) ((graph v).entry f) (key_at begun f)) →
      IsTally (length t.headers) entered taken ones over → IsTally (length t.headers) begun calls function_ones by_call →
      ((k : ℕ) → k < length t.headers → number_in_place entries k ≡ number_in_place over k + number_in_place by_call k) → AreEntered v t taken calls entries
  entered_fit entered begun taken ones function_ones over by_call calls entries one function_one entered_size begun_size enter begin over_is by_call_is sums k kl =
      let low : k < length t.headers = loop_low k kl in
      sums k low ∙ ap₂ (λ x y. x + y)
      (tally_as (length v.code.edges) (length t.headers) entered taken ones over (λ k e. only (enters (loops v t) k ((graph v).source e) ((graph v).target e)) 1) over_is entered_size
      (λ k e kl el. ap₂ only (same_test (is_number k (key_at entered e)) (enters (loops v t) k ((graph v).source e) ((graph v).target e))
      (λ h. ((enter e el k).0 (number_is k (key_at entered e) h)).1) (λ h. is_same_number k (key_at entered e) ((enter e el k).1 (kl, h)))) (one.each e el)) k low)
      (tally_as (length v.code.functions) (length t.headers) begun calls function_ones by_call (λ k f. only ((loops v t).inside k ((graph v).entry f)) 1) by_call_is begun_size
      (λ k f kl fl. ap₂ only (begun_same f k fl (loop_within v t extent is k kl) (key_at begun f) (begin f fl)) (function_one.each f fl)) k low)
    where
      loop_low : (k : ℕ) → k < (loops v t).loops → k < length t.headers
      loop_low k kl = loop_below v t extent is k kl

  -- what goes through the parts
  pub taken_is : (paths turns : List (List ℕ)) (calls entries gone none mid taken : List ℕ) (paths_count turns_count : ℕ) → length taken ≡ length v.code.edges →
      ((f : ℕ) → f < length v.code.functions → IsPlainPath (graph v) (loops v t) (Some ((graph v).entry f)) (body_of paths f)) →
      ((k : ℕ) → k < length t.headers → IsClosing (graph v) (loops v t) k (Some ((loops v t).header k)) (body_of turns k)) →
      ((e : ℕ) → e < length none → number_in_place none e ≡ 0) → length entries ≡ length t.headers →
      ((k : ℕ) → k < length entries → number_in_place gone k ≡ number_in_place entries k * slice_index t.bounds k) →
      paths_count ≡ length v.code.functions → turns_count ≡ length t.headers →
      ((c : ℕ → ℕ) → taken_sum mid c ≡ taken_sum none c + lists_sum paths_count paths calls c) →
      ((c : ℕ → ℕ) → taken_sum taken c ≡ taken_sum mid c + lists_sum turns_count turns gone c) → AreTaken v t paths turns calls entries taken
  taken_is paths turns calls entries gone none mid taken paths_count turns_count size path turn nothing entries_size gone_is paths_size turns_size first second = record {
    size = size;
    parts = record { paths = path; turns = λ k kl. turn k (loop_below v t extent is k kl) };
    sums = λ c.
        let a : taken_sum taken c ≡ taken_sum mid c + lists_sum turns_count turns gone c = second c in
        let b : taken_sum mid c ≡ taken_sum none c + lists_sum paths_count paths calls c = first c in
        let z : taken_sum none c ≡ 0 = taken_none none c nothing in
        let p : lists_sum paths_count paths calls c ≡ sum_below (graph v).functions (λ f. number_in_place calls f * total c (body_of paths f)) = ap (λ n. lists_sum n paths calls c) paths_size in
        let q : lists_sum turns_count turns gone c ≡ sum_below (loops v t).loops (λ k. number_in_place entries k * ((loops v t).bound k * total c (body_of turns k))) =
        ap (λ n. lists_sum n turns gone c) (turns_size ∙ sym (loop_count v t extent is)) ∙
        gone_sum (loops v t).loops (loops v t).bound turns entries gone c (λ k kl. gone_is k (let low : k < length t.headers = loop_below v t extent is k kl in omega arith)) in
        omega arith;
  }

  -- by the law
  pub walked : (paths turns : List (List ℕ)) (calls entries taken : List ℕ) → AreTaken v t paths turns calls entries taken → AreCalled v taken calls → AreEntered v t taken calls entries → IsWalked v t calls entries taken
  walked paths turns calls entries taken parts called entered =
      let found = counts_are (graph v) (loops v t) extent (body_of paths) (body_of turns) (number_in_place taken) (number_in_place calls) (number_in_place entries) flow.program is.accepted parts.parts fit in
      record { size = parts.size; walks = found.0; walked = found.1; totals = found.2; called = called; entered = sums }
    where
      same : (c : ℕ → ℕ) → taken_sum taken c ≡ taken_total (graph v) (number_in_place taken) c
      same c = ap (λ n. sum_below n (λ e. number_in_place taken e * c e)) parts.size

      fit : AreCounts (graph v) (loops v t) (body_of paths) (body_of turns) (number_in_place taken) (number_in_place calls) (number_in_place entries)
      fit = record { taken = λ c. sym (same c) ∙ parts.sums c; called = called; entered = entered }

      sums : (k : ℕ) → k < (loops v t).loops → number_in_place entries k ≡ taken_total (graph v) (number_in_place taken) (entries_of (graph v) (loops v t) k) + begins_in (graph v) (loops v t) k 0
      sums k kl =
          let a : number_in_place entries k ≡ taken_total (graph v) (number_in_place taken) (λ e. only (enters (loops v t) k ((graph v).source e) ((graph v).target e)) 1) +
          sum_below (graph v).functions (λ f. number_in_place calls f * begins_in (graph v) (loops v t) k f) = entered k kl in
          let b : taken_total (graph v) (number_in_place taken) (λ e. at_some ((graph v).callee e) (begins_in (graph v) (loops v t) k)) + begins_in (graph v) (loops v t) k 0 ≡
          sum_below (graph v).functions (λ f. number_in_place calls f * begins_in (graph v) (loops v t) k f) =
          called_sum (graph v) (loops v t) (body_of paths) (body_of turns) (number_in_place taken) (number_in_place calls) (number_in_place entries) flow.program fit (λ e. 0) (λ k. 0) (begins_in (graph v) (loops v t) k) in
          let d : taken_total (graph v) (number_in_place taken) (entries_of (graph v) (loops v t) k) ≡
          taken_total (graph v) (number_in_place taken) (λ e. only (enters (loops v t) k ((graph v).source e) ((graph v).target e)) 1) +
          taken_total (graph v) (number_in_place taken) (λ e. at_some ((graph v).callee e) (begins_in (graph v) (loops v t) k)) =
          taken-add (graph v) (number_in_place taken) (λ e. only (enters (loops v t) k ((graph v).source e) ((graph v).target e)) 1) (λ e. at_some ((graph v).callee e) (begins_in (graph v) (loops v t) k)) in
          omega arith

  -- THE WALK

  totals_of : (n : ℕ) (calls entries taken table : List ℕ) (c : ℕ → ℕ → ℕ) (w : IsWalked v t calls entries taken) → length table ≡ n →
      ((k : ℕ) → k < n → number_in_place table k ≡ sum_below (length v.code.edges) (λ e. number_in_place taken e * c k e)) → AreTotals n c (w.walks.whole 0) table
  totals_of n calls entries taken table c w size each = record { size = size; each = λ k kl. each k kl ∙ sym (w.totals (c k)) }

  -- an edge is taken as often as it stands in the walk
  edge_sum : (taken : List ℕ) (e : ℕ) → e < length v.code.edges → number_in_place taken e ≡ sum_below (length v.code.edges) (λ d. number_in_place taken d * only (nat_eq d e) 1)
  edge_sum taken e lt =
      sym (sum-one (length v.code.edges) (λ d. number_in_place taken d * only (nat_eq d e) 1) e lt (λ d dl ne. other d (nat_eq d e) ne refl) ∙
      ap (λ b. number_in_place taken e * only b 1) (eq-eqb e e refl) ∙ (let one : number_in_place taken e * 1 ≡ number_in_place taken e = omega arith in one))
    where
      other : (d : ℕ) (b : Bool) → (d ≡ e → ⊥) → nat_eq d e ≡ b → number_in_place taken d * only b 1 ≡ 0
      other d false ne eq = omega arith
      other d true ne eq = absurd (ne (eqb-true d e eq))

  back_same : (e k : ℕ) → e < length v.code.edges → k < length t.headers → is_number k (key_at t.backs e) ≡ is_back (graph v) (loops v t) k e
  back_same e k el kl = same_test (is_number k (key_at t.backs e)) (is_back (graph v) (loops v t) k e)
      (λ h. ((is.backs e k).0 (here ∙ ap Some (number_is k (key_at t.backs e) h))).2)
      (λ h. is_same_number k (key_at t.backs e) (get_or_from_slice_get t.backs e (Some k) None ((is.backs e k).1 (el, kl, h))))
    where
      here : slice_get t.backs e ≡ Some (key_at t.backs e)
      here = slice_get-get_or t.backs e None (let size = is.backs_size in omega arith)

  outside_same : (f o : ℕ) (inner : Option ℕ) → is_number f (outside_of o inner) ≡ (nat_eq o f && not (is_some inner))
  outside_same f o None = both (nat_eq o f)
    where
      both : (b : Bool) → b ≡ (b && true)
      both true = refl
      both false = refl
  outside_same f o (Some k) = none (nat_eq o f)
    where
      none : (b : Bool) → false ≡ (b && false)
      none true = refl
      none false = refl

  pub worst_walk_is : (x : WalkCounts) (inner outside : List (Option ℕ)) (ones wide : List ℕ) (w : ℕ → ℕ) (worst : ℕ) → IsWalked v t x.calls.items x.entries.items x.taken.items →
      AreOnes (length v.code.edges) ones → length wide ≡ length v.code.edges → ((e : ℕ) → e < length v.code.edges → number_in_place wide e ≡ w e) →
      length inner ≡ length v.code.edges → ((e : ℕ) → e < length v.code.edges → IsInnermost (loops v t) ((graph v).source e) (key_at inner e)) →
      length outside ≡ length v.code.edges → ((e : ℕ) → e < length v.code.edges → key_at outside e ≡ outside_of ((graph v).owner ((graph v).source e)) (key_at inner e)) →
      IsTally (length t.headers) t.backs x.taken.items ones x.turns.items → IsTally (length t.headers) inner x.taken.items wide x.loop_own.items →
      IsTally (length v.code.functions) outside x.taken.items wide x.function_own.items →
      worst ≡ sum_below (length wide) (λ e. number_in_place x.taken.items e * number_in_place wide e) →
      sum_below (length x.function_own.items) (number_in_place x.function_own.items) + sum_below (length x.loop_own.items) (number_in_place x.loop_own.items) ≡ worst →
      IsWorstWalk (graph v) (loops v t) w worst x
  worst_walk_is x inner outside ones wide w worst walk one wide_size wide_is inner_size inner_is outside_size outside_is turns loop_own function_own cycles sums =
      record {
        walks = walk.walks;
        walked = walk.walked;
        takes = walk.totals w ∙ sym (cycles ∙ ap (λ n. sum_below n (λ e. number_in_place x.taken.items e * number_in_place wide e)) wide_size ∙
            sum-same (length v.code.edges) (λ e. number_in_place x.taken.items e * number_in_place wide e) (λ e. number_in_place x.taken.items e * w e) (λ e el. ap (λ y. number_in_place x.taken.items e * y) (wide_is e el)));
        taken = totals_of (length v.code.edges) x.calls.items x.entries.items x.taken.items x.taken.items (λ e d. only (nat_eq d e) 1) walk walk.size (edge_sum x.taken.items);
        calls = λ f fl. walk.called f fl ∙ ap (λ y. y + only (nat_eq f 0) 1) (sym (walk.totals (calls_of (graph v) f)));
        entries = λ k kl. walk.entered k kl ∙ ap (λ y. y + begins_in (graph v) (loops v t) k 0) (sym (walk.totals (entries_of (graph v) (loops v t) k)));
        turns = totals_of (loops v t).loops x.calls.items x.entries.items x.taken.items x.turns.items (turns_of (graph v) (loops v t)) walk (turns.size ∙ sym count)
            (λ k kl. tally_as (length v.code.edges) (length t.headers) t.backs x.taken.items ones x.turns.items (turns_of (graph v) (loops v t)) turns is.backs_size
            (λ k e kl el. ap₂ only (back_same e k el kl) (one.each e el)) k (low k kl));
        inner = key_at inner;
        innermost = inner_is;
        function_own = totals_of (length v.code.functions) x.calls.items x.entries.items x.taken.items x.function_own.items (function_cycles (graph v) (key_at inner) w) walk function_own.size
            (tally_as (length v.code.edges) (length v.code.functions) outside x.taken.items wide x.function_own.items (function_cycles (graph v) (key_at inner) w) function_own outside_size
            (λ f e fl el. ap₂ only (ap (is_number f) (outside_is e el) ∙ outside_same f ((graph v).owner ((graph v).source e)) (key_at inner e)) (wide_is e el)));
        loop_own = totals_of (loops v t).loops x.calls.items x.entries.items x.taken.items x.loop_own.items (loop_cycles (key_at inner) w) walk (loop_own.size ∙ sym count)
            (λ k kl. tally_as (length v.code.edges) (length t.headers) inner x.taken.items wide x.loop_own.items (loop_cycles (key_at inner) w) loop_own inner_size
            (λ k e kl el. ap (only (is_number k (key_at inner e))) (wide_is e el)) k (low k kl));
        adds_up = ap₂ (λ p q. p + q) (ap (λ n. sum_below n (number_in_place x.function_own.items)) (sym function_own.size))
            (ap (λ n. sum_below n (number_in_place x.loop_own.items)) (count ∙ sym loop_own.size)) ∙ sums;
      }
    where
      count : (loops v t).loops ≡ length t.headers
      count = loop_count v t extent is

      low : (k : ℕ) → k < (loops v t).loops → k < length t.headers
      low k kl = loop_below v t extent is k kl

  pub worst_walk_of : (x : WalkCounts) (own : OwnCycles) (weights : List ℕ) (worst : ℕ) → IsWalked v t x.calls.items x.entries.items x.taken.items → AreTurns v t x.taken.items x.turns.items →
      AreWhole v t weights x.taken.items worst own → x.function_own ≡ own.functions → x.loop_own ≡ own.loops → IsWorstWalk (graph v) (loops v t) (by_edge weights) worst x
  worst_walk_of x own weights worst walk turned whole functions_are loops_are =
      worst_walk_is x whole.own_is.inner whole.own_is.outside turned.ones whole.wide (by_edge weights) worst walk turned.one whole.wide_size whole.wide_is whole.own_is.inner_size whole.own_is.inner_is
      whole.own_is.outside_size whole.own_is.outside_is turned.tally
      (subst (λ (y : Vec ℕ Global). IsTally (length t.headers) whole.own_is.inner x.taken.items whole.wide y.items) (sym loops_are) whole.own_is.loops_are)
      (subst (λ (y : Vec ℕ Global). IsTally (length v.code.functions) whole.own_is.outside x.taken.items whole.wide y.items) (sym functions_are) whole.own_is.functions_are)
      whole.takes
      (ap₂ (λ (a b : Vec ℕ Global). sum_below (length a.items) (number_in_place a.items) + sum_below (length b.items) (number_in_place b.items)) functions_are loops_are ∙ whole.adds_up)
