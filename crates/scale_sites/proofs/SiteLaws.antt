-- Marks by the numbers of nodes are marks by their addresses; and the edges of an instruction.
use Rattle.std.proofs.Common.{◌≡◌, ℕ, zero, suc, ◌+◌, ◌<◌, ◌≤◌, Bool, true, false, not, ◌&&◌, ◌||◌, ◌==◌, nat_eq, List, [], ◌∷◌, ◌++◌, map, length, length-append, get_or, slice_get, slice_index, slice_index_or, option_map, Option, Some, None, Vec, Global, refl, sym, ap, ◌∙◌, arith, ⊎_elim, eqb-true, eq-eqb}
use Rattle.std.proofs.lemmas.Bool.{cases_lt}
use Rattle.std.proofs.lemmas.Bool.Decides.{nat_tests}
use Rattle.std.proofs.lemmas.Option.{slice_get-get_or, get_or_from_slice_get, slice_get-map}
use Rattle.scale_base.specs.declared.stepping.Class.{Class}
use Rattle.power_model.specs.declared.power.Costs.{Costs}
use Rattle.power_model.specs.Price.{cycles_of}
use Rattle.code_text.specs.EdgeCosts.{cost_of}
use Rattle.cost_theory.specs.Graph.{Graph, Loops, leaves, goes_back, any_below}
use Rattle.cost_theory.specs.Lists.{or_true, is_among, body_of}
use Rattle.flow_graph.specs.FlowGraph.{FlowGraph, graph, IsFlowGraph}
use Rattle.loop_forest.specs.Noted.{node_address}
use Rattle.loop_forest.proofs.Laws.{one_number}
use Rattle.loop_forest.specs.Tree.{LoopView, loops, IsLoopTree}
use Rattle.scale_base.specs.declared.fragments.Mark.{Mark}
use Rattle.scale_base.specs.declared.fragments.Mark.TheVariants.{Switch, Exit, Reset, Count}
use Rattle.scale_sites.specs.Marks.{numbered, AreBelow, first_counter, leaves_any, holds_left, is_outermost, mark_if, exits_from, resets_from, counts_from, switch_of, marks_at}
use Rattle.scale_sites.specs.Weights.{some_mark, is_patched, jumps_of}
use Rattle.scale_sites.specs.Counters.{set_from}
use Rattle.scale_sites.specs.Forms.{formed, formed_where, tallied_by}
use Rattle.scale_sites.specs.Sites.{SitesView, is_branch, flag_at, marks_in, marks_at_edge, AreMarksBy, AreJumps, AreSitesBy}

-- ---- numbers and addresses

-- two tests that hold together are the same
same_test : (a b : Bool) → (a ≡ true → b ≡ true) → (b ≡ true → a ≡ true) → a ≡ b
same_test true b f g = sym (f refl)
same_test false true f g = g refl
same_test false false f g = refl

among_map : (f : ℕ → ℕ) (n : ℕ) (xs : List ℕ) → ((i x : ℕ) → slice_get xs i ≡ Some x → f x ≡ f n → x ≡ n) → is_among n xs ≡ is_among (f n) (map f xs)
among_map f n [] one = refl
among_map f n (x ∷ xs) one =
    let here : nat_eq x n ≡ nat_eq (f x) (f n) = same_test (nat_eq x n) (nat_eq (f x) (f n))
    (λ e. eq-eqb (f x) (f n) (ap f (eqb-true x n e))) (λ e. eq-eqb x n (one 0 x refl (eqb-true (f x) (f n) e))) in
    let rest : is_among n xs ≡ is_among (f n) (map f xs) = among_map f n xs (λ i y at. one (suc i) y at) in
    ap (λ b. or_true b (is_among n xs)) here ∙ ap (or_true (nat_eq (f x) (f n))) rest

body_map : (f : ℕ → ℕ) (bodies : List (List ℕ)) (k : ℕ) → body_of (map (λ body. map f body) bodies) k ≡ map f (body_of bodies k)
body_map f [] k = refl
body_map f (b ∷ bs) zero = refl
body_map f (b ∷ bs) (suc k) = body_map f bs k

node_here : (v : FlowGraph) (k : ℕ) → k < length v.code.nodes → slice_get v.code.nodes k ≡ Some (node_address v k)
node_here v k lt = slice_get-get_or v.code.nodes k 0 lt

module _ (v : FlowGraph) (t : LoopView) (extent : ℕ → ℕ → Bool) (flow : IsFlowGraph v) (tree : IsLoopTree v extent t) where
  same_node : (i j : ℕ) → i < length v.code.nodes → j < length v.code.nodes → node_address v i ≡ node_address v j → i ≡ j
  same_node i j il jl same = one_number v flow i j (node_address v j) (node_here v i il ∙ ap Some same) (node_here v j jl)

  inside_same : (k n : ℕ) → k < length t.headers → n < length v.code.nodes → (numbered t).inside k n ≡ (loops v t).inside k (node_address v n)
  inside_same k n kl nl =
      among_map (node_address v) n (body_of t.bodies k) (λ i x at same. same_node x n ((tree.body k kl).within i x at) nl same)
      ∙ ap (is_among (node_address v n)) (sym (body_map (node_address v) t.bodies k))

  header_number : (k : ℕ) → k < length t.headers → slice_index t.headers k < length v.code.nodes
  header_number k kl = tree.header k (slice_index t.headers k) (slice_get-get_or t.headers k 0 kl)

  header_same : (k : ℕ) → k < length t.headers → (loops v t).header k ≡ node_address v (slice_index t.headers k)
  header_same k kl = get_or_from_slice_get (map (node_address v) t.headers) k _ 0 (slice_get-map (node_address v) t.headers k ∙ ap (option_map (node_address v)) (slice_get-get_or t.headers k 0 kl))

  held_same : (k j : ℕ) → k < length t.headers → j < length t.headers → (numbered t).inside k ((numbered t).header j) ≡ (loops v t).inside k ((loops v t).header j)
  held_same k j kl jl = inside_same k (slice_index t.headers j) kl (header_number j jl) ∙ ap ((loops v t).inside k) (sym (header_same j jl))

  module _ (n : ℕ) (o : Option ℕ) (nl : n < length v.code.nodes) (ol : (m : ℕ) → o ≡ Some m → m < length v.code.nodes) (p : Option ℕ) (none : o ≡ None → p ≡ None) (some : (m : ℕ) → o ≡ Some m → p ≡ Some (node_address v m)) where
    leaves_same : (k : ℕ) → k < length t.headers → leaves (numbered t) k n o ≡ leaves (loops v t) k (node_address v n) p
    leaves_same k kl = go o refl
      where
        go : (q : Option ℕ) → o ≡ q → leaves (numbered t) k n o ≡ leaves (loops v t) k (node_address v n) p
        go None is = ap (leaves (numbered t) k n) is ∙ sym (ap (leaves (loops v t) k (node_address v n)) (none is))
        go (Some m) is = ap (leaves (numbered t) k n) is
            ∙ ap (λ b. b && not ((numbered t).inside k m)) (inside_same k n kl nl) ∙ ap (λ b. (loops v t).inside k (node_address v n) && not b) (inside_same k m kl (ol m is))
            ∙ sym (ap (leaves (loops v t) k (node_address v n)) (some m is))

    back_same : (k : ℕ) → k < length t.headers → goes_back (numbered t) k n o ≡ goes_back (loops v t) k (node_address v n) p
    back_same k kl = go o refl
      where
        at_header : (m : ℕ) → m < length v.code.nodes → nat_eq m (slice_index t.headers k) ≡ nat_eq (node_address v m) ((loops v t).header k)
        at_header m ml = same_test (nat_eq m (slice_index t.headers k)) (nat_eq (node_address v m) ((loops v t).header k))
            (λ e. eq-eqb (node_address v m) ((loops v t).header k) (ap (node_address v) (eqb-true m (slice_index t.headers k) e) ∙ sym (header_same k kl)))
            (λ e. eq-eqb m (slice_index t.headers k) (same_node m (slice_index t.headers k) ml (header_number k kl) (eqb-true (node_address v m) ((loops v t).header k) e ∙ header_same k kl)))

        go : (q : Option ℕ) → o ≡ q → goes_back (numbered t) k n o ≡ goes_back (loops v t) k (node_address v n) p
        go None is = ap (goes_back (numbered t) k n) is ∙ ap (λ b. b && false) (inside_same k n kl nl) ∙ sym (ap (goes_back (loops v t) k (node_address v n)) (none is))
        go (Some m) is = ap (goes_back (numbered t) k n) is
            ∙ ap (λ b. b && nat_eq m (slice_index t.headers k)) (inside_same k n kl nl) ∙ ap (λ b. (loops v t).inside k (node_address v n) && b) (at_header m (ol m is))
            ∙ sym (ap (goes_back (loops v t) k (node_address v n)) (some m is))

    any_same : (ks : List ℕ) → AreBelow (length t.headers) ks → leaves_any (numbered t) n o ks ≡ leaves_any (loops v t) (node_address v n) p ks
    any_same [] below = refl
    any_same (k ∷ ks) below = ap (λ b. b || leaves_any (numbered t) n o ks) (leaves_same k below.0) ∙ ap (λ b. leaves (loops v t) k (node_address v n) p || b) (any_same ks below.1)

    holds_same : (k : ℕ) (js : List ℕ) → k < length t.headers → AreBelow (length t.headers) js → holds_left (numbered t) n o k js ≡ holds_left (loops v t) (node_address v n) p k js
    holds_same k [] kl below = refl
    holds_same k (j ∷ js) kl below =
        ap (λ b. (not b || (numbered t).inside k ((numbered t).header j)) && holds_left (numbered t) n o k js) (leaves_same j below.0)
        ∙ ap (λ b. (not (leaves (loops v t) j (node_address v n) p) || b) && holds_left (numbered t) n o k js) (held_same k j kl below.0)
        ∙ ap (λ b. (not (leaves (loops v t) j (node_address v n) p) || (loops v t).inside k ((loops v t).header j)) && b) (holds_same k js kl below.1)

    outermost_same : (k : ℕ) (js : List ℕ) → k < length t.headers → AreBelow (length t.headers) js → is_outermost (numbered t) n o k js ≡ is_outermost (loops v t) (node_address v n) p k js
    outermost_same k js kl below = ap (λ b. b && holds_left (numbered t) n o k js) (leaves_same k kl) ∙ ap (λ b. leaves (loops v t) k (node_address v n) p && b) (holds_same k js kl below)

    exits_same : (counted : List ℕ) (i : ℕ) (ks : List ℕ) → AreBelow (length t.headers) counted → AreBelow (length t.headers) ks → exits_from (numbered t) n o counted i ks ≡ exits_from (loops v t) (node_address v n) p counted i ks
    exits_same counted i [] all below = refl
    exits_same counted i (k ∷ ks) all below =
        ap (λ b. mark_if b (Exit i) ++ exits_from (numbered t) n o counted (i + 1) ks) (outermost_same k counted below.0 all)
        ∙ ap (λ ms. mark_if (is_outermost (loops v t) (node_address v n) p k counted) (Exit i) ++ ms) (exits_same counted (i + 1) ks all below.1)

    resets_same : (counted : List ℕ) (i : ℕ) (ks : List ℕ) → AreBelow (length t.headers) counted → AreBelow (length t.headers) ks → resets_from (numbered t) n o counted i ks ≡ resets_from (loops v t) (node_address v n) p counted i ks
    resets_same counted i [] all below = refl
    resets_same counted i (k ∷ ks) all below =
        ap (λ b. mark_if (b && not (is_outermost (numbered t) n o k counted)) (Reset i) ++ resets_from (numbered t) n o counted (i + 1) ks) (leaves_same k below.0)
        ∙ ap (λ b. mark_if (leaves (loops v t) k (node_address v n) p && not b) (Reset i) ++ resets_from (numbered t) n o counted (i + 1) ks) (outermost_same k counted below.0 all)
        ∙ ap (λ ms. mark_if (leaves (loops v t) k (node_address v n) p && not (is_outermost (loops v t) (node_address v n) p k counted)) (Reset i) ++ ms) (resets_same counted (i + 1) ks all below.1)

    counts_same : (i : ℕ) (ks : List ℕ) → AreBelow (length t.headers) ks → counts_from (numbered t) n o i ks ≡ counts_from (loops v t) (node_address v n) p i ks
    counts_same i [] below = refl
    counts_same i (k ∷ ks) below =
        ap (λ b. mark_if b (Count i) ++ counts_from (numbered t) n o (i + 1) ks) (back_same k below.0)
        ∙ ap (λ ms. mark_if (goes_back (loops v t) k (node_address v n) p) (Count i) ++ ms) (counts_same (i + 1) ks below.1)

    pub marks_same : (counted : List ℕ) (branch : Bool) (slack min_gain : ℕ) → AreBelow (length t.headers) counted → marks_at (numbered t) counted branch slack min_gain n o ≡ marks_at (loops v t) counted branch slack min_gain (node_address v n) p
    marks_same counted branch slack min_gain below =
        let a = any_same counted below in
        let e = exits_same counted first_counter counted below below in
        let r = resets_same counted first_counter counted below below in
        let c = counts_same first_counter counted below in
        cc

-- ---- how many marks

if_one : (b : Bool) (m : Mark) → length (mark_if b m) ≤ 1
if_one true m = omega arith
if_one false m = omega arith

exits_few : (l : Loops) (u : ℕ) (p : Option ℕ) (counted : List ℕ) (i : ℕ) (ks : List ℕ) → length (exits_from l u p counted i ks) ≤ length ks
exits_few l u p counted i [] = omega arith
exits_few l u p counted i (k ∷ ks) =
    let a = if_one (is_outermost l u p k counted) (Exit i) in
    let b = exits_few l u p counted (i + 1) ks in
    let c : length (mark_if (is_outermost l u p k counted) (Exit i) ++ exits_from l u p counted (i + 1) ks) ≡ length (mark_if (is_outermost l u p k counted) (Exit i)) + length (exits_from l u p counted (i + 1) ks) = length-append _ _ in
    omega arith

resets_few : (l : Loops) (u : ℕ) (p : Option ℕ) (counted : List ℕ) (i : ℕ) (ks : List ℕ) → length (resets_from l u p counted i ks) ≤ length ks
resets_few l u p counted i [] = omega arith
resets_few l u p counted i (k ∷ ks) =
    let a = if_one (leaves l k u p && not (is_outermost l u p k counted)) (Reset i) in
    let b = resets_few l u p counted (i + 1) ks in
    let c : length (mark_if (leaves l k u p && not (is_outermost l u p k counted)) (Reset i) ++ resets_from l u p counted (i + 1) ks) ≡ length (mark_if (leaves l k u p && not (is_outermost l u p k counted)) (Reset i)) + length (resets_from l u p counted (i + 1) ks) = length-append _ _ in
    omega arith

counts_few : (l : Loops) (u : ℕ) (p : Option ℕ) (i : ℕ) (ks : List ℕ) → length (counts_from l u p i ks) ≤ length ks
counts_few l u p i [] = omega arith
counts_few l u p i (k ∷ ks) =
    let a = if_one (goes_back l k u p) (Count i) in
    let b = counts_few l u p (i + 1) ks in
    let c : length (mark_if (goes_back l k u p) (Count i) ++ counts_from l u p (i + 1) ks) ≡ length (mark_if (goes_back l k u p) (Count i)) + length (counts_from l u p (i + 1) ks) = length-append _ _ in
    omega arith

pub marks_few : (l : Loops) (counted : List ℕ) (branch : Bool) (slack min_gain u : ℕ) (p : Option ℕ) → length counted ≤ 509 → length (marks_at l counted branch slack min_gain u p) ≤ 1600
marks_few l counted branch slack min_gain u p few =
    let s : length (switch_of l u p counted branch slack min_gain) ≤ 1 = if_one _ Switch in
    let e = exits_few l u p counted first_counter counted in
    let r = resets_few l u p counted first_counter counted in
    let c = counts_few l u p first_counter counted in
    let rc : length (resets_from l u p counted first_counter counted ++ counts_from l u p first_counter counted) ≡ length (resets_from l u p counted first_counter counted) + length (counts_from l u p first_counter counted) = length-append _ _ in
    let erc : length (exits_from l u p counted first_counter counted ++ (resets_from l u p counted first_counter counted ++ counts_from l u p first_counter counted)) ≡ length (exits_from l u p counted first_counter counted) + length (resets_from l u p counted first_counter counted ++ counts_from l u p first_counter counted) = length-append _ _ in
    let serc : length (marks_at l counted branch slack min_gain u p) ≡ length (switch_of l u p counted branch slack min_gain) + length (exits_from l u p counted first_counter counted ++ (resets_from l u p counted first_counter counted ++ counts_from l u p first_counter counted)) = length-append _ _ in
    omega arith

-- ---- edges of one instruction

any_some : (n : ℕ) (test : ℕ → Bool) (k : ℕ) → k < n → test k ≡ true → any_below n test ≡ true
any_some zero test k lt is = let bad : ⊥ = omega arith in absurd bad
any_some (suc n) test k lt is = ⊎_elim
    (λ (low : k < n). first (any_below n test) (test n) (any_some n test k low is))
    (λ (high : n ≤ k). let same : k ≡ n = omega arith in second (any_below n test) (test n) (sym (ap test same) ∙ is))
    (cases_lt k n)
  where
    first : (a b : Bool) → a ≡ true → (a || b) ≡ true
    first true b e = refl
    first false b e = let bad : ⊥ = cc in absurd bad

    second : (a b : Bool) → b ≡ true → (a || b) ≡ true
    second true b e = refl
    second false b e = e

any_none : (n : ℕ) (test : ℕ → Bool) → ((k : ℕ) → k < n → test k ≡ false) → any_below n test ≡ false
any_none zero test none = refl
any_none (suc n) test none =
    ap (λ b. b || test n) (any_none n test (λ k lt. none k (let r : k < suc n = omega arith in r))) ∙ none n (let r : n < suc n = omega arith in r)

both_true : (a b : Bool) → a ≡ true → b ≡ true → (a && b) ≡ true
both_true true b p q = q
both_true false b p q = let bad : ⊥ = cc in absurd bad

pub patched : (g : Graph) (marks : ℕ → List Mark) (u d : ℕ) → d < g.edges → g.source d ≡ u → some_mark (marks d) ≡ true → is_patched g marks u ≡ true
patched g marks u d lt from some = any_some g.edges (λ e. nat_eq (g.source e) u && some_mark (marks e)) d lt (both_true (nat_eq (g.source d) u) (some_mark (marks d)) (eq-eqb (g.source d) u from) some)

pub not_patched : (g : Graph) (marks : ℕ → List Mark) (u : ℕ) → ((d : ℕ) → d < g.edges → g.source d ≡ u → some_mark (marks d) ≡ false) → is_patched g marks u ≡ false
not_patched g marks u none = any_none g.edges (λ e. nat_eq (g.source e) u && some_mark (marks e)) (λ d lt. go d lt (nat_eq (g.source d) u) refl)
  where
    go : (d : ℕ) → d < g.edges → (b : Bool) → nat_eq (g.source d) u ≡ b → (nat_eq (g.source d) u && some_mark (marks d)) ≡ false
    go d lt true is = ap (λ b. b && some_mark (marks d)) is ∙ none d lt (eqb-true (g.source d) u is)
    go d lt false is = ap (λ b. b && some_mark (marks d)) is

-- ---- lists of lists

pub marks_seen : (xs : List (Vec Mark Global)) (e : ℕ) (x : Vec Mark Global) → e < length xs → x ≡ get_or xs e x → slice_index_or (map (λ (m : Vec Mark Global). m.items) xs) e [] ≡ x.items
marks_seen xs e x lt is =
    get_or_from_slice_get (map (λ (m : Vec Mark Global). m.items) xs) e x.items []
    (slice_get-map (λ (m : Vec Mark Global). m.items) xs e ∙ ap (option_map (λ (m : Vec Mark Global). m.items)) (slice_get-get_or xs e x lt ∙ ap Some (sym is)))

push_before : {A : Type 0} (xs : List A) (x : A) (e : ℕ) → e < length xs → slice_get (xs ++ x ∷ []) e ≡ slice_get xs e
push_before [] x e lt = let bad : ⊥ = omega arith in absurd bad
push_before (y ∷ ys) x zero lt = refl
push_before (y ∷ ys) x (suc e) lt = push_before ys x e (omega arith)

push_last : {A : Type 0} (xs : List A) (x : A) → slice_get (xs ++ x ∷ []) (length xs) ≡ Some x
push_last [] x = refl
push_last (y ∷ ys) x = push_last ys x

push_all : {A : Type 0} (P : A → Type 0) (d : A) (xs : List A) (x : A) → P d → P x → ((e : ℕ) → P (slice_index_or xs e d)) → (e : ℕ) → P (slice_index_or (xs ++ x ∷ []) e d)
push_all P d [] x none last all zero = last
push_all P d [] x none last all (suc e) = none
push_all P d (y ∷ ys) x none last all zero = all zero
push_all P d (y ∷ ys) x none last all (suc e) = push_all P d ys x none last (λ i. all (suc i)) e

pub map_push : (xs : List (Vec Mark Global)) (x : Vec Mark Global) → map (λ (m : Vec Mark Global). m.items) (xs ++ x ∷ []) ≡ map (λ (m : Vec Mark Global). m.items) xs ++ x.items ∷ []
map_push [] x = refl
map_push (y ∷ ys) x = ap (λ zs. y.items ∷ zs) (map_push ys x)

pub marks_push : (marked : ℕ → List Mark) (n : ℕ) (marks : List (List Mark)) (ms : List Mark) → AreMarksBy marked n marks → ms ≡ marked n → length ms ≤ 1600 → AreMarksBy marked (n + 1) (marks ++ ms ∷ [])
marks_push marked n marks ms are is few =
    let size : length marks ≡ n = are.size in
    let more : length (marks ++ ms ∷ []) ≡ length marks + 1 = length-append marks (ms ∷ []) in
    record {
      size = let r : length (marks ++ ms ∷ []) ≡ n + 1 = omega arith in r;
      each = λ e lt. ⊎_elim
          (λ (low : e < n). push_before marks ms e (let r : e < length marks = omega arith in r) ∙ are.each e low)
          (λ (high : n ≤ e).
          let same : e ≡ length marks = omega arith in
          let at : e ≡ n = omega arith in
          ap (slice_get (marks ++ ms ∷ [])) same ∙ push_last marks ms ∙ ap Some is ∙ ap (λ d. Some (marked d)) (sym at))
          (cases_lt e n);
      few = push_all (λ (xs : List Mark). length xs ≤ 1600) [] marks ms (let r : 0 ≤ 1600 = omega arith in r) few are.few;
    }

pub jumps_push : (v : FlowGraph) (marks : List (List Mark)) (n : ℕ) (jumps : List ℕ) (j : ℕ) → AreJumps v marks n jumps → j ≡ jumps_of (graph v) (is_branch v) (marks_in marks) n → j ≤ 2 → AreJumps v marks (n + 1) (jumps ++ j ∷ [])
jumps_push v marks n jumps j are is few =
    let size : length jumps ≡ n = are.size in
    let more : length (jumps ++ j ∷ []) ≡ length jumps + 1 = length-append jumps (j ∷ []) in
    record {
      size = let r : length (jumps ++ j ∷ []) ≡ n + 1 = omega arith in r;
      each = λ e lt. ⊎_elim
          (λ (low : e < n). push_before jumps j e (let r : e < length jumps = omega arith in r) ∙ are.each e low)
          (λ (high : n ≤ e).
          let same : e ≡ length jumps = omega arith in
          let at : e ≡ n = omega arith in
          ap (slice_get (jumps ++ j ∷ [])) same ∙ push_last jumps j ∙ ap Some is ∙ ap (λ d. Some (jumps_of (graph v) (is_branch v) (marks_in marks) d)) (sym at))
          (cases_lt e n);
      few = push_all (λ (x : ℕ). x ≤ 2) 0 jumps j (let r : 0 ≤ 2 = omega arith in r) few are.few;
    }

-- ---- sites where other marks stand

pub sites_formed : (v : FlowGraph) (lowest tallied : List Bool) (s : SitesView) (marks : List (List Mark)) (jumps : List ℕ) → AreMarksBy (formed_where lowest tallied (marks_at_edge s)) (length s.marks) marks → AreJumps v marks (length v.code.edges) jumps
    → length s.marks ≡ length v.code.edges → (marked : ℕ → List Mark) → AreSitesBy v marked s → AreSitesBy v (formed_where lowest tallied marked) (record { marks = marks; jumps = jumps })
sites_formed v lowest tallied s marks jumps are over size marked given = record {
  marks = λ e lt.
      let here : marks_at_edge s e ≡ marked e = get_or_from_slice_get s.marks e (marked e) [] (given.marks e lt) in
      are.each e (let r : e < length s.marks = omega (arith, lt, size) in r) ∙ ap (λ ms. Some (formed (flag_at lowest e) (tallied_by tallied) ms)) here;
  jumps = over.each;
  marks_size = are.size ∙ size;
  jumps_size = over.size;
}

-- ---- a list of marks that is empty or not

pub some_of : (ms : List Mark) (b : Bool) → b ≡ (length ms == 0) → b ≡ false → some_mark ms ≡ true
some_of [] b is not = let bad : ⊥ = cc in absurd bad
some_of (m ∷ ms) b is not = refl

pub none_of : (ms : List Mark) (b : Bool) → b ≡ (length ms == 0) → b ≡ true → some_mark ms ≡ false
none_of [] b is yes_is = refl
none_of (m ∷ ms) b is yes_is = let e : (length (m ∷ ms) == 0) ≡ true = sym is ∙ yes_is in let bad : ⊥ = grind (arith, nat_tests) in absurd bad

-- ---- the counted loops are loops

pub set_below : (flags : List Bool) (i n : ℕ) → i + length flags ≤ n → AreBelow n (set_from i flags)
set_below [] i n few = tt
set_below (true ∷ flags) i n few = ((let r : i < n = omega arith in r), set_below flags (i + 1) n (omega arith))
set_below (false ∷ flags) i n few = set_below flags (i + 1) n (omega arith)

-- ---- weights

pub record AreSmallCosts (costs : Costs) : Type 0 where
  pub each : (c : Class) → cycles_of costs c ≤ 65535

pub base_small : (costs : Costs) (classes : List (Option Class)) → AreSmallCosts costs → (e : ℕ) → slice_index (map (cost_of (cycles_of costs)) classes) e ≤ 65535
base_small costs [] small e = let r : 0 ≤ 65535 = omega arith in r
base_small costs (None ∷ cs) small zero = let r : 0 ≤ 65535 = omega arith in r
base_small costs (Some c ∷ cs) small zero = small.each c
base_small costs (c ∷ cs) small (suc e) = base_small costs cs small e
