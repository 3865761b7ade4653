-- What a marking says of the marks of an edge, and of the loops of their counters.
use Rattle.std.proofs.Common.{◌≡◌, ℕ, zero, suc, ◌+◌, ◌-◌, ◌*◌, ◌^◌, ◌<◌, ◌≤◌, Bool, true, List, [], ◌∷◌, length, slice_get, Some, refl, sym, ap, ◌∙◌, subst, arith}
use Rattle.std.specs.Prelude.{All, slice_index}
use Rattle.std.proofs.lemmas.Option.{slice_get_within, get_or_from_slice_get}
use Rattle.scale_base.specs.declared.fragments.Fragment.TheVariants as fragments
use Rattle.scale_base.specs.Image.{Image}
use Rattle.power_model.specs.Numbers.{PowerModel}
use Rattle.cost_theory.specs.Graph.{leaves, goes_back}
use Rattle.cycle_laws.specs.Charged.{Charged}
use Rattle.cost_theory.specs.Worst.{Numbers}
use Rattle.flow_graph.specs.FlowGraph.{FlowGraph, graph}
use Rattle.level_tables.specs.Tables as tables
use Rattle.level_tables.specs.declared.edge_numbers.EdgeNumbers.{EdgeNumbers}
use Rattle.loop_forest.specs.Tree.{LoopView, loops, IsLoopTree}
use Rattle.scale_base.specs.declared.fragments.Mark.{Mark}
use Rattle.scale_base.specs.declared.fragments.Mark.TheVariants as marks
use Rattle.scale_sites.specs.Counters.{counted_loops}
use Rattle.scale_sites.specs.Forms.{IsQuietMark, IsFirstAlone}
use Rattle.scale_sites.specs.Marks.{first_counter, AreLoopsOnce}
use Rattle.scale_sites.specs.Sites.{marks_at_edge, marks_where}
use Rattle.scale_sites.specs.Weights.{switches}
use Rattle.scale_sites.proofs.Laws.{marks_store_first, formed_stores_first}
use Rattle.rewritten_runs.specs.Stubs.{told_at, fragment_by, loop_of}
use Rattle.rewritten_runs.proofs.Laws.{IsCounter, IsMarkOf, at_set, in_get, marks_are, set_distinct}
use Rattle.marked_images.specs.declared.stubs.Marking.{Marking}
use Rattle.marked_images.specs.Markings.{IsMarking, test_of}
use Rattle.marked_images.proofs.FormedMarks.{forms_are}
use Rattle.marked_images.specs.Wanted.{Wanted, marked_where}

-- ---- the first mark

abbrev pub IsLoud : Mark → Type 0
IsLoud marks.Switch = Unit {0}
IsLoud (marks.Exit c) = Unit {0}
IsLoud (marks.Reset c) = ⊥
IsLoud (marks.Count c) = ⊥
IsLoud marks.Lowest = Unit {0}
IsLoud (marks.Tally c) = Unit {0}

loud_switches : (m : Mark) (ms : List Mark) → IsLoud m → switches (m ∷ ms) ≡ true
loud_switches marks.Switch ms h = refl
loud_switches (marks.Exit c) ms h = refl
loud_switches (marks.Reset c) ms h = absurd h
loud_switches (marks.Count c) ms h = absurd h
loud_switches marks.Lowest ms h = refl
loud_switches (marks.Tally c) ms h = refl

not_both : (m : Mark) → IsLoud m → IsQuietMark m → ⊥
not_both marks.Switch h q = q
not_both (marks.Exit c) h q = q
not_both (marks.Reset c) h q = h
not_both (marks.Count c) h q = h
not_both marks.Lowest h q = q
not_both (marks.Tally c) h q = q

none_loud : (ms : List Mark) (i : ℕ) (m : Mark) → All IsQuietMark ms → slice_get ms i ≡ Some m → IsLoud m → ⊥
none_loud [] i m all at h = let never : ⊥ = cc in never
none_loud (q ∷ ms) zero m all at h = let e : q ≡ m = cc in not_both m h (subst IsQuietMark e (all 0 q (omega arith)))
none_loud (q ∷ ms) (suc i) m all at h = none_loud ms i m (λ k d lt. all (suc k) d (omega arith)) at h

first_loud : (ms : List Mark) (i : ℕ) (m : Mark) → IsFirstAlone ms → slice_get ms i ≡ Some m → IsLoud m → switches ms ≡ true
first_loud [] i m alone at h = let never : ⊥ = cc in absurd never
first_loud (x ∷ ms) zero m alone at h = let e : x ≡ m = cc in loud_switches x ms (subst IsLoud (sym e) h)
first_loud (x ∷ ms) (suc i) m alone at h = absurd (none_loud ms i m alone at h)

pub counted_loop : (v : FlowGraph) (t : LoopView) (extent : ℕ → ℕ → Bool) (j k : ℕ) → IsLoopTree v extent t → slice_get (counted_loops t) j ≡ Some k → k < length t.headers
counted_loop v t extent j k tree at =
    let r = at_set t.counted 0 j k at in
    let lt = slice_get_within t.counted r.from true r.flag in
    let size = tree.counted_size in
    let is = r.is in omega (arith, lt, size, is)

module _ (power : PowerModel) (image : Image) (v : FlowGraph) (t : LoopView) (wanted : Wanted) (stored : Numbers) (least : Charged) (m : Marking) (is : IsMarking power image v t wanted stored least m) where
  loops_are : AreLoopsOnce (loops v t) (counted_loops t)
  loops_are k h =
      let at = in_get k (counted_loops t) h in
      let lt = counted_loop v t is.tree.0 at.0 k is.tree.1 at.1 in
      let same = Rattle.std.proofs.lemmas.List.length-map t.headers (Rattle.loop_forest.specs.Noted.node_address v) in
      omega (arith, lt, same)

  -- at most the first mark stores at the port
  pub marking_alone : (e : ℕ) → e < length v.code.edges → IsFirstAlone (marks_at_edge m.sites e)
  marking_alone e lt =
      let alone = marks_store_first (graph v) (loops v t) is.tree.0 (counted_loops t) is.code.flow.program is.tree.1.accepted loops_are (set_distinct 0 t.counted) e (wanted.switch e) 0 0 lt in
      let formed_alone = formed_stores_first (wanted.lowest e) wanted.tallied (marks_where v t (counted_loops t) wanted.switch e) alone in
      subst IsFirstAlone (sym (is.marks e lt)) formed_alone

  pub marking_switches : (e i : ℕ) (mark : Mark) → e < length v.code.edges → slice_get (marks_at_edge m.sites e) i ≡ Some mark → IsLoud mark → switches (marks_at_edge m.sites e) ≡ true
  marking_switches e i mark lt at loud = first_loud (marks_at_edge m.sites e) i mark (marking_alone e lt) at loud

  -- ---- the loop of a counter

  pub record IsLoopOf (counter : ℕ) : Type 0 where
    pub place : ℕ
    pub loop : ℕ
    pub counter_is : counter ≡ 2 + place
    pub within : place < length m.counters
    pub get : slice_index m.counters place ≡ loop
    pub small : loop < length t.headers
    pub loop_is : loop_of (counted_loops t) counter ≡ loop

  all_get : {A : Type 0} (P : A → Type 0) (xs : List A) (i : ℕ) (x : A) → All P xs → slice_get xs i ≡ Some x → P x
  all_get P [] i x all at = let never : ⊥ = cc in absurd never
  all_get P (y ∷ xs) zero x all at = let e : y ≡ x = cc in subst P e (all 0 y (omega arith))
  all_get P (y ∷ xs) (suc i) x all at = all_get P xs i x (λ k d lt. all (suc k) d (omega arith)) at

  counter_is : (P : ℕ → Type 0) (counter : ℕ) → IsCounter (counted_loops t) counter P → IsLoopOf counter
  counter_is P counter f =
      let within = slice_get_within (counted_loops t) f.place f.loop f.get in
      let same : length m.counters ≡ length (counted_loops t) = ap length is.counters in
      let back : counter - first_counter ≡ f.place = (let q = f.is in omega (arith, q)) in
      record {
        place = f.place;
        loop = f.loop;
        counter_is = f.is;
        within = omega (arith, within, same);
        get = ap (λ cs. slice_index cs f.place) is.counters ∙ get_or_from_slice_get (counted_loops t) f.place f.loop 0 f.get;
        small = counted_loop v t is.tree.0 f.place f.loop is.tree.1 f.get;
        loop_is = ap (slice_index (counted_loops t)) back ∙ get_or_from_slice_get (counted_loops t) f.place f.loop 0 f.get;
      }

  pub mark_is : (e i : ℕ) (mark : Mark) → e < length v.code.edges → slice_get (marks_at_edge m.sites e) i ≡ Some mark → IsMarkOf (loops v t) (counted_loops t) (wanted.switch e) ((graph v).source e) ((graph v).target e) mark
  mark_is e i mark lt at =
      let l = loops v t in
      let u = (graph v).source e in
      let p = (graph v).target e in
      let all = forms_are l (counted_loops t) (wanted.switch e) u p (wanted.lowest e) wanted.tallied (marks_where v t (counted_loops t) wanted.switch e) (marks_are l (counted_loops t) (wanted.switch e) 0 0 u p) in
      all_get (IsMarkOf l (counted_loops t) (wanted.switch e) u p) (marked_where v t wanted e) i mark all (sym (ap (λ ms. slice_get ms i) (is.marks e lt)) ∙ at)

  pub exit_is : (e i counter : ℕ) → e < length v.code.edges → slice_get (marks_at_edge m.sites e) i ≡ Some (marks.Exit counter) → IsLoopOf counter
  exit_is e i counter lt at = counter_is (λ k. leaves (loops v t) k ((graph v).source e) ((graph v).target e) ≡ true) counter (mark_is e i (marks.Exit counter) lt at)

  pub tally_is : (e i counter : ℕ) → e < length v.code.edges → slice_get (marks_at_edge m.sites e) i ≡ Some (marks.Tally counter) → IsLoopOf counter
  tally_is e i counter lt at = counter_is (λ k. goes_back (loops v t) k ((graph v).source e) ((graph v).target e) ≡ true) counter (mark_is e i (marks.Tally counter) lt at)

  -- the bound and an iteration of the loop
  pub turns_fit : (k bound iteration : ℕ) → k < length t.headers → slice_get t.bounds k ≡ Some bound → slice_get m.worst.iteration k ≡ Some iteration → bound * iteration ≤ 2 ^ 48
  turns_fit k bound iteration lt b i =
      let one : (loops v t).bound k ≡ bound = get_or_from_slice_get t.bounds k bound 0 b in
      let two : stored.iteration k ≡ iteration = (let e = is.iteration k lt in cc) in
      let small = is.turns_small k lt in
      subst (λ x. x * iteration ≤ 2 ^ 48) one (subst (λ x. (loops v t).bound k * x ≤ 2 ^ 48) two small)

  pub exit_fragment : (e counter k bound iteration shift : ℕ) (rows : List ℕ) (told : EdgeNumbers) → k < length t.headers → loop_of (counted_loops t) counter ≡ k → slice_get t.bounds k ≡ Some bound → slice_get m.worst.iteration k ≡ Some iteration
      → shift ≡ tables.shift_of bound → rows ≡ tables.all_rows_by power (test_of power m) bound iteration told → told ≡ told_at power image v t (marked_where v t wanted) stored least e
      → fragments.Exit counter shift rows ≡ fragment_by power (test_of power m) (loops v t) (counted_loops t) stored (told_at power image v t (marked_where v t wanted) stored least e) (marks.Exit counter)
  exit_fragment e counter k bound iteration shift rows told lt here b i s r tl =
      let one : bound ≡ (loops v t).bound (loop_of (counted_loops t) counter) = sym (get_or_from_slice_get t.bounds k bound 0 b) ∙ ap (loops v t).bound (sym here) in
      let two : iteration ≡ stored.iteration (loop_of (counted_loops t) counter) = (let q : iteration ≡ stored.iteration k = (let e2 = is.iteration k lt in cc) in q ∙ ap stored.iteration (sym here)) in
      let three : shift ≡ tables.shift_of ((loops v t).bound (loop_of (counted_loops t) counter)) = s ∙ ap tables.shift_of one in
      let four = r ∙ (ap (λ x. tables.all_rows_by power (test_of power m) x iteration told) one ∙ (ap (λ x. tables.all_rows_by power (test_of power m) ((loops v t).bound (loop_of (counted_loops t) counter)) x told) two
      ∙ ap (tables.all_rows_by power (test_of power m) ((loops v t).bound (loop_of (counted_loops t) counter)) (stored.iteration (loop_of (counted_loops t) counter))) tl)) in
      ap (λ x. fragments.Exit counter x rows) three ∙ ap (fragments.Exit counter (tables.shift_of ((loops v t).bound (loop_of (counted_loops t) counter)))) four

  pub tally_fragment : (e counter k bound iteration shift from : ℕ) (told : EdgeNumbers) → k < length t.headers → loop_of (counted_loops t) counter ≡ k → slice_get t.bounds k ≡ Some bound → slice_get m.worst.iteration k ≡ Some iteration
      → shift ≡ tables.tally_shift bound → from ≡ tables.tally_from power (test_of power m) bound iteration told → told ≡ told_at power image v t (marked_where v t wanted) stored least e
      → fragments.Tally counter shift from ≡ fragment_by power (test_of power m) (loops v t) (counted_loops t) stored (told_at power image v t (marked_where v t wanted) stored least e) (marks.Tally counter)
  tally_fragment e counter k bound iteration shift from told lt here b i s f tl =
      let one : bound ≡ (loops v t).bound (loop_of (counted_loops t) counter) = sym (get_or_from_slice_get t.bounds k bound 0 b) ∙ ap (loops v t).bound (sym here) in
      let two : iteration ≡ stored.iteration (loop_of (counted_loops t) counter) = (let q : iteration ≡ stored.iteration k = (let e2 = is.iteration k lt in cc) in q ∙ ap stored.iteration (sym here)) in
      let three : shift ≡ tables.tally_shift ((loops v t).bound (loop_of (counted_loops t) counter)) = s ∙ ap tables.tally_shift one in
      let four = f ∙ (ap (λ x. tables.tally_from power (test_of power m) x iteration told) one ∙ (ap (λ x. tables.tally_from power (test_of power m) ((loops v t).bound (loop_of (counted_loops t) counter)) x told) two
      ∙ ap (tables.tally_from power (test_of power m) ((loops v t).bound (loop_of (counted_loops t) counter)) (stored.iteration (loop_of (counted_loops t) counter))) tl)) in
      ap (λ x. fragments.Tally counter x from) three ∙ ap (fragments.Tally counter (tables.tally_shift ((loops v t).bound (loop_of (counted_loops t) counter)))) four

  pub lowest_fragment : (e : ℕ) (down : Bool) (told : EdgeNumbers) → down ≡ tables.goes_lowest power (test_of power m) told → told ≡ told_at power image v t (marked_where v t wanted) stored least e
      → fragments.Lowest down ≡ fragment_by power (test_of power m) (loops v t) (counted_loops t) stored (told_at power image v t (marked_where v t wanted) stored least e) marks.Lowest
  lowest_fragment e down told d tl = ap fragments.Lowest (d ∙ ap (tables.goes_lowest power (test_of power m)) tl)
