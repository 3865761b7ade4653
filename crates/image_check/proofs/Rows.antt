-- The rows of a table up to the bound of its counter's loop lie in the keyed segment: the loop that is counted first is the one that the counter counts.
use Rattle.std.proofs.Common.{◌≡◌, ◌⊎◌, inl, inr, ⊎_elim, ℕ, zero, suc, ◌+◌, ◌*◌, ◌/◌, ◌^◌, ◌<◌, ◌≤◌, Bool, true, false, List, [], ◌∷◌, refl, arith, sym, ap, ◌∙◌, subst, slice_get, Option, Some, None}
use Rattle.std.specs.Prelude.{◌==◌}
use Rattle.std.specs.List.{sum_by}
use Rattle.std.proofs.Math.Nat.{zero-div}
use Rattle.std.proofs.lemmas.Bool.{both_ways, cases_lt, cond-true, cond-false, eqb-true, eq-eqb}
use Rattle.std.proofs.lemmas.List.Sums.{sum_by-cons}
use Rattle.std.proofs.lemmas.Option.{slice_get_within}
use Rattle.scale_base.specs.Image.{Image, is_word_address}
use Rattle.scale_base.specs.declared.edges.Edge.{Edge}
use Rattle.scale_base.specs.declared.edges.EdgeKind.{EdgeKind}
use Rattle.scale_base.specs.declared.edges.EdgeKind.TheVariants.{Taken, Untaken, Jump, Next, CallNext, End}
use Rattle.cost_theory.specs.Graph.{Graph, Loops, is_back}
use Rattle.cost_theory.specs.Reached.{Code}
use Rattle.cost_theory.proofs.Laws.{accepted_entered, some_get}
use Rattle.code_text.specs.Text.{Text, text_of}
use Rattle.code_text.specs.TextGraph.{text_graph}
use Rattle.graph_runs.specs.Laws.{IsProgramOf}
use Rattle.foreign_scan.specs.declared.fragment.ForeignFragment.{ForeignFragment}
use Rattle.foreign_scan.specs.declared.fragment.ForeignFragment.TheVariants.{Switch, Exit, Reset, Count}
use Rattle.foreign_scan.specs.Form.{AreRowsIn}
use Rattle.foreign_scan.specs.Scanned.{Found, is_changed, IsChanged, IsOn, kind_place, ComesBefore, IsCountedAt, IsFirstCounted, IsLastRow, IsScanned}
use Rattle.image_check.specs.Safe.{Owner, owner_bound, counts_it, counts_on, one_where, AreOwners}
use Rattle.image_check.proofs.Owning.{counter_for}

-- ---- the least of some numbers

record IsLeastBy (p : ℕ → Bool) (m : ℕ → ℕ) (n d : ℕ) : Type 0 where
  low : d < n
  is : p d ≡ true
  least : (c : ℕ) → c < n → p c ≡ true → m d ≤ m c

least_by : (p : ℕ → Bool) (m : ℕ → ℕ) (n : ℕ) → ((d : ℕ) × IsLeastBy p m n d) ⊎ ((c : ℕ) → c < n → p c ≡ false)
least_by p m zero = inr (λ c lt. absurd (let no : ⊥ = omega arith in no))
least_by p m (suc n) = by_last (p n) refl (least_by p m n)
  where
    last : (c : ℕ) → c < suc n → n ≤ c → c ≡ n
    last c lt high = omega arith

    by_last : (b : Bool) → p n ≡ b → ((d : ℕ) × IsLeastBy p m n d) ⊎ ((c : ℕ) → c < n → p c ≡ false) → ((d : ℕ) × IsLeastBy p m (suc n) d) ⊎ ((c : ℕ) → c < suc n → p c ≡ false)
    by_last false off (inr none) = inr (λ c lt. ⊎_elim (λ low. none c low) (λ high. ap p (last c lt high) ∙ off) (cases_lt c n))
    by_last false off (inl (d, h)) = inl (
      d,
      record {
        low = (let low = h.low in omega (arith, low));
        is = h.is;
        least = λ c lt on. ⊎_elim (λ low. h.least c low on) (λ high. absurd (both_ways (p n) off (ap p (sym (last c lt high)) ∙ on))) (cases_lt c n);
      },
    )
    by_last true on (inr none) = inl (
      n,
      record {
        low = omega arith;
        is = on;
        least = λ c lt o. ⊎_elim (λ low. absurd (both_ways (p c) (none c low) o)) (λ high. subst (λ x. m n ≤ m x) (sym (last c lt high)) (omega arith)) (cases_lt c n);
      },
    )
    by_last true on (inl (d, h)) = ⊎_elim
        (λ less. inl (
          n,
          record {
            low = omega arith;
            is = on;
            least = λ c lt o. ⊎_elim (λ low. (let up = h.least c low o in omega (arith, less, up))) (λ high. subst (λ x. m n ≤ m x) (sym (last c lt high)) (omega arith)) (cases_lt c n);
          },
        ))
        (λ more. inl (
          d,
          record {
            low = (let low = h.low in omega (arith, low));
            is = h.is;
            least = λ c lt o. ⊎_elim (λ low. h.least c low o) (λ high. subst (λ x. m d ≤ m x) (sym (last c lt high)) more) (cases_lt c n);
          },
        ))
        (cases_lt (m n) (m d))

-- ---- fragments that count

counts_one : (c : ℕ) → counts_it c (Count c) ≡ 1
counts_one c = cond-true (c == c) 1 0 (eq-eqb c c refl)

pub on_counts : (c : ℕ) (fs : List ForeignFragment) (i : ℕ) → slice_get fs i ≡ Some (Count c) → 0 < sum_by (counts_it c) fs
on_counts c [] i e = let never : ⊥ = cc in absurd never
on_counts c (f ∷ fs) zero e =
    let is : f ≡ Count c = cc in
    let one : counts_it c f ≡ 1 = ap (counts_it c) is ∙ counts_one c in
    omega (arith, one, sum_by-cons (counts_it c) f fs)
on_counts c (f ∷ fs) (suc i) e = let later = on_counts c fs i e in omega (arith, later, sum_by-cons (counts_it c) f fs)

counts_are_on : (c : ℕ) (fs : List ForeignFragment) → 0 < sum_by (counts_it c) fs → IsOn (Count c) fs
counts_are_on c [] some = absurd (let no : ⊥ = omega (arith, some) in no)
counts_are_on c (f ∷ fs) some = by_fragment f (λ more. counts_are_on c fs more) (omega (arith, some, sum_by-cons (counts_it c) f fs))
  where
    later : (g : ForeignFragment) → IsOn (Count c) fs → IsOn (Count c) (g ∷ fs)
    later g on = (suc on.0, on.1)

    by_fragment : (g : ForeignFragment) → (0 < sum_by (counts_it c) fs → IsOn (Count c) fs) → 0 < counts_it c g + sum_by (counts_it c) fs → IsOn (Count c) (g ∷ fs)
    by_fragment (Switch word) go more = later (Switch word) (go (omega (arith, more)))
    by_fragment (Exit counter shift table) go more = later (Exit counter shift table) (go (omega (arith, more)))
    by_fragment (Reset counter) go more = later (Reset counter) (go (omega (arith, more)))
    by_fragment (Count counter) go more = by_test (c == counter) refl more
      where
        by_test : (b : Bool) → (c == counter) ≡ b → 0 < counts_it c (Count counter) + sum_by (counts_it c) fs → IsOn (Count c) (Count counter ∷ fs)
        by_test true e m = (0, ap (λ x. Some (Count x)) (sym (eqb-true c counter e)))
        by_test false e m = let none : counts_it c (Count counter) ≡ 0 = cond-false (c == counter) 1 0 e in later (Count counter) (go (omega (arith, m, none)))

pub some_if : (b : Bool) → 0 < one_where b → b ≡ true
some_if true h = refl
some_if false h = absurd (let no : ⊥ = omega (arith, h) in no)

-- ---- places of edges

abbrev place : Option Edge → ℕ
place None = 0
place (Some e) = 2 * e.at + kind_place e.kind

kind_small : (k : EdgeKind) → kind_place k ≤ 1
kind_small Taken = omega arith
kind_small Untaken = omega arith
kind_small Jump = omega arith
kind_small Next = omega arith
kind_small CallNext = omega arith
kind_small End = omega arith

not_before : (d e : Edge) → 2 * e.at + kind_place e.kind ≤ 2 * d.at + kind_place d.kind → ComesBefore d e → ⊥
not_before d e le (inl less) = let small = kind_small d.kind in omega (arith, le, less, small)
not_before d e le (inr (same, less)) = omega (arith, le, same, less)

module _ (original foreign : Image) (code : Code) (l : Loops) (extent : ℕ → ℕ → Bool) (owner : Owner) (found : Found) (prog : IsProgramOf (text_of original) code l extent)
    (is : IsScanned original foreign code l found) (owners : AreOwners (text_graph (text_of original) code) code l found owner) where
  abbrev t : Text
  t = text_of original

  abbrev g : Graph
  g = text_graph t code

  -- fragments stand on edges of changed words alone
  changed_by : (at : ℕ) (kind : EdgeKind) → (found at kind ≡ [] → ⊥) → IsChanged original foreign at
  changed_by at kind some = by_tests (is_word_address original at) (is_changed original foreign at) refl refl
    where
      by_tests : (x y : Bool) → is_word_address original at ≡ x → is_changed original foreign at ≡ y → IsChanged original foreign at
      by_tests true true a b = (a, b)
      by_tests true false a b = absurd (some (is.found_are.plain at kind (λ c. both_ways (is_changed original foreign at) b c.1)))
      by_tests false y a b = absurd (some (is.found_are.plain at kind (λ c. both_ways (is_word_address original at) a c.0)))

  counted_at : (c k e : ℕ) (edge : Edge) → k < l.loops → slice_get code.edges e ≡ Some edge → is_back g l k e ≡ true → 0 < counts_on found (Some edge) c → IsCountedAt original foreign code l found c k e edge
  counted_at c k e edge low there back counts =
      let changed = changed_by edge.at edge.kind (λ none. let zero_sum = ap (sum_by (counts_it c)) none in omega (arith, counts, zero_sum)) in
      record {
        there = there;
        low = low;
        back = back;
        changed = changed;
        form = (is.stubs edge.at changed).0;
        counts = counts_are_on c (found edge.at edge.kind) counts;
      }

  -- a counter's loop is the one that is counted first
  first_of : (c k : ℕ) → owner c ≡ Some k → IsFirstCounted original foreign code l found c k
  first_of c k own = elim (least_by (is_back g l k) (λ e. place (slice_get code.edges e)) g.edges) [
    | inl some ↦
        let o = counter_for original foreign code l extent owner found prog is owners c k own in
        let h = some.1 in
        let x = some_get code.edges some.0 h.low in
        let one = sym (ap (λ q. counts_on found q c) x.1) ∙ (o.counts some.0 h.low ∙ ap one_where h.is) in
        record {
          e = some.0;
          edge = x.0;
          counted = counted_at c k some.0 x.0 o.low x.1 h.is (omega (arith, one));
          first = λ j d other r before.
              let lt : d < g.edges = slice_get_within code.edges d other r.there in
              let more = on_counts c (found other.at other.kind) r.counts.0 r.counts.1 in
              let all = sym (ap (λ q. counts_on found q c) r.there) ∙ o.counts d lt in
              let back = some_if (is_back g l k d) (omega (arith, more, all)) in
              let le = h.least d lt back in
              not_before other x.0 (subst (λ q. place q ≤ place (Some other)) x.1 (subst (λ q. place (slice_get code.edges some.0) ≤ place q) r.there le)) before;
        }
    | inr none ↦ absurd ((accepted_entered prog.loops).back_edge k (counter_for original foreign code l extent owner found prog is owners c k own).low none)
  ]

  -- a number that counts no loop has no count
  none_counted : (c : ℕ) → owner c ≡ None → (k : ℕ) → IsFirstCounted original foreign code l found c k → ⊥
  none_counted c own k first =
      let r = first.counted in
      let lt : first.e < g.edges = slice_get_within code.edges first.e first.edge r.there in
      let more = on_counts c (found first.edge.at first.edge.kind) r.counts.0 r.counts.1 in
      let there = ap (λ q. counts_on found q c) r.there in
      let o = owners.used c (record { edge = first.e; low = lt; uses = omega (arith, more, there) }) in
      let a = o.1 in
      let never : ⊥ = cc in never

  last_row : (c shift : ℕ) (o : Option ℕ) → owner c ≡ o → IsLastRow original foreign code l found c shift (owner_bound l o / 2 ^ shift)
  last_row c shift None own = inr (none_counted c own, zero-div (2 ^ shift))
  last_row c shift (Some k) own = inl (k, first_of c k own, refl)

  pub rows : (at : ℕ) (kind : EdgeKind) (counter shift table : ℕ) → IsOn (Exit counter shift table) (found at kind) → AreRowsIn foreign table (owner_bound l (owner counter) / 2 ^ shift + 1)
  rows at kind counter shift table on =
      let changed = changed_by at kind (λ none. not_on (found at kind) on none) in
      (is.stubs at changed).1 kind counter shift table (owner_bound l (owner counter) / 2 ^ shift) on (last_row counter shift (owner counter) refl)
    where
      not_on : (fs : List ForeignFragment) → IsOn (Exit counter shift table) fs → fs ≡ [] → ⊥
      not_on [] on none = let e = on.1 in let never : ⊥ = cc in never
      not_on (f ∷ fs) on none = let never : ⊥ = cc in never
