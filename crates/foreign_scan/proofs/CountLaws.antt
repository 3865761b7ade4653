-- The first edge on which a counter counts.
use Rattle.std.proofs.Common.{◌≡◌, ℕ, zero, suc, ◌+◌, ◌<◌, Bool, true, false, cond, ◌&&◌, ◌||◌, inl, inr, ⊎_elim, List, [], ◌∷◌, ◌++◌, length, take, map, set, Option, Some, None, refl, sym, ap, ◌∙◌, subst, arith}
use Rattle.std.specs.Prelude.{slice_get, slice_set, slice_index_or, ◌==◌, nat_lt}
use Rattle.std.proofs.lemmas.Bool.{cases_Bool, cases_eq, both_ways, and_parts, and_from, or_cases, or_left, or_right, ltb-true, eqb-true, lt-ltb, eq-eqb, ne_eqb, cond-true, cond-false}
use Rattle.std.proofs.lemmas.Option.{slice_get-map, get_or_from_slice_get, slice_get-get_or}
use Rattle.scale_base.specs.declared.edges.Edge.{Edge}
use Rattle.foreign_scan.specs.declared.fragment.ForeignFragment.{ForeignFragment}
use Rattle.foreign_scan.specs.declared.fragment.ForeignFragment.TheVariants.{Count}
use Rattle.foreign_scan.specs.declared.site.Site.{Site}
use Rattle.foreign_scan.specs.Sites.{site_fragments}
use Rattle.foreign_scan.specs.Counts.{edge_before, before_by, is_before, earlier_of, counts_with, count_in, first_with, CountsOn, IsFirstOfEdges, AreFirstsBelow, AreEdgesWithin, limit_of, AreCountLimits, IsTaken, AreTaken, numbered_at, numbered_fragments}
use Rattle.foreign_scan.specs.Scanned.{kind_place, ComesBefore}
use Rattle.machine_laws.proofs.Laws.{mapped_from}
use Rattle.foreign_scan.proofs.ListLaws.{take_one, set_same, set_other}
use Rattle.foreign_scan.proofs.LeastLaws.{below_or_last}
use Rattle.foreign_scan.proofs.ReadLaws.{same_some}

-- ---- the order of edges

pub before_from : (d e : Edge) → edge_before d e ≡ true → ComesBefore d e
before_from d e h =
    elim (or_cases (nat_lt d.at e.at) ((d.at == e.at) && nat_lt (kind_place d.kind) (kind_place e.kind)) h) [
      | inl low ↦ inl (ltb-true d.at e.at low)
      | inr same ↦ let p = and_parts (d.at == e.at) (nat_lt (kind_place d.kind) (kind_place e.kind)) same in inr (eqb-true d.at e.at p.0, ltb-true (kind_place d.kind) (kind_place e.kind) p.1)
    ]

pub before_to : (d e : Edge) → ComesBefore d e → edge_before d e ≡ true
before_to d e (inl low) = or_left (nat_lt d.at e.at) ((d.at == e.at) && nat_lt (kind_place d.kind) (kind_place e.kind)) (lt-ltb d.at e.at low)
before_to d e (inr same) =
    or_right (nat_lt d.at e.at) ((d.at == e.at) && nat_lt (kind_place d.kind) (kind_place e.kind))
    (and_from (d.at == e.at) (nat_lt (kind_place d.kind) (kind_place e.kind)) (eq-eqb d.at e.at same.0) (lt-ltb (kind_place d.kind) (kind_place e.kind) same.1))

never_itself : (e : Edge) → ComesBefore e e → ⊥
never_itself e (inl low) = omega (arith, low)
never_itself e (inr same) = let low = same.1 in omega (arith, low)

one_after_another : (d e b : Edge) → ComesBefore d e → ComesBefore e b → ComesBefore d b
one_after_another d e b (inl x) (inl y) = inl (omega (arith, x, y))
one_after_another d e b (inl x) (inr y) = let same = y.0 in inl (omega (arith, x, same))
one_after_another d e b (inr x) (inl y) = let same = x.0 in inl (omega (arith, y, same))
one_after_another d e b (inr x) (inr y) = let one = x.0 in let two = y.0 in let low = x.1 in let high = y.1 in inr (omega (arith, one, two), omega (arith, low, high))

from_test : (o p : Option Edge) → before_by o p ≡ true → (d : Edge) × (e : Edge) × (o ≡ Some d) × (p ≡ Some e) × ComesBefore d e
from_test (Some d) (Some e) h = (d, e, refl, refl, before_from d e h)
from_test None None h = absurd cc
from_test None (Some e) h = absurd cc
from_test (Some d) None h = absurd cc

pub test_from : (edges : List Edge) (d e : ℕ) → is_before edges d e ≡ true → (x : Edge) × (y : Edge) × (slice_get edges d ≡ Some x) × (slice_get edges e ≡ Some y) × ComesBefore x y
test_from edges d e h = from_test (slice_get edges d) (slice_get edges e) h

to_test : (o p : Option Edge) (d e : Edge) → o ≡ Some d → p ≡ Some e → ComesBefore d e → before_by o p ≡ true
to_test o p d e eo ep h = ap (λ x. before_by x p) eo ∙ (ap (before_by (Some d)) ep ∙ before_to d e h)

pub test_to : (edges : List Edge) (d e : ℕ) (x y : Edge) → slice_get edges d ≡ Some x → slice_get edges e ≡ Some y → ComesBefore x y → is_before edges d e ≡ true
test_to edges d e x y ex ey h = to_test (slice_get edges d) (slice_get edges e) x y ex ey h

not_itself : (edges : List Edge) (e : ℕ) → is_before edges e e ≡ false
not_itself edges e =
    elim (cases_Bool (is_before edges e e)) [
      | inr fails ↦ fails
      | inl holds ↦ let t = test_from edges e e holds in let same = same_some t.0 t.1 (sym t.2 ∙ t.3) in absurd (never_itself t.1 (subst (λ x. ComesBefore x t.1) same t.4))
    ]

before_both : (edges : List Edge) (d e b : ℕ) → is_before edges d e ≡ true → is_before edges e b ≡ true → is_before edges d b ≡ true
before_both edges d e b one two =
    let s = test_from edges d e one in
    let t = test_from edges e b two in
    let same = same_some s.1 t.0 (sym s.3 ∙ t.2) in
    test_to edges d b s.0 t.1 s.2 t.3 (one_after_another s.0 t.0 t.1 (subst (ComesBefore s.0) same s.4) t.4)

-- ---- the first edge that counts, edge by edge

same_either : {A : Type 0} (b : Bool) (x y : A) → x ≡ y → cond b x y ≡ y
same_either true x y e = e
same_either false x y e = refl

again : (edges : List Edge) (o : Option ℕ) (e : ℕ) → earlier_of edges (Some (earlier_of edges o e)) e ≡ earlier_of edges o e
again edges None e = same_either (is_before edges e e) e e refl
again edges (Some b) e =
    elim (cases_Bool (is_before edges e b)) [
      | inl holds ↦
          let here : earlier_of edges (Some b) e ≡ e = cond-true (is_before edges e b) e b holds in
          ap (λ x. cond (is_before edges e x) e x) here ∙ (same_either (is_before edges e e) e e refl ∙ sym here)
      | inr fails ↦
          let here : earlier_of edges (Some b) e ≡ b = cond-false (is_before edges e b) e b fails in
          ap (λ x. cond (is_before edges e x) e x) here ∙ (cond-false (is_before edges e b) e b fails ∙ sym here)
    ]

pub earlier_within : (edges : List Edge) (o : Option ℕ) (e n : ℕ) → e < n → ((b : ℕ) → o ≡ Some b → b < n) → earlier_of edges o e < n
earlier_within edges None e n lt within = lt
earlier_within edges (Some b) e n lt within =
    elim (cases_Bool (is_before edges e b)) [
      | inl holds ↦ subst (λ x. x < n) (sym (cond-true (is_before edges e b) e b holds)) lt
      | inr fails ↦ subst (λ x. x < n) (sym (cond-false (is_before edges e b) e b fails)) (within b refl)
    ]

any_end : (c : ℕ) (fs : List ForeignFragment) (f : ForeignFragment) → count_in c (fs ++ f ∷ []) ≡ (count_in c fs || counts_with c f)
any_end c [] f = or_false (counts_with c f)
  where
    or_false : (b : Bool) → (b || false) ≡ b
    or_false true = refl
    or_false false = refl
any_end c (g ∷ gs) f = ap (λ b. counts_with c g || b) (any_end c gs f) ∙ sym (assoc (counts_with c g) (count_in c gs) (counts_with c f))
  where
    assoc : (x y z : Bool) → ((x || y) || z) ≡ (x || (y || z))
    assoc true y z = refl
    assoc false y z = refl

pub count_more : (c i : ℕ) (fs : List ForeignFragment) (f : ForeignFragment) → slice_get fs i ≡ Some f → count_in c (take (i + 1) fs) ≡ (count_in c (take i fs) || counts_with c f)
count_more c i fs f e = ap (count_in c) (take_one fs i f e) ∙ any_end c (take i fs) f

-- one fragment after others
pub with_both : (edges : List Edge) (a b : Bool) (o : Option ℕ) (e : ℕ) → first_with edges b (first_with edges a o e) e ≡ first_with edges (a || b) o e
with_both edges true true o e = ap Some (again edges o e)
with_both edges true false o e = refl
with_both edges false true o e = refl
with_both edges false false o e = refl

pub taken_more : (edges : List Edge) (start old new : List (Option ℕ)) (fs : List ForeignFragment) (f : ForeignFragment) (i e : ℕ) → slice_get fs i ≡ Some f → AreTaken edges start old (take i fs) e → IsTaken edges old new f e → AreTaken edges start new (take (i + 1) fs) e
taken_more edges start old new fs f i e there before one = λ c o here.
    one c (first_with edges (count_in c (take i fs)) o e) (before c o here)
    ∙ ap Some (with_both edges (count_in c (take i fs)) (counts_with c f) o e ∙ ap (λ b. first_with edges b o e) (sym (count_more c i fs f there)))

-- the first edge of one counter is set
pub taken_one : (edges : List Edge) (old new : List (Option ℕ)) (f : ForeignFragment) (counter k e : ℕ) → f ≡ Count counter → k ≡ counter → k < length old → new ≡ slice_set old k (Some (earlier_of edges (slice_index_or old k None) e)) → IsTaken edges old new f e
taken_one edges old new f counter k e is same low set = λ c o here. elim (cases_eq c k) [
  | inl eq ↦
      let on : counts_with c f ≡ true = ap (counts_with c) is ∙ eq-eqb c counter (eq ∙ same) in
      let was : slice_index_or old k None ≡ o = get_or_from_slice_get old k o None (ap (slice_get old) (sym eq) ∙ here) in
      ap (slice_get new) eq ∙ (ap (λ xs. slice_get xs k) set ∙ (set_same old k (Some (earlier_of edges (slice_index_or old k None) e)) low
      ∙ (ap (λ x. Some (Some (earlier_of edges x e))) was ∙ ap (λ b. Some (first_with edges b o e)) (sym on))))
  | inr other ↦
      let off : counts_with c f ≡ false = ap (counts_with c) is ∙ ne_eqb c counter (λ eq. other (eq ∙ sym same)) in
      ap (λ xs. slice_get xs c) set ∙ (set_other old k c (Some (earlier_of edges (slice_index_or old k None) e)) other ∙ (here ∙ ap (λ b. Some (first_with edges b o e)) (sym off)))
]

pub within_one : (edges : List Edge) (old new : List (Option ℕ)) (k e : ℕ) → AreEdgesWithin (length edges) old → k < length old → e < length edges → new ≡ slice_set old k (Some (earlier_of edges (slice_index_or old k None) e)) → AreEdgesWithin (length edges) new
within_one edges old new k e before low lt set = λ c d here. elim (cases_eq c k) [
  | inl eq ↦
      let there : Some (Some (earlier_of edges (slice_index_or old k None) e)) ≡ Some (Some d) = sym (set_same old k (Some (earlier_of edges (slice_index_or old k None) e)) low) ∙ (sym (ap (λ xs. slice_get xs k) set) ∙ (sym (ap (slice_get new) eq) ∙ here)) in
      let same : earlier_of edges (slice_index_or old k None) e ≡ d = cc in
      subst (λ x. x < length edges) same (earlier_within edges (slice_index_or old k None) e (length edges) lt (λ b is. before k b (slice_get-get_or old k None low ∙ ap Some is)))
  | inr other ↦ before c d (sym (set_other old k c (Some (earlier_of edges (slice_index_or old k None) e)) other) ∙ (sym (ap (λ xs. slice_get xs c) set) ∙ here))
]

-- ---- one edge more

skip_one : (edges : List Edge) (Is : ℕ → Type 0) (n : ℕ) (o : Option ℕ) → (Is n → ⊥) → IsFirstOfEdges edges Is n o → IsFirstOfEdges edges Is (n + 1) o
skip_one edges Is n None fails h = λ e lt is. ⊎_elim (λ low. h e low is) (λ same. fails (subst Is same is)) (below_or_last e n lt)
skip_one edges Is n (Some b) fails h = (let low = h.0 in omega (arith, low), h.1, λ e lt is. ⊎_elim (λ low. h.2 e low is) (λ same. absurd (fails (subst Is same is))) (below_or_last e n lt))

take_it : (edges : List Edge) (Is : ℕ → Type 0) (n : ℕ) (o : Option ℕ) → Is n → IsFirstOfEdges edges Is n o → IsFirstOfEdges edges Is (n + 1) (Some (earlier_of edges o n))
take_it edges Is n None is h = (omega arith, is, λ e lt also. ⊎_elim (λ low. absurd (h e low also)) (λ same. ap (λ x. is_before edges x n) same ∙ not_itself edges n) (below_or_last e n lt))
take_it edges Is n (Some b) is h =
    elim (cases_Bool (is_before edges n b)) [
      | inl holds ↦
          subst (λ x. IsFirstOfEdges edges Is (n + 1) (Some x)) (sym (cond-true (is_before edges n b) n b holds)) (
            omega arith,
            is,
            λ e lt also. ⊎_elim
                (λ low. elim (cases_Bool (is_before edges e n)) [
                  | inr fails ↦ fails
                  | inl before ↦ absurd (both_ways (is_before edges e b) (h.2 e low also) (before_both edges e n b before holds))
                ])
                (λ same. ap (λ x. is_before edges x n) same ∙ not_itself edges n) (below_or_last e n lt),
          )
      | inr fails ↦
          subst (λ x. IsFirstOfEdges edges Is (n + 1) (Some x)) (sym (cond-false (is_before edges n b) n b fails))
          (let low = h.0 in omega (arith, low), h.1, λ e lt also. ⊎_elim (λ low. h.2 e low also) (λ same. ap (λ x. is_before edges x b) same ∙ fails) (below_or_last e n lt))
    ]

with_edge : (edges : List Edge) (Is : ℕ → Type 0) (n : ℕ) (o : Option ℕ) (b : Bool) → (b ≡ true → Is n) → (Is n → b ≡ true) → IsFirstOfEdges edges Is n o → IsFirstOfEdges edges Is (n + 1) (first_with edges b o n)
with_edge edges Is n o true to from h = take_it edges Is n o (to refl) h
with_edge edges Is n o false to from h = skip_one edges Is n o (λ is. let bad = from is in absurd cc) h

-- an edge that is no back edge
pub firsts_skip : (edges : List Edge) (backs : List (Option ℕ)) (on : ℕ → List ForeignFragment) (n : ℕ) (firsts : List (Option ℕ)) → slice_get backs n ≡ Some None → AreFirstsBelow edges backs on n firsts → AreFirstsBelow edges backs on (n + 1) firsts
firsts_skip edges backs on n firsts plain h = λ c o here. skip_one edges (CountsOn backs on c) n o (λ is. let e = sym plain ∙ is.back in absurd cc) (h c o here)

old_there : (xs ys : List (Option ℕ)) (c : ℕ) (o : Option ℕ) → length xs ≡ length ys → slice_get ys c ≡ Some o → (p : Option ℕ) × (slice_get xs c ≡ Some p)
old_there [] [] c o e here = absurd cc
old_there [] (y ∷ ys) c o e here = absurd (omega (arith, e))
old_there (x ∷ xs) [] c o e here = absurd cc
old_there (x ∷ xs) (y ∷ ys) zero o e here = (x, refl)
old_there (x ∷ xs) (y ∷ ys) (suc c) o e here = old_there xs ys c o (omega (arith, e)) here

-- a back edge, with its fragments
pub firsts_more : (edges : List Edge) (backs : List (Option ℕ)) (on : ℕ → List ForeignFragment) (n loop : ℕ) (fs : List ForeignFragment) (old new : List (Option ℕ)) → slice_get backs n ≡ Some (Some loop) → fs ≡ on n
    → length old ≡ length new → ((c : ℕ) (o : Option ℕ) → slice_get old c ≡ Some o → slice_get new c ≡ Some (first_with edges (count_in c fs) o n)) → AreFirstsBelow edges backs on n old → AreFirstsBelow edges backs on (n + 1) new
firsts_more edges backs on n loop fs old new back are size taken h = λ c o here.
    let was = old_there old new c o size here in
    let new_is : o ≡ first_with edges (count_in c fs) was.0 n = same_some o (first_with edges (count_in c fs) was.0 n) (sym here ∙ taken c was.0 was.1) in
    subst (IsFirstOfEdges edges (CountsOn backs on c) (n + 1)) (sym new_is)
    (with_edge edges (CountsOn backs on c) n was.0 (count_in c fs) (λ holds. record { loop = loop; back = back; counts = ap (count_in c) (sym are) ∙ holds }) (λ is. ap (count_in c) are ∙ is.counts) (h c was.0 was.1))

-- ---- limits

pub limits_are : (edges : List Edge) (backs : List (Option ℕ)) (bounds : List ℕ) (on : ℕ → List ForeignFragment) (firsts : List (Option ℕ)) (limits : List ℕ) → AreFirstsBelow edges backs on (length edges) firsts
    → limits ≡ map (limit_of backs bounds) firsts → AreCountLimits edges backs bounds on limits
limits_are edges backs bounds on firsts limits h are = λ c n here.
    let m = mapped_from (limit_of backs bounds) (slice_get firsts c) n (sym (slice_get-map (limit_of backs bounds) firsts c) ∙ (ap (λ xs. slice_get xs c) (sym are) ∙ here)) in
    (m.0, h c m.0 m.1, sym m.2)

-- the fragments by the number of an edge
pub numbered_here : (sources : List ℕ) (edges : List Edge) (sites : List Site) (e k : ℕ) (edge : Edge) → slice_get sources e ≡ Some k → slice_get edges e ≡ Some edge → numbered_fragments sources edges sites e ≡ site_fragments (slice_get sites k) edge.kind
numbered_here sources edges sites e k edge there here = ap (λ o. numbered_at sites o (slice_get edges e)) there ∙ ap (numbered_at sites (Some k)) here
