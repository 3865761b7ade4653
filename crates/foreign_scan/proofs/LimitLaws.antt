-- How far counters count, as the rule on rows has it.
use Rattle.std.proofs.Common.{◌≡◌, ℕ, zero, suc, ◌/◌, ◌^◌, ◌<◌, true, inl, inr, ⊎_elim, List, [], ◌∷◌, length, Option, Some, None, refl, sym, ap, ◌∙◌, subst, arith}
use Rattle.std.specs.Prelude.{slice_get}
use Rattle.std.proofs.Math.Nat.{zero-div}
use Rattle.std.proofs.lemmas.Bool.{cases_order, both_ways, or_cases, or_left, or_right, eqb-true, eq-eqb}
use Rattle.std.proofs.lemmas.Option.{slice_get_within}
use Rattle.cost_theory.specs.Graph.{Loops}
use Rattle.cost_theory.specs.Reached.{Code, edge_to, edge_at}
use Rattle.code_text.specs.Text.{text_of}
use Rattle.code_text.specs.TextGraph.{text_graph}
use Rattle.scale_base.specs.declared.edges.Edge.{Edge}
use Rattle.scale_base.specs.declared.edges.EdgeKind.{EdgeKind}
use Rattle.scale_base.specs.declared.edges.EdgeKind.TheVariants.{Taken, Untaken, Jump, Next, CallNext, End}
use Rattle.scale_base.specs.Image.{Image}
use Rattle.foreign_scan.specs.declared.fragment.ForeignFragment.{ForeignFragment}
use Rattle.foreign_scan.specs.declared.fragment.ForeignFragment.TheVariants.{Switch, Exit, Reset, Count}
use Rattle.foreign_scan.specs.declared.site.Site.{Site}
use Rattle.foreign_scan.specs.declared.stub.StubFragments.{StubFragments}
use Rattle.foreign_scan.specs.declared.stub.StubFragments.TheVariants as stub
use Rattle.foreign_scan.specs.Counts.{count_in, counts_with, numbered_at, numbered_fragments, is_before, bound_at, limit_of, CountsOn, IsFirstOfEdges}
use Rattle.foreign_scan.specs.Scanned.{IsOn, kind_place, ComesBefore, IsCountedAt, IsFirstCounted, IsLastRow}
use Rattle.foreign_scan.specs.declared.lists.GraphLists.{GraphLists}
use Rattle.foreign_scan.specs.Lists.{AreListsOf}
use Rattle.foreign_scan.specs.Sites.{AreWordSites, site_fragments, found_in}
use Rattle.foreign_scan.specs.Stubs.{fragments_of}
use Rattle.foreign_scan.proofs.CountLaws.{test_to}
use Rattle.foreign_scan.proofs.ListLaws.{get_there}
use Rattle.foreign_scan.proofs.EdgeLaws.{edges_same, same_header}
use Rattle.foreign_scan.proofs.FoundLaws.{found_at, site_there, held_stub, kept_changed, kept_form}
use Rattle.foreign_scan.proofs.ReadLaws.{same_some}

-- ---- a count among fragments

count_is : (c : ℕ) (f : ForeignFragment) → counts_with c f ≡ true → f ≡ Count c
count_is c (Count counter) e = ap Count (sym (eqb-true c counter e))
count_is c (Switch word) e = absurd cc
count_is c (Exit counter shift table) e = absurd cc
count_is c (Reset counter) e = absurd cc

pub count_on : (c : ℕ) (fs : List ForeignFragment) → count_in c fs ≡ true → IsOn (Count c) fs
count_on c [] e = absurd cc
count_on c (f ∷ fs) e =
    elim (or_cases (counts_with c f) (count_in c fs) e) [
      | inl here ↦ (0, ap Some (count_is c f here))
      | inr there ↦ let r = count_on c fs there in (suc r.0, r.1)
    ]

counts_itself : (c : ℕ) → counts_with c (Count c) ≡ true
counts_itself c = eq-eqb c c refl

on_at : (c : ℕ) (fs : List ForeignFragment) (i : ℕ) → slice_get fs i ≡ Some (Count c) → count_in c fs ≡ true
on_at c [] i e = absurd cc
on_at c (f ∷ fs) zero e = or_left (counts_with c f) (count_in c fs) (ap (counts_with c) (same_some f (Count c) e) ∙ counts_itself c)
on_at c (f ∷ fs) (suc i) e = or_right (counts_with c f) (count_in c fs) (on_at c fs i e)

pub on_count : (c : ℕ) (fs : List ForeignFragment) → IsOn (Count c) fs → count_in c fs ≡ true
on_count c fs on = on_at c fs on.0 on.1

-- ---- the kinds for which a stub holds something are told apart by their places

holds_none : {P : Type 0} (f : ForeignFragment) (i : ℕ) → slice_get {X = ForeignFragment} [] i ≡ Some f → P
holds_none f i e = absurd cc

kinds_by_place : (s : StubFragments) (a b : EdgeKind) (f g : ForeignFragment) → IsOn f (fragments_of s a) → IsOn g (fragments_of s b) → kind_place a ≡ kind_place b → a ≡ b
kinds_by_place (stub.Branch untaken taken) Untaken Untaken f g x y e = refl
kinds_by_place (stub.Branch untaken taken) Taken Taken f g x y e = refl
kinds_by_place (stub.Branch untaken taken) Untaken Taken f g x y e = absurd (omega (arith, e))
kinds_by_place (stub.Branch untaken taken) Taken Untaken f g x y e = absurd (omega (arith, e))
kinds_by_place (stub.Branch untaken taken) a Jump f g x y e = holds_none g y.0 y.1
kinds_by_place (stub.Branch untaken taken) a Next f g x y e = holds_none g y.0 y.1
kinds_by_place (stub.Branch untaken taken) a CallNext f g x y e = holds_none g y.0 y.1
kinds_by_place (stub.Branch untaken taken) a End f g x y e = holds_none g y.0 y.1
kinds_by_place (stub.Branch untaken taken) Jump b f g x y e = holds_none f x.0 x.1
kinds_by_place (stub.Branch untaken taken) Next b f g x y e = holds_none f x.0 x.1
kinds_by_place (stub.Branch untaken taken) CallNext b f g x y e = holds_none f x.0 x.1
kinds_by_place (stub.Branch untaken taken) End b f g x y e = holds_none f x.0 x.1
kinds_by_place (stub.Jump fragments) Jump Jump f g x y e = refl
kinds_by_place (stub.Jump fragments) a Untaken f g x y e = holds_none g y.0 y.1
kinds_by_place (stub.Jump fragments) a Taken f g x y e = holds_none g y.0 y.1
kinds_by_place (stub.Jump fragments) a Next f g x y e = holds_none g y.0 y.1
kinds_by_place (stub.Jump fragments) a CallNext f g x y e = holds_none g y.0 y.1
kinds_by_place (stub.Jump fragments) a End f g x y e = holds_none g y.0 y.1
kinds_by_place (stub.Jump fragments) Untaken b f g x y e = holds_none f x.0 x.1
kinds_by_place (stub.Jump fragments) Taken b f g x y e = holds_none f x.0 x.1
kinds_by_place (stub.Jump fragments) Next b f g x y e = holds_none f x.0 x.1
kinds_by_place (stub.Jump fragments) CallNext b f g x y e = holds_none f x.0 x.1
kinds_by_place (stub.Jump fragments) End b f g x y e = holds_none f x.0 x.1

-- edges of which neither comes before the other stand at one address, at one place
not_before : (x y : Edge) → (ComesBefore x y → ⊥) → (ComesBefore y x → ⊥) → (x.at ≡ y.at) × (kind_place x.kind ≡ kind_place y.kind)
not_before x y p q =
    let at : x.at ≡ y.at = elim (cases_order x.at y.at) [ inl e ↦ e | inr either ↦ absurd (⊎_elim (λ low. p (inl low)) (λ high. q (inl high)) either) ] in (
      at,
      elim (cases_order (kind_place x.kind) (kind_place y.kind)) [
        | inl e ↦ e
        | inr either ↦ absurd (⊎_elim (λ low. p (inr (at, low))) (λ high. q (inr (sym at, high))) either)
      ],
    )

module _ (original foreign : Image) (code : Code) (l : Loops) (lists : GraphLists) (all : AreListsOf original code l lists) (sites : List Site) (known : AreWordSites original foreign code.nodes sites) where
  -- the fragments by the number of an edge are those that are found on it
  numbered_is : (e : ℕ) (edge : Edge) → slice_get code.edges e ≡ Some edge → numbered_fragments lists.sources.now code.edges sites e ≡ found_in code.nodes sites edge.at edge.kind
  numbered_is e edge there =
      let k = get_there lists.sources.now e (let lt = slice_get_within code.edges e edge there in let size = all.sources_size in omega (arith, lt, size)) in
      let node : slice_get code.nodes k.0 ≡ Some edge.at = all.source e k.0 k.1 ∙ ap (λ o. Some (edge_at o)) there in
      let site = site_there original foreign code all.reached sites known k.0 edge.at node in
      ap (λ o. numbered_at sites o (slice_get code.edges e)) k.1
      ∙ (ap (numbered_at sites (Some k.0)) there
      ∙ (ap (λ o. site_fragments o edge.kind) site.1
      ∙ sym (ap (λ (fs : EdgeKind → List ForeignFragment). fs edge.kind) (found_at original foreign code all.reached sites known k.0 edge.at site.0 node site.1))))

  -- an edge on which a counter counts is counted
  counted_to : (c e : ℕ) → CountsOn lists.backs.now (numbered_fragments lists.sources.now code.edges sites) c e
      → (k : ℕ) × (edge : Edge) × IsCountedAt original foreign code l (found_in code.nodes sites) c k e edge × (slice_get lists.backs.now e ≡ Some (Some k))
  counted_to c e on =
      let b = (all.back e on.loop).0 on.back in
      let edge = get_there code.edges e b.0 in
      let count = count_on c (found_in code.nodes sites edge.0.at edge.0.kind) (ap (count_in c) (sym (numbered_is e edge.0 edge.1)) ∙ on.counts) in
      let held = held_stub original foreign code all.reached sites known edge.0.at edge.0.kind (Count c) count in (
        on.loop,
        edge.0,
        record {
          there = edge.1;
          low = b.1;
          back = b.2;
          changed = kept_changed original foreign code all.reached sites known held.0 edge.0.at held.1 held.2 held.3;
          form = kept_form original foreign code (found_in code.nodes sites) edge.0.at held.1 held.3 held.4;
          counts = count;
        },
        on.back,
      )

  counted_from : (c k e : ℕ) (edge : Edge) → IsCountedAt original foreign code l (found_in code.nodes sites) c k e edge → CountsOn lists.backs.now (numbered_fragments lists.sources.now code.edges sites) c e
  counted_from c k e edge h = record {
    loop = k;
    back = (all.back e k).1 (slice_get_within code.edges e edge h.there, h.low, h.back);
    counts = ap (count_in c) (numbered_is e edge h.there) ∙ on_count c (found_in code.nodes sites edge.at edge.kind) h.counts;
  }

  -- of the edges on which a counter counts, two that none comes before are back edges of one loop
  one_loop : (c j k d e : ℕ) (x y : Edge) → IsCountedAt original foreign code l (found_in code.nodes sites) c j d x → IsCountedAt original foreign code l (found_in code.nodes sites) c k e y
      → (ComesBefore x y → ⊥) → (ComesBefore y x → ⊥) → j ≡ k
  one_loop c j k d e x y p q fails nor =
      let near = not_before x y fails nor in
      let a = held_stub original foreign code all.reached sites known x.at x.kind (Count c) p.counts in
      let on_y : IsOn (Count c) (fragments_of a.1 y.kind) = subst (λ (fs : EdgeKind → List ForeignFragment). IsOn (Count c) (fs y.kind)) (ap (found_in code.nodes sites) (sym near.0) ∙ a.4) q.counts in
      let on_x : IsOn (Count c) (fragments_of a.1 x.kind) = subst (λ (fs : EdgeKind → List ForeignFragment). IsOn (Count c) (fs x.kind)) a.4 p.counts in
      let kind = kinds_by_place a.1 x.kind y.kind (Count c) (Count c) on_x on_y near.1 in
      let same = edges_same original code all.reached d e x y p.there q.there near.0 kind in
      let g = text_graph (text_of original) code in
      let target : edge_to (slice_get code.edges d) ≡ edge_to (slice_get code.edges e) = ap edge_to (p.there ∙ (ap Some same ∙ sym q.there)) in
      let header = same_header l j k (g.source d) (g.source e) (g.target d) (g.target e) target p.back q.back in
      all.distinct j k p.low q.low header

  -- the first edge on which a counter counts
  first_counted : (c b : ℕ) → IsFirstOfEdges code.edges (CountsOn lists.backs.now (numbered_fragments lists.sources.now code.edges sites) c) (length code.edges) (Some b)
      → (k : ℕ) × IsFirstCounted original foreign code l (found_in code.nodes sites) c k × (slice_get lists.backs.now b ≡ Some (Some k)) × (k < l.loops)
  first_counted c b first =
      let to = counted_to c b first.1 in (
        to.0,
        record {
          e = b;
          edge = to.1;
          counted = to.2;
          first = λ j d other h before.
              let low = slice_get_within code.edges d other h.there in
              both_ways (is_before code.edges d b) (first.2 d low (counted_from c j d other h)) (test_to code.edges d b other to.1 h.there to.2.there before);
        },
        to.3,
        to.2.low,
      )

  limit_bound : (k b n : ℕ) → slice_get lists.backs.now b ≡ Some (Some k) → k < l.loops → n ≡ limit_of lists.backs.now lists.bounds.now (Some b) → n ≡ l.bound k
  limit_bound k b n back low e = e ∙ (ap (bound_at lists.bounds.now) back ∙ all.bound k low)

  pub last_row_there : (c n shift : ℕ) (o : Option ℕ) → IsFirstOfEdges code.edges (CountsOn lists.backs.now (numbered_fragments lists.sources.now code.edges sites) c) (length code.edges) o → n ≡ limit_of lists.backs.now lists.bounds.now o
      → IsLastRow original foreign code l (found_in code.nodes sites) c shift (n / 2 ^ shift)
  last_row_there c n shift None first e = inr (
    λ k h. let on = counted_from c k h.e h.edge h.counted in first h.e (slice_get_within code.edges h.e h.edge h.counted.there) on,
    ap (λ m. m / 2 ^ shift) e ∙ zero-div (2 ^ shift),
  )
  last_row_there c n shift (Some b) first e = let f = first_counted c b first in inl (f.0, f.1, ap (λ m. m / 2 ^ shift) (limit_bound f.0 b n f.2 f.3 e))

  pub last_row_only : (c n shift last : ℕ) (o : Option ℕ) → IsFirstOfEdges code.edges (CountsOn lists.backs.now (numbered_fragments lists.sources.now code.edges sites) c) (length code.edges) o → n ≡ limit_of lists.backs.now lists.bounds.now o
      → IsLastRow original foreign code l (found_in code.nodes sites) c shift last → last ≡ n / 2 ^ shift
  last_row_only c n shift last None first e (inl h) = let on = counted_from c h.0 h.1.e h.1.edge h.1.counted in absurd (first h.1.e (slice_get_within code.edges h.1.e h.1.edge h.1.counted.there) on)
  last_row_only c n shift last None first e (inr h) = h.1 ∙ sym (ap (λ m. m / 2 ^ shift) e ∙ zero-div (2 ^ shift))
  last_row_only c n shift last (Some b) first e (inl h) =
      let f = first_counted c b first in
      let same : h.0 ≡ f.0 = one_loop c h.0 f.0 h.1.e f.1.e h.1.edge f.1.edge h.1.counted f.1.counted (λ before. f.1.first h.0 h.1.e h.1.edge h.1.counted before) (λ before. h.1.first f.0 f.1.e f.1.edge f.1.counted before) in
      h.2 ∙ (ap (λ k. l.bound k / 2 ^ shift) same ∙ sym (ap (λ m. m / 2 ^ shift) (limit_bound f.0 b n f.2 f.3 e)))
  last_row_only c n shift last (Some b) first e (inr h) = let f = first_counted c b first in absurd (h.0 f.0 f.1)
