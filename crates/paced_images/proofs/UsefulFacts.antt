-- The sites that are of use, edge by edge and level by level.
use Rattle.std.proofs.Common.{◌≡◌, ℕ, suc, ◌+◌, ◌<◌, ◌≤◌, Bool, true, false, cond, ◌&&◌, List, [], ◌∷◌, ◌++◌, length, take, slice_get, Option, Some, refl, sym, ap, ◌∙◌, arith, ⊎_elim}
use Rattle.std.specs.Prelude.{◌||◌, slice_index_or}
use Rattle.std.specs.List.{filter, list_any}
use Rattle.std.proofs.lemmas.Bool.{cases_lt, false_from_ne_true}
use Rattle.std.proofs.lemmas.List.Elements.{filter_more}
use Rattle.power_model.specs.Numbers.{PowerModel}
use Rattle.scale_base.specs.declared.edges.Edge.{Edge}
use Rattle.scale_base.specs.declared.fragments.Mark.{Mark}
use Rattle.scale_base.specs.declared.fragments.Mark.TheVariants as marks
use Rattle.scale_sites.specs.Sites.{marks_at_edge}
use Rattle.scale_sites.specs.Weights.{switches}
use Rattle.level_tables.specs.declared.edge_numbers.EdgeNumbers.{EdgeNumbers}
use Rattle.marked_images.proofs.Laws.{IsLoud, marking_switches}
use Rattle.paced_images.specs.Useful.{is_site_mark, lowers_some}
use Rattle.flow_graph.specs.FlowGraph.{FlowGraph}
use Rattle.loop_forest.specs.Tree.{LoopView}
use Rattle.marked_images.specs.declared.stubs.Marking.{Marking}
use Rattle.paced_images.specs.declared.wanted.SwitchSite.{SwitchSite}
use Rattle.paced_images.specs.Wanted.{names, names_some}
use Rattle.marked_images.specs.Markings.{HasMarking}

-- ---- the mark of a site among those of an edge

loud : (power : PowerModel) (test : EdgeNumbers → ℕ → ℕ → Bool) (told : EdgeNumbers) (m : Mark) → is_site_mark power test told m ≡ true → IsLoud m
loud power test told marks.Switch on = tt
loud power test told (marks.Exit k) on = tt
loud power test told (marks.Reset k) on = let bad : ⊥ = cc in absurd bad
loud power test told (marks.Count k) on = let bad : ⊥ = cc in absurd bad
loud power test told marks.Lowest on = tt
loud power test told (marks.Tally k) on = tt

pub record IsLoudIn (ms : List Mark) : Type 0 where
  pub place : ℕ
  pub mark : Mark
  pub get : slice_get ms place ≡ Some mark
  pub loud : IsLoud mark

mark_in : (power : PowerModel) (test : EdgeNumbers → ℕ → ℕ → Bool) (told : EdgeNumbers) (ms : List Mark) → list_any (is_site_mark power test told) ms ≡ true → IsLoudIn ms
mark_in power test told [] on = let bad : ⊥ = cc in absurd bad
mark_in power test told (m ∷ ms) on = by (is_site_mark power test told m) refl on (mark_in power test told ms)
  where
    by : (b : Bool) → is_site_mark power test told m ≡ b → (b || list_any (is_site_mark power test told) ms) ≡ true → (list_any (is_site_mark power test told) ms ≡ true → IsLoudIn ms) → IsLoudIn (m ∷ ms)
    by true is q rest = record { place = 0; mark = m; get = refl; loud = loud power test told m is }
    by false is q rest = let r = rest q in record { place = suc r.place; mark = r.mark; get = r.get; loud = r.loud }

-- where the first mark stores no level, no site gave the edge one that does
pub not_lowered : (power : PowerModel) (v : FlowGraph) (t : LoopView) (m : Marking) (h : HasMarking power v t m) (e : ℕ) → e < length v.code.edges → switches (marks_at_edge m.sites e) ≡ false
    → (test : EdgeNumbers → ℕ → ℕ → Bool) (told : EdgeNumbers) (marked : List Mark) (b : Bool) → marks_at_edge m.sites e ≡ marked → false ≡ (list_any (is_site_mark power test told) marked && b)
not_lowered power v t m h e lt off test told marked b same =
    let none : list_any (is_site_mark power test told) (marks_at_edge m.sites e) ≡ false = false_from_ne_true (list_any (is_site_mark power test told) (marks_at_edge m.sites e)) (λ on.
    let at = mark_in power test told (marks_at_edge m.sites e) on in
    let first = marking_switches power h.0 v t h.1 h.2 h.3 m h.4 e at.place at.mark lt at.get at.loud in
    let two : true ≡ false = sym first ∙ off in let bad : ⊥ = cc in bad) in
    sym (ap (λ x. x && b) (ap (list_any (is_site_mark power test told)) (sym same) ∙ none))

-- by what its numbers are shown as
pub lowered_as : (power : PowerModel) (test : EdgeNumbers → ℕ → ℕ → Bool) (start : ℕ) (shown told : EdgeNumbers) (ms marked : List Mark) (a b : Bool) → ms ≡ marked → shown ≡ told → a ≡ list_any (is_site_mark power test shown) ms → b ≡ lowers_some power test start shown
    → (a && b) ≡ (list_any (is_site_mark power test told) marked && lowers_some power test start told)
lowered_as power test start shown told ms marked a b same tells one other =
    ap (λ x. x && b) one ∙ (ap (λ x. list_any (is_site_mark power test shown) ms && x) other
    ∙ (ap (λ xs. list_any (is_site_mark power test shown) xs && lowers_some power test start shown) same
    ∙ ap (λ q. list_any (is_site_mark power test q) marked && lowers_some power test start q) tells))

-- ---- what a site names

pub named_as : (site : SwitchSite) (o : Option Edge) (edge : Edge) (n a b : Bool) → o ≡ Some edge → n ≡ names site edge → n ≡ true → a ≡ b → a ≡ (names_some site o && b)
named_as site o edge n a b get is on e = e ∙ sym (ap (λ q. names_some site q && b) get ∙ ap (λ q. q && b) (sym is ∙ on))

-- ---- one site or one loop more

pub kept_more : {X : Type 0} (p : X → Bool) (xs : List X) (i : ℕ) (d : X) (kept new : List X) (b : Bool) → i < length xs → kept ≡ filter p (take i xs) → b ≡ p (slice_index_or xs i d)
    → new ≡ kept ++ cond b (slice_index_or xs i d ∷ []) [] → new ≡ filter p (take (i + 1) xs)
kept_more p xs i d kept new b lt same is made =
    made ∙ (ap (λ ys. ys ++ cond b (slice_index_or xs i d ∷ []) []) same ∙ (ap (λ q. filter p (take i xs) ++ cond q (slice_index_or xs i d ∷ []) []) is ∙ sym (filter_more p xs i d lt)))

-- ---- one level or one edge more

pub next_none : (n : ℕ) (p : ℕ → Bool) → ((k : ℕ) → k < n → p k ≡ false) → p n ≡ false → (k : ℕ) → k < n + 1 → p k ≡ false
next_none n p below here k lt = ⊎_elim (λ (low : k < n). below k low) (λ (high : n ≤ k). let e : k ≡ n = omega arith in ap p e ∙ here) (cases_lt k n)

pub unnamed : (site : SwitchSite) (o : Option Edge) (b : Bool) → (names_some site o ≡ true → ⊥) → (names_some site o && b) ≡ false
unnamed site o b off = ap (λ q. q && b) (false_from_ne_true (names_some site o) off)
