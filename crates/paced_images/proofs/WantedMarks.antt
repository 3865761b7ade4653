-- The marks that flags choose, in the forms that flags tell, are those that are wanted.
use Rattle.std.proofs.Common.{◌≡◌, ℕ, zero, suc, ◌-◌, ◌<◌, Bool, true, false, List, [], ◌∷◌, map, length, slice_get, Option, Some, None, Result, Ok, Err, refl, sym, ap, ◌∙◌}
use Rattle.std.specs.Prelude.{slice_index, ◌||◌, ◌==◌, IfOk}
use Rattle.std.proofs.Math.Path.{fun_ext}
use Rattle.std.specs.List.{list_any}
use Rattle.std.proofs.lemmas.Bool.{and_parts}
use Rattle.std.proofs.lemmas.Option.{get_or_from_slice_get}
use Rattle.scale_base.specs.declared.edges.Edge.{Edge}
use Rattle.scale_base.specs.declared.edges.EdgeKind.{EdgeKind}
use Rattle.scale_base.specs.declared.edges.EdgeKind.TheVariants.{Taken, Untaken, Jump, Next, CallNext, End}
use Rattle.flow_graph.specs.FlowGraph.{FlowGraph, graph}
use Rattle.loop_forest.specs.Tree.{LoopView, loops}
use Rattle.scale_sites.specs.Counters.{AreCounters, counted_loops}
use Rattle.scale_base.specs.declared.fragments.Mark.{Mark}
use Rattle.scale_sites.specs.Forms.{formed, formed_where, tallied_by}
use Rattle.scale_sites.specs.Marks.{marks_of}
use Rattle.scale_sites.specs.Sites.{SitesView, AreSitesBy, AreWantedSites, is_branch, flag_at, marks_where, marks_at_edge}
use Rattle.scale_sites.specs.Weights.{jumps_of}
use Rattle.marked_images.proofs.Laws.{jumps_same}
use Rattle.paced_images.specs.declared.wanted.SwitchSite.{SwitchSite}
use Rattle.paced_images.specs.Flags.{AreFlags, AreLowest, AreTallied}
use Rattle.marked_images.specs.Wanted.{ChoosesSites, IsSitesKind, marked_where}
use Rattle.marked_images.specs.Scalings.{HasMarks}
use Rattle.paced_images.specs.Wanted.{same_kind, names, any_names, wanted_by, lowest_by, header_tallied, is_tallied, wanted_of}

-- ---- wanted edges are of branches and of jumps

kind_of : (k other : EdgeKind) → same_kind k other ≡ true → IsSitesKind k
kind_of Taken other h = tt
kind_of Untaken other h = tt
kind_of Jump other h = tt
kind_of Next other h = cc
kind_of CallNext other h = cc
kind_of End other h = cc

any_kind : (sites : List SwitchSite) (edge : Edge) → list_any (λ site. names site edge) sites ≡ true → IsSitesKind edge.kind
any_kind [] edge h = let never : ⊥ = cc in absurd never
any_kind (s ∷ sites) edge h = by (names s edge) refl (any_kind sites edge)
  where
    by : (b : Bool) → names s edge ≡ b → (list_any (λ site. names site edge) sites ≡ true → IsSitesKind edge.kind) → IsSitesKind edge.kind
    by true on rest = kind_of edge.kind s.kind (and_parts (s.at == edge.at) (same_kind edge.kind s.kind) on).1
    by false off rest = rest (sym (ap (λ b. b || list_any (λ site. names site edge) sites) off) ∙ h)

pub chooses : (v : FlowGraph) (sites : List SwitchSite) → ChoosesSites v (wanted_by v sites)
chooses v sites e on = by (slice_get v.code.edges e) refl on
  where
    by : (o : Option Edge) → slice_get v.code.edges e ≡ o → any_names sites o ≡ true → (edge : Edge) × (slice_get v.code.edges e ≡ Some edge) × IsSitesKind edge.kind
    by None get on = let never : ⊥ = cc in absurd never
    by (Some edge) get on = (edge, get, any_kind sites edge on)

-- what follows of a result where it is one
pub if_ok : {A E : Type 0} (P Q : A → Type 0) (r : Result A E) → ((x : A) → P x → Q x) → IfOk r P → IfOk r Q
if_ok P Q (Ok x) f h = f x h
if_ok P Q (Err e) f h = tt

-- ---- the marks

-- a flag of a counter, by the place of its loop
flag_by : (f : ℕ → Bool) (ks : List ℕ) (i : ℕ) (g : Option ℕ → Bool) → g None ≡ false → ((k : ℕ) → g (Some k) ≡ f k) → flag_at (map f ks) i ≡ g (slice_get ks i)
flag_by f [] i g none some = sym none
flag_by f (k ∷ ks) zero g none some = sym (some k)
flag_by f (k ∷ ks) (suc i) g none some = flag_by f ks i g none some

pub has_marks : (v : FlowGraph) (t : LoopView) (sites : List SwitchSite) (tallied : List ℕ) (counted : List ℕ) (flags low tally : List Bool) (plain s : SitesView) → AreCounters v t (Ok counted) → AreFlags v sites (length v.code.edges) flags → AreLowest v sites (length v.code.edges) low → AreTallied v t tallied tally
    → AreWantedSites v t counted flags plain → ((marked : ℕ → List Mark) → AreSitesBy v marked plain → AreSitesBy v (formed_where low tally marked) s) → HasMarks v t (wanted_of v t sites tallied) s
has_marks v t sites tallied counted flags low tally plain s counters are lowest_are tallied_are bare forms = record { kinds = chooses v sites; size = given.marks_size; marks = marks; jumps = jumps }
  where
    given : AreSitesBy v (formed_where low tally (marks_where v t counted (flag_at flags))) s
    given = forms (marks_where v t counted (flag_at flags)) bare

    same : counted ≡ counted_loops t
    same = counters.1

    flags_same : tallied_by tally ≡ is_tallied v t tallied
    flags_same = fun_ext (λ i. ap (λ fs. flag_at fs (i - 2)) tallied_are ∙ flag_by (λ k. header_tallied v t tallied (Some k)) (counted_loops t) (i - 2) (header_tallied v t tallied) refl (λ k. refl))

    bare_same : (e : ℕ) → e < length v.code.edges → marks_where v t counted (flag_at flags) e ≡ marks_where v t (counted_loops t) (wanted_by v sites) e
    bare_same e lt = ap (λ cs. marks_where v t cs (flag_at flags) e) same
        ∙ ap (λ b. marks_of (graph v) (loops v t) (counted_loops t) b 0 0 e) (get_or_from_slice_get flags e (wanted_by v sites e) false (are.each e lt))

    marks : (e : ℕ) → e < length v.code.edges → marks_at_edge s e ≡ marked_where v t (wanted_of v t sites tallied) e
    marks e lt =
        get_or_from_slice_get s.marks e (formed_where low tally (marks_where v t counted (flag_at flags)) e) [] (given.marks e lt)
        ∙ (ap (λ b. formed b (tallied_by tally) (marks_where v t counted (flag_at flags) e)) (get_or_from_slice_get low e (lowest_by v sites e) false (lowest_are.each e lt))
        ∙ (ap (λ f. formed (lowest_by v sites e) f (marks_where v t counted (flag_at flags) e)) flags_same
        ∙ ap (formed (lowest_by v sites e) (is_tallied v t tallied)) (bare_same e lt)))

    jumps : (e : ℕ) → e < length v.code.edges → slice_index s.jumps e ≡ jumps_of (graph v) (is_branch v) (marked_where v t (wanted_of v t sites tallied)) e
    jumps e lt = get_or_from_slice_get s.jumps e (jumps_of (graph v) (is_branch v) (marks_at_edge s) e) 0 (given.jumps e lt) ∙ jumps_same (graph v) (is_branch v) (marks_at_edge s) (marked_where v t (wanted_of v t sites tallied)) e marks
