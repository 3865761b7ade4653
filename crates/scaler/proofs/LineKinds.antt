-- The lines of a plan are of edges of branches and of jumps.
use Rattle.std.proofs.Common.{◌≡◌, ◌≢◌, ℕ, suc, ◌+◌, List, [], ◌∷◌, map, slice_get, Some, refl, sym, subst, arith}
use Rattle.std.specs.Prelude.{All}
use Rattle.std.proofs.lemmas.List.Elements.{All-nil, All-cons, All-append}
use Rattle.scale_base.specs.declared.fragments.Fragment.{Fragment}
use Rattle.scale_base.specs.declared.plan.SiteLine.{SiteLine}
use Rattle.scale_base.specs.declared.edges.Edge.{Edge}
use Rattle.scale_sites.specs.Counters.{counted_loops}
use Rattle.rewritten_runs.specs.Stubs.{marks_by_slack, fragments_at, IsWeighedWith}
use Rattle.scale_base.specs.declared.fragments.Mark.{Mark}
use Rattle.marked_images.specs.Wanted.{IsSitesKind, marked_where}
use Rattle.marked_images.proofs.Laws.{map_none, marked_kind}
use Rattle.scaler.specs.Planned.{HasLines, line_of, lines_from}
use Rattle.scaler.specs.Scalings.{wanted_by_slack}
use Rattle.scaler.proofs.SlackMarks.{chooses, marks_are}

abbrev IsOfSite : SiteLine → Type 0
IsOfSite line = IsSitesKind line.edge.kind

of_edge : (counted : List ℕ) (x : Edge) (fragments : List Fragment) → (fragments ≢ [] → IsSitesKind x.kind) → All IsOfSite (map (line_of counted x) fragments)
of_edge counted x [] h = All-nil IsOfSite
of_edge counted x (f ∷ fs) h =
    let kind : IsSitesKind x.kind = h (λ none. let never : ⊥ = cc in never) in
    All-cons IsOfSite (line_of counted x f) (map (line_of counted x) fs) kind (of_edge counted x fs (λ some. kind))

of_edges : (counted : List ℕ) (fragments : ℕ → List Fragment) (k : ℕ) (edges : List Edge) → ((i : ℕ) (x : Edge) → slice_get edges i ≡ Some x → fragments (k + i) ≢ [] → IsSitesKind x.kind) → All IsOfSite (lines_from counted fragments k edges)
of_edges counted fragments k [] h = All-nil IsOfSite
of_edges counted fragments k (x ∷ edges) h =
    let here : k ≡ k + 0 = omega arith in
    All-append IsOfSite (map (line_of counted x) (fragments k)) (lines_from counted fragments (k + 1) edges)
    (of_edge counted x (fragments k) (λ some. h 0 x refl (subst (λ n. fragments n ≢ []) here some)))
    (of_edges counted fragments (k + 1) edges (λ i y at some. let next : k + 1 + i ≡ k + suc i = omega arith in h (suc i) y at (subst (λ n. fragments n ≢ []) next some)))

pub lines_of_sites : (image machine loop_file : List ℕ) (lines : List SiteLine) → HasLines image machine loop_file lines → All (λ line. IsSitesKind line.edge.kind) lines
lines_of_sites image machine loop_file lines h =
    let marked = marks_by_slack h.power h.original h.code h.tree h.plain in
    let fragments = fragments_at h.power h.original h.code h.tree marked h.stored h.least in
    subst (All IsOfSite) (sym h.lines_are)
    (of_edges (counted_loops h.tree) fragments 0 h.code.code.edges (λ i x at some.
    let here : 0 + i ≡ i = omega arith in
    let own : fragments i ≢ [] = subst (λ n. fragments n ≢ []) here some in
    let wanted = wanted_by_slack h.power h.original h.code h.tree h.plain in
    let same : marks_by_slack h.power h.original h.code h.tree h.plain ≡ marked_where h.code h.tree wanted = sym (marks_are h.power h.original h.code h.tree h.plain) in
    let weighed : IsWeighedWith h.power h.original h.notes h.code h.tree (marks_by_slack h.power h.original h.code h.tree h.plain) h.stored =
    record { code_is = h.weighed.code_is; tree_is = h.weighed.tree_is; counters = h.weighed.counters; stored_are = h.weighed.stored_are } in
    let some_wanted : marked_where h.code h.tree wanted i ≢ [] = subst (λ (m : ℕ → List Mark). m i ≢ []) same (λ none. own (map_none _ _ none)) in
    marked_kind h.power h.original h.notes h.code h.tree wanted h.stored (subst (λ (m : ℕ → List Mark). IsWeighedWith h.power h.original h.notes h.code h.tree m h.stored) same weighed) (chooses h.power h.original h.code h.tree h.plain) i x at some_wanted))
