-- The nodes and kinds of edges.
use Rattle.std.proofs.Common.{◌≡◌, ℕ, ◌+◌, ◌<◌, List, [], ◌∷◌, ◌++◌, length, get_or, Some, sym, ap, ◌∙◌, subst, ⊎_elim, arith, length-append}
use Rattle.std.specs.Prelude.{slice_get}
use Rattle.std.proofs.lemmas.Option.{slice_get-get_or}
use Rattle.scale_base.specs.declared.edges.Edge.{Edge}
use Rattle.scale_base.specs.declared.edges.EdgeKind.{EdgeKind}
use Rattle.foreign_scan.specs.declared.site.Site.{Site}
use Rattle.foreign_scan.specs.declared.sites.EdgePlace.{EdgePlace}
use Rattle.foreign_scan.specs.Shown.{ArePlacesOf, ArePlacesWithin}
use Rattle.foreign_scan.proofs.ListLaws.{get_there}
use Rattle.foreign_scan.proofs.SiteLaws.{get_pushed}

pub record ArePlacesBelow (sources : List ℕ) (edges : List Edge) (n : ℕ) (places : List EdgePlace) : Type 0 where
  pub size : length places ≡ n
  pub each : (e : ℕ) (place : EdgePlace) (edge : Edge) → slice_get places e ≡ Some place → slice_get edges e ≡ Some edge → (slice_get sources e ≡ Some place.node) × (place.kind ≡ edge.kind)

pub places_push : (sources : List ℕ) (edges : List Edge) (n node : ℕ) (kind : EdgeKind) (old new : List EdgePlace) → ArePlacesBelow sources edges n old → slice_get sources n ≡ Some node → ((edge : Edge) → slice_get edges n ≡ Some edge → kind ≡ edge.kind)
    → new ≡ old ++ (record { node = node; kind = kind }) ∷ [] → ArePlacesBelow sources edges (n + 1) new
places_push sources edges n node kind old new h source is added = subst (ArePlacesBelow sources edges (n + 1)) (sym added) (record {
  size = let more = length-append old ((record { node = node; kind = kind }) ∷ []) in let was = h.size in omega (arith, more, was);
  each = λ e place edge here there. ⊎_elim
      (λ before. h.each e place edge before there)
      (λ last. let at : e ≡ n = last.0 ∙ h.size in (
        ap (slice_get sources) at ∙ (source ∙ ap (λ (p : EdgePlace). Some p.node) last.1),
        sym (ap (λ (p : EdgePlace). p.kind) last.1) ∙ is edge (ap (slice_get edges) (sym at) ∙ there),
      )) (get_pushed old (record { node = node; kind = kind }) place e here);
})

pub places_within : (sources : List ℕ) (edges : List Edge) (sites : List Site) (places : List EdgePlace) → ((e k : ℕ) → slice_get sources e ≡ Some k → k < length sites) → ArePlacesOf sources edges places → ArePlacesWithin sites places
places_within sources edges sites places low are = λ k d lt.
    let edge = get_there edges k (let size = are.size in omega (arith, lt, size)) in
    low k (get_or places k d).node (are.each k (get_or places k d) edge.0 (slice_get-get_or places k d lt) edge.1).0
