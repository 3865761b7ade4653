-- Scaffold: what is found in an image, by the numbers of nodes and edges.
use Rattle.std.specs.Prelude.{◌≡◌, ◌<◌, ℕ, Bool, List, All, length, map, slice_get, Some}
use Rattle.scale_base.specs.declared.edges.Edge.{Edge}
use Rattle.foreign_scan.specs.declared.fragment.ForeignFragment.{ForeignFragment}
use Rattle.foreign_scan.specs.declared.site.Site.{Site}
use Rattle.foreign_scan.specs.declared.sites.EdgePlace.{EdgePlace}
use Rattle.foreign_scan.specs.Sites.{site_fragments, is_site_patched}

-- by node, whether its word differs; by edge, its fragments
pub record ScannedSites : Type 0 where
  pub patched : List Bool
  pub fragments : List (List ForeignFragment)

-- the fragments of an edge of a node
abbrev pub place_fragments : List Site → EdgePlace → List ForeignFragment
place_fragments sites place = site_fragments (slice_get sites place.node) place.kind

abbrev pub sites_view : List Site → List EdgePlace → ScannedSites
sites_view sites places = record { patched = map is_site_patched sites; fragments = map (place_fragments sites) places }

-- each place is one of a node
abbrev pub ArePlacesWithin : List Site → List EdgePlace → Type 0
ArePlacesWithin sites places = All (λ place. place.node < length sites) places

-- by edge, the node at which it starts, and its kind
pub record ArePlacesOf (sources : List ℕ) (edges : List Edge) (places : List EdgePlace) : Type 0 where
  pub size : length places ≡ length edges
  pub each : (e : ℕ) (place : EdgePlace) (edge : Edge) → slice_get places e ≡ Some place → slice_get edges e ≡ Some edge →
      (slice_get sources e ≡ Some place.node) × (place.kind ≡ edge.kind)

-- the sites of nodes are shown
abbrev pub ShowsSites : List ℕ → List Edge → List Site → ScannedSites → Type 0
ShowsSites sources edges sites s = (places : List EdgePlace) × ArePlacesOf sources edges places × (s ≡ sites_view sites places)
