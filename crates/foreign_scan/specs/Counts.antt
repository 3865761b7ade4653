-- Scaffold: the first edge on which a counter counts, and how far it counts.
use Rattle.std.specs.Prelude.{◌≡◌, ℕ, ◌<◌, ◌==◌, nat_lt, ◌&&◌, ◌||◌, Bool, true, false, if◌then◌else◌, List, [], length, slice_get, slice_index, Option, Some, None}
use Rattle.std.specs.List.{list_any}
use Rattle.scale_base.specs.declared.edges.Edge.{Edge}
use Rattle.foreign_scan.specs.declared.fragment.ForeignFragment.{ForeignFragment}
use Rattle.foreign_scan.specs.declared.fragment.ForeignFragment.TheVariants.{Switch, Exit, Reset, Count}
use Rattle.foreign_scan.specs.declared.lists.GraphLists.{GraphLists}
use Rattle.foreign_scan.specs.declared.site.Site.{Site}
use Rattle.foreign_scan.specs.Scanned.{kind_place}
use Rattle.foreign_scan.specs.Sites.{site_fragments}

abbrev pub edge_before : Edge → Edge → Bool
edge_before d e = nat_lt d.at e.at || ((d.at == e.at) && nat_lt (kind_place d.kind) (kind_place e.kind))

abbrev pub before_by : Option Edge → Option Edge → Bool
before_by (Some d) (Some e) = edge_before d e
before_by d e = false

-- whether one edge comes before another, by their numbers
abbrev pub is_before : List Edge → ℕ → ℕ → Bool
is_before edges d e = before_by (slice_get edges d) (slice_get edges e)

-- the one of two edges that comes first, of which the first one may be missing
abbrev pub earlier_of : List Edge → Option ℕ → ℕ → ℕ
earlier_of edges None e = e
earlier_of edges (Some b) e = if is_before edges e b then e else b

abbrev pub counts_with : ℕ → ForeignFragment → Bool
counts_with c (Switch word) = false
counts_with c (Exit counter shift table) = false
counts_with c (Reset counter) = false
counts_with c (Count counter) = c == counter

-- whether the fragments count with the counter
abbrev pub count_in : ℕ → List ForeignFragment → Bool
count_in c fs = list_any (counts_with c) fs

-- the first edge that counts, with one edge more
abbrev pub first_with : List Edge → Bool → Option ℕ → ℕ → Option ℕ
first_with edges true o e = Some (earlier_of edges o e)
first_with edges false o e = o

-- the fragments of an edge that starts at a node
abbrev pub numbered_at : List Site → Option ℕ → Option Edge → List ForeignFragment
numbered_at sites (Some k) (Some edge) = site_fragments (slice_get sites k) edge.kind
numbered_at sites k edge = []

-- by the number of an edge
abbrev pub numbered_fragments : List ℕ → List Edge → List Site → ℕ → List ForeignFragment
numbered_fragments sources edges sites e = numbered_at sites (slice_get sources e) (slice_get edges e)

-- edge e is a back edge, and the counter counts on it
pub record CountsOn (backs : List (Option ℕ)) (on : ℕ → List ForeignFragment) (c e : ℕ) : Type 0 where
  pub loop : ℕ
  pub back : slice_get backs e ≡ Some (Some loop)
  pub counts : count_in c (on e) ≡ true

-- of the edges below n on which the counter counts one that none comes before
abbrev pub IsFirstOfEdges : List Edge → (ℕ → Type 0) → ℕ → Option ℕ → Type 0
IsFirstOfEdges edges Is n None = (e : ℕ) → e < n → Is e → ⊥
IsFirstOfEdges edges Is n (Some b) = (b < n) × Is b × ((e : ℕ) → e < n → Is e → is_before edges e b ≡ false)

abbrev pub AreFirstsBelow : List Edge → List (Option ℕ) → (ℕ → List ForeignFragment) → ℕ → List (Option ℕ) → Type 0
AreFirstsBelow edges backs on n firsts = (c : ℕ) (o : Option ℕ) → slice_get firsts c ≡ Some o →
    IsFirstOfEdges edges (CountsOn backs on c) n o

-- the first edges with one fragment more, and with more of them
abbrev pub IsTaken : List Edge → (old new : List (Option ℕ)) → ForeignFragment → ℕ → Type 0
IsTaken edges old new f e = (c : ℕ) (o : Option ℕ) → slice_get old c ≡ Some o →
    slice_get new c ≡ Some (first_with edges (counts_with c f) o e)

abbrev pub AreTaken : List Edge → (old new : List (Option ℕ)) → List ForeignFragment → ℕ → Type 0
AreTaken edges old new fs e = (c : ℕ) (o : Option ℕ) → slice_get old c ≡ Some o →
    slice_get new c ≡ Some (first_with edges (count_in c fs) o e)

abbrev pub bound_at : List ℕ → Option (Option ℕ) → ℕ
bound_at bounds (Some (Some k)) = slice_index bounds k
bound_at bounds o = 0

-- how far a counter counts that counts first on an edge: the bound of the loop of which that is a back edge
abbrev pub limit_of : List (Option ℕ) → List ℕ → Option ℕ → ℕ
limit_of backs bounds None = 0
limit_of backs bounds (Some e) = bound_at bounds (slice_get backs e)

-- each number that is there is below n
abbrev pub AreEdgesWithin : ℕ → List (Option ℕ) → Type 0
AreEdgesWithin n firsts = (c e : ℕ) → slice_get firsts c ≡ Some (Some e) → e < n

-- by counter, how far it counts
abbrev pub AreCountLimits : List Edge → List (Option ℕ) → List ℕ → (ℕ → List ForeignFragment) → List ℕ → Type 0
AreCountLimits edges backs bounds on limits = (c n : ℕ) → slice_get limits c ≡ Some n → (o : Option ℕ) ×
    IsFirstOfEdges edges (CountsOn backs on c) (length edges) o × (n ≡ limit_of backs bounds o)

-- the lists go together, with so many sites
pub record AreSized (lists : GraphLists) (sites : ℕ) : Type 0 where
  pub sources : length lists.sources.now ≡ length lists.edges.now
  pub within : (e k : ℕ) → slice_get lists.sources.now e ≡ Some k → k < sites
  pub backs : length lists.backs.now ≡ length lists.edges.now
  pub loops : AreEdgesWithin (length lists.bounds.now) lists.backs.now
