-- Scaffold: the rows of the tables of exits, by tests.
use Rattle.std.specs.Prelude.{◌≡◌, ℕ, ◌+◌, ◌*◌, ◌/◌, ◌%◌, ◌^◌, ◌<◌, ◌==◌, ◌&&◌, nat_le, nat_lt, Bool, true, false, List, All, slice_get, slice_index, Option, Some, None}
use Rattle.std.specs.List.{list_all}
use Rattle.scale_base.specs.declared.ranges.Keyed.{Keyed}
use Rattle.scale_base.specs.Image.{Image}
use Rattle.foreign_scan.specs.declared.fragment.ForeignFragment.{ForeignFragment}
use Rattle.foreign_scan.specs.declared.fragment.ForeignFragment.TheVariants.{Switch, Exit, Reset, Count}
use Rattle.foreign_scan.specs.declared.site.Site.{Site}
use Rattle.foreign_scan.specs.declared.site.Site.TheVariants.{Same, Broken, Kept}
use Rattle.foreign_scan.specs.declared.stub.StubFragments.{StubFragments}
use Rattle.foreign_scan.specs.declared.stub.StubFragments.TheVariants as stub
use Rattle.foreign_scan.specs.Form.{IsForeign}

-- whether the rows of a table up to the last one lie in the keyed segment
abbrev pub rows_in : Option Keyed → (table last : ℕ) → Bool
rows_in None table last = false
rows_in (Some k) table last = (table % 4 == 0) && (nat_le k.range.from table && nat_lt (table + 4 * last + 3) k.range.to)

-- whether those of a fragment's table do, up to the one of its counter's limit
abbrev pub has_rows : Image → List ℕ → ForeignFragment → Bool
has_rows image limits (Switch word) = true
has_rows image limits (Exit counter shift table) = rows_in image.keyed_segment table (slice_index limits counter / 2 ^ shift)
has_rows image limits (Reset counter) = true
has_rows image limits (Count counter) = true

abbrev pub all_have_rows : Image → List ℕ → List ForeignFragment → Bool
all_have_rows image limits fs = list_all (has_rows image limits) fs

abbrev pub stub_has_rows : Image → List ℕ → StubFragments → Bool
stub_has_rows image limits (stub.Branch untaken taken) = all_have_rows image limits untaken.items && all_have_rows image limits taken.items
stub_has_rows image limits (stub.Jump fragments) = all_have_rows image limits fragments.items

-- whether the word of a node is the original's, or leads to a stub with its rows
abbrev pub is_sound : Image → List ℕ → Site → Bool
is_sound image limits Same = true
is_sound image limits Broken = false
is_sound image limits (Kept s) = stub_has_rows image limits s

-- the first node of which that isn't so, if there is one
abbrev pub IsFirstUnsound : Image → List ℕ → List Site → Option ℕ → Type 0
IsFirstUnsound image limits sites None = (k : ℕ) (site : Site) → slice_get sites k ≡ Some site → is_sound image limits site ≡ true
IsFirstUnsound image limits sites (Some b) =
    ((site : Site) × (slice_get sites b ≡ Some site) × (is_sound image limits site ≡ false)) ×
    ((k : ℕ) (site : Site) → k < b → slice_get sites k ≡ Some site → is_sound image limits site ≡ true)

-- ---- the numbers of fragments fit

abbrev pub StubIsForeign : StubFragments → Type 0
StubIsForeign (stub.Branch untaken taken) = All IsForeign untaken.items × All IsForeign taken.items
StubIsForeign (stub.Jump fragments) = All IsForeign fragments.items

abbrev pub SiteIsForeign : Site → Type 0
SiteIsForeign Same = Unit {0}
SiteIsForeign Broken = Unit {0}
SiteIsForeign (Kept s) = StubIsForeign s
