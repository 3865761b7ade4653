-- What is so of each interval of a list is so of each area, and which addresses the areas hold.
use Rattle.std.proofs.Common.{◌≡◌, ◌<◌, ◌≤◌, ◌+◌, ◌*◌, ◌^◌, ⊎_elim, get_or, ℕ, zero, suc, Bool, true, ◌&&◌, ◌||◌, not, List, [], ◌∷◌, length, sym, ap, ◌∙◌, subst, arith, Option, Some, None}
use Rattle.std.specs.List.{All, list_any, filter}
use Rattle.std.specs.Prelude.{IfSome, is_some, map, slice_get, nat_le, nat_lt}
use Rattle.std.proofs.lemmas.Bool.{and_parts, or_cases, cond_both, leb-true, ltb-true}
use Rattle.std.proofs.lemmas.Option.{slice_get-get_or}
use Rattle.flow_graph.proofs.Laws.{some_is}
use Rattle.scale_base.specs.declared.instruction.Instr.{Instr}
use Rattle.scale_base.specs.declared.ranges.Span.{Span}
use Rattle.scale_base.specs.Spans.{in_span}
use Rattle.scale_base.specs.Image.{Image, LoadSegment, addresses_of, stack}
use Rattle.scale_base.specs.Layout.{Part, part_of, is_plain_segment, in_stack, in_text, layout_of, may_read, may_write}
use Rattle.bound_laws.specs.Values.{Arc, Values, IsIn, ahead, held, sum_with}
use Rattle.stack_laws.specs.Areas.{AreAreas, IsAccess, IsAccessedIn, IsCutTo}
use Rattle.stack_checks.specs.Checked.{AreCutTo, IsCutOf, IsInSome, IsSpanIn}

-- of what stands at a place
pub so_at : {A : Type 0} (P : A → Type 0) (xs : List A) → All P xs → (k : ℕ) (x : A) → slice_get xs k ≡ Some x → P x
so_at P [] all k x at = let bad : ⊥ = cc in absurd bad
so_at P (y ∷ xs) all zero x at = subst P (some_is y x at) (all 0 y (omega arith))
so_at P (y ∷ xs) all (suc k) x at = so_at P xs (λ j d lt. all (suc j) d (omega (arith, lt))) k x at

pub cut_to : (xs : List Arc) (areas : ℕ → Option Arc) → ((k : ℕ) → slice_get xs k ≡ areas k) → (i : Option Arc) (c : Arc) → AreCutTo xs i c → IsCutTo areas i c
cut_to xs areas same i c all k x at = so_at (IsCutOf i c) xs all k x (same k ∙ at)

-- what is cut of the addresses of an access
pub accessed_so : (v : Values) (areas : ℕ → Option Arc) (xs : List Arc) → ((k : ℕ) → slice_get xs k ≡ areas k) → (i : Instr) (a r more : ℕ) → IsAccess i r more → (x : Arc) → held (v.at a) r ≡ Some x → (s : Option Arc) → s ≡ sum_with (Some x) more →
    (o : Option Arc) → IfSome o (λ to. AreCutTo xs s to) → IfSome o (λ place. IsAccessedIn v areas i a r more place)
accessed_so v areas xs same i a r more access x is s sum None given = tt
accessed_so v areas xs same i a r more access x is s sum (Some c) given = record {
  access = access;
  known = ap (λ (h : Option Arc). is_some h) is;
  cut = cut_to xs areas same (sum_with (held (v.at a) r) more) c (subst (λ (y : Option Arc). AreCutTo xs y c) (sum ∙ sym (ap (λ (h : Option Arc). sum_with h more) is)) given);
}

-- ---- addresses

-- an address of a span that begins in an area and doesn't pass its end
pub in_area : (s : Span) (area : Arc) (last : ℕ) → area.low < 2 ^ 32 → area.more < 2 ^ 32 → area.stride ≡ 1 → s.len ≡ last + 1 → s.from + last < 2 ^ 32 → ahead area.low s.from + last ≤ area.more →
    (at : ℕ) → in_span s at ≡ true → IsIn area at
in_area s area last low more one len word near at inside =
    let parts = and_parts (nat_le s.from at) (nat_lt at (s.from + s.len)) inside in
    let from : s.from ≤ at = leb-true s.from at parts.0 in
    let to : at < s.from + s.len = ltb-true at (s.from + s.len) parts.1 in
    record {
      word = omega arith;
      start = low;
      near = omega arith;
      step = (ahead area.low at, subst (λ (n : ℕ). ahead area.low at ≡ n * ahead area.low at) (sym one) (let e : ahead area.low at ≡ 1 * ahead area.low at = omega arith in e));
    }

pub in_one : (xs : List Arc) (s : Span) (k : ℕ) (x : Arc) → k < length xs → x ≡ get_or xs k x → ((at : ℕ) → in_span s at ≡ true → IsIn x at) → IsSpanIn xs s
in_one xs s k x lt is held = record { within = λ at inside. (k, x, slice_get-get_or xs k x lt ∙ ap Some (sym is), held at inside) }

pub in_none : (xs : List Arc) (s : Span) → s.len ≡ 0 → IsSpanIn xs s
in_none xs s none = record {
  within = λ at inside.
      let parts = and_parts (nat_le s.from at) (nat_lt at (s.from + s.len)) inside in
      let from : s.from ≤ at = leb-true s.from at parts.0 in
      let to : at < s.from + s.len = ltb-true at (s.from + s.len) parts.1 in
      let bad : ⊥ = omega arith in absurd bad;
}

-- ---- what a layout lets be used

part_in : (xs : List Arc) (at : ℕ) (may : Part → Bool) (segments : List LoadSegment) → All (λ (s : LoadSegment). IsSpanIn xs (addresses_of s)) segments →
    list_any (λ (p : Part). may p && in_span p.span at) (map part_of (filter is_plain_segment segments)) ≡ true → IsInSome xs at
part_in xs at may [] all found = let bad : ⊥ = cc in absurd bad
part_in xs at may (s ∷ segments) all found =
    let rest : list_any (λ (p : Part). may p && in_span p.span at) (map part_of (filter is_plain_segment segments)) ≡ true → IsInSome xs at = part_in xs at may segments (λ j d lt. all (suc j) d (omega (arith, lt))) in
    cond_both (is_plain_segment s) (s ∷ filter is_plain_segment segments) (filter is_plain_segment segments)
    (λ (kept : List LoadSegment). list_any (λ (p : Part). may p && in_span p.span at) (map part_of kept) ≡ true → IsInSome xs at)
    (λ plain some. ⊎_elim
    (λ (here : (may (part_of s) && in_span (addresses_of s) at) ≡ true). (all 0 s (omega arith)).within at (and_parts (may (part_of s)) (in_span (addresses_of s) at) here).1)
    rest
    (or_cases (may (part_of s) && in_span (addresses_of s) at) (list_any (λ (p : Part). may p && in_span p.span at) (map part_of (filter is_plain_segment segments))) some))
    (λ keyed some. rest some)
    found

used_in : (xs : List Arc) (at : ℕ) (may : Part → Bool) (segments : List LoadSegment) (rest : Bool) → IsSpanIn xs stack → All (λ (s : LoadSegment). IsSpanIn xs (addresses_of s)) segments →
    (in_stack at || (list_any (λ (p : Part). may p && in_span p.span at) (map part_of (filter is_plain_segment segments)) && rest)) ≡ true → IsInSome xs at
used_in xs at may segments rest stacked all used = ⊎_elim
    (λ (here : in_stack at ≡ true). stacked.within at here)
    (λ (there : (list_any (λ (p : Part). may p && in_span p.span at) (map part_of (filter is_plain_segment segments)) && rest) ≡ true).
    part_in xs at may segments all (and_parts (list_any (λ (p : Part). may p && in_span p.span at) (map part_of (filter is_plain_segment segments))) rest there).0)
    (or_cases (in_stack at) (list_any (λ (p : Part). may p && in_span p.span at) (map part_of (filter is_plain_segment segments)) && rest) used)

some_in : (image : Image) (xs : List Arc) → IsSpanIn xs stack → All (λ (s : LoadSegment). IsSpanIn xs (addresses_of s)) image.segments → (at : ℕ) → (may_read (layout_of image) at || may_write (layout_of image) at) ≡ true → IsInSome xs at
unfolding layout_of may_read may_write
some_in image xs stacked all at used = ⊎_elim
    (λ (read : may_read (layout_of image) at ≡ true). used_in xs at (λ (p : Part). p.readable) image.segments (not (in_text (layout_of image) at)) stacked all read)
    (λ (written : may_write (layout_of image) at ≡ true). used_in xs at (λ (p : Part). p.writable) image.segments (not (in_text (layout_of image) at)) stacked all written)
    (or_cases (may_read (layout_of image) at) (may_write (layout_of image) at) used)

pub are_areas_of : (image : Image) (xs : List Arc) (areas : ℕ → Option Arc) → ((k : ℕ) → slice_get xs k ≡ areas k) → IsSpanIn xs stack → All (λ (s : LoadSegment). IsSpanIn xs (addresses_of s)) image.segments → AreAreas (layout_of image) areas
are_areas_of image xs areas same stacked all at used =
    let found : IsInSome xs at = some_in image xs stacked all at used in (found.0, found.1, sym (same found.0) ∙ found.2, found.3)
