-- The ranges of the text of an image share no address.
use Rattle.std.proofs.Common.{◌≡◌, ℕ, true, ◌&&◌, List, [], ◌∷◌, map, length, Ok, refl, sym, subst, arith}
use Rattle.std.specs.Prelude.{nat_lt, nat_le, slice_get}
use Rattle.std.specs.List.{list_all, All, sum_by}
use Rattle.std.proofs.lemmas.Bool.{and_parts, not-true, both_ways}
use Rattle.std.proofs.lemmas.List.Elements.{All-nil, All-cons, All-head, All-tail, All-weaker}
use Rattle.scale_base.specs.declared.ranges.Range.{Range}
use Rattle.scale_base.specs.declared.ranges.TextPart.{TextPart}
use Rattle.scale_base.specs.declared.headers.ProgramHeader.{ProgramHeader}
use Rattle.scale_base.specs.declared.refusal.Refusal.TheVariants.{BadText}
use Rattle.scale_base.specs.Rules.{AllHold}
use Rattle.scale_base.specs.Spans.{overlap, each_pair}
use Rattle.scale_base.specs.Image.{Image, image_of, contents, text_ranges, text_parts, loaded_headers, range_of, is_in, is_text_place, are_apart, keeps_text_rules, part_rules, text_start, text_rules, write_rules, all_text_rules, ranges_of}
use Rattle.scale_base.proofs.Laws.{rule_kept, kept-split, rules_kept, contents-are, rules_of, whole_kept}
use Rattle.machine_laws.proofs.Laws.{All-ranges_of, share_address}
use Rattle.code_text.specs.Text.{text_of, AreApart}
use Rattle.code_text.specs.Laws.{ImageNumbersArePut}
use Rattle.code_text.proofs.KnownNumbers.{known_numbers}

-- ---- the parts

parts_apart : (file : List ℕ) (hs : List ProgramHeader) (parts : List TextPart) → keeps_text_rules file hs parts ≡ true → each_pair are_apart parts ≡ true
unfolding keeps_text_rules
parts_apart file hs parts e =
    let a = and_parts (list_all (is_text_place file hs) parts && each_pair are_apart parts) (nat_le (sum_by (λ part. part.span.len) parts) 524288) e in
    (and_parts (list_all (is_text_place file hs) parts) (each_pair are_apart parts) a.0).1

parts_kept : (file : List ℕ) (hs : List ProgramHeader) (parts : List TextPart) → AllHold (text_rules file hs parts) → each_pair are_apart parts ≡ true
unfolding part_rules
parts_kept file hs [] h = refl
parts_kept file hs (part ∷ parts) h =
    parts_apart file hs (part ∷ parts) (whole_kept (keeps_text_rules file hs) (λ k. BadText (text_start (slice_get (part ∷ parts) k))) (part ∷ parts) (length (part ∷ parts)) refl (omega arith)
    (rule_kept (nat_lt 0 (length (part ∷ parts))) (BadText 0) (part_rules file hs (part ∷ parts)) h).1)

-- ---- their ranges

abbrev IsSameOrApart : Range → Range → Type 0
IsSameOrApart r s = (a : ℕ) → is_in a r ≡ true → is_in a s ≡ true → r ≡ s

apart_from : (p q : TextPart) → are_apart p q ≡ true → IsSameOrApart (range_of p) (range_of q)
apart_from p q h a in_p in_q = absurd (both_ways (overlap p.span q.span) (not-true (overlap p.span q.span) h) (share_address p.span q.span a in_p in_q))

swapped : (r s : Range) → IsSameOrApart r s → IsSameOrApart s r
swapped r s h a in_s in_r = sym (h a in_r in_s)

first_apart : (p : TextPart) (parts : List TextPart) → list_all (are_apart p) parts ≡ true → All (IsSameOrApart (range_of p)) (map range_of parts)
first_apart p [] h = All-nil (IsSameOrApart (range_of p))
first_apart p (q ∷ parts) h =
    let b = and_parts (are_apart p q) (list_all (are_apart p) parts) h in
    All-cons (IsSameOrApart (range_of p)) (range_of q) (map range_of parts) (apart_from p q b.0) (first_apart p parts b.1)

one_more : (x : Range) (rs qs : List Range) → All (IsSameOrApart x) rs → All (λ r. All (IsSameOrApart r) qs) rs → All (λ r. All (IsSameOrApart r) (x ∷ qs)) rs
one_more x [] qs near far = All-nil (λ r. All (IsSameOrApart r) (x ∷ qs))
one_more x (r ∷ rs) qs near far =
    All-cons (λ r. All (IsSameOrApart r) (x ∷ qs)) r rs
    (All-cons (IsSameOrApart r) x qs (swapped x r (All-head (IsSameOrApart x) r rs near)) (All-head (λ r. All (IsSameOrApart r) qs) r rs far))
    (one_more x rs qs (All-tail (IsSameOrApart x) r rs near) (All-tail (λ r. All (IsSameOrApart r) qs) r rs far))

all_apart : (parts : List TextPart) → each_pair are_apart parts ≡ true → AreApart (map range_of parts)
all_apart [] h = All-nil (λ r. All (IsSameOrApart r) [])
all_apart (p ∷ parts) h =
    let b = and_parts (list_all (are_apart p) parts) (each_pair are_apart parts) h in
    let near = first_apart p parts b.0 in
    let rs = map range_of parts in
    All-cons (λ r. All (IsSameOrApart r) (range_of p ∷ rs)) (range_of p) rs
    (All-cons (IsSameOrApart (range_of p)) (range_of p) rs (λ a one other. refl) near) (one_more (range_of p) rs rs near (all_apart parts b.1))

contents_apart : (file : List ℕ) (image : Image) → image_of file ≡ Ok image → AreApart (contents file).text
unfolding contents text_ranges all_text_rules
contents_apart file image e =
    let hs = loaded_headers file in
    let parts = text_parts file hs in
    let rules = (rules_of file (rules_kept file image e)).text in
    let each = all_apart parts (parts_kept file hs parts (kept-split (text_rules file hs parts) (write_rules hs (ranges_of parts)) rules).0) in
    let inner = All-weaker (λ r. All (IsSameOrApart r) (map range_of parts)) (λ r. All (IsSameOrApart r) (ranges_of parts)) (λ r h. All-ranges_of (IsSameOrApart r) parts h) (map range_of parts) each in
    All-ranges_of (λ r. All (IsSameOrApart r) (ranges_of parts)) parts inner

pub ranges_apart : (file : List ℕ) (image : Image) → image_of file ≡ Ok image → AreApart image.text
ranges_apart file image e = subst (λ i. AreApart i.text) (contents-are file image e) (contents_apart file image e)

pub image_numbers : ImageNumbersArePut
image_numbers file image v k e = known_numbers (text_of image) (ranges_apart file image e) v k
