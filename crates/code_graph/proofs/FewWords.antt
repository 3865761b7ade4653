-- How many words a text has at most.
use Rattle.std.proofs.Common.{◌≡◌, ℕ, zero, suc, ◌+◌, ◌-◌, ◌*◌, ◌/◌, ◌≤◌, Bool, true, false, cond, ◌&&◌, List, [], ◌∷◌, map, length, length-append, Ok, refl, sym, ap, ◌∙◌, subst, arith}
use Rattle.std.specs.Prelude.{nat_lt, nat_le, slice_get}
use Rattle.std.specs.List.{list_all, sum_by, fold, range_with_len}
use Rattle.std.proofs.lemmas.Bool.{and_parts, leb-true}
use Rattle.std.proofs.lemmas.List.{length-map}
use Rattle.std.proofs.lemmas.List.Sums.{sum_by-cons}
use Rattle.scale_base.specs.declared.ranges.Range.{Range}
use Rattle.scale_base.specs.declared.ranges.TextPart.{TextPart}
use Rattle.scale_base.specs.declared.headers.ProgramHeader.{ProgramHeader}
use Rattle.scale_base.specs.declared.refusal.Refusal.TheVariants.{BadText}
use Rattle.scale_base.specs.Rules.{AllHold}
use Rattle.scale_base.specs.Spans.{each_pair}
use Rattle.scale_base.specs.Image.{Image, image_of, contents, text_ranges, text_parts, loaded_headers, range_of, is_text_place, are_apart, keeps_text_rules, part_rules, text_start, text_rules, write_rules, all_text_rules, ranges_of, insert_range, ascending}
use Rattle.scale_base.proofs.Laws.{rule_kept, kept-split, rules_kept, contents-are, rules_of, whole_kept}
use Rattle.code_text.specs.Table.{word_addresses, all_addresses}

range_size : (m n : ℕ) → length (range_with_len m n) ≡ n
range_size m zero = refl
range_size m (suc n) = let e : length (range_with_len (m + 1) n) ≡ n = range_size (m + 1) n in ap suc e

word_count : (r : Range) → length (word_addresses r) ≡ (r.to - r.from) / 4
word_count r = length-map (range_with_len 0 ((r.to - r.from) / 4)) (λ i. r.from + 4 * i) ∙ range_size 0 ((r.to - r.from) / 4)

all_count : (rs : List Range) → length (all_addresses rs) ≡ sum_by (λ r. (r.to - r.from) / 4) rs
all_count [] = refl
all_count (r ∷ rs) =
    length-append (word_addresses r) (all_addresses rs) ∙ ap (λ n. n + length (all_addresses rs)) (word_count r) ∙ ap (λ n. (r.to - r.from) / 4 + n) (all_count rs) ∙ sym (sum_by-cons (λ (x : Range). (x.to - x.from) / 4) r rs)

sum-insert : (f : Range → ℕ) (xs : List Range) (r : Range) → sum_by f (insert_range xs r) ≡ f r + sum_by f xs
sum-insert f [] r = sum_by-cons f r []
sum-insert f (x ∷ xs) r = step (nat_lt r.from x.from) (sum-insert f xs r)
  where
    step : (b : Bool) → sum_by f (insert_range xs r) ≡ f r + sum_by f xs → sum_by f (cond b (r ∷ x ∷ xs) (x ∷ insert_range xs r)) ≡ f r + sum_by f (x ∷ xs)
    step true go = sum_by-cons f r (x ∷ xs)
    step false go =
        let front : sum_by f (x ∷ xs) ≡ f x + sum_by f xs = sum_by-cons f x xs in
        let e : f x + sum_by f (insert_range xs r) ≡ f r + sum_by f (x ∷ xs) = omega arith in
        sum_by-cons f x (insert_range xs r) ∙ e

sum-fold : (f : Range → ℕ) (acc ranges : List Range) → sum_by f (fold insert_range acc ranges) ≡ sum_by f ranges + sum_by f acc
sum-fold f acc [] = let e : sum_by f acc ≡ 0 + sum_by f acc = omega arith in e
sum-fold f acc (r ∷ ranges) =
    let here : sum_by f (insert_range acc r) ≡ f r + sum_by f acc = sum-insert f acc r in
    let front : sum_by f (r ∷ ranges) ≡ f r + sum_by f ranges = sum_by-cons f r ranges in
    let e : sum_by f ranges + sum_by f (insert_range acc r) ≡ sum_by f (r ∷ ranges) + sum_by f acc = omega arith in
    sum-fold f (insert_range acc r) ranges ∙ e

parts_sum : (parts : List TextPart) → 4 * sum_by (λ r. (r.to - r.from) / 4) (map range_of parts) ≤ sum_by (λ part. part.span.len) parts
parts_sum [] = omega arith
parts_sum (p ∷ parts) =
    let rest : 4 * sum_by (λ r. (r.to - r.from) / 4) (map range_of parts) ≤ sum_by (λ part. part.span.len) parts = parts_sum parts in
    let front : sum_by (λ r. (r.to - r.from) / 4) (range_of p ∷ map range_of parts) ≡ (p.span.from + p.span.len - p.span.from) / 4 + sum_by (λ r. (r.to - r.from) / 4) (map range_of parts) =
    sum_by-cons (λ (r : Range). (r.to - r.from) / 4) (range_of p) (map range_of parts) in
    let bytes : sum_by (λ part. part.span.len) (p ∷ parts) ≡ p.span.len + sum_by (λ part. part.span.len) parts = sum_by-cons (λ (part : TextPart). part.span.len) p parts in
    let e : 4 * ((p.span.from + p.span.len - p.span.from) / 4 + sum_by (λ r. (r.to - r.from) / 4) (map range_of parts)) ≤ p.span.len + sum_by (λ part. part.span.len) parts = omega arith in
    subst (λ n. 4 * n ≤ sum_by (λ part. part.span.len) (p ∷ parts)) (sym front) (subst (λ n. 4 * ((p.span.from + p.span.len - p.span.from) / 4 + sum_by (λ r. (r.to - r.from) / 4) (map range_of parts)) ≤ n) (sym bytes) e)

ranges_sum : (parts : List TextPart) → sum_by (λ r. (r.to - r.from) / 4) (ranges_of parts) ≡ sum_by (λ r. (r.to - r.from) / 4) (map range_of parts)
unfolding ascending
ranges_sum parts =
    let e : sum_by (λ r. (r.to - r.from) / 4) (fold insert_range [] (map range_of parts)) ≡ sum_by (λ r. (r.to - r.from) / 4) (map range_of parts) + 0 = sum-fold (λ r. (r.to - r.from) / 4) [] (map range_of parts) in
    e ∙ (let z : sum_by (λ r. (r.to - r.from) / 4) (map range_of parts) + 0 ≡ sum_by (λ r. (r.to - r.from) / 4) (map range_of parts) = omega arith in z)

parts_small : (file : List ℕ) (hs : List ProgramHeader) (parts : List TextPart) → keeps_text_rules file hs parts ≡ true → sum_by (λ part. part.span.len) parts ≤ 524288
unfolding keeps_text_rules
parts_small file hs parts e =
    leb-true (sum_by (λ part. part.span.len) parts) 524288 (and_parts (list_all (is_text_place file hs) parts && each_pair are_apart parts) (nat_le (sum_by (λ part. part.span.len) parts) 524288) e).1

parts_kept : (file : List ℕ) (hs : List ProgramHeader) (parts : List TextPart) → AllHold (text_rules file hs parts) → sum_by (λ part. part.span.len) parts ≤ 524288
unfolding part_rules
parts_kept file hs [] h = omega arith
parts_kept file hs (part ∷ parts) h =
    parts_small file hs (part ∷ parts) (whole_kept (keeps_text_rules file hs) (λ k. BadText (text_start (slice_get (part ∷ parts) k))) (part ∷ parts) (length (part ∷ parts)) refl (omega arith)
    (rule_kept (nat_lt 0 (length (part ∷ parts))) (BadText 0) (part_rules file hs (part ∷ parts)) h).1)

contents_few : (file : List ℕ) (image : Image) → image_of file ≡ Ok image → length (all_addresses (contents file).text) ≤ 131072
unfolding contents text_ranges all_text_rules
contents_few file image e =
    let hs = loaded_headers file in
    let parts = text_parts file hs in
    let rules = (rules_of file (rules_kept file image e)).text in
    let bytes : sum_by (λ part. part.span.len) (text_parts file (loaded_headers file)) ≤ 524288 = parts_kept file hs parts (kept-split (text_rules file hs parts) (write_rules hs (ranges_of parts)) rules).0 in
    let fours : 4 * sum_by (λ r. (r.to - r.from) / 4) (map range_of (text_parts file (loaded_headers file))) ≤ sum_by (λ part. part.span.len) (text_parts file (loaded_headers file)) = parts_sum parts in
    let same : sum_by (λ r. (r.to - r.from) / 4) (ranges_of (text_parts file (loaded_headers file))) ≡ sum_by (λ r. (r.to - r.from) / 4) (map range_of (text_parts file (loaded_headers file))) = ranges_sum parts in
    let count : length (all_addresses (ranges_of (text_parts file (loaded_headers file)))) ≡ sum_by (λ r. (r.to - r.from) / 4) (ranges_of (text_parts file (loaded_headers file))) = all_count (ranges_of parts) in
    omega arith

pub few_words : (file : List ℕ) (image : Image) → image_of file ≡ Ok image → length (all_addresses image.text) ≤ 131072
few_words file image e = subst (λ i. length (all_addresses i.text) ≤ 131072) (contents-are file image e) (contents_few file image e)
