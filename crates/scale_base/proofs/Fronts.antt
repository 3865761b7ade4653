-- What the rules of each front of a table say of the whole table.
use Rattle.std.proofs.Common.{◌≡◌, ℕ, zero, suc, ◌+◌, ◌-◌, ◌<◌, ◌≤◌, Bool, true, false, ◌&&◌, List, [], ◌∷◌, ◌++◌, length, map, take, take_all, None, refl, sym, ap, ◌∙◌, arith, inl, inr}
use Rattle.std.specs.Prelude.{nat_lt, nat_le, slice_get}
use Rattle.std.specs.List.{list_all, range_with_len, sum_by}
use Rattle.std.proofs.lemmas.Bool.{cases_lt}
use Rattle.scale_base.specs.declared.ranges.TextPart.{TextPart}
use Rattle.scale_base.specs.declared.headers.ProgramHeader.{ProgramHeader}
use Rattle.scale_base.specs.declared.refusal.Refusal.{Refusal}
use Rattle.scale_base.specs.declared.refusal.Refusal.TheVariants.{BadText}
use Rattle.scale_base.specs.Spans.{each_pair}
use Rattle.scale_base.specs.Rules.{Rule, rule, first_broken, each_below, AllHold}
use Rattle.scale_base.specs.Image.{is_text_place, are_apart, keeps_text_rules, part_rules, text_start, text_rules, all_text_rules, header_rules, table_rules, segment_rules, image_rules, loaded_headers}
use Rattle.scale_base.proofs.Accepted.{rule_kept, kept-split}

both_true : (a b : Bool) → (a && b) ≡ true → (a ≡ true) × (b ≡ true)
both_true true true e = (refl, refl)
both_true true false e = absurd cc
both_true false b e = absurd cc

pub below_kept : (f : ℕ → Rule) (a n k : ℕ) → first_broken (map f (range_with_len a n)) ≡ None → a ≤ k → k < a + n → (f k).holds ≡ true
below_kept f a zero k h low high = absurd (omega arith)
below_kept f a (suc n) k h low high =
    let g = rule_kept (f a).holds (f a).refusal (map f (range_with_len (a + 1) n)) h in
    elim (cases_lt a k) [
      | inl lt ↦ below_kept f (a + 1) n k g.1 (omega arith) (omega arith)
      | inr le ↦ let e : k ≡ a = omega arith in ap (λ (i : ℕ). (f i).holds) e ∙ g.0
    ]

pub whole_kept : {A : Type 0} (test : List A → Bool) (refusal : ℕ → Refusal) (xs : List A) (n : ℕ) → length xs ≡ n → 0 < n → first_broken (each_below n (λ k. rule (test (take (k + 1) xs)) (refusal k))) ≡ None → test xs ≡ true
whole_kept test refusal xs n len some h =
    let last = below_kept (λ k. rule (test (take (k + 1) xs)) (refusal k)) 0 n (n - 1) h (omega arith) (omega arith) in
    let all : take (n - 1 + 1) xs ≡ xs = take_all (n - 1 + 1) xs (omega arith) in
    ap test (sym all) ∙ last

parts_placed : (file : List ℕ) (hs : List ProgramHeader) (parts : List TextPart) → keeps_text_rules file hs parts ≡ true → list_all (is_text_place file hs) parts ≡ true
unfolding keeps_text_rules
parts_placed file hs parts e =
    let a = both_true (list_all (is_text_place file hs) parts && each_pair are_apart parts) (nat_le (sum_by (λ part. part.span.len) parts) 524288) e in
    (both_true (list_all (is_text_place file hs) parts) (each_pair are_apart parts) a.0).0

pub parts_kept : (file : List ℕ) (hs : List ProgramHeader) (parts : List TextPart) → AllHold (text_rules file hs parts) → list_all (is_text_place file hs) parts ≡ true
unfolding part_rules
parts_kept file hs [] h = refl
parts_kept file hs (part ∷ parts) h =
    parts_placed file hs (part ∷ parts) (whole_kept (keeps_text_rules file hs) (λ k. BadText (text_start (slice_get (part ∷ parts) k))) (part ∷ parts) (length (part ∷ parts)) refl (omega arith)
    (rule_kept (nat_lt 0 (length (part ∷ parts))) (BadText 0) (part_rules file hs (part ∷ parts)) h).1)

-- the rules of the parts of an accepted file
pub record Rules (file : List ℕ) : Type 0 where
  pub header : AllHold (header_rules file)
  pub segments : AllHold (segment_rules file)
  pub text : AllHold (all_text_rules file (loaded_headers file))

pub rules_of : (file : List ℕ) → AllHold (image_rules file) → Rules file
unfolding image_rules
rules_of file h =
    let last = all_text_rules file (loaded_headers file) in
    let a = kept-split (header_rules file) (table_rules file ++ (segment_rules file ++ last)) h in
    let b = kept-split (table_rules file) (segment_rules file ++ last) a.1 in
    let c = kept-split (segment_rules file) last b.1 in
    record { header = a.0; segments = c.0; text = c.1 }
