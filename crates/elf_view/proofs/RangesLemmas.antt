-- Ranges put in order, and the rules for those that are left.
use Rattle.std.proofs.Common.{◌≡◌, ℕ, ◌+◌, ◌<◌, ◌≤◌, Bool, true, false, cond, List, [], ◌∷◌, ◌++◌, length, map, get_or, drop, Some, None, refl, ap, ◌∙◌, arith, add-one, drop-cons}
use Rattle.std.specs.Prelude.{nat_lt}
use Rattle.std.specs.List.{fold, list_any}
use Rattle.std.proofs.lemmas.List.{drop_all, length-map}
use Rattle.scale_base.specs.declared.headers.ProgramHeader.{ProgramHeader}
use Rattle.scale_base.specs.declared.ranges.Range.{Range}
use Rattle.scale_base.specs.declared.ranges.TextPart.{TextPart}
use Rattle.scale_base.specs.declared.refusal.Refusal.TheVariants.{WritableText}
use Rattle.scale_base.specs.Rules.{first_broken}
use Rattle.scale_base.specs.Image.{insert_range, ascending, range_of, ranges_of, is_writable_at, write_rule, write_rules}

fold-snoc : {A B : Type 0} (f : B → A → B) (b : B) (xs : List A) (y : A) → fold f b (xs ++ y ∷ []) ≡ f (fold f b xs) y
fold-snoc f b [] y = refl
fold-snoc f b (x ∷ xs) y = fold-snoc f (f b x) xs y

map-snoc : {A B : Type 0} (f : A → B) (xs : List A) (y : A) → map f (xs ++ y ∷ []) ≡ map f xs ++ f y ∷ []
map-snoc f [] y = refl
map-snoc f (x ∷ xs) y = ap (λ (ys : List _). f x ∷ ys) (map-snoc f xs y)

pub ranges_of-push : (parts : List TextPart) (part : TextPart) → ranges_of (parts ++ part ∷ []) ≡ insert_range (ranges_of parts) (range_of part)
unfolding ascending
ranges_of-push parts part = ap (fold insert_range []) (map-snoc range_of parts part) ∙ fold-snoc insert_range [] (map range_of parts) (range_of part)

length-insert : (xs : List Range) (r : Range) → length (insert_range xs r) ≡ length xs + 1
length-insert [] r = refl
length-insert (x ∷ xs) r = step (nat_lt r.from x.from) (length-insert xs r)
  where
    step : (b : Bool) → length (insert_range xs r) ≡ length xs + 1 → length (cond b (r ∷ x ∷ xs) (x ∷ insert_range xs r)) ≡ length (x ∷ xs) + 1
    step true go = omega arith
    step false go = omega (arith, go)

length-fold : (acc ranges : List Range) → length (fold insert_range acc ranges) ≡ length acc + length ranges
length-fold acc [] = omega arith
length-fold acc (r ∷ ranges) = omega (arith, length-fold (insert_range acc r) ranges, length-insert acc r)

pub length-ranges_of : (parts : List TextPart) → length (ranges_of parts) ≡ length parts
unfolding ascending
length-ranges_of parts = length-fold [] (map range_of parts) ∙ omega (arith, length-map parts range_of)

-- the rules from k on begin with k's
pub write_rules-at : (segments : List ProgramHeader) (ranges : List Range) (k : ℕ) (d : Range) → k < length ranges
    → write_rules segments (drop k ranges) ≡ write_rule segments (get_or ranges k d) ∷ write_rules segments (drop (k + 1) ranges)
unfolding write_rules
write_rules-at segments ranges k d lt = rw (add-one, drop-cons ranges k d) refl

pub writable_at : (segments : List ProgramHeader) (ranges : List Range) (k : ℕ) (d : Range) → k < length ranges → list_any (is_writable_at (get_or ranges k d)) segments ≡ true
    → first_broken (write_rules segments (drop k ranges)) ≡ Some (WritableText (get_or ranges k d).from)
writable_at segments ranges k d lt e = rw (write_rules-at segments ranges k d lt, e) refl

pub not_writable_at : (segments : List ProgramHeader) (ranges : List Range) (k : ℕ) (d : Range) → k < length ranges → list_any (is_writable_at (get_or ranges k d)) segments ≡ false
    → first_broken (write_rules segments (drop k ranges)) ≡ first_broken (write_rules segments (drop (k + 1) ranges))
not_writable_at segments ranges k d lt e = rw (write_rules-at segments ranges k d lt, e) refl

pub write_rules-past : (segments : List ProgramHeader) (ranges : List Range) (k : ℕ) → length ranges ≤ k → first_broken (write_rules segments (drop k ranges)) ≡ None
unfolding write_rules
write_rules-past segments ranges k le = rw (drop_all k ranges le) refl
