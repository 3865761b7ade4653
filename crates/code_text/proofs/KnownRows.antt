-- What is known of x17 at an address of a range, one word further back.
use Rattle.std.proofs.Common.{◌≡◌, ℕ, zero, suc, ◌+◌, ◌-◌, ◌<◌, ◌≤◌, ◌%◌, Bool, true, false, List, refl, sym, ap, ◌∙◌, arith, None}
use Rattle.std.specs.Prelude.{◌==◌, ◌||◌, not, nat_le, nat_lt}
use Rattle.std.specs.List.{list_any}
use Rattle.std.proofs.lemmas.Bool.{and_parts, and_from, or_parts, cond-true, cond-false, leb-true, le-leb, lt-ltb, ltb-true, not-false, eq-eqb}
use Rattle.scale_base.specs.declared.ranges.Range.{Range}
use Rattle.scale_base.specs.Image.{Image, is_in, is_word_address}
use Rattle.code_text.specs.Text.{Text, text_of, instr_at, is_target, follows, known_behind, known_within}
use Rattle.code_text.specs.Walk.{IsWalked, AreTargetsOf}

-- no jump may come to the address, and a word stands right before it
abbrev pub is_shut : Range → List ℕ → ℕ → Bool
is_shut r targets v = list_any (λ u. u == v) targets || not (nat_le (r.from + 4) v)

shut_is : (image : Image) (r : Range) (targets : List ℕ) (v : ℕ) → IsWalked image r → AreTargetsOf (text_of image) targets → is_in v r ≡ true →
    is_shut r targets v ≡ (is_target (text_of image) v || not (follows (text_of image) v))
shut_is image r targets v w ts here =
    ap (λ b. b || not (nat_le (r.from + 4) v)) (sym (ts v)) ∙ ap (λ b. is_target (text_of image) v || not b) (sym (w.follows v here))

pub known_none : (t : Text) (v : ℕ) → known_within t 0 v ≡ None
unfolding known_within
known_none t v = refl

shut_none : (t : Text) (n v : ℕ) → (is_target t v || not (follows t v)) ≡ true → known_within t n v ≡ None
unfolding known_within
shut_none t zero v h = refl
shut_none t (suc n) v h = cond-true _ _ _ h

open_more : (t : Text) (n v : ℕ) → (is_target t v || not (follows t v)) ≡ false → known_within t (suc n) v ≡ known_behind (instr_at t (v - 4)) (known_within t n (v - 4))
unfolding known_within
open_more t n v h = cond-false _ _ _ h

pub known_shut : (image : Image) (r : Range) (targets : List ℕ) (n v : ℕ) → IsWalked image r → AreTargetsOf (text_of image) targets → is_in v r ≡ true → is_shut r targets v ≡ true →
    known_within (text_of image) n v ≡ None
known_shut image r targets n v w ts here h = shut_none (text_of image) n v (sym (shut_is image r targets v w ts here) ∙ h)

-- the answer, by the word before
pub known_open : (image : Image) (r : Range) (targets : List ℕ) (n v : ℕ) → IsWalked image r → AreTargetsOf (text_of image) targets → is_in v r ≡ true → is_shut r targets v ≡ false → 0 < n →
    known_within (text_of image) n v ≡ known_behind (instr_at (text_of image) (v - 4)) (known_within (text_of image) (n - 1) (v - 4))
known_open image r targets n v w ts here h more =
    let e : n ≡ suc (n - 1) = omega arith in
    ap (λ k. known_within (text_of image) k v) e ∙ open_more (text_of image) (n - 1) v (sym (shut_is image r targets v w ts here) ∙ h)

pub above : (r : Range) (targets : List ℕ) (v : ℕ) → is_shut r targets v ≡ false → r.from + 4 ≤ v
above r targets v h = leb-true (r.from + 4) v (not-false (nat_le (r.from + 4) v) (or_parts (list_any (λ u. u == v) targets) (not (nat_le (r.from + 4) v)) h).1)

pub before : (r : Range) (targets : List ℕ) (v : ℕ) → is_in v r ≡ true → is_shut r targets v ≡ false → is_in (v - 4) r ≡ true
before r targets v here h =
    let low = above r targets v h in
    let high = ltb-true v r.to (and_parts (nat_le r.from v) (nat_lt v r.to) here).1 in
    and_from (nat_le r.from (v - 4)) (nat_lt (v - 4) r.to) (le-leb r.from (v - 4) (omega (arith, low))) (lt-ltb (v - 4) r.to (omega (arith, low, high)))

pub is_word : (image : Image) (r : Range) (v : ℕ) → IsWalked image r → v % 4 ≡ 0 → is_in v r ≡ true → is_word_address image v ≡ true
is_word image r v w al here = and_from (v % 4 == 0) (list_any (is_in v) image.text) (eq-eqb (v % 4) 0 al) (w.inside v here)
