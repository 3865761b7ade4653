-- Each range of the text of an image is one that a walk knows.
use Rattle.std.proofs.Common.{◌≡◌, ℕ, ◌+◌, ◌-◌, ◌<◌, true, List, [], ◌∷◌, length, get_or, Ok, sym, subst, arith, ⊎_elim}
use Rattle.std.specs.Prelude.{◌&&◌, nat_le, nat_lt}
use Rattle.std.specs.List.{list_any, All}
use Rattle.std.specs.Cmp.{both_ways}
use Rattle.std.proofs.lemmas.Bool.{and_parts, and_from, or_cases, le-leb, leb-true, lt-ltb, ltb-true}
use Rattle.std.proofs.lemmas.List.Elements.{All-head, All-tail, All-get_or}
use Rattle.std.proofs.lemmas.List.Folds.{list_any_at}
use Rattle.scale_base.specs.declared.ranges.Range.{Range}
use Rattle.scale_base.specs.Image.{Image, image_of, is_in}
use Rattle.machine_laws.proofs.Laws.{IsTextRange, text_ranges_kept}
use Rattle.code_text.proofs.RangesApart.{ranges_apart}
use Rattle.code_text.specs.Walk.{IsWalked}

-- where some range has an address and the word before it, each range with the address has the word before it
in_same : (r : Range) (v : ℕ) (ss : List Range) → All (λ s. (a : ℕ) → is_in a r ≡ true → is_in a s ≡ true → r ≡ s) ss → is_in v r ≡ true →
    list_any (λ s. is_in (v - 4) s && is_in v s) ss ≡ true → is_in (v - 4) r ≡ true
in_same r v [] all here h = absurd cc
in_same r v (s ∷ ss) all here h =
    ⊎_elim
    (λ one. let p = and_parts (is_in (v - 4) s) (is_in v s) one in let P : Range → Type 0 = λ q. is_in (v - 4) q ≡ true in subst P (sym (All-head (λ s. (a : ℕ) → is_in a r ≡ true → is_in a s ≡ true → r ≡ s) s ss all v here p.1)) p.0)
    (λ rest. in_same r v ss (All-tail (λ s. (a : ℕ) → is_in a r ≡ true → is_in a s ≡ true → r ≡ s) s ss all) here rest)
    (or_cases (is_in (v - 4) s && is_in v s) (list_any (λ s. is_in (v - 4) s && is_in v s) ss) h)

follows_here : (ranges : List Range) (i : ℕ) (d : Range) (v : ℕ) → i < length ranges →
    All (λ s. (a : ℕ) → is_in a (get_or ranges i d) ≡ true → is_in a s ≡ true → get_or ranges i d ≡ s) ranges → is_in v (get_or ranges i d) ≡ true →
    (nat_le 4 v && list_any (λ s. is_in (v - 4) s && is_in v s) ranges) ≡ nat_le ((get_or ranges i d).from + 4) v
follows_here ranges i d v lt apart here =
    let r = get_or ranges i d in
    let h = and_parts (nat_le r.from v) (nat_lt v r.to) here in
    let high = ltb-true v r.to h.1 in
    both_ways (nat_le 4 v && list_any (λ s. is_in (v - 4) s && is_in v s) ranges) (nat_le (r.from + 4) v)
    (λ yes. let p = and_parts (nat_le 4 v) (list_any (λ s. is_in (v - 4) s && is_in v s) ranges) yes in
    let four = leb-true 4 v p.0 in
    let low = leb-true r.from (v - 4) (and_parts (nat_le r.from (v - 4)) (nat_lt (v - 4) r.to) (in_same r v ranges apart here p.1)).0 in
    le-leb (r.from + 4) v (omega (arith, four, low)))
    (λ yes. let low = leb-true (r.from + 4) v yes in
    and_from (nat_le 4 v) (list_any (λ s. is_in (v - 4) s && is_in v s) ranges) (le-leb 4 v (omega (arith, low)))
    (list_any_at (λ s. is_in (v - 4) s && is_in v s) ranges i d lt
    (and_from (is_in (v - 4) r) (is_in v r)
    (and_from (nat_le r.from (v - 4)) (nat_lt (v - 4) r.to) (le-leb r.from (v - 4) (omega (arith, low))) (lt-ltb (v - 4) r.to (omega (arith, low, high)))) here)))

-- a range of the text
pub walked : (image : Image) (i : ℕ) (d : Range) → image_of image.file ≡ Ok image → i < length image.text → IsWalked image (get_or image.text i d)
walked image i d e lt =
    record {
      read = e;
      first = (All-get_or IsTextRange image.text i d lt (text_ranges_kept image.file image e)).first;
      inside = λ v h. list_any_at (is_in v) image.text i d lt h;
      follows = λ v h. follows_here image.text i d v lt (All-get_or (λ r. All (λ s. (a : ℕ) → is_in a r ≡ true → is_in a s ≡ true → r ≡ s) image.text) image.text i d lt (ranges_apart image.file image e)) h;
    }

pub walked_in : (image : Image) (text : List Range) (i : ℕ) → text ≡ image.text → image_of image.file ≡ Ok image → i < length text → IsWalked image (get_or text i (record { from = 0; to = 0 }))
walked_in image text i same e lt =
    let P : List Range → Type 0 = λ rs. i < length rs → IsWalked image (get_or rs i (record { from = 0; to = 0 })) in
    subst P (sym same) (walked image i (record { from = 0; to = 0 }) e) lt
