-- Texts that loops write.
use Rattle.std.proofs.Common.{◌≡◌, ℕ, ◌+◌, ◌<◌, ◌≤◌, Bool, true, false, drop, drop-cons, add-one, List, [], ◌∷◌, ◌++◌, length, get_or, take, append_assoc, append-nil, refl, sym, ap, ◌∙◌, arith}
use Rattle.std.specs.Prelude.{◌&&◌, ◌-◌, suc, cond, find, Option, Some}
use Rattle.std.specs.Prelude.{Result, Ok, Err, is_ok, OnOk, if◌then◌else◌}
use Rattle.std.specs.List.{flat_map, list_all, range_with_len}
use Rattle.std.proofs.lemmas.List.{take_more, flat_map_more, length-take-le, map-id, take_all, drop_all}
use Rattle.std.proofs.lemmas.List.FromFn.{map-range_with_len_more}
use Rattle.std.proofs.lemmas.Grind.{flat_map-append}
use Rattle.scale_report.specs.Texts.{numbered_lines}

-- ---- a text that a last call adds

pub on-ok-added : {T E : Type 0} (r : Result T E) (new added old : List ℕ) → new ≡ (if is_ok r then added else old) → OnOk r (new ≡ added)
on-ok-added (Ok x) new added old e = e
on-ok-added (Err x) new added old e = tt

-- ---- a text in three parts

pub on-ok-three : {T E : Type 0} (r : Result T E) (new second first old a b c : List ℕ) → first ≡ old ++ a → second ≡ first ++ b → OnOk r (new ≡ second ++ c) → OnOk r (new ≡ old ++ (a ++ b ++ c))
on-ok-three (Ok x) new second first old a b c f s e =
    e ∙ ap (λ (t : List ℕ). t ++ c) (s ∙ ap (λ (t : List ℕ). t ++ b) f ∙ append_assoc old a b) ∙ append_assoc old (a ++ b) c
on-ok-three (Err x) new second first old a b c f s e = tt

-- ---- a text for each number from 0 on

range_more : (n : ℕ) → range_with_len 0 (n + 1) ≡ range_with_len 0 n ++ n ∷ []
range_more n =
    sym (map-id (range_with_len 0 (n + 1))) ∙ map-range_with_len_more (λ (x : ℕ). x) 0 n n (let e : 0 + n ≡ n = omega arith in e) ∙ ap (λ (xs : List ℕ). xs ++ n ∷ []) (map-id (range_with_len 0 n))

pub range-more : (f : ℕ → List ℕ) (n : ℕ) (old text new : List ℕ) → new ≡ text ++ f n → text ≡ old ++ flat_map f (range_with_len 0 n) → new ≡ old ++ flat_map f (range_with_len 0 (n + 1))
range-more f n old text new h e =
    h ∙ ap (λ (t : List ℕ). t ++ f n) e ∙ append_assoc old (flat_map f (range_with_len 0 n)) (f n)
    ∙ ap (λ (t : List ℕ). old ++ t) (ap (λ (t : List ℕ). flat_map f (range_with_len 0 n) ++ t) (sym (append-nil (f n)))
    ∙ sym (flat_map-append f (range_with_len 0 n) (n ∷ [])) ∙ ap (flat_map f) (sym (range_more n)))

pub range-none : (f : ℕ → List ℕ) (old : List ℕ) → old ≡ old ++ flat_map f (range_with_len 0 0)
range-none f old = sym (append-nil old)

-- ---- the first number that does

pub find-past : (p : ℕ → Bool) (k most : ℕ) (all : Option ℕ) → k < most → p k ≡ false → find p (range_with_len k (most - k)) ≡ all → find p (range_with_len (k + 1) (most - (k + 1))) ≡ all
find-past p k most all lt fails e =
    let n : most - k ≡ suc (most - (k + 1)) = omega (arith, lt) in
    sym (ap (λ (m : ℕ). find p (range_with_len k m)) n ∙ ap (λ (b : Bool). cond b (Some k) (find p (range_with_len (k + 1) (most - (k + 1))))) fails) ∙ e

-- ---- a line for each item

module _ {A : Type 0} (line : ℕ → A → List ℕ) where
  one-more : (k : ℕ) (items : List A) (item : A) → numbered_lines line k (items ++ item ∷ []) ≡ numbered_lines line k items ++ line (k + length items) item
  unfolding numbered_lines
  one-more k [] item = append-nil (line k item) ∙ ap (λ (n : ℕ). line n item) (let e : k ≡ k + 0 = omega arith in e)
  one-more k (first ∷ items) item =
      let rest = one-more (k + 1) items item in
      let number : k + 1 + length items ≡ k + length (first ∷ items) = omega arith in
      ap (λ (text : List ℕ). line k first ++ text) rest
      ∙ sym (append_assoc (line k first) (numbered_lines line (k + 1) items) (line (k + 1 + length items) item))
      ∙ ap (λ (n : ℕ). (line k first ++ numbered_lines line (k + 1) items) ++ line n item) number

  pub lines-none : (k : ℕ) (old : List ℕ) → old ≡ old ++ numbered_lines line k []
  unfolding numbered_lines
  lines-none k old = sym (append-nil old)

  pub lines-more : (k i n : ℕ) (items : List A) (item : A) (old text new : List ℕ) → i < length items → item ≡ get_or items i item → n ≡ k + i → new ≡ text ++ line n item
      → text ≡ old ++ numbered_lines line k (take i items) → new ≡ old ++ numbered_lines line k (take (i + 1) items)
  lines-more k i n items item old text new lt is number h e =
      let within : i ≤ length items = omega (arith, lt) in
      let count : length (take i items) ≡ i = length-take-le i items within in
      let at : k + length (take i items) ≡ n = omega (arith, count, number) in
      let more : take (i + 1) items ≡ take i items ++ item ∷ [] = take_more items i item lt ∙ ap (λ (x : A). take i items ++ x ∷ []) (sym is) in
      h ∙ ap (λ (t : List ℕ). t ++ line n item) e ∙ append_assoc old (numbered_lines line k (take i items)) (line n item)
      ∙ ap (λ (t : List ℕ). old ++ t) (ap (λ (m : ℕ). numbered_lines line k (take i items) ++ line m item) (sym at) ∙ sym (one-more k (take i items) item) ∙ ap (numbered_lines line k) (sym more))

  pub lines-all : (k i : ℕ) (items : List A) (old text : List ℕ) → length items ≤ i → text ≡ old ++ numbered_lines line k (take i items) → text ≡ old ++ numbered_lines line k items
  lines-all k i items old text le e = e ∙ ap (λ (l : List A). old ++ numbered_lines line k l) (take_all i items le)

-- ---- the bytes of a name

pub all-next : (p : ℕ → Bool) (xs : List ℕ) (i d : ℕ) → i < length xs → list_all p (drop i xs) ≡ (p (get_or xs i d) && list_all p (drop (i + 1) xs))
all-next p xs i d lt =
    let next : drop i xs ≡ get_or xs i d ∷ drop (i + 1) xs = rw add-one (drop-cons xs i d lt) in
    ap (list_all p) next

pub all-true : (p : ℕ → Bool) (xs : List ℕ) (i d : ℕ) → i < length xs → p (get_or xs i d) ≡ true → list_all p (drop i xs) ≡ list_all p xs → list_all p (drop (i + 1) xs) ≡ list_all p xs
all-true p xs i d lt plain e = sym (all-next p xs i d lt ∙ ap (λ b. b && list_all p (drop (i + 1) xs)) plain) ∙ e

pub all-false : (p : ℕ → Bool) (xs : List ℕ) (i d : ℕ) → i < length xs → p (get_or xs i d) ≡ false → list_all p (drop i xs) ≡ list_all p xs → false ≡ list_all p xs
all-false p xs i d lt odd e = sym (all-next p xs i d lt ∙ ap (λ b. b && list_all p (drop (i + 1) xs)) odd) ∙ e

pub all-done : (p : ℕ → Bool) (xs : List ℕ) (i : ℕ) → length xs ≤ i → list_all p (drop i xs) ≡ list_all p xs → true ≡ list_all p xs
all-done p xs i le e = ap (list_all p) (sym (drop_all i xs le)) ∙ e

pub bytes-more : (f : ℕ → List ℕ) (xs : List ℕ) (i d : ℕ) (old text new : List ℕ) → i < length xs → new ≡ text ++ f (get_or xs i d) → text ≡ old ++ flat_map f (take i xs) → new ≡ old ++ flat_map f (take (i + 1) xs)
bytes-more f xs i d old text new lt h e =
    h ∙ ap (λ (t : List ℕ). t ++ f (get_or xs i d)) e ∙ flat_map_more f old (take i xs) (get_or xs i d) ∙ ap (λ (l : List ℕ). old ++ flat_map f l) (sym (take_more xs i d lt))

pub bytes-all : (f : ℕ → List ℕ) (xs : List ℕ) (i : ℕ) (old text : List ℕ) → length xs ≤ i → text ≡ old ++ flat_map f (take i xs) → text ≡ old ++ flat_map f xs
bytes-all f xs i old text le e = e ∙ ap (λ (l : List ℕ). old ++ flat_map f l) (take_all i xs le)
