-- Entries of lists that stand beside each other.
use Rattle.std.proofs.Common.{◌≡◌, ℕ, zero, suc, ◌+◌, ◌<◌, ◌≤◌, Bool, true, false, List, [], ◌∷◌, ◌++◌, length, length-append, take, get_or, map, Option, Some, None, nat_eq, refl, sym, ap, ◌∙◌, arith, ◌⊎◌, inl, inr, ⊎_elim, eqb-true, eq-eqb}
use Rattle.std.specs.Prelude.{slice_get}
use Rattle.std.proofs.lemmas.Option.{slice_get_within, get_or_from_slice_get}
use Rattle.cost_theory.specs.Reached.{flag_beside, if_true}
use Rattle.cost_theory.proofs.Laws.{some_get, Within, get_within}
use Rattle.std.proofs.lemmas.List.{take_more, map-append}
use Rattle.code_text.specs.Walk.{RiseStrictly}
use Rattle.flow_graph.proofs.Laws.{Once, once_tail, once_head, less_same_more, some_is}

pub flag_beside-get : (us : List ℕ) (ws : List Bool) (k v : ℕ) (w : Bool) → Once us → slice_get us k ≡ Some v → slice_get ws k ≡ Some w → flag_beside us ws v ≡ w
flag_beside-get [] ws k v w once at beside = let bad : ⊥ = cc in absurd bad
flag_beside-get (u ∷ us) [] k v w once at beside = let bad : ⊥ = cc in absurd bad
flag_beside-get (u ∷ us) (x ∷ ws) zero v w once at beside = ap (λ (b : Bool). if_true b x (flag_beside us ws v)) (eq-eqb u v (some_is u v at)) ∙ some_is x w beside
flag_beside-get (u ∷ us) (x ∷ ws) (suc k) v w once at beside = ap (λ (b : Bool). if_true b x (flag_beside us ws v)) (once_head u us once k v at) ∙ flag_beside-get us ws k v w (once_tail u us once) at beside

-- a flag that is up stands beside a place
pub flag_beside-place : (us : List ℕ) (ws : List Bool) (v : ℕ) → flag_beside us ws v ≡ true → (k : ℕ) × (slice_get us k ≡ Some v) × (slice_get ws k ≡ Some true)
flag_beside-place [] ws v up = let bad : ⊥ = cc in absurd bad
flag_beside-place (u ∷ us) [] v up = let bad : ⊥ = cc in absurd bad
flag_beside-place (u ∷ us) (x ∷ ws) v up = go (nat_eq u v) refl up (flag_beside-place us ws v)
  where
    go : (b : Bool) → nat_eq u v ≡ b → if_true b x (flag_beside us ws v) ≡ true → (flag_beside us ws v ≡ true → (k : ℕ) × (slice_get us k ≡ Some v) × (slice_get ws k ≡ Some true)) →
        (k : ℕ) × (slice_get (u ∷ us) k ≡ Some v) × (slice_get (x ∷ ws) k ≡ Some true)
    go true e here more = (0, ap Some (eqb-true u v e), ap Some here)
    go false e here more = let r = more here in (suc r.0, r.1, r.2)

-- the entries of two lists of one length
pub beside : {X Y : Type 0} (xs : List X) (ys : List Y) (k : ℕ) (x : X) → length ys ≡ length xs → slice_get xs k ≡ Some x → (y : Y) × (slice_get ys k ≡ Some y)
beside xs ys k x same at = some_get ys k (let lt = slice_get_within xs k x at in omega arith)

-- of ascending numbers, a later one is greater
pub later_more : (xs : List ℕ) → RiseStrictly xs → (i j a b : ℕ) → i < j → slice_get xs i ≡ Some a → slice_get xs j ≡ Some b → a < b
later_more xs rise i j a b ij at_i at_j =
    let less : get_or xs i 0 < get_or xs j 0 = rise i j ij (slice_get_within xs j b at_j) in
    let first : get_or xs i 0 ≡ a = get_or_from_slice_get xs i a 0 at_i in
    let second : get_or xs j 0 ≡ b = get_or_from_slice_get xs j b 0 at_j in
    omega arith

pub not_earlier : (xs : List ℕ) → RiseStrictly xs → (i j a b : ℕ) → (j < i → ⊥) → slice_get xs i ≡ Some a → slice_get xs j ≡ Some b → a ≤ b
not_earlier xs rise i j a b none at_i at_j = ⊎_elim
    (λ (lt : i < j). let less : a < b = later_more xs rise i j a b lt at_i at_j in omega arith)
    (λ (r : (i ≡ j) ⊎ (j < i)). ⊎_elim
    (λ (e : i ≡ j). let same : a ≡ b = some_is a b (sym at_i ∙ ap (slice_get xs) e ∙ at_j) in omega arith)
    (λ (gt : j < i). absurd (none gt)) r)
    (less_same_more i j)

-- ---- lists with more at the end

pub get_left : {X : Type 0} (xs ys : List X) (i : ℕ) (x : X) → slice_get xs i ≡ Some x → slice_get (xs ++ ys) i ≡ Some x
get_left [] ys i x at = let bad : ⊥ = cc in absurd bad
get_left (z ∷ zs) ys zero x at = at
get_left (z ∷ zs) ys (suc i) x at = get_left zs ys i x at

pub get_end : {X : Type 0} (xs : List X) (y : X) → slice_get (xs ++ y ∷ []) (length xs) ≡ Some y
get_end [] y = refl
get_end (z ∷ zs) y = get_end zs y

pub get_more : {X : Type 0} (xs ys : List X) (i : ℕ) (x : X) → slice_get (xs ++ ys) i ≡ Some x → (slice_get xs i ≡ Some x) ⊎ ((length xs ≤ i) × Within x ys)
get_more [] ys i x at = inr (omega arith, get_within ys i x at)
get_more (z ∷ zs) ys zero x at = inl at
get_more (z ∷ zs) ys (suc i) x at = ⊎_elim
    (λ (left : slice_get zs i ≡ Some x). inl left)
    (λ (right : (length zs ≤ i) × Within x ys). let le : length zs ≤ i = right.0 in inr ((let r : suc (length zs) ≤ suc i = omega arith in r), right.1))
    (get_more zs ys i x at)

-- an entry of a list with one more is an old one, or the last
pub get_pushed : {X : Type 0} (xs : List X) (y : X) (i : ℕ) (x : X) → slice_get (xs ++ y ∷ []) i ≡ Some x → (slice_get xs i ≡ Some x) ⊎ ((i ≡ length xs) × (y ≡ x))
get_pushed [] y zero x at = inr (refl, (let e : y ≡ x = cc in e))
get_pushed [] y (suc i) x at = let bad : ⊥ = cc in absurd bad
get_pushed (z ∷ zs) y zero x at = inl at
get_pushed (z ∷ zs) y (suc i) x at = ⊎_elim
    (λ (left : slice_get zs i ≡ Some x). inl left)
    (λ (right : (i ≡ length zs) × (y ≡ x)). inr (ap suc right.0, right.1))
    (get_pushed zs y i x at)

pub length_pushed : {X : Type 0} (xs : List X) (y : X) → length (xs ++ y ∷ []) ≡ length xs + 1
length_pushed xs y = length-append xs (y ∷ [])

-- a map, an element further
pub map_next : {X Y : Type 0} (f : X → Y) (xs : List X) (old : List Y) (i : ℕ) (d : X) (y : Y) → i < length xs → old ≡ map f (take i xs) → y ≡ f (get_or xs i d) → old ++ y ∷ [] ≡ map f (take (i + 1) xs)
map_next f xs old i d y lt is value =
    ap (λ ys. ys ++ y ∷ []) is ∙ ap (λ z. map f (take i xs) ++ z ∷ []) value ∙ sym (map-append f (take i xs) (get_or xs i d ∷ [])) ∙ ap (map f) (sym (take_more xs i d lt))

pub none_is : {X : Type 0} (o : Option X) → ((x : X) → o ≡ Some x → ⊥) → o ≡ None
none_is None no_some = refl
none_is (Some x) no_some = absurd (no_some x refl)
