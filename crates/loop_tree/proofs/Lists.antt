-- Lists of numbers of which one holds another, and images of lists.
use Rattle.std.proofs.Common.{◌≡◌, ◌≢◌, ℕ, zero, suc, ◌+◌, ◌++◌, take, ◌<◌, ◌≤◌, Bool, true, false, cond, nat_eq, List, [], ◌∷◌, map, length, get_or, slice_get, Option, Some, None, option_map, Vec, Global, refl, sym, ap, ◌∙◌, arith, eqb-true}
use Rattle.std.proofs.lemmas.Option.{slice_get-get_or, slice_get-map}
use Rattle.cost_theory.specs.Lists.{is_among, or_true, body_of}
use Rattle.loop_forest.proofs.Laws.{body_at as body_found, at_among, among_at, or_right}
use Rattle.graph_algorithms.specs.Nesting.{bodies_of, body_at}
use Rattle.loop_forest.specs.Stored.{IsRising}

-- ---- lengths of lists of which one holds another

rising_tail : (x : ℕ) (xs : List ℕ) → IsRising (x ∷ xs) → IsRising xs
rising_tail x xs rise i j a b lt at_i at_j = rise (suc i) (suc j) a b (omega arith) at_i at_j

head_below : (x : ℕ) (xs : List ℕ) → IsRising (x ∷ xs) → (u : ℕ) → is_among u xs ≡ true → x < u
head_below x xs rise u e = let at = at_among xs u e in rise zero (suc at.0) x u (omega arith) refl at.1

abbrev without : ℕ → List ℕ → List ℕ
without x [] = []
without x (y ∷ ys) = cond (nat_eq y x) ys (y ∷ without x ys)

length-without : (x : ℕ) (ys : List ℕ) → is_among x ys ≡ true → suc (length (without x ys)) ≡ length ys
length-without x [] e = let bad : ⊥ = cc in absurd bad
length-without x (y ∷ ys) e = go (nat_eq y x) refl (length-without x ys)
  where
    go : (b : Bool) → nat_eq y x ≡ b → (is_among x ys ≡ true → suc (length (without x ys)) ≡ length ys) → suc (length (cond b ys (y ∷ without x ys))) ≡ length (y ∷ ys)
    go true h later = refl
    go false h later = ap suc (later (sym (ap (λ b. or_true b (is_among x ys)) h) ∙ e))

among_without : (x u : ℕ) (ys : List ℕ) → u ≢ x → is_among u ys ≡ true → is_among u (without x ys) ≡ true
among_without x u [] other e = e
among_without x u (y ∷ ys) other e = go (nat_eq y x) refl (among_without x u ys other)
  where
    left : (b : Bool) → nat_eq y u ≡ b → y ≡ x → is_among u ys ≡ true
    left true h same = absurd (other (sym (eqb-true y u h) ∙ same))
    left false h same = sym (ap (λ b. or_true b (is_among u ys)) h) ∙ e

    here : (b : Bool) → nat_eq y u ≡ b → (is_among u ys ≡ true → is_among u (without x ys) ≡ true) → or_true (nat_eq y u) (is_among u (without x ys)) ≡ true
    here true h later = ap (λ b. or_true b (is_among u (without x ys))) h
    here false h later = or_right (nat_eq y u) (is_among u (without x ys)) (later (sym (ap (λ b. or_true b (is_among u ys)) h) ∙ e))

    go : (b : Bool) → nat_eq y x ≡ b → (is_among u ys ≡ true → is_among u (without x ys) ≡ true) → is_among u (cond b ys (y ∷ without x ys)) ≡ true
    go true h later = left (nat_eq y u) refl (eqb-true y x h)
    go false h later = here (nat_eq y u) refl later

-- a list that ascends is no longer than one that has all its numbers
held_length : (xs ys : List ℕ) → IsRising xs → ((u : ℕ) → is_among u xs ≡ true → is_among u ys ≡ true) → length xs ≤ length ys
held_length [] ys rise held = omega arith
held_length (x ∷ xs) ys rise held =
    let size : suc (length (without x ys)) ≡ length ys = length-without x ys (held x (among_at (x ∷ xs) zero x refl)) in
    let more : length xs ≤ length (without x ys) = held_length xs (without x ys) (rising_tail x xs rise)
    (λ u e. let lt : x < u = head_below x xs rise u e in among_without x u ys (λ same. let bad : ⊥ = omega arith in bad) (held u (or_right (nat_eq x u) (is_among u xs) e))) in
    omega arith

-- and shorter than one that has another number too
pub held_shorter : (xs ys : List ℕ) (z : ℕ) → IsRising xs → ((u : ℕ) → is_among u xs ≡ true → is_among u ys ≡ true) → is_among z ys ≡ true → is_among z xs ≡ false → length xs < length ys
held_shorter xs ys z rise held more none =
    let size : suc (length (without z ys)) ≡ length ys = length-without z ys more in
    let le : length xs ≤ length (without z ys) = held_length xs (without z ys) rise
    (λ u e. among_without z u ys (λ same. let bad : true ≡ false = sym e ∙ ap (λ a. is_among a xs) same ∙ none in let no_way : ⊥ = cc in no_way) (held u e)) in
    omega arith

-- ---- images of lists

image_next : {X Y : Type 0} (f : X → Y) (xs : List X) (k : ℕ) (x : X) → slice_get xs k ≡ Some x → map f (take k xs) ++ f x ∷ [] ≡ map f (take (suc k) xs)
image_next f [] k x e = let bad : ⊥ = cc in absurd bad
image_next f (y ∷ ys) zero x e = let same : x ≡ y = cc in ap (λ z. f z ∷ []) same
image_next f (y ∷ ys) (suc k) x e = ap (λ zs. f y ∷ zs) (image_next f ys k x e)

-- the images of the first elements, and one more
pub image_more : {X Y : Type 0} (f : X → Y) (xs : List X) (k : ℕ) (x : X) (ys : List Y) → slice_get xs k ≡ Some x → ys ≡ map f (take k xs) → ys ++ f x ∷ [] ≡ map f (take (k + 1) xs)
image_more f xs k x ys at e = ap (λ zs. zs ++ f x ∷ []) e ∙ image_next f xs k x at ∙ ap (λ n. map f (take n xs)) (let one : suc k ≡ k + 1 = omega arith in one)

pub body_of-map : (f : ℕ → ℕ) (bodies : List (List ℕ)) (k : ℕ) → body_of (map (λ body. map f body) bodies) k ≡ map f (body_of bodies k)
body_of-map f [] k = refl
body_of-map f (b ∷ bs) zero = refl
body_of-map f (b ∷ bs) (suc k) = body_of-map f bs k

pub image_some : {X Y : Type 0} (f : X → Y) (o : Option X) (y : Y) → option_map f o ≡ Some y → (x : X) × (o ≡ Some x) × (f x ≡ y)
image_some f None y e = let bad : ⊥ = cc in absurd bad
image_some f (Some x) y e = (x, refl, (let r : f x ≡ y = cc in r))

pub body_same : (bodies : List (List ℕ)) (k : ℕ) → body_at bodies k ≡ body_of bodies k
body_same [] k = refl
body_same (b ∷ bs) zero = refl
body_same (b ∷ bs) (suc k) = body_same bs k

-- a body that is read
pub body_read : (bodies : List (Vec ℕ Global)) (k : ℕ) (body : Vec ℕ Global) → k < length bodies → body ≡ get_or bodies k body → body_of (bodies_of bodies) k ≡ body.items
body_read bodies k body lt is =
    let items : Vec ℕ Global → List ℕ = λ b. b.items in
    body_found (bodies_of bodies) k body.items (slice_get-map items bodies k ∙ ap (option_map items) (slice_get-get_or bodies k body lt ∙ ap Some (sym is)))
