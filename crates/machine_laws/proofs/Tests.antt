-- What a test of a list finds, and what passes it.
use Rattle.std.proofs.Common.{◌≡◌, Bool, true, false, cond, ◌||◌, List, [], ◌∷◌, map, Option, Some, None, refl, sym, ap, ◌∙◌, ◌⊎◌, inl, inr}
use Rattle.std.specs.Prelude.{option_map}
use Rattle.std.specs.List.{find, list_any, list_all, filter_map, cons_option}
use Rattle.std.proofs.lemmas.Bool.{cases_Bool, and_parts, and_from, or_left, or_right, cond-true, cond-false}

some_is : {A : Type 0} (x y : A) → Some x ≡ Some y → x ≡ y
some_is x y e = cc

pub same_found : {A : Type 0} (o : Option A) (x y : A) → o ≡ Some x → o ≡ Some y → x ≡ y
same_found o x y e f = some_is x y (sym e ∙ f)

-- the first of a list is what is found, or it fails and the rest has it
pub found_in : {A : Type 0} (b : Bool) (x y : A) (rest : Option A) → cond b (Some y) rest ≡ Some x → ((b ≡ true) × (y ≡ x)) ⊎ ((b ≡ false) × (rest ≡ Some x))
found_in true x y rest e = inl (refl, some_is y x e)
found_in false x y rest e = inr (refl, e)

-- what is found passes the test
pub found_passes : {A : Type 0} (p : A → Bool) (xs : List A) (x : A) → find p xs ≡ Some x → p x ≡ true
found_passes p [] x e = absurd cc
found_passes p (y ∷ xs) x e =
    elim (found_in (p y) x y (find p xs) e) [
      | inl h ↦ ap p (sym h.1) ∙ h.0
      | inr h ↦ found_passes p xs x h.1
    ]

-- and it passes what each element passes
pub found_keeps : {A : Type 0} (p q : A → Bool) (xs : List A) (x : A) → find p xs ≡ Some x → list_all q xs ≡ true → q x ≡ true
found_keeps p q [] x e all = absurd cc
found_keeps p q (y ∷ xs) x e all =
    let a = and_parts (q y) (list_all q xs) all in
    elim (found_in (p y) x y (find p xs) e) [
      | inl h ↦ ap q (sym h.1) ∙ a.0
      | inr h ↦ found_keeps p q xs x h.1 a.1
    ]

or_last : (a b : Bool) → a ≡ false → (a || b) ≡ true → b ≡ true
or_last true b off e = absurd cc
or_last false b off e = e

-- where some element passes, one is found
pub found_from_any : {A : Type 0} (p : A → Bool) (xs : List A) → list_any p xs ≡ true → (x : A) × (find p xs ≡ Some x)
found_from_any p [] e = absurd cc
found_from_any p (y ∷ xs) e =
    elim (cases_Bool (p y)) [
      | inl on ↦ (y, cond-true (p y) (Some y) (find p xs) on)
      | inr off ↦ let rest = found_from_any p xs (or_last (p y) (list_any p xs) off e) in (rest.0, cond-false (p y) (Some y) (find p xs) off ∙ rest.1)
    ]

-- what is found and passes another test shows that some element does
pub any_from_found : {A : Type 0} (p q : A → Bool) (xs : List A) (x : A) → find p xs ≡ Some x → q x ≡ true → list_any q xs ≡ true
any_from_found p q [] x e on = absurd cc
any_from_found p q (y ∷ xs) x e on =
    elim (found_in (p y) x y (find p xs) e) [
      | inl h ↦ or_left (q y) (list_any q xs) (ap q h.1 ∙ on)
      | inr h ↦ or_right (q y) (list_any q xs) (any_from_found p q xs x h.1 on)
    ]

pub find-map : {A B : Type 0} (p : B → Bool) (f : A → B) (xs : List A) → find p (map f xs) ≡ option_map f (find (λ x. p (f x)) xs)
find-map p f [] = refl
find-map p f (x ∷ xs) = step (p (f x)) f x (find p (map f xs)) (find (λ x. p (f x)) xs) (find-map p f xs)
  where
    step : {A B : Type 0} (b : Bool) (f : A → B) (x : A) (o : Option B) (r : Option A) → o ≡ option_map f r → cond b (Some (f x)) o ≡ option_map f (cond b (Some x) r)
    step true f x o r e = refl
    step false f x o r e = e

pub list_any-map : {A B : Type 0} (p : B → Bool) (f : A → B) (xs : List A) → list_any p (map f xs) ≡ list_any (λ x. p (f x)) xs
list_any-map p f [] = refl
list_any-map p f (x ∷ xs) = ap (λ (b : Bool). p (f x) || b) (list_any-map p f xs)

pub mapped_from : {A B : Type 0} (f : A → B) (o : Option A) (y : B) → option_map f o ≡ Some y → (x : A) × (o ≡ Some x) × (f x ≡ y)
mapped_from f None y e = absurd cc
mapped_from f (Some x) y e = (x, refl, some_is (f x) y e)

-- what is there passes the test
abbrev pub passes : {A : Type 0} → (A → Bool) → Option A → Bool
passes q None = true
passes q (Some x) = q x

pub list_all-filter_map : {A B : Type 0} (q : B → Bool) (f : A → Option B) (xs : List A) → ((x : A) → passes q (f x) ≡ true) → list_all q (filter_map f xs) ≡ true
list_all-filter_map q f [] each = refl
list_all-filter_map q f (x ∷ xs) each = step q (f x) (filter_map f xs) (each x) (list_all-filter_map q f xs each)
  where
    step : {B : Type 0} (q : B → Bool) (o : Option B) (ys : List B) → passes q o ≡ true → list_all q ys ≡ true → list_all q (cons_option o ys) ≡ true
    step q None ys one rest = rest
    step q (Some y) ys one rest = and_from (q y) (list_all q ys) one rest
