-- What is so of each line of a row is so of each form, as nothing is known of one that isn't there.
use Rattle.std.proofs.Common.{◌≡◌, ℕ, suc, ◌+◌, ◌*◌, ◌%◌, ◌^◌, Bool, true, false, cond, nat_eq, eqb-true, List, [], ◌∷◌, Option, Some, None, refl, sym, subst, ap, ◌∙◌, arith}
use Rattle.std.specs.Prelude.{option_map}
use Rattle.std.specs.List.{All, find}
use Rattle.bound_laws.proofs.Laws.{sum_of_products}
use Rattle.bound_laws.specs.Registers.{Measure}
use Rattle.bound_laws.specs.Values.{Arc, Covers, IsHeld, held, line_of}
use Rattle.wrapped_intervals.specs.Small.{line_by}
use Rattle.value_checks.specs.declared.tables.Line.{Line}
use Rattle.value_checks.specs.Tables.{line_in}

pub covers_none : (x other : Option Arc) → x ≡ None → Covers x other
covers_none x other none = subst (λ (y : Option Arc). Covers y other) (sym none) tt

pub held_none : (x : Option Arc) (value : ℕ) → x ≡ None → IsHeld x value
held_none x value none = subst (λ (y : Option Arc). IsHeld y value) (sym none) tt

-- of the first line: it is of the form, or the row behind it says what the whole does
line_more : (P : ℕ → Type 0) (x : Line) (xs : List Line) (j : ℕ) (b : Bool) → nat_eq x.form j ≡ b → P x.form → ((line_in xs j ≡ None → P j) → P j) → (line_in (x ∷ xs) j ≡ None → P j) → P j
line_more P x xs j true e here rest none = subst P (eqb-true x.form j e) here
line_more P x xs j false e here rest none = rest (λ (absent : line_in xs j ≡ None). none (ap (λ (b : Bool). option_map (λ (y : Line). y.arc) (cond b (Some x) (find (λ (y : Line). nat_eq y.form j) xs))) e ∙ absent))

line_or : (P : ℕ → Type 0) (lines : List Line) (j : ℕ) → All (λ (known : Line). P known.form) lines → (line_in lines j ≡ None → P j) → P j
line_or P [] j all none = none refl
line_or P (x ∷ xs) j all none = line_more P x xs j (nat_eq x.form j) refl (all 0 x (omega arith)) (λ rest. line_or P xs j (λ k d lt. all (suc k) d (omega (arith, lt))) rest) none

pub each_line : (P : ℕ → Type 0) (at : ℕ → Option Arc) (lines : List Line) → ((j : ℕ) → line_in lines j ≡ at j) → All (λ (known : Line). P known.form) lines → ((j : ℕ) → at j ≡ None → P j) → (j : ℕ) → P j
each_line P at lines same all none j = line_or P lines j all (λ (absent : line_in lines j ≡ None). none j (sym (same j) ∙ absent))

-- the interval of a form by those of its registers
pub by_registers : (known held_known : Option Arc) (at : ℕ → Option Arc) (m f : Measure) (first other found : Option Arc) → held_known ≡ known → m ≡ f → held at f.register ≡ first → held at f.other ≡ other → found ≡ line_by m first other →
    Covers held_known found → Covers known (line_of f at)
by_registers known held_known at m f first other found is_known same is_first is_other is_found given =
    subst (λ (x : Option Arc). Covers x (line_of f at)) is_known
    (subst (λ (x : Option Arc). Covers held_known x) (is_found ∙ (ap (λ (x : Measure). line_by x first other) same ∙ (ap (λ (x : Option Arc). line_by f x other) (sym is_first) ∙ ap (λ (x : Option Arc). line_by f (held at f.register) x) (sym is_other)))) given)

-- a sum of two products and a shift, one after the other
pub sum_is : (s f g a b x y : ℕ) → a ≡ x → b ≡ y → ((f * a % 2 ^ 32 + g * b % 2 ^ 32) % 2 ^ 32 + s) % 2 ^ 32 ≡ (s + f * x + g * y) % 2 ^ 32
sum_is s f g a b x y first other =
    sum_of_products (2 ^ 32) s (f * a) (g * b) ∙ (ap (λ (n : ℕ). (s + f * n + g * b) % 2 ^ 32) first ∙ ap (λ (n : ℕ). (s + f * x + g * n) % 2 ^ 32) other)
