-- One input more, by its flag; and the numbers of the choice.
use Rattle.std.proofs.Common.{◌≡◌, ℕ, ◌+◌, ◌-◌, ◌*◌, ◌^◌, ◌<◌, ◌≤◌, Bool, true, false, List, [], ◌∷◌, map, length, take, get_or, Option, Some, None, refl, sym, ap, ◌∙◌, subst, arith}
use Rattle.std.specs.Prelude.{IsSome, IfSome, Vec, count_by}
use Rattle.std.specs.List.{All}
use Rattle.std.specs.declared.alloc.Global.{Global}
use Rattle.std.proofs.lemmas.List.{get_or-map, length-map}
use Rattle.std.proofs.lemmas.List.Sums.{count_by-le-length}
use Rattle.scale_base.specs.declared.summary.Summary.{Summary}
use Rattle.scale_base.specs.declared.summary.Tuned.{Tuned}
use Rattle.gain_tuner.specs.declared.choosing.Trial.{Trial}
use Rattle.gain_tuner.specs.Choice.{IsTrial, IsChoice}
use Rattle.gain_tuner.specs.Finding.{IsSafeChoice, IsSpentOr}
use Rattle.gain_tuner.specs.Spending.{counts, counting, IsSpent, spent_on}
use Rattle.gain_tuner.proofs.Sums.{spent_more, spent_less, out_of_steps, flags_count}

abbrev pub items_of : List (Vec ℕ Global) → List (List ℕ)
items_of inputs = map (λ v. v.items) inputs

-- ---- one input more

module _ (image machine loops stored : List ℕ) (inputs : List (Vec ℕ Global)) (flags : List Bool) (are : flags ≡ map (λ v. counts image machine loops v.items) inputs)
    (k : ℕ) (v : Vec ℕ Global) (lt : k < length inputs) (at : v ≡ get_or inputs k v) where
  pub input_below : k < length (items_of inputs)
  input_below = subst (λ n. k < n) (sym (length-map inputs (λ (w : Vec ℕ Global). w.items))) lt

  pub input_at : get_or (items_of inputs) k [] ≡ v.items
  input_at = get_or-map (λ (w : Vec ℕ Global). w.items) inputs k v [] lt ∙ ap (λ (w : Vec ℕ Global). w.items) (sym at)

  pub flag_at : (d : Bool) → get_or flags k d ≡ counts image machine loops v.items
  flag_at d = ap (λ (l : List Bool). get_or l k d) are ∙ (get_or-map (λ (w : Vec ℕ Global). counts image machine loops w.items) inputs k v d lt ∙ ap (λ (w : Vec ℕ Global). counts image machine loops w.items) (sym at))

  spent_at : (z : List ℕ) (o o' : Option ℕ) → z ≡ v.items → o ≡ spent_on stored machine z → o ≡ o' → spent_on stored machine v.items ≡ o'
  spent_at z o o' e f g = ap (spent_on stored machine) (sym e) ∙ (sym f ∙ g)

  pub step_in : (d : Bool) → get_or flags k d ≡ true → (z : List ℕ) (o : Option ℕ) (one energy : ℕ) → z ≡ v.items → o ≡ spent_on stored machine z → o ≡ Some one →
      IsSpent stored machine (counting image machine loops (take k (items_of inputs))) energy → IsSpent stored machine (counting image machine loops (take (k + 1) (items_of inputs))) (energy + one)
  step_in d flag z o one energy e f g h = spent_more stored machine (counts image machine loops) (items_of inputs) k v.items energy one input_below input_at (sym (flag_at d) ∙ flag) (spent_at z o (Some one) e f g) h

  pub step_out : (d : Bool) → get_or flags k d ≡ false → (energy : ℕ) →
      IsSpent stored machine (counting image machine loops (take k (items_of inputs))) energy → IsSpent stored machine (counting image machine loops (take (k + 1) (items_of inputs))) energy
  step_out d flag energy h = spent_less stored machine (counts image machine loops) (items_of inputs) k v.items energy input_below input_at (sym (flag_at d) ∙ flag) h

  pub step_none : (d : Bool) → get_or flags k d ≡ true → (z : List ℕ) (o : Option ℕ) → z ≡ v.items → o ≡ spent_on stored machine z → o ≡ None →
      All (λ input. IsSome (spent_on stored machine input)) (counting image machine loops (items_of inputs)) → ⊥
  step_none d flag z o e f g all = out_of_steps stored machine (counts image machine loops) (items_of inputs) k v.items input_below input_at (sym (flag_at d) ∙ flag) (spent_at z o None e f g) all

pub small_more : (k energy one : ℕ) (o : Option ℕ) → energy ≤ k * 2 ^ 113 → IfSome o (λ e. e < 2 ^ 113) → o ≡ Some one → energy + one ≤ (k + 1) * 2 ^ 113
small_more k energy one o le small e =
    let lt : one < 2 ^ 113 = subst (λ (q : Option ℕ). IfSome q (λ x. x < 2 ^ 113)) e small in
    omega arith

pub small_same : (k energy : ℕ) → energy ≤ k * 2 ^ 113 → energy ≤ (k + 1) * 2 ^ 113
small_same k energy le = omega arith

pub is_some : (stored machine : List ℕ) (inputs : List (List ℕ)) (o : Option ℕ) → IsSpentOr stored machine inputs o → All (λ input. IsSome (spent_on stored machine input)) inputs → IsSome o
is_some stored machine inputs None h all = absurd (h all)
is_some stored machine inputs (Some energy) h all = refl

-- ---- the numbers

flags_of : (p : List ℕ → Bool) (inputs : List (Vec ℕ Global)) → map (λ v. p v.items) inputs ≡ map p (items_of inputs)
flags_of p [] = refl
flags_of p (v ∷ inputs) = ap (λ bs. p v.items ∷ bs) (flags_of p inputs)

-- so many flags are set as inputs count, of as many as there are
pub record AreCounted (image machine loops : List ℕ) (inputs : List (Vec ℕ Global)) (flags : List Bool) : Type 0 where
  pub count : count_by (λ b. b) flags ≡ length (counting image machine loops (items_of inputs))
  pub size : length flags ≡ length (items_of inputs)
  pub most : count_by (λ b. b) flags ≤ length flags

pub counted_flags : (image machine loops : List ℕ) (inputs : List (Vec ℕ Global)) (flags : List Bool) → flags ≡ map (λ v. counts image machine loops v.items) inputs → AreCounted image machine loops inputs flags
counted_flags image machine loops inputs flags are =
    let flagged : flags ≡ map (counts image machine loops) (items_of inputs) = are ∙ flags_of (counts image machine loops) inputs in
    record {
      count = ap (λ (bs : List Bool). count_by (λ b. b) bs) flagged ∙ flags_count (counts image machine loops) (items_of inputs);
      size = ap length flagged ∙ length-map (items_of inputs) (counts image machine loops);
      most = count_by-le-length (λ b. b) flags;
    }

pub choice_made : (image machine loops : List ℕ) (inputs : List (Vec ℕ Global)) (flags : List Bool) (best : Trial) (held : List ℕ) (summary : Summary) (hold_energy : ℕ) (stored : List ℕ) (tuned : Tuned) →
    flags ≡ map (λ v. counts image machine loops v.items) inputs → IsSafeChoice image machine loops (items_of inputs) 33 best → IsTrial image machine loops (items_of inputs) 0 held summary hold_energy →
    stored ≡ best.stored.items →
    tuned ≡ record { candidate = best.candidate; summary = best.summary; inputs = count_by (λ b. b) flags; left_out = length flags - count_by (λ b. b) flags; energy = best.energy; hold_energy = hold_energy } →
    IsChoice image machine loops (items_of inputs) stored tuned
choice_made image machine loops inputs flags best held summary hold_energy stored tuned are h first file numbers =
    let are_counted = counted_flags image machine loops inputs flags are in
    let made : Tuned = record { candidate = best.candidate; summary = best.summary; inputs = count_by (λ b. b) flags; left_out = length flags - count_by (λ b. b) flags; energy = best.energy; hold_energy = hold_energy } in
    let whole : IsChoice image machine loops (items_of inputs) best.stored.items made = record {
      cheapest = h.cheapest;
      held = held;
      held_summary = summary;
      hold = first;
      inputs = are_counted.count;
      left_out = omega (arith, are_counted.most, are_counted.size);
    } in
    subst (λ (s : List ℕ). IsChoice image machine loops (items_of inputs) s tuned) (sym file) (subst (λ (t : Tuned). IsChoice image machine loops (items_of inputs) best.stored.items t) (sym numbers) whole)
