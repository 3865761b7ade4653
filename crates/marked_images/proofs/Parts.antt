-- From three files to what is stored: what stops, and what goes on; and small facts of images and of levels.
use Rattle.std.proofs.Common.{◌≡◌, ℕ, zero, suc, ◌+◌, ◌<◌, ◌≤◌, Bool, true, List, length, Option, Some, None, Result, Ok, Err, refl, sym, ap, ◌∙◌, subst, arith, inl, inr}
use Rattle.std.specs.Prelude.{find, nat_le, Vec}
use Rattle.std.specs.List.{range_with_len}
use Rattle.std.proofs.lemmas.Bool.Decides.{nat_tests}
use Rattle.std.specs.declared.alloc.Global.{Global}
use Rattle.scale_base.specs.declared.ranges.Keyed.{Keyed}
use Rattle.scale_base.specs.declared.refusal.Refusal.{Refusal}
use Rattle.scale_base.specs.declared.refusal.Stop.{Stop}
use Rattle.scale_base.specs.declared.refusal.Stop.TheVariants.{Refused, Memory}
use Rattle.scale_base.specs.declared.summary.Summary.{Summary}
use Rattle.scale_base.specs.Answer.{AnswersBy, Stops}
use Rattle.scale_base.specs.Image.{Image, image_of}
use Rattle.scale_base.proofs.Laws.{contents-are}
use Rattle.machine_laws.proofs.Laws.{found_in, found_passes}
use Rattle.power_model.specs.Numbers.{PowerModel}
use Rattle.power_model.specs.Price.{time_at}
use Rattle.power_model.specs.Slowest.{slowest_of, is_in_time}
use Rattle.stored_laws.proofs.Laws.{file_of}
use Rattle.answer_parts.specs.Parts.{Then, unscaled}
use Rattle.marked_images.specs.Stored.{unless_out_of_reach}

-- ---- the parts in their order

-- what a function answers that gives a file and its summary, as it is seen
abbrev pub HoldAnswers : Result (Vec ℕ Global × Summary) Stop → (Result (List ℕ × Summary) Refusal → Type 0) → Type 0
HoldAnswers result meant = AnswersBy (λ given. (given.0.items, given.1)) result meant

pub then_stops : {Y : Type 0} (part : Result Y Refusal) (next : Y → Result (List ℕ × Summary) Refusal → Type 0) → (stop : Stop) → Stops stop part → HoldAnswers (Err stop) (Then part next)
then_stops part next (Refused refusal) h = subst (λ p. Then p next (Err refusal)) (sym h) refl
then_stops part next Memory h = tt

pub then_goes : {Y : Type 0} (part : Result Y Refusal) (x : Y) (next : Y → Result (List ℕ × Summary) Refusal → Type 0) → (result : Result (Vec ℕ Global × Summary) Stop) → part ≡ Ok x → HoldAnswers result (next x) → HoldAnswers result (Then part next)
then_goes part x next (Ok given) e h = subst (λ p. Then p next (Ok (given.0.items, given.1))) (sym e) h
then_goes part x next (Err (Refused refusal)) e h = subst (λ p. Then p next (Err refusal)) (sym e) h
then_goes part x next (Err Memory) e h = tt

pub then_is : {X Y : Type 0} (part : Result X Refusal) (x : X) (next : X → Result Y Refusal → Type 0) (answer : Result Y Refusal) → part ≡ Ok x → next x answer → Then part next answer
then_is part x next answer e h = subst (λ q. Then q next answer) (sym e) h

pub then_ok : {A B : Type 0} (part : Result A Refusal) (next : A → Result B Refusal → Type 0) (y : B) → Then part next (Ok y) → (x : A) × (part ≡ Ok x) × next x (Ok y)
then_ok (Ok x) next y h = (x, refl, h)
then_ok (Err refusal) next y h = let bad : ⊥ = cc in absurd bad

pub is_unscaled : (keyed : Option Keyed) → unscaled keyed ≡ Ok tt → keyed ≡ None
is_unscaled None e = refl
is_unscaled (Some keyed) e = absurd cc

-- ---- images

-- the file of an image is the one that it was read from
pub file_is : (file : List ℕ) (image : Image) → image_of file ≡ Ok image → image.file ≡ file
file_is file image e = file_of file image (contents-are file image e)

-- there is no key yet
pub no_key : (keyed : Option Keyed) → unscaled keyed ≡ Ok tt → keyed ≡ None
no_key None e = refl
no_key (Some keyed) e = let never : ⊥ = cc in absurd never

-- an image is that of its own file
pub read_again : (file : List ℕ) (image : Image) → image_of file ≡ Ok image → image_of image.file ≡ Ok image
read_again file image e = ap image_of (file_is file image e) ∙ e

pub record IsNear (o : Option ℕ) (given made : List ℕ × Summary) : Type 0 where
  pub near : o ≡ None
  pub same : given ≡ made

pub near_of : (o : Option ℕ) (given made : List ℕ × Summary) → Ok given ≡ unless_out_of_reach o made → IsNear o given made
near_of None given made e = record { near = refl; same = cc }
near_of (Some at) given made e = absurd cc

-- ---- levels

pub found_below : (p : ℕ → Bool) (a n x : ℕ) → find p (range_with_len a n) ≡ Some x → x < a + n
found_below p a zero x e = absurd cc
found_below p a (suc n) x e =
    elim (found_in (p a) x a (find p (range_with_len (a + 1) n)) e) [
      | inl h ↦ omega (arith, h.1)
      | inr h ↦ omega (arith, found_below p (a + 1) n x h.1)
    ]

le_of : (x y : ℕ) → nat_le x y ≡ true → x ≤ y
le_of x y e = grind (arith, nat_tests)

pub found_in_time : (power : PowerModel) (worst level : ℕ) → slowest_of power worst ≡ Some level → time_at power level worst ≤ power.deadline
found_in_time power worst level slow = le_of (time_at power level worst) power.deadline (found_passes (is_in_time power worst) (range_with_len 0 (length power.levels)) level slow)
