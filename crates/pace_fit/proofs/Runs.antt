-- Which inputs count, and the least energy on them, by how the runs of the original end.
use Rattle.std.proofs.Common.{◌≡◌, ℕ, ◌+◌, Bool, true, false, cond, List, [], ◌∷◌, map, Result, Ok, Err, refl, sym, ap, ◌∙◌}
use Rattle.std.specs.Prelude.{Some, Vec, sum_by}
use Rattle.std.specs.List.{filter}
use Rattle.std.specs.declared.alloc.Global.{Global}
use Rattle.std.proofs.lemmas.List.Sums.{sum_by-cons}
use Rattle.scale_base.specs.declared.refusal.Refusal.{Refusal}
use Rattle.power_model.specs.Numbers.{PowerModel}
use Rattle.power_model.specs.Report.{Report}
use Rattle.machine_file.specs.Machine.{read_machine}
use Rattle.speed_sim.specs.Simulated.{simulated}
use Rattle.gain_tuner.specs.Spending.{counts, counting, exits_kept}
use Rattle.pace_fit.specs.declared.endings.Ending.{Ending}
use Rattle.pace_fit.specs.Endings.{ending_by, ending_on, endings_on, is_counted}
use Rattle.pace_fit.specs.Least.{IsLeastOver, cycles_by, cycles_on, least_energy}

counted_by : (r : Result Report Refusal) → is_counted (ending_by r) ≡ exits_kept r
counted_by (Ok report) = refl
counted_by (Err refusal) = refl

cycles_as : (r : Result Report Refusal) → (ending_by r).cycles ≡ cycles_by r
cycles_as (Ok report) = refl
cycles_as (Err refusal) = refl

pub flags_over : {A : Type 0} (p : List ℕ → A) (inputs : List (Vec ℕ Global)) → map p (map (λ v. v.items) inputs) ≡ map (λ v. p v.items) inputs
flags_over p [] = refl
flags_over p (v ∷ inputs) = ap (λ bs. p v.items ∷ bs) (flags_over p inputs)

module _ (image machine loops : List ℕ) where
  counted_on : (input : List ℕ) → is_counted (ending_on image machine loops input) ≡ counts image machine loops input
  counted_on input = counted_by (simulated image machine input (Some loops))

  cycles_of : (input : List ℕ) → (ending_on image machine loops input).cycles ≡ cycles_on image machine loops input
  cycles_of input = cycles_as (simulated image machine input (Some loops))

  pub flags_are : (inputs : List (List ℕ)) → map is_counted (endings_on image machine loops inputs) ≡ map (counts image machine loops) inputs
  flags_are [] = refl
  flags_are (x ∷ inputs) = ap (λ b. b ∷ map is_counted (endings_on image machine loops inputs)) (counted_on x) ∙ ap (λ bs. counts image machine loops x ∷ bs) (flags_are inputs)

  module _ (power : PowerModel) where
    abbrev by_run : Ending → ℕ
    by_run ending = least_energy power ending.cycles

    abbrev by_input : List ℕ → ℕ
    by_input input = least_energy power (cycles_on image machine loops input)

    one_input : (x : List ℕ) (runs : List Ending) (inputs : List (List ℕ)) (b : Bool) → sum_by by_run runs ≡ sum_by by_input inputs →
        sum_by by_run (cond b (ending_on image machine loops x ∷ runs) runs) ≡ sum_by by_input (cond b (x ∷ inputs) inputs)
    one_input x runs inputs true rest = sum_by-cons by_run (ending_on image machine loops x) runs ∙ (ap (λ n. least_energy power n + sum_by by_run runs) (cycles_of x)
        ∙ (ap (λ n. by_input x + n) rest ∙ sym (sum_by-cons by_input x inputs)))
    one_input x runs inputs false rest = rest

    least_are : (inputs : List (List ℕ)) → sum_by by_run (filter is_counted (endings_on image machine loops inputs)) ≡ sum_by by_input (counting image machine loops inputs)
    least_are [] = refl
    least_are (x ∷ inputs) =
        ap (λ b. sum_by by_run (cond b (ending_on image machine loops x ∷ filter is_counted (endings_on image machine loops inputs)) (filter is_counted (endings_on image machine loops inputs)))) (counted_on x)
        ∙ one_input x (filter is_counted (endings_on image machine loops inputs)) (counting image machine loops inputs) (counts image machine loops x) (least_are inputs)

    pub least_found : (inputs : List (List ℕ)) (endings : List Ending) (energy : ℕ) → read_machine machine ≡ Ok power → endings ≡ endings_on image machine loops inputs → energy ≡ sum_by by_run (filter is_counted endings) →
        IsLeastOver image machine loops (counting image machine loops inputs) energy
    least_found inputs endings energy power_is are e = record { power = power; power_is = power_is; sum = e ∙ (ap (λ (rs : List Ending). sum_by by_run (filter is_counted rs)) are ∙ least_are inputs) }
