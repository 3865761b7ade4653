-- What follows a part that may refuse: what stops, and what goes on.
use Rattle.std.proofs.Common.{◌≡◌, Result, Ok, Err, refl, sym, ap, subst}
use Rattle.table_keys.specs.Keys.{◌>>=◌}
use Rattle.scale_base.specs.declared.refusal.Refusal.{Refusal}
use Rattle.scale_base.specs.declared.refusal.Stop.{Stop}
use Rattle.scale_base.specs.declared.refusal.Stop.TheVariants.{Refused, Memory}
use Rattle.scale_base.specs.Answer.{AnswersBy, Stops}
use Rattle.answer_parts.specs.Parts.{Then}

-- ---- one check after another

pub goes_on : {A B : Type 0} (part : Result A Refusal) (a : A) (next : A → Result B Refusal) → part ≡ Ok a → (part >>= next) ≡ next a
goes_on part a next e = ap (λ q. q >>= next) e

pub stops_at : {A B : Type 0} (part : Result A Refusal) (next : A → Result B Refusal) (stop : Stop) → Stops stop part → Stops stop (part >>= next)
stops_at part next (Refused refusal) h = ap (λ q. q >>= next) h
stops_at part next Memory h = tt

-- ---- what may be answered

pub then_is : {A B : Type 0} (part : Result A Refusal) (a : A) (next : A → Result B Refusal → Type 0) (answer : Result B Refusal) → part ≡ Ok a → next a answer → Then part next answer
then_is part a next answer e h = subst (λ q. Then q next answer) (sym e) h

pub then_ok : {A B : Type 0} (part : Result A Refusal) (next : A → Result B Refusal → Type 0) (b : B) → Then part next (Ok b) → (a : A) × (part ≡ Ok a) × next a (Ok b)
then_ok (Ok a) next b h = (a, refl, h)
then_ok (Err refusal) next b h = let never : ⊥ = cc in absurd never

-- what a call answers where the part stops, and where it goes on
pub answers_stop : {X A B : Type 0} (view : X → B) (part : Result A Refusal) (next : A → Result B Refusal → Type 0) (stop : Stop) → Stops stop part → AnswersBy view (Err stop) (Then part next)
answers_stop view part next (Refused refusal) h = subst (λ q. Then q next (Err refusal)) (sym h) refl
answers_stop view part next Memory h = tt

pub answers_go : {X A B : Type 0} (view : X → B) (part : Result A Refusal) (a : A) (next : A → Result B Refusal → Type 0) (result : Result X Stop) → part ≡ Ok a → AnswersBy view result (next a) → AnswersBy view result (Then part next)
answers_go view part a next (Ok given) e h = subst (λ q. Then q next (Ok (view given))) (sym e) h
answers_go view part a next (Err (Refused refusal)) e h = subst (λ q. Then q next (Err refusal)) (sym e) h
answers_go view part a next (Err Memory) e h = tt
