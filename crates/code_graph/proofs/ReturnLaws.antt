-- A function returns exactly where a return can come from its entry.
use Rattle.std.proofs.Common.{◌≡◌, ℕ, ◌+◌, ◌↔◌, subst}
use Rattle.cost_theory.specs.declared.flow.Flow.{Flow}
use Rattle.cost_theory.specs.declared.flow.Flow.TheVariants as flow
use Rattle.cost_theory.specs.Reached.{LeadsTo, Reached, DoesReturn}
use Rattle.cost_theory.specs.Reached.Reached.{main, onward as reach_onward, back, called}

-- The least set of addresses from which a return can come, within one function: a return itself; an address from which the way goes on to one of them; a call of one of them
-- that has one of them behind it.
pub data CanReturn (word : ℕ → Flow) : ℕ → Type 0 where
  here : {v : ℕ} → word v ≡ flow.Return → CanReturn word v
  onward : {v : ℕ} (u : ℕ) → LeadsTo (word v) v u → CanReturn word u → CanReturn word v
  across : {v : ℕ} (h : ℕ) → word v ≡ flow.Call h → CanReturn word h → CanReturn word (v + 4) → CanReturn word v

pub returns_from : (word : ℕ → Flow) (first : ℕ) (v : ℕ) → CanReturn word v → (f : ℕ) → Reached word first f v → DoesReturn word first f
returns_from word first v (here e) f r = (v, r, e)
returns_from word first v (onward u leads can) f r = returns_from word first u can f (reach_onward u r leads)
returns_from word first v (across h calls can behind) f r =
    let q : DoesReturn word first h = returns_from word first h can h (called h r calls) in
    returns_from word first (v + 4) behind f (back h q.0 r calls q.1 q.2)

pub entry_from : (word : ℕ → Flow) (first : ℕ) (f v : ℕ) → Reached word first f v → CanReturn word v → CanReturn word f
entry_from word first f v main can = can
entry_from word first f v (reach_onward {v = w} u r leads) can = entry_from word first f w r (onward u leads can)
entry_from word first f v (back {v = w} h q r calls rq e) can = entry_from word first f w r (across h calls (entry_from word first h q rq (here e)) can)
entry_from word first f v (called {v = w} h r calls) can = can

pub returns_exactly : (word : ℕ → Flow) (first f : ℕ) → Reached word first f f → DoesReturn word first f ↔ CanReturn word f
returns_exactly word first f r = (λ d. entry_from word first f d.0 d.1 (here d.2), λ can. returns_from word first f can f r)

-- no return comes from a refused word
pub never_bad : (word : ℕ → Flow) (v : ℕ) → CanReturn word v → word v ≡ flow.Refused → ⊥
never_bad word v (here e) bad = let clash : flow.Return ≡ flow.Refused = cc in let r : ⊥ = cc in r
never_bad word v (onward u leads can) bad = subst (λ w. LeadsTo w v u) bad leads
never_bad word v (across h calls can behind) bad = let clash : flow.Call h ≡ flow.Refused = cc in let r : ⊥ = cc in r
