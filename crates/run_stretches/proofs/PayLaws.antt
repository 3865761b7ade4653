-- A step that can be paid.
use Rattle.std.proofs.Common.{◌≡◌, ℕ, ◌+◌, ◌<◌, ◌≤◌, Bool, true, false, cond, List, Option, Some, None, length, rules, sym, ap, ◌∙◌, subst}
use Rattle.std.specs.Prelude.{◌^◌, ◌&&◌, nat_lt, unwrap_or}
use Rattle.std.specs.Option.{ForSome}
use Rattle.std.proofs.lemmas.Bool.{ltb-true, lt-ltb, le-ltb}
use Rattle.scale_base.specs.declared.stepping.Stepped.{Stepped}
use Rattle.power_model.specs.Numbers.{RunPrice}
use Rattle.run_stretches.specs.declared.bars.BarEnd.{BarEnd}
use Rattle.run_stretches.specs.Recorded.{Track, BarList, all_bars, added, end_at, finished, is_port, can_pay}

both : (a b : Bool) → (a && b) ≡ true → (a ≡ true) × (b ≡ true)
both true b h = (search rules, h)
both false b h = absurd cc

port_level : (levels : ℕ) (port : Option ℕ) → is_port levels port ≡ true → ForSome port (λ l. l < levels)
port_level levels None h = search rules
port_level levels (Some l) h = search (rules, ltb-true l levels h)

pub can_few : (t : Track) (x : Stepped) → can_pay t x ≡ true → t.paid.steps < 2 ^ 40
can_few t x h = ltb-true t.paid.steps (2 ^ 40) (both (nat_lt t.paid.steps (2 ^ 40)) (is_port (length t.power.levels) x.port) h).0

pub can_port : (t : Track) (x : Stepped) → can_pay t x ≡ true → ForSome x.port (λ l. l < length t.power.levels)
can_port t x h = port_level (length t.power.levels) x.port (both (nat_lt t.paid.steps (2 ^ 40)) (is_port (length t.power.levels) x.port) h).1

-- the level after a step is one
pub level_within : (levels level : ℕ) (port : Option ℕ) → ForSome port (λ l. l < levels) → level < levels → unwrap_or port level < levels
level_within levels level None h lt = lt
level_within levels level (Some l) h lt = search rules

-- ---- the end of a run

-- with steps behind the last change of level
pub finish_more : (t v : Track) (paid n m : RunPrice) (room : BarList) (bars : List BarEnd) → v ≡ t → n ≡ paid → m ≡ v.paid → v.closed < n.steps → room ≡ added v.bars (end_at m.level (m.switches + 1) n)
    → bars ≡ all_bars room → bars ≡ finished t paid
unfolding finished
finish_more t v paid n m room bars is ends same lt more all =
    let test : nat_lt v.closed n.steps ≡ true = lt-ltb v.closed n.steps lt in
    let here : bars ≡ finished v n =
    all ∙ ap all_bars (more ∙ ap (λ (q : RunPrice). added v.bars (end_at q.level (q.switches + 1) n)) same ∙ sym (ap (λ b. cond b (added v.bars (end_at v.paid.level (v.paid.switches + 1) n)) v.bars) test)) in
    subst (λ (u : Track). bars ≡ finished u paid) is (subst (λ (p : RunPrice). bars ≡ finished v p) ends here)

-- and without
pub finish_same : (t v : Track) (paid n : RunPrice) (room : BarList) (bars : List BarEnd) → v ≡ t → n ≡ paid → n.steps ≤ v.closed → room ≡ v.bars → bars ≡ all_bars room → bars ≡ finished t paid
unfolding finished
finish_same t v paid n room bars is ends le none all =
    let test : nat_lt v.closed n.steps ≡ false = le-ltb v.closed n.steps le in
    let here : bars ≡ finished v n =
    all ∙ ap all_bars (none ∙ sym (ap (λ b. cond b (added v.bars (end_at v.paid.level (v.paid.switches + 1) n)) v.bars) test)) in
    subst (λ (u : Track). bars ≡ finished u paid) is (subst (λ (p : RunPrice). bars ≡ finished v p) ends here)
