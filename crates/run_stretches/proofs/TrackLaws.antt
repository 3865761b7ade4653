-- A run so far: its closed stretches have bars, and the steps behind them keep the level.
use Rattle.std.proofs.Common.{◌≡◌, ℕ, ◌+◌, ◌<◌, ◌≤◌, Bool, true, false, cond, List, [], ◌∷◌, ◌++◌, length, Option, Some, None, ◌⊎◌, ⊎_elim, inl, refl, sym, ap, ◌∙◌, subst, arith, append-nil, append_assoc, length-append, zero-add}
use Rattle.std.specs.Prelude.{◌^◌, ◌==◌, ◌&&◌, nat_lt, option_to_list, IfSome}
use Rattle.std.specs.List.{fold}
use Rattle.std.proofs.lemmas.Bool.{cond_both, ltb-true, lt-ltb, ltb-false, eqb-true, eqb-false}
use Rattle.std.proofs.lemmas.List.Sums.{fold-append}
use Rattle.scale_base.specs.declared.stepping.Stepped.{Stepped}
use Rattle.power_model.specs.Numbers.{PowerModel, RunPrice}
use Rattle.power_model.specs.Price.{level_after, metered, price, unstarted, one_switch}
use Rattle.run_stretches.specs.declared.bars.BarEnd.{BarEnd}
use Rattle.run_stretches.specs.Stretches.{joined, level_behind, price_behind, bar_end, IsStretch, AreStretchesFrom, AreStretchesOf, AreBarsOf, bars_from, IsGroup}
use Rattle.run_stretches.specs.Recorded.{BarList, Track, no_bars, all_bars, added, end_at, is_port, can_pay, paid_on, tracked, untracked, finished}
use Rattle.run_stretches.proofs.Joined.{joined-one, level-price, steps-price, behind-append}
use Rattle.run_stretches.proofs.Stretched.{Stays, AreShut, stays_behind, stays_more, stretch_more, stretch_stays, behind_append, shut_more, shut_stretches, shut_and_last}
use Rattle.run_stretches.proofs.BarLaws.{Holds, HoldsLast, HasGroups, groups_of, added_holds}
use Rattle.run_stretches.proofs.RoomLaws.{AreFew, IsFine, added_few, added_fine}

no_items : (s : List Stepped) → length s ≡ 0 → s ≡ []
no_items [] e = refl
no_items (x ∷ xs) e = absurd (let r : ⊥ = omega (arith, e) in r)

open_stretch : (l : ℕ) (xs : List Stepped) → Stays l xs → 0 < length xs → IsStretch l xs
open_stretch l [] h some = absurd (let r : ⊥ = omega (arith, some) in r)
open_stretch l (x ∷ xs) h some = stretch_stays l x xs h

module _ (power : PowerModel) (level : ℕ) where
  -- bars for these closed stretches
  pub record AreBarsFor (shut : List (List Stepped)) (b : BarList) : Type 0 where
    pub holds : Holds power (unstarted level) shut b
    pub few : AreFew b
    pub fine : IsFine shut b

  pub record IsTracked (t : Track) (steps : List Stepped) : Type 0 where
    pub power_is : t.power ≡ power
    pub paid_is : t.paid ≡ price power level steps
    pub shut : List (List Stepped)
    pub rest : List Stepped
    pub whole : joined shut ++ rest ≡ steps
    pub are : AreShut level shut
    pub stays : Stays (level_behind level (joined shut)) rest
    pub closed : t.closed ≡ length (joined shut)
    pub switches : t.paid.switches ≡ length shut
    pub bars : AreBarsFor shut t.bars

  -- ---- the begin

  pub tracked_first : IsTracked (untracked power level) []
  tracked_first = record {
    power_is = refl;
    paid_is = refl;
    shut = [];
    rest = [];
    whole = refl;
    are = tt;
    stays = tt;
    closed = refl;
    switches = refl;
    bars = record { holds = (refl, refl); few = (let r : 0 ≤ 511 = omega arith in r); fine = inl (refl, refl) };
  }

  -- ---- a stretch more has a bar

  -- the end of a stretch at the level behind the closed ones, after which the run has these numbers
  closes : (shut : List (List Stepped)) (b : BarList) (s : List Stepped) (end : BarEnd) → end ≡ bar_end power (price power level (joined shut)) (length shut) (s ∷ []) → AreBarsFor shut b
      → AreBarsFor (shut ++ s ∷ []) (added b end)
  closes shut b s end e are = record {
    holds = added_holds power (unstarted level) shut (s ∷ []) b end (let r : 1 ≤ 1 = omega arith in r) e are.holds;
    few = added_few b end are.few;
    fine = added_fine power (unstarted level) shut s b end are.holds are.fine;
  }

  end_is : (shut : List (List Stepped)) (s : List Stepped) (l count : ℕ) (paid : RunPrice) → l ≡ level_behind level (joined shut) → count ≡ length shut + 1 → paid ≡ price power level (joined shut ++ s)
      → end_at l count paid ≡ bar_end power (price power level (joined shut)) (length shut) (s ∷ [])
  end_is shut s l count paid at many is =
      let here : l ≡ (price power level (joined shut)).level = at ∙ sym (level-price power (unstarted level) (joined shut)) in
      let behind : paid ≡ price_behind power (price power level (joined shut)) (s ∷ []) =
      is ∙ fold-append (metered power) (unstarted level) (joined shut) s ∙ ap (fold (metered power) (price power level (joined shut))) (sym (append-nil s)) in
      let made : ℕ → RunPrice → ℕ → BarEnd = λ a p k. record { level = a; time = p.time; energy = p.energy; stretches = k } in
      ap (λ a. made a paid count) here ∙ ap (λ p. made (price power level (joined shut)).level p count) behind
      ∙ ap (made (price power level (joined shut)).level (price_behind power (price power level (joined shut)) (s ∷ []))) many

  -- ---- one more step

  module _ (t : Track) (steps : List Stepped) (x : Stepped) (h : IsTracked t steps) (paid : RunPrice) (more : paid ≡ metered power t.paid x) where
    now : t.paid.level ≡ level_behind level (joined h.shut)
    now =
        ap (λ p. p.level) h.paid_is ∙ level-price power (unstarted level) steps ∙ ap (level_behind level) (sym h.whole)
        ∙ behind_append level (joined h.shut) h.rest ∙ stays_behind (level_behind level (joined h.shut)) h.rest h.stays

    price_is : paid ≡ price power level (steps ++ x ∷ [])
    price_is = more ∙ ap (λ p. metered power p x) h.paid_is ∙ sym (fold-append (metered power) (unstarted level) steps (x ∷ []))

    longer_whole : joined h.shut ++ (h.rest ++ x ∷ []) ≡ steps ++ x ∷ []
    longer_whole = sym (append_assoc (joined h.shut) h.rest (x ∷ [])) ∙ ap (λ (l : List Stepped). l ++ x ∷ []) h.whole

    then_level : paid.level ≡ level_after t.paid.level x
    then_level = ap (λ p. p.level) more

    on_level : t.paid.level ≡ paid.level → IsTracked (record t { paid = paid }) (steps ++ x ∷ [])
    on_level same =
        let keeps : level_after (level_behind level (joined h.shut)) x ≡ level_behind level (joined h.shut) = ap (λ l. level_after l x) (sym now) ∙ sym then_level ∙ sym same ∙ now in
        let none : one_switch t.paid.level (level_after t.paid.level x) ≡ 0 =
        cond_both (t.paid.level == level_after t.paid.level x) 0 1 (λ n. n ≡ 0) (λ _. refl) (λ ne. absurd (eqb-false t.paid.level (level_after t.paid.level x) ne (same ∙ then_level))) in
        let count : paid.switches ≡ t.paid.switches + one_switch t.paid.level (level_after t.paid.level x) = ap (λ p. p.switches) more in
        let before = h.switches in
        record {
          power_is = h.power_is;
          paid_is = price_is;
          shut = h.shut;
          rest = h.rest ++ x ∷ [];
          whole = longer_whole;
          are = h.are;
          stays = stays_more (level_behind level (joined h.shut)) h.rest x h.stays keeps;
          closed = h.closed;
          switches = (let r : paid.switches ≡ length h.shut = omega (arith, count, none, before) in r);
          bars = h.bars;
        }

    to_level : (t.paid.level ≡ paid.level → ⊥) → IsTracked (record { power = t.power; paid = paid; closed = paid.steps; bars = added t.bars (end_at t.paid.level paid.switches paid) }) (steps ++ x ∷ [])
    to_level other =
        let s : List Stepped = h.rest ++ x ∷ [] in
        let l : ℕ = level_behind level (joined h.shut) in
        let all : joined (h.shut ++ s ∷ []) ≡ steps ++ x ∷ [] = joined-one h.shut s ∙ longer_whole in
        let stretch : IsStretch l s = stretch_more l h.rest x h.stays in
        let behind : level_behind l s ≡ level_after l x = behind_append l h.rest (x ∷ []) ∙ ap (λ m. level_after m x) (stays_behind l h.rest h.stays) in
        let change : level_behind l s ≡ l → ⊥ = λ e. other (now ∙ (sym e ∙ (behind ∙ (ap (λ m. level_after m x) (sym now) ∙ sym then_level)))) in
        let once : one_switch t.paid.level (level_after t.paid.level x) ≡ 1 =
        cond_both (t.paid.level == level_after t.paid.level x) 0 1 (λ n. n ≡ 1) (λ e. absurd (other (eqb-true t.paid.level (level_after t.paid.level x) e ∙ sym then_level))) (λ _. refl) in
        let count : paid.switches ≡ t.paid.switches + one_switch t.paid.level (level_after t.paid.level x) = ap (λ p. p.switches) more in
        let before = h.switches in
        let many : paid.switches ≡ length h.shut + 1 = omega (arith, count, once, before) in
        let long : length (h.shut ++ s ∷ []) ≡ length h.shut + 1 = length-append h.shut (s ∷ []) in
        record {
          power_is = h.power_is;
          paid_is = price_is;
          shut = h.shut ++ s ∷ [];
          rest = [];
          whole = append-nil (joined (h.shut ++ s ∷ [])) ∙ all;
          are = shut_more level h.shut s h.are stretch change;
          stays = tt;
          closed = ap (λ p. p.steps) price_is ∙ steps-price power (unstarted level) (steps ++ x ∷ []) ∙ zero-add (length (steps ++ x ∷ [])) ∙ ap length (sym all);
          switches = many ∙ sym long;
          bars = closes h.shut t.bars s (end_at t.paid.level paid.switches paid) (end_is h.shut s t.paid.level paid.switches paid now many (price_is ∙ ap (price power level) (sym longer_whole))) h.bars;
        }

    pub paid_on_tracked : IsTracked (paid_on t paid) (steps ++ x ∷ [])
    paid_on_tracked =
        cond_both (t.paid.level == paid.level) _ _ (λ u. IsTracked u (steps ++ x ∷ [])) (λ e. on_level (eqb-true t.paid.level paid.level e)) (λ e. to_level (eqb-false t.paid.level paid.level e))

  -- a step of a run passes the test
  port_passes : (levels : ℕ) (port : Option ℕ) → IfSome port (λ l. l < levels) → is_port levels port ≡ true
  port_passes levels None h = refl
  port_passes levels (Some l) h = lt-ltb l levels h

  pub tracked_next : (t : Track) (steps : List Stepped) (x : Stepped) → IsTracked t steps → length steps < 2 ^ 40 → IfSome x.port (λ l. l < length power.levels) → IsTracked (tracked t x) (steps ++ x ∷ [])
  unfolding tracked
  tracked_next t steps x h lt below =
      let count : t.paid.steps ≡ length steps = ap (λ p. p.steps) h.paid_is ∙ steps-price power (unstarted level) steps ∙ zero-add (length steps) in
      let few : nat_lt t.paid.steps (2 ^ 40) ≡ true = lt-ltb t.paid.steps (2 ^ 40) (subst (λ n. n < 2 ^ 40) (sym count) lt) in
      let port : is_port (length t.power.levels) x.port ≡ true = port_passes (length t.power.levels) x.port (subst (λ (p : PowerModel). IfSome x.port (λ l. l < length p.levels)) (sym h.power_is) below) in
      let can : can_pay t x ≡ true = ap (λ b. b && is_port (length t.power.levels) x.port) few ∙ port in
      subst (λ b. IsTracked (cond b (paid_on t (metered t.power t.paid x)) t) (steps ++ x ∷ [])) (sym can)
      (paid_on_tracked t steps x h (metered t.power t.paid x) (ap (λ (p : PowerModel). metered p t.paid x) h.power_is))

  -- ---- the end

  few_bars : (ss : List (List Stepped)) (b : BarList) (last : Option BarEnd) → AreFew b → length (b.done ++ option_to_list last) ≤ 512
  few_bars ss b None few = let e : length (b.done ++ []) ≡ length b.done = ap length (append-nil b.done) in omega (arith, e, few)
  few_bars ss b (Some bar) few = let e : length (b.done ++ bar ∷ []) ≡ length b.done + 1 = length-append b.done (bar ∷ []) in omega (arith, e, few)

  single_bars : (ss : List (List Stepped)) (b : BarList) → IsFine ss b → length ss ≤ 512 → length (all_bars b) ≡ length ss
  single_bars ss b fine le =
      ⊎_elim (λ (own : (b.grain ≡ 0) × (length (all_bars b) ≡ length ss)). own.1) (λ (many : 512 < length ss). absurd (let r : ⊥ = omega (arith, many, le) in r)) fine

  bars_of : (steps : List Stepped) (ss : List (List Stepped)) (b : BarList) → joined ss ≡ steps → AreStretchesFrom level ss → AreBarsFor ss b → AreBarsOf power level steps (all_bars b)
  bars_of steps ss b whole each are =
      let g = groups_of power (unstarted level) ss b.done b.last are.holds in
      record {
        stretches = ss;
        stretches_are = record { all = whole; each = each };
        groups = g.groups;
        groups_are = g.whole;
        each = g.each;
        bars_are = g.bars_are;
        few = few_bars ss b b.last are.few;
        single = single_bars ss b are.fine;
      }

  -- the steps behind the last change of level, and at most one more
  finish_open : (t : Track) (steps : List Stepped) (h : IsTracked t steps) (all : List Stepped) (paid : RunPrice) (s : List Stepped) → paid ≡ price power level all → joined h.shut ++ s ≡ all
      → (0 < length s → IsStretch (level_behind level (joined h.shut)) s) → t.paid.level ≡ level_behind level (joined h.shut) → AreBarsOf power level all (finished t paid)
  unfolding finished
  finish_open t steps h all paid s is whole stretch now =
      let count : paid.steps ≡ length all = ap (λ p. p.steps) is ∙ steps-price power (unstarted level) all ∙ zero-add (length all) in
      let size : length all ≡ length (joined h.shut) + length s = ap length (sym whole) ∙ length-append (joined h.shut) s in
      let closed = h.closed in
      let switches = h.switches in
      cond_both (nat_lt t.closed paid.steps) _ _ (λ b. AreBarsOf power level all (all_bars b))
      (λ lt. let some : t.closed < paid.steps = ltb-true t.closed paid.steps lt in
      let is_s : IsStretch (level_behind level (joined h.shut)) s = stretch (let r : 0 < length s = omega (arith, some, closed, count, size) in r) in
      let many : t.paid.switches + 1 ≡ length h.shut + 1 = ap (λ n. n + 1) switches in
      bars_of all (h.shut ++ s ∷ []) (added t.bars (end_at t.paid.level (t.paid.switches + 1) paid)) (joined-one h.shut s ∙ whole) (shut_and_last level h.shut s h.are is_s)
      (closes h.shut t.bars s _ (end_is h.shut s t.paid.level (t.paid.switches + 1) paid now many (is ∙ ap (price power level) (sym whole))) h.bars))
      (λ ge. let none : paid.steps ≤ t.closed = ltb-false t.closed paid.steps ge in
      let empty : length s ≡ 0 = omega (arith, none, closed, count, size) in
      bars_of all h.shut t.bars (sym (append-nil (joined h.shut)) ∙ ap (λ (l : List Stepped). joined h.shut ++ l) (sym (no_items s empty)) ∙ whole) (shut_stretches level h.shut h.are) h.bars)

  now_is : (t : Track) (steps : List Stepped) (h : IsTracked t steps) → t.paid.level ≡ level_behind level (joined h.shut)
  now_is t steps h =
      ap (λ p. p.level) h.paid_is ∙ level-price power (unstarted level) steps ∙ ap (level_behind level) (sym h.whole)
      ∙ behind_append level (joined h.shut) h.rest ∙ stays_behind (level_behind level (joined h.shut)) h.rest h.stays

  -- the run ended behind the last of them
  pub finished_there : (t : Track) (steps : List Stepped) (paid : RunPrice) → IsTracked t steps → paid ≡ price power level steps → AreBarsOf power level steps (finished t paid)
  finished_there t steps paid h is = finish_open t steps h steps paid h.rest is h.whole (open_stretch (level_behind level (joined h.shut)) h.rest h.stays) (now_is t steps h)

  -- or behind one more
  pub finished_behind : (t : Track) (steps : List Stepped) (x : Stepped) (paid : RunPrice) → IsTracked t steps → paid ≡ price power level (steps ++ x ∷ []) → AreBarsOf power level (steps ++ x ∷ []) (finished t paid)
  finished_behind t steps x paid h is =
      finish_open t steps h (steps ++ x ∷ []) paid (h.rest ++ x ∷ []) is (sym (append_assoc (joined h.shut) h.rest (x ∷ [])) ∙ ap (λ (l : List Stepped). l ++ x ∷ []) h.whole)
      (λ some. stretch_more (level_behind level (joined h.shut)) h.rest x h.stays) (now_is t steps h)
