-- Bars that are kept stand for the stretches so far.
use Rattle.std.proofs.Common.{◌≡◌, ℕ, ◌+◌, ◌<◌, ◌≤◌, Bool, true, false, cond, List, [], ◌∷◌, ◌++◌, length, Option, Some, None, ◌⊎◌, ⊎_elim, inl, inr, refl, sym, ap, ◌∙◌, subst, arith, append-nil, append_assoc, length-append}
use Rattle.std.specs.Prelude.{◌||◌, not, nat_lt, option_to_list}
use Rattle.std.specs.List.{fold, All}
use Rattle.std.proofs.lemmas.Bool.{cond_both, ltb-true, lt-ltb}
use Rattle.std.proofs.lemmas.List.Elements.{All-nil, All-cons, All-push, All-head, All-tail, All-append}
use Rattle.scale_base.specs.declared.stepping.Stepped.{Stepped}
use Rattle.power_model.specs.Numbers.{PowerModel, RunPrice}
use Rattle.run_stretches.specs.declared.bars.BarEnd.{BarEnd}
use Rattle.run_stretches.specs.Stretches.{joined, price_behind, bar_end, bars_from, IsGroup}
use Rattle.run_stretches.specs.Recorded.{BarList, no_bars, all_bars, longer, has_room, is_short, put_behind, put, squeezed, grain_at, added}
use Rattle.run_stretches.proofs.Joined.{joined-append, joined-one, behind-append, bars-append, bar-longer}

module _ (power : PowerModel) (first : RunPrice) where
  -- the groups of these bars and of the last one
  pub record HasLast (ss : List (List Stepped)) (done : List BarEnd) (bar : BarEnd) : Type 0 where
    pub front : List (List (List Stepped))
    pub group : List (List Stepped)
    pub whole : joined front ++ group ≡ ss
    pub each : All IsGroup front
    pub some : IsGroup group
    pub done_is : done ≡ bars_from power first 0 front
    pub bar_is : bar ≡ bar_end power (price_behind power first (joined front)) (length (joined front)) group

  abbrev pub HoldsLast : List (List Stepped) → List BarEnd → Option BarEnd → Type 0
  HoldsLast ss done None = (ss ≡ []) × (done ≡ [])
  HoldsLast ss done (Some bar) = HasLast ss done bar

  abbrev pub Holds : List (List Stepped) → BarList → Type 0
  Holds ss b = HoldsLast ss b.done b.last

  -- the end of a bar for one more group
  abbrev pub next_end : List (List Stepped) → List (List Stepped) → BarEnd
  next_end ss g = bar_end power (price_behind power first ss) (length ss) g

  -- ---- one more end

  put_none : (ss g : List (List Stepped)) (done : List BarEnd) → IsGroup g → ss ≡ [] → done ≡ [] → HasLast (ss ++ g) done (next_end ss g)
  put_none ss g done is none empty = record {
    front = [];
    group = g;
    whole = ap (λ (l : List (List Stepped)). l ++ g) (sym none);
    each = All-nil IsGroup;
    some = is;
    done_is = empty;
    bar_is = ap (λ (l : List (List Stepped)). next_end l g) none;
  }

  put_longer : (ss g : List (List Stepped)) (done : List BarEnd) (bar : BarEnd) → IsGroup g → HasLast ss done bar → HasLast (ss ++ g) done (longer bar (next_end ss g))
  put_longer ss g done bar is h =
      let all = h.whole in
      let long : length (h.group ++ g) ≡ length h.group + length g = length-append h.group g in
      let some = h.some in
      let count : length ss ≡ length (joined h.front) + length h.group = ap length (sym all) ∙ length-append (joined h.front) h.group in
      let behind : price_behind power first ss ≡ price_behind power (price_behind power first (joined h.front)) h.group =
      ap (price_behind power first) (sym all) ∙ behind-append power first (joined h.front) h.group in
      let same : next_end ss g ≡ bar_end power (price_behind power (price_behind power first (joined h.front)) h.group) (length (joined h.front) + length h.group) g =
      ap (λ (p : RunPrice). bar_end power p (length ss) g) behind ∙ ap (λ (k : ℕ). bar_end power (price_behind power (price_behind power first (joined h.front)) h.group) k g) count in
      record {
        front = h.front;
        group = h.group ++ g;
        whole = sym (append_assoc (joined h.front) h.group g) ∙ ap (λ (l : List (List Stepped)). l ++ g) all;
        each = h.each;
        some = (let m : 1 ≤ length (h.group ++ g) = omega (arith, long, some) in m);
        done_is = h.done_is;
        bar_is =
            ap (λ (b : BarEnd). longer b (next_end ss g)) h.bar_is
            ∙ ap (longer (bar_end power (price_behind power first (joined h.front)) (length (joined h.front)) h.group)) same
            ∙ sym (bar-longer power (price_behind power first (joined h.front)) (length (joined h.front)) h.group g);
      }

  bars_so : (ss : List (List Stepped)) (done : List BarEnd) (bar : BarEnd) (h : HasLast ss done bar) → done ++ bar ∷ [] ≡ bars_from power first 0 (h.front ++ h.group ∷ [])
  bars_so ss done bar h =
      ap (λ (l : List BarEnd). l ++ bar ∷ []) h.done_is
      ∙ ap (λ (b : BarEnd). bars_from power first 0 h.front ++ b ∷ []) h.bar_is
      ∙ sym (bars-append power first 0 h.front (h.group ∷ [])
      ∙ ap (λ (k : ℕ). bars_from power first 0 h.front ++ bars_from power (price_behind power first (joined h.front)) k (h.group ∷ [])) (let e : 0 + length (joined h.front) ≡ length (joined h.front) = omega arith in e))

  put_own : (ss g : List (List Stepped)) (done : List BarEnd) (bar : BarEnd) → IsGroup g → HasLast ss done bar → HasLast (ss ++ g) (done ++ bar ∷ []) (next_end ss g)
  put_own ss g done bar is h =
      let all : joined (h.front ++ h.group ∷ []) ≡ ss = joined-one h.front h.group ∙ h.whole in
      record {
        front = h.front ++ h.group ∷ [];
        group = g;
        whole = ap (λ (l : List (List Stepped)). l ++ g) all;
        each = All-push IsGroup h.front h.group h.each h.some;
        some = is;
        done_is = bars_so ss done bar h;
        bar_is = ap (λ (l : List (List Stepped)). next_end l g) (sym all);
      }

  put_behind_holds : (ss g : List (List Stepped)) (b : BarList) (last : Option BarEnd) → IsGroup g → HoldsLast ss b.done last → Holds (ss ++ g) (put_behind b last (next_end ss g))
  put_behind_holds ss g b None is h = put_none ss g b.done is h.0 h.1
  put_behind_holds ss g b (Some bar) is h =
      cond_both (is_short b (next_end ss g) || not (has_room b)) _ _ (Holds (ss ++ g)) (λ _. put_longer ss g b.done bar is h) (λ _. put_own ss g b.done bar is h)

  pub put_holds : (ss g : List (List Stepped)) (b : BarList) (end : BarEnd) → IsGroup g → end ≡ next_end ss g → Holds ss b → Holds (ss ++ g) (put b end)
  unfolding put
  put_holds ss g b end is e h = subst (λ (x : BarEnd). Holds (ss ++ g) (put_behind b b.last x)) (sym e) (put_behind_holds ss g b b.last is h)

  -- ---- all ends anew

  put_all : (gs : List (List (List Stepped))) (ss : List (List Stepped)) (b : BarList) → All IsGroup gs → Holds ss b
      → Holds (ss ++ joined gs) (fold put b (bars_from power (price_behind power first ss) (length ss) gs))
  put_all [] ss b each h = subst (λ (l : List (List Stepped)). Holds l b) (sym (append-nil ss)) h
  put_all (g ∷ gs) ss b each h =
      let once : Holds (ss ++ g) (put b (next_end ss g)) = put_holds ss g b (next_end ss g) (All-head IsGroup g gs each) refl h in
      let more = put_all gs (ss ++ g) (put b (next_end ss g)) (All-tail IsGroup g gs each) once in
      let count : length (ss ++ g) ≡ length ss + length g = length-append ss g in
      let f : RunPrice → ℕ → BarList = λ p k. fold put (put b (next_end ss g)) (bars_from power p k gs) in
      let same : f (price_behind power first (ss ++ g)) (length (ss ++ g)) ≡ f (price_behind power (price_behind power first ss) g) (length ss + length g) =
      ap (λ (p : RunPrice). f p (length (ss ++ g))) (behind-append power first ss g) ∙ ap (λ (k : ℕ). f (price_behind power (price_behind power first ss) g) k) count in
      let whole : (ss ++ g) ++ joined gs ≡ ss ++ (g ++ joined gs) = append_assoc ss g (joined gs) in
      subst (Holds (ss ++ (g ++ joined gs))) same (subst (λ (l : List (List Stepped)). Holds l (f (price_behind power first (ss ++ g)) (length (ss ++ g)))) whole more)

  -- the groups of all bars
  pub record HasGroups (ss : List (List Stepped)) (bars : List BarEnd) : Type 0 where
    pub groups : List (List (List Stepped))
    pub whole : joined groups ≡ ss
    pub each : All IsGroup groups
    pub bars_are : bars ≡ bars_from power first 0 groups

  pub groups_of : (ss : List (List Stepped)) (done : List BarEnd) (last : Option BarEnd) → HoldsLast ss done last → HasGroups ss (done ++ option_to_list last)
  groups_of ss done None h = record { groups = []; whole = sym h.0; each = All-nil IsGroup; bars_are = append-nil done ∙ h.1 }
  groups_of ss done (Some bar) h = record {
    groups = h.front ++ h.group ∷ [];
    whole = joined-one h.front h.group ∙ h.whole;
    each = All-push IsGroup h.front h.group h.each h.some;
    bars_are = bars_so ss done bar h;
  }

  pub squeezed_holds : (ss : List (List Stepped)) (b : BarList) (grain : ℕ) → Holds ss b → Holds ss (squeezed b grain)
  unfolding squeezed
  squeezed_holds ss b grain h =
      let g = groups_of ss b.done b.last h in
      let all : Holds ([] ++ joined g.groups) (fold put (no_bars grain) (bars_from power first 0 g.groups)) = put_all g.groups [] (no_bars grain) g.each (refl, refl) in
      subst (λ (bars : List BarEnd). Holds ss (fold put (no_bars grain) bars)) (sym g.bars_are)
      (subst (λ (l : List (List Stepped)). Holds l (fold put (no_bars grain) (bars_from power first 0 g.groups))) g.whole all)

  pub added_holds : (ss g : List (List Stepped)) (b : BarList) (end : BarEnd) → IsGroup g → end ≡ next_end ss g → Holds ss b → Holds (ss ++ g) (added b end)
  unfolding added
  added_holds ss g b end is e h =
      put_holds ss g _ end is e
      (cond_both (has_room b) b (squeezed b (grain_at end.time)) (Holds ss) (λ _. h) (λ _. squeezed_holds ss b (grain_at end.time) h))
