-- The lowest address of those that a test allows, and where the way goes on from one word.
use Rattle.std.proofs.Common.{◌≡◌, ℕ, ◌+◌, ◌<◌, Bool, true, false, List, Option, Some, None, refl, sym, ap, ◌∙◌, subst, arith, ◌⊎◌, inl, inr, ⊎_elim}
use Rattle.std.specs.Prelude.{slice_get, slice_index_or, min}
use Rattle.cost_theory.specs.declared.flow.Flow.{Flow}
use Rattle.cost_theory.specs.declared.flow.Flow.TheVariants as flow
use Rattle.code_text.specs.Table.{WordTable}
use Rattle.code_graph.specs.declared.reach.marks.Mark.{Mark}
use Rattle.code_graph.specs.declared.reach.marks.Mark.TheVariants.{Unreached}
use Rattle.code_graph.specs.Flow.{flag}
use Rattle.code_graph.specs.Reach.{WordStandsAt}
use Rattle.code_graph.specs.Steps.{IsWordNumber}
use Rattle.code_graph.specs.Outside.{lower_address, has_mark, IsLowest, IsOutsideOf, ComesBackTo, GoesOnTo, GoesOnFrom, IsComeTo}
use Rattle.code_graph.proofs.Places.{order}

pub same_least : (P Q : ℕ → Type 0) (o : Option ℕ) → ((u : ℕ) → P u → Q u) → ((u : ℕ) → Q u → P u) → IsLowest P o → IsLowest Q o
same_least P Q o to from l = record { holds = λ u e. to u (l.holds u e); least = λ v q. l.least v (from v q) }

pub none_least : (P : ℕ → Type 0) → ((u : ℕ) → P u → ⊥) → IsLowest P None
none_least P never = record { holds = λ u e. (let r : ⊥ = cc in absurd r); least = λ v p. absurd (never v p) }

least_none : (P : ℕ → Type 0) (v : ℕ) → IsLowest P None → P v → ⊥
least_none P v l p = let q = l.least v p in let e : None ≡ Some q.0 = q.1 in let r : ⊥ = cc in r

pub lower_least : (P Q : ℕ → Type 0) (a b : Option ℕ) → IsLowest P a → IsLowest Q b → IsLowest (λ u. P u ⊎ Q u) (lower_address a b)
lower_least P Q None b p q = record { holds = λ u e. inr (q.holds u e); least = λ v s. ⊎_elim (λ x. absurd (least_none P v p x)) (λ y. q.least v y) s }
lower_least P Q (Some a) None p q = record { holds = λ u e. inl (p.holds u e); least = λ v s. ⊎_elim (λ x. p.least v x) (λ y. absurd (least_none Q v q y)) s }
lower_least P Q (Some a) (Some b) p q = record {
  holds = λ u e. holds u (let same : min a b ≡ u = cc in same);
  least = λ v s. ⊎_elim (λ x. let l = p.least v x in let same : a ≡ l.0 = some_is a l.0 l.1 in let le = l.2 in (min a b, refl, omega (arith, same, le)))
      (λ y. let l = q.least v y in let same : b ≡ l.0 = some_is b l.0 l.1 in let le = l.2 in (min a b, refl, omega (arith, same, le))) s;
}
  where
    some_is : (x y : ℕ) → Some x ≡ Some y → x ≡ y
    some_is x y e = cc

    holds : (u : ℕ) → min a b ≡ u → P u ⊎ Q u
    holds u e = ⊎_elim (λ (low : a < b). let same : a ≡ u = omega (arith, low, e) in inl (p.holds u (ap Some same)))
        (λ r. ⊎_elim (λ (eq : a ≡ b). let same : a ≡ u = omega (arith, eq, e) in inl (p.holds u (ap Some same))) (λ (high : b < a). let same : b ≡ u = omega (arith, high, e) in inr (q.holds u (ap Some same))) r) (order a b)

module _ (words : WordTable) where
  -- an address at which a word stands
  pub inside_least : (at : ℕ) (k : ℕ) → WordStandsAt words k at → IsLowest (λ u. (u ≡ at) × IsOutsideOf words u) None
  inside_least at k here = none_least (λ u. (u ≡ at) × IsOutsideOf words u) (λ u p. p.1 k (subst (λ x. WordStandsAt words k x) (sym p.0) here))

  module _ (returns : List Bool) where
    -- a call of a word with a flag comes back
    pub flagged_least : (at to c : ℕ) (o : Option ℕ) → WordStandsAt words c to → flag returns c ≡ true → IsLowest (λ u. (u ≡ at + 4) × IsOutsideOf words u) o →
        IsLowest (λ u. ((u ≡ to) ⊎ ComesBackTo words returns (flow.Call to) at u) × IsOutsideOf words u) o
    flagged_least at to c o here on l = same_least (λ u. (u ≡ at + 4) × IsOutsideOf words u) (λ u. ((u ≡ to) ⊎ ComesBackTo words returns (flow.Call to) at u) × IsOutsideOf words u) o
        (λ u p. (inr (to, c, refl, here, on, p.0), p.1))
        (λ u p. (⊎_elim (λ e. absurd (p.1 c (subst (λ x. WordStandsAt words c x) (sym e) here))) (λ q. q.5) p.0, p.1)) l

    -- a call of a word without one does not
    pub unflagged_least : (at to c : ℕ) (o : Option ℕ) → o ≡ Some c → IsWordNumber words to o → flag returns c ≡ false → IsLowest (λ u. ((u ≡ to) ⊎ ComesBackTo words returns (flow.Call to) at u) × IsOutsideOf words u) None
    unflagged_least at to c o e is off = none_least (λ u. ((u ≡ to) ⊎ ComesBackTo words returns (flow.Call to) at u) × IsOutsideOf words u)
        (λ u p. ⊎_elim (λ s. p.1 c (subst (λ x. WordStandsAt words c x) (sym s) ((is c).0 e)))
        (λ q. let h = q.0 in
        let d = q.1 in
        let same : to ≡ h = call_same to h q.2 in
        let there : o ≡ Some d = (is d).1 (subst (λ x. WordStandsAt words d x) (sym same) q.3) in
        let place : c ≡ d = number_same c d (sym e ∙ there) in
        clash (sym off ∙ ap (flag returns) place ∙ q.4)) p.0)
      where
        call_same : (x y : ℕ) → flow.Call x ≡ flow.Call y → x ≡ y
        call_same x y s = cc

        number_same : (x y : ℕ) → Some x ≡ Some y → x ≡ y
        number_same x y s = cc

        clash : false ≡ true → ⊥
        clash s = cc

    pub branch_least : (k v to : ℕ) (a b o : Option ℕ) → WordStandsAt words k v → slice_get words.kinds k ≡ Some (flow.Branch to) → IsLowest (λ u. (u ≡ to) × IsOutsideOf words u) a → IsLowest (λ u. (u ≡ v + 4) × IsOutsideOf words u) b →
        o ≡ lower_address a b → IsLowest (λ u. GoesOnFrom words returns k u × IsOutsideOf words u) o
    branch_least k v to a b o here kind la lb e =
        subst (λ x. IsLowest (λ u. GoesOnFrom words returns k u × IsOutsideOf words u) x) (sym e)
        (same_least (λ u. ((u ≡ to) × IsOutsideOf words u) ⊎ ((u ≡ v + 4) × IsOutsideOf words u)) (λ u. GoesOnFrom words returns k u × IsOutsideOf words u) (lower_address a b) to_way from_way
        (lower_least (λ u. (u ≡ to) × IsOutsideOf words u) (λ u. (u ≡ v + 4) × IsOutsideOf words u) a b la lb))
      where
        to_way : (u : ℕ) → ((u ≡ to) × IsOutsideOf words u) ⊎ ((u ≡ v + 4) × IsOutsideOf words u) → GoesOnFrom words returns k u × IsOutsideOf words u
        to_way u (inl p) = ((v, flow.Branch to, here, kind, inl (inl p.0)), p.1)
        to_way u (inr p) = ((v, flow.Branch to, here, kind, inl (inr p.0)), p.1)

        value_same : (x y : ℕ) → Some x ≡ Some y → x ≡ y
        value_same x y s = cc

        word_same : (x y : Flow) → Some x ≡ Some y → x ≡ y
        word_same x y s = cc

        from_branch : (u : ℕ) → GoesOnTo words returns (flow.Branch to) v u → IsOutsideOf words u → ((u ≡ to) × IsOutsideOf words u) ⊎ ((u ≡ v + 4) × IsOutsideOf words u)
        from_branch u (inl (inl s)) out = inl (s, out)
        from_branch u (inl (inr s)) out = inr (s, out)
        from_branch u (inr (inl s)) out = let r : ⊥ = cc in absurd r
        from_branch u (inr (inr c)) out = let s : flow.Branch to ≡ flow.Call c.0 = c.2 in let r : ⊥ = cc in absurd r

        from_way : (u : ℕ) → GoesOnFrom words returns k u × IsOutsideOf words u → ((u ≡ to) × IsOutsideOf words u) ⊎ ((u ≡ v + 4) × IsOutsideOf words u)
        from_way u ((x, w, at, is, goes), out) =
            let sx : x ≡ v = value_same x v (sym at ∙ here) in
            let sw : w ≡ flow.Branch to = word_same w (flow.Branch to) (sym is ∙ kind) in
            from_branch u (subst (λ y. GoesOnTo words returns (flow.Branch to) y u) sx (subst (λ y. GoesOnTo words returns y x u) sw goes)) out

    module _ (marks : List Mark) (entry : ℕ) where
      -- one word more
      pub next_marked : (n : ℕ) (a b o : Option ℕ) → has_mark (slice_index_or marks n Unreached) ≡ true → IsLowest (λ u. IsComeTo words returns marks entry n u × IsOutsideOf words u) a →
          IsLowest (λ u. GoesOnFrom words returns n u × IsOutsideOf words u) b → o ≡ lower_address a b → IsLowest (λ u. IsComeTo words returns marks entry (n + 1) u × IsOutsideOf words u) o
      next_marked n a b o on la lb e =
          subst (λ x. IsLowest (λ u. IsComeTo words returns marks entry (n + 1) u × IsOutsideOf words u) x) (sym e)
          (same_least (λ u. (IsComeTo words returns marks entry n u × IsOutsideOf words u) ⊎ (GoesOnFrom words returns n u × IsOutsideOf words u)) (λ u. IsComeTo words returns marks entry (n + 1) u × IsOutsideOf words u) (lower_address a b) to from
          (lower_least (λ u. IsComeTo words returns marks entry n u × IsOutsideOf words u) (λ u. GoesOnFrom words returns n u × IsOutsideOf words u) a b la lb))
        where
          to : (u : ℕ) → (IsComeTo words returns marks entry n u × IsOutsideOf words u) ⊎ (GoesOnFrom words returns n u × IsOutsideOf words u) → IsComeTo words returns marks entry (n + 1) u × IsOutsideOf words u
          to u (inl (inl s, out)) = (inl s, out)
          to u (inl (inr (k, lt, m, goes), out)) = (inr (k, omega (arith, lt), m, goes), out)
          to u (inr (goes, out)) = (inr (n, omega arith, on, goes), out)

          from : (u : ℕ) → IsComeTo words returns marks entry (n + 1) u × IsOutsideOf words u → (IsComeTo words returns marks entry n u × IsOutsideOf words u) ⊎ (GoesOnFrom words returns n u × IsOutsideOf words u)
          from u (inl s, out) = inl (inl s, out)
          from u (inr (k, lt, m, goes), out) = ⊎_elim (λ (low : k < n). inl (inr (k, low, m, goes), out))
              (λ r. ⊎_elim (λ (s : k ≡ n). inr (subst (λ x. GoesOnFrom words returns x u) s goes, out)) (λ (high : n < k). absurd (omega (arith, lt, high))) r) (order k n)

      pub next_unmarked : (n : ℕ) (a o : Option ℕ) → has_mark (slice_index_or marks n Unreached) ≡ false → IsLowest (λ u. IsComeTo words returns marks entry n u × IsOutsideOf words u) a → o ≡ a →
          IsLowest (λ u. IsComeTo words returns marks entry (n + 1) u × IsOutsideOf words u) o
      next_unmarked n a o off la e =
          subst (λ x. IsLowest (λ u. IsComeTo words returns marks entry (n + 1) u × IsOutsideOf words u) x) (sym e)
          (same_least (λ u. IsComeTo words returns marks entry n u × IsOutsideOf words u) (λ u. IsComeTo words returns marks entry (n + 1) u × IsOutsideOf words u) a to from la)
        where
          to : (u : ℕ) → IsComeTo words returns marks entry n u × IsOutsideOf words u → IsComeTo words returns marks entry (n + 1) u × IsOutsideOf words u
          to u (inl s, out) = (inl s, out)
          to u (inr (k, lt, m, goes), out) = (inr (k, omega (arith, lt), m, goes), out)

          clash : true ≡ false → ⊥
          clash s = cc

          from : (u : ℕ) → IsComeTo words returns marks entry (n + 1) u × IsOutsideOf words u → IsComeTo words returns marks entry n u × IsOutsideOf words u
          from u (inl s, out) = (inl s, out)
          from u (inr (k, lt, m, goes), out) = ⊎_elim (λ (low : k < n). (inr (k, low, m, goes), out))
              (λ r. ⊎_elim (λ (s : k ≡ n). absurd (clash (sym m ∙ ap (λ x. has_mark (slice_index_or marks x Unreached)) s ∙ off))) (λ (high : n < k). absurd (omega (arith, lt, high))) r) (order k n)

      -- before the first word
      pub first_least : (o : Option ℕ) → IsLowest (λ u. (u ≡ entry) × IsOutsideOf words u) o → IsLowest (λ u. IsComeTo words returns marks entry 0 u × IsOutsideOf words u) o
      first_least o l = same_least (λ u. (u ≡ entry) × IsOutsideOf words u) (λ u. IsComeTo words returns marks entry 0 u × IsOutsideOf words u) o (λ u p. (inl p.0, p.1)) from l
        where
          from : (u : ℕ) → IsComeTo words returns marks entry 0 u × IsOutsideOf words u → (u ≡ entry) × IsOutsideOf words u
          from u (inl s, out) = (s, out)
          from u (inr (k, lt, m, goes), out) = absurd (omega (arith, lt))
