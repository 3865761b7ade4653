-- Flags are raised site by site.
use Rattle.std.proofs.Common.{◌≡◌, ℕ, ◌+◌, ◌<◌, ◌≤◌, Bool, true, false, ◌&&◌, List, [], length, take, replicate, slice_get, slice_set, Option, Some, None, refl, sym, ap, ◌∙◌, arith, eqb-true, ⊎_elim}
use Rattle.std.specs.Prelude.{◌||◌, ◌==◌, nat_lt, slice_index_or}
use Rattle.std.proofs.lemmas.Bool.{and_parts, cases_lt}
use Rattle.std.proofs.lemmas.Bool.Decides.{nat_tests}
use Rattle.std.proofs.lemmas.List.{get_or-set_same, get_or-set_other, get_or-replicate, length-set, length-replicate}
use Rattle.std.proofs.lemmas.List.Folds.{list_any_more}
use Rattle.std.proofs.lemmas.Option.{get_or_from_slice_get, slice_get-get_or}
use Rattle.std.proofs.Math.Bool.{and-false, or-false, or-true}
use Rattle.scale_base.specs.declared.edges.Edge.{Edge}
use Rattle.cost_theory.specs.Reached.{edge_at}
use Rattle.flow_graph.specs.FlowGraph.{FlowGraph}
use Rattle.scale_sites.specs.Sites.{flag_at}
use Rattle.paced_images.specs.declared.wanted.SwitchSite.{SwitchSite}
use Rattle.paced_images.specs.Flags.{AreFlags, AreRaised, AreLowest}
use Rattle.paced_images.specs.Wanted.{same_kind, names, names_some, any_names, any_lowest}

-- ---- what a site names starts at its address

pub named_at : (site : SwitchSite) (o : Option Edge) → names_some site o ≡ true → edge_at o ≡ site.at
named_at site None on = let bad : ⊥ = cc in absurd bad
named_at site (Some edge) on = sym (eqb-true site.at edge.at (and_parts (site.at == edge.at) (same_kind edge.kind site.kind) on).0)

tests_same : (e n : ℕ) → (e ≡ n → ⊥) → nat_lt e n ≡ nat_lt e (n + 1)
tests_same e n other = ⊎_elim
    (λ (low : e < n).
    let one : nat_lt e n ≡ true = grind (arith, nat_tests) in
    let two : nat_lt e (n + 1) ≡ true = grind (arith, nat_tests) in
    one ∙ sym two)
    (λ (high : n ≤ e).
    let far : n < e = ⊎_elim (λ (lt : n < e). lt) (λ (le : e ≤ n). absurd (other (omega arith))) (cases_lt n e) in
    let one : nat_lt e n ≡ false = grind (arith, nat_tests) in
    let two : nat_lt e (n + 1) ≡ false = grind (arith, nat_tests) in
    one ∙ sym two)
    (cases_lt e n)

-- ---- one site

module _ (v : FlowGraph) (site : SwitchSite) where
  abbrev named : ℕ → Bool
  named e = names_some site (slice_get v.code.edges e)

  -- an edge that is not named keeps its flag, whether it was passed or not
  kept : (flag : Bool) (e n : ℕ) → (e < n → named e ≡ false) → flag ≡ (flag || (nat_lt e n && named e))
  kept flag e n off = by (nat_lt e n) refl
    where
      by : (b : Bool) → nat_lt e n ≡ b → flag ≡ (flag || (b && named e))
      by false is = sym (or-false flag)
      by true is =
          let lt : e < n = grind (arith, nat_tests) in
          sym (ap (λ b. flag || b) (off lt) ∙ or-false flag)

  pub raised_none : (n : ℕ) (flags : List Bool) → ((e : ℕ) → e < length flags → e < n → named e ≡ false) → AreRaised v site n flags flags
  raised_none n flags off = record { size = refl; each = λ e lt. kept (flag_at flags e) e n (off e lt) }

  pub raised_here : (n : ℕ) (old flags : List Bool) → n < length old → named n ≡ true → AreRaised v site n old flags → AreRaised v site (n + 1) old (slice_set flags n true)
  raised_here n old flags within on are = record { size = length-set flags n true ∙ are.size; each = each }
    where
      at : (e : ℕ) → e ≡ n → flag_at (slice_set flags n true) e ≡ (flag_at old e || (nat_lt e (n + 1) && named e))
      at e same =
          let size = are.size in
          let set : flag_at (slice_set flags n true) n ≡ true = get_or-set_same flags n true false (omega arith) in
          let test : nat_lt n (n + 1) ≡ true = grind (arith, nat_tests) in
          let up : (flag_at old n || (nat_lt n (n + 1) && named n)) ≡ true = ap (λ b. flag_at old n || (b && named n)) test ∙ (ap (λ b. flag_at old n || b) on ∙ or-true (flag_at old n)) in
          ap (flag_at (slice_set flags n true)) same ∙ (set ∙ (sym up ∙ ap (λ d. flag_at old d || (nat_lt d (n + 1) && named d)) (sym same)))

      off : (e : ℕ) → e < length old → (e ≡ n → ⊥) → flag_at (slice_set flags n true) e ≡ (flag_at old e || (nat_lt e (n + 1) && named e))
      off e lt other = get_or-set_other flags n e true false other ∙ (are.each e lt ∙ ap (λ b. flag_at old e || (b && named e)) (tests_same e n other))

      each : (e : ℕ) → e < length old → flag_at (slice_set flags n true) e ≡ (flag_at old e || (nat_lt e (n + 1) && named e))
      each e lt = ⊎_elim (λ (low : e < n). off e lt (λ same. omega arith))
          (λ (high : n ≤ e). ⊎_elim (λ (far : n < e). off e lt (λ same. omega arith)) (λ (le : e ≤ n). at e (omega arith)) (cases_lt n e)) (cases_lt e n)

  pub raised_not : (n : ℕ) (old flags : List Bool) → named n ≡ false → AreRaised v site n old flags → AreRaised v site (n + 1) old flags
  raised_not n old flags off are = record { size = are.size; each = λ e lt. are.each e lt ∙ ap (λ b. flag_at old e || b) (same e) }
    where
      same : (e : ℕ) → (nat_lt e n && named e) ≡ (nat_lt e (n + 1) && named e)
      same e = by (named e) refl
        where
          by : (b : Bool) → named e ≡ b → (nat_lt e n && b) ≡ (nat_lt e (n + 1) && b)
          by false is = and-false (nat_lt e n) ∙ sym (and-false (nat_lt e (n + 1)))
          by true is = ap (λ t. t && true) (tests_same e n (λ at. let two : true ≡ false = sym is ∙ (ap named at ∙ off) in let bad : ⊥ = cc in bad))

  pub raised_all : (n m : ℕ) (old flags : List Bool) → ((e : ℕ) → e < length old → named e ≡ true → (e < n) × (e < m)) → AreRaised v site n old flags → AreRaised v site m old flags
  raised_all n m old flags low are = record { size = are.size; each = λ e lt. are.each e lt ∙ ap (λ b. flag_at old e || b) (same e lt) }
    where
      same : (e : ℕ) → e < length old → (nat_lt e n && named e) ≡ (nat_lt e m && named e)
      same e lt = by (named e) refl
        where
          by : (b : Bool) → named e ≡ b → (nat_lt e n && b) ≡ (nat_lt e m && b)
          by false is = and-false (nat_lt e n) ∙ sym (and-false (nat_lt e m))
          by true is =
              let p = low e lt is in
              let first = p.0 in
              let second = p.1 in
              let one : nat_lt e n ≡ true = grind (arith, nat_tests) in
              let two : nat_lt e m ≡ true = grind (arith, nat_tests) in
              ap (λ t. t && true) (one ∙ sym two)

-- ---- all sites

none_named : (o : Option Edge) → any_names [] o ≡ false
none_named None = refl
none_named (Some edge) = refl

pub flags_none : (v : FlowGraph) (sites : List SwitchSite) (n : ℕ) (flags : List Bool) → flags ≡ replicate n false → AreFlags v (take 0 sites) n flags
flags_none v sites n flags is =
    let size : length flags ≡ n = ap length is ∙ length-replicate n false in
    record {
      size = size;
      each = λ e lt. slice_get-get_or flags e false (omega arith) ∙ ap Some (ap (λ xs. flag_at xs e) is ∙ (get_or-replicate n e false false lt ∙ sym (none_named (slice_get v.code.edges e))));
    }

more_named : (sites : List SwitchSite) (i : ℕ) (d : SwitchSite) (o : Option Edge) → i < length sites → any_names (take (i + 1) sites) o ≡ (any_names (take i sites) o || names_some (slice_index_or sites i d) o)
more_named sites i d None lt = refl
more_named sites i d (Some edge) lt = list_any_more (λ site. names site edge) sites i d lt

pub flags_more : (v : FlowGraph) (sites : List SwitchSite) (i : ℕ) (d : SwitchSite) (n : ℕ) (old new : List Bool) → i < length sites → AreFlags v (take i sites) n old → AreRaised v (slice_index_or sites i d) n old new → AreFlags v (take (i + 1) sites) n new
flags_more v sites i d n old new within are raised =
    let size = are.size in
    let same = raised.size in
    record {
      size = same ∙ size;
      each = λ e lt.
          let o = slice_get v.code.edges e in
          let site = slice_index_or sites i d in
          let test : nat_lt e n ≡ true = grind (arith, nat_tests) in
          let before : flag_at old e ≡ any_names (take i sites) (slice_get v.code.edges e) = get_or_from_slice_get old e (any_names (take i sites) (slice_get v.code.edges e)) false (are.each e lt) in
          slice_get-get_or new e false (omega arith)
          ∙ ap Some (raised.each e (omega arith) ∙ (ap (λ b. flag_at old e || (b && names_some site o)) test ∙ (ap (λ b. b || names_some site o) before ∙ sym (more_named sites i d o within))));
    }

-- ---- those that go to the lowest level

none_lowest : (o : Option Edge) → any_lowest [] o ≡ false
none_lowest None = refl
none_lowest (Some edge) = refl

pub lowest_none : (v : FlowGraph) (sites : List SwitchSite) (n : ℕ) (flags : List Bool) → flags ≡ replicate n false → AreLowest v (take 0 sites) n flags
lowest_none v sites n flags is =
    let size : length flags ≡ n = ap length is ∙ length-replicate n false in
    record {
      size = size;
      each = λ e lt. slice_get-get_or flags e false (omega arith) ∙ ap Some (ap (λ xs. flag_at xs e) is ∙ (get_or-replicate n e false false lt ∙ sym (none_lowest (slice_get v.code.edges e))));
    }

-- a site with the lowest level adds the edges that it names, and another one none
more_lowest : (sites : List SwitchSite) (i : ℕ) (d : SwitchSite) (o : Option Edge) → i < length sites → any_lowest (take (i + 1) sites) o ≡ (any_lowest (take i sites) o || (names_some (slice_index_or sites i d) o && (slice_index_or sites i d).lowest))
more_lowest sites i d None lt = refl
more_lowest sites i d (Some edge) lt = list_any_more (λ site. names site edge && site.lowest) sites i d lt

and_true : (a b : Bool) → b ≡ true → (a && b) ≡ a
and_true true b on = on
and_true false b on = refl

pub lowest_more : (v : FlowGraph) (sites : List SwitchSite) (i : ℕ) (d : SwitchSite) (n : ℕ) (old new : List Bool) → i < length sites → (slice_index_or sites i d).lowest ≡ true → AreLowest v (take i sites) n old → AreRaised v (slice_index_or sites i d) n old new → AreLowest v (take (i + 1) sites) n new
lowest_more v sites i d n old new within low are raised =
    let size = are.size in
    let same = raised.size in
    record {
      size = same ∙ size;
      each = λ e lt.
          let o = slice_get v.code.edges e in
          let site = slice_index_or sites i d in
          let test : nat_lt e n ≡ true = grind (arith, nat_tests) in
          let before : flag_at old e ≡ any_lowest (take i sites) (slice_get v.code.edges e) = get_or_from_slice_get old e (any_lowest (take i sites) (slice_get v.code.edges e)) false (are.each e lt) in
          slice_get-get_or new e false (omega arith)
          ∙ ap Some (raised.each e (omega arith) ∙ (ap (λ b. flag_at old e || (b && names_some site o)) test ∙ (ap (λ b. b || names_some site o) before
          ∙ (ap (λ b. any_lowest (take i sites) o || b) (sym (and_true (names_some site o) site.lowest low)) ∙ sym (more_lowest sites i d o within)))));
    }

pub lowest_same : (v : FlowGraph) (sites : List SwitchSite) (i : ℕ) (d : SwitchSite) (n : ℕ) (flags : List Bool) → i < length sites → (slice_index_or sites i d).lowest ≡ false → AreLowest v (take i sites) n flags → AreLowest v (take (i + 1) sites) n flags
lowest_same v sites i d n flags within off are = record {
  size = are.size;
  each = λ e lt.
      let o = slice_get v.code.edges e in
      let site = slice_index_or sites i d in
      let none : (any_lowest (take i sites) o || (names_some site o && site.lowest)) ≡ any_lowest (take i sites) o =
      ap (λ b. any_lowest (take i sites) o || (names_some site o && b)) off ∙ (ap (λ b. any_lowest (take i sites) o || b) (and-false (names_some site o)) ∙ or-false (any_lowest (take i sites) o)) in
      are.each e lt ∙ ap Some (sym (more_lowest sites i d o within ∙ none));
}
