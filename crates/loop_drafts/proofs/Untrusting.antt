-- Where no store is trusted, nothing has to be so of a run; and what tables trust.
use Rattle.std.proofs.Common.{◌≡◌, ℕ, ◌+◌, ◌≤◌, Bool, true, false, List, [], ◌∷◌, Option, Some, None, refl, sym, ap, ◌∙◌, subst, arith}
use Rattle.std.specs.Prelude.{◌↔◌, count_by, nat_eq, option_and_then, slice_get, if◌then◌else◌}
use Rattle.std.proofs.lemmas.List.Sums.{sum_by-cons}
use Rattle.scale_base.specs.Image.{Image}
use Rattle.scale_base.specs.Run.{setting_of, start_of}
use Rattle.cost_theory.specs.Reached.{Code, flag_beside, if_true}
use Rattle.flow_graph.proofs.Laws.{some_is}
use Rattle.value_checks.specs.declared.tables.ValueTable.{ValueTable}
use Rattle.value_checks.specs.Tables.{beside, flag, or_other, values_of}
use Rattle.stack_tables.specs.declared.tables.StackTable.{StackTable}
use Rattle.stack_tables.specs.Tables.{stacks_of}
use Rattle.stack_laws.proofs.Laws.{certain_tidy, tidy_up_to}
use Rattle.loop_drafts.specs.declared.trusting.Trust.{Trust}
use Rattle.loop_drafts.specs.Trusting.{IsTrustKept, IsTrustOf, NothingIsTrusted, Trusts}

first_none : (x : Bool) (others : ℕ) → (if x then 1 else 0) + others ≡ 0 → x ≡ false
first_none true others none = absurd (omega arith)
first_none false others none = refl

others_none : (x : Bool) (others : ℕ) → (if x then 1 else 0) + others ≡ 0 → others ≡ 0
others_none true others none = absurd (omega arith)
others_none false others none = omega arith

either_none : (b x rest : Bool) → x ≡ false → rest ≡ false → if_true b x rest ≡ false
either_none true x rest first others = first
either_none false x rest first others = others

-- where none of these is so, none is beside an address
none_beside : (stores : List Bool) (nodes : List ℕ) (a : ℕ) → count_by (λ (is : Bool). is) stores ≡ 0 → flag_beside nodes stores a ≡ false
none_beside stores [] a none = refl
none_beside [] (u ∷ us) a none = refl
none_beside (x ∷ xs) (u ∷ us) a none =
    let others = count_by (λ (is : Bool). is) xs in
    let here : (if x then 1 else 0) + others ≡ 0 = sym (sum_by-cons (λ (is : Bool). if is then 1 else 0) x xs) ∙ none in
    either_none (nat_eq u a) x (flag_beside us xs a) (first_none x others here) (none_beside xs us a (others_none x others here))

pub nothing_trusted : NothingIsTrusted
nothing_trusted original trust levels input n none code v w reached of =
    certain_tidy v w (setting_of original levels input) (start_of original levels) (λ a. of.stores a ∙ none_beside trust.stores.items code.nodes a none) n

-- what is so of a run is so of its first steps
pub trust_before : (original : Image) (trust : Trust) (levels : ℕ) (input : List ℕ) (m n : ℕ) → m ≤ n → IsTrustKept original trust levels input n → IsTrustKept original trust levels input m
trust_before original trust levels input m n le kept code v w reached of =
    tidy_up_to v w (setting_of original levels input) (start_of original levels) n m le (kept code v w reached of)

same_choice : (b x rest : Bool) → (if b then x else rest) ≡ if_true b x rest
same_choice true x rest = refl
same_choice false x rest = refl

-- nothing stands in no row
none_there : (k : ℕ) → flag [] k ≡ true → ⊥
none_there k e = let bad : ⊥ = cc in bad

-- what stands beside an address, as tables have it
same_beside : (nodes : List ℕ) (flags : List Bool) (a : ℕ) → beside false nodes flags a ≡ flag_beside nodes flags a
same_beside [] flags a = refl
same_beside (u ∷ us) [] a = refl
same_beside (u ∷ us) (x ∷ xs) a = ap (λ (rest : Bool). if nat_eq u a then x else rest) (same_beside us xs a) ∙ same_choice (nat_eq u a) x (flag_beside us xs a)

some_true : (o : Option Bool) → (or_other false o ≡ true) ↔ (o ≡ Some true)
some_true None = (λ e. absurd (let bad : ⊥ = cc in bad), λ e. absurd (let bad : ⊥ = cc in bad))
some_true (Some x) = (λ e. ap (λ (b : Bool). Some b) e, λ e. some_is x true e)

word_seen : (o : Option (List Bool)) (k : ℕ) → (flag (or_other [] o) k ≡ true) ↔ (option_and_then (λ (words : List Bool). slice_get words k) o ≡ Some true)
word_seen None k = (λ e. absurd (none_there k e), λ e. absurd (let bad : ⊥ = cc in bad))
word_seen (Some words) k = some_true (slice_get words k)

-- what tables trust
pub trust_shown : (code : Code) (table : ValueTable) (stack : StackTable) (trust : Trust) → Trusts stack trust → IsTrustOf code trust (values_of code table) (stacks_of code stack)
trust_shown code table stack trust same = record {
  functions = λ a. refl;
  offsets = λ k. refl;
  stores = λ a. same_beside code.nodes stack.doubtful.items a ∙ ap (λ (flags : List Bool). flag_beside code.nodes flags a) (sym same.stores);
  words = λ f k. subst (λ (rows : List (List Bool)). (flag (or_other [] (slice_get stack.kept.items f)) k ≡ true) ↔ (option_and_then (λ (words : List Bool). slice_get words k) (slice_get rows f) ≡ Some true)) (sym same.words)
      (word_seen (slice_get stack.kept.items f) k);
}
