-- The nodes among the words of a text, and the functions' numbers.
use Rattle.std.proofs.Common.{◌≡◌, ℕ, ◌+◌, ◌<◌, true, List, [], ◌∷◌, ◌++◌, length, get_or, Option, Some, None, nat_eq, refl, sym, ap, ◌∙◌, subst, arith, ⊎_elim, eqb-true, eq-eqb}
use Rattle.std.specs.Prelude.{slice_get, slice_index}
use Rattle.std.proofs.lemmas.List.{get_or_read, length-map}
use Rattle.std.proofs.lemmas.Option.{slice_get_within, slice_get-get_or, get_or_from_slice_get, slice_get-map}
use Rattle.cost_theory.specs.Graph.{find_below}
use Rattle.cost_theory.specs.declared.flow.Flow.{Flow}
use Rattle.cost_theory.specs.declared.flow.Flow.TheVariants as flow
use Rattle.cost_theory.specs.Reached.{callee_of, number_or_0}
use Rattle.cost_theory.proofs.Laws.{below_suc, find-holds, find-some, some_value, some_get}
use Rattle.code_graph.specs.declared.reach.marks.Mark.{Mark}
use Rattle.code_graph.specs.declared.reach.marks.Mark.TheVariants.{Unreached, Owner}
use Rattle.code_text.specs.Text.{Text}
use Rattle.code_text.specs.Walk.{RiseStrictly}
use Rattle.code_graph.specs.Reach.{Reach, WordStandsAt}
use Rattle.code_graph.specs.Finding.{IsReachIn}
use Rattle.code_graph.specs.Assembling.{AreReachedNodes, owner_number, number_by, entry_addresses}
use Rattle.flow_graph.proofs.Laws.{Once, some_is, ascending_once}
use Rattle.code_graph.proofs.Lists.{later_more, get_left, get_end, get_pushed, length_pushed}

-- ---- nodes, a word further

pub nodes_none : (r : Reach) (n : ℕ) (nodes : List ℕ) (kinds : List Flow) (owners : List ℕ) → AreReachedNodes r n nodes kinds owners → owner_number r n ≡ None → AreReachedNodes r (n + 1) nodes kinds owners
nodes_none r n nodes kinds owners are none = record {
  kinds_size = are.kinds_size;
  owners_size = are.owners_size;
  few = (let few = are.few in omega arith);
  each = λ j a at. let e = are.each j a at in record {
    k = e.k;
    below = (let lt = e.below in omega arith);
    kind = e.kind;
    owner = e.owner;
    address = e.address;
    word = e.word;
    number = e.number;
    kind_beside = e.kind_beside;
    owner_beside = e.owner_beside;
  };
  whole = λ k i a below number at. ⊎_elim
      (λ (lt : k < n). are.whole k i a lt number at)
      (λ (e : k ≡ n). let some = sym none ∙ ap (owner_number r) (sym e) ∙ number in let bad : ⊥ = cc in absurd bad)
      (below_suc k n (omega arith));
  ascending = are.ascending;
}

pub nodes_one : (r : Reach) (n : ℕ) (nodes : List ℕ) (kinds : List Flow) (owners : List ℕ) (o a : ℕ) (w : Flow) → RiseStrictly r.words.addresses → AreReachedNodes r n nodes kinds owners → owner_number r n ≡ Some o →
    slice_get r.words.addresses n ≡ Some a → slice_get r.words.kinds n ≡ Some w → AreReachedNodes r (n + 1) (nodes ++ a ∷ []) (kinds ++ w ∷ []) (owners ++ o ∷ [])
nodes_one r n nodes kinds owners o a w rise are number at word =
    let long : length (nodes ++ a ∷ []) ≡ length nodes + 1 = length_pushed nodes a in
    let long_kinds : length (kinds ++ w ∷ []) ≡ length kinds + 1 = length_pushed kinds w in
    let long_owners : length (owners ++ o ∷ []) ≡ length owners + 1 = length_pushed owners o in
    let same_kinds = are.kinds_size in
    let same_owners = are.owners_size in
    let few = are.few in
    record {
      kinds_size = omega arith;
      owners_size = omega arith;
      few = omega arith;
      each = λ j b here. ⊎_elim
          (λ (old : slice_get nodes j ≡ Some b). let e = are.each j b old in record {
            k = e.k;
            below = (let lt = e.below in omega arith);
            kind = e.kind;
            owner = e.owner;
            address = e.address;
            word = e.word;
            number = e.number;
            kind_beside = get_left kinds (w ∷ []) j e.kind e.kind_beside;
            owner_beside = get_left owners (o ∷ []) j e.owner e.owner_beside;
          })
          (λ (new : (j ≡ length nodes) × (a ≡ b)). record {
            k = n;
            below = omega arith;
            kind = w;
            owner = o;
            address = at ∙ ap Some new.1;
            word = word;
            number = number;
            kind_beside = ap (slice_get (kinds ++ w ∷ [])) (new.0 ∙ sym same_kinds) ∙ get_end kinds w;
            owner_beside = ap (slice_get (owners ++ o ∷ [])) (new.0 ∙ sym same_owners) ∙ get_end owners o;
          })
          (get_pushed nodes a j b here);
      whole = λ k i b below has here. ⊎_elim
          (λ (lt : k < n). let old = are.whole k i b lt has here in (old.0, get_left nodes (a ∷ []) old.0 b old.1))
          (λ (e : k ≡ n). (length nodes, get_end nodes a ∙ sym at ∙ ap (slice_get r.words.addresses) (sym e) ∙ here))
          (below_suc k n (omega arith));
      ascending = λ i j b c ij here there. ⊎_elim
          (λ (second : slice_get nodes j ≡ Some c). ⊎_elim
          (λ (first : slice_get nodes i ≡ Some b). are.ascending i j b c ij first second)
          (λ (last : (i ≡ length nodes) × (a ≡ b)). let lt = slice_get_within nodes j c second in let e = last.0 in let bad : ⊥ = omega arith in absurd bad)
          (get_pushed nodes a i b here))
          (λ (last : (j ≡ length nodes) × (a ≡ c)). ⊎_elim
          (λ (first : slice_get nodes i ≡ Some b). let e = are.each i b first in subst (λ x. b < x) last.1 (later_more r.words.addresses rise e.k n b a e.below e.address at))
          (λ (both : (i ≡ length nodes) × (a ≡ b)). let p = last.0 in let q = both.0 in let bad : ⊥ = omega arith in absurd bad)
          (get_pushed nodes a i b here))
          (get_pushed nodes a j c there);
    }

pub nodes_same : (r : Reach) (n : ℕ) (nodes nodes' : List ℕ) (kinds kinds' : List Flow) (owners owners' : List ℕ) → nodes' ≡ nodes → kinds' ≡ kinds → owners' ≡ owners → AreReachedNodes r n nodes kinds owners → AreReachedNodes r n nodes' kinds' owners'
nodes_same r n nodes nodes' kinds kinds' owners owners' a b c are =
    subst (λ xs. AreReachedNodes r n xs kinds' owners') (sym a) (subst (λ ys. AreReachedNodes r n nodes ys owners') (sym b) (subst (λ zs. AreReachedNodes r n nodes kinds zs) (sym c) are))

-- ---- marks and numbers that are read

pub mark_read : (marks : List Mark) (k : ℕ) (m : Mark) → k < length marks → m ≡ get_or marks k m → get_or marks k Unreached ≡ m
mark_read marks k m lt at = sym (get_or_read marks k m lt at Unreached)

-- the first word of an owner is one of the text
pub owner_place : (t : Text) (r : Reach) (k f : ℕ) (m : Mark) → IsReachIn t r → k < length r.words.addresses → m ≡ get_or r.marks k m → m ≡ Owner f → f < length r.numbers
owner_place t r k f m is lt at owner =
    let size = is.reach.marks_size in
    let long = is.reach.numbers_size in
    let here : slice_get r.marks k ≡ Some (Owner f) = slice_get-get_or r.marks k m (omega arith) ∙ ap Some (sym at ∙ owner) in
    let o = is.reach.owner k (get_or r.words.addresses k 0) f (slice_get-get_or r.words.addresses k 0 lt) here in
    let within = slice_get_within r.words.addresses f o.0 o.1 in
    omega arith

pub owner_read : (r : Reach) (k f : ℕ) (m : Mark) (n : Option ℕ) → k < length r.marks → f < length r.numbers → m ≡ get_or r.marks k m → m ≡ Owner f → n ≡ get_or r.numbers f n → n ≡ owner_number r k
owner_read r k f m n kl fl at owner number = get_or_read r.numbers f n fl number None ∙ ap (number_by r.numbers) (sym (mark_read r.marks k m kl at ∙ owner))

-- ---- the number of a function that is called

module _ (t : Text) (r : Reach) (is : IsReachIn t r) where
  pub entries_size : length (entry_addresses r) ≡ length r.functions
  entries_size = length-map r.functions (slice_index r.words.addresses)

  -- the entry of a function is the address of its first word
  pub entry_is : (i k v : ℕ) → slice_get r.functions i ≡ Some k → WordStandsAt r.words k v → slice_get (entry_addresses r) i ≡ Some v
  entry_is i k v function at = slice_get-map (slice_index r.words.addresses) r.functions i ∙ rw function (ap Some (get_or_from_slice_get r.words.addresses k v 0 at))

  pub entry_word : (i v : ℕ) → slice_get (entry_addresses r) i ≡ Some v → (k : ℕ) × (slice_get r.functions i ≡ Some k) × WordStandsAt r.words k v
  entry_word i v at =
      let f = some_get r.functions i (let lt = slice_get_within (entry_addresses r) i v at in let size = entries_size in omega arith) in
      let w = is.reach.functions_within i f.0 f.1 in
      let same : w.0 ≡ v = some_is w.0 v (sym (entry_is i f.0 w.0 f.1 w.1) ∙ at) in
      (f.0, f.1, subst (WordStandsAt r.words f.0) same w.1)

  pub once_words : (j k v : ℕ) → WordStandsAt r.words j v → WordStandsAt r.words k v → j ≡ k
  once_words = ascending_once r.words.addresses (λ i j a b. later_more r.words.addresses is.table.rising i j a b)

  pub once_entries : Once (entry_addresses r)
  once_entries i j v at_i at_j =
      let a = entry_word i v at_i in
      let b = entry_word j v at_j in
      let one : a.0 ≡ b.0 = once_words a.0 b.0 v a.2 b.2 in
      let first : slice_get r.numbers b.0 ≡ Some (Some i) = (is.reach.numbers b.0 i).1 (a.1 ∙ ap Some one) in
      let second : slice_get r.numbers b.0 ≡ Some (Some j) = (is.reach.numbers b.0 j).1 b.1 in
      some_is i j (some_is (Some i) (Some j) (sym first ∙ second))

  -- what is found among the entries is the number of the word
  found_number : (to k j : ℕ) → WordStandsAt r.words k to → callee_of (entry_addresses r) (flow.Call to) ≡ Some j → slice_get r.numbers k ≡ Some (Some j)
  found_number to k j at found =
      let holds = find-holds (length (entry_addresses r)) (λ i. nat_eq (number_or_0 (slice_get (entry_addresses r) i)) to) j found in
      let entry = some_get (entry_addresses r) j holds.0 in
      let same : entry.0 ≡ to = sym (ap number_or_0 entry.1) ∙ eqb-true (number_or_0 (slice_get (entry_addresses r) j)) to holds.1 in
      let w = entry_word j to (entry.1 ∙ ap Some same) in
      (is.reach.numbers k j).1 (w.1 ∙ ap Some (once_words w.0 k to w.2 at))

  pub number_found : (to j : ℕ) → slice_get (entry_addresses r) j ≡ Some to → callee_of (entry_addresses r) (flow.Call to) ≡ Some j
  number_found to j at =
      let test : nat_eq (number_or_0 (slice_get (entry_addresses r) j)) to ≡ true = eq-eqb (number_or_0 (slice_get (entry_addresses r) j)) to (ap number_or_0 at) in
      let some = some_value (find_below (length (entry_addresses r)) (λ i. nat_eq (number_or_0 (slice_get (entry_addresses r) i)) to))
      (find-some (length (entry_addresses r)) (λ i. nat_eq (number_or_0 (slice_get (entry_addresses r) i)) to) j (slice_get_within (entry_addresses r) j to at) test) in
      let w = entry_word j to at in
      let number : Some (Some some.0) ≡ Some (Some j) = sym (found_number to w.0 some.0 w.2 some.1) ∙ (is.reach.numbers w.0 j).1 w.1 in
      some.1 ∙ some_is (Some some.0) (Some j) number

  pub callee_read : (to k : ℕ) (c : Option ℕ) → WordStandsAt r.words k to → slice_get r.numbers k ≡ Some c → c ≡ callee_of (entry_addresses r) (flow.Call to)
  callee_read to k None at number = go (callee_of (entry_addresses r) (flow.Call to)) refl
    where
      go : (o : Option ℕ) → callee_of (entry_addresses r) (flow.Call to) ≡ o → None ≡ o
      go None e = refl
      go (Some j) e = let clash = sym number ∙ found_number to k j at e in let bad : ⊥ = cc in absurd bad
  callee_read to k (Some i) at number = sym (number_found to i (entry_is i k to ((is.reach.numbers k i).0 number) at))

  pub callee_none : (to : ℕ) → ((k : ℕ) → WordStandsAt r.words k to → ⊥) → None ≡ callee_of (entry_addresses r) (flow.Call to)
  callee_none to none = go (callee_of (entry_addresses r) (flow.Call to)) refl
    where
      go : (o : Option ℕ) → callee_of (entry_addresses r) (flow.Call to) ≡ o → None ≡ o
      go None e = refl
      go (Some j) e =
          let holds = find-holds (length (entry_addresses r)) (λ i. nat_eq (number_or_0 (slice_get (entry_addresses r) i)) to) j e in
          let entry = some_get (entry_addresses r) j holds.0 in
          let same : entry.0 ≡ to = sym (ap number_or_0 entry.1) ∙ eqb-true (number_or_0 (slice_get (entry_addresses r) j)) to holds.1 in
          let w = entry_word j to (entry.1 ∙ ap Some same) in
          absurd (none w.0 w.2)

  -- the first word of a function has a flag
  pub function_within : (xs : List ℕ) (i : ℕ) → xs ≡ r.functions → i < length xs → get_or xs i 0 < length r.returning
  function_within xs i same lt =
      let il : i < length r.functions = (let e = ap length same in omega arith) in
      let w = is.reach.functions_within i (get_or r.functions i 0) (slice_get-get_or r.functions i 0 il) in
      let place = slice_get_within r.words.addresses (get_or r.functions i 0) w.0 w.1 in
      let size = is.reach.returning_size in
      let e : get_or xs i 0 ≡ get_or r.functions i 0 = ap (λ ys. get_or ys i 0) same in
      omega arith
