-- Counters that are used count their loops.
use Rattle.std.proofs.Common.{◌≡◌, inl, inr, ℕ, zero, suc, ◌+◌, ◌<◌, Bool, true, false, cond, not, List, [], refl, arith, sym, ap, ◌∙◌, subst, slice_get, Option, Some, None}
use Rattle.std.specs.Prelude.{◌==◌, ◌&&◌, nat_lt, nat_eq}
use Rattle.std.specs.List.{sum_by}
use Rattle.std.proofs.lemmas.Bool.{eqb-true, eq-eqb, both_ways, ltb-true, lt-ltb, and_parts, not-true}
use Rattle.scale_base.specs.declared.instruction.Instr.{Instr}
use Rattle.scale_base.specs.declared.instruction.Instr.TheVariants as instr
use Rattle.scale_base.specs.declared.stepping.Class.{Class}
use Rattle.scale_base.specs.Image.{Image}
use Rattle.scale_base.specs.declared.edges.Edge.{Edge}
use Rattle.cost_theory.specs.declared.flow.Flow.TheVariants as flow
use Rattle.cost_theory.specs.Graph.{Graph, Loops, is_back, leaves, is_header}
use Rattle.cost_theory.specs.Accepted.{IsProgram}
use Rattle.cost_theory.specs.Reached.{Reached, Code, edge_at}
use Rattle.cost_theory.proofs.Laws.{search_below, accepted_entered, header_held, some_get, callee-call, callee_word, is_program, edge_of_word}
use Rattle.code_text.specs.Text.{Text, text_of, instr_kind, kind_at}
use Rattle.code_text.specs.EdgeCosts.{edge_class}
use Rattle.code_text.specs.TextGraph.{text_graph}
use Rattle.graph_runs.specs.Laws.{IsProgramOf}
use Rattle.code_text.proofs.Laws.{kind_facts}
use Rattle.stub_writer.specs.Stubs.{Site}
use Rattle.stored_runs.specs.Marks.{place_at, fragments_of_class, counters_behind}
use Rattle.paid_runs.specs.Shadows.{count_over}
use Rattle.paid_runs.specs.Counters.{AreCounterWords, AreCounted}
use Rattle.paid_runs.proofs.Laws.{loops_are_countable}
use Rattle.foreign_scan.specs.Scanned.{Found, CanBePatched, IsPatch, IsScanned}
use Rattle.image_check.specs.Safe.{Owner, owner_bound, all_with_rows, sites_of, counts_it, counts_on, clears_on, one_where, IsCounterOf, AreOwners}
use Rattle.image_check.specs.Laws.{owner_is, is_owner}
use Rattle.image_check.proofs.Counting.{untouched, counted_once, cleared_once}
use Rattle.image_check.proofs.OnEdges.{fragments_on}

owner_from : (o : Option ℕ) (k : ℕ) → owner_is o k ≡ true → o ≡ Some k
owner_from None k e = cc
owner_from (Some j) k e = ap (λ x. Some x) (eqb-true j k e)

owner_to : (o : Option ℕ) (k : ℕ) → o ≡ Some k → owner_is o k ≡ true
owner_to o k e = ap (λ p. owner_is p k) e ∙ eq-eqb k k refl

not_less : (n : ℕ) → nat_lt 0 n ≡ false → n ≡ 0
not_less zero f = refl
not_less (suc n) f = absurd (both_ways (nat_lt 0 (suc n)) f (lt-ltb 0 (suc n) (omega arith)))

pub own_loop : (owner : Owner) (c k : ℕ) → is_owner owner c k ≡ true → owner c ≡ Some k
own_loop owner c k e = owner_from (owner c) k e

pub is_own : (owner : Owner) (c k : ℕ) → owner c ≡ Some k → is_owner owner c k ≡ true
is_own owner c k e = owner_to (owner c) k e

module _ (original foreign : Image) (code : Code) (l : Loops) (extent : ℕ → ℕ → Bool) (owner : Owner) (found : Found) (prog : IsProgramOf (text_of original) code l extent)
    (is : IsScanned original foreign code l found) (owners : AreOwners (text_graph (text_of original) code) code l found owner) where
  abbrev t : Text
  t = text_of original

  abbrev g : Graph
  g = text_graph t code

  abbrev sites : List Site
  sites = sites_of original foreign code l owner found

  program : IsProgram g
  program = is_program (kind_at t) t.entry code prog.reached.lists prog.reached.words prog.calls

  -- ---- the loop of a counter

  pub counter_for : (c k : ℕ) → owner c ≡ Some k → IsCounterOf g code l found c k
  counter_for c k e = elim (search_below g.edges (λ d. nat_lt 0 (counts_on found (slice_get code.edges d) c + clears_on found (slice_get code.edges d) c))) [
    | inl some ↦
        let o = owners.used c (record { edge = some.0; low = some.1; uses = ltb-true 0 (counts_on found (slice_get code.edges some.0) c + clears_on found (slice_get code.edges some.0) c) some.2 }) in
        let same : o.0 ≡ k = (let a = o.1 in cc) in
        subst (IsCounterOf g code l found c) same o.2
    | inr none ↦ absurd (
        let no = owners.unused c (λ u.
        both_ways (nat_lt 0 (counts_on found (slice_get code.edges u.edge) c + clears_on found (slice_get code.edges u.edge) c)) (none u.edge u.low)
        (lt-ltb 0 (counts_on found (slice_get code.edges u.edge) c + clears_on found (slice_get code.edges u.edge) c) u.uses)) in
        let never : ⊥ = cc in never)
  ]

  -- a number that is no counter of a loop is used by no fragment
  pub unused_on : (c : ℕ) → ((k : ℕ) → is_owner owner c k ≡ true → ⊥) → (e : ℕ) → e < g.edges → counts_on found (slice_get code.edges e) c + clears_on found (slice_get code.edges e) c ≡ 0
  unused_on c none e lt = by_test (nat_lt 0 (counts_on found (slice_get code.edges e) c + clears_on found (slice_get code.edges e) c)) refl
    where
      by_test : (b : Bool) → nat_lt 0 (counts_on found (slice_get code.edges e) c + clears_on found (slice_get code.edges e) c) ≡ b → counts_on found (slice_get code.edges e) c + clears_on found (slice_get code.edges e) c ≡ 0
      by_test true on =
          let o = owners.used c (record { edge = e; low = lt; uses = ltb-true 0 (counts_on found (slice_get code.edges e) c + clears_on found (slice_get code.edges e) c) on }) in
          absurd (none o.0 (is_own owner c o.0 o.1))
      by_test false off = not_less (counts_on found (slice_get code.edges e) c + clears_on found (slice_get code.edges e) c) off

  -- ---- a changed word is no call

  pub patched_kind : (v f : ℕ) → Reached (kind_at t) t.entry f v → (p : IsPatch original foreign code v) → kind_at t v ≡ instr_kind t v p.old_instr
  patched_kind v f there p =
      let facts = kind_facts t v (prog.reached.words f v there) in
      let same : facts.2.0 ≡ p.old_instr = (let a = facts.2.1 in let b = p.old in cc) in
      facts.2.2 ∙ ap (instr_kind t v) same

  not_call : (v h : ℕ) (i : Instr) → CanBePatched i → instr_kind t v i ≡ flow.Call h → ⊥
  not_call v h (instr.Branch op rs1 rs2 offset) can e = let never : ⊥ = cc in never
  not_call v h (instr.Jal rd offset) can e = let there : instr_kind t v (instr.Jal 0 offset) ≡ flow.Call h = ap (λ d. instr_kind t v (instr.Jal d offset)) (sym can) ∙ e in let never : ⊥ = cc in never
  not_call v h (instr.Lui rd imm) can e = can
  not_call v h (instr.Auipc rd imm) can e = can
  not_call v h (instr.Jalr rd rs1 offset) can e = can
  not_call v h (instr.Load op rd rs1 offset) can e = can
  not_call v h (instr.Store op rs1 rs2 offset) can e = can
  not_call v h (instr.Imm op rd rs1 imm) can e = can
  not_call v h (instr.Reg op rd rs1 rs2) can e = can
  not_call v h (instr.Fence rd rs1 imm) can e = can
  not_call v h instr.Ecall can e = can
  not_call v h instr.Ebreak can e = can

  -- an edge of a call has no fragments
  pub call_plain : (e f : ℕ) (edge : Edge) → e < g.edges → slice_get code.edges e ≡ Some edge → g.callee e ≡ Some f → found edge.at edge.kind ≡ []
  call_plain e f edge lt there callee =
      let source = edge_of_word (kind_at t) t.entry code prog.reached.lists e edge there in
      let at : edge_at (slice_get code.edges e) ≡ edge.at = ap edge_at there in
      let c = callee-call code.functions (kind_at t (edge_at (slice_get code.edges e))) f (sym (callee_word (kind_at t) code.functions code.edges e lt) ∙ callee) in
      let calls : kind_at t edge.at ≡ flow.Call c.0 = ap (kind_at t) (sym at) ∙ c.1 in
      is.found_are.plain edge.at edge.kind (λ changed.
      let p = is.patches edge.at changed in
      let reached = subst (λ v. Reached (kind_at t) t.entry source.1.0 v) (sym source.3) source.1.1 in
      not_call edge.at c.0 p.old_instr p.can_be (sym (patched_kind edge.at source.1.0 reached p) ∙ calls))

  -- ---- the counters

  no_back : (c k : ℕ) → owner c ≡ Some k → (j e f v : ℕ) → j < l.loops → (j == k) ≡ true → e < g.edges → g.callee e ≡ Some f → g.target e ≡ Some v → is_back g l j e ≡ false
  no_back c k own j e f v jl on lt callee to =
      let x = some_get code.edges e lt in
      let none : counts_on found (slice_get code.edges e) c ≡ 0 = ap (λ o. counts_on found o c) x.1 ∙ ap (sum_by (counts_it c)) (call_plain e f x.0 lt x.1 callee) in
      let counts = (counter_for c k own).counts e lt in
      subst (λ i. is_back g l i e ≡ false) (sym (eqb-true j k on)) (is_false (is_back g l k e) (sym counts ∙ none))
    where
      is_false : (b : Bool) → one_where b ≡ 0 → b ≡ false
      is_false true e = cc
      is_false false e = refl

  pub counters : AreCounterWords g l (λ c. owner_bound l (owner c)) (is_owner owner)
  counters = record {
    loops = λ c k on. (counter_for c k (own_loop owner c k on)).low;
    countable = λ c k on. loops_are_countable t code l extent (λ j. j == k) prog (no_back c k (own_loop owner c k on));
    limited = λ c k on. let same : owner_bound l (owner c) ≡ l.bound k = ap (owner_bound l) (own_loop owner c k on) in omega (arith, same);
  }

  -- an edge is not both a back edge of a loop and one that leaves it
  not_both : (k e : ℕ) → k < l.loops → is_back g l k e ≡ true → leaves l k (g.source e) (g.target e) ≡ true → ⊥
  not_both k e low back left = by_target (g.target e) back left
    where
      by_target : (o : Option ℕ) → (l.inside k (g.source e) && is_header l k o) ≡ true → leaves l k (g.source e) o ≡ true → ⊥
      by_target None b f = let never : ⊥ = cc in never
      by_target (Some v) b f =
          let head = eqb-true v (l.header k) (and_parts (l.inside k (g.source e)) (nat_eq v (l.header k)) b).1 in
          let held = header_held g l extent program (accepted_entered prog.loops) k low in
          let out = not-true (l.inside k v) (and_parts (l.inside k (g.source e)) (not (l.inside k v)) f).1 in
          both_ways (l.inside k v) out (ap (l.inside k) head ∙ held)

  over_edge : (k e : ℕ) → k < l.loops → (c : ℕ → ℕ) (w : ℕ) (edge : Edge) → counts_on found (Some edge) w ≡ one_where (is_back g l k e) → clears_on found (Some edge) w ≡ one_where (leaves l k (g.source e) (g.target e))
      → counters_behind (all_with_rows foreign l owner (found edge.at edge.kind)) c w ≡ count_over g l k e (c w)
  over_edge k e low c w edge a b = by_tests (is_back g l k e) (leaves l k (g.source e) (g.target e)) refl refl a b
    where
      by_tests : (x y : Bool) → is_back g l k e ≡ x → leaves l k (g.source e) (g.target e) ≡ y → counts_on found (Some edge) w ≡ one_where x → clears_on found (Some edge) w ≡ one_where y
          → counters_behind (all_with_rows foreign l owner (found edge.at edge.kind)) c w ≡ cond x (c w + 1) (cond y 0 (c w))
      by_tests true true p q a b = absurd (not_both k e low p q)
      by_tests true false p q a b = counted_once foreign l owner (found edge.at edge.kind) c w a b
      by_tests false true p q a b = cleared_once foreign l owner (found edge.at edge.kind) c w a b
      by_tests false false p q a b = untouched foreign l owner (found edge.at edge.kind) c w a b

  -- the fragments by the sites
  pub on_edge : (e : ℕ) (class : Class) → e < g.edges → edge_class t (slice_get code.edges e) ≡ Some class → (edge : Edge) × (slice_get code.edges e ≡ Some edge) × (fragments_of_class (place_at sites (edge_at (slice_get code.edges e))) class ≡ all_with_rows foreign l owner (found edge.at edge.kind))
  on_edge e class lt is_class =
      let x = some_get code.edges e lt in
      (x.0, x.1, ap (λ o. fragments_of_class (place_at sites (edge_at o)) class) x.1 ∙ fragments_on original foreign code l owner found prog.reached is e x.0 class x.1 (ap (edge_class t) (sym x.1) ∙ is_class))

  pub counted : AreCounted t code l sites (is_owner owner)
  counted = record {
    counts = λ e class lt is_class w k on c.
        let x = on_edge e class lt is_class in
        let o = counter_for w k (own_loop owner w k on) in
        ap (λ fs. counters_behind fs c w) x.2
        ∙ over_edge k e o.low c w x.0 (ap (λ q. counts_on found q w) (sym x.1) ∙ o.counts e lt) (ap (λ q. clears_on found q w) (sym x.1) ∙ o.clears e lt);
    others = λ e class lt is_class w none c.
        let x = on_edge e class lt is_class in
        let zero_sum = ap (λ q. counts_on found q w + clears_on found q w) (sym x.1) ∙ unused_on w none e lt in
        ap (λ fs. counters_behind fs c w) x.2
        ∙ untouched foreign l owner (found x.0.at x.0.kind) c w (omega (arith, zero_sum)) (omega (arith, zero_sum));
  }
