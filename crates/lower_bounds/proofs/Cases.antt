-- What is to show, case by case.
use Rattle.std.proofs.Common.{◌≡◌, ◌≢◌, ℕ, ◌<◌, ◌-◌, ◌≤◌, ◌⊎◌, inl, inr, true, false, length, Option, Some, sym, ap, ◌∙◌, subst}
use Rattle.std.specs.Prelude.{slice_get}
use Rattle.std.proofs.lemmas.Bool.{both_ways}
use Rattle.std.proofs.lemmas.Option.{slice_get_within}
use Rattle.scale_base.specs.declared.instruction.Instr.{Instr}
use Rattle.bound_laws.specs.Registers.{Measure, effect}
use Rattle.loop_file.specs.Kept.{in_extent}
use Rattle.bound_laws.specs.Values.{Arc, Covers, arc, held, line_of, sum_with}
use Rattle.stack_laws.specs.Counting as counting
use Rattle.stack_laws.specs.Counting.{IsAdded}
use Rattle.lower_bounds.specs.LowerBounds.{from_on, most_behind, IsCountedOver, IsNever, IsSumAt}
use Rattle.flow_graph.specs.FlowGraph.{graph}
use Rattle.flow_graph.proofs.Laws.{some_is}
use Rattle.value_checks.proofs.Laws.{once}
use Rattle.wrapped_intervals.specs.Small.{line_by}
use Rattle.stack_tables.specs.declared.claims.StackClaim.{StackClaim}
use Rattle.stack_tables.specs.Tables.{IsLineOf, address, claim_values, stacks_in, values_in, IsStackClaim}
use Rattle.stack_tables.proofs.Laws.{address_is}
use Rattle.lower_bounds.specs.declared.tables.Step.{Step}
use Rattle.lower_bounds.specs.declared.tables.LowerCase.{LowerCase}
use Rattle.lower_bounds.specs.LowerTables.{at_of, cert, counter_view, AreEntries, IsCountedIn, IsEdgeSo, IsLateOut, IsLedSo, IsLiveSo, IsLowerCase, IsNeverTaken, IsStepAt, IsSumIn}
use Rattle.lower_bounds.proofs.Seen.{counter_seen, first_seen, most_seen, there}

-- ---- sums

-- the interval of a sum by those of its registers
pub by_registers : (y : Arc) (at : ℕ → Option Arc) (m : Measure) (first other : Arc) → held at m.register ≡ Some first → held at m.other ≡ Some other → Covers (Some y) (line_by m (Some first) (Some other)) → Covers (Some y) (line_of m at)
by_registers y at m first other is_first is_other given =
    subst (λ (k : Option Arc). Covers (Some y) (line_by m k (held at m.other))) (sym is_first) (subst (λ (k : Option Arc). Covers (Some y) (line_by m (Some first) k)) (sym is_other) given)

line_in : (c : StackClaim) (k : ℕ) (m : Measure) (arc : Arc) → ((a : ℕ) → slice_get c.graph.now.code.nodes k ≡ Some a → IsLineOf (claim_values c) a m arc) → k < length c.graph.now.code.nodes → IsLineOf (values_in c) (address c k) m arc
unfolding values_in
line_in c k m arc given lt = given (address c k) (there c k lt)

-- a line's interval and what is added
pub by_line : (c : StackClaim) (x : Step) (m : Measure) (y line : Arc) (adds : ℕ) → x.from < length c.graph.now.code.nodes → effect m x.instr ≡ Some adds →
    ((a : ℕ) → slice_get c.graph.now.code.nodes x.from ≡ Some a → IsLineOf (claim_values c) a m line) → Covers (Some y) (sum_with (Some line) adds) → IsSumIn c x m y
by_line c x m y line adds lt does known covers =
    let found : IsLineOf (values_in c) (address c x.from) m line = line_in c x.from m line known lt in
    inr (inl (found.0, adds, found.1, does, subst (λ (k : Option Arc). Covers (Some y) (sum_with k adds)) (sym found.2) covers))

-- a line's interval
pub at_line : (c : StackClaim) (k : ℕ) (m : Measure) (y line : Arc) → k < length c.graph.now.code.nodes → ((a : ℕ) → slice_get c.graph.now.code.nodes k ≡ Some a → IsLineOf (claim_values c) a m line) → Covers (Some y) (Some line) →
    IsSumAt (values_in c) (address c k) m y
at_line c k m y line lt known covers =
    let found : IsLineOf (values_in c) (address c k) m line = line_in c k m line known lt in
    inr (found.0, found.1, subst (λ (x : Option Arc). Covers (Some y) x) (sym found.2) covers)

-- ---- edges

pub led_so : (P : ℕ → Type 0) (c : StackClaim) (e n : ℕ) → (graph c.graph.now).target e ≡ slice_get c.graph.now.code.nodes n → P (address c n) → (b : ℕ) → (graph c.graph.now).target e ≡ Some b → P b
led_so P c e n target given b to = subst P (sym (address_is c n b (sym target ∙ to))) given

pub called_so : (P : ℕ → Type 0) (c : StackClaim) (e f h : ℕ) → (graph c.graph.now).callee e ≡ Some f → slice_get c.graph.now.code.nodes h ≡ Some ((graph c.graph.now).entry f) → P (address c h) →
    (d : ℕ) → (graph c.graph.now).callee e ≡ Some d → P ((graph c.graph.now).entry d)
called_so P c e f h callee at given d to = subst (λ (x : ℕ). P ((graph c.graph.now).entry x)) (some_is f d (sym callee ∙ to)) (subst P (sym (address_is c h ((graph c.graph.now).entry f) at)) given)

pub edge_so : (c : LowerCase) (e k : ℕ) → slice_get c.claim.now.graph.now.code.nodes k ≡ Some ((graph c.claim.now.graph.now).source e) →
    ((b : ℕ) → (graph c.claim.now.graph.now).target e ≡ Some b → (cert c).quiet (address c.claim.now k) ≡ true → (cert c).quiet b ≡ true) →
    ((f : ℕ) → (graph c.claim.now.graph.now).callee e ≡ Some f → (cert c).quiet (address c.claim.now k) ≡ true → (cert c).quiet ((graph c.claim.now.graph.now).entry f) ≡ true) →
    ((values_in c.claim.now).live (address c.claim.now k) ≡ true → IsLiveSo c (graph c.claim.now.graph.now) (address c.claim.now k) e) → IsEdgeSo c (graph c.claim.now.graph.now) e
edge_so c e k at along called live = record {
  quiet_along = subst (λ (a : ℕ). (b : ℕ) → (graph c.claim.now.graph.now).target e ≡ Some b → (cert c).quiet a ≡ true → (cert c).quiet b ≡ true) source along;
  quiet_calls = subst (λ (a : ℕ). (f : ℕ) → (graph c.claim.now.graph.now).callee e ≡ Some f → (cert c).quiet a ≡ true → (cert c).quiet ((graph c.claim.now.graph.now).entry f) ≡ true) source called;
  live = subst (λ (a : ℕ). (values_in c.claim.now).live a ≡ true → IsLiveSo c (graph c.claim.now.graph.now) a e) source live;
}
  where
    source : address c.claim.now k ≡ (graph c.claim.now.graph.now).source e
    source = sym (address_is c.claim.now k ((graph c.claim.now.graph.now).source e) at)

-- the header is at one number alone
pub header_number : (c : LowerCase) → IsLowerCase c → (n : ℕ) → n < length c.claim.now.graph.now.code.nodes → address c.claim.now n ≡ c.note.now.header → n ≡ c.header
header_number c is n lt same = once c.claim.now.graph.now is.claim.graph_is.flow n c.header (address c.claim.now n) (there c.claim.now n lt)
    (there c.claim.now c.header is.header ∙ ap Some (is.header_is ∙ sym same))

pub case_in : (c : LowerCase) → IsStackClaim c.claim.now → slice_get c.claim.now.graph.now.code.nodes c.header ≡ Some c.note.now.header → AreEntries c.claim.now.graph.now.code.nodes c.table.now → IsLowerCase c
case_in c is at sized = record {
  claim = is;
  header = slice_get_within c.claim.now.graph.now.code.nodes c.header c.note.now.header at;
  header_is = sym (address_is c.claim.now c.header c.note.now.header at);
  sized = sized;
}

-- ---- what is counted in

counted_in : (c : LowerCase) (x : Step) (y : Arc) → IsCountedIn c.claim.now x (counter_view c.table.now.counter) y → IsCountedIn c.claim.now x (cert c).counter y
counted_in c x y h = subst (λ (k : counting.Counter). IsCountedIn c.claim.now x k y) (counter_seen c.claim.now c.table.now) h

pub great_in : (c : LowerCase) (x : Step) (y : Arc) (low least : ℕ) → low ≡ least → y ≡ arc low (4294967295 - low) → IsCountedIn c.claim.now x (counter_view c.table.now.counter) y → IsCountedIn c.claim.now x (cert c).counter (from_on least)
great_in c x y low least same is h =
    subst (λ (n : ℕ). IsCountedIn c.claim.now x (cert c).counter (from_on n)) same (subst (λ (z : Arc). IsCountedIn c.claim.now x (cert c).counter z) is (counted_in c x y h))

pub start_in : (c : LowerCase) (x : Step) (y : Arc) (first : ℕ) → first ≡ c.table.now.first → y ≡ arc 0 first → IsCountedIn c.claim.now x (counter_view c.table.now.counter) y → IsCountedIn c.claim.now x (cert c).counter (arc 0 (cert c).first)
start_in c x y first same is h =
    subst (λ (n : ℕ). IsCountedIn c.claim.now x (cert c).counter (arc 0 n)) (same ∙ first_seen c.claim.now c.table.now) (subst (λ (z : Arc). IsCountedIn c.claim.now x (cert c).counter z) is (counted_in c x y h))

-- ---- edges and steps, by where they lead

-- to the header, from the body
pub turn_led : (c : LowerCase) → IsLowerCase c → (k n behind most : ℕ) → n ≡ c.header → (cert c).body (at_of c k) ≡ true → behind ≡ most_behind (cert c) (at_of c k) → most ≡ c.table.now.most → behind ≤ most →
    IsLedSo (cert c) c.note.now.header (λ v. in_extent c.note.now v) (at_of c k) (at_of c n)
turn_led c is k n behind most same body behind_is most_is le = record {
  turn = λ _ _. (body, subst (λ (x : ℕ). x ≤ (cert c).most) behind_is (subst (λ (x : ℕ). behind ≤ x) (most_is ∙ most_seen c.claim.now c.table.now) le));
  entered = λ other _. absurd (other there_is);
  along = λ other _ _. absurd (other there_is);
}
  where
    there_is : at_of c n ≡ c.note.now.header
    there_is = ap (at_of c) same ∙ is.header_is

-- to the header from outside the extent
pub outer_led : (c : LowerCase) → IsLowerCase c → (k n : ℕ) → n ≡ c.header → in_extent c.note.now (at_of c k) ≡ false → IsLedSo (cert c) c.note.now.header (λ v. in_extent c.note.now v) (at_of c k) (at_of c n)
outer_led c is k n same outside = record {
  turn = λ _ inside. absurd (both_ways (in_extent c.note.now (at_of c k)) outside inside);
  entered = λ other _. absurd (other (ap (at_of c) same ∙ is.header_is));
  along = λ other _ _. absurd (other (ap (at_of c) same ∙ is.header_is));
}

-- to other code of the body
pub along_led : (c : LowerCase) → IsLowerCase c → (k n behind added : ℕ) → n < length c.claim.now.graph.now.code.nodes → n ≢ c.header → (cert c).body (at_of c k) ≡ true → behind ≡ most_behind (cert c) (at_of c k) → added ≡ (cert c).added (at_of c n) → behind ≤ added →
    IsLedSo (cert c) c.note.now.header (λ v. in_extent c.note.now v) (at_of c k) (at_of c n)
along_led c is k n behind added lt other body behind_is added_is le = record {
  turn = λ same _. absurd (other (header_number c is n lt same));
  entered = λ _ _. body;
  along = λ _ _ _. subst (λ (x : ℕ). x ≤ (cert c).added (at_of c n)) behind_is (subst (λ (x : ℕ). behind ≤ x) added_is le);
}

-- to code that is none of the body
pub other_led : (c : LowerCase) → IsLowerCase c → (k n : ℕ) → n < length c.claim.now.graph.now.code.nodes → n ≢ c.header → (cert c).body (at_of c n) ≡ false → IsLedSo (cert c) c.note.now.header (λ v. in_extent c.note.now v) (at_of c k) (at_of c n)
other_led c is k n lt other off = record {
  turn = λ same _. absurd (other (header_number c is n lt same));
  entered = λ _ on. absurd (both_ways ((cert c).body (at_of c n)) off on);
  along = λ _ _ on. absurd (both_ways ((cert c).body (at_of c n)) off on);
}

abbrev IsAddedAt : LowerCase → Step → Type 0
IsAddedAt c x = (cert c).body (at_of c x.from) ≡ true → IsAdded (values_in c.claim.now) (stacks_in c.claim.now) (cert c).counter (at_of c x.from) x.instr ((cert c).adds (at_of c x.from))

-- a step from outside the extent
pub outer_step : (c : LowerCase) → IsLowerCase c → (x : Step) → x.to < length c.claim.now.graph.now.code.nodes → in_extent c.note.now (at_of c x.from) ≡ false → IsAddedAt c x →
    (x.to ≡ c.header → IsNeverTaken c.claim.now x ⊎ IsCountedIn c.claim.now x (cert c).counter (arc 0 (cert c).first)) → IsStepAt c (at_of c x.from) x.instr (at_of c x.to)
outer_step c is x lt outside adds starts = record {
  starts = λ same _. subst (λ (b : ℕ). IsNever (values_in c.claim.now) x.instr (at_of c x.from) b ⊎ IsCountedOver (values_in c.claim.now) (stacks_in c.claim.now) x.instr (at_of c x.from) b (cert c).counter (arc 0 (cert c).first)) same
      (starts (header_number c is x.to lt same));
  left = λ inside _. absurd (both_ways (in_extent c.note.now (at_of c x.from)) outside inside);
  effects = adds;
}

-- and from within
pub inner_step : (c : LowerCase) (x : Step) → in_extent c.note.now (at_of c x.from) ≡ true → IsAddedAt c x → (in_extent c.note.now (at_of c x.to) ≡ false → IsNeverTaken c.claim.now x ⊎ IsLateOut c x) → IsStepAt c (at_of c x.from) x.instr (at_of c x.to)
inner_step c x inside adds ends = record {
  starts = λ _ outside. absurd (both_ways (in_extent c.note.now (at_of c x.from)) outside inside);
  left = λ _ outside. ends outside;
  effects = adds;
}

-- one that has nothing to do with the loop
pub other_step : (c : LowerCase) → IsLowerCase c → (k n : ℕ) (i : Instr) → n < length c.claim.now.graph.now.code.nodes → n ≢ c.header → (cert c).body (at_of c k) ≡ false → in_extent c.note.now (at_of c k) ≡ false → IsStepAt c (at_of c k) i (at_of c n)
other_step c is k n i lt other off outside = record {
  starts = λ same _. absurd (other (header_number c is n lt same));
  left = λ inside _. absurd (both_ways (in_extent c.note.now (at_of c k)) outside inside);
  effects = λ on. absurd (both_ways ((cert c).body (at_of c k)) off on);
}
