-- What a table says of itself, and what is to show, case by case.
use Rattle.std.proofs.Common.{◌≡◌, ℕ, ℤ, zero, suc, get_or, ◌<◌, ◌+◌, ◌≤◌, ◌%◌, ◌^◌, ◌⊎◌, inl, inr, ⊎_elim, Bool, true, List, [], ◌∷◌, length, Option, Some, None, refl, sym, ap, ◌∙◌, subst, arith}
use Rattle.std.specs.Prelude.{◌==◌, option_map, slice_get, IfSome}
use Rattle.std.specs.List.{All, find}
use Rattle.std.proofs.lemmas.Bool.{cond_both, eqb-true}
use Rattle.std.proofs.lemmas.List.{get_or_default}
use Rattle.std.proofs.lemmas.Option.{slice_get_within}
use Rattle.scale_base.specs.declared.instruction.ImmOp.TheVariants.{Addi, Slli}
use Rattle.scale_base.specs.declared.instruction.RegOp.TheVariants.{Add}
use Rattle.scale_base.specs.declared.instruction.Instr.{Instr}
use Rattle.scale_base.specs.declared.instruction.Instr.TheVariants.{Imm, Reg}
use Rattle.scale_base.specs.Arith.{unsigned}
use Rattle.bound_laws.specs.Registers.{keeps}
use Rattle.bound_laws.specs.Values.{Arc, IsIn, Covers, held, sum_with, IsRegister, Values}
use Rattle.code_text.specs.Text.{Text}
use Rattle.flow_graph.specs.FlowGraph.{graph}
use Rattle.flow_graph.proofs.Laws.{less_same_more, some_is}
use Rattle.stack_laws.specs.Stacks.{Stacks, IsLoadedTo, IsMissed, IsRestored, IsSafe, IsStoredFrom}
use Rattle.stack_tables.specs.declared.claims.StackClaim.{StackClaim}
use Rattle.stack_tables.specs.declared.tables.FixedPart.{FixedPart}
use Rattle.value_checks.proofs.Laws.{once}
use Rattle.stack_tables.specs.Tables.{address, fixed_in, stacks_in, text_in, values_in, IsStackClaim}
use Rattle.stack_tables.proofs.Laws.{address_is}
use Rattle.walk_areas.specs.Walking.{Place, Trace, WalkCertificate, aim, aimed_in, moved_by_number, multiplied, operand, pointer, sum_of_both, Sought, IsBarren, IsBegun, IsBeyond, IsGround, IsMoved, IsOfAreas, IsOfFixed, IsStep, IsPlaceBack, IsPlaceOver, IsTurnBack, IsTurnOver, IsTouched, IsWider}
use Rattle.walk_areas.specs.Walking.IsRowOver.{kept, summed, added, shifted, loaded}
use Rattle.walk_areas.specs.Walking.IsWordOver.{missed, stored}
use Rattle.walk_checks.specs.declared.tables.WordTrace.{WordTrace}
use Rattle.walk_checks.specs.declared.tables.WalkTable.{WalkTable}
use Rattle.walk_checks.specs.declared.tables.WalkCase.{WalkCase}
use Rattle.walk_checks.specs.declared.tables.Sought as tables
use Rattle.walk_checks.specs.Walked.{cert, certificate_in, certificate_of, place_view, sought_view, trace_view, word_in, AreWalks, IsApart, IsApartAt, IsEdgeWalked, IsEnding, IsGrounded, IsIdle, IsLiveSo, IsPlaceFound, IsPlaceFoundBack, IsPlaced, IsRowFound, IsRowFoundBack, IsSearched, IsShort, IsWalkCase, IsWordFound, IsWordFoundBack}
use Rattle.walk_checks.proofs.Seen.{there}

-- what holds of a value that is there follows from what else holds of it
pub if_some : {A : Type 0} {P Q : A → Type 0} (o : Option A) → ((x : A) → P x → Q x) → IfSome o P → IfSome o Q
if_some None f h = tt
if_some (Some x) f h = f x h

-- what holds of an interval, known or not, holds of one that is known
pub if_known : (o : Option Arc) (P : Option Arc → Type 0) → P o → IfSome o (λ x. P (Some x))
if_known None P h = tt
if_known (Some x) P h = h

-- and of that one
pub of_known : (o : Option Arc) (x : Arc) (P : Arc → Type 0) → o ≡ Some x → IfSome o P → P x
of_known o x P same h = subst (λ (y : Option Arc). IfSome y P) same h

-- ---- what is found over an instruction, and behind a call

module _ (v : Values) (w : Stacks) (c : WalkCertificate) (a : ℕ) (i : Instr) (r : ℕ) (z : Option Trace) where
  pub kept_found : keeps r i ≡ true → z ≡ c.row a r → IsRowFound v w c a i r z
  kept_found keeps same b wider = kept keeps (subst (IsWider b) same wider)

  pub summed_found : (rs : ℕ) (imm : ℤ) → i ≡ Imm Addi r rs imm → z ≡ moved_by_number (operand v c a rs) (unsigned imm) → IsRowFound v w c a i r z
  summed_found rs imm is same b wider = summed rs imm is (subst (IsWider b) same wider)

  pub shifted_found : (rs : ℕ) (imm : ℤ) → i ≡ Imm Slli r rs imm → z ≡ multiplied (operand v c a rs) (2 ^ (unsigned imm % 32)) → IsRowFound v w c a i r z
  shifted_found rs imm is same b wider = shifted rs imm is (subst (IsWider b) same wider)

  pub added_found : (rs1 rs2 : ℕ) → i ≡ Reg Add r rs1 rs2 → z ≡ sum_of_both (operand v c a rs1) (operand v c a rs2) → IsRowFound v w c a i r z
  added_found rs1 rs2 is same b wider = added rs1 rs2 is (subst (IsWider b) same wider)

  pub loaded_found : (k : ℕ) → IsLoadedTo w a i k r → z ≡ c.word a k → IsRowFound v w c a i r z
  loaded_found k is same b wider = loaded k is (subst (IsWider b) same wider)

  pub row_back_found : (t : Text) (to : ℕ) → IsRestored t v w a to r → z ≡ c.row a r → IsRowFoundBack t v w c a to r z
  row_back_found t to is same b wider = inr (is, subst (IsWider b) same wider)

module _ (v : Values) (w : Stacks) (c : WalkCertificate) (a : ℕ) (i : Instr) (k : ℕ) (z : Option Trace) where
  pub missed_found : IsMissed v w a i k → z ≡ c.word a k → IsWordFound v w c a i k z
  missed_found is same b wider = missed is (subst (IsWider b) same wider)

  pub stored_found : (r : ℕ) → IsStoredFrom w a i k r → z ≡ operand v c a r → IsWordFound v w c a i k z
  stored_found r is same b wider = stored r is (subst (IsWider b) same wider)

  pub word_back_found : (to : ℕ) → IsSafe v w a to k → z ≡ c.word a k → IsWordFoundBack v w c a to k z
  word_back_found to is same b wider = inr (is, subst (IsWider b) same wider)

-- ---- lists

-- of each one up to a place, and of the one there
pub one_so_far : {A : Type 0} (P : A → Type 0) (xs : List A) (n : ℕ) (x : A) → n < length xs → x ≡ get_or xs n x → P x → ((i : ℕ) (other : A) → i < n → P (get_or xs i other)) → (i : ℕ) (other : A) → i < n + 1 → P (get_or xs i other)
one_so_far P xs n x within is here before i other lt = ⊎_elim
    (λ (less : i < n). before i other less)
    (λ (rest : (i ≡ n) ⊎ (n < i)). ⊎_elim
    (λ (same : i ≡ n). subst (λ (k : ℕ). P (get_or xs k other)) (sym same) (subst P (is ∙ get_or_default xs n x other within) here))
    (λ (after : n < i). let bad : ⊥ = omega (arith, lt, after) in absurd bad)
    rest)
    (less_same_more i n)

-- what holds of each one holds of the one at a number
pub each_at : {A : Type 0} (P : A → Type 0) (xs : List A) (k : ℕ) (x : A) → slice_get xs k ≡ Some x → All P xs → P x
each_at P [] k x at all = let bad : ⊥ = cc in absurd bad
each_at P (y ∷ xs) zero x at all = let same : y ≡ x = cc in subst P same (all 0 y (omega arith))
each_at P (y ∷ xs) (suc k) x at all = each_at P xs k x at (λ j d lt. all (suc j) d (omega (arith, lt)))

-- ---- words

-- what holds of each word of which a row says something, and of those of which it says nothing, holds of each word
pub each_word : (P : ℕ → Option Trace → Type 0) → ((k : ℕ) → P k None) → (row : List WordTrace) → All (λ (x : WordTrace). P x.number (Some (trace_view x.trace))) row → (k : ℕ) → P k (word_in row k)
each_word P none [] all k = none k
each_word P none (x ∷ xs) all k = cond_both (x.number == k) (Some x) (find (λ (y : WordTrace). y.number == k) xs) (λ o. P k (option_map (λ (y : WordTrace). trace_view y.trace) o))
    (λ same. subst (λ n. P n (Some (trace_view x.trace))) (eqb-true x.number k same) (all 0 x (omega arith)))
    (λ other. each_word P none xs (λ j d lt. all (suc j) d (omega (arith, lt))) k)

-- ---- what a table says of itself

pub first_seen : (c : WalkCase) → (cert c).first ≡ place_view c.table.now.first
unfolding certificate_in
first_seen c = refl

pub second_seen : (c : WalkCase) → (cert c).second ≡ place_view c.table.now.second
unfolding certificate_in
second_seen c = refl

pub aim_seen : (c : WalkCase) (z : Option Trace) → ((nodes : List ℕ) → z ≡ aim (certificate_of nodes c.table.now)) → z ≡ aim (cert c)
unfolding certificate_in
aim_seen c z h = h c.claim.now.graph.now.code.nodes

pub moved_seen : (c : WalkCase) (x y : Option Trace) → ((nodes : List ℕ) → IsMoved (certificate_of nodes c.table.now) (pointer (certificate_of nodes c.table.now) x y)) → IsMoved (cert c) (pointer (cert c) x y)
unfolding certificate_in
moved_seen c x y h = h c.claim.now.graph.now.code.nodes

pub begun_seen : (c : WalkCase) (p : Place) (b z : Option Trace) → b ≡ z → ((nodes : List ℕ) → IsBegun (certificate_of nodes c.table.now) p b) → IsBegun (cert c) p z
unfolding certificate_in
begun_seen c p b z same h = subst (IsBegun (cert c) p) same (h c.claim.now.graph.now.code.nodes)

-- ---- the ground

pub beyond_at : (x y z : Arc) (gap : ℕ) → Some y ≡ Some z → IsBeyond x y gap → IsBeyond x z gap
beyond_at x y z gap same h = subst (λ q. IsBeyond x q gap) (some_is y z same) h

pub apart_at : (t : WalkTable) (k : ℕ) (y x : Arc) → Some y ≡ Some x → ((j : ℕ) → j < length t.ground.items → IsApartAt t k y j) → (j : ℕ) → j < length t.ground.items → IsApartAt t k x j
apart_at t k y x same h = subst (λ q. (j : ℕ) → j < length t.ground.items → IsApartAt t k q j) (some_is y x same) h

pub of_areas_in : (areas : ℕ → Option Arc) (t : WalkTable) (found : List Arc) → ((k : ℕ) → slice_get found k ≡ areas k) → All (λ (x : Arc). IsGrounded t x) found →
    ((k : ℕ) → k < length t.ground.items → IsApart t k) → (nodes : List ℕ) → IsOfAreas areas (certificate_of nodes t)
of_areas_in areas t found same held apart nodes = record {
  holds = λ k x at. each_at (λ (y : Arc). IsGrounded t y) found k x (same k ∙ at) held;
  apart = λ k j x y at there. apart k (slice_get_within t.ground.items k x at) x at j (slice_get_within t.ground.items j y there) y there;
}

pub ground_in : (areas : ℕ → Option Arc) (fixed : ℕ → Option ℕ) (t : WalkTable) → All (λ (x : Arc). IsShort t x) t.ground.items →
    ((nodes : List ℕ) → IsOfAreas areas (certificate_of nodes t) ⊎ IsOfFixed fixed (certificate_of nodes t)) → (nodes : List ℕ) → IsGround areas fixed (certificate_of nodes t)
ground_in areas fixed t short of nodes = record {
  short = λ k x at. each_at (λ (y : Arc). IsShort t y) t.ground.items k x at short;
  is = of nodes;
}

-- what has no sought number by some fixed bytes has none by the same ones in other words
idle_same : (f g : ℕ → Option ℕ) → ((at : ℕ) → f at ≡ g at) → (x : Sought) (at : ℕ) → IsBarren f (Some x) at → IsBarren g (Some x) at
idle_same f g same x at none whole bytes are = none whole bytes (λ y byte is. are y byte (sym (same y) ∙ is))

exact_step : (least spread step : ℕ) → spread ≡ 0 → least ≤ step → step ≤ least + spread → step ≡ least
exact_step least spread step none low high = omega (arith, none, low, high)

pub of_fixed_in : (fixed : ℕ → Option ℕ) (parts : List FixedPart) (t : WalkTable) → ((at : ℕ) → fixed_in parts at ≡ fixed at) → IsSearched parts t → (nodes : List ℕ) → IsOfFixed fixed (certificate_of nodes t)
of_fixed_in fixed parts t same s nodes = record {
  begins = λ at start place. ⊎_elim
      (λ (none : IsIdle parts s.sought at). inl (idle at none))
      (λ (q : (j : ℕ) × (y : Arc) × (slice_get t.ground.items j ≡ Some y) × IsIn y at). inr q) (s.begins at start place);
  goes_on = λ k x was step now at inside steps low high word place. ⊎_elim
      (λ (none : IsIdle parts s.sought now). inl (idle now none))
      (λ (there : IsIn x now). inr there)
      (each_at (λ (y : Arc). IsEnding parts s.sought t.least y) t.ground.items k x at s.ends was now inside
      (subst (λ (n : ℕ). now ≡ (was + n) % 2 ^ 32) (exact_step t.least t.spread step s.exact low high) (subst (λ (d : Bool). IsStep d was step now) s.up steps)) word);
}
  where
    sought_is : option_map sought_view t.sought ≡ Some (sought_view s.sought)
    sought_is = ap (option_map sought_view) s.sought_is

    idle : (at : ℕ) → IsIdle parts s.sought at → IsBarren fixed (option_map sought_view t.sought) at
    idle at none = subst (λ (o : Option Sought). IsBarren fixed o at) (sym sought_is) (idle_same (fixed_in parts) fixed same (sought_view s.sought) at none)

-- ---- turns

-- the sought of a table
pub sought_seen : (c : WalkCase) (o : Option tables.Sought) → c.table.now.sought ≡ o → (cert c).sought ≡ option_map sought_view o
unfolding certificate_in
sought_seen c o same = ap (option_map sought_view) same

pub start_seen : (c : WalkCase) (o : Option Arc) → c.table.now.start ≡ o → (cert c).start ≡ o
unfolding certificate_in
start_seen c o same = same

pub started_in : (c : WalkCase) (first second : Option Arc) → ((nodes : List ℕ) → Covers c.table.now.start (aimed_in (certificate_of nodes c.table.now) first second)) → Covers (cert c).start (aimed_in (cert c) first second)
unfolding certificate_in
started_in c first second h = h c.claim.now.graph.now.code.nodes

pub aims_in : (c : WalkCase) (k r more : ℕ) (x y z : Option Trace) → ((nodes : List ℕ) → x ≡ aim (certificate_of nodes c.table.now)) → y ≡ operand (values_in c.claim.now) (cert c) (address c.claim.now k) r → z ≡ moved_by_number y more →
    IsWider x z → IsWider (aim (cert c)) (moved_by_number (operand (values_in c.claim.now) (cert c) (address c.claim.now k) r) more)
aims_in c k r more x y z aims from same wider = subst (λ q. IsWider q (moved_by_number (operand (values_in c.claim.now) (cert c) (address c.claim.now k) r) more)) (aim_seen c x aims)
    (subst (IsWider x) (same ∙ ap (λ q. moved_by_number q more) from) wider)

pub placed_in : (c : WalkCase) (k r more : ℕ) → IsPlaced c k r more → Covers (cert c).place (sum_with (held ((values_in c.claim.now).at (address c.claim.now k)) r) more)
unfolding certificate_in
placed_in c k r more h = h

pub turn_over_in : (c : WalkCase) (k n : ℕ) (i : Instr) (x y : Option Trace) → IsPlaceFound (values_in c.claim.now) (stacks_in c.claim.now) (cert c) (address c.claim.now k) i (place_view c.table.now.first) x →
    IsPlaceFound (values_in c.claim.now) (stacks_in c.claim.now) (cert c) (address c.claim.now k) i (place_view c.table.now.second) y → IsWider x x → IsWider y y →
    ((nodes : List ℕ) → IsMoved (certificate_of nodes c.table.now) (pointer (certificate_of nodes c.table.now) x y)) → IsTouched (values_in c.claim.now) (cert c) (address c.claim.now k) i (address c.claim.now n) →
    IsTurnOver (values_in c.claim.now) (stacks_in c.claim.now) (cert c) (address c.claim.now k) i (address c.claim.now n)
turn_over_in c k n i x y first second same other moved touched = record {
  first = x;
  second = y;
  first_over = subst (λ (p : Place). IsPlaceOver (values_in c.claim.now) (stacks_in c.claim.now) (cert c) (address c.claim.now k) i p x) (sym (first_seen c)) (first x same);
  second_over = subst (λ (p : Place). IsPlaceOver (values_in c.claim.now) (stacks_in c.claim.now) (cert c) (address c.claim.now k) i p y) (sym (second_seen c)) (second y other);
  moved = moved_seen c x y moved;
  touched = touched;
}

pub turn_back_in : (c : WalkCase) (k h : ℕ) (x y : Option Trace) → IsPlaceFoundBack (text_in c.claim.now) (values_in c.claim.now) (stacks_in c.claim.now) (cert c) (address c.claim.now k) (address c.claim.now h) (place_view c.table.now.first) x →
    IsPlaceFoundBack (text_in c.claim.now) (values_in c.claim.now) (stacks_in c.claim.now) (cert c) (address c.claim.now k) (address c.claim.now h) (place_view c.table.now.second) y → IsWider x x → IsWider y y →
    ((nodes : List ℕ) → IsMoved (certificate_of nodes c.table.now) (pointer (certificate_of nodes c.table.now) x y)) → (cert c).touched (address c.claim.now k) ≡ true →
    IsTurnBack (text_in c.claim.now) (values_in c.claim.now) (stacks_in c.claim.now) (cert c) (address c.claim.now k) (address c.claim.now h)
turn_back_in c k h x y first second same other moved touched = record {
  first = x;
  second = y;
  first_back = subst (λ (p : Place). IsPlaceBack (text_in c.claim.now) (values_in c.claim.now) (stacks_in c.claim.now) (cert c) (address c.claim.now k) (address c.claim.now h) p x) (sym (first_seen c)) (first x same);
  second_back = subst (λ (p : Place). IsPlaceBack (text_in c.claim.now) (values_in c.claim.now) (stacks_in c.claim.now) (cert c) (address c.claim.now k) (address c.claim.now h) p y) (sym (second_seen c)) (second y other);
  moved = moved_seen c x y moved;
  touched = touched;
}

-- ---- edges and registers

pub led_so : (P : ℕ → Type 0) (c : StackClaim) (e n : ℕ) → (graph c.graph.now).target e ≡ slice_get c.graph.now.code.nodes n → P (address c n) → (b : ℕ) → (graph c.graph.now).target e ≡ Some b → P b
led_so P c e n target given b to = subst P (sym (address_is c n b (sym target ∙ to))) given

pub called_so : (P : ℕ → Type 0) (c : StackClaim) (e f h : ℕ) → (graph c.graph.now).callee e ≡ Some f → slice_get c.graph.now.code.nodes h ≡ Some ((graph c.graph.now).entry f) → P (address c h) →
    (d : ℕ) → (graph c.graph.now).callee e ≡ Some d → P ((graph c.graph.now).entry d)
called_so P c e f h callee at given d to = subst (λ (x : ℕ). P ((graph c.graph.now).entry x)) (some_is f d (sym callee ∙ to)) (subst P (sym (address_is c h ((graph c.graph.now).entry f) at)) given)

pub register_more : (P : ℕ → Type 0) (n : ℕ) → ((r : ℕ) → IsRegister r → r < n → P r) → P n → (r : ℕ) → IsRegister r → r < n + 1 → P r
register_more P n below here r register lt = ⊎_elim
    (λ (before : r < n). below r register before)
    (λ (rest : (r ≡ n) ⊎ (n < r)). ⊎_elim
    (λ (same : r ≡ n). subst P (sym same) here)
    (λ (after : n < r). let bad : ⊥ = omega (arith, lt, after) in absurd bad)
    rest)
    (less_same_more r n)

pub each_register : (P : ℕ → Type 0) (n : ℕ) → 32 ≤ n → ((r : ℕ) → IsRegister r → r < n → P r) → (r : ℕ) → IsRegister r → P r
each_register P n enough below r register = below r register (let small : r < 32 = register.1 in omega (arith, enough, small))

pub edge_so : (c : WalkCase) (e k : ℕ) → slice_get c.claim.now.graph.now.code.nodes k ≡ Some ((graph c.claim.now.graph.now).source e) →
    ((b : ℕ) → (graph c.claim.now.graph.now).target e ≡ Some b → (cert c).quiet (address c.claim.now k) ≡ true → (cert c).quiet b ≡ true) →
    ((f : ℕ) → (graph c.claim.now.graph.now).callee e ≡ Some f → (cert c).quiet (address c.claim.now k) ≡ true → (cert c).quiet ((graph c.claim.now.graph.now).entry f) ≡ true) →
    ((values_in c.claim.now).live (address c.claim.now k) ≡ true → IsLiveSo c (graph c.claim.now.graph.now) (address c.claim.now k) e) → IsEdgeWalked c (graph c.claim.now.graph.now) e
edge_so c e k at along called live = record {
  quiet_along = subst (λ (a : ℕ). (b : ℕ) → (graph c.claim.now.graph.now).target e ≡ Some b → (cert c).quiet a ≡ true → (cert c).quiet b ≡ true) source along;
  quiet_calls = subst (λ (a : ℕ). (f : ℕ) → (graph c.claim.now.graph.now).callee e ≡ Some f → (cert c).quiet a ≡ true → (cert c).quiet ((graph c.claim.now.graph.now).entry f) ≡ true) source called;
  live = subst (λ (a : ℕ). (values_in c.claim.now).live a ≡ true → IsLiveSo c (graph c.claim.now.graph.now) a e) source live;
}
  where
    source : address c.claim.now k ≡ (graph c.claim.now.graph.now).source e
    source = sym (address_is c.claim.now k ((graph c.claim.now.graph.now).source e) at)

-- the header is at one number alone
pub header_number : (c : WalkCase) → IsWalkCase c → (n : ℕ) → n < length c.claim.now.graph.now.code.nodes → address c.claim.now n ≡ c.note.now.header → n ≡ c.header
header_number c is n lt same = once c.claim.now.graph.now is.claim.graph_is.flow n c.header (address c.claim.now n) (there c.claim.now n lt)
    (there c.claim.now c.header is.header ∙ ap Some (is.header_is ∙ sym same))

pub case_in : (c : WalkCase) → IsStackClaim c.claim.now → slice_get c.claim.now.graph.now.code.nodes c.header ≡ Some c.note.now.header → AreWalks c.claim.now.graph.now.code.nodes c.table.now → IsWalkCase c
case_in c is at sized = record {
  claim = is;
  header = slice_get_within c.claim.now.graph.now.code.nodes c.header c.note.now.header at;
  header_is = sym (address_is c.claim.now c.header c.note.now.header at);
  sized = sized;
}
