-- What a table says of itself, and what is to show, case by case.
use Rattle.std.proofs.Common.{◌≡◌, ℕ, ◌<◌, ◌+◌, ◌≤◌, ◌⊎◌, ⊎_elim, true, List, length, Option, Some, refl, sym, ap, ◌∙◌, subst, arith}
use Rattle.std.specs.Prelude.{slice_get}
use Rattle.std.proofs.lemmas.Option.{slice_get_within}
use Rattle.scale_base.specs.declared.instruction.Instr.{Instr}
use Rattle.bound_laws.specs.Values.{Arc, IsRegister}
use Rattle.flow_graph.specs.FlowGraph.{graph}
use Rattle.flow_graph.proofs.Laws.{less_same_more, some_is}
use Rattle.stack_tables.specs.declared.claims.StackClaim.{StackClaim}
use Rattle.value_checks.proofs.Laws.{once}
use Rattle.stack_tables.specs.Tables.{address, stacks_in, text_in, values_in, IsStackClaim}
use Rattle.stack_tables.proofs.Laws.{address_is}
use Rattle.turn_laws.specs.Relating.{Place, Relation, is_halving, IsBegun, IsFilled, IsOwnBack, IsOwnOn, IsPlaceBack, IsPlaceOn, IsStarted, IsStartedIn, IsTurnBack, IsTurnOver, IsTurned, IsUsed}
use Rattle.turn_laws.specs.Relating.Relation.{unknown}
use Rattle.turn_laws.specs.Relating.Place.{in_register}
use Rattle.turn_laws.specs.Relating.Kind.{lowers}
use Rattle.turn_checks.specs.declared.tables.Relation as tables
use Rattle.turn_checks.specs.declared.tables.TurnTable.{TurnTable}
use Rattle.turn_checks.specs.declared.tables.TurnCase.{TurnCase}
use Rattle.turn_checks.specs.Turned.{cert, certificate_in, certificate_of, kind_view, place_view, relation_view, AreTurns, IsEdgeTurned, IsLiveSo, IsTurnCase}
use Rattle.turn_checks.proofs.Seen.{there}

pub place_seen : (c : StackClaim) (t : TurnTable) → (certificate_in c t).place ≡ place_view t.place
unfolding certificate_in
place_seen c t = refl

pub kind_seen : (c : StackClaim) (t : TurnTable) → (certificate_in c t).kind ≡ kind_view t.kind
unfolding certificate_in
kind_seen c t = refl

pub turned_seen : (c : StackClaim) (t : TurnTable) (p : Relation) → ((nodes : List ℕ) → IsTurned (certificate_of nodes t) (kind_view t.kind) p) → IsTurned (certificate_in c t) (certificate_in c t).kind p
unfolding certificate_in
turned_seen c t p h = h c.graph.now.code.nodes

pub started_seen : (c : StackClaim) (t : TurnTable) (i j : Option Arc) → i ≡ j → ((nodes : List ℕ) → IsStarted (certificate_of nodes t) (kind_view t.kind) i) → IsStarted (certificate_in c t) (certificate_in c t).kind j
unfolding certificate_in
started_seen c t i j same h = subst (λ k. IsStarted (certificate_in c t) (certificate_in c t).kind k) same (h c.graph.now.code.nodes)

pub filled_seen : (c : StackClaim) (t : TurnTable) (most : Option ℕ) → (kind_view t.kind ≡ lowers) × IsFilled most t.width → ((certificate_in c t).kind ≡ lowers) × IsFilled most (certificate_in c t).width
unfolding certificate_in
filled_seen c t most h = h

-- ---- edges and registers

pub led_so : (P : ℕ → Type 0) (c : StackClaim) (e n : ℕ) → (graph c.graph.now).target e ≡ slice_get c.graph.now.code.nodes n → P (address c n) → (b : ℕ) → (graph c.graph.now).target e ≡ Some b → P b
led_so P c e n target given b to = subst P (sym (address_is c n b (sym target ∙ to))) given

pub called_so : (P : ℕ → Type 0) (c : StackClaim) (e f h : ℕ) → (graph c.graph.now).callee e ≡ Some f → slice_get c.graph.now.code.nodes h ≡ Some ((graph c.graph.now).entry f) → P (address c h) →
    (d : ℕ) → (graph c.graph.now).callee e ≡ Some d → P ((graph c.graph.now).entry d)
called_so P c e f h callee at given d to = subst (λ (x : ℕ). P ((graph c.graph.now).entry x)) (some_is f d (sym callee ∙ to)) (subst P (sym (address_is c h ((graph c.graph.now).entry f) at)) given)

pub register_more : (P : ℕ → Type 0) (n : ℕ) → ((r : ℕ) → IsRegister r → r < n → P r) → P n → (r : ℕ) → IsRegister r → r < n + 1 → P r
register_more P n below here r register lt = ⊎_elim
    (λ (before : r < n). below r register before)
    (λ (rest : (r ≡ n) ⊎ (n < r)). ⊎_elim
    (λ (same : r ≡ n). subst P (sym same) here)
    (λ (after : n < r). let bad : ⊥ = omega (arith, lt, after) in absurd bad)
    rest)
    (less_same_more r n)

pub each_register : (P : ℕ → Type 0) (n : ℕ) → 32 ≤ n → ((r : ℕ) → IsRegister r → r < n → P r) → (r : ℕ) → IsRegister r → P r
each_register P n enough below r register = below r register (let small : r < 32 = register.1 in omega (arith, enough, small))

pub edge_so : (c : TurnCase) (e k : ℕ) → slice_get c.claim.now.graph.now.code.nodes k ≡ Some ((graph c.claim.now.graph.now).source e) →
    ((b : ℕ) → (graph c.claim.now.graph.now).target e ≡ Some b → (cert c).quiet (address c.claim.now k) ≡ true → (cert c).quiet b ≡ true) →
    ((f : ℕ) → (graph c.claim.now.graph.now).callee e ≡ Some f → (cert c).quiet (address c.claim.now k) ≡ true → (cert c).quiet ((graph c.claim.now.graph.now).entry f) ≡ true) →
    ((values_in c.claim.now).live (address c.claim.now k) ≡ true → IsLiveSo c (graph c.claim.now.graph.now) (address c.claim.now k) e) → IsEdgeTurned c (graph c.claim.now.graph.now) e
edge_so c e k at along called live = record {
  quiet_along = subst (λ (a : ℕ). (b : ℕ) → (graph c.claim.now.graph.now).target e ≡ Some b → (cert c).quiet a ≡ true → (cert c).quiet b ≡ true) source along;
  quiet_calls = subst (λ (a : ℕ). (f : ℕ) → (graph c.claim.now.graph.now).callee e ≡ Some f → (cert c).quiet a ≡ true → (cert c).quiet ((graph c.claim.now.graph.now).entry f) ≡ true) source called;
  live = subst (λ (a : ℕ). (values_in c.claim.now).live a ≡ true → IsLiveSo c (graph c.claim.now.graph.now) a e) source live;
}
  where
    source : address c.claim.now k ≡ (graph c.claim.now.graph.now).source e
    source = sym (address_is c.claim.now k ((graph c.claim.now.graph.now).source e) at)

-- the header is at one number alone
pub header_number : (c : TurnCase) → IsTurnCase c → (n : ℕ) → n < length c.claim.now.graph.now.code.nodes → address c.claim.now n ≡ c.note.now.header → n ≡ c.header
header_number c is n lt same = once c.claim.now.graph.now is.claim.graph_is.flow n c.header (address c.claim.now n) (there c.claim.now n lt)
    (there c.claim.now c.header is.header ∙ ap Some (is.header_is ∙ sym same))

pub used_at_header : (c : TurnCase) → IsTurnCase c → (k : ℕ) (i : Instr) → IsUsed (values_in c.claim.now) (cert c) (address c.claim.now k) i (address c.claim.now c.header) → IsUsed (values_in c.claim.now) (cert c) (address c.claim.now k) i c.note.now.header
used_at_header c is k i used = subst (λ (b : ℕ). IsUsed (values_in c.claim.now) (cert c) (address c.claim.now k) i b) is.header_is used

pub turn_over_in : (c : TurnCase) → IsTurnCase c → (k : ℕ) (i : Instr) → IsPlaceOn (values_in c.claim.now) (stacks_in c.claim.now) (cert c) (address c.claim.now k) i (address c.claim.now c.header) (place_view c.table.now.place) (relation_view c.table.now.end) →
    ((nodes : List ℕ) → IsTurned (certificate_of nodes c.table.now) (kind_view c.table.now.kind) (relation_view c.table.now.end)) →
    (is_halving (kind_view c.table.now.kind) ≡ true → IsUsed (values_in c.claim.now) (cert c) (address c.claim.now k) i c.note.now.header) →
    IsTurnOver (values_in c.claim.now) (stacks_in c.claim.now) (cert c) (address c.claim.now k) i c.note.now.header
turn_over_in c is k i place turned used = (
  (
    relation_view c.table.now.end,
    subst (λ (b : ℕ). IsPlaceOn (values_in c.claim.now) (stacks_in c.claim.now) (cert c) (address c.claim.now k) i b (cert c).place (relation_view c.table.now.end)) is.header_is
        (subst (λ (p : Place). IsPlaceOn (values_in c.claim.now) (stacks_in c.claim.now) (cert c) (address c.claim.now k) i (address c.claim.now c.header) p (relation_view c.table.now.end)) (sym (place_seen c.claim.now c.table.now)) place),
    turned_seen c.claim.now c.table.now (relation_view c.table.now.end) turned,
  ),
  λ half. used (sym (ap is_halving (kind_seen c.claim.now c.table.now)) ∙ half),
)

pub turn_back_in : (c : TurnCase) (k h : ℕ) → IsPlaceBack (text_in c.claim.now) (values_in c.claim.now) (stacks_in c.claim.now) (cert c) (address c.claim.now k) (address c.claim.now h) (place_view c.table.now.place) (relation_view c.table.now.end) →
    ((nodes : List ℕ) → IsTurned (certificate_of nodes c.table.now) (kind_view c.table.now.kind) (relation_view c.table.now.end)) →
    (is_halving (kind_view c.table.now.kind) ≡ true → (cert c).used (address c.claim.now k) ≡ true) →
    IsTurnBack (text_in c.claim.now) (values_in c.claim.now) (stacks_in c.claim.now) (cert c) (address c.claim.now k) (address c.claim.now h)
turn_back_in c k h place turned used = (
  (
    relation_view c.table.now.end,
    subst (λ (p : Place). IsPlaceBack (text_in c.claim.now) (values_in c.claim.now) (stacks_in c.claim.now) (cert c) (address c.claim.now k) (address c.claim.now h) p (relation_view c.table.now.end)) (sym (place_seen c.claim.now c.table.now)) place,
    turned_seen c.claim.now c.table.now (relation_view c.table.now.end) turned,
  ),
  λ half. used (sym (ap is_halving (kind_seen c.claim.now c.table.now)) ∙ half),
)

pub own_over_in : (c : TurnCase) (k : ℕ) (i : Instr) (n : ℕ) → IsOwnOn (values_in c.claim.now) (stacks_in c.claim.now) (cert c) (address c.claim.now k) i (address c.claim.now n) (place_view c.table.now.place) ((cert c).own (address c.claim.now n)) →
    IsOwnOn (values_in c.claim.now) (stacks_in c.claim.now) (cert c) (address c.claim.now k) i (address c.claim.now n) (cert c).place ((cert c).own (address c.claim.now n))
own_over_in c k i n own = subst (λ (p : Place). IsOwnOn (values_in c.claim.now) (stacks_in c.claim.now) (cert c) (address c.claim.now k) i (address c.claim.now n) p ((cert c).own (address c.claim.now n))) (sym (place_seen c.claim.now c.table.now)) own

pub own_back_in : (c : TurnCase) (k h n : ℕ) (b : tables.Relation) → relation_view b ≡ (cert c).own (address c.claim.now n) →
    IsOwnBack (values_in c.claim.now) (stacks_in c.claim.now) (cert c) (address c.claim.now k) (address c.claim.now h) (place_view c.table.now.place) (relation_view b) →
    IsOwnBack (values_in c.claim.now) (stacks_in c.claim.now) (cert c) (address c.claim.now k) (address c.claim.now h) (cert c).place ((cert c).own (address c.claim.now n))
own_back_in c k h n b same own =
    subst (λ (p : Place). IsOwnBack (values_in c.claim.now) (stacks_in c.claim.now) (cert c) (address c.claim.now k) (address c.claim.now h) p ((cert c).own (address c.claim.now n))) (sym (place_seen c.claim.now c.table.now))
    (subst (λ (q : Relation). IsOwnBack (values_in c.claim.now) (stacks_in c.claim.now) (cert c) (address c.claim.now k) (address c.claim.now h) (place_view c.table.now.place) q) same own)

pub rows_begun_in : (c : TurnCase) → ((r : ℕ) → IsRegister r → ((cert c).row (address c.claim.now c.header) r ≡ unknown) ⊎ ((place_view c.table.now.place ≡ in_register r) × IsBegun ((cert c).row (address c.claim.now c.header) r))) →
    (r : ℕ) → IsRegister r → ((cert c).row (address c.claim.now c.header) r ≡ unknown) ⊎ (((cert c).place ≡ in_register r) × IsBegun ((cert c).row (address c.claim.now c.header) r))
rows_begun_in c rows = subst (λ (p : Place). (r : ℕ) → IsRegister r → ((cert c).row (address c.claim.now c.header) r ≡ unknown) ⊎ ((p ≡ in_register r) × IsBegun ((cert c).row (address c.claim.now c.header) r)))
    (sym (place_seen c.claim.now c.table.now)) rows

pub started_in : (c : TurnCase) → IsStartedIn (values_in c.claim.now) (stacks_in c.claim.now) c.most (cert c) (address c.claim.now c.header) (place_view c.table.now.place) →
    IsStartedIn (values_in c.claim.now) (stacks_in c.claim.now) c.most (cert c) (address c.claim.now c.header) (cert c).place
started_in c h = subst (λ (p : Place). IsStartedIn (values_in c.claim.now) (stacks_in c.claim.now) c.most (cert c) (address c.claim.now c.header) p) (sym (place_seen c.claim.now c.table.now)) h

pub case_in : (c : TurnCase) → IsStackClaim c.claim.now → slice_get c.claim.now.graph.now.code.nodes c.header ≡ Some c.note.now.header → AreTurns c.claim.now.graph.now.code.nodes c.table.now → IsTurnCase c
case_in c is at sized = record {
  claim = is;
  header = slice_get_within c.claim.now.graph.now.code.nodes c.header c.note.now.header at;
  header_is = sym (address_is c.claim.now c.header c.note.now.header at);
  sized = sized;
}
