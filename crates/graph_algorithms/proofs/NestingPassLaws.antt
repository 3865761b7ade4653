-- What one loop changes in a pass.
use Rattle.std.proofs.Common.{true, false, ◌≡◌, ◌≢◌, ℕ, ◌+◌, ◌<◌, List, length, Option, Some, None, ◌⊎◌, inl, inr, arith, subst, sym, ap, ◌∙◌, slice_set, length-set, get_or-set_same, get_or-set_other, get_or, [], Vec}
use Rattle.std.proofs.Math.Logic.{⊎_elim}
use Rattle.std.proofs.Math.Dec.{eqb}
use Rattle.std.proofs.lemmas.Bool.Decides.{eqb_tells}
use Rattle.std.specs.List.{Contains}
use Rattle.std.proofs.lemmas.List.{get_or_default, get_or-map, length-map}
use Rattle.std.specs.declared.alloc.Global.{Global}
use Rattle.graph_algorithms.specs.declared.nesting.ranks.Rank.{Rank}
use Rattle.graph_algorithms.specs.Nesting.{bodies_of, HasNode, AreLoops, IsNesting, IsParentBody, body_at, header_in_list, found_at}
use Rattle.graph_algorithms.specs.NestingPass.{AreFalling, IsLastRank, IsNestingPass, ArePut, IsAmong, rank_at}
use Rattle.graph_algorithms.proofs.NestingLaws.{innermost_found, parent_found, next_at_header}

pub below_next : (j n : ℕ) → j < n + 1 → (j < n) ⊎ (j ≡ n)
below_next j n h = grind arith

-- a loop without the node changes nothing
pub last_stays : (bodies : List (List ℕ)) (ranks : List Rank) (done v : ℕ) (o : Option ℕ) → IsLastRank bodies ranks done v o → (HasNode bodies (rank_at ranks done).number v → ⊥) → IsLastRank bodies ranks (done + 1) v o
last_stays bodies ranks done v None last none = λ j lt has. ⊎_elim
    (λ (below : j < done). last j below has)
    (λ (same : j ≡ done). none (subst (λ i. HasNode bodies (rank_at ranks i).number v) same has))
    (below_next j done lt)
last_stays bodies ranks done v (Some l) last none = (
  last.0,
  omega (arith, last.1),
  last.2,
  last.3,
  λ j lt has. ⊎_elim
      (λ (below : j < done). last.4 j below has)
      (λ (same : j ≡ done). absurd (none (subst (λ i. HasNode bodies (rank_at ranks i).number v) same has)))
      (below_next j done lt),
)

-- a loop with the node is the last one
pub last_here : (bodies : List (List ℕ)) (ranks : List Rank) (done v l : ℕ) → (rank_at ranks done).number ≡ l → HasNode bodies l v → IsLastRank bodies ranks (done + 1) v (Some l)
last_here bodies ranks done v l at has = (done, omega arith, at, has, λ j lt _. omega (arith, lt))

-- the pass after one more loop
pub pass_more : (bodies : List (List ℕ)) (headers : List ℕ) (count : ℕ) (ranks : List Rank) (done l : ℕ) (innermost new parent : List (Option ℕ)) →
    AreFalling bodies ranks → AreLoops bodies headers count → done < length ranks → (rank_at ranks done).number ≡ l → length innermost ≡ count → length new ≡ length innermost →
    IsNestingPass bodies headers ranks done innermost parent → ArePut innermost new (body_at bodies l) (length (body_at bodies l)) l →
    IsNestingPass bodies headers ranks (done + 1) new (slice_set parent l (found_at innermost (header_in_list headers l)))
pass_more bodies headers count ranks done l innermost new parent f loops dl at nodes size pass put =
    let ll : l < length bodies = subst (λ x. x < length bodies) at (f.within done dl) in
    let h = header_in_list headers l in
    let hl : h < length innermost = (let lt = loops.within l h (loops.headed l ll) in omega (arith, nodes, lt)) in
    let pl : l < length parent = omega (arith, ll, pass.loops) in
    record {
      loops = length-set parent _ _ ∙ pass.loops;
      last = λ v vl.
          let ol : v < length innermost = omega (arith, vl, size) in
          ⊎_elim
          (λ (here : IsAmong (body_at bodies l) (length (body_at bodies l)) v × (found_at new v ≡ Some l)).
          subst (λ o. IsLastRank bodies ranks (done + 1) v o) (sym here.1) (last_here bodies ranks done v l at (ll, here.0)))
          (λ (there : (IsAmong (body_at bodies l) (length (body_at bodies l)) v → ⊥) × (found_at new v ≡ found_at innermost v)).
          subst (λ o. IsLastRank bodies ranks (done + 1) v o) (sym there.1)
          (last_stays bodies ranks done v (found_at innermost v) (pass.last v ol) (λ has. there.0 (subst (λ x. HasNode bodies x v) at has).1)))
          (put v ol);
      next = λ j lt. ⊎_elim
          (λ (below : j < done).
          let other : (rank_at ranks j).number ≢ l = λ e. f.distinct j done below dl (e ∙ sym at) in
          subst (λ o. IsLastRank bodies ranks j (header_in_list headers (rank_at ranks j).number) o) (sym (get_or-set_other parent l (rank_at ranks j).number (found_at innermost h) None other)) (pass.next j below))
          (λ (same : j ≡ done).
          let e : (rank_at ranks j).number ≡ l = ap (λ i. (rank_at ranks i).number) same ∙ at in
          subst (λ x. IsLastRank bodies ranks j (header_in_list headers x) (found_at (slice_set parent l (found_at innermost h)) x)) (sym e)
          (subst (λ o. IsLastRank bodies ranks j h o) (sym (get_or-set_same parent l (found_at innermost h) None pl))
          (subst (λ i. IsLastRank bodies ranks i h (found_at innermost h)) (sym same) (pass.last h hl))))
          (below_next j done lt);
    }

-- a loop is written at one more node of its body
pub put_more : (old now : List (Option ℕ)) (body : List ℕ) (i number node : ℕ) → i < length body → node ≡ get_or body i 0 → length now ≡ length old → ArePut old now body i number → ArePut old (slice_set now node (Some number)) body (i + 1) number
put_more old now body i number node il read size put v vl = ⊎_elim
    (λ (same : (eqb v node ≡ true) × (v ≡ node)).
    let nl : node < length now = (let e = same.1 in omega (arith, vl, size, e)) in
    let at : get_or body i v ≡ v = get_or_default body i v 0 il ∙ sym read ∙ sym same.1 in
    inl ((i, (let lt : i < i + 1 = omega arith in lt), at), ap (λ x. found_at (slice_set now node (Some number)) x) same.1 ∙ get_or-set_same now node (Some number) None nl))
    (λ (other : (eqb v node ≡ false) × (v ≢ node)).
    let kept : found_at (slice_set now node (Some number)) v ≡ found_at now v = get_or-set_other now node v (Some number) None other.1 in
    ⊎_elim
    (λ (here : IsAmong body i v × (found_at now v ≡ Some number)).
    inl ((here.0.0, (let lt : here.0.0 < i + 1 = omega (arith, here.0.1) in lt), here.0.2), kept ∙ here.1))
    (λ (there : (IsAmong body i v → ⊥) × (found_at now v ≡ found_at old v)).
    inr (
      (λ (among : IsAmong body (i + 1) v). ⊎_elim
          (λ (below : among.0 < i). there.0 (among.0, below, among.2))
          (λ (last : among.0 ≡ i). other.1 (sym (subst (λ k. get_or body k v ≡ v) last among.2) ∙ get_or_default body i v 0 il ∙ sym read))
          (below_next among.0 i among.1)),
      kept ∙ there.1,
    ))
    (put v vl))
    (eqb_tells v node)

-- each node of a body can be written
pub node_within : (body : List ℕ) (i size : ℕ) → i < length body → ((v : ℕ) → Contains body v → v < size) → get_or body i 0 < size
node_within body i size il within = within (get_or body i 0) (i, il, get_or_default body i (get_or body i 0) 0 il)

-- the body that an index reads
pub body_read : (bodies : List (Vec ℕ Global)) (l : ℕ) (d body : Vec ℕ Global) → l < length (bodies_of bodies) → body ≡ get_or bodies l d → body.items ≡ body_at (bodies_of bodies) l
body_read bodies l d body lt is =
    let inside : l < length bodies = (let e = length-map bodies (λ (body : Vec ℕ Global). body.items) in omega (arith, lt, e)) in
    ap (λ (body : Vec ℕ Global). body.items) is ∙ sym (get_or-map (λ (body : Vec ℕ Global). body.items) bodies l d [] inside)

-- the header of the loop at a place is a node
pub header_within : (bodies : List (List ℕ)) (headers : List ℕ) (count : ℕ) (ranks : List Rank) (i : ℕ) → AreLoops bodies headers count → AreFalling bodies ranks → i < length ranks → header_in_list headers (rank_at ranks i).number < count
header_within bodies headers count ranks i loops f il = loops.within _ _ (loops.headed _ (f.within i il))

-- the pass over all loops gives their nesting
pub nesting_found : (bodies : List (List ℕ)) (headers : List ℕ) (count : ℕ) (ranks : List Rank) (done : ℕ) (innermost parent : List (Option ℕ)) →
    AreLoops bodies headers count → AreFalling bodies ranks → done ≡ length ranks → length innermost ≡ count → IsNestingPass bodies headers ranks done innermost parent →
    IsNesting bodies headers count (record { innermost = innermost; parent = parent })
nesting_found bodies headers count ranks done innermost parent loops f all nodes pass = record {
  nodes = nodes;
  loops = pass.loops;
  innermost = λ v vl. innermost_found bodies ranks v f loops.nested (found_at innermost v) (subst (λ n. IsLastRank bodies ranks n v (found_at innermost v)) all (pass.last v (omega (arith, vl, nodes))));
  parent = parents;
  at_header = λ outer l ll. next_at_header bodies headers count l loops outer ll (found_at parent l) (parents l ll);
}
  where
    parents : (l : ℕ) → l < length bodies → IsParentBody bodies l (found_at parent l)
    parents l ll =
        let at = f.whole l ll in
        let last : IsLastRank bodies ranks at.0 (header_in_list headers l) (found_at parent l) = subst (λ x. IsLastRank bodies ranks at.0 (header_in_list headers x) (found_at parent x)) at.2 (pass.next at.0 (let il = at.1 in omega (arith, il, all))) in
        parent_found bodies headers count ranks at.0 l f loops at.1 at.2 ll (found_at parent l) last
