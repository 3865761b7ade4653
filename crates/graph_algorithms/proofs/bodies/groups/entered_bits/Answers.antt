use Rattle.std.proofs.Common.{rules, arith, refl, ℕ, ◌<◌, ◌^◌, sym, subst}
use Rattle.graph_algorithms.specs.Groups.{HasBit, IsFlagged}
use Rattle.graph_algorithms.proofs.EdgeLaws.{place, place_less}
use Rattle.graph_algorithms.proofs.EntryLaws.{IsPassedBy, by_start, by_next, by_end, edge_of}
use Rattle.graph_algorithms.proofs.BitLaws.{no_bit}
use Rattle.graph_algorithms.proofs.GroupLaws.{entered_sound, entered_kept, entered_here}
use Rattle.graph_algorithms.proofs.bodies.groups.entered_bits.Goals as goal

pub loop-next-init : goal.loop-next-init
loop-next-init c = record {
  edge = λ e is. let b = c.last-next.ensures.place e is in b;
  sound = λ i h. absurd (no_bit i h);
  passed = by_start c.args.edges.now.sources c.args.edges.now.targets c.args.node (λ v. (i : ℕ) → HasBit c.args.bits i → (IsFlagged c.args.bodies.now v i → ⊥) → HasBit 0 i) c.last-next.result c.last-next.ensures;
}

pub source-requires : goal.source-requires
source-requires c = (c.loop-next.invariant.edge c.in-Some.edge c.in-Some.is).0

pub before-next-requires : goal.before-next-requires
before-next-requires c = (c.loop-next.invariant.edge c.in-Some.edge c.in-Some.is).0

pub loop-next-smaller : goal.loop-next-smaller
loop-next-smaller c =
    let key = (c.loop-next.invariant.edge c.in-Some.edge c.in-Some.is).1 in
    subst (λ o. place c.before-next.result < place o) (sym c.in-Some.is)
    (place_less c.before-next.result c.in-Some.edge (λ r e. ((c.before-next.ensures c.args.node key).place r e).0))

pub loop-next-preserved : goal.loop-next-preserved
loop-next-preserved c =
    let edges = c.args.edges.now in
    let sources = c.args.edges.now.sources in
    let targets = c.args.edges.now.targets in
    let bodies = c.args.bodies.now in
    let node = c.args.node in
    let bits = c.args.bits in
    let was = c.loop-next.entered in
    let source = c.source.result in
    let within = (c.loop-next.invariant.edge c.in-Some.edge c.in-Some.is).0 in
    let key = (c.loop-next.invariant.edge c.in-Some.edge c.in-Some.is).1 in
    let before = c.before-next.ensures node key in
    let small : c.args.bits < 2 ^ 64 = search rules in
    let low = (c.type_inv.bodies c.source.result).fits in
    record {
      edge = λ e is. let b = before.place e is in let lt = b.0 in (omega arith, b.1);
      sound = entered_sound edges bodies node bits was source _ small low refl (edge_of sources targets node c.in-Some.edge source key c.source.ensures.source) c.loop-next.invariant.sound;
      passed = by_next sources targets node (λ v. (i : ℕ) → HasBit c.args.bits i → (IsFlagged c.args.bodies.now v i → ⊥) → HasBit c.loop-next.entered i) _ c.in-Some.edge source c.before-next.result
          (λ v on i h none. entered_kept edges bodies node bits was source _ small low refl i (on i h none)) c.source.ensures.source (entered_here edges bodies node bits was source _ small low refl) before
          (subst (λ o. IsPassedBy c.args.edges.now.sources c.args.edges.now.targets c.args.node (λ v. (i : ℕ) → HasBit c.args.bits i → (IsFlagged c.args.bodies.now v i → ⊥) → HasBit c.loop-next.entered i) o) c.in-Some.is c.loop-next.invariant.passed);
    }

pub returns : goal.returns
returns c i = (
  c.loop-next.invariant.sound i,
  λ h. by_end c.args.edges.now.sources c.args.edges.now.targets c.args.node (λ v. (i : ℕ) → HasBit c.args.bits i → (IsFlagged c.args.bodies.now v i → ⊥) → HasBit c.loop-next.entered i) c.loop-next.next c.in_default.is c.loop-next.invariant.passed h.1.0 h.1.1 i h.0 h.1.2,
)
