use Rattle.std.proofs.Common.{◌≡◌, ◌+◌, ◌<◌, length, sym, ap, ◌∙◌, subst, arith}
use Rattle.std.specs.Prelude.{slice_get}
use Rattle.std.proofs.lemmas.Bool.{false_from_ne_true}
use Rattle.paced_images.specs.Flags.{AreRaised}
use Rattle.paced_images.specs.Wanted.{names_some}
use Rattle.paced_images.proofs.FlagLists.{named_at, raised_none, raised_here, raised_not, raised_all}
use Rattle.paced_images.proofs.wanted.raise.Goals as goal
use Rattle.paced_images.proofs.wanted.raise.Goals.{then-names, else-names}

pub loop-e-init : goal.loop-e-init
loop-e-init c =
    raised_none c.args.graph.now c.args.site c.edges_at-first.result.0 c.args.flags.now.items (λ e lt low. false_from_ne_true (names_some c.args.site (slice_get c.args.graph.now.code.edges e)) (λ on.
    let in_row = (c.edges_at-first.ensures.edges e (let size = c.requires in omega (arith, size, lt))).0 (named_at c.args.site (slice_get c.args.graph.now.code.edges e) on) in
    let from = in_row.0 in omega (arith, from, low)))

pub loop-e-preserved : goal.loop-e-preserved
loop-e-preserved c =
    let v = c.args.graph.now in
    let old = c.args.flags.now.items in
    let within : c.loop-e.e < length c.args.flags.now.items = (let size = c.requires in let row = c.edges_at-first.ensures.within in let test = c.loop-e-test.true in omega (arith, size, row, test)) in
    let same : c.names.result ≡ names_some c.args.site (slice_get c.args.graph.now.code.edges c.loop-e.e) = c.names.ensures ∙ sym (ap (names_some c.args.site) c.edge.ensures) in
    elim c.if-names.branch [
      | then-names w ↦ subst (λ (x : _). AreRaised c.args.graph.now c.args.site (c.loop-e.e + 1) c.args.flags.now.items x.items) (sym w.flags-is)
          (raised_here v c.args.site c.loop-e.e old c.loop-e.flags.items within (sym same ∙ w.if-names.true) c.loop-e.invariant)
      | else-names w ↦ subst (λ (x : _). AreRaised c.args.graph.now c.args.site (c.loop-e.e + 1) c.args.flags.now.items x.items) (sym w.flags-is)
          (raised_not v c.args.site c.loop-e.e old c.loop-e.flags.items (sym same ∙ w.if-names.false) c.loop-e.invariant)
    ]

pub returns : goal.returns
returns c =
    raised_all c.args.graph.now c.args.site c.loop-e.e (length c.args.graph.now.code.edges) c.args.flags.now.items c.loop-e.flags.items
    (λ e lt on.
    let size = c.requires in
    let in_row = (c.edges_at-first.ensures.edges e (omega (arith, size, lt))).0 (named_at c.args.site (slice_get c.args.graph.now.code.edges e) on) in
    let below = in_row.1 in
    let test = c.loop-e-test.false in
    (omega (arith, below, test), omega (arith, size, lt)))
    c.loop-e.invariant
