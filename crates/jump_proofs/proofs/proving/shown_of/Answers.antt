use Rattle.std.proofs.Common.{◌≡◌, length, [], ◌∷◌, sym, ap, subst, arith}
use Rattle.std.proofs.Common.{length-append}
use Rattle.jump_proofs.specs.Shown.{AreShownBy}
use Rattle.jump_proofs.proofs.Shown.{none_shown, shown_more}
use Rattle.jump_proofs.proofs.proving.shown_of.Goals as goal

pub loop-k-init : goal.loop-k-init
loop-k-init c = (
  ap length c.new-flags.ensures.items,
  subst (AreShownBy c.args.original.now c.args.claim.now c.args.notes.now) (sym c.new-flags.ensures.items) (none_shown c.args.original.now c.args.claim.now c.args.notes.now),
)

pub loop-k-preserved : goal.loop-k-preserved
loop-k-preserved c =
    let flags = c.loop-k.flags.items in
    let shown = c.in_ok-shown.shown in
    let size = c.loop-k.invariant.0 in
    let more = c.in_ok-push.ensures.items in
    let all = shown_more c.args.original.now c.args.claim.now c.args.notes.now flags c.loop-k.k c.get.result.now shown c.get.ensures.note size c.loop-k.invariant.1 c.in_ok-shown.ensures in
    let same = ap length more in
    let long = length-append flags (shown ∷ []) in
    (omega (arith, same, long, size), subst (AreShownBy c.args.original.now c.args.claim.now c.args.notes.now) (sym more) all)
