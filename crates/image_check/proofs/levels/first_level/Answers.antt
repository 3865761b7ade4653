use Rattle.std.proofs.Common.{◌≡◌, length, subst, arith}
use Rattle.image_check.proofs.FirstLevels.{NoneBelow, none_more, first_is, all_safe}
use Rattle.image_check.proofs.levels.first_level.Goals as goal

pub loop-k-init : goal.loop-k-init
loop-k-init c = λ original foreign found w n least by m d i edge lt there at bad. let no : ⊥ = omega (arith, lt) in no

pub loop-k-preserved : goal.loop-k-preserved
loop-k-preserved c = λ original foreign found w n least by.
    let both = c.in-None.ensures original foreign found w n least by in
    none_more c.args.known.now foreign found w n least c.loop-k.k (c.loop-k.invariant original foreign found w n least by) both.0 both.1

pub returns-in-Some : goal.returns-in-Some
returns-in-Some c = λ original foreign found w n least by.
    let h = c.in-Some.ensures original foreign found w n least by in
    first_is c.args.known.now foreign found w n least by.known.found_is.code.flow c.loop-k.k c.node.result c.in-Some.level h.0 c.node.ensures (c.loop-k.invariant original foreign found w n least by) h.1 h.2

pub returns : goal.returns
returns c = λ original foreign found w n least by.
    let count = c.node_count-k-end.ensures.count in
    let last : c.loop-k.k ≡ length c.args.known.now.graph.now.code.nodes = omega (arith, count) in
    all_safe c.args.known.now foreign found w n least by.known.found_is.code.flow (subst (NoneBelow c.args.known.now foreign found w n least) last (c.loop-k.invariant original foreign found w n least by))
