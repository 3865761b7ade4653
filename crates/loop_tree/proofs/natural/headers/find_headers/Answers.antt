use Rattle.std.proofs.Common.{◌≡◌, ap, Some}
use Rattle.scale_base.specs.declared.refusal.Refusal.TheVariants.{HeaderNotReached}
use Rattle.loop_tree.proofs.HeaderLaws.{unreached, headers_next}
use Rattle.loop_tree.proofs.natural.headers.find_headers.Goals as goal

pub returns-in-None : goal.returns-in-None
returns-in-None c =
    unreached c.args.graph.now c.args.notes.now c.loop-k.k c.loop-k.headers.items c.note.result.now _ c.requires.flow c.loop-k.invariant c.note.ensures.note
    (λ k h. let found : c.find.result ≡ Some k = (c.find.ensures k).1 h in let none = c.in-None.is in let bad : ⊥ = cc in bad)
    (ap HeaderNotReached c.number_of.ensures)

pub loop-k-preserved : goal.loop-k-preserved
loop-k-preserved c =
    headers_next c.args.graph.now c.args.notes.now c.loop-k.k c.in-Some.header c.note.result.now c.loop-k.headers.items c.push.new.self.items c.in_ok-push-in-Some.ensures.items c.note.ensures.note
    ((c.find.ensures c.in-Some.header).0 c.in-Some.is) c.loop-k.invariant
