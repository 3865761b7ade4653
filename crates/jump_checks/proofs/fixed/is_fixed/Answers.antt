use Rattle.jump_checks.proofs.fixed.is_fixed.Goals as goal

pub returns : goal.returns
returns c so k lt =
    let entries = rw c.in-Some.is at c.in_ok-entries.ensures.entries in
    let e = entries k lt in
    (e.word, e.fixed)
