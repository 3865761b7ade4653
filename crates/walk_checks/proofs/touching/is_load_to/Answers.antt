use Rattle.walk_checks.proofs.touching.is_load_to.Goals as goal

pub returns-then-rd-r : goal.returns-then-rd-r
returns-then-rd-r c so =
    let same = c.is_same_kind.ensures so in
    (c.in-Load.rs1, c.in-Load.offset, cc (c.in-Load.is, c.if-rd-r.true, same))
