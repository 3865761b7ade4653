use Rattle.foreign_scan.proofs.SiteLaws.{no_target, broken_site}
use Rattle.foreign_scan.proofs.site.read_changed.Goals as goal

pub returns-in-None : goal.returns-in-None
returns-in-None c = no_target c.args.original.now c.args.foreign.now c.args.at c.jump_target.result c.requires.changed c.jump_target.ensures c.in-None.is

pub returns-in-None-2 : goal.returns-in-None-2
returns-in-None-2 c =
    broken_site c.args.original.now c.args.foreign.now c.args.key.now c.args.at c.in-Some.stub c.jump_target.result c.instr_at.result c.in-Some-instr_at.instr c.requires.key c.requires.changed c.jump_target.ensures c.in-Some.is
    c.instr_at.ensures c.in-Some-instr_at.is (rw c.in-None-2.is at c.in_ok-found.ensures.none)
