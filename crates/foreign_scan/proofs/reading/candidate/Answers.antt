use Rattle.std.proofs.Common.{sym, ◌∙◌}
use Rattle.foreign_scan.proofs.ReadLaws.{by_clears, by_load, by_port, by_rest}
use Rattle.foreign_scan.proofs.reading.candidate.Goals as goal

pub returns-then-clears : goal.returns-then-clears
returns-then-clears c = by_clears c.args.key.now c.args.at c.instr.result _ (λ i h. (c.instr.ensures i).1 h) (sym c.clears.ensures ∙ c.if-clears.true) c.reset_at.ensures

pub returns-then-is_load : goal.returns-then-is_load
returns-then-is_load c =
    by_load c.args.key.now c.args.at c.instr.result c.instr-2.result _ (λ i h. (c.instr.ensures i).1 h) (λ i h. (c.instr-2.ensures i).1 h) (sym c.clears.ensures ∙ c.if-clears.false) (sym c.is_load.ensures ∙ c.if-is_load.true)
    c.count_at.ensures

pub returns-then-loads_port : goal.returns-then-loads_port
returns-then-loads_port c =
    by_port c.args.key.now c.args.at c.instr.result c.instr-2.result c.instr-3.result _ (λ i h. (c.instr.ensures i).1 h) (λ i h. (c.instr-2.ensures i).1 h) (λ i h. (c.instr-3.ensures i).1 h)
    (sym c.clears.ensures ∙ c.if-clears.false) (sym c.is_load.ensures ∙ c.if-is_load.false) (sym c.loads_port.ensures ∙ c.if-loads_port.true) c.switch_at.ensures

pub returns : goal.returns
returns c =
    by_rest c.args.key.now c.args.at c.instr.result c.instr-2.result c.instr-3.result _ (λ i h. (c.instr.ensures i).1 h) (λ i h. (c.instr-2.ensures i).1 h) (λ i h. (c.instr-3.ensures i).1 h)
    (sym c.clears.ensures ∙ c.if-clears.false) (sym c.is_load.ensures ∙ c.if-is_load.false) (sym c.loads_port.ensures ∙ c.if-loads_port.false) c.exit_at.ensures
