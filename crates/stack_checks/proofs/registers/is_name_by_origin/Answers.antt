use Rattle.stack_laws.specs.Stacks.IsNamedOver.{kept as kept_over}
use Rattle.stack_checks.proofs.Cases.{loaded_name, summed_name}
use Rattle.stack_checks.proofs.registers.is_name_by_origin.Goals as goal

pub returns-in-Left : goal.returns-in-Left
returns-in-Left c so = kept_over c.in-Left.ensures (c.is_name_left.ensures.same so) (c.is_name_left.ensures.steady so)

pub returns-in-Plus : goal.returns-in-Plus
returns-in-Plus c so = summed_name c.args.way.now c.args.r c.in-Plus.rs c.in-Plus.more c.in-Plus.ensures (c.is_name_more.ensures so)

pub returns-in-Loaded : goal.returns-in-Loaded
returns-in-Loaded c so = loaded_name c.args.way.now c.args.r c.in-Loaded.number c.in-Loaded.ensures (c.is_name_from.ensures so)
