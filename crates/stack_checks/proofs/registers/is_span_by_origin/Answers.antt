use Rattle.stack_laws.specs.Stacks.IsSpannedOver.{kept as kept_by, loaded as loaded_by}
use Rattle.stack_checks.proofs.Cases.{summed_span}
use Rattle.stack_checks.proofs.registers.is_span_by_origin.Goals as goal

pub returns-in-Left : goal.returns-in-Left
returns-in-Left c so = kept_by c.in-Left.ensures (c.is_span_left.ensures so)

pub returns-in-Plus : goal.returns-in-Plus
returns-in-Plus c so = summed_span c.args.way.now c.args.r c.in-Plus.rs c.in-Plus.more c.in-Plus.ensures (c.is_span_more.ensures so)

pub returns-in-Loaded : goal.returns-in-Loaded
returns-in-Loaded c so = loaded_by c.in-Loaded.number c.in-Loaded.ensures (c.is_span_from.ensures so)
