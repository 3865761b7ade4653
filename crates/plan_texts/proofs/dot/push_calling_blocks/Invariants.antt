use Rattle.std.proofs.Common.{◌≡◌, ◌++◌, take, string_bytes}
use Rattle.std.specs.List.{flat_map}
use Rattle.plan_texts.specs.Dot.{calling_lines}
use Rattle.plan_texts.proofs.dot.push_calling_blocks.Given as goal

abbrev pub invariant-loop-block : goal.invariant-loop-block
invariant-loop-block l = string_bytes l.text ≡ string_bytes l.initial.text ++ flat_map (calling_lines l.functions) (take l.block-index l.blocks)
