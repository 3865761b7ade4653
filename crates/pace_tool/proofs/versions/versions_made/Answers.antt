use Rattle.std.proofs.Common.{◌≡◌, ◌≤◌, length, ℕ, List, subst, sym, arith}
use Rattle.std.specs.Prelude.{Vec}
use Rattle.std.specs.declared.alloc.Global.{Global}
use Rattle.std.specs.List.{All}
use Rattle.pace_tool.specs.Views.{texts}
use Rattle.pace_tool.proofs.GivenInputs.{as_many, three_first}
use Rattle.pace_tool.proofs.versions.versions_made.Goals as goal

pub invariant_of-order-clause-few : goal.invariant_of-order-clause-few
invariant_of-order-clause-few g c =
    let files : List (Vec ℕ Global) = c.args.files.now in
    let fit = c.args.command.now in
    let split = three_first 1048576 (omega arith) (texts fit.inputs.names.now) (fit.program.image.now, 4194304) (fit.program.machine.now, 1048576) (fit.program.loops.now, 1048576) files c.requires in
    let count : length c.split_at.result.1.now ≡ length fit.inputs.names.now = as_many 3 _ fit.inputs.names.now files c.split_at.result.1.now split c.split_at.ensures.back in
    let few = fit.inputs.few in
    omega (arith, count, few)

pub invariant_of-order-clause-short : goal.invariant_of-order-clause-short
invariant_of-order-clause-short g c =
    let files : List (Vec ℕ Global) = c.args.files.now in
    let fit = c.args.command.now in
    let split = three_first 1048576 (omega arith) (texts fit.inputs.names.now) (fit.program.image.now, 4194304) (fit.program.machine.now, 1048576) (fit.program.loops.now, 1048576) files c.requires in
    subst (λ (xs : List (Vec ℕ Global)). All (λ input. length input.items ≤ 1048576) xs) (sym c.split_at.ensures.back) split.short
