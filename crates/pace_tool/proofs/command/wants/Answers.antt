use Rattle.std.proofs.Common.{◌≡◌, length, arith}
use Rattle.pace_tool.specs.Command.{wants_of}
use Rattle.pace_tool.specs.Views.{command_view}
use Rattle.pace_tool.proofs.Wants.{all_wanted, fewer_left, one_more}
use Rattle.pace_tool.proofs.command.wants.Goals as goal

pub loop-want-preserved : goal.loop-want-preserved
loop-want-preserved c =
    let count : c.len.result ≡ length c.loop-want.wants.items = omega (arith, c.loop-want.wants.ok.0, c.len.ensures) in
    one_more (wants_of (command_view c.args.command.now)) c.loop-want.wants.items c.len.result count c.push.new.self.items c.in-Some.want c.in_ok-push.ensures.items c.in-Some.ensures c.loop-want.invariant

pub loop-want-smaller : goal.loop-want-smaller
loop-want-smaller c =
    let count : c.len.result ≡ length c.loop-want.wants.items = omega (arith, c.loop-want.wants.ok.0, c.len.ensures) in
    fewer_left (wants_of (command_view c.args.command.now)) c.loop-want.wants.items c.len.result count c.push.new.self.items c.in-Some.want c.in_ok-push.ensures.items c.in-Some.ensures

pub returns : goal.returns
returns c =
    let count : c.len.result ≡ length c.loop-want.wants.items = omega (arith, c.loop-want.wants.ok.0, c.len.ensures) in
    all_wanted (wants_of (command_view c.args.command.now)) c.loop-want.wants.items c.len.result count c.in_default.ensures c.loop-want.invariant
