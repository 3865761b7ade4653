use Rattle.std.proofs.Common.{inr, refl}
use Rattle.std.specs.Prelude.{string_bytes}
use Rattle.host_runs.specs.Views.{files_view, reply_view}
use Rattle.pace_tool.specs.Texts.{version_text}
use Rattle.pace_tool.proofs.ToldVersions.{version_told}
use Rattle.pace_tool.proofs.versions.version_reply.Goals as goal

pub returns : goal.returns
returns g c =
    let order = c.args.order.now in
    let chosen = c.args.chosen.now in
    version_told order.files.image.now order.files.machine.now order.files.loops.now (files_view order.inputs.items.now) order.out.now c.deref.result.now c.as_bytes.result.now
    (version_text chosen) (string_bytes c.in_ok-text.text) (reply_view c.in_ok-reply.reply) c.told_behind.result (inr (chosen, c.requires, c.deref.ensures.value, c.as_bytes.ensures.value, refl))
    c.in_ok-text.ensures c.in_ok-reply.ensures c.told_behind.ensures
