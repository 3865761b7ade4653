use Rattle.std.proofs.Common.{inl, refl}
use Rattle.std.specs.Prelude.{string_bytes}
use Rattle.host_runs.specs.Views.{files_view, reply_view}
use Rattle.pace_tool.specs.Texts.{no_version_text}
use Rattle.pace_tool.proofs.ToldVersions.{version_told}
use Rattle.pace_tool.proofs.versions.unversioned_reply.Goals as goal

pub returns : goal.returns
returns g c =
    let order = c.args.order.now in
    version_told order.files.image.now order.files.machine.now order.files.loops.now (files_view order.inputs.items.now) order.out.now order.files.image.now order.files.loops.now
    no_version_text (string_bytes c.in_ok-text.text) (reply_view c.in_ok-reply.reply) c.told_behind.result (inl (refl, refl, refl))
    c.in_ok-text.ensures.ok c.in_ok-reply.ensures c.told_behind.ensures
