use Rattle.std.proofs.Common.{List, ◌++◌, ap, take_all, sym, ◌∙◌, string_bytes}
use Rattle.std.proofs.lemmas.List.{append-nil}
use Rattle.paced_images.specs.declared.wanted.SwitchSite.{SwitchSite}
use Rattle.pace_tool.specs.Texts.{switch_lines}
use Rattle.pace_tool.proofs.SwitchLines.{lines-more}
use Rattle.pace_tool.proofs.texts.push_sites.Goals as goal

pub loop-site-init : goal.loop-site-init
loop-site-init c = sym (append-nil (string_bytes c.args.text.now))

pub loop-site-preserved : goal.loop-site-preserved
loop-site-preserved c =
    c.in_ok-push_switch.ensures
    ∙ lines-more (string_bytes c.args.text.now) (string_bytes c.loop-site.text) c.args.sites.now c.loop-site.site-index _ c.loop-site-test.true c.loop-site.invariant

pub returns : goal.returns
returns c =
    c.loop-site.invariant
    ∙ ap (λ (sites : List SwitchSite). string_bytes c.args.text.now ++ switch_lines sites)
    (take_all c.loop-site.site-index c.args.sites.now c.loop-site-test.false)
