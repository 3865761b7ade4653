use Rattle.std.proofs.Common.{◌≡◌, ◌≤◌, ◌++◌, [], ◌∷◌, List, length, map, Vec, Global, sym, ap, ◌∙◌, subst}
use Rattle.scale_base.specs.declared.fragments.Mark.{Mark}
use Rattle.scale_sites.specs.Forms.{formed, formed_where, tallied_by}
use Rattle.scale_sites.specs.Sites.{flag_at, marks_at_edge}
use Rattle.scale_sites.proofs.FormLaws.{formed_short}
use Rattle.scale_sites.proofs.SiteLaws.{map_push, marks_push}
use Rattle.scale_sites.proofs.sites.formed_marks.Goals as goal

pub loop-e-preserved : goal.loop-e-preserved
loop-e-preserved c =
    let lowest = c.args.lowest.now in
    let tallied = c.args.tallied.now in
    let items : map (λ (m : Vec Mark Global). m.items) c.push.new.self.items ≡ map (λ (m : Vec Mark Global). m.items) c.loop-e.marks.items ++ c.in_ok-form_marks.field-0.items ∷ [] =
    ap (map (λ (m : Vec Mark Global). m.items)) c.in_ok-push.ensures.items ∙ map_push c.loop-e.marks.items c.in_ok-form_marks.field-0 in
    let made : c.in_ok-form_marks.field-0.items ≡ formed_where lowest tallied (marks_at_edge c.args.sites.now) c.loop-e.e =
    c.in_ok-form_marks.ensures ∙ (ap (λ b. formed b (tallied_by tallied) c.few_marks.result.now) c.flag.ensures ∙ ap (λ ms. formed (flag_at lowest c.loop-e.e) (tallied_by tallied) ms) c.few_marks.ensures.marks) in
    let few : length c.in_ok-form_marks.field-0.items ≤ 1600 = subst (λ (ms : List Mark). length ms ≤ 1600) (sym c.in_ok-form_marks.ensures) (formed_short c.flag.result (tallied_by tallied) c.few_marks.result.now 1600 c.few_marks.ensures.few) in
    rw items (marks_push (formed_where lowest tallied (marks_at_edge c.args.sites.now)) c.loop-e.e (map (λ (m : Vec Mark Global). m.items) c.loop-e.marks.items) c.in_ok-form_marks.field-0.items c.loop-e.invariant made few)
