use Rattle.std.proofs.Common.{◌≡◌, ◌∙◌, ◌+◌, ◌++◌, ◌<◌, ℕ, List, [], ◌∷◌, length, map, take, get_or, sym, ap, refl}
use Rattle.std.specs.Prelude.{String, string_bytes}
use Rattle.std.specs.declared.alloc.Global.{Global}
use Rattle.std.proofs.lemmas.List.{append-nil, append_assoc, map-append, map_more, take_all}
use Rattle.host_runs.specs.declared.loading.Want.{Want}
use Rattle.scale_tool.specs.Command.{input_wants, texts}
use Rattle.host_runs.specs.Views.{want_views}
use Rattle.scale_tool.proofs.command.push_inputs.Goals as goal

abbrev wanted : String Global → List ℕ × ℕ
wanted name = (string_bytes name, 1048576)

-- names as files that are wanted
names_wanted : (names : List (String Global)) → map wanted names ≡ input_wants (texts names)
names_wanted [] = refl
names_wanted (name ∷ names) = ap (λ wants. wanted name ∷ wants) (names_wanted names)

-- one more of them
one_more : (old now new : List Want) (want : Want) (names : List (String Global)) (i : ℕ) (d : String Global) → i < length names → new ≡ now ++ want ∷ [] →
    (want.name.now, want.limit) ≡ wanted (get_or names i d) → want_views now ≡ want_views old ++ map wanted (take i names) → want_views new ≡ want_views old ++ map wanted (take (i + 1) names)
one_more old now new want names i d lt pushed is so_far =
    ap want_views pushed
    ∙ map-append (λ (w : Want). (w.name.now, w.limit)) now (want ∷ [])
    ∙ ap (λ (w : List ℕ × ℕ). want_views now ++ w ∷ []) is
    ∙ ap (λ wants. wants ++ wanted (get_or names i d) ∷ []) so_far
    ∙ append_assoc (want_views old) (map wanted (take i names)) (wanted (get_or names i d) ∷ [])
    ∙ ap (λ wants. want_views old ++ wants) (sym (map_more wanted names i d lt))

pub loop-name-init : goal.loop-name-init
loop-name-init c = sym (append-nil (want_views c.args.wants.now.items))

pub loop-name-preserved : goal.loop-name-preserved
loop-name-preserved c =
    one_more c.args.wants.now.items c.loop-name.wants.items c.push.new.self.items c.want.result c.args.inputs.now c.loop-name.name-index _ c.loop-name-test.true c.in_ok-push.ensures.items
    (λ i. ((c.want.ensures.0 ∙ c.as_str.ensures.value ∙ ap string_bytes c.name-item.is) i, c.want.ensures.1 i)) c.loop-name.invariant

pub returns : goal.returns
returns c =
    let all : take c.loop-name.name-index c.args.inputs.now ≡ c.args.inputs.now = take_all c.loop-name.name-index c.args.inputs.now c.loop-name-test.false in
    c.loop-name.invariant
    ∙ ap (λ (names : List (String Global)). want_views c.args.wants.now.items ++ map wanted names) all
    ∙ ap (λ wants. want_views c.args.wants.now.items ++ wants) (names_wanted c.args.inputs.now)
