use Rattle.std.proofs.Common.{◌≡◌, ◌≤◌, length, ℕ, List, [], ◌∷◌, get_or, Bor, subst, sym, ap, ◌∙◌, arith}
use Rattle.std.specs.Prelude.{Vec, Some, None, Option, Result, option_map}
use Rattle.std.specs.declared.alloc.Global.{Global}
use Rattle.std.specs.List.{All}
use Rattle.scale_base.specs.declared.refusal.Stop.{Stop}
use Rattle.scale_tool.specs.declared.command.Work.{Work}
use Rattle.scale_tool.specs.declared.command.Work.TheVariants.{Simulate as ParsedSimulate}
use Rattle.host_runs.specs.declared.reply.Reply.{Reply}
use Rattle.scale_tool.specs.Answer.{MakesRun, Makes}
use Rattle.host_runs.specs.Views.{files_view}
use Rattle.scale_tool.specs.Scaled.{IsTold}
use Rattle.scale_tool.specs.Views.{work_view}
use Rattle.scale_tool.specs.Command.{Command, Simulate, texts, wants_of}
use Rattle.scale_tool.proofs.GivenInputs.{AreWanted, as_many, four_first, three_first}
use Rattle.scale_tool.proofs.reply.work_reply.Goals as goal

-- a file for each that is wanted, within its limit
abbrev AreFiles : Command → List (Vec ℕ Global) → Type 0
AreFiles command files = AreWanted (wants_of command) files

-- what a run gives, by its three or four files
abbrev Gives : (i m n : List ℕ) → Option (List ℕ) → List ℕ → Result Reply Stop → Type 0
Gives i m n loops out result = IsTold (MakesRun i m n loops out) result

abbrev Made : Command → List (Vec ℕ Global) → Result Reply Stop → Type 0
Made command files result = IsTold (Makes command (files_view files)) result

at_files : (i m n i' m' n' : List ℕ) (loops : Option (List ℕ)) (out : List ℕ) (result : Result Reply Stop) → i ≡ i' → m ≡ m' → n ≡ n' →
    Gives i m n loops out result → Gives i' m' n' loops out result
at_files i m n i' m' n' loops out result ei em en gives =
    subst (λ (v : List ℕ). Gives i' m' v loops out result) en
    (subst (λ (v : List ℕ). Gives i' v n loops out result) em
    (subst (λ (v : List ℕ). Gives v m n loops out result) ei gives))

made_of_three : (image machine input out : List ℕ) (files : List (Vec ℕ Global)) (a b d : Vec ℕ Global) (i m n : List ℕ) (result : Result Reply Stop) →
    AreFiles (Simulate image machine input out None) files → a ≡ get_or files 0 a → b ≡ get_or files 1 b → d ≡ get_or files 2 d →
    i ≡ a.items → m ≡ b.items → n ≡ d.items → Gives i m n None out result → Made (Simulate image machine input out None) files result
made_of_three image machine input out (x ∷ y ∷ z ∷ []) a b d i m n result are ea eb ed ei em en gives =
    let fi : i ≡ x.items = ei ∙ ap (λ (v : Vec ℕ Global). v.items) ea in
    let fm : m ≡ y.items = em ∙ ap (λ (v : Vec ℕ Global). v.items) eb in
    let fn : n ≡ z.items = en ∙ ap (λ (v : Vec ℕ Global). v.items) ed in
    at_files i m n x.items y.items z.items None out result fi fm fn gives
made_of_three image machine input out [] a b d i m n result are ea eb ed ei em en gives = absurd are
made_of_three image machine input out (x ∷ []) a b d i m n result are ea eb ed ei em en gives = absurd are.1
made_of_three image machine input out (x ∷ y ∷ []) a b d i m n result are ea eb ed ei em en gives = absurd are.1.1
made_of_three image machine input out (x ∷ y ∷ z ∷ w ∷ more) a b d i m n result are ea eb ed ei em en gives = absurd are.1.1.1

made_of_four : (image machine input out loops : List ℕ) (files : List (Vec ℕ Global)) (a b d e : Vec ℕ Global) (i m n l : List ℕ) (result : Result Reply Stop) →
    AreFiles (Simulate image machine input out (Some loops)) files → a ≡ get_or files 0 a → b ≡ get_or files 1 b → d ≡ get_or files 2 d → e ≡ get_or files 3 e →
    i ≡ a.items → m ≡ b.items → n ≡ d.items → l ≡ e.items → Gives i m n (Some l) out result → Made (Simulate image machine input out (Some loops)) files result
made_of_four image machine input out loops (x ∷ y ∷ z ∷ w ∷ []) a b d e i m n l result are ea eb ed ee ei em en el gives =
    let fi : i ≡ x.items = ei ∙ ap (λ (v : Vec ℕ Global). v.items) ea in
    let fm : m ≡ y.items = em ∙ ap (λ (v : Vec ℕ Global). v.items) eb in
    let fn : n ≡ z.items = en ∙ ap (λ (v : Vec ℕ Global). v.items) ed in
    let fl : l ≡ w.items = el ∙ ap (λ (v : Vec ℕ Global). v.items) ee in
    subst (λ (v : List ℕ). Gives x.items y.items z.items (Some v) out result) fl
    (at_files i m n x.items y.items z.items (Some l) out result fi fm fn gives)
made_of_four image machine input out loops [] a b d e i m n l result are ea eb ed ee ei em en el gives = absurd are
made_of_four image machine input out loops (x ∷ []) a b d e i m n l result are ea eb ed ee ei em en el gives = absurd are.1
made_of_four image machine input out loops (x ∷ y ∷ []) a b d e i m n l result are ea eb ed ee ei em en el gives = absurd are.1.1
made_of_four image machine input out loops (x ∷ y ∷ z ∷ []) a b d e i m n l result are ea eb ed ee ei em en el gives = absurd are.1.1.1
made_of_four image machine input out loops (x ∷ y ∷ z ∷ w ∷ v ∷ more) a b d e i m n l result are ea eb ed ee ei em en el gives = absurd are.1.1.1.1

module _ (parsed : Work) (image machine input out : Bor (List ℕ)) (loops given : Option (Bor (List ℕ))) (is : parsed ≡ ParsedSimulate image machine input out loops) (loops-is : loops ≡ given) where
  same : parsed ≡ ParsedSimulate image machine input out given
  same = is ∙ ap (λ (o : Option (Bor (List ℕ))). ParsedSimulate image machine input out o) loops-is

  are_files : (files : List (Vec ℕ Global)) → AreFiles (work_view parsed) files → AreFiles (Simulate image.now machine.now input.now out.now (option_map (λ (l : Bor (List ℕ)). l.now) given)) files
  are_files files are = subst (λ (p : Work). AreFiles (work_view p) files) same are

  made_here : (files : List (Vec ℕ Global)) (result : Result Reply Stop) → Made (Simulate image.now machine.now input.now out.now (option_map (λ (l : Bor (List ℕ)). l.now) given)) files result →
      Made (work_view parsed) files result
  made_here files result made = subst (λ (p : Work). Made (work_view p) files result) (sym same) made

pub returns-in-None : goal.returns-in-None
returns-in-None g c =
    let are = are_files _ _ _ _ _ _ None c.in-Simulate.is c.in-None.is c.args.files.now c.requires in
    made_here _ _ _ _ _ _ None c.in-Simulate.is c.in-None.is c.args.files.now c.simulate_reply.result
    (made_of_three c.in-Simulate.image.now c.in-Simulate.machine.now c.in-Simulate.input.now c.in-Simulate.out.now c.args.files.now _ _ _ _ _ _ c.simulate_reply.result are c.index-files-0.is c.index-files-1.is c.index-files-2.is
    c.deref.ensures.value c.deref-in-None.ensures.value c.deref-in-None-2.ensures.value c.simulate_reply.ensures)

pub returns-in-Some : goal.returns-in-Some
returns-in-Some g c =
    let are = are_files _ _ _ _ _ _ (Some c.in-Some.field-0) c.in-Simulate.is c.in-Some.is c.args.files.now c.requires in
    made_here _ _ _ _ _ _ (Some c.in-Some.field-0) c.in-Simulate.is c.in-Some.is c.args.files.now c.simulate_reply-in-Some.result
    (made_of_four c.in-Simulate.image.now c.in-Simulate.machine.now c.in-Simulate.input.now c.in-Simulate.out.now c.in-Some.field-0.now c.args.files.now _ _ _ _ _ _ _ _ c.simulate_reply-in-Some.result are c.index-files-0-in-Some.is c.index-files-1-in-Some.is c.index-files-2-in-Some.is c.index-files-3.is
    c.deref-in-Some.ensures.value c.deref-in-Some-2.ensures.value c.deref-in-Some-3.ensures.value c.deref-in-Some-4.ensures.value c.simulate_reply-in-Some.ensures)

pub invariant_of-survey_reply : goal.invariant_of-survey_reply
invariant_of-survey_reply g c =
    let files : List (Vec ℕ Global) = c.args.files.now in
    let inputs = c.in-Survey.inputs in
    let are = subst (λ (p : Work). AreFiles (work_view p) files) c.in-Survey.is c.requires in
    let split = four_first (texts inputs.names.now) (c.in-Survey.image.now, 4194304) (c.in-Survey.scaled.now, 8388608) (c.in-Survey.machine.now, 1048576) (c.in-Survey.loops.now, 1048576) files are in
    let count : length c.split_at.result.1.now ≡ length inputs.names.now = as_many 4 _ inputs.names.now files c.split_at.result.1.now split c.split_at.ensures.back in
    let some = inputs.some in
    let few = inputs.few in
    record {
      some = omega arith;
      few = omega arith;
      short = subst (λ (xs : List (Vec ℕ Global)). All (λ input. length input.items ≤ 1048576) xs) (sym c.split_at.ensures.back) split.short;
    }

pub invariant_of-tune_reply : goal.invariant_of-tune_reply
invariant_of-tune_reply g c =
    let files : List (Vec ℕ Global) = c.args.files.now in
    let inputs = c.in-Tune.inputs in
    let are = subst (λ (p : Work). AreFiles (work_view p) files) c.in-Tune.is c.requires in
    let split = three_first (texts inputs.names.now) (c.in-Tune.image.now, 4194304) (c.in-Tune.machine.now, 1048576) (c.in-Tune.loops.now, 1048576) files are in
    let count : length c.split_at-in-Tune.result.1.now ≡ length inputs.names.now = as_many 3 _ inputs.names.now files c.split_at-in-Tune.result.1.now split c.split_at-in-Tune.ensures.back in
    let some = inputs.some in
    let few = inputs.few in
    record {
      some = omega arith;
      few = omega arith;
      short = subst (λ (xs : List (Vec ℕ Global)). All (λ input. length input.items ≤ 1048576) xs) (sym c.split_at-in-Tune.ensures.back) split.short;
    }
