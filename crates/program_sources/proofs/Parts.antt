-- The parts of the files in their order.
use Rattle.std.proofs.Common.{◌≡◌, ℕ, List, Option, Some, None, Result, Ok, Err, refl, sym, ap, ◌∙◌, subst}
use Rattle.table_keys.specs.Keys.{◌>>=◌}
use Rattle.scale_base.specs.declared.ranges.Keyed.{Keyed}
use Rattle.scale_base.specs.declared.refusal.Refusal.{Refusal}
use Rattle.scale_base.specs.declared.refusal.Stop.{Stop}
use Rattle.scale_base.specs.declared.refusal.Stop.TheVariants.{Refused}
use Rattle.scale_base.specs.Answer.{Stops}
use Rattle.scale_base.specs.Image.{Image, image_of}
use Rattle.power_model.specs.Numbers.{PowerModel}
use Rattle.machine_file.specs.Machine.{read_machine}
use Rattle.loop_file.specs.declared.notes.LoopNote.{LoopNote}
use Rattle.loop_file.specs.Loops.{read_loops}
use Rattle.answer_parts.specs.Parts.{unscaled}
use Rattle.program_sources.specs.declared.reading.OriginalImage.{OriginalImage}
use Rattle.program_sources.specs.declared.reading.Sources.{Sources}
use Rattle.program_sources.specs.Sources.{AreSources, original_of, sources_of}
use Rattle.program_sources.proofs.Answering.{goes_on, stops_at}

moved : {A : Type 0} (stop : Stop) (one other : Result A Refusal) → one ≡ other → Stops stop other → Stops stop one
moved stop one other e h = subst (λ r. Stops stop r) (sym e) h

-- ---- the machine and the image

module _ (image machine : List ℕ) where
  pub machine_stops : (stop : Stop) → Stops stop (read_machine machine) → Stops stop (original_of image machine)
  unfolding original_of
  machine_stops stop h = stops_at (read_machine machine) _ stop h

  module _ (power : PowerModel) (a : read_machine machine ≡ Ok power) where
    pub image_stops : (stop : Stop) → Stops stop (image_of image) → Stops stop (original_of image machine)
    unfolding original_of
    image_stops stop h = moved stop _ _ (goes_on (read_machine machine) power _ a) (stops_at (image_of image) _ stop h)

    module _ (view : Image) (b : image_of image ≡ Ok view) where
      pub key_stops : (refusal : Refusal) → unscaled view.keyed_segment ≡ Err refusal → Stops (Refused refusal) (original_of image machine)
      unfolding original_of
      key_stops refusal h = moved (Refused refusal) _ _ (goes_on (read_machine machine) power _ a ∙ goes_on (image_of image) view _ b) (stops_at (unscaled view.keyed_segment) _ (Refused refusal) h)

      pub original_is : unscaled view.keyed_segment ≡ Ok tt → original_of image machine ≡ Ok (record { power = power; view = view })
      unfolding original_of
      original_is c = goes_on (read_machine machine) power _ a ∙ (goes_on (image_of image) view _ b ∙ goes_on (unscaled view.keyed_segment) tt _ c)

-- ---- the notes too

module _ (image machine loops : List ℕ) where
  pub original_stops : (stop : Stop) → Stops stop (original_of image machine) → Stops stop (sources_of image machine loops)
  unfolding sources_of
  original_stops stop h = stops_at (original_of image machine) _ stop h

  module _ (o : OriginalImage) (a : original_of image machine ≡ Ok o) where
    pub loops_stop : (stop : Stop) → Stops stop (read_loops o.view loops) → Stops stop (sources_of image machine loops)
    unfolding sources_of
    loops_stop stop h = moved stop _ _ (goes_on (original_of image machine) o _ a) (stops_at (read_loops o.view loops) _ stop h)

    pub sources_go : (notes : List LoopNote) → read_loops o.view loops ≡ Ok notes → sources_of image machine loops ≡ Ok (record { power = o.power; view = o.view; notes = notes })
    unfolding sources_of
    sources_go notes b = goes_on (original_of image machine) o _ a ∙ goes_on (read_loops o.view loops) notes _ b

-- ---- what each file is

pub record IsOriginal (image machine : List ℕ) (o : OriginalImage) : Type 0 where
  pub power_is : read_machine machine ≡ Ok o.power
  pub view_is : image_of image ≡ Ok o.view
  pub unscaled : unscaled o.view.keyed_segment ≡ Ok tt

bind_ok : {A B : Type 0} (part : Result A Refusal) (next : A → Result B Refusal) (b : B) → (part >>= next) ≡ Ok b → (a : A) × (part ≡ Ok a) × (next a ≡ Ok b)
bind_ok (Ok a) next b e = (a, refl, e)
bind_ok (Err refusal) next b e = let never : ⊥ = cc in absurd never

pub original_parts : (image machine : List ℕ) (o : OriginalImage) → original_of image machine ≡ Ok o → IsOriginal image machine o
unfolding original_of
original_parts image machine o e =
    let a = bind_ok (read_machine machine) _ o e in
    let b = bind_ok (image_of image) _ o a.2 in
    let c = bind_ok (unscaled b.0.keyed_segment) _ o b.2 in
    let same : record { power = a.0; view = b.0 } ≡ o = cc in
    subst (λ (x : OriginalImage). IsOriginal image machine x) same (record { power_is = a.1; view_is = b.1; unscaled = c.1 })

pub sources_parts : (image machine loops : List ℕ) (s : Sources) → sources_of image machine loops ≡ Ok s → AreSources image machine loops s
unfolding sources_of
sources_parts image machine loops s e =
    let a = bind_ok (original_of image machine) _ s e in
    let b = bind_ok (read_loops a.0.view loops) _ s a.2 in
    let o = original_parts image machine a.0 a.1 in
    let same : record { power = a.0.power; view = a.0.view; notes = b.0 } ≡ s = cc in
    subst (λ (x : Sources). AreSources image machine loops x) same (record { power_is = o.power_is; view_is = o.view_is; unscaled = o.unscaled; notes_are = b.1 })

pub sources_are : (image machine loops : List ℕ) (s : Sources) → AreSources image machine loops s → sources_of image machine loops ≡ Ok s
sources_are image machine loops s is = sources_go image machine loops (record { power = s.power; view = s.view }) (original_is image machine s.power is.power_is s.view is.view_is is.unscaled) s.notes is.notes_are

-- there is no key yet
pub no_key : (keyed : Option Keyed) → unscaled keyed ≡ Ok tt → keyed ≡ None
no_key None e = refl
no_key (Some keyed) e = let never : ⊥ = cc in absurd never

pub key_unscaled : (keyed : Option Keyed) → keyed ≡ None → unscaled keyed ≡ Ok tt
key_unscaled keyed e = ap unscaled e
