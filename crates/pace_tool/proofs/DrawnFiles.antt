-- The files of runs that are drawn.
use Rattle.std.proofs.Common.{◌≡◌, ◌∙◌, ◌++◌, ◌-◌, ◌≤◌, ℕ, List, [], ◌∷◌, length, length-drop, get_or, take, drop, map, refl, sym, ap, append_assoc, arith}
use Rattle.std.specs.Prelude.{Ok, Err, Result, IfOk, OnOk, Vec}
use Rattle.std.specs.Borrow.{Bor}
use Rattle.std.specs.declared.alloc.Global.{Global}
use Rattle.std.proofs.lemmas.List.{map-append, take_all}
use Rattle.scale_base.specs.declared.refusal.Refusal.{Refusal}
use Rattle.scale_base.specs.declared.refusal.NoMemory.{NoMemory}
use Rattle.power_model.specs.Numbers.{PowerModel}
use Rattle.machine_file.specs.Machine.{read_machine}
use Rattle.table_keys.specs.Keys.{◌>>=◌}
use Rattle.run_pictures.specs.declared.picture.DrawnFiles.{DrawnFiles}
use Rattle.run_pictures.specs.declared.picture.PictureRun.{PictureRun}
use Rattle.run_pictures.specs.declared.picture.RunPicture.{RunPicture}
use Rattle.run_pictures.specs.Pictures.{AreRunsOf, AreRunsDrawn, all_startable, startable}
use Rattle.run_pictures.specs.PictureTexts.{picture_text}
use Rattle.host_runs.specs.declared.reply.Reply.{Reply}
use Rattle.host_runs.specs.Answer.{Tells, stored_answer}
use Rattle.host_runs.specs.Views.{files_view, reply_view}
use Rattle.pace_tool.specs.Drawn.{AreDrawn, DrawsRuns, RunTexts, file_texts, run_texts}
use Rattle.pace_tool.specs.Views.{texts}

-- one more run
pub one_more_run : (old new : List DrawnFiles) (run : DrawnFiles) → new ≡ old ++ run ∷ [] → map file_texts new ≡ map file_texts old ++ file_texts run ∷ []
one_more_run old new run pushed = ap (map file_texts) pushed ∙ map-append file_texts old (run ∷ [])

first_run : (names : List (Bor (List ℕ))) (files : List (Vec ℕ Global)) (d : Bor (List ℕ)) (image input : Vec ℕ Global) → 2 ≤ length names → 2 ≤ length files → image ≡ get_or files 0 image → input ≡ get_or files 1 input →
    run_texts (texts names) (files_view files) ≡ ((get_or names 0 d).now, (get_or names 1 d).now, image.items, input.items) ∷ run_texts (texts (drop 2 names)) (files_view (drop 2 files))
first_run [] files d image input named filed image_is input_is = absurd (omega arith)
first_run (n ∷ []) files d image input named filed image_is input_is = absurd (omega arith)
first_run (n ∷ m ∷ names) [] d image input named filed image_is input_is = absurd (omega arith)
first_run (n ∷ m ∷ names) (x ∷ []) d image input named filed image_is input_is = absurd (omega arith)
first_run (n ∷ m ∷ names) (x ∷ y ∷ files) d image input named filed image_is input_is =
    let one : x ≡ image = sym image_is in
    let other : y ≡ input = sym input_is in
    ap (λ (v : Vec ℕ Global). (n.now, m.now, v.items, y.items) ∷ run_texts (texts names) (files_view files)) one
    ∙ ap (λ (v : Vec ℕ Global). (n.now, m.now, image.items, v.items) ∷ run_texts (texts names) (files_view files)) other

rest_of : {X : Type 0} (xs : List X) → take (length xs - 2) (drop 2 xs) ≡ drop 2 xs
rest_of xs = let size = length-drop 2 xs in take_all (length xs - 2) (drop 2 xs) (omega (arith, size))

pub pushed_run : {T E : Type 0} (result : Result T E) (old one new : List DrawnFiles) (names : List (Bor (List ℕ))) (files : List (Vec ℕ Global)) (d : Bor (List ℕ)) (image input : Vec ℕ Global) (image_bytes input_bytes : List ℕ) →
    2 ≤ length names → 2 ≤ length files → image ≡ get_or files 0 image → input ≡ get_or files 1 input → image_bytes ≡ image.items → input_bytes ≡ input.items →
    map file_texts one ≡ map file_texts old ++ ((get_or names 0 d).now, (get_or names 1 d).now, image_bytes, input_bytes) ∷ [] →
    OnOk result (map file_texts new ≡ map file_texts one ++ run_texts (texts (take (length names - 2) (drop 2 names))) (files_view (take (length files - 2) (drop 2 files)))) →
    OnOk result (map file_texts new ≡ map file_texts old ++ run_texts (texts names) (files_view files))
pushed_run (Err e) old one new names files d image input image_bytes input_bytes named filed image_is input_is image_read input_read pushed rest = tt
pushed_run (Ok x) old one new names files d image input image_bytes input_bytes named filed image_is input_is image_read input_read pushed rest =
    let n = (get_or names 0 d).now in
    let m = (get_or names 1 d).now in
    let more = run_texts (texts (drop 2 names)) (files_view (drop 2 files)) in
    rest
    ∙ ap (λ (ns : List (Bor (List ℕ))). map file_texts one ++ run_texts (texts ns) (files_view (take (length files - 2) (drop 2 files)))) (rest_of names)
    ∙ ap (λ (fs : List (Vec ℕ Global)). map file_texts one ++ run_texts (texts (drop 2 names)) (files_view fs)) (rest_of files)
    ∙ ap (λ (ts : List RunTexts). ts ++ more)
    (pushed
    ∙ ap (λ (bytes : List ℕ). map file_texts old ++ (n, m, bytes, input_bytes) ∷ []) image_read
    ∙ ap (λ (bytes : List ℕ). map file_texts old ++ (n, m, image.items, bytes) ∷ []) input_read)
    ∙ append_assoc (map file_texts old) ((n, m, image.items, input.items) ∷ []) more
    ∙ ap (λ (ts : List RunTexts). map file_texts old ++ ts) (sym (first_run names files d image input named filed image_is input_is))

-- what is told of runs is told of these names and bytes
pub drawn_named : (machine : List ℕ) (names bytes : List (List ℕ)) (files : List DrawnFiles) (out : List ℕ) (result : Result Reply NoMemory) → map file_texts files ≡ run_texts names bytes →
    IfOk result (λ reply. Tells (AreDrawn machine files) (stored_answer picture_text out) (reply_view reply)) →
    IfOk result (λ reply. Tells (DrawsRuns machine names bytes) (stored_answer picture_text out) (reply_view reply))
drawn_named machine names bytes files out (Ok reply) are tells = record {
  given = tells.given;
  is_given = record { files = files; files_are = are; drawn = tells.is_given };
  told = tells.told;
}
drawn_named machine names bytes files out (Err no_memory) are tells = tt

-- ---- an answer and a refusal exclude each other

-- what is refused rests on the bytes of the files alone
refused_alike : (power : PowerModel) (one other : List DrawnFiles) → map file_texts one ≡ map file_texts other → all_startable power one ≡ all_startable power other
refused_alike power [] [] same = refl
refused_alike power [] (y ∷ ys) same = absurd cc
refused_alike power (x ∷ xs) [] same = absurd cc
refused_alike power (x ∷ xs) (y ∷ ys) same =
    let first : file_texts x ≡ file_texts y = cc in
    let image : x.image.now ≡ y.image.now = ap (λ (t : RunTexts). t.2) first in
    let rest : map file_texts xs ≡ map file_texts ys = cc in
    ap (λ (image : List ℕ). startable power image >>= λ _. all_startable power xs) image
    ∙ ap (λ (more : Result (Unit {0}) Refusal). startable power y.image.now >>= λ _. more) (refused_alike power xs ys rest)

none_refused : (power : PowerModel) (files : List DrawnFiles) (runs : List PictureRun) → AreRunsOf power files runs → all_startable power files ≡ Ok tt
none_refused power [] [] are = refl
none_refused power [] (run ∷ runs) are = absurd are
none_refused power (one ∷ more) [] are = absurd are
none_refused power (one ∷ more) (run ∷ runs) are =
    ap (λ started. started >>= λ _. all_startable power more) are.0.original_is ∙ none_refused power more runs are.1

pub drawn_apart : (machine : List ℕ) (names bytes : List (List ℕ)) (given : List ℕ × RunPicture) (refusal : Refusal) → DrawsRuns machine names bytes (Ok given) → DrawsRuns machine names bytes (Err refusal) → ⊥
drawn_apart machine names bytes given refusal x y =
    let picture = x.drawn.0 in
    let power = given.1.power in
    let same : map file_texts x.files ≡ map file_texts y.files = x.files_are ∙ sym y.files_are in
    let done : all_startable power y.files ≡ Ok tt = sym (refused_alike power x.files y.files same) ∙ none_refused power x.files given.1.runs.items picture.runs in
    let refused : (read_machine machine >>= λ power. all_startable power y.files) ≡ Err refusal = y.drawn in
    let read : (read_machine machine >>= λ power. all_startable power y.files) ≡ all_startable power y.files =
    ap (λ (r : Result PowerModel Refusal). r >>= λ power. all_startable power y.files) picture.power_is in
    let bad : Ok tt ≡ Err refusal = sym done ∙ sym read ∙ refused in
    cc
