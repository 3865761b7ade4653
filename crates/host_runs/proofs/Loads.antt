-- Loads in order, one at a time.
use Rattle.std.proofs.Common.{◌≡◌, ℕ, ◌+◌, ◌<◌, ◌≤◌, List, [], ◌∷◌, ◌++◌, length, take, drop, get_or, refl, sym, ap, subst, ◌∙◌, suc, arith, add-one}
use Rattle.std.specs.Prelude.{Option, Some, None, option_map, slice_get, IfSome, IsSomeAnd}
use Rattle.std.specs.List.{AllZip}
use Rattle.std.specs.FinMap.{get}
use Rattle.std.proofs.Math.Seq.{drop-cons}
use Rattle.std.proofs.lemmas.Option.{slice_get-map, slice_get_within, slice_get-get_or, get_or_from_slice_get}
use Rattle.std.proofs.lemmas.Bool.Decides.{nat_tests}
use Rattle.host_files.specs.HostState.{Files, HostState, IsUntouched}
use Rattle.host_runs.specs.declared.loading.Want.{Want}
use Rattle.host_runs.specs.Loading.{Loading, Missing, Long, Whole, and_then, loading_one, loading_of}
use Rattle.host_runs.specs.Views.{want_views}
use Rattle.host_runs.proofs.Storing.{take_next}

abbrev Wants : Type 0
Wants = List (List ℕ × ℕ)

-- these files, and then what follows
abbrev pub all_then : List (List ℕ) → Loading → Loading
all_then [] rest = rest
all_then (bytes ∷ files) rest = and_then bytes (all_then files rest)

abbrev pub Within : List ℕ × ℕ → List ℕ → Type 0
Within want file = length file ≤ want.1

-- the first files have been loaded
pub record LoadedSoFar (wants : Wants) (count : ℕ) (loaded : List (List ℕ)) (old now : HostState) : Type 0 where
  pub told : IfSome old.files (λ files. loading_of wants files ≡ all_then loaded (loading_of (drop count wants) files))
  pub within : AllZip Within (take count wants) loaded
  pub untouched : IsUntouched old now
  pub faults : now.faults ≡ old.faults

pub want_at : (wants : List Want) (i : ℕ) (d : Want) → i < length wants → slice_get (want_views wants) i ≡ Some ((get_or wants i d).name.now, (get_or wants i d).limit)
want_at wants i d h =
    slice_get-map (λ (w : Want). (w.name.now, w.limit)) wants i
    ∙ ap (option_map (λ (w : Want). (w.name.now, w.limit))) (slice_get-get_or wants i d h)

zip_push : {A B : Type 0} (R : A → B → Type 0) (xs : List A) (ys : List B) (x : A) (y : B) → AllZip R xs ys → R x y → AllZip R (xs ++ x ∷ []) (ys ++ y ∷ [])
zip_push R [] [] x y all r = (r, tt)
zip_push R [] (b ∷ ys) x y all r = absurd all
zip_push R (a ∷ xs) [] x y all r = absurd all
zip_push R (a ∷ xs) (b ∷ ys) x y all r = (all.0, zip_push R xs ys x y all.1 r)

all_then-push : (loaded : List (List ℕ)) (bytes : List ℕ) (rest : Loading) → all_then (loaded ++ bytes ∷ []) rest ≡ all_then loaded (and_then bytes rest)
all_then-push [] bytes rest = refl
all_then-push (first ∷ loaded) bytes rest = ap (and_then first) (all_then-push loaded bytes rest)

all_then-long : (loaded : List (List ℕ)) (name : List ℕ) → all_then loaded (Long name) ≡ Long name
all_then-long [] name = refl
all_then-long (first ∷ loaded) name = ap (and_then first) (all_then-long loaded name)

all_then-missing : (loaded : List (List ℕ)) → all_then loaded Missing ≡ Missing
all_then-missing [] = refl
all_then-missing (first ∷ loaded) = ap (and_then first) (all_then-missing loaded)

all_then-whole : (loaded : List (List ℕ)) → all_then loaded (Whole []) ≡ Whole loaded
all_then-whole [] = refl
all_then-whole (first ∷ loaded) = ap (and_then first) (all_then-whole loaded)

one_whole : (name bytes : List ℕ) (limit : ℕ) (rest : Loading) → length bytes ≤ limit → loading_one name limit (Some bytes) rest ≡ and_then bytes rest
one_whole name bytes limit rest within = grind (arith, nat_tests)

one_long : (name : List ℕ) (limit : ℕ) (file : Option (List ℕ)) (rest : Loading) → IsSomeAnd file (λ bytes. limit < length bytes) → loading_one name limit file rest ≡ Long name
one_long name limit None rest long = absurd long
one_long name limit (Some bytes) rest long = grind (arith, nat_tests)

module _ (wants : Wants) (count : ℕ) (want : List ℕ × ℕ) (loaded : List (List ℕ)) (old now : HostState) (so_far : LoadedSoFar wants count loaded old now) (next : slice_get wants count ≡ Some want) where
  rest_is : (files : Files) → loading_of (drop count wants) files ≡ loading_one want.0 want.1 (get files want.0) (loading_of (drop (count + 1) wants) files)
  rest_is files =
      let h : count < length wants = slice_get_within wants count want next in
      let here : get_or wants count want ≡ want = get_or_from_slice_get wants count want want next in
      let cons : drop count wants ≡ want ∷ drop (count + 1) wants = rw add-one (drop-cons wants count want h ∙ ap (λ (w : List ℕ × ℕ). w ∷ drop (suc count) wants) here) in
      ap (λ (ws : Wants). loading_of ws files) cons

  -- what the load tells, where the files are told
  module _ (Q : Option (List ℕ) → Type 0) (P : Files → Type 0) (follows : (files : Files) → loading_of wants files ≡ all_then loaded (loading_one want.0 want.1 (get files want.0) (loading_of (drop (count + 1) wants) files)) → Q (get files want.0) → P files) where
    goes : (o : Option Files) → IfSome o (λ files. loading_of wants files ≡ all_then loaded (loading_of (drop count wants) files)) → IfSome o (λ files. Q (get files want.0)) → IfSome o P
    goes None told q = tt
    goes (Some files) told q = follows files (told ∙ ap (all_then loaded) (rest_is files)) q

    pub tells : IfSome now.files (λ files. Q (get files want.0)) → IfSome old.files P
    tells q = goes old.files so_far.told (subst (λ (o : Option Files). IfSome o (λ files. Q (get files want.0))) so_far.untouched.files q)

  pub loaded_next : (bytes : List ℕ) (new : HostState) → IfSome now.files (λ files. get files want.0 ≡ Some bytes) → length bytes ≤ want.1 → IsUntouched now new → new.faults ≡ now.faults →
      LoadedSoFar wants (count + 1) (loaded ++ bytes ∷ []) old new
  loaded_next bytes new told within untouched faults = record {
    told = tells (λ file. file ≡ Some bytes) (λ files. loading_of wants files ≡ all_then (loaded ++ bytes ∷ []) (loading_of (drop (count + 1) wants) files))
        (λ files is file. is ∙ ap (λ (f : Option (List ℕ)). all_then loaded (loading_one want.0 want.1 f (loading_of (drop (count + 1) wants) files))) file
        ∙ ap (all_then loaded) (one_whole want.0 bytes want.1 (loading_of (drop (count + 1) wants) files) within)
        ∙ sym (all_then-push loaded bytes (loading_of (drop (count + 1) wants) files)))
        told;
    within = subst (λ (ws : Wants). AllZip Within ws (loaded ++ bytes ∷ [])) (sym (take_next wants count want next)) (zip_push Within (take count wants) loaded want bytes so_far.within within);
    untouched = record {
      files = untouched.files ∙ so_far.untouched.files;
      printed = untouched.printed ∙ so_far.untouched.printed;
      room = untouched.room ∙ so_far.untouched.room;
      store_faults = untouched.store_faults ∙ so_far.untouched.store_faults;
    };
    faults = faults ∙ so_far.faults;
  }

  pub too_long_here : IfSome now.files (λ files. IsSomeAnd (get files want.0) (λ bytes. want.1 < length bytes)) → IfSome old.files (λ files. IsSomeAnd (slice_get wants count) (λ want'. loading_of wants files ≡ Long want'.0))
  too_long_here = tells (λ file. IsSomeAnd file (λ bytes. want.1 < length bytes)) (λ files. IsSomeAnd (slice_get wants count) (λ want'. loading_of wants files ≡ Long want'.0))
      (λ files is long. rw next (is ∙ ap (all_then loaded) (one_long want.0 want.1 (get files want.0) (loading_of (drop (count + 1) wants) files) long) ∙ all_then-long loaded want.0))

  pub missing_here : IfSome now.files (λ files. get files want.0 ≡ None) → IfSome old.files (λ files. loading_of wants files ≡ Missing)
  missing_here = tells (λ file. file ≡ None) (λ files. loading_of wants files ≡ Missing)
      (λ files is none. is ∙ ap (λ (f : Option (List ℕ)). all_then loaded (loading_one want.0 want.1 f (loading_of (drop (count + 1) wants) files))) none ∙ all_then-missing loaded)

-- all have been loaded
pub all_loaded : (wants : Wants) (loaded : List (List ℕ)) (o : Option Files) → IfSome o (λ files. loading_of wants files ≡ all_then loaded (loading_of (drop (length wants) wants) files)) → IfSome o (λ files. loading_of wants files ≡ Whole loaded)
all_loaded wants loaded None told = tt
all_loaded wants loaded (Some files) told = told ∙ ap (λ (ws : Wants). all_then loaded (loading_of ws files)) (drop-length wants) ∙ all_then-whole loaded
  where
    drop-length : (ws : Wants) → drop (length ws) ws ≡ []
    drop-length [] = refl
    drop-length (w ∷ ws) = drop-length ws
