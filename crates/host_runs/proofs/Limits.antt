-- The limits of the files that a command has loaded.
use Rattle.std.proofs.Common.{◌≡◌, ℕ, ◌≤◌, List, [], ◌∷◌, length, map, refl, arith, Bool, true, false}
use Rattle.std.specs.Prelude.{Option, Some, None, cond, nat_le}
use Rattle.std.specs.List.{AllZip}
use Rattle.std.specs.FinMap.{get}
use Rattle.std.proofs.lemmas.Bool.Decides.{nat_tests}
use Rattle.host_files.specs.HostState.{Files}
use Rattle.host_runs.specs.Loading.{Wants, Loading, Missing, Long, Whole, IfWhole, loading_of, loading_one, and_then}

-- files within the limits of their names are within the limits alone
pub limits_alone : (wants : Wants) (files : List (List ℕ)) → AllZip (λ (want : List ℕ × ℕ) (file : List ℕ). length file ≤ want.1) wants files →
    AllZip (λ (limit : ℕ) (file : List ℕ). length file ≤ limit) (map (λ want. want.1) wants) files
limits_alone [] [] within = tt
limits_alone [] (file ∷ files) within = absurd within
limits_alone (want ∷ wants) [] within = absurd within
limits_alone (want ∷ wants) (file ∷ files) within = (within.0, limits_alone wants files within.1)

-- each file is within the limit of its name
abbrev pub EachWithin : Wants → List (List ℕ) → Type 0
EachWithin (want ∷ wants) (file ∷ files) = (length file ≤ want.1) × EachWithin wants files
EachWithin wants files = Unit {0}

abbrev Within : Wants → Loading → Type 0
Within wants loading = IfWhole loading (EachWithin wants)

le_of : (x y : ℕ) → nat_le x y ≡ true → x ≤ y
le_of x y e = grind (arith, nat_tests)

within_next : (want : List ℕ × ℕ) (wants : Wants) (bytes : List ℕ) (rest : Loading) → length bytes ≤ want.1 → Within wants rest → Within (want ∷ wants) (and_then bytes rest)
within_next want wants bytes Missing short h = tt
within_next want wants bytes (Long name) short h = tt
within_next want wants bytes (Whole loaded) short h = (short, h)

within_test : (want : List ℕ × ℕ) (wants : Wants) (bytes : List ℕ) (rest : Loading) (b : Bool) → nat_le (length bytes) want.1 ≡ b → Within wants rest →
    Within (want ∷ wants) (cond b (and_then bytes rest) (Long want.0))
within_test want wants bytes rest true e h = within_next want wants bytes rest (le_of (length bytes) want.1 e) h
within_test want wants bytes rest false e h = tt

within_one : (want : List ℕ × ℕ) (wants : Wants) (file : Option (List ℕ)) (rest : Loading) → Within wants rest → Within (want ∷ wants) (loading_one want.0 want.1 file rest)
within_one want wants None rest h = tt
within_one want wants (Some bytes) rest h = within_test want wants bytes rest (nat_le (length bytes) want.1) refl h

-- all that was loaded is
pub loaded_within : (wants : Wants) (files : Files) → IfWhole (loading_of wants files) (EachWithin wants)
loaded_within [] files = tt
loaded_within (want ∷ wants) files = within_one want wants (get files want.0) (loading_of wants files) (loaded_within wants files)
