-- A program that is made has at most 2,000 blocks.
use Rattle.std.proofs.Common.{◌≡◌, ℕ, ◌≤◌, List, [], ◌∷◌, refl, arith, Bool, true, false, cond}
use Rattle.std.specs.Prelude.{Option, Some, None, IfSome, option_map, option_and_then, nat_le, ◌&&◌, bytes_eq, codes}
use Rattle.std.proofs.lemmas.Bool.Decides.{nat_tests}
use Rattle.scale_tool.specs.Command.{Command, Help, Hold, Rewrite, Report, Simulate, Make, Lower, Check, Survey, Tune, command_of, help_of, hold_of, rewrite_of, report_words, simulate_of, make_of, lower_of, check_of, survey_of, tune_of, inputs_of}
use Rattle.scale_tool.specs.Numbers.{digits_within, digits_number}

abbrev pub HasSize : Command → Type 0
HasSize Help = Unit {0}
HasSize (Hold image machine loops out) = Unit {0}
HasSize (Rewrite image machine loops out) = Unit {0}
HasSize (Report image machine loops) = Unit {0}
HasSize (Simulate image machine input out loops) = Unit {0}
HasSize (Make number size prefix) = size ≤ 2000
HasSize (Lower image jumps out) = Unit {0}
HasSize (Check image foreign machine loops) = Unit {0}
HasSize (Survey image scaled machine loops inputs) = Unit {0}
HasSize (Tune image machine loops out inputs) = Unit {0}

-- a number that is within limits is at most the greater one
limited_here : (low high n : ℕ) → IfSome (cond (nat_le low n && nat_le n high) (Some n) None) (λ m. m ≤ high)
limited_here low high n = by_test (nat_le low n) (nat_le n high) refl
  where
    by_test : (a b : Bool) → nat_le n high ≡ b → IfSome (cond (a && b) (Some n) None) (λ m. m ≤ high)
    by_test false b e = tt
    by_test true false e = tt
    by_test true true e = grind (arith, nat_tests)

limited : (low high : ℕ) (o : Option ℕ) → IfSome (option_and_then (λ n. cond (nat_le low n && nat_le n high) (Some n) None) o) (λ m. m ≤ high)
limited low high None = tt
limited low high (Some n) = limited_here low high n

number_limited : (most low high : ℕ) (word : List ℕ) → IfSome (digits_within most low high word) (λ n. n ≤ high)
number_limited most low high word = limited low high (digits_number most word)

make_with : (n : ℕ) (prefix : List ℕ) (o : Option ℕ) → IfSome o (λ s. s ≤ 2000) → IfSome (option_map (λ s. Make n s prefix) o) HasSize
make_with n prefix None h = tt
make_with n prefix (Some s) h = h

make_of_numbers : (prefix : List ℕ) (number size : Option ℕ) → IfSome size (λ s. s ≤ 2000) → IfSome (option_and_then (λ n. option_map (λ s. Make n s prefix) size) number) HasSize
make_of_numbers prefix None size h = tt
make_of_numbers prefix (Some n) size h = make_with n prefix size h

made_size : (words : List (List ℕ)) → IfSome (make_of words) HasSize
made_size (number ∷ size ∷ prefix ∷ []) =
    make_of_numbers prefix (digits_within 20 0 18446744073709551615 number) (digits_within 4 1 2000 size) (number_limited 4 1 2000 size)
made_size words = tt

helped_size : (words : List (List ℕ)) → IfSome (help_of words) HasSize
helped_size [] = tt
helped_size (word ∷ words) = tt

held_size : (words : List (List ℕ)) → IfSome (hold_of words) HasSize
held_size (image ∷ machine ∷ loops ∷ out ∷ []) = tt
held_size words = tt

rewritten_size : (words : List (List ℕ)) → IfSome (rewrite_of words) HasSize
rewritten_size (image ∷ machine ∷ loops ∷ out ∷ []) = tt
rewritten_size words = tt

reported_size : (words : List (List ℕ)) → IfSome (report_words words) HasSize
reported_size (image ∷ machine ∷ loops ∷ []) = tt
reported_size words = tt

simulated_size : (words : List (List ℕ)) → IfSome (simulate_of words) HasSize
simulated_size (image ∷ machine ∷ input ∷ out ∷ []) = tt
simulated_size (image ∷ machine ∷ input ∷ out ∷ loops ∷ []) = tt
simulated_size words = tt

lowered_size : (words : List (List ℕ)) → IfSome (lower_of words) HasSize
lowered_size (image ∷ jumps ∷ out ∷ []) = tt
lowered_size words = tt

checked_size : (words : List (List ℕ)) → IfSome (check_of words) HasSize
checked_size (image ∷ foreign ∷ machine ∷ loops ∷ []) = tt
checked_size words = tt

with_survey : (image scaled machine loops : List ℕ) (o : Option (List (List ℕ))) → IfSome (option_map (λ inputs. Survey image scaled machine loops inputs) o) HasSize
with_survey image scaled machine loops None = tt
with_survey image scaled machine loops (Some inputs) = tt

surveyed_size : (words : List (List ℕ)) → IfSome (survey_of words) HasSize
surveyed_size (image ∷ scaled ∷ machine ∷ loops ∷ words) = with_survey image scaled machine loops (inputs_of words)
surveyed_size words = tt

with_tuning : (image machine loops out : List ℕ) (o : Option (List (List ℕ))) → IfSome (option_map (λ inputs. Tune image machine loops out inputs) o) HasSize
with_tuning image machine loops out None = tt
with_tuning image machine loops out (Some inputs) = tt

tuned_size : (words : List (List ℕ)) → IfSome (tune_of words) HasSize
tuned_size (image ∷ machine ∷ loops ∷ out ∷ words) = with_tuning image machine loops out (inputs_of words)
tuned_size words = tt

either : (b : Bool) (x y : Option Command) → IfSome x HasSize → IfSome y HasSize → IfSome (cond b x y) HasSize
either true x y h k = h
either false x y h k = k

pub command_size : (words : List (List ℕ)) → IfSome (command_of words) HasSize
command_size [] = tt
command_size (word ∷ words) =
    either (bytes_eq word (codes "help")) _ _ (helped_size words)
    (either (bytes_eq word (codes "hold")) _ _ (held_size words)
    (either (bytes_eq word (codes "rewrite")) _ _ (rewritten_size words)
    (either (bytes_eq word (codes "report")) _ _ (reported_size words)
    (either (bytes_eq word (codes "simulate")) _ _ (simulated_size words)
    (either (bytes_eq word (codes "make")) _ _ (made_size words)
    (either (bytes_eq word (codes "lower")) _ _ (lowered_size words)
    (either (bytes_eq word (codes "check")) _ _ (checked_size words)
    (either (bytes_eq word (codes "survey")) _ _ (surveyed_size words)
    (either (bytes_eq word (codes "tune")) (tune_of words) None (tuned_size words) tt)))))))))
