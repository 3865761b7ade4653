-- The place of a note in ascending notes, and the least bad one.
use Rattle.std.proofs.Common.{◌≡◌, ℕ, suc, ◌+◌, ◌-◌, ◌<◌, ◌≤◌, Bool, true, false, List, [], ◌∷◌, ◌++◌, length, get_or, take, drop, fold, map, refl, arith, ap, sym, ◌∙◌, add-one, append_assoc, Bor, Option, Some}
use Rattle.std.specs.Prelude.{nat_lt, if◌then◌else◌, insert}
use Rattle.std.proofs.Math.Seq.{drop-cons, take-suc}
use Rattle.std.proofs.lemmas.List.{map-append, take-map, drop-map, length-map, take_all}
use Rattle.std.proofs.Math.ListN.{get_or-map}
use Rattle.std.proofs.lemmas.List.Sums.{fold-append}
use Rattle.std.proofs.lemmas.Bool.{lt-ltb}
use Rattle.std.proofs.lemmas.Bool.Decides.{nat_tests}
use Rattle.jump_lists.specs.declared.notes.JumpNote.{JumpNote}
use Rattle.image_lower.specs.Block.{least_address, lesser_address, insert_note, put_note}

-- ---- a note's place

pick : {A : Type 0} (b : Bool) (x y : A) → b ≡ true → (if b then x else y) ≡ x
pick true x y e = refl
pick false x y e = absurd cc

pass : {A : Type 0} (b : Bool) (x y : A) → b ≡ false → (if b then x else y) ≡ y
pass true x y e = absurd cc
pass false x y e = refl

-- it stands behind the note at k too
pub place_later : (ys : List JumpNote) (k : ℕ) (d note : JumpNote) → k < length ys → nat_lt note.at (get_or ys k d).at ≡ false → insert_note ys note ≡ take k ys ++ insert_note (drop k ys) note →
    insert_note ys note ≡ take (k + 1) ys ++ insert_note (drop (k + 1) ys) note
place_later ys k d note lt behind h =
    let y = get_or ys k d in
    let rest = drop (suc k) ys in
    let cut : drop k ys ≡ y ∷ rest = drop-cons ys k d lt in
    let step : insert_note (drop k ys) note ≡ y ∷ insert_note rest note = ap (λ zs. insert_note zs note) cut ∙ pass (nat_lt note.at y.at) (note ∷ y ∷ rest) (y ∷ insert_note rest note) behind in
    let front : take (suc k) ys ≡ take k ys ++ y ∷ [] = take-suc ys k d lt in
    h ∙ (ap (λ zs. take k ys ++ zs) step ∙ (sym (append_assoc (take k ys) (y ∷ []) (insert_note rest note)) ∙ (ap (λ zs. zs ++ insert_note rest note) (sym front)
    ∙ ap (λ j. take j ys ++ insert_note (drop j ys) note) (sym (add-one k)))))

-- it stands before the note at k
pub place_found : (ys : List JumpNote) (k : ℕ) (d note : JumpNote) → k < length ys → nat_lt note.at (get_or ys k d).at ≡ true → insert_note ys note ≡ take k ys ++ insert_note (drop k ys) note → insert_note ys note ≡ put_note ys k note
place_found ys k d note lt before h =
    let y = get_or ys k d in
    let rest = drop (suc k) ys in
    let cut : drop k ys ≡ y ∷ rest = drop-cons ys k d lt in
    let step : insert_note (drop k ys) note ≡ note ∷ y ∷ rest = ap (λ zs. insert_note zs note) cut ∙ pick (nat_lt note.at y.at) (note ∷ y ∷ rest) (y ∷ insert_note rest note) before in
    h ∙ ap (λ zs. take k ys ++ zs) (step ∙ ap (λ zs. note ∷ zs) (sym cut))

-- ---- in a list of borrowed notes

pub found_in : (sorted : List (Bor JumpNote)) (k : ℕ) (r : Bor JumpNote) (note : JumpNote) (at : ℕ) → k < length sorted → r ≡ get_or sorted k r → at < r.now.at → note.at ≡ at →
    insert_note (map (λ n. n.now) sorted) note ≡ take k (map (λ n. n.now) sorted) ++ insert_note (drop k (map (λ n. n.now) sorted)) note →
    insert_note (map (λ n. n.now) sorted) note ≡ put_note (map (λ n. n.now) sorted) k note
found_in sorted k r note at lt is before same h =
    let f : Bor JumpNote → JumpNote = λ n. n.now in
    let elem : get_or (map f sorted) k r.now ≡ r.now = get_or-map f sorted k r ∙ ap f (sym is) in
    let test : nat_lt note.at (get_or (map f sorted) k r.now).at ≡ true = ap (λ (x : JumpNote). nat_lt note.at x.at) elem ∙ (ap (λ (a : ℕ). nat_lt a r.now.at) same ∙ lt-ltb at r.now.at before) in
    let len = length-map sorted f in
    place_found (map f sorted) k r.now note (omega (arith, lt, len)) test h

pub later_in : (sorted : List (Bor JumpNote)) (k : ℕ) (r : Bor JumpNote) (note : JumpNote) (at : ℕ) → k < length sorted → r ≡ get_or sorted k r → r.now.at ≤ at → note.at ≡ at →
    insert_note (map (λ n. n.now) sorted) note ≡ take k (map (λ n. n.now) sorted) ++ insert_note (drop k (map (λ n. n.now) sorted)) note →
    insert_note (map (λ n. n.now) sorted) note ≡ take (k + 1) (map (λ n. n.now) sorted) ++ insert_note (drop (k + 1) (map (λ n. n.now) sorted)) note
later_in sorted k r note at lt is behind same h =
    let f : Bor JumpNote → JumpNote = λ n. n.now in
    let elem : get_or (map f sorted) k r.now ≡ r.now = get_or-map f sorted k r ∙ ap f (sym is) in
    let off : nat_lt at r.now.at ≡ false = grind (arith, nat_tests) in
    let test : nat_lt note.at (get_or (map f sorted) k r.now).at ≡ false = ap (λ (x : JumpNote). nat_lt note.at x.at) elem ∙ (ap (λ (a : ℕ). nat_lt a r.now.at) same ∙ off) in
    let len = length-map sorted f in
    place_later (map f sorted) k r.now note (omega (arith, lt, len)) test h

-- one note more in its place
pub ascend : (sorted new : List (Bor JumpNote)) (k : ℕ) (b : Bor JumpNote) (notes : List JumpNote) (i : ℕ) (note : JumpNote) → i < length notes → note ≡ get_or notes i note → b.now ≡ note → new ≡ insert sorted k b →
    map (λ n. n.now) sorted ≡ fold insert_note [] (take i notes) → insert_note (map (λ n. n.now) sorted) note ≡ put_note (map (λ n. n.now) sorted) k note → map (λ n. n.now) new ≡ fold insert_note [] (take (i + 1) notes)
ascend sorted new k b notes i note lt is same put before placed =
    let f : Bor JumpNote → JumpNote = λ n. n.now in
    let parts : map f (insert sorted k b) ≡ put_note (map f sorted) k b.now =
    map-append f (take k sorted) (b ∷ drop k sorted) ∙ (ap (λ (xs : List JumpNote). xs ++ b.now ∷ map f (drop k sorted)) (sym (take-map f k sorted)) ∙ ap (λ (xs : List JumpNote). take k (map f sorted) ++ b.now ∷ xs) (sym (drop-map f k sorted))) in
    let longer : take (i + 1) notes ≡ take i notes ++ note ∷ [] = ap (λ (j : ℕ). take j notes) (add-one i) ∙ (take-suc notes i note lt ∙ ap (λ (x : JumpNote). take i notes ++ x ∷ []) (sym is)) in
    ap (map f) put ∙ (parts ∙ (ap (λ (x : JumpNote). put_note (map f sorted) k x) same ∙ (sym placed ∙ (ap (λ (xs : List JumpNote). insert_note xs note) before
    ∙ (sym (fold-append insert_note [] (take i notes) (note ∷ [])) ∙ ap (fold insert_note []) (sym longer))))))

-- ---- the least bad one

pub least_first : (test : JumpNote → Bool) (some : List JumpNote) (first : JumpNote) (later : Option ℕ) → 1 ≤ length some → first ≡ get_or some 0 first → later ≡ least_address test (take (length some - 1) (drop 1 some)) → test first ≡ true →
    Some (lesser_address first.at later) ≡ least_address test some
least_first test [] first later lt is rest bad = absurd (omega (arith, lt))
least_first test (x ∷ xs) first later lt is rest bad =
    let here : test x ≡ true = ap test (sym is) ∙ bad in
    let whole : take (length (x ∷ xs) - 1) xs ≡ xs = take_all (length (x ∷ xs) - 1) xs (omega arith) in
    let rest2 : later ≡ least_address test xs = rest ∙ ap (least_address test) whole in
    ap (λ (n : JumpNote). Some (lesser_address n.at later)) is ∙ (ap (λ (o : Option ℕ). Some (lesser_address x.at o)) rest2 ∙ sym (pick (test x) (Some (lesser_address x.at (least_address test xs))) (least_address test xs) here))

pub least_rest : (test : JumpNote → Bool) (some : List JumpNote) (first : JumpNote) (later : Option ℕ) → 1 ≤ length some → first ≡ get_or some 0 first → later ≡ least_address test (take (length some - 1) (drop 1 some)) → test first ≡ false →
    later ≡ least_address test some
least_rest test [] first later lt is rest good = absurd (omega (arith, lt))
least_rest test (x ∷ xs) first later lt is rest good =
    let here : test x ≡ false = ap test (sym is) ∙ good in
    let whole : take (length (x ∷ xs) - 1) xs ≡ xs = take_all (length (x ∷ xs) - 1) xs (omega arith) in
    rest ∙ ap (least_address test) whole ∙ sym (pass (test x) (Some (lesser_address x.at (least_address test xs))) (least_address test xs) here)
