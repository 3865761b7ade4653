-- Each step of a search keeps what it keeps.
use Rattle.std.proofs.Common.{◌≡◌, ◌≢◌, ℕ, ◌+◌, ◌<◌, ◌≤◌, List, [], ◌∷◌, ◌++◌, length, refl, sym, ap, ◌∙◌, subst, arith, Option, Some, None, ⊎_elim, set, get_or-set_same, get_or-set_other, length-append, length-set}
use Rattle.std.specs.Prelude.{◌-◌, suc, slice_index_or}
use Rattle.std.proofs.lemmas.Bool.{cases_eq}
use Rattle.std.proofs.lemmas.List.{get_or_append_left, get_or_read}
use Rattle.std.proofs.Math.Seq.{get_or-append_seam}
use Rattle.graph_algorithms.specs.declared.orders.Arc.{Arc}
use Rattle.graph_algorithms.specs.declared.orders.search.Mark.{Mark}
use Rattle.graph_algorithms.specs.declared.orders.search.Mark.TheVariants.{Unmet, OnPath, Done}
use Rattle.graph_algorithms.specs.Arcs.{HasArc, arc_at, number_in_place}
use Rattle.graph_algorithms.specs.DepthFirst.{mark, arc_next, IsAbove, IsDone, IsSearch, place}

-- the mark of another number stays
kept : (marks : List Mark) (x y : ℕ) (v m n : Mark) → mark marks x ≡ n → mark marks y ≡ m → (m ≡ n → ⊥) → mark (set marks x v) y ≡ m
kept marks x y v m n hx hy ne = get_or-set_other marks x y v Unmet (λ e. ne (sym hy ∙ ap (mark marks) e ∙ hx)) ∙ hy

done_unmet : (j : ℕ) → Done j ≡ Unmet → ⊥
done_unmet j e = let bad : ⊥ = cc in bad

done_path : (j i : ℕ) → Done j ≡ OnPath i → ⊥
done_path j i e = let bad : ⊥ = cc in bad

path_unmet : (i : ℕ) → OnPath i ≡ Unmet → ⊥
path_unmet i e = let bad : ⊥ = cc in bad

path_path : (i j : ℕ) → i < j → OnPath i ≡ OnPath j → ⊥
path_path i j lt e = let k : i ≡ j = cc in let bad : ⊥ = omega arith in bad

length_more : (xs : List ℕ) (x : ℕ) → length (xs ++ x ∷ []) ≡ length xs + 1
length_more xs x = length-append xs (x ∷ [])

-- of numbers with one more at the end
at_end : (xs : List ℕ) (x i : ℕ) → i ≡ length xs → number_in_place (xs ++ x ∷ []) i ≡ x
at_end xs x i e = ap (number_in_place (xs ++ x ∷ [])) e ∙ get_or-append_seam xs x [] 0

at_left : (xs : List ℕ) (x i : ℕ) → i < length xs → number_in_place (xs ++ x ∷ []) i ≡ number_in_place xs i
at_left xs x i lt = get_or_append_left xs (x ∷ []) 0 i lt

arc_along : (arcs : List Arc) (a b c d : ℕ) → a ≡ c → b ≡ d → HasArc arcs a b → HasArc arcs c d
arc_along arcs a b c d ac bd h = (h.0, h.1, h.2 ∙ ac, h.3 ∙ bd)

pub opened : (arcs : List Arc) (before next : List (Option ℕ)) (marks : List Mark) (path order : List ℕ) (x : ℕ) → IsSearch arcs before next marks path order →
    x < length marks → mark marks x ≡ Unmet → ((i : ℕ) → i + 1 ≡ length path → HasArc arcs (number_in_place path i) x) →
    IsSearch arcs before next (set marks x (OnPath (length path))) (path ++ x ∷ []) order
opened arcs before next marks path order x was xl unmet joins =
    let size : length (set marks x (OnPath (length path))) ≡ length marks = length-set marks x (OnPath (length path)) in
    let long : length (path ++ x ∷ []) ≡ length path + 1 = length_more path x in
    let here : mark (set marks x (OnPath (length path))) x ≡ OnPath (length path) = get_or-set_same marks x (OnPath (length path)) Unmet xl in
    record {
      before_size = was.before_size;
      next_size = was.next_size ∙ sym size;
      chain = was.chain;
      path_marked = λ i lt. ⊎_elim
          (λ (e : i ≡ length path). let at = at_end path x i e in
          (subst (λ k. k < length (set marks x (OnPath (length path)))) (sym at) (omega arith), ap (mark (set marks x (OnPath (length path)))) at ∙ here ∙ ap OnPath (sym e)))
          (λ (ne : i ≡ length path → ⊥). let d : i ≢ length path = ne in let il : i < length path = omega arith in let at = at_left path x i il in let o = was.path_marked i il in let ol = o.0 in
          (subst (λ k. k < length (set marks x (OnPath (length path)))) (sym at) (omega arith), ap (mark (set marks x (OnPath (length path)))) at ∙ kept marks x (number_in_place path i) (OnPath (length path)) (OnPath i) Unmet unmet o.1 (path_unmet i)))
          (cases_eq i (length path));
      marked_path = λ y i h. ⊎_elim
          (λ (e : y ≡ x). let q : OnPath (length path) ≡ OnPath i = sym here ∙ ap (mark (set marks x (OnPath (length path)))) (sym e) ∙ h in let k : length path ≡ i = cc in
          (omega arith, at_end path x i (sym k) ∙ sym e))
          (λ (ne : y ≡ x → ⊥). let o = was.marked_path y i (sym (get_or-set_other marks x y (OnPath (length path)) Unmet ne) ∙ h) in let ol = o.0 in
          (omega arith, at_left path x i ol ∙ o.1))
          (cases_eq y x);
      order_marked = λ i lt. let o = was.order_marked i lt in let ol = o.0 in (omega arith, kept marks x (number_in_place order i) (OnPath (length path)) (Done i) Unmet unmet o.1 (done_unmet i));
      marked_order = λ y i h. ⊎_elim
          (λ (e : y ≡ x). absurd (done_path i (length path) (sym h ∙ ap (mark (set marks x (OnPath (length path)))) e ∙ here)))
          (λ (ne : y ≡ x → ⊥). was.marked_order y i (sym (get_or-set_other marks x y (OnPath (length path)) Unmet ne) ∙ h))
          (cases_eq y x);
      path_arcs = λ i lt. let il : i < length path = omega arith in ⊎_elim
          (λ (e : i + 1 ≡ length path). arc_along arcs (number_in_place path i) x (number_in_place (path ++ x ∷ []) i) (number_in_place (path ++ x ∷ []) (i + 1)) (sym (at_left path x i il)) (sym (at_end path x (i + 1) e)) (joins i e))
          (λ (ne : i + 1 ≡ length path → ⊥). let d : i + 1 ≢ length path = ne in let jl : i + 1 < length path = omega arith in
          arc_along arcs (number_in_place path i) (number_in_place path (i + 1)) (number_in_place (path ++ x ∷ []) i) (number_in_place (path ++ x ∷ []) (i + 1)) (sym (at_left path x i il)) (sym (at_left path x (i + 1) jl)) (was.path_arcs i jl))
          (cases_eq (i + 1) (length path));
      done_arcs = λ s i lt h. ⊎_elim
          (λ (e : (arc_at arcs s).from ≡ x). absurd (done_path i (length path) (sym h ∙ ap (mark (set marks x (OnPath (length path)))) e ∙ here)))
          (λ (ne : (arc_at arcs s).from ≡ x → ⊥). let o = was.done_arcs s i lt (sym (get_or-set_other marks x (arc_at arcs s).from (OnPath (length path)) Unmet ne) ∙ h) in
          (o.0, o.1, kept marks x (arc_at arcs s).to (OnPath (length path)) (Done o.0) Unmet unmet o.2 (done_unmet o.0)))
          (cases_eq (arc_at arcs s).from x);
      next_arc = was.next_arc;
      passed = λ s lt ab. let o = was.passed s lt ab in (o.0, kept marks x (arc_at arcs s).to (OnPath (length path)) (Done o.0) Unmet unmet o.1 (done_unmet o.0));
    }

pub closed : (arcs : List Arc) (before next : List (Option ℕ)) (marks : List Mark) (path rest order : List ℕ) (x : ℕ) → IsSearch arcs before next marks path order →
    length rest + 1 ≡ length path → ((i : ℕ) → i < length rest → number_in_place path i ≡ number_in_place rest i) → number_in_place path (length rest) ≡ x → arc_next next x ≡ None →
    IsSearch arcs before next (set marks x (Done (length order))) rest (order ++ x ∷ [])
closed arcs before next marks path rest order x was long same end over =
    let new : List Mark = set marks x (Done (length order)) in
    let size : length (set marks x (Done (length order))) ≡ length marks = length-set marks x (Done (length order)) in
    let more : length (order ++ x ∷ []) ≡ length order + 1 = length_more order x in
    let last = was.path_marked (length rest) (omega arith) in
    let xl : x < length marks = subst (λ k. k < length marks) end last.0 in
    let on : mark marks x ≡ OnPath (length rest) = ap (mark marks) (sym end) ∙ last.1 in
    let here : mark (set marks x (Done (length order))) x ≡ Done (length order) = get_or-set_same marks x (Done (length order)) Unmet xl in
    record {
      before_size = was.before_size;
      next_size = was.next_size ∙ sym size;
      chain = was.chain;
      path_marked = λ i lt. let at = same i lt in let o = was.path_marked i (omega arith) in let ol = o.0 in (
        subst (λ k. k < length (set marks x (Done (length order)))) at (omega arith),
        ap (mark (set marks x (Done (length order)))) (sym at) ∙ kept marks x (number_in_place path i) (Done (length order)) (OnPath i) (OnPath (length rest)) on o.1 (path_path i (length rest) lt),
      );
      marked_path = λ y i h. ⊎_elim
          (λ (e : y ≡ x). absurd (done_path (length order) i (sym here ∙ ap (mark (set marks x (Done (length order)))) (sym e) ∙ h)))
          (λ (ne : y ≡ x → ⊥). let o = was.marked_path y i (sym (get_or-set_other marks x y (Done (length order)) Unmet ne) ∙ h) in let ol = o.0 in ⊎_elim
          (λ (e : i ≡ length rest). absurd (ne (sym o.1 ∙ ap (number_in_place path) e ∙ end)))
          (λ (ni : i ≡ length rest → ⊥). let d : i ≢ length rest = ni in let il : i < length rest = omega arith in (il, sym (same i il) ∙ o.1))
          (cases_eq i (length rest)))
          (cases_eq y x);
      order_marked = λ i lt. ⊎_elim
          (λ (e : i ≡ length order). let at = at_end order x i e in
          (subst (λ k. k < length (set marks x (Done (length order)))) (sym at) (omega arith), ap (mark (set marks x (Done (length order)))) at ∙ here ∙ ap Done (sym e)))
          (λ (ne : i ≡ length order → ⊥). let d : i ≢ length order = ne in let il : i < length order = omega arith in let at = at_left order x i il in let o = was.order_marked i il in let ol = o.0 in
          (subst (λ k. k < length (set marks x (Done (length order)))) (sym at) (omega arith), ap (mark (set marks x (Done (length order)))) at ∙ kept marks x (number_in_place order i) (Done (length order)) (Done i) (OnPath (length rest)) on o.1 (done_path i (length rest))))
          (cases_eq i (length order));
      marked_order = λ y i h. ⊎_elim
          (λ (e : y ≡ x). let q : Done (length order) ≡ Done i = sym here ∙ ap (mark (set marks x (Done (length order)))) (sym e) ∙ h in let k : length order ≡ i = cc in
          (omega arith, at_end order x i (sym k) ∙ sym e))
          (λ (ne : y ≡ x → ⊥). let o = was.marked_order y i (sym (get_or-set_other marks x y (Done (length order)) Unmet ne) ∙ h) in let ol = o.0 in
          (omega arith, at_left order x i ol ∙ o.1))
          (cases_eq y x);
      path_arcs = λ i lt. let il : i < length rest = omega arith in
          arc_along arcs (number_in_place path i) (number_in_place path (i + 1)) (number_in_place rest i) (number_in_place rest (i + 1)) (same i il) (same (i + 1) lt) (was.path_arcs i (omega arith));
      done_arcs = λ s i lt h. ⊎_elim
          (λ (e : (arc_at arcs s).from ≡ x).
          let q : Done (length order) ≡ Done i = sym here ∙ ap (mark (set marks x (Done (length order)))) (sym e) ∙ h in let k : length order ≡ i = cc in
          let o : IsDone marks (arc_at arcs s).to = was.passed s lt (subst (λ o. IsAbove o s) (sym (ap (arc_next next) e ∙ over)) tt) in
          let m = (was.marked_order (arc_at arcs s).to o.0 o.1).0 in
          (o.0, omega arith, kept marks x (arc_at arcs s).to (Done (length order)) (Done o.0) (OnPath (length rest)) on o.1 (done_path o.0 (length rest))))
          (λ (ne : (arc_at arcs s).from ≡ x → ⊥). let o = was.done_arcs s i lt (sym (get_or-set_other marks x (arc_at arcs s).from (Done (length order)) Unmet ne) ∙ h) in
          (o.0, o.1, kept marks x (arc_at arcs s).to (Done (length order)) (Done o.0) (OnPath (length rest)) on o.2 (done_path o.0 (length rest))))
          (cases_eq (arc_at arcs s).from x);
      next_arc = was.next_arc;
      passed = λ s lt ab. let o = was.passed s lt ab in (o.0, kept marks x (arc_at arcs s).to (Done (length order)) (Done o.0) (OnPath (length rest)) on o.1 (done_path o.0 (length rest)));
    }

pub advanced : (arcs : List Arc) (before next : List (Option ℕ)) (marks : List Mark) (path order : List ℕ) (x s : ℕ) → IsSearch arcs before next marks path order →
    x < length marks → arc_next next x ≡ Some s → IsDone marks (arc_at arcs s).to →
    IsSearch arcs before (set next x (arc_next before s)) marks path order
advanced arcs before next marks path order x s was xl at done =
    let size : length (set next x (arc_next before s)) ≡ length next = length-set next x (arc_next before s) in
    let arc = was.next_arc x s at in
    let here : arc_next (set next x (arc_next before s)) x ≡ arc_next before s = get_or-set_same next x (arc_next before s) None (let k = was.next_size in omega arith) in
    record {
      before_size = was.before_size;
      next_size = size ∙ was.next_size;
      chain = was.chain;
      path_marked = was.path_marked;
      marked_path = was.marked_path;
      order_marked = was.order_marked;
      marked_order = was.marked_order;
      path_arcs = was.path_arcs;
      done_arcs = was.done_arcs;
      next_arc = λ y r h. ⊎_elim
          (λ (e : y ≡ x). let o = was.chain.arc s r arc.0 (sym here ∙ ap (arc_next (set next x (arc_next before s))) (sym e) ∙ h) in let a = o.0 in let b = arc.0 in (omega arith, o.1 ∙ arc.1 ∙ sym e))
          (λ (ne : y ≡ x → ⊥). was.next_arc y r (sym (get_or-set_other next x y (arc_next before s) None ne) ∙ h))
          (cases_eq y x);
      passed = λ r lt ab. ⊎_elim
          (λ (e : (arc_at arcs r).from ≡ x).
          let le : s ≤ r = was.chain.none_between s r arc.0 lt (e ∙ sym arc.1) (subst (λ o. IsAbove o r) (ap (arc_next (set next x (arc_next before s))) e ∙ here) ab) in ⊎_elim
          (λ (k : r ≡ s). subst (λ k. IsDone marks (arc_at arcs k).to) (sym k) done)
          (λ (nk : r ≡ s → ⊥). let d : r ≢ s = nk in let sr : s < r = omega arith in was.passed r lt (subst (λ o. IsAbove o r) (sym (ap (arc_next next) e ∙ at)) sr))
          (cases_eq r s))
          (λ (ne : (arc_at arcs r).from ≡ x → ⊥). was.passed r lt (subst (λ o. IsAbove o r) (get_or-set_other next x (arc_at arcs r).from (arc_next before s) None ne) ab))
          (cases_eq (arc_at arcs r).from x);
    }

-- the arc from the end of the path
pub record IsTop (arcs : List Arc) (next : List (Option ℕ)) (marks : List Mark) (path : List ℕ) (x s : ℕ) : Type 0 where
  pub within : x < length marks
  pub end : (i : ℕ) → i + 1 ≡ length path → x ≡ number_in_place path i
  pub next_arc : arc_next next x ≡ Some s
  pub arc : s < length arcs
  pub from : (arc_at arcs s).from ≡ x

pub top_arc : (arcs : List Arc) (before next : List (Option ℕ)) (marks : List Mark) (path order : List ℕ) (n x s : ℕ) (o : Option ℕ) → IsSearch arcs before next marks path order →
    0 < length path → n ≡ length path → x ≡ slice_index_or path (n - 1) x → o ≡ slice_index_or next x o → o ≡ Some s → IsTop arcs next marks path x s
top_arc arcs before next marks path order n x s o was some size at found is =
    let e : x ≡ number_in_place path (n - 1) = get_or_read path (n - 1) x (omega arith) at 0 in
    let m = was.path_marked (n - 1) (omega arith) in
    let xl : x < length marks = subst (λ k. k < length marks) (sym e) m.0 in
    let read : arc_next next x ≡ Some s = sym (get_or_read next x o (let k = was.next_size in omega arith) found None) ∙ is in
    let arc = was.next_arc x s read in
    record {
      within = xl;
      end = λ i k. e ∙ ap (number_in_place path) (let r : n - 1 ≡ i = omega arith in r);
      next_arc = read;
      arc = arc.0;
      from = arc.1;
    }

pub place_less : (o : Option ℕ) (s : ℕ) → ((r : ℕ) → o ≡ Some r → r < s) → place o < suc s
place_less None s h = omega arith
place_less (Some r) s h = let lt = h r refl in omega arith
