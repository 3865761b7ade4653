-- The fragments of an edge, the edges of a site and the sites of a block, made one after another.
use Rattle.std.proofs.Common.{◌≡◌, ◌≤◌, List, [], ◌∷◌, ◌++◌, length, arith, subst, sym, ◌∙◌, ap}
use Rattle.std.specs.List.{All}
use Rattle.std.proofs.lemmas.List.Elements.{All-nil, All-cons, All-push}
use Rattle.scale_base.specs.declared.fragments.Fragment.{Fragment}
use Rattle.stub_writer.specs.declared.site.StubSite.{StubSite}
use Rattle.stub_writer.specs.declared.site.StubEdge.{StubEdge}
use Rattle.stub_writer.specs.Fragments.{IsFragment}
use Rattle.stub_writer.specs.Sites.{IsEdge, IsSite}

abbrev AreFragments : List Fragment → Type 0
AreFragments fs = (length fs ≤ 17) × All IsFragment fs

pub one_fragment : (f : Fragment) (old new : List Fragment) → old ≡ [] → new ≡ old ++ f ∷ [] → IsFragment f → AreFragments new
one_fragment f old new none more h =
    let e : new ≡ f ∷ [] = more ∙ ap (λ l. l ++ f ∷ []) none in
    subst AreFragments (sym e) (omega arith, All-cons IsFragment f [] h (All-nil IsFragment))

pub one_edge_more : (old new : List StubEdge) (e : StubEdge) → new ≡ old ++ e ∷ [] → IsEdge e → All IsEdge old → All IsEdge new
one_edge_more old new e more h all = subst (All IsEdge) (sym more) (All-push IsEdge old e all h)

pub one_site : (s : StubSite) (old new : List StubSite) → old ≡ [] → new ≡ old ++ s ∷ [] → IsSite s → All IsSite new
one_site s old new none more h =
    let e : new ≡ s ∷ [] = more ∙ ap (λ l. l ++ s ∷ []) none in
    subst (All IsSite) (sym e) (All-cons IsSite s [] h (All-nil IsSite))
