-- What actions build, one list behind another.
use Rattle.std.proofs.Common.{◌≡◌, ℕ, List, [], ◌∷◌, ◌++◌, refl, sym, ◌∙◌, ap}
use Rattle.hb_lex.specs.declared.spans.Token.{Token}
use Rattle.hb_grammar.specs.Language.{Act}
use Rattle.hb_build.specs.Acts.{Answer, Goes, Fails, Lost, Work}
use Rattle.hb_build.specs.Follow.{act_in, and_then, follow}

then-then : (answer : Answer) (f g : Work → Answer) → and_then (and_then answer f) g ≡ and_then answer (λ w. and_then (f w) g)
then-then (Goes w) f g = refl
then-then (Fails fault) f g = refl
then-then Lost f g = refl

pub then-same : (answer : Answer) (f g : Work → Answer) → ((w : Work) → f w ≡ g w) → and_then answer f ≡ and_then answer g
then-same (Goes w) f g same = same w
then-same (Fails fault) f g same = refl
then-same Lost f g same = refl

pub follow-append : (text : List ℕ) (tokens : List Token) (a b : List Act) (w : Work) → follow text tokens (a ++ b) w ≡ and_then (follow text tokens a w) (follow text tokens b)
follow-append text tokens [] b w = refl
follow-append text tokens (x ∷ a) b w =
    then-same (act_in text tokens x w) (follow text tokens (a ++ b)) (λ v. and_then (follow text tokens a v) (follow text tokens b)) (follow-append text tokens a b)
    ∙ sym (then-then (act_in text tokens x w) (follow text tokens a) (follow text tokens b))

then-goes : (answer : Answer) → and_then answer (λ w. Goes w) ≡ answer
then-goes (Goes w) = refl
then-goes (Fails fault) = refl
then-goes Lost = refl

-- one action more, behind those that go on to here
pub follow-last : (text : List ℕ) (tokens : List Token) (done : List Act) (x : Act) (v w : Work) → follow text tokens done v ≡ Goes w → follow text tokens (done ++ x ∷ []) v ≡ act_in text tokens x w
follow-last text tokens done x v w e =
    follow-append text tokens done (x ∷ []) v ∙ ap (λ (a : Answer). and_then a (follow text tokens (x ∷ []))) e ∙ then-goes (act_in text tokens x w)
