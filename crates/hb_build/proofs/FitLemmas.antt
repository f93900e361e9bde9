-- Stacks that fit stay so where a token is read, a phrase is replaced by one of its alternatives, or an action is done.
use Rattle.std.proofs.Common.{◌≡◌, ℕ, List, [], ◌∷◌, ◌++◌, Option, Some, None, refl, sym, ap, ◌∙◌, subst, append_assoc}
use Rattle.std.proofs.lemmas.Option.{none-some}
use Rattle.hb_lex.specs.declared.kinds.TokenKind.{TokenKind}
use Rattle.hb_grammar.specs.{Grammar.alternatives, Language.IsOneOf, Language.program}
use Rattle.hb_grammar.specs.declared.{actions.Action.Action, symbols.Sort.Sort, symbols.Symbol.Symbol, symbols.Symbol.TheVariants.Token as T}
use Rattle.hb_grammar.specs.declared.{symbols.Symbol.TheVariants.Phrase as N, symbols.Symbol.TheVariants.Action as A}
use Rattle.hb_build.proofs.{SortLemmas.taken, SortLemmas.sort-leads, TopLemmas.Keeps, ActLemmas.acts-keep}
use Rattle.hb_build.specs.declared.held.Spot.{Spot}
use Rattle.hb_build.specs.Acts.{Work, Goes, Lost, act}
use Rattle.hb_build.specs.Needs.{needs, HasToken}
use Rattle.hb_build.specs.Tags.{Tag, taken_by, left_by, takes, leaves}
use Rattle.hb_build.specs.Fits.{State, IsRead, unused, Leads, Fits, Stands}

-- ── less known of the token just read ──

-- an action that stands where no token is known to be read stands also behind one
is_read-more : (need last : Option TokenKind) → IsRead need None → IsRead need last
is_read-more None last h = tt
is_read-more (Some j) last h = absurd (none-some j h)

-- what is read and used, and what is not yet used, with less known
after-more : (stack : List Symbol) (need last : Option TokenKind) (tags end : List Tag) → IsRead need None
    → (Leads stack (record { last = None; tags = tags }) end → Leads stack (record { last = last; tags = tags }) end)
    → Leads stack (record { last = unused need None; tags = tags }) end
    → Leads stack (record { last = unused need last; tags = tags }) end
after-more stack None last tags end read more h = more h
after-more stack (Some j) last tags end read more h = h

pub leads-more : (stack : List Symbol) (last : Option TokenKind) (tags end : List Tag) → Leads stack (record { last = None; tags = tags }) end → Leads stack (record { last = last; tags = tags }) end
leads-more (A done ∷ stack) last tags end h = (
  is_read-more (needs done) last h.0,
  h.1,
  h.2,
  after-more stack (needs done) last (leaves done ++ h.1) end h.0 (leads-more stack last (leaves done ++ h.1) end) h.3,
)
leads-more _ _ _ _ h = h

-- ── a phrase over more tags, before more symbols ──

module _ (stack : List Symbol) (below end : List Tag) where
  -- tags that are taken from the top of some are taken from the top of more
  over : (tags taken rest : List Tag) → tags ≡ taken ++ rest → tags ++ below ≡ taken ++ (rest ++ below)
  over tags taken rest e = ap (λ ts. ts ++ below) e ∙ append_assoc taken rest below

  abbrev Comes : List Symbol → Option TokenKind → List Tag → Type 0
  Comes phrase last tags = Leads (phrase ++ stack) (record { last = last; tags = tags }) end

  pub leads-join : (phrase : List Symbol) (s : State) (middle : List Tag)
      → Leads phrase s middle → Leads stack (record { last = None; tags = middle ++ below }) end
      → Comes phrase s.last (s.tags ++ below)
  leads-join [] s middle h more = leads-more stack s.last (s.tags ++ below) end (subst (λ ts. Comes [] None (ts ++ below)) (sym h) more)
  leads-join (T j ∷ phrase) s middle h more = leads-join phrase (record { last = Some j; tags = s.tags }) middle h more
  leads-join (N sort ∷ phrase) s middle h more = (
    h.0 ++ below,
    over s.tags (taken_by sort) h.0 h.1,
    subst (Comes phrase None) (append_assoc (left_by sort) h.0 below)
        (leads-join phrase (record { last = None; tags = left_by sort ++ h.0 }) middle h.2 more),
  )
  leads-join (A done ∷ phrase) s middle h more = (
    h.0,
    h.1 ++ below,
    over s.tags (takes done) h.1 h.2,
    subst (Comes phrase (unused (needs done) s.last)) (append_assoc (leaves done) h.1 below)
        (leads-join phrase (record { last = unused (needs done) s.last; tags = leaves done ++ h.1 }) middle h.3 more),
  )

-- ── tokens and phrases ──

pub fits-program : Fits program (record { last = None; tags = [] })
fits-program = ([], refl, refl)

module _ (stack : List Symbol) (s : State) where
  pub fits-token : (j : TokenKind) → Fits (T j ∷ stack) s → Fits stack (record { last = Some j; tags = s.tags })
  fits-token j h = h

  pub fits-phrase : (sort : Sort) (phrase : List Symbol) → Fits (N sort ∷ stack) s → IsOneOf (alternatives sort) phrase → Fits (phrase ++ stack) s
  fits-phrase sort phrase h one =
      subst (λ tags. Fits (phrase ++ stack) (record { last = s.last; tags = tags })) (sym h.1)
      (leads-more (phrase ++ stack) s.last (taken_by sort ++ h.0) []
      (leads-join stack h.0 [] phrase (taken sort) (left_by sort) (sort-leads sort phrase one) h.2))

-- ── actions ──

-- where a token is needed it is read, and has what is known of it
needed : (need last : Option TokenKind) (bytes : List ℕ) → IsRead need last → HasToken last bytes → HasToken need bytes
needed None last bytes read h = tt
needed (Some j) last bytes read h = subst (λ x. HasToken x bytes) read h

pub still-known : (need last : Option TokenKind) (bytes : List ℕ) → HasToken last bytes → HasToken (unused need last) bytes
still-known None last bytes h = h
still-known (Some j) last bytes h = tt

-- the action at the front of a stack that fits a pile
module _ (done : Action) (stack : List Symbol) (s : State) (fits : Fits (A done ∷ stack) s) where
  pub fits-has_token : (bytes : List ℕ) → HasToken s.last bytes → HasToken (needs done) bytes
  fits-has_token bytes h = needed (needs done) s.last bytes fits.0 h

  module _ (p : Spot) (bytes : List ℕ) (w : Work) (stands : Stands s.tags w.pile) where
    keeps : Keeps (leaves done ++ fits.1) (act done p bytes w)
    keeps = acts-keep fits.1 p bytes w done (subst (λ tags. Stands tags w.pile) fits.2 stands)

    pub fits-found : act done p bytes w ≡ Lost → ⊥
    fits-found e = subst (Keeps (leaves done ++ fits.1)) e keeps

    pub fits-goes : (v : Work) → act done p bytes w ≡ Goes v
        → (t : State) × Fits stack t × Stands t.tags v.pile × (t.last ≡ unused (needs done) s.last) × (HasToken s.last bytes → HasToken t.last bytes)
    fits-goes v e = (
      record { last = unused (needs done) s.last; tags = leaves done ++ fits.1 },
      fits.3,
      subst (Keeps (leaves done ++ fits.1)) e keeps,
      refl,
      still-known (needs done) s.last bytes,
    )
