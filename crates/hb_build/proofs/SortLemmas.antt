-- Each alternative of a sort leads from the tags that the sort takes to those that it leaves, by computing.
use Rattle.std.proofs.Common.{◌≡◌, List, [], ◌∷◌, ◌++◌, true, Option, Some, None, inl, inr, refl, sym, subst, true≢false, ap₂}
use Rattle.std.specs.{List.AllByRecursion, Option.is_some}
use Rattle.hb_lex.specs.declared.kinds.TokenKind.{TokenKind}
use Rattle.hb_lex.specs.declared.kinds.TokenKind.TheVariants as k
use Rattle.hb_grammar.specs.{Grammar.alternatives, Language.IsOneOf}
use Rattle.hb_grammar.specs.declared.{symbols.Sort.Sort, symbols.Symbol.Symbol, symbols.Symbol.TheVariants.Token as T, symbols.Symbol.TheVariants.Phrase as N}
use Rattle.hb_grammar.specs.declared.{symbols.Symbol.TheVariants.Action as A}
use Rattle.hb_grammar.specs.declared.symbols.Sort.TheVariants as g
use Rattle.hb_build.specs.Needs.{needs}
use Rattle.hb_build.specs.Tags.{Tag, Operand, Closed, Own, Declaring, Word, Target, OfClass, OfType, Items, Arguments, Method, Body, Setup, Script, taken_by, left_by, takes, leaves}
use Rattle.hb_build.specs.Fits.{State, IsRead, unused, Leads}

-- ── tests that give what they find ──

abbrev and_then : {X Y : Type 0} → Option X → (X → Option Y) → Option Y
and_then None go = None
and_then (Some x) go = go x

found : {X : Type 0} (test : Option X) → is_some test ≡ true → X
found None e = absurd (true≢false (sym e))
found (Some x) e = x

abbrev same_tag : (t u : Tag) → Option (t ≡ u)
same_tag Operand Operand = Some refl
same_tag Closed Closed = Some refl
same_tag Own Own = Some refl
same_tag Declaring Declaring = Some refl
same_tag Word Word = Some refl
same_tag Target Target = Some refl
same_tag OfClass OfClass = Some refl
same_tag OfType OfType = Some refl
same_tag Items Items = Some refl
same_tag Arguments Arguments = Some refl
same_tag Method Method = Some refl
same_tag Body Body = Some refl
same_tag Setup Setup = Some refl
same_tag Script Script = Some refl
same_tag _ _ = None

abbrev same_tags : (tags end : List Tag) → Option (tags ≡ end)
same_tags [] [] = Some refl
same_tags (t ∷ tags) (u ∷ end) = and_then (same_tag t u) (λ e. and_then (same_tags tags end) (λ h. Some (ap₂ (λ x xs. x ∷ xs) e h)))
same_tags _ _ = None

-- the tags below those that are taken
abbrev split : (tags taken : List Tag) → Option ((rest : List Tag) × (tags ≡ taken ++ rest))
split tags [] = Some (tags, refl)
split [] (u ∷ taken) = None
split (t ∷ tags) (u ∷ taken) = and_then (same_tag t u) (λ e. and_then (split tags taken) (λ h. Some (h.0, ap₂ (λ x xs. x ∷ xs) e h.1)))

abbrev is_read : (need last : Option TokenKind) → Option (IsRead need last)
is_read None last = Some tt
is_read (Some k.Name) (Some k.Name) = Some refl
is_read (Some k.ClassName) (Some k.ClassName) = Some refl
is_read (Some k.Number) (Some k.Number) = Some refl
is_read (Some k.Text) (Some k.Text) = Some refl
is_read _ _ = None

abbrev does_lead : (stack : List Symbol) (s : State) (end : List Tag) → Option (Leads stack s end)
does_lead [] s end = same_tags s.tags end
does_lead (T j ∷ stack) s end = does_lead stack (record { last = Some j; tags = s.tags }) end
does_lead (N sort ∷ stack) s end =
    and_then (split s.tags (taken_by sort)) (λ h.
    and_then (does_lead stack (record { last = None; tags = left_by sort ++ h.0 }) end) (λ more.
    Some (h.0, h.1, more)))
does_lead (A done ∷ stack) s end =
    and_then (is_read (needs done) s.last) (λ read.
    and_then (split s.tags (takes done)) (λ h.
    and_then (does_lead stack (record { last = unused (needs done) s.last; tags = leaves done ++ h.0 }) end) (λ more.
    Some (read, h.0, h.1, more))))

-- ── the alternatives ──

abbrev pub taken : Sort → State
taken sort = record { last = None; tags = taken_by sort }

abbrev AllLead : Sort → List (List Symbol) → Type 0
AllLead sort = AllByRecursion (λ phrase. Leads phrase (taken sort) (left_by sort))

abbrev do_lead : (sort : Sort) (phrases : List (List Symbol)) → Option (AllLead sort phrases)
do_lead sort [] = Some tt
do_lead sort (phrase ∷ more) = and_then (does_lead phrase (taken sort) (left_by sort)) (λ h. and_then (do_lead sort more) (λ k. Some (h, k)))

-- the grammar's table
table : (sort : Sort) → is_some (do_lead sort (alternatives sort)) ≡ true
table g.Program = refl
table _ = refl

-- one of the phrases leads where each does
one-leads : (sort : Sort) (phrases : List (List Symbol)) → AllLead sort phrases → (phrase : List Symbol) → IsOneOf phrases phrase → Leads phrase (taken sort) (left_by sort)
one-leads sort [] h phrase one = absurd one
one-leads sort (first ∷ more) h phrase (inl e) = subst (λ x. Leads x (taken sort) (left_by sort)) (sym e) h.0
one-leads sort (first ∷ more) h phrase (inr one) = one-leads sort more h.1 phrase one

pub sort-leads : (sort : Sort) (phrase : List Symbol) → IsOneOf (alternatives sort) phrase → Leads phrase (taken sort) (left_by sort)
sort-leads sort phrase one = one-leads sort (alternatives sort) (found (do_lead sort (alternatives sort)) (table sort)) phrase one
