-- Stacks of symbols that fit a pile: no action on the way is lost, and each stands behind the token that it needs.
use Rattle.std.specs.Prelude.{◌≡◌, List, [], ◌∷◌, ◌++◌, Option, Some, None}
use Rattle.hb_lex.specs.declared.kinds.TokenKind.{TokenKind}
use Rattle.hb_grammar.specs.declared.{symbols.Symbol.Symbol, symbols.Symbol.TheVariants.Token as T, symbols.Symbol.TheVariants.Phrase as N, symbols.Symbol.TheVariants.Action as A}
use Rattle.hb_build.specs.Needs.{needs}
use Rattle.hb_build.specs.Pile.{Slot, Operand, Closed, Item, Argument, Own, Declaring, Word, Target, Called, OfClass, Named, Computed, Parameter, OfType, ParameterType, Block, Body, Setup, Script}
use Rattle.hb_build.specs.Tags.{Tag, taken_by, left_by, takes, leaves}
use Rattle.hb_build.specs.Tags as tag

-- ── piles ──

-- parameters lie only over a method to be defined, and their types only over one to be declared
abbrev pub IsOverOwn : List Tag → Type 0
IsOverOwn (tag.Own ∷ tags) = Unit {0}
IsOverOwn _ = ⊥

abbrev pub IsOverDeclaring : List Tag → Type 0
IsOverDeclaring (tag.Declaring ∷ tags) = Unit {0}
IsOverDeclaring _ = ⊥

-- the pile, from the top to its end, is what the tags say
abbrev pub Stands : List Tag → List Slot → Type 0
Stands [] [] = Unit {0}
Stands (tag.Operand ∷ tags) (Operand e ∷ pile) = Stands tags pile
Stands (tag.Closed ∷ tags) (Closed b ∷ pile) = Stands tags pile
Stands (tag.Own ∷ tags) (Own p ∷ pile) = Stands tags pile
Stands (tag.Declaring ∷ tags) (Declaring p ∷ pile) = Stands tags pile
Stands (tag.Word ∷ tags) (Word x p ∷ pile) = Stands tags pile
Stands (tag.Target ∷ tags) (Target x p ∷ pile) = Stands tags pile
Stands (tag.OfClass ∷ tags) (OfClass c p ∷ pile) = Stands tags pile
Stands (tag.OfType ∷ tags) (OfType y ∷ pile) = Stands tags pile
Stands (tag.Items ∷ tags) (Item e ∷ pile) = Stands (tag.Items ∷ tags) pile
Stands (tag.Items ∷ tags) (Block ∷ pile) = Stands tags pile
Stands (tag.Arguments ∷ tags) (Argument e ∷ pile) = Stands (tag.Arguments ∷ tags) pile
Stands (tag.Arguments ∷ tags) (Called m p ∷ pile) = Stands tags pile
Stands (tag.Method ∷ tags) (Parameter x ∷ pile) = IsOverOwn tags × Stands (tag.Method ∷ tags) pile
Stands (tag.Method ∷ tags) (ParameterType y ∷ pile) = IsOverDeclaring tags × Stands (tag.Method ∷ tags) pile
Stands (tag.Method ∷ tags) (Named c m ∷ pile) = Stands tags pile
Stands (tag.Method ∷ tags) (Computed c e ∷ pile) = Stands tags pile
Stands (tag.Body ∷ tags) (Body ∷ pile) = Stands tags pile
Stands (tag.Setup ∷ tags) (Setup ∷ pile) = Stands tags pile
Stands (tag.Script ∷ tags) (Script x ∷ pile) = Stands tags pile
Stands _ _ = ⊥

-- ── stacks ──

-- the kind of the token just read, where it is not yet used, and the tags of the pile
pub record State : Type 0 where
  pub last : Option TokenKind
  pub tags : List Tag

-- a token of this kind was just read, where one is needed
abbrev pub IsRead : Option TokenKind → Option TokenKind → Type 0
IsRead None last = Unit {0}
IsRead (Some j) last = last ≡ Some j

-- it is used then
abbrev pub unused : Option TokenKind → Option TokenKind → Option TokenKind
unused None last = last
unused (Some j) last = None

-- The symbols lead from the state to these tags: each takes its tags from the top and leaves others, and each action has
-- the token that it needs.
abbrev pub Leads : List Symbol → State → List Tag → Type 0
Leads [] s end = s.tags ≡ end
Leads (T j ∷ stack) s end = Leads stack (record { last = Some j; tags = s.tags }) end
Leads (N sort ∷ stack) s end = (rest : List Tag) × (s.tags ≡ taken_by sort ++ rest) × Leads stack (record { last = None; tags = left_by sort ++ rest }) end
Leads (A a ∷ stack) s end = IsRead (needs a) s.last × (rest : List Tag) × (s.tags ≡ takes a ++ rest) × Leads stack (record { last = unused (needs a) s.last; tags = leaves a ++ rest }) end

-- they lead to the end of the pile
abbrev pub Fits : List Symbol → State → Type 0
Fits stack s = Leads stack s []
