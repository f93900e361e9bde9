-- What each sort of phrase does to the work, and what its deeds are: a way through symbols.
use Rattle.std.proofs.Common.{◌≡◌, ℕ, ◌+◌, ◌≤◌, List, [], ◌∷◌, ◌++◌, length, Option, None}
use Rattle.std.specs.{Prelude.IfSome, List.AllByRecursion}
use Rattle.hb_types.specs.declared.{types.Ty.Ty, types.TheConstants.PARAMS_MAX}
use Rattle.hb_tree.specs.declared.limits.TheConstants.{CONSTRUCTS_MAX}
use Rattle.hb_tree.specs.Tree.{Tree, TBlock, Forest}
use Rattle.hb_draft.specs.Unfinished.{forest_of}
use Rattle.hb_grammar.specs.declared.{actions.Action.Action, symbols.Sort.Sort, symbols.Symbol.Symbol, symbols.Symbol.TheVariants.Token as T}
use Rattle.hb_grammar.specs.declared.{symbols.Symbol.TheVariants.Phrase as N, symbols.Symbol.TheVariants.Action as A}
use Rattle.hb_grammar.specs.declared.actions.Action.TheVariants as a
use Rattle.hb_grammar.specs.declared.symbols.Sort.TheVariants as g
use Rattle.hb_build.specs.{Said.Said, Acts.Work}
use Rattle.hb_build.specs.declared.held.Spot.{Spot}
use Rattle.hb_build.specs.Pile.{Slot, Operand, Closed, Word, OfClass, Named, Computed, OfType, Block, items_on, below_items, arguments_on, below_arguments, parameters_on, below_parameters, types_on, below_types}
use Rattle.hb_canonical.specs.Deeds.{Deed, plain, name, class, type_deed}
use Rattle.hb_canonical.proofs.PlainLemmas.{plainly, plain_each, plain_names, plain_types, plain_classes, plain_setup, plain_scripts}
use Rattle.hb_canonical.proofs.ConstructLemmas.{constructs, constructs_all, shielded, enclosed}
use Rattle.hb_canonical.proofs.EffectLemmas.{Later, Moves, Does}

-- ── what phrases do ──

-- The pile has a tree more. Its deeds are those of the phrase behind others that came before, and it fits in where `need` is.
pub record Results (pile : List Slot) (before : Said → List Deed → List Deed) (need : Type 0) (least : ℕ) (w : Work) (ds : List Deed) (v : Work) (es : List Deed) : Type 0 where
  pub tree : Tree
  pub moves : Moves w.said v (Operand tree ∷ pile) w.depth
  pub deeds : (s : Said) → Later v.said s → before s ds ≡ plainly s tree es
  pub fits : need → w.depth + shielded least tree (constructs tree) ≤ CONSTRUCTS_MAX

-- an expression that may stand where its place asks for this level
abbrev pub Pushes : ℕ → Work → List Deed → Work → List Deed → Type 0
Pushes least w ds v es = Results w.pile (λ s rest. rest) (w.depth ≤ CONSTRUCTS_MAX) least w ds v es

-- what goes on behind an expression
abbrev pub Extends : ℕ → ℕ → Work → List Deed → Work → List Deed → Type 0
Extends least most w ds v es = (e : Tree) (pile : List Slot) → w.pile ≡ Operand e ∷ pile
    → Results pile (λ s rest. plainly s e rest) (w.depth + shielded least e (constructs e) ≤ CONSTRUCTS_MAX) most w ds v es

-- what stands behind a name
abbrev pub Follows : Work → List Deed → Work → List Deed → Type 0
Follows w ds v es = (x : ℕ) (q : Spot) (pile : List Slot) → w.pile ≡ Word x q ∷ pile
    → Results pile (λ s rest. name s a.HoldName x ∷ rest) (w.depth ≤ CONSTRUCTS_MAX) 0 w ds v es

-- a block that is complete
pub record Closes (w : Work) (ds : List Deed) (v : Work) (es : List Deed) : Type 0 where
  pub tree : Tree
  pub moves : Moves w.said v (Closed tree ∷ w.pile) w.depth
  pub deeds : (s : Said) → Later v.said s → ds ≡ plainly s tree es
  pub fits : w.depth ≤ CONSTRUCTS_MAX → w.depth + constructs tree ≤ CONSTRUCTS_MAX

-- a block that has its items
pub record Blocks (w : Work) (ds : List Deed) (v : Work) (es : List Deed) : Type 0 where
  pub moves : Moves w.said v v.pile w.depth
  pub below : below_items v.pile ≡ Block ∷ w.pile
  pub deeds : (s : Said) → Later v.said s → ds ≡ plain a.BeginBlock ∷ plain_each s a.AddItem (forest_of (items_on v.pile)) es
  pub fits : w.depth ≤ CONSTRUCTS_MAX → w.depth + constructs_all (forest_of (items_on v.pile)) ≤ CONSTRUCTS_MAX

-- more items of a block, or more arguments of a call
pub record Lists (on : List Slot → List Tree) (below : List Slot → List Slot) (joins : Action) (cost : Forest → ℕ) (w : Work) (ds : List Deed) (v : Work) (es : List Deed) : Type 0 where
  pub more : List Tree
  pub on_is : on v.pile ≡ on w.pile ++ more
  pub below_is : below v.pile ≡ below w.pile
  pub moves : Moves w.said v v.pile w.depth
  pub deeds : (s : Said) → Later v.said s → ds ≡ plain_each s joins (forest_of more) es
  pub fits : w.depth ≤ CONSTRUCTS_MAX → w.depth + cost (forest_of more) ≤ CONSTRUCTS_MAX

abbrev pub ItemsMore : Work → List Deed → Work → List Deed → Type 0
ItemsMore = Lists items_on below_items a.AddItem constructs_all

abbrev pub ArgumentsMore : Work → List Deed → Work → List Deed → Type 0
ArgumentsMore = Lists arguments_on below_arguments a.AddArgument constructs_all

abbrev pub ArgumentsWhole : Work → List Deed → Work → List Deed → Type 0
ArgumentsWhole = Lists arguments_on below_arguments a.AddArgument (λ es. enclosed es (constructs_all es))

-- the end of the first block of an `if`, and the second block
pub record Elses (pile : List Slot) (w : Work) (ds : List Deed) (v : Work) (es : List Deed) : Type 0 where
  pub id : ℕ
  pub tree : Tree
  pub moves : Moves w.said v (Closed tree ∷ Closed (TBlock id (forest_of (items_on w.pile))) ∷ pile) w.depth
  pub deeds : (s : Said) → Later v.said s → ds ≡ plain a.EndBlock ∷ plainly s tree es
  pub fits : w.depth ≤ CONSTRUCTS_MAX → w.depth + constructs tree ≤ CONSTRUCTS_MAX

-- ── methods ──

-- the method of a definition or declaration: its class, and its name or the tree that computes it
pub data Head : Type 0 where
  Plain : ℕ → ℕ → Head
  Computes : ℕ → Tree → Head

abbrev pub slot_of : Head → Slot
slot_of (Plain c m) = Named c m
slot_of (Computes c e) = Computed c e

abbrev pub head_deeds : Said → Head → List Deed → List Deed
head_deeds s (Plain c m) ds = class s a.HoldClass c ∷ name s a.NameMethod m ∷ ds
head_deeds s (Computes c e) ds = class s a.HoldClass c ∷ plainly s e (plain a.ComputeMethod ∷ ds)

abbrev pub head_constructs : Head → ℕ
head_constructs (Plain c m) = 0
head_constructs (Computes c e) = 1 + constructs e

pub record Methods (pile : List Slot) (before : Said → Head → List Deed → List Deed) (w : Work) (ds : List Deed) (v : Work) (es : List Deed) : Type 0 where
  pub head : Head
  pub moves : Moves w.said v (slot_of head ∷ pile) w.depth
  pub deeds : (s : Said) → Later v.said s → before s head ds ≡ head_deeds s head es
  pub fits : w.depth ≤ CONSTRUCTS_MAX → w.depth + head_constructs head ≤ CONSTRUCTS_MAX

abbrev pub MethodNames : Work → List Deed → Work → List Deed → Type 0
MethodNames w ds v es = (c : ℕ) (q : Spot) (pile : List Slot) → w.pile ≡ OfClass c q ∷ pile → Methods pile (λ s head rest. class s a.HoldClass c ∷ rest) w ds v es

-- more parameters of a definition
pub record ParametersMore (w : Work) (ds : List Deed) (v : Work) (es : List Deed) : Type 0 where
  pub more : List ℕ
  pub on_is : parameters_on v.pile ≡ parameters_on w.pile ++ more
  pub below_is : below_parameters v.pile ≡ below_parameters w.pile
  pub moves : Moves w.said v v.pile w.depth
  pub deeds : (s : Said) → Later v.said s → ds ≡ plain_names s more es

pub record TypeWords (w : Work) (ds : List Deed) (v : Work) (es : List Deed) : Type 0 where
  pub type : Ty
  pub moves : Moves w.said v (OfType type ∷ w.pile) w.depth
  pub deeds : (s : Said) → Later v.said s → ds ≡ type_deed s type ∷ es

-- more types of parameters
pub record TypesMore (w : Work) (ds : List Deed) (v : Work) (es : List Deed) : Type 0 where
  pub more : List Ty
  pub on_is : types_on v.pile ≡ types_on w.pile ++ more
  pub below_is : below_types v.pile ≡ below_types w.pile
  pub moves : Moves w.said v v.pile w.depth
  pub deeds : (s : Said) → Later v.said s → ds ≡ plain_types s more es
  pub few : length (types_on w.pile) ≤ PARAMS_MAX → length (types_on v.pile) ≤ PARAMS_MAX

-- the types of the parameters and of the result
pub record Signatures (w : Work) (ds : List Deed) (v : Work) (es : List Deed) : Type 0 where
  pub more : List Ty
  pub result : Ty
  pub pile : List Slot
  pub on_is : types_on pile ≡ types_on w.pile ++ more
  pub below_is : below_types pile ≡ below_types w.pile
  pub moves : Moves w.said v (OfType result ∷ pile) w.depth
  pub deeds : (s : Said) → Later v.said s → ds ≡ plain_types s more (type_deed s result ∷ es)
  pub few : length (types_on w.pile) ≤ PARAMS_MAX → length (types_on pile) ≤ PARAMS_MAX
  pub room : w.depth + 1 ≤ CONSTRUCTS_MAX

-- ── the whole text ──

-- a block that is said fits in
abbrev pub SetupFits : ℕ → Option Tree → Type 0
SetupFits depth setup = IfSome setup (λ b. depth + constructs b ≤ CONSTRUCTS_MAX)

abbrev pub ScriptsFit : ℕ → List (ℕ × Tree) → Type 0
ScriptsFit depth scripts = AllByRecursion (λ script. depth + constructs script.1 ≤ CONSTRUCTS_MAX) scripts

-- more scripts
pub record ScriptsMore (w : Work) (ds : List Deed) (v : Work) (es : List Deed) : Type 0 where
  pub more : List (ℕ × Tree)
  pub later : Later w.said v.said
  pub classes : v.said.classes ≡ w.said.classes
  pub setup : v.said.setup ≡ w.said.setup
  pub scripts : v.said.scripts ≡ w.said.scripts ++ more
  pub pile_is : v.pile ≡ w.pile
  pub depth_is : v.depth ≡ w.depth
  pub deeds : (s : Said) → Later v.said s → ds ≡ plain_scripts s more es
  pub fits : w.depth ≤ CONSTRUCTS_MAX → ScriptsFit w.depth more

-- more classes, and then the setup and the scripts
pub record ClassesMore (w : Work) (ds : List Deed) (v : Work) (es : List Deed) : Type 0 where
  pub first : List (List ℕ)
  pub setup : Option Tree
  pub more : List (ℕ × Tree)
  pub classes : v.said.classes ≡ w.said.classes ++ first
  pub setup_is : w.said.setup ≡ None → v.said.setup ≡ setup
  pub scripts : v.said.scripts ≡ w.said.scripts ++ more
  pub pile_is : v.pile ≡ w.pile
  pub depth_is : v.depth ≡ w.depth
  pub deeds : (s : Said) → Later v.said s → ds ≡ plain_classes first (plain_setup s setup (plain_scripts s more es))
  pub fits_setup : w.depth ≤ CONSTRUCTS_MAX → SetupFits w.depth setup
  pub fits_scripts : w.depth ≤ CONSTRUCTS_MAX → ScriptsFit w.depth more

-- ── each sort ──

abbrev pub Through : Sort → Work → List Deed → Work → List Deed → Type 0
Through g.Program = ClassesMore
Through g.Classes = ClassesMore
Through g.Scripts = ScriptsMore
Through g.Block = Blocks
Through g.Items = ItemsMore
Through g.MoreItems = ItemsMore
Through g.Expression = Pushes 0
Through g.AfterName = Follows
Through g.OtherUnary = Pushes 4
Through g.Method = λ w. Methods w.pile (λ s head rest. rest) w
Through g.MethodName = MethodNames
Through g.Signature = Signatures
Through g.Types = TypesMore
Through g.MoreTypes = TypesMore
Through g.TypeWord = TypeWords
Through g.MoreComparison = Extends 2 0
Through g.Sum = Pushes 2
Through g.MoreSum = Extends 2 2
Through g.Product = Pushes 3
Through g.MoreProduct = Extends 3 3
Through g.Unary = Pushes 4
Through g.MorePostfix = Extends 5 5
Through g.Arguments = ArgumentsWhole
Through g.ArgumentList = ArgumentsMore
Through g.MoreArguments = ArgumentsMore
Through g.ElsePart = λ w ds v es. (pile : List Slot) → below_items w.pile ≡ Block ∷ pile → Elses pile w ds v es
Through g.Parameters = ParametersMore
Through g.MoreParameters = ParametersMore
Through _ = Pushes 5

-- the symbols lead from this work, with these deeds ahead, to where `on` holds
abbrev pub Way : List Symbol → Work → List Deed → (Work → List Deed → Type 0) → Type 0
Way [] w ds on = on w ds
Way (T j ∷ stack) w ds on = Way stack w ds on
Way (A action ∷ stack) w ds on = (v : Work) × (es : List Deed) × Does action w ds v es × Way stack v es on
Way (N sort ∷ stack) w ds on = (v : Work) × (es : List Deed) × Through sort w ds v es × Way stack v es on

-- a way through symbols one behind another
pub way-append : (phrase stack : List Symbol) (w : Work) (ds : List Deed) (on : Work → List Deed → Type 0) → Way (phrase ++ stack) w ds on → Way phrase w ds (λ v es. Way stack v es on)
way-append [] stack w ds on h = h
way-append (T j ∷ phrase) stack w ds on h = way-append phrase stack w ds on h
way-append (A action ∷ phrase) stack w ds on h = (h.0, h.1, h.2, way-append phrase stack h.0 h.1 on h.3)
way-append (N sort ∷ phrase) stack w ds on h = (h.0, h.1, h.2, way-append phrase stack h.0 h.1 on h.3)
