-- The nodes of a script, and how its run may end.
use Rattle.std.specs.Prelude.{◌≡◌, ◌⊎◌, ℕ, slice_get, Some}
use Rattle.hb_tree.specs.declared.parts.Body.{Body}
use Rattle.hb_tree.specs.{Table.Table, TreeAt.tree_at}
use Rattle.hb_tree.specs.Tree.{Tree, TNil, TTrue, TFalse, TSelf, TInt, TText, TVar, TNew, TAssign, TPrint, TToStr, TNot, TBinary, TIf, TWhile, TCall, TDef, TDefComputed}
use Rattle.hb_tree.specs.Tree.{TDeclare, TDeclareComputed, TBlock, Forest, NoTree, Trees}
use Rattle.hb_eval.specs.declared.stop.Outcome.{Outcome}
use Rattle.hb_eval.specs.declared.stop.Outcome.TheVariants as outcome
use Rattle.hb_eval.specs.State.{Answer, Lost, Done, Halt}
use Rattle.hb_sound.specs.Sound.{IsNamed, Rest}

-- n is the node of an expression of the tree, and not of the body of a definition within it
abbrev mutual
  pub IsNodeIn : Tree → ℕ → Type 0
  IsNodeIn (TNil id) n = n ≡ id
  IsNodeIn (TTrue id) n = n ≡ id
  IsNodeIn (TFalse id) n = n ≡ id
  IsNodeIn (TSelf id) n = n ≡ id
  IsNodeIn (TInt id v) n = n ≡ id
  IsNodeIn (TText id x) n = n ≡ id
  IsNodeIn (TVar id x) n = n ≡ id
  IsNodeIn (TNew id c) n = n ≡ id
  IsNodeIn (TAssign id x e) n = (n ≡ id) ⊎ IsNodeIn e n
  IsNodeIn (TPrint id e) n = (n ≡ id) ⊎ IsNodeIn e n
  IsNodeIn (TToStr id e) n = (n ≡ id) ⊎ IsNodeIn e n
  IsNodeIn (TNot id e) n = (n ≡ id) ⊎ IsNodeIn e n
  IsNodeIn (TBinary id o a b) n = (n ≡ id) ⊎ (IsNodeIn a n ⊎ IsNodeIn b n)
  IsNodeIn (TIf id c a b) n = (n ≡ id) ⊎ (IsNodeIn c n ⊎ (IsNodeIn a n ⊎ IsNodeIn b n))
  IsNodeIn (TWhile id c b) n = (n ≡ id) ⊎ (IsNodeIn c n ⊎ IsNodeIn b n)
  IsNodeIn (TCall id r m args) n = (n ≡ id) ⊎ (IsNodeIn r n ⊎ IsNodeAmong args n)
  IsNodeIn (TDef id c m site b) n = n ≡ id
  IsNodeIn (TDefComputed id c e site b) n = (n ≡ id) ⊎ IsNodeIn e n
  IsNodeIn (TDeclare id c m site asks) n = n ≡ id
  IsNodeIn (TDeclareComputed id c e site asks) n = (n ≡ id) ⊎ IsNodeIn e n
  IsNodeIn (TBlock id es) n = IsNodeAmong es n

  pub IsNodeAmong : Forest → ℕ → Type 0
  IsNodeAmong NoTree n = ⊥
  IsNodeAmong (Trees e es) n = IsNodeIn e n ⊎ IsNodeAmong es n

-- a stop is for a named cause, or at one of these nodes
abbrev pub Tame : Rest → (ℕ → Type 0) → Answer → Type 0
Tame Inv Node Lost = Unit {0}
Tame Inv Node (Done v s) = Inv s.next s.journal
Tame Inv Node (Halt e id s) = IsNamed e ⊎ Node id

-- a script ends with a value, or stops for a named cause or at a node of its own block
abbrev pub EndsWell : Tree → Outcome → Type 0
EndsWell block (outcome.Done v) = Unit {0}
EndsWell block (outcome.Stopped e id) = IsNamed e ⊎ IsNodeIn block id.0

-- n is the node of an expression of one of the program's bodies
abbrev pub IsInBody : Table → ℕ → Type 0
IsInBody t n = (site : ℕ) × (b : Body) × (slice_get t.bodies site ≡ Some b) × IsNodeIn (tree_at t b.block.0) n
