-- Worked rows of the canonical text: trees, and how they are written.
use Rattle.std.proofs.Common.{◌++◌, pos, ◌≡◌, ℕ, List, [], ◌∷◌, None, false, true, refl}
use Rattle.std.specs.{Prelude.codes, Prelude.decimal, List.AllByRecursion}
use Rattle.hb_types.specs.declared.types.Ty.TheVariants as ty
use Rattle.hb_tree.specs.{Table.Table, Pieces.spell, Canon.own}
use Rattle.hb_tree.specs.declared.node.Op.TheVariants as op
use Rattle.hb_tree.specs.Tree.{Tree, TNil, TTrue, TFalse, TSelf, TInt, TText, TVar, TNew, TAssign, TPrint, TToStr, TNot, TBinary, TIf, TWhile, TCall, TDef, TDefComputed, TDeclare, TDeclareComputed, TBlock, NoTree, Trees}

-- a class `A`, names and a text, a body with two parameters and one with none, and a type
abbrev table : Table
table = record {
  classes = codes "A" ∷ [];
  names = codes "a" ∷ codes "b" ∷ codes "c" ∷ codes "m" ∷ [];
  texts = (34 ∷ 92 ∷ 10 ∷ 9 ∷ 65 ∷ []) ∷ [];
  nodes = [];
  items = [];
  bodies =
      record { def = record { 0 = 0 }; block = record { 0 = 0 }; count = 2; params = record { 0 = 0 } ∷ record { 0 = 1 } ∷ record { 0 = 0 } ∷ record { 0 = 0 } ∷ [] }
      ∷ record { def = record { 0 = 0 }; block = record { 0 = 0 }; count = 0; params = record { 0 = 0 } ∷ record { 0 = 0 } ∷ record { 0 = 0 } ∷ record { 0 = 0 } ∷ [] }
      ∷ [];
  types =
      (record { count = 2; params = ty.Int ∷ ty.Class (record { 0 = 0 }) ∷ ty.Nil ∷ ty.Nil ∷ []; result = ty.Any }, record { 0 = 0 })
      ∷ (record { count = 0; params = ty.Nil ∷ ty.Nil ∷ ty.Nil ∷ ty.Nil ∷ []; result = ty.Bool }, record { 0 = 0 })
      ∷ [];
  setup = None;
  scripts = [];
}

abbrev a : Tree
a = TVar 0 0

abbrev b : Tree
b = TVar 0 1

abbrev c : Tree
c = TVar 0 2

abbrev nothing : Tree
nothing = TBlock 0 NoTree

abbrev one : Tree → Tree
one e = TBlock 0 (Trees e NoTree)

abbrev two : Tree → Tree → Tree
two d e = TBlock 0 (Trees d (Trees e NoTree))

abbrev rows : List (Tree × List ℕ)
rows =
    (TBinary 0 op.Mul (TBinary 0 op.Add a b) c, codes "(a + b) * c")
    ∷ (TBinary 0 op.Add (TBinary 0 op.Mul a b) c, codes "a * b + c")
    ∷ (TBinary 0 op.Sub (TBinary 0 op.Sub a b) c, codes "a - b - c")
    ∷ (TBinary 0 op.Sub a (TBinary 0 op.Concat b c), codes "a - (b ++ c)")
    ∷ (TBinary 0 op.Mul a (TBinary 0 op.Mul b c), codes "a * (b * c)")
    ∷ (TBinary 0 op.Less (TBinary 0 op.Add a b) (TBinary 0 op.Equal b c), codes "a + b < (b == c)")
    ∷ (TNot 0 (TBinary 0 op.Equal a b), codes "not (a == b)")
    ∷ (TBinary 0 op.Mul (TNot 0 a) (TNot 0 (TNot 0 b)), codes "not a * not not b")
    ∷ (TCall 0 (TNot 0 a) 3 NoTree, codes "(not a).m")
    ∷ (TNot 0 (TCall 0 a 3 (Trees (TAssign 0 0 b) (Trees (TPrint 0 c) NoTree))), codes "not a.m(a = b, print c)")
    ∷ (TBinary 0 op.Add (TPrint 0 a) (TAssign 0 1 c), codes "(print a) + (b = c)")
    ∷ (TPrint 0 (TAssign 0 0 (TBinary 0 op.Less a b)), codes "print a = a < b")
    ∷ (TToStr 0 (TBinary 0 op.Concat (TText 0 0) a), codes "str(\"\\\"\\\\\\n\\tA\" ++ a)")
    ∷ (TCall 0 (TCall 0 (TNew 0 0) 3 NoTree) 3 (Trees (TSelf 0) NoTree), codes "A.new.m.m(self)")
    ∷ (TIf 0 a nothing nothing, codes "if a then end")
    ∷ (TIf 0 a (two b c) (one (TNil 0)), codes "if a then b; c else nil end")
    ∷ (TCall 0 (TIf 0 a nothing (two (TTrue 0) (TFalse 0))) 3 NoTree, codes "if a then else true; false end.m")
    ∷ (TWhile 0 a (one (TWhile 0 b nothing)), codes "while a do while b do end end")
    ∷ (TDef 0 0 3 0 (two a b), codes "def A.m(a, b) a; b end")
    ∷ (TDef 0 0 3 1 nothing, codes "def A.m() end")
    ∷ (TDefComputed 0 0 (TBinary 0 op.Concat a b) 0 (one a), codes "def A.(a ++ b)(a, b) a end")
    ∷ (TDeclare 0 0 3 0 false, codes "type A.m : (Int, A) -> Any")
    ∷ (TNot 0 (TDeclare 0 0 3 1 true), codes "not (type? A.m : () -> Bool)")
    ∷ (TAssign 0 0 (TBinary 0 op.Sub (TInt 0 (pos 12)) a), codes "a = " ++ decimal 12 ++ codes " - a")
    ∷ (TDeclareComputed 0 0 a 1 true, codes "type? A.(a) : () -> Bool")
    ∷ []
