-- How long pieces are when they are spelled.
use Rattle.std.proofs.Common.{◌≡◌, ℕ, ◌<◌, ◌≤◌, ◌+◌, ◌*◌, ◌^◌, List, [], ◌∷◌, ◌++◌, map, length, take, Option, Some, None, refl, arith, length-append, Bool, true, false}
use Rattle.std.specs.Prelude.{if◌then◌else◌, ◌&&◌, codes, slice_get, nat_eq, nat_lt}
use Rattle.std.specs.{List.AllByRecursion, List.flat_map, Fmt.decimal}
use Rattle.std.proofs.{lemmas.List.length-take, lemmas.List.length-map, lemmas.Fmt.length-decimal-le}
use Rattle.hb_lex.specs.declared.kinds.TokenKind.TheVariants as k
use Rattle.hb_types.specs.declared.{types.Ty.Ty, types.MethodTy.MethodTy}
use Rattle.hb_types.specs.declared.types.Ty.TheVariants as ty
use Rattle.hb_types.specs.Types.{params_of as param_types_of}
use Rattle.hb_tree.proofs.{Lists.each_at, Reached.total, Reached.total-append}
use Rattle.hb_tree.specs.{Table.Table, Nodes.params_of, Program.IsSpelled}
use Rattle.hb_tree.specs.declared.{node.Op.Op, parts.Body.Body}
use Rattle.hb_tree.specs.declared.node.Op.TheVariants as op
use Rattle.hb_tree.specs.{Tree.Tree, Tree.TBlock, Tree.NoTree, Spelling.IsName, Spelling.IsClassName, Spelling.IsText}
use Rattle.hb_tree.specs.Pieces.{Piece, mark, joined_paren, spell_behind}
use Rattle.hb_tree.specs.Canon.{escape, quoted, bytes_at, name_piece, type_piece, op_kind, declares, level, wrap, separated, signature_of, parameters_of, otherwise}

-- the bytes of a piece and one for a space
abbrev pub breadth : Piece → ℕ
breadth p = 1 + length p.bytes

abbrev pub weight : List Piece → ℕ
weight ps = total breadth ps

pub weight-append : (ps qs : List Piece) → weight (ps ++ qs) ≡ weight ps + weight qs
weight-append = total-append breadth

-- the space where one may stand
abbrev gap : Bool → List ℕ
gap b = if b then 32 ∷ [] else []

gap-le : (b : Bool) → length (gap b) ≤ 1
gap-le true = omega arith
gap-le false = omega arith

pub spell-le : (spaced : Bool) (ps : List Piece) → length (spell_behind spaced ps) ≤ weight ps
spell-le spaced [] = omega arith
spell-le spaced (p ∷ ps) =
    let rest = spell-le p.behind ps in
    let space = gap-le (spaced && p.before) in
    let all = length-append (gap (spaced && p.before) ++ p.bytes) (spell_behind p.behind ps) in
    let head = length-append (gap (spaced && p.before)) p.bytes in
    omega arith

-- a word that is found keeps what each word keeps
at-le : (most : ℕ) (words : List (List ℕ)) (i : ℕ) → AllByRecursion (λ w. length w ≤ most) words → length (bytes_at words i) ≤ most
at-le most words i all = go (slice_get words i) refl
  where
    go : (o : Option (List ℕ)) → slice_get words i ≡ o → length (bytes_at words i) ≤ most
    go None e = rw e (omega arith)
    go (Some w) e = rw e (each_at (λ w'. length w' ≤ most) words i w e all)

words-short : (P : List ℕ → Type 0) (most : ℕ) (words : List (List ℕ)) → ((w : List ℕ) → P w → length w ≤ most) → AllByRecursion P words → AllByRecursion (λ w. length w ≤ most) words
words-short P most [] short h = tt
words-short P most (w ∷ words) short h = (short w h.0, words-short P most words short h.1)

escape-le : (b : ℕ) → length (escape b) ≤ 2
escape-le b = go (nat_eq b 34) (nat_eq b 92) (nat_eq b 10) (nat_eq b 9)
  where
    go : (q s n t : Bool) → length (if q then codes "\\\"" else if s then codes "\\\\" else if n then codes "\\n" else if t then codes "\\t" else b ∷ []) ≤ 2
    go true s n t = omega arith
    go false true n t = omega arith
    go false false true t = omega arith
    go false false false true = omega arith
    go false false false false = omega arith

escaped-le : (bytes : List ℕ) → length (flat_map escape bytes) ≤ 2 * length bytes
escaped-le [] = omega arith
escaped-le (b ∷ bytes) =
    let first = escape-le b in let rest = escaped-le bytes in let all = length-append (escape b) (flat_map escape bytes) in omega arith

pub quoted-le : (bytes : List ℕ) → length (quoted bytes) ≤ 2 + 2 * length bytes
quoted-le bytes =
    let inner = escaped-le bytes in
    let front = length-append (codes "\"") (flat_map escape bytes) in
    let all = length-append (codes "\"" ++ flat_map escape bytes) (codes "\"") in omega arith

pub number-le : (n : ℕ) → n < 2 ^ 63 → length (decimal n) ≤ 20
number-le n small = length-decimal-le 20 n (omega arith) (omega arith) (omega arith)

module _ (t : Table) (spelled : IsSpelled t) where
  pub name-le : (x : ℕ) → length (bytes_at t.names x) ≤ 64
  name-le x = at-le 64 t.names x (words-short IsName 64 t.names (λ w h. h.short) spelled.names)

  pub class-le : (c : ℕ) → length (bytes_at t.classes c) ≤ 64
  class-le c = at-le 64 t.classes c (words-short IsClassName 64 t.classes (λ w h. h.short) spelled.classes)

  pub text-le : (x : ℕ) → length (bytes_at t.texts x) ≤ 1024
  text-le x = at-le 1024 t.texts x (words-short IsText 1024 t.texts (λ w h. h.short) spelled.texts)

  pub type-le : (y : Ty) → breadth (type_piece t y) ≤ 65
  type-le (ty.Class c) = let h = class-le c.0 in omega arith
  type-le _ = omega arith

pub op-le : (o : Op) → breadth (mark (op_kind o)) ≤ 3
op-le op.Add = omega arith
op-le _ = omega arith

pub declares-le : (q : Bool) → breadth (mark (declares q)) ≤ 6
declares-le true = omega arith
declares-le false = omega arith

pub wrap-le : (least : ℕ) (e : Tree) (ps : List Piece) → weight (wrap least e ps) ≤ 4 + weight ps
wrap-le least e ps = go (nat_lt (level e) least)
  where
    go : (b : Bool) → weight (if b then (mark k.OpenParen ∷ (ps ++ mark k.CloseParen ∷ [])) else ps) ≤ 4 + weight ps
    go true = let a = weight-append ps (mark k.CloseParen ∷ []) in omega arith
    go false = omega arith

pub otherwise-le : (block : Tree) (ps : List Piece) → weight (otherwise block ps) ≤ 5 + weight ps
otherwise-le (TBlock id NoTree) ps = omega arith
otherwise-le _ ps = omega arith

-- a piece of at most two bytes with a space between each two
pub separated-le : (sep : Piece) (pss : List (List Piece)) → breadth sep ≤ 2 → weight (separated sep pss) ≤ total (λ ps. 2 + weight ps) pss
separated-le sep [] h = omega arith
separated-le sep (ps ∷ pss) h =
    let rest = further pss in let all = weight-append ps (flat_map (λ qs. sep ∷ qs) pss) in omega arith
  where
    further : (qss : List (List Piece)) → weight (flat_map (λ qs. sep ∷ qs) qss) ≤ total (λ ps. 2 + weight ps) qss
    further [] = omega arith
    further (qs ∷ qss) = let more = further qss in let a = weight-append (sep ∷ qs) (flat_map (λ rs. sep ∷ rs) qss) in omega arith

length-take-at-most : {X : Type 0} (n : ℕ) (xs : List X) → length (take n xs) ≤ n
length-take-at-most n xs = let h = length-take n xs in omega arith

-- words with something between each two
words-le : {X : Type 0} (f : X → Piece) (xs : List X) → ((x : X) → breadth (f x) ≤ 65) → total (λ ps. 2 + weight ps) (map (λ x. f x ∷ []) xs) ≤ 67 * length xs
words-le f [] h = omega arith
words-le f (x ∷ xs) h = let first = h x in let rest = words-le f xs h in omega arith

pub parameters-le : (t : Table) (spelled : IsSpelled t) (o : Option Body) → ((b : Body) → o ≡ Some b → b.count ≤ 4) → weight (parameters_of t o) ≤ 300
parameters-le t spelled None few = omega arith
parameters-le t spelled (Some b) few =
    let count = few b refl in
    let names = words-le (λ x. name_piece t x) (params_of b) (λ x. (let h = name-le t spelled x in omega arith)) in
    let all = separated-le (mark k.Comma) (map (λ x. name_piece t x ∷ []) (params_of b)) (omega arith) in
    let short : length (params_of b) ≤ b.count = simp length-map (length-take-at-most b.count b.params) in
    let a = weight-append (joined_paren ∷ separated (mark k.Comma) (map (λ x. name_piece t x ∷ []) (params_of b))) (mark k.CloseParen ∷ []) in omega arith

pub signature-le : (t : Table) (spelled : IsSpelled t) (o : Option MethodTy) → ((m : MethodTy) → o ≡ Some m → m.count ≤ 4) → weight (signature_of t o) ≤ 400
signature-le t spelled None few = omega arith
signature-le t spelled (Some m) few =
    let count = few m refl in
    let types = words-le (λ y. type_piece t y) (param_types_of m) (λ y. type-le t spelled y) in
    let all = separated-le (mark k.Comma) (map (λ y. type_piece t y ∷ []) (param_types_of m)) (omega arith) in
    let short : length (param_types_of m) ≤ m.count = length-take-at-most m.count m.params in
    let result = type-le t spelled m.result in
    let a = weight-append (mark k.Colon ∷ mark k.OpenParen ∷ separated (mark k.Comma) (map (λ y. type_piece t y ∷ []) (param_types_of m))) (mark k.CloseParen ∷ mark k.Arrow ∷ type_piece t m.result ∷ []) in
    omega arith
