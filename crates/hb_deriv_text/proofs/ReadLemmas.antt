-- A text that is read is the text of what is read.
use Rattle.std.proofs.Common.{◌≡◌, ℕ, suc, ◌+◌, List, [], ◌∷◌, ◌++◌, length, Bool, true, false, refl, sym, ap, ◌∙◌, subst, append_assoc, append-nil, eqb-true, arith}
use Rattle.std.specs.Prelude.{Option, Some, None, Result, Ok, Err, nat_eq, bytes_eq, codes, slice_get, if◌then◌else◌, ◌&&◌}
use Rattle.std.specs.Option.{option_map, unwrap_or}
use Rattle.std.specs.List.{flat_map}
use Rattle.std.proofs.lemmas.List.Concat.{flat_map-cons}
use Rattle.std.proofs.lemmas.Grind.{flat_map-append}
use Rattle.hb_types.specs.declared.ids.NodeId.{NodeId}
use Rattle.hb_types.specs.declared.types.Ty.{Ty}
use Rattle.hb_types.specs.declared.types.Ty.TheVariants as ty
use Rattle.hb_types.specs.declared.types.MethodTy.{MethodTy}
use Rattle.hb_tree.specs.declared.node.Placed.{Placed}
use Rattle.hb_tree.specs.declared.parts.Body.{Body}
use Rattle.hb_tree.specs.Table.{Table}
use Rattle.hb_tree.specs.Nodes.{place_at}
use Rattle.hb_tree.specs.Canon.{bytes_at}
use Rattle.hb_deriv.specs.declared.raw.Used.{Used}
use Rattle.hb_deriv.specs.declared.raw.Step.{Step}
use Rattle.hb_deriv.specs.Derivation.{Content}
use Rattle.hb_deriv_text.specs.Text.{line_and_column, place, place_of_def, place_of_type, type_word, head_word, head_line, use_line, step_line, text_of}
use Rattle.hb_deriv_text.specs.declared.stage.Stage.{Stage}
use Rattle.hb_deriv_text.specs.declared.stage.Stage.TheVariants as stage
use Rattle.hb_deriv_text.specs.Reading.{behind, split, first, is_word, named, place_in, same_place, is_expr, is_expr_at, expr_there, body_there, type_there, class_type, type_in, Head, head_in, use_in, step_in, Draft, nothing, begun, with_use, with_step, ended, step_or_end, use_or_more, with_line_at, with_line, is_ended, go_on, read_from, read_of}
use Rattle.hb_deriv_text.proofs.SpellingLemmas.{then_some, behind_is, split_is, place_is}

same_some : {Z : Type 0} (x z : Z) → Some x ≡ Some z → x ≡ z
same_some x z h = cc

both_true : (a b : Bool) → a && b ≡ true → (a ≡ true) × (b ≡ true)
both_true true b h = (refl, h)
both_true false b h = absurd (cc)

-- ── what is found ──

record Found {X : Type 0} (passes : X → Bool) (j : ℕ) (xs : List X) (i : ℕ) : Type 0 where
  pub at : ℕ
  pub is : i ≡ j + at
  pub found : X
  pub there : slice_get xs at ≡ Some found
  pub passed : passes found ≡ true

found_first : {X : Type 0} (passes : X → Bool) (j : ℕ) (xs : List X) (i : ℕ) → first passes j xs ≡ Some i → Found passes j xs i
found_first passes j [] i h = absurd (cc)
found_first {X} passes j (x ∷ xs) i h = go (passes x) refl h (found_first passes (j + 1) xs i)
  where
    go : (b : Bool) → passes x ≡ b → (if b then Some j else first passes (j + 1) xs) ≡ Some i → (first passes (j + 1) xs ≡ Some i → Found passes (j + 1) xs i) → Found passes j (x ∷ xs) i
    go true e h rest = let same = same_some j i h in record { at = 0; is = omega (arith, same); found = x; there = refl; passed = e }
    go false e h rest = let r = rest h in let is = r.is in record { at = suc r.at; is = omega (arith, is); found = r.found; there = r.there; passed = r.passed }

pub record There {X : Type 0} (passes : X → Bool) (xs : List X) (i : ℕ) : Type 0 where
  pub found : X
  pub there : slice_get xs i ≡ Some found
  pub passed : passes found ≡ true

pub there : {X : Type 0} (passes : X → Bool) (xs : List X) (i : ℕ) → first passes 0 xs ≡ Some i → There passes xs i
there passes xs i h =
    let r = found_first passes 0 xs i h in
    let is = r.is in
    let same : r.at ≡ i = omega (arith, is) in
    record { found = r.found; there = subst (λ n. slice_get xs n ≡ Some r.found) same r.there; passed = r.passed }

pub same_bytes : (xs ys : List ℕ) → bytes_eq xs ys ≡ true → xs ≡ ys
same_bytes [] [] h = refl
same_bytes [] (y ∷ ys) h = absurd (cc)
same_bytes (x ∷ xs) [] h = absurd (cc)
same_bytes (x ∷ xs) (y ∷ ys) h =
    let p = both_true (nat_eq x y) (bytes_eq xs ys) h in
    ap (λ (b : ℕ). b ∷ xs) (eqb-true x y p.0) ∙ ap (λ (l : List ℕ). y ∷ l) (same_bytes xs ys p.1)

named_is : (words : List (List ℕ)) (word : List ℕ) (i : ℕ) → named words word ≡ Some i → bytes_at words i ≡ word
named_is words word i h =
    let r = there (is_word word) words i h in
    ap (λ (o : Option (List ℕ)). unwrap_or o []) r.there ∙ same_bytes r.found word r.passed

pub stands : (p : ℕ × ℕ) (o : Option (ℕ × ℕ)) → same_place p o ≡ true → o ≡ Some p
stands p None h = absurd (cc)
stands p (Some q) h =
    let e = both_true (nat_eq q.0 p.0) (nat_eq q.1 p.1) h in
    ap (λ (n : ℕ). Some (n, q.1)) (eqb-true q.0 p.0 e.0) ∙ ap (λ (n : ℕ). Some (p.0, n)) (eqb-true q.1 p.1 e.1)

body_is : (t : Table) (word : List ℕ) (i : ℕ) → body_there t word ≡ Some i → place_of_def t (slice_get t.bodies i) ≡ word
body_is t word i h =
    let a = then_some (place_in word) _ i h in
    let r = there (λ (b : Body). same_place a.0 (place_at t b.def.0)) t.bodies i a.2 in
    ap (place_of_def t) r.there ∙ ap line_and_column (stands a.0 (place_at t r.found.def.0) r.passed) ∙ place_is word a.0 a.1

type_is : (t : Table) (word : List ℕ) (i : ℕ) → type_there t word ≡ Some i → place_of_type t (slice_get t.types i) ≡ word
type_is t word i h =
    let a = then_some (place_in word) _ i h in
    let r = there (λ (y : MethodTy × NodeId). same_place a.0 (place_at t y.1.0)) t.types i a.2 in
    ap (place_of_type t) r.there ∙ ap line_and_column (stands a.0 (place_at t r.found.1.0) r.passed) ∙ place_is word a.0 a.1

expr_is : (t : Table) (word : List ℕ) (i : ℕ) → expr_there t word ≡ Some i → place t i ≡ word
expr_is t word i h =
    let a = then_some (place_in word) _ i h in
    let r = there (is_expr_at a.0) t.nodes i a.2 in
    ap (λ (o : Option Placed). line_and_column (option_map place_of o)) r.there
    ∙ ap line_and_column (stands a.0 (Some (place_of r.found)) (both_true (is_expr r.found.node) (same_place a.0 (Some (place_of r.found))) r.passed).1) ∙ place_is word a.0 a.1
  where
    place_of : Placed → ℕ × ℕ
    place_of p = (p.line, p.column)

written_is : (t : Table) (word : List ℕ) (y : Ty) → type_in t word ≡ Some y → type_word t y ≡ word
written_is t word y = plain
  where
    class : (o : Option ℕ) → named t.classes word ≡ o → class_type o ≡ Some y → type_word t y ≡ word
    class None e h = absurd (cc)
    class (Some c) e h = ap (type_word t) (sym (same_some (ty.Class (record { 0 = c })) y h)) ∙ named_is t.classes word c e

    case : (other : Option Ty) (u : Ty) (b : Bool) → bytes_eq word (type_word t u) ≡ b → (other ≡ Some y → type_word t y ≡ word) → (if b then Some u else other) ≡ Some y → type_word t y ≡ word
    case other u true e rest h = ap (type_word t) (sym (same_some u y h)) ∙ sym (same_bytes word (type_word t u) e)
    case other u false e rest h = rest h

    plain : type_in t word ≡ Some y → type_word t y ≡ word
    plain = case _ ty.Nil _ refl (case _ ty.Bool _ refl (case _ ty.Int _ refl (case _ ty.Str _ refl (case _ ty.Any _ refl (class (named t.classes word) refl)))))

-- ── lines ──

-- words with single bytes between them
pub two_words : (h c d line words : List ℕ) (mark : ℕ) → h ++ words ≡ line → c ++ mark ∷ d ≡ words → ((h ++ c) ++ mark ∷ []) ++ d ≡ line
two_words h c d line words mark l w =
    append_assoc (h ++ c) (mark ∷ []) d ∙ append_assoc h c (mark ∷ d) ∙ ap (λ (x : List ℕ). h ++ x) w ∙ l

pub three_words : (h c d e line words rest : List ℕ) (mark other : ℕ) → h ++ words ≡ line → c ++ mark ∷ rest ≡ words → d ++ other ∷ e ≡ rest → ((((h ++ c) ++ mark ∷ []) ++ d) ++ other ∷ []) ++ e ≡ line
three_words h c d e line words rest mark other l w r =
    append_assoc (((h ++ c) ++ mark ∷ []) ++ d) (other ∷ []) e ∙ append_assoc ((h ++ c) ++ mark ∷ []) d (other ∷ e)
    ∙ ap (λ (x : List ℕ). ((h ++ c) ++ mark ∷ []) ++ x) r ∙ two_words h c rest line words mark l w

use_is : (t : Table) (line : List ℕ) (u : Used) → use_in t line ≡ Some u → use_line t u ≡ line ++ 10 ∷ []
use_is t line u h =
    let w = then_some (behind (codes "use ") line) _ u h in
    let p = then_some (split 46 w.0) _ u w.2 in
    let q = then_some (split 32 p.0.1) _ u p.2 in
    let c = then_some (named t.classes p.0.0) _ u q.2 in
    let n = then_some (named t.names q.0.0) _ u c.2 in
    let s = then_some (type_there t q.0.1) _ u n.2 in
    spell w.0 p.0 q.0 c.0 n.0 s.0 (behind_is (codes "use ") line w.0 w.1) (split_is 46 w.0 p.0 p.1) (split_is 32 p.0.1 q.0 q.1)
    (named_is t.classes p.0.0 c.0 c.1) (named_is t.names q.0.0 n.0 n.1) (type_is t q.0.1 s.0 s.1) (same_some (record { class = record { 0 = c.0 }; name = record { 0 = n.0 }; site = record { 0 = s.0 } }) u s.2)
  where
    spell : (words : List ℕ) (p q : List ℕ × List ℕ) (c n s : ℕ) → codes "use " ++ words ≡ line → p.0 ++ 46 ∷ p.1 ≡ words → q.0 ++ 32 ∷ q.1 ≡ p.1
        → bytes_at t.classes c ≡ p.0 → bytes_at t.names n ≡ q.0 → place_of_type t (slice_get t.types s) ≡ q.1 → record { class = record { 0 = c }; name = record { 0 = n }; site = record { 0 = s } } ≡ u → use_line t u ≡ line ++ 10 ∷ []
    spell words p q c n s l w r class name site is =
        ap (use_line t) (sym is)
        ∙ ap (λ (x : List ℕ). (((((codes "use " ++ x) ++ 46 ∷ []) ++ bytes_at t.names n) ++ 32 ∷ []) ++ place_of_type t (slice_get t.types s)) ++ 10 ∷ []) class
        ∙ ap (λ (x : List ℕ). (((((codes "use " ++ p.0) ++ 46 ∷ []) ++ x) ++ 32 ∷ []) ++ place_of_type t (slice_get t.types s)) ++ 10 ∷ []) name
        ∙ ap (λ (x : List ℕ). (((((codes "use " ++ p.0) ++ 46 ∷ []) ++ q.0) ++ 32 ∷ []) ++ x) ++ 10 ∷ []) site
        ∙ ap (λ (x : List ℕ). x ++ 10 ∷ []) (three_words (codes "use ") p.0 q.0 q.1 line words p.1 46 32 l w r)

step_is : (t : Table) (line : List ℕ) (s : Step) → step_in t line ≡ Some s → step_line t s ≡ line ++ 10 ∷ []
step_is t line s h =
    let w = then_some (behind (codes "step ") line) _ s h in
    let p = then_some (split 32 w.0) _ s w.2 in
    let n = then_some (expr_there t p.0.0) _ s p.2 in
    let y = then_some (type_in t p.0.1) _ s n.2 in
    spell w.0 p.0 n.0 y.0 (behind_is (codes "step ") line w.0 w.1) (split_is 32 w.0 p.0 p.1) (expr_is t p.0.0 n.0 n.1) (written_is t p.0.1 y.0 y.1) (same_some (record { node = record { 0 = n.0 }; ty = y.0 }) s y.2)
  where
    spell : (words : List ℕ) (p : List ℕ × List ℕ) (n : ℕ) (y : Ty) → codes "step " ++ words ≡ line → p.0 ++ 32 ∷ p.1 ≡ words → place t n ≡ p.0 → type_word t y ≡ p.1 → record { node = record { 0 = n }; ty = y } ≡ s → step_line t s ≡ line ++ 10 ∷ []
    spell words p n y l w node ty is =
        ap (step_line t) (sym is)
        ∙ ap (λ (x : List ℕ). (((codes "step " ++ x) ++ 32 ∷ []) ++ type_word t y) ++ 10 ∷ []) node
        ∙ ap (λ (x : List ℕ). (((codes "step " ++ p.0) ++ 32 ∷ []) ++ x) ++ 10 ∷ []) ty
        ∙ ap (λ (x : List ℕ). x ++ 10 ∷ []) (two_words (codes "step ") p.0 p.1 line words 32 l w)

head_is : (t : Table) (line : List ℕ) (d : Head) → head_in t line ≡ Some d → head_line t d.class d.body d.declared ≡ line ++ 10 ∷ []
head_is t line d h =
    let w = then_some (behind head_word line) _ d h in
    let p = then_some (split 32 w.0) _ d w.2 in
    let q = then_some (split 32 p.0.1) _ d p.2 in
    let c = then_some (named t.classes p.0.0) _ d q.2 in
    let b = then_some (body_there t q.0.0) _ d c.2 in
    let s = then_some (type_there t q.0.1) _ d b.2 in
    spell w.0 p.0 q.0 c.0 b.0 s.0 (behind_is head_word line w.0 w.1) (split_is 32 w.0 p.0 p.1) (split_is 32 p.0.1 q.0 q.1)
    (named_is t.classes p.0.0 c.0 c.1) (body_is t q.0.0 b.0 b.1) (type_is t q.0.1 s.0 s.1) (same_some (record { class = c.0; body = b.0; declared = s.0 }) d s.2)
  where
    spell : (words : List ℕ) (p q : List ℕ × List ℕ) (c b s : ℕ) → head_word ++ words ≡ line → p.0 ++ 32 ∷ p.1 ≡ words → q.0 ++ 32 ∷ q.1 ≡ p.1
        → bytes_at t.classes c ≡ p.0 → place_of_def t (slice_get t.bodies b) ≡ q.0 → place_of_type t (slice_get t.types s) ≡ q.1 → record { class = c; body = b; declared = s } ≡ d → head_line t d.class d.body d.declared ≡ line ++ 10 ∷ []
    spell words p q c b s l w r class body site is =
        ap (λ (x : Head). head_line t x.class x.body x.declared) (sym is)
        ∙ joined (bytes_at t.classes c) (place_of_def t (slice_get t.bodies b)) (place_of_type t (slice_get t.types s))
        ∙ ap (λ (x : List ℕ). (((((head_word ++ x) ++ 32 ∷ []) ++ place_of_def t (slice_get t.bodies b)) ++ 32 ∷ []) ++ place_of_type t (slice_get t.types s)) ++ 10 ∷ []) class
        ∙ ap (λ (x : List ℕ). (((((head_word ++ p.0) ++ 32 ∷ []) ++ x) ++ 32 ∷ []) ++ place_of_type t (slice_get t.types s)) ++ 10 ∷ []) body
        ∙ ap (λ (x : List ℕ). (((((head_word ++ p.0) ++ 32 ∷ []) ++ q.0) ++ 32 ∷ []) ++ x) ++ 10 ∷ []) site
        ∙ ap (λ (x : List ℕ). x ++ 10 ∷ []) (three_words head_word p.0 q.0 q.1 line words p.1 32 32 l w r)
      where
        joined : (x y z : List ℕ) → (head_word ++ x) ++ (((((32 ∷ []) ++ y) ++ 32 ∷ []) ++ z) ++ 10 ∷ []) ≡ (((((head_word ++ x) ++ 32 ∷ []) ++ y) ++ 32 ∷ []) ++ z) ++ 10 ∷ []
        joined x y z = simp append_assoc refl

-- ── a whole text ──

abbrev body_of : Table → Content → List ℕ
body_of t c = head_line t c.class c.body c.declared ++ flat_map (use_line t) c.uses ++ flat_map (step_line t) c.steps

-- the lines of a draft
abbrev pub written_at : Table → Stage → Content → List ℕ
written_at t stage.Head c = []
written_at t stage.Uses c = body_of t c
written_at t stage.Steps c = body_of t c
written_at t stage.Ended c = body_of t c ++ codes "end\n"

-- uses stand before steps
abbrev pub IsOrdered : Stage → Content → Type 0
IsOrdered stage.Head c = (c.uses ≡ []) × (c.steps ≡ [])
IsOrdered stage.Uses c = c.steps ≡ []
IsOrdered _ c = Unit {0}

pub record Grown (t : Table) (s : Stage) (c : Content) (line : List ℕ) (d : Draft) : Type 0 where
  pub written : written_at t d.stage d.content ≡ written_at t s c ++ (line ++ 10 ∷ [])
  pub ordered : IsOrdered d.stage d.content

last_piece : {X : Type 0} (f : X → List ℕ) (xs : List X) (x : X) → flat_map f (xs ++ x ∷ []) ≡ flat_map f xs ++ f x
last_piece f xs x = flat_map-append f xs (x ∷ []) ∙ ap (λ (l : List ℕ). flat_map f xs ++ l) (flat_map-cons f x [] ∙ append-nil (f x))

end_grows : (t : Table) (c : Content) (line : List ℕ) (d : Draft) → ended c line ≡ Some d → written_at t d.stage d.content ≡ body_of t c ++ (line ++ 10 ∷ [])
end_grows t c line d = go (bytes_eq line (codes "end")) refl
  where
    done : Draft
    done = record { stage = stage.Ended; content = c }

    go : (b : Bool) → bytes_eq line (codes "end") ≡ b → (if b then Some (record { stage = stage.Ended; content = c }) else None) ≡ Some d → written_at t d.stage d.content ≡ body_of t c ++ (line ++ 10 ∷ [])
    go true e h =
        ap (λ (x : Draft). written_at t x.stage x.content) (sym (same_some (record { stage = stage.Ended; content = c }) d h))
        ∙ ap (λ (l : List ℕ). body_of t c ++ (l ++ 10 ∷ [])) (sym (same_bytes line (codes "end") e))
    go false e h = absurd (cc)

step_or_end_grows : (t : Table) (c : Content) (line : List ℕ) (d : Draft) → step_or_end c line (step_in t line) ≡ Some d → written_at t d.stage d.content ≡ body_of t c ++ (line ++ 10 ∷ [])
step_or_end_grows t c line d = go (step_in t line) refl
  where
    go : (o : Option Step) → step_in t line ≡ o → step_or_end c line o ≡ Some d → written_at t d.stage d.content ≡ body_of t c ++ (line ++ 10 ∷ [])
    go (Some s) e h =
        let front : List ℕ = head_line t c.class c.body c.declared ++ flat_map (use_line t) c.uses in
        ap (λ (x : Draft). written_at t x.stage x.content) (sym (same_some (with_step c s) d h))
        ∙ ap (λ (l : List ℕ). front ++ l) (last_piece (step_line t) c.steps s)
        ∙ sym (append_assoc front (flat_map (step_line t) c.steps) (step_line t s))
        ∙ ap (λ (l : List ℕ). body_of t c ++ l) (step_is t line s e)
    go None e h = end_grows t c line d h

open_behind : (t : Table) (c : Content) (line : List ℕ) (d : Draft) → step_or_end c line (step_in t line) ≡ Some d → IsOrdered d.stage d.content
open_behind t c line d = go (step_in t line)
  where
    moved : (x : Draft) → x ≡ d → IsOrdered x.stage x.content → IsOrdered d.stage d.content
    moved x e o = subst (λ (y : Draft). IsOrdered y.stage y.content) e o

    ends : (b : Bool) → (if b then Some (record { stage = stage.Ended; content = c }) else None) ≡ Some d → IsOrdered d.stage d.content
    ends true h = moved (record { stage = stage.Ended; content = c }) (same_some (record { stage = stage.Ended; content = c }) d h) tt
    ends false h = absurd (cc)

    go : (o : Option Step) → step_or_end c line o ≡ Some d → IsOrdered d.stage d.content
    go (Some s) h = moved (with_step c s) (same_some (with_step c s) d h) tt
    go None h = ends (bytes_eq line (codes "end")) h

more_grows : (t : Table) (c : Content) (line : List ℕ) (d : Draft) → c.steps ≡ [] → use_or_more t c line (use_in t line) ≡ Some d → Grown t stage.Uses c line d
more_grows t c line d none = go (use_in t line) refl
  where
    go : (o : Option Used) → use_in t line ≡ o → use_or_more t c line o ≡ Some d → Grown t stage.Uses c line d
    go (Some u) e h = record { written = written; ordered = subst (λ (y : Draft). IsOrdered y.stage y.content) (same_some (with_use c u) d h) none }
      where
        head : List ℕ
        head = head_line t c.class c.body c.declared

        no_step : (front : List ℕ) → front ++ flat_map (step_line t) c.steps ≡ front
        no_step front = ap (λ (l : List Step). front ++ flat_map (step_line t) l) none ∙ append-nil front

        grown : (head uses piece : List ℕ) → head ++ (uses ++ piece) ≡ (head ++ uses) ++ piece
        grown head uses piece = sym (append_assoc head uses piece)

        written : written_at t d.stage d.content ≡ body_of t c ++ (line ++ 10 ∷ [])
        written =
            ap (λ (x : Draft). written_at t x.stage x.content) (sym (same_some (with_use c u) d h))
            ∙ no_step (head_line t c.class c.body c.declared ++ flat_map (use_line t) (c.uses ++ u ∷ []))
            ∙ ap (λ (l : List ℕ). head_line t c.class c.body c.declared ++ l) (last_piece (use_line t) c.uses u)
            ∙ grown (head_line t c.class c.body c.declared) (flat_map (use_line t) c.uses) (use_line t u)
            ∙ ap (λ (l : List ℕ). l ++ use_line t u) (sym (no_step (head_line t c.class c.body c.declared ++ flat_map (use_line t) c.uses)))
            ∙ ap (λ (l : List ℕ). body_of t c ++ l) (use_is t line u e)
    go None e h = record { written = step_or_end_grows t c line d h; ordered = open_behind t c line d h }

head_grows : (t : Table) (c : Content) (line : List ℕ) (d : Draft) → c.uses ≡ [] → c.steps ≡ [] → option_map (begun c) (head_in t line) ≡ Some d → Grown t stage.Head c line d
head_grows t c line d no_use no_step = go (head_in t line) refl
  where
    plain : (h : Head) → body_of t (begun c h).content ≡ head_line t h.class h.body h.declared
    plain h =
        ap (λ (l : List Used). head_line t h.class h.body h.declared ++ flat_map (use_line t) l ++ flat_map (step_line t) c.steps) no_use
        ∙ ap (λ (l : List Step). (head_line t h.class h.body h.declared ++ []) ++ flat_map (step_line t) l) no_step
        ∙ append-nil (head_line t h.class h.body h.declared ++ []) ∙ append-nil (head_line t h.class h.body h.declared)

    go : (o : Option Head) → head_in t line ≡ o → option_map (begun c) o ≡ Some d → Grown t stage.Head c line d
    go (Some h) e k = record {
      written = ap (λ (x : Draft). written_at t x.stage x.content) (sym (same_some (begun c h) d k)) ∙ plain h ∙ head_is t line h e;
      ordered = subst (λ (y : Draft). IsOrdered y.stage y.content) (same_some (begun c h) d k) no_step;
    }
    go None e k = absurd (cc)

pub line_grows : (t : Table) (s : Stage) (c : Content) (line : List ℕ) (d : Draft) → IsOrdered s c → with_line_at t s c line ≡ Some d → Grown t s c line d
line_grows t stage.Head c line d o h = head_grows t c line d o.0 o.1 h
line_grows t stage.Uses c line d o h = more_grows t c line d o h
line_grows t stage.Steps c line d o h = record { written = step_or_end_grows t c line d h; ordered = open_behind t c line d h }
line_grows t stage.Ended c line d o h = absurd (cc)

pub same_content : (x y : Content) → (let r : Result Content ℕ = Ok x in r) ≡ Ok y → x ≡ y
same_content x y h = cc

reads : (t : Table) (d : Draft) (at : ℕ) (line bytes : List ℕ) (c : Content) → IsOrdered d.stage d.content → read_from t d at line bytes ≡ Ok c → text_of t c ≡ written_at t d.stage d.content ++ (line ++ bytes)
reads t d at [] [] c o h = ends d.stage d.content h
  where
    ends : (s : Stage) (x : Content) → (if is_ended s then Ok x else Err at) ≡ Ok c → text_of t c ≡ written_at t s x ++ []
    ends stage.Head x h = absurd (cc)
    ends stage.Uses x h = absurd (cc)
    ends stage.Steps x h = absurd (cc)
    ends stage.Ended x h = ap (text_of t) (sym (same_content x c h)) ∙ sym (append-nil (body_of t x ++ codes "end\n"))
reads t d at (b ∷ line) [] c o h = absurd (cc)
reads t d at line (b ∷ bytes) c o h = go (nat_eq b 10) refl h (λ z p k. reads t z (at + length line + 1) [] bytes c p k) (λ k. reads t d at (line ++ b ∷ []) bytes c o k)
  where
    behind_feed : b ≡ 10 → (next : Option Draft) → with_line t d line ≡ next → go_on at next (λ z. read_from t z (at + length line + 1) [] bytes) ≡ Ok c
        → ((z : Draft) → IsOrdered z.stage z.content → read_from t z (at + length line + 1) [] bytes ≡ Ok c → text_of t c ≡ written_at t z.stage z.content ++ bytes)
        → text_of t c ≡ written_at t d.stage d.content ++ (line ++ b ∷ bytes)
    behind_feed e None k h rest = absurd (cc)
    behind_feed e (Some z) k h rest =
        let g = line_grows t d.stage d.content line z o k in
        rest z g.ordered h
        ∙ ap (λ (l : List ℕ). l ++ bytes) g.written
        ∙ append_assoc (written_at t d.stage d.content) (line ++ 10 ∷ []) bytes
        ∙ ap (λ (l : List ℕ). written_at t d.stage d.content ++ l) (append_assoc line (10 ∷ []) bytes ∙ ap (λ (x : ℕ). line ++ x ∷ bytes) (sym e))

    go : (x : Bool) → nat_eq b 10 ≡ x → (if x then go_on at (with_line t d line) (λ z. read_from t z (at + length line + 1) [] bytes) else read_from t d at (line ++ b ∷ []) bytes) ≡ Ok c
        → ((z : Draft) → IsOrdered z.stage z.content → read_from t z (at + length line + 1) [] bytes ≡ Ok c → text_of t c ≡ written_at t z.stage z.content ++ bytes)
        → (read_from t d at (line ++ b ∷ []) bytes ≡ Ok c → text_of t c ≡ written_at t d.stage d.content ++ ((line ++ b ∷ []) ++ bytes))
        → text_of t c ≡ written_at t d.stage d.content ++ (line ++ b ∷ bytes)
    go true e h rest other = behind_feed (eqb-true b 10 e) (with_line t d line) refl h rest
    go false e h rest other = other h ∙ ap (λ (l : List ℕ). written_at t d.stage d.content ++ l) (append_assoc line (b ∷ []) bytes)

pub read_is_written : (t : Table) (bytes : List ℕ) (c : Content) → read_of t bytes ≡ Ok c → text_of t c ≡ bytes
read_is_written t bytes c h = reads t nothing 0 [] bytes c (refl, refl) h
