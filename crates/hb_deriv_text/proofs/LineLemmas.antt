-- Lines that were written are read again.
use Rattle.std.proofs.Common.{◌≡◌, ℕ, ◌<◌, List, [], ◌∷◌, ◌++◌, length, slice_get, Bool, true, false, refl, sym, ap, ◌∙◌, subst, append_assoc, true≢false}
use Rattle.std.specs.Prelude.{Option, Some, nat_eq, bytes_eq, codes, ◌||◌, if◌then◌else◌}
use Rattle.std.specs.List.{list_any}
use Rattle.hb_types.specs.declared.types.Ty.{Ty}
use Rattle.hb_types.specs.declared.types.Ty.TheVariants as ty
use Rattle.hb_tree.specs.Table.{Table}
use Rattle.hb_tree.specs.Nodes.{node_at}
use Rattle.hb_tree.specs.Canon.{bytes_at}
use Rattle.hb_tree.specs.Spelling.{is_capital, is_small, is_digit, is_word_byte, type_words, IsClassName, IsName}
use Rattle.hb_tree.specs.Program.{IsProgram, IsExprNode}
use Rattle.hb_deriv.specs.declared.raw.Used.{Used}
use Rattle.hb_deriv.specs.declared.raw.Step.{Step}
use Rattle.hb_deriv_text.specs.Text.{line_and_column, place, place_of_def, place_of_type, type_word, head_word, head_line, IsUseIn, IsTypeIn, IsStepIn}
use Rattle.hb_deriv_text.specs.Reading.{◌>>?◌, behind, split, named, class_type, type_in, type_there, body_there, expr_there, Head, head_in, use_in, step_in}
use Rattle.hb_deriv_text.specs.Written.{HasSmallPlaces, IsOfExpression, first_body, first_type, first_expr, first_use, first_step}
use Rattle.hb_deriv_text.proofs.FirstLemmas.{place_of}
use Rattle.hb_deriv_text.proofs.ReadLemmas.{two_words, three_words}
use Rattle.hb_deriv_text.proofs.MarkLemmas.{then_is, Lacks, lacks_join, lacks_word, lacks_place, split_at_mark, behind_written}
use Rattle.hb_deriv_text.proofs.FoundLemmas.{element, each_at, named_written, word_at, expression, placed_at, small_place, expr_read, body_read, type_read, def_is_expr, declare_is_expr}

neither : (a b : Bool) → a || b ≡ false → (a ≡ false) × (b ≡ false)
neither true b h = absurd (true≢false h)
neither false b h = (refl, h)

five : (a b c d e : Bool) (v w x y z o : Option Ty) → a ≡ false → b ≡ false → c ≡ false → d ≡ false → e ≡ false
    → (if a then v else (if b then w else (if c then x else (if d then y else (if e then z else o))))) ≡ o
five true b c d e v w x y z o p q r s u = absurd (true≢false p)
five false true c d e v w x y z o p q r s u = absurd (true≢false q)
five false false true d e v w x y z o p q r s u = absurd (true≢false r)
five false false false true e v w x y z o p q r s u = absurd (true≢false s)
five false false false false true v w x y z o p q r s u = absurd (true≢false u)
five false false false false false v w x y z o p q r s u = refl

-- words with single bytes between them
two : (h c d : List ℕ) (mark : ℕ) → ((h ++ c) ++ mark ∷ []) ++ d ≡ h ++ (c ++ mark ∷ d)
two h c d mark = two_words h c d (h ++ (c ++ mark ∷ d)) (c ++ mark ∷ d) mark refl refl

three : (h c d e : List ℕ) (mark other : ℕ) → ((((h ++ c) ++ mark ∷ []) ++ d) ++ other ∷ []) ++ e ≡ h ++ (c ++ mark ∷ (d ++ other ∷ e))
three h c d e mark other = three_words h c d e (h ++ (c ++ mark ∷ (d ++ other ∷ e))) (c ++ mark ∷ (d ++ other ∷ e)) (d ++ other ∷ e) mark other refl refl refl

lacks_two : (h c d : List ℕ) (mark inner : ℕ) → Lacks mark h → Lacks mark c → nat_eq inner mark ≡ false → Lacks mark d → Lacks mark (((h ++ c) ++ inner ∷ []) ++ d)
lacks_two h c d mark inner p q r s = lacks_join mark ((h ++ c) ++ inner ∷ []) d (lacks_join mark (h ++ c) (inner ∷ []) (lacks_join mark h c p q) (r, tt)) s

lacks_three : (h c d e : List ℕ) (mark inner other : ℕ) → Lacks mark h → Lacks mark c → nat_eq inner mark ≡ false → Lacks mark d → nat_eq other mark ≡ false → Lacks mark e
    → Lacks mark (((((h ++ c) ++ inner ∷ []) ++ d) ++ other ∷ []) ++ e)
lacks_three h c d e mark inner other p q r s u v =
    lacks_join mark ((((h ++ c) ++ inner ∷ []) ++ d) ++ other ∷ []) e (lacks_join mark (((h ++ c) ++ inner ∷ []) ++ d) (other ∷ []) (lacks_two h c d mark inner p q r s) (u, tt)) v

-- the lines without their line feeds
abbrev pub head_words : Table → (class body declared : ℕ) → List ℕ
head_words t class body declared =
    head_word ++ bytes_at t.classes class ++ 32 ∷ [] ++ place_of_def t (slice_get t.bodies body) ++ 32 ∷ [] ++ place_of_type t (slice_get t.types declared)

abbrev pub use_words : Table → Used → List ℕ
use_words t u = codes "use " ++ bytes_at t.classes u.class.0 ++ codes "." ++ bytes_at t.names u.name.0 ++ codes " " ++ place_of_type t (slice_get t.types u.site.0)

abbrev pub step_words : Table → Step → List ℕ
step_words t s = codes "step " ++ place t s.node.0 ++ codes " " ++ type_word t s.ty

pub head_ends : (t : Table) (class body declared : ℕ) → head_line t class body declared ≡ head_words t class body declared ++ 10 ∷ []
head_ends t class body declared = joined head_word (bytes_at t.classes class) (place_of_def t (slice_get t.bodies body)) (place_of_type t (slice_get t.types declared))
  where
    joined : (h x y z : List ℕ) → (h ++ x) ++ (((((32 ∷ []) ++ y) ++ 32 ∷ []) ++ z) ++ 10 ∷ []) ≡ (((((h ++ x) ++ 32 ∷ []) ++ y) ++ 32 ∷ []) ++ z) ++ 10 ∷ []
    joined h x y z = simp append_assoc refl

-- what is left to read of a use
abbrev use_of : (class name site : ℕ) → Option Used
use_of class name site = Some (record { class = record { 0 = class }; name = record { 0 = name }; site = record { 0 = site } })

abbrev use_of_name : Table → List ℕ → ℕ → ℕ → Option Used
use_of_name t site class name = type_there t site >>? use_of class name

abbrev use_of_class : Table → List ℕ × List ℕ → ℕ → Option Used
use_of_class t q class = named t.names q.0 >>? use_of_name t q.1 class

abbrev use_of_words : Table → List ℕ → List ℕ × List ℕ → Option Used
use_of_words t class q = named t.classes class >>? use_of_class t q

abbrev use_of_parts : Table → List ℕ × List ℕ → Option Used
use_of_parts t p = split 32 p.1 >>? use_of_words t p.0

-- of a step
abbrev step_of_type : ℕ → Ty → Option Step
step_of_type id y = Some (record { node = record { 0 = id }; ty = y })

abbrev step_of_node : Table → List ℕ → ℕ → Option Step
step_of_node t type id = type_in t type >>? step_of_type id

abbrev step_of_words : Table → List ℕ × List ℕ → Option Step
step_of_words t p = expr_there t p.0 >>? step_of_node t p.1

-- of a first line
abbrev head_of_sites : (class body declared : ℕ) → Option Head
head_of_sites class body declared = Some (record { class = class; body = body; declared = declared })

abbrev head_of_body : Table → List ℕ → ℕ → ℕ → Option Head
head_of_body t declared class body = type_there t declared >>? head_of_sites class body

abbrev head_of_class : Table → List ℕ × List ℕ → ℕ → Option Head
head_of_class t q class = body_there t q.0 >>? head_of_body t q.1 class

abbrev head_of_words : Table → List ℕ → List ℕ × List ℕ → Option Head
head_of_words t class q = named t.classes class >>? head_of_class t q

abbrev head_of_parts : Table → List ℕ × List ℕ → Option Head
head_of_parts t p = split 32 p.1 >>? head_of_words t p.0

abbrev head_of_line : Table → List ℕ → Option Head
head_of_line t words = split 32 words >>? head_of_parts t

module _ (t : Table) (program : IsProgram t) (small : HasSmallPlaces t) where
  -- ── words ──

  class_lacks : (mark c : ℕ) → is_capital mark ≡ false → is_word_byte mark ≡ false → c < length t.classes → Lacks mark (bytes_at t.classes c)
  class_lacks mark c h k inside =
      let e = element t.classes c inside in
      subst (Lacks mark) (sym (word_at t.classes c e.value e.there)) (lacks_word is_capital mark e.value h k
      (each_at IsClassName t.classes c e.value program.spelled.classes e.there).spelled)

  class_read : (c : ℕ) → c < length t.classes → named t.classes (bytes_at t.classes c) ≡ Some c
  class_read c inside =
      let e = element t.classes c inside in
      ap (named t.classes) (word_at t.classes c e.value e.there) ∙ named_written t.classes c e.value program.spelled.classes_apart e.there

  name_lacks : (mark x : ℕ) → is_small mark ≡ false → is_word_byte mark ≡ false → x < length t.names → Lacks mark (bytes_at t.names x)
  name_lacks mark x h k inside =
      let e = element t.names x inside in
      subst (Lacks mark) (sym (word_at t.names x e.value e.there)) (lacks_word is_small mark e.value h k (each_at IsName t.names x e.value program.spelled.names e.there).spelled)

  name_read : (x : ℕ) → x < length t.names → named t.names (bytes_at t.names x) ≡ Some x
  name_read x inside =
      let e = element t.names x inside in
      ap (named t.names) (word_at t.names x e.value e.there) ∙ named_written t.names x e.value program.spelled.names_apart e.there

  place_lacks : (id : ℕ) → IsExprNode (node_at t id) → (mark : ℕ) → is_digit mark ≡ false → nat_eq 58 mark ≡ false → Lacks mark (place t id)
  place_lacks id h mark digit colon =
      let e = expression t id h in
      let s = small_place t small id e.placed e.there in
      subst (λ o. Lacks mark (line_and_column o)) (sym (placed_at t id e.placed e.there)) (lacks_place mark (place_of e.placed) digit colon s.0 s.1)

  no_type_word : (w : List ℕ) → IsClassName w → type_in t w ≡ class_type (named t.classes w)
  unfolding type_words
  no_type_word w h =
      let nil = neither (bytes_eq w (codes "Nil")) (list_any (bytes_eq w) (codes "Bool" ∷ codes "Int" ∷ codes "Str" ∷ codes "Any" ∷ [])) h.free in
      let bool = neither (bytes_eq w (codes "Bool")) (list_any (bytes_eq w) (codes "Int" ∷ codes "Str" ∷ codes "Any" ∷ [])) nil.1 in
      let int = neither (bytes_eq w (codes "Int")) (list_any (bytes_eq w) (codes "Str" ∷ codes "Any" ∷ [])) bool.1 in
      let str = neither (bytes_eq w (codes "Str")) (list_any (bytes_eq w) (codes "Any" ∷ [])) int.1 in
      let any = neither (bytes_eq w (codes "Any")) false str.1 in
      five (bytes_eq w (codes "Nil")) (bytes_eq w (codes "Bool")) (bytes_eq w (codes "Int")) (bytes_eq w (codes "Str")) (bytes_eq w (codes "Any"))
      (Some ty.Nil) (Some ty.Bool) (Some ty.Int) (Some ty.Str) (Some ty.Any) (class_type (named t.classes w)) nil.0 bool.0 int.0 str.0 any.0

  type_word_read : (y : Ty) → IsTypeIn t y → type_in t (type_word t y) ≡ Some y
  unfolding IsTypeIn
  type_word_read ty.Nil h = refl
  type_word_read ty.Bool h = refl
  type_word_read ty.Int h = refl
  type_word_read ty.Str h = refl
  type_word_read ty.Any h = refl
  type_word_read (ty.Class c) h =
      let e = element t.classes c.0 h in
      no_type_word (bytes_at t.classes c.0) (subst IsClassName (sym (word_at t.classes c.0 e.value e.there)) (each_at IsClassName t.classes c.0 e.value program.spelled.classes e.there))
      ∙ ap class_type (class_read c.0 h)

  type_word_ends : (y : Ty) → IsTypeIn t y → Lacks 10 (type_word t y)
  unfolding IsTypeIn
  type_word_ends ty.Nil h = (refl, (refl, (refl, tt)))
  type_word_ends ty.Bool h = (refl, (refl, (refl, (refl, tt))))
  type_word_ends ty.Int h = (refl, (refl, (refl, tt)))
  type_word_ends ty.Str h = (refl, (refl, (refl, tt)))
  type_word_ends ty.Any h = (refl, (refl, (refl, tt)))
  type_word_ends (ty.Class c) h = class_lacks 10 c.0 refl refl h

  -- the words of a site's place lack these marks
  def_lacks : (mark site : ℕ) → is_digit mark ≡ false → nat_eq 58 mark ≡ false → site < length t.bodies → Lacks mark (place_of_def t (slice_get t.bodies site))
  def_lacks mark site digit colon h =
      let b = element t.bodies site h in
      subst (λ o. Lacks mark (place_of_def t o)) (sym b.there) (place_lacks b.value.def.0 (def_is_expr site (node_at t b.value.def.0)
      (program.bodies site b.value b.there).named) mark digit colon)

  type_lacks : (mark site : ℕ) → is_digit mark ≡ false → nat_eq 58 mark ≡ false → site < length t.types → Lacks mark (place_of_type t (slice_get t.types site))
  type_lacks mark site digit colon h =
      let y = element t.types site h in
      subst (λ o. Lacks mark (place_of_type t o)) (sym y.there) (place_lacks y.value.1.0 (declare_is_expr site (node_at t y.value.1.0)
      (program.types site y.value y.there).named) mark digit colon)

  -- ── lines ──

  pub use_read : (u : Used) → IsUseIn t u → use_in t (use_words t u) ≡ Some (first_use t u)
  use_read u h =
      let class = bytes_at t.classes u.class.0 in
      let name = bytes_at t.names u.name.0 in
      let site = place_of_type t (slice_get t.types u.site.0) in
      ap (use_in t) (three (codes "use ") class name site 46 32)
      ∙ then_is (split 46 (class ++ 46 ∷ (name ++ 32 ∷ site))) (use_of_parts t) (class, name ++ 32 ∷ site) (Some (first_use t u))
      (split_at_mark class (name ++ 32 ∷ site) 46 (class_lacks 46 u.class.0 refl refl h.class))
      (then_is (split 32 (name ++ 32 ∷ site)) (use_of_words t class) (name, site) (Some (first_use t u)) (split_at_mark name site 32 (name_lacks 32 u.name.0 refl refl h.name))
      (then_is (named t.classes class) (use_of_class t (name, site)) u.class.0 (Some (first_use t u)) (class_read u.class.0 h.class)
      (then_is (named t.names name) (use_of_name t site u.class.0) u.name.0 (Some (first_use t u)) (name_read u.name.0 h.name)
      (then_is (type_there t site) (use_of u.class.0 u.name.0) (first_type t u.site.0) (Some (first_use t u)) (type_read t small program u.site.0 h.site) refl))))

  pub use_ends : (u : Used) → IsUseIn t u → Lacks 10 (use_words t u)
  use_ends u h =
      lacks_three (codes "use ") (bytes_at t.classes u.class.0) (bytes_at t.names u.name.0) (place_of_type t (slice_get t.types u.site.0)) 10 46 32
      (refl, (refl, (refl, (refl, tt)))) (class_lacks 10 u.class.0 refl refl h.class) refl (name_lacks 10 u.name.0 refl refl h.name) refl (type_lacks 10 u.site.0 refl refl h.site)

  pub step_read : (s : Step) → IsStepIn t s → IsOfExpression t s → step_in t (step_words t s) ≡ Some (first_step t s)
  step_read s h e =
      let there = place t s.node.0 in
      let word = type_word t s.ty in
      ap (step_in t) (two (codes "step ") there word 32)
      ∙ then_is (split 32 (there ++ 32 ∷ word)) (step_of_words t) (there, word) (Some (first_step t s)) (split_at_mark there word 32 (place_lacks s.node.0 e 32 refl refl))
      (then_is (expr_there t there) (step_of_node t word) (first_expr t s.node.0) (Some (first_step t s)) (expr_read t small s.node.0 e)
      (then_is (type_in t word) (step_of_type (first_expr t s.node.0)) s.ty (Some (first_step t s)) (type_word_read s.ty h.ty) refl))

  pub step_ends : (s : Step) → IsStepIn t s → IsOfExpression t s → Lacks 10 (step_words t s)
  step_ends s h e =
      lacks_two (codes "step ") (place t s.node.0) (type_word t s.ty) 10 32
      (refl, (refl, (refl, (refl, (refl, tt))))) (place_lacks s.node.0 e 10 refl refl) refl (type_word_ends s.ty h.ty)

  pub head_read : (class body declared : ℕ) → class < length t.classes → body < length t.bodies → declared < length t.types
      → head_in t (head_words t class body declared) ≡ Some (record { class = class; body = first_body t body; declared = first_type t declared })
  head_read class body declared h k l =
      let name = bytes_at t.classes class in
      let def = place_of_def t (slice_get t.bodies body) in
      let site = place_of_type t (slice_get t.types declared) in
      let result : Option Head = Some (record { class = class; body = first_body t body; declared = first_type t declared }) in
      ap (head_in t) (three head_word name def site 32 32)
      ∙ then_is (behind head_word (head_word ++ (name ++ 32 ∷ (def ++ 32 ∷ site)))) (head_of_line t) (name ++ 32 ∷ (def ++ 32 ∷ site)) result
      (behind_written head_word (name ++ 32 ∷ (def ++ 32 ∷ site)))
      (then_is (split 32 (name ++ 32 ∷ (def ++ 32 ∷ site))) (head_of_parts t) (name, def ++ 32 ∷ site) result (split_at_mark name (def ++ 32 ∷ site) 32 (class_lacks 32 class refl refl h))
      (then_is (split 32 (def ++ 32 ∷ site)) (head_of_words t name) (def, site) result (split_at_mark def site 32 (def_lacks 32 body refl refl k))
      (then_is (named t.classes name) (head_of_class t (def, site)) class result (class_read class h)
      (then_is (body_there t def) (head_of_body t site class) (first_body t body) result (body_read t small program body k)
      (then_is (type_there t site) (head_of_sites class (first_body t body)) (first_type t declared) result (type_read t small program declared l) refl)))))

  pub head_ends_once : (class body declared : ℕ) → class < length t.classes → body < length t.bodies → declared < length t.types → Lacks 10 (head_words t class body declared)
  unfolding head_word
  head_ends_once class body declared h k l =
      lacks_three (codes "derivation ") (bytes_at t.classes class) (place_of_def t (slice_get t.bodies body)) (place_of_type t (slice_get t.types declared)) 10 32 32
      (refl, (refl, (refl, (refl, (refl, (refl, (refl, (refl, (refl, (refl, (refl, tt)))))))))))
      (class_lacks 10 class refl refl h) refl (def_lacks 10 body refl refl k) refl (type_lacks 10 declared refl refl l)
