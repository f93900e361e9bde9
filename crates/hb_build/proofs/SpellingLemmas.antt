-- The bytes of a token are spelled as a tree asks of a name, of a class's name and of a text's value.
use Rattle.std.proofs.Common.{◌≡◌, ℕ, ◌≤◌, List, [], ◌∷◌, ◌++◌, length, map, Bool, true, false, Option, Some, None, refl, sym, ◌∙◌, ap, inl, inr, arith, cond}
use Rattle.std.specs.Prelude.{◌&&◌, ◌||◌, IsTrue, nat_lt, nat_eq, bytes_eq, codes}
use Rattle.std.specs.{List.list_all, List.list_any, Option.option_or}
use Rattle.std.proofs.lemmas.Bool.{and_parts, and_from, cases_Bool, both_ways, cond-true, cond-false, false_from_ne_true}
use Rattle.std.proofs.{lemmas.Bool.Decides.nat_tests, lemmas.Slice.Eq.bytes_eq-Decides}
use Rattle.hb_lex.specs.declared.kinds.TokenKind.{TokenKind}
use Rattle.hb_lex.specs.declared.kinds.TokenKind.TheVariants as k
use Rattle.hb_lex.specs.Bytes.{is_plain, is_escape, is_quote, is_backslash, is_small as begins_name, is_capital as begins_class}
use Rattle.hb_lex.specs.Literal.{is_number, is_text, is_closed, value_behind, value_of_text, escape_value}
use Rattle.hb_lex.specs.Spelling.{spelling, words, marks, spelled, fixed}
use Rattle.hb_lex.specs.Tokens.{kind_of, formed, is_word as is_word_token}
use Rattle.hb_lex.proofs.Forms.{all_fixed, found, kind_is, cond_cases, text_bytes}
use Rattle.hb_tree.specs.Spelling.{IsName, IsClassName, IsText, is_text_byte, keywords, type_words}
use Rattle.hb_build.specs.Needs.{IsOfKind}

not_over : {X : Type 0} (limit n : ℕ) (fault : X) → cond (nat_lt limit n) (Some fault) None ≡ None → n ≤ limit
not_over limit n fault h = elim (cond_cases (nat_lt limit n) (Some fault) None None h) [
  | inl over ↦ absurd (cc over.1)
  | inr within ↦ let small : nat_lt limit n ≡ false = within.0 in grind (arith, nat_tests)
]

-- ── words ──

shape_of_fixed : TokenKind → Bool
shape_of_fixed k.Name = false
shape_of_fixed k.ClassName = false
shape_of_fixed _ = true

-- a kind that is written in many ways is none of those that are written in one
free : (kind : TokenKind) (bytes : List ℕ) → shape_of_fixed kind ≡ false → kind_of bytes ≡ Some kind → (fixed bytes ≡ None) × (formed bytes ≡ Some kind)
unfolding words marks shape_of_fixed
free kind bytes many h = split (fixed bytes) refl (sym (kind_is bytes) ∙ h)
  where
    split : (o : Option TokenKind) → fixed bytes ≡ o → option_or o (formed bytes) ≡ Some kind → (fixed bytes ≡ None) × (formed bytes ≡ Some kind)
    split None is same = (is, same)
    split (Some other) is same = absurd (both_ways (shape_of_fixed kind) many
        (found (λ x. bytes_eq (spelling x) bytes) shape_of_fixed all_fixed kind (is ∙ same) refl).1)

-- what is found nowhere is spelled otherwise
none-spelled : (kinds : List TokenKind) (bytes : List ℕ) → spelled kinds bytes ≡ None → list_any (bytes_eq bytes) (map spelling kinds) ≡ false
none-spelled [] bytes h = refl
none-spelled (x ∷ kinds) bytes h = elim (cond_cases (bytes_eq (spelling x) bytes) (Some x) (spelled kinds bytes) None h) [
  | inl here ↦ absurd (cc here.1)
  | inr behind ↦
      let other : bytes_eq bytes (spelling x) ≡ false = false_from_ne_true _ (λ e.
      both_ways (bytes_eq (spelling x) bytes) behind.0 ((bytes_eq-Decides (spelling x) bytes).1 (sym ((bytes_eq-Decides bytes (spelling x)).0 e)))) in
      or-false _ _ other (none-spelled kinds bytes behind.1)
]
  where
    or-false : (a b : Bool) → a ≡ false → b ≡ false → (a || b) ≡ false
    or-false a b p q = cc

any-parts : (p : List ℕ → Bool) (xs ys : List (List ℕ)) → list_any p (xs ++ ys) ≡ false → (list_any p xs ≡ false) × (list_any p ys ≡ false)
any-parts p [] ys h = (refl, h)
any-parts p (x ∷ xs) ys h = elim (cases_Bool (p x)) [
  | inl t ↦ absurd (both_ways _ h (ap (λ b. b || list_any p (xs ++ ys)) t))
  | inr f ↦
      let rest : (list_any p xs ≡ false) × (list_any p ys ≡ false) = any-parts p xs ys (sym (ap (λ b. b || list_any p (xs ++ ys)) f) ∙ h) in
      (ap (λ b. b || list_any p xs) f ∙ rest.0, rest.1)
]

-- a word that is written in many ways is neither a keyword nor a type word
not-taken : (bytes : List ℕ) → fixed bytes ≡ None → (list_any (bytes_eq bytes) keywords ≡ false) × (list_any (bytes_eq bytes) type_words ≡ false)
unfolding words marks keywords type_words
not-taken bytes h =
    let all : list_any (bytes_eq bytes) ((codes "type?" ∷ []) ++ (keywords ++ (type_words ++ map spelling marks))) ≡ false = none-spelled all_fixed bytes h in
    let rest : list_any (bytes_eq bytes) (keywords ++ (type_words ++ map spelling marks)) ≡ false = (any-parts (bytes_eq bytes) (codes "type?" ∷ []) (keywords ++ (type_words ++ map spelling marks)) all).1 in
    let parts : (list_any (bytes_eq bytes) keywords ≡ false) × (list_any (bytes_eq bytes) (type_words ++ map spelling marks) ≡ false) = any-parts (bytes_eq bytes) keywords (type_words ++ map spelling marks) rest in
    (parts.0, (any-parts (bytes_eq bytes) type_words (map spelling marks) parts.1).0)

-- which of the four forms gives the kind
chosen : Bool → Bool → Bool → Bool → Option TokenKind
chosen small capital number literal =
    cond small (Some k.Name) (cond capital (Some k.ClassName) (cond number (Some k.Number) (cond literal (Some k.Text) None)))

small-chosen : (a b c d : Bool) → chosen a b c d ≡ Some k.Name → a ≡ true
unfolding chosen
small-chosen true b c d h = refl
small-chosen false false false true h = absurd (cc h)
small-chosen _ _ c d h = absurd (cc h)

capital-chosen : (a b c d : Bool) → chosen a b c d ≡ Some k.ClassName → b ≡ true
unfolding chosen
capital-chosen false true c d h = refl
capital-chosen false false false true h = absurd (cc h)
capital-chosen _ b c d h = absurd (cc h)

formed-name : (bytes : List ℕ) → formed bytes ≡ Some k.Name → is_word_token begins_name bytes ≡ true
unfolding chosen
formed-name bytes h = small-chosen (is_word_token begins_name bytes) (is_word_token begins_class bytes) (is_number bytes) (is_text bytes) h

formed-class : (bytes : List ℕ) → formed bytes ≡ Some k.ClassName → is_word_token begins_class bytes ≡ true
unfolding chosen
formed-class bytes h = capital-chosen (is_word_token begins_name bytes) (is_word_token begins_class bytes) (is_number bytes) (is_text bytes) h

true-is : (b : Bool) → b ≡ true → IsTrue b
true-is true h = refl
true-is false h = absurd (cc h)

pub IsName-of_kind : (bytes : List ℕ) → IsOfKind k.Name bytes → IsName bytes
IsName-of_kind bytes is =
    let split : (fixed bytes ≡ None) × (formed bytes ≡ Some k.Name) = free k.Name bytes (unfold shape_of_fixed in refl) is.kind_is in
    record {
      spelled = true-is _ (formed-name bytes split.1);
      free = (not-taken bytes split.0).0;
      short = not_over 64 (length bytes) _ is.small;
    }

pub IsClassName-of_kind : (bytes : List ℕ) → IsOfKind k.ClassName bytes → IsClassName bytes
IsClassName-of_kind bytes is =
    let split : (fixed bytes ≡ None) × (formed bytes ≡ Some k.ClassName) = free k.ClassName bytes (unfold shape_of_fixed in refl) is.kind_is in
    record {
      spelled = true-is _ (formed-class bytes split.1);
      free = (not-taken bytes split.0).1;
      short = not_over 64 (length bytes) _ is.small;
    }

-- ── texts ──

escape-byte : (b : ℕ) → is_escape b ≡ true → is_text_byte (escape_value b) ≡ true
escape-byte b h = elim (cases_Bool (nat_eq b 110)) [
  | inl n ↦ ap is_text_byte (cond-true (nat_eq b 110) 10 _ n)
  | inr not_n ↦ elim (cases_Bool (nat_eq b 116)) [
    | inl t ↦ ap is_text_byte (cond-false (nat_eq b 110) 10 _ not_n ∙ cond-true (nat_eq b 116) 9 b t)
    | inr not_t ↦ ap is_text_byte (cond-false (nat_eq b 110) 10 _ not_n ∙ cond-false (nat_eq b 116) 9 b not_t) ∙ itself b h not_n not_t
  ]
]
  where
    itself : (b : ℕ) → is_escape b ≡ true → nat_eq b 110 ≡ false → nat_eq b 116 ≡ false → is_text_byte b ≡ true
    itself b h n t = grind (arith, nat_tests)

plain-byte : (b : ℕ) → is_plain b ≡ true → is_text_byte b ≡ true
plain-byte b h = grind (arith, nat_tests)

value-plain : (escaped : Bool) (bytes : List ℕ) → is_closed escaped bytes ≡ true → list_all is_text_byte (value_behind escaped bytes) ≡ true
value-plain true [] h = refl
value-plain false [] h = refl
value-plain true (b ∷ bytes) h =
    let both : (is_escape b ≡ true) × (is_closed false bytes ≡ true) = and_parts (is_escape b) (is_closed false bytes) h in
    and_from (is_text_byte (escape_value b)) (list_all is_text_byte (value_behind false bytes)) (escape-byte b both.0) (value-plain false bytes both.1)
value-plain false (b ∷ bytes) h = elim (cases_Bool (is_quote b)) [
  | inl q ↦ ap (list_all is_text_byte) (cond-true (is_quote b) [] _ q)
  | inr not_q ↦
      let behind : cond (is_backslash b) (is_closed true bytes) (is_plain b && is_closed false bytes) ≡ true = sym (cond-false (is_quote b) _ _ not_q) ∙ h in
      elim (cases_Bool (is_backslash b)) [
        | inl s ↦
            ap (list_all is_text_byte) (cond-false (is_quote b) [] _ not_q ∙ cond-true (is_backslash b) (value_behind true bytes) (b ∷ value_behind false bytes) s)
            ∙ value-plain true bytes (sym (cond-true (is_backslash b) _ _ s) ∙ behind)
        | inr not_s ↦
            let both : (is_plain b ≡ true) × (is_closed false bytes ≡ true) = and_parts (is_plain b) (is_closed false bytes) (sym (cond-false (is_backslash b) _ _ not_s) ∙ behind) in
            ap (list_all is_text_byte) (cond-false (is_quote b) [] _ not_q ∙ cond-false (is_backslash b) (value_behind true bytes) (b ∷ value_behind false bytes) not_s)
            ∙ and_from (is_text_byte b) (list_all is_text_byte (value_behind false bytes)) (plain-byte b both.0) (value-plain false bytes both.1)
      ]
]

text-plain : (bytes : List ℕ) → is_text bytes ≡ true → list_all is_text_byte (value_of_text bytes) ≡ true
text-plain [] h = refl
text-plain (b ∷ bytes) h = value-plain false bytes (and_parts (is_quote b) (is_closed false bytes) h).1

pub IsText-of_kind : (bytes : List ℕ) → IsOfKind k.Text bytes → IsText (value_of_text bytes)
IsText-of_kind bytes is = record {
  plain = true-is _ (text-plain bytes (text_bytes bytes is.kind_is));
  short = not_over 1024 (length (value_of_text bytes)) _ is.small;
}
