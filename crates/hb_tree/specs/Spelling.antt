-- How class names, names and texts are spelled.
use Rattle.std.specs.Prelude.{◌≡◌, ℕ, ◌≤◌, List, [], ◌∷◌, length, Bool, false, ◌||◌, ◌&&◌, nat_le, nat_eq, codes, bytes_eq, IsTrue}
use Rattle.std.specs.List.{list_all, list_any}
use Rattle.hb_tree.specs.declared.limits.TheConstants.{WORD_BYTES_MAX, TEXT_BYTES_MAX}

abbrev pub is_capital : ℕ → Bool
is_capital b = nat_le 65 b && nat_le b 90

-- a small letter or `_`
abbrev pub is_small : ℕ → Bool
is_small b = (nat_le 97 b && nat_le b 122) || nat_eq b 95

abbrev pub is_digit : ℕ → Bool
is_digit b = nat_le 48 b && nat_le b 57

-- a byte that a word may go on with
abbrev pub is_word_byte : ℕ → Bool
is_word_byte b = is_small b || is_capital b || is_digit b

-- a first byte of this sort, then letters, digits and `_`
abbrev pub is_word : (ℕ → Bool) → List ℕ → Bool
is_word is_first [] = false
is_word is_first (b ∷ bytes) = is_first b && list_all is_word_byte bytes

unfoldable pub keywords : List (List ℕ)
keywords =
    codes "class" ∷ codes "setup" ∷ codes "script" ∷ codes "type" ∷ codes "def" ∷ codes "end"
    ∷ codes "if" ∷ codes "then" ∷ codes "else" ∷ codes "while" ∷ codes "do" ∷ codes "nil"
    ∷ codes "true" ∷ codes "false" ∷ codes "self" ∷ codes "new" ∷ codes "not" ∷ codes "print"
    ∷ codes "str" ∷ []

unfoldable pub type_words : List (List ℕ)
type_words = codes "Nil" ∷ codes "Bool" ∷ codes "Int" ∷ codes "Str" ∷ codes "Any" ∷ []

-- a word that is none of the words taken
pub record IsWord (is_first : ℕ → Bool) (taken : List (List ℕ)) (bytes : List ℕ) : Type 0 where
  pub spelled : IsTrue (is_word is_first bytes)
  pub free : list_any (bytes_eq bytes) taken ≡ false
  pub short : length bytes ≤ WORD_BYTES_MAX

-- a small letter or `_` begins a name, which is no keyword
abbrev pub IsName : List ℕ → Type 0
IsName bytes = IsWord is_small keywords bytes

-- a capital letter begins the name of a class, which is no type word
abbrev pub IsClassName : List ℕ → Type 0
IsClassName bytes = IsWord is_capital type_words bytes

-- a byte that a text's value may have: the tab, the line feed, or one from the space to `~`
abbrev pub is_text_byte : ℕ → Bool
is_text_byte b = nat_eq b 9 || nat_eq b 10 || (nat_le 32 b && nat_le b 126)

-- the value of a text literal
pub record IsText (bytes : List ℕ) : Type 0 where
  pub plain : IsTrue (list_all is_text_byte bytes)
  pub short : length bytes ≤ TEXT_BYTES_MAX
