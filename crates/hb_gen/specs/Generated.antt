-- The text that is generated from a number.
use Rattle.std.specs.Prelude.{ℕ, List, [], ◌++◌, ◌%◌, Bool, nat_eq, if◌then◌else◌, codes, decimal, min}
use Rattle.std.specs.List.{flat_map, range_with_len}
use Rattle.hb_gen.specs.declared.texts.TheConstants.{SCRIPTS_MAX}

-- the declaration of the i-th class
abbrev pub class_line : ℕ → List ℕ
class_line i = codes "class C" ++ decimal i ++ codes "\n"

-- the two methods of the i-th class, and a line that prints by them the sum of the numbers up to i
abbrev pub add_lines : ℕ → List ℕ
add_lines i =
    codes "type C" ++ decimal i ++ codes ".add : (Int, Int) -> Int\n"
    ++ codes "def C" ++ decimal i ++ codes ".add(a, b) a + b end\n"

abbrev pub sum_lines : ℕ → List ℕ
sum_lines i =
    codes "type C" ++ decimal i ++ codes ".sum : (Int) -> Int\n"
    ++ codes "def C" ++ decimal i ++ codes ".sum(n) t = 0; while 0 < n do t = self.add(t, n); n = n - 1 end; t end\n"

abbrev pub print_line : ℕ → List ℕ
print_line i = codes "print C" ++ decimal i ++ codes ".new.sum(" ++ decimal i ++ codes ")\n"

abbrev pub block : ℕ → List ℕ
block i = add_lines i ++ sum_lines i ++ print_line i

-- 1, 2, and so on up to n
abbrev pub numbers : ℕ → List ℕ
numbers n = range_with_len 1 n

-- the classes go round by the scripts
abbrev pub is_in_script : (j i : ℕ) → Bool
is_in_script j i = nat_eq (i % SCRIPTS_MAX) (j % SCRIPTS_MAX)

-- the block of the i-th class, where it is in the j-th script
abbrev pub block_in : (j i : ℕ) → List ℕ
block_in j i = if is_in_script j i then block i else []

-- the j-th script of n classes
abbrev pub script : (n j : ℕ) → List ℕ
script n j = codes "script s" ++ decimal j ++ codes "\n" ++ flat_map (block_in j) (numbers n) ++ codes "end\n"

-- n classes, and at most four scripts
abbrev pub generated : ℕ → List ℕ
generated n = flat_map class_line (numbers n) ++ flat_map (script n) (numbers (min n SCRIPTS_MAX))
