-- How long a generated text is at most.
use Rattle.std.proofs.Common.{◌≡◌, ℕ, zero, suc, ◌+◌, ◌*◌, ◌^◌, ◌<◌, ◌≤◌, Bool, true, false, List, [], ◌++◌, length, length-append, codes, decimal, min, arith}
use Rattle.std.specs.Prelude.{if◌then◌else◌}
use Rattle.std.specs.List.{flat_map, range_with_len}
use Rattle.std.proofs.lemmas.Fmt.{length-decimal-le}
use Rattle.hb_gen.specs.declared.texts.TheConstants.{NUMBER_MAX, SCRIPTS_MAX}
use Rattle.hb_gen.specs.Generated.{add_lines, block, block_in, class_line, generated, is_in_script, numbers, print_line, script, sum_lines}

joined : (xs ys : List ℕ) (m n : ℕ) → length xs ≤ m → length ys ≤ n → length (xs ++ ys) ≤ m + n
joined xs ys m n a b = let l = length-append xs ys in omega (arith, l, a, b)

number_short : (i : ℕ) → i ≤ NUMBER_MAX → length (decimal i) ≤ 3
number_short i l = length-decimal-le 3 i (omega arith) (omega (arith, l)) (omega (arith, l))

-- a number between two texts
between : (front back : List ℕ) (i m n : ℕ) → i ≤ NUMBER_MAX → length front ≤ m → length back ≤ n → length (front ++ decimal i ++ back) ≤ m + 3 + n
between front back i m n l a b = joined (front ++ decimal i) back (m + 3) n (joined front (decimal i) m 3 a (number_short i l)) b

-- what is written for so many numbers
listed : (f : ℕ → List ℕ) (m a k : ℕ) → ((i : ℕ) → i < a + k → length (f i) ≤ m) → length (flat_map f (range_with_len a k)) ≤ m * k
listed f m a zero each = omega arith
listed f m a (suc k) each =
    let rest = listed f m (a + 1) k (λ i l. each i (omega (arith, l))) in
    let both = joined (f a) (flat_map f (range_with_len (a + 1) k)) m (m * k) (each a (omega arith)) rest in
    let sum : m + m * k ≡ m * suc k = omega arith in omega (arith, both, sum)

class_short : (i : ℕ) → i ≤ NUMBER_MAX → length (class_line i) ≤ 23
class_short i l = between (codes "class C") (codes "\n") i 10 10 l (omega arith) (omega arith)

-- two lines, each with the number
two_lines : (a b c d : List ℕ) (i n : ℕ) → i ≤ NUMBER_MAX → length a ≤ 10 → length b ≤ 30 → length c ≤ 10 → length d ≤ n → length (a ++ decimal i ++ b ++ c ++ decimal i ++ d) ≤ 56 + n
two_lines a b c d i n l p q r s = between (a ++ decimal i ++ b ++ c) d i 53 n l (joined (a ++ decimal i ++ b) c 43 10 (between a b i 10 30 l p q) r) s

print_short : (i : ℕ) → i ≤ NUMBER_MAX → length (print_line i) ≤ 36
print_short i l = between (codes "print C" ++ decimal i ++ codes ".new.sum(") (codes ")\n") i 23 10 l (between (codes "print C") (codes ".new.sum(") i 10 10 l (omega arith) (omega arith)) (omega arith)

block_short : (i : ℕ) → i ≤ NUMBER_MAX → length (block i) ≤ 300
block_short i l =
    let add : length (add_lines i) ≤ 86 = two_lines (codes "type C") (codes ".add : (Int, Int) -> Int\n") (codes "def C") (codes ".add(a, b) a + b end\n") i 30 l
    (omega arith) (omega arith) (omega arith) (omega arith) in
    let sum : length (sum_lines i) ≤ 156 = two_lines (codes "type C") (codes ".sum : (Int) -> Int\n") (codes "def C")
    (codes ".sum(n) t = 0; while 0 < n do t = self.add(t, n); n = n - 1 end; t end\n") i 100 l (omega arith) (omega arith) (omega arith) (omega arith) in
    let print = print_short i l in
    let both = joined (add_lines i) (sum_lines i) 86 156 add sum in
    let all = joined (add_lines i ++ sum_lines i) (print_line i) 242 36 both print in omega (arith, all)

in_script : (j i : ℕ) → i ≤ NUMBER_MAX → length (block_in j i) ≤ 300
in_script j i l = go (is_in_script j i)
  where
    go : (b : Bool) → length (if b then block i else []) ≤ 300
    go true = block_short i l
    go false = omega arith

script_short : (n j : ℕ) → n ≤ NUMBER_MAX → j ≤ NUMBER_MAX → length (script n j) ≤ 60033
script_short n j l k =
    let head = between (codes "script s") (codes "\n") j 10 10 k (omega arith) (omega arith) in
    let blocks = listed (block_in j) 300 1 n (λ i m. in_script j i (omega (arith, l, m))) in
    let few : 300 * n ≤ 60000 = omega (arith, l) in
    let front = joined (codes "script s" ++ decimal j ++ codes "\n") (flat_map (block_in j) (numbers n)) 23 60000 head (omega (arith, blocks, few)) in
    joined (codes "script s" ++ decimal j ++ codes "\n" ++ flat_map (block_in j) (numbers n)) (codes "end\n") 60023 10 front (omega arith)

pub generated_short : (n : ℕ) → n ≤ NUMBER_MAX → length (generated n) ≤ 2 ^ 20
generated_short n l =
    let count : min n SCRIPTS_MAX ≤ 4 = omega arith in
    let classes = listed class_line 23 1 n (λ i m. class_short i (omega (arith, l, m))) in
    let scripts = listed (script n) 60033 1 (min n SCRIPTS_MAX) (λ j m. script_short n j l (omega (arith, l, m, count))) in
    let all = joined (flat_map class_line (numbers n)) (flat_map (script n) (numbers (min n SCRIPTS_MAX))) (23 * n) (60033 * min n SCRIPTS_MAX) classes scripts in
    let most : 60033 * min n SCRIPTS_MAX ≤ 240132 = omega (arith, count) in
    omega (arith, all, most, l)
