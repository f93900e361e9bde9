-- A turn that two runs of one block take behind the same acts has the same acts in both.
use Rattle.std.proofs.Common.{◌≡◌, ◌⊎◌, inl, inr, ℕ, ◌<◌, List, [], ◌∷◌, ◌++◌, map, Some, refl, sym, ap, ◌∙◌, subst, arith, append_assoc}
use Rattle.std.specs.List.{AllByRecursion}
use Rattle.std.proofs.lemmas.List.{append-nil, map-append}
use mathlib.Core.List.{IsPrefix}
use Rattle.hb_tree.specs.Table.{Table}
use Rattle.hb_types.specs.declared.ids.NodeId.{NodeId}
use Rattle.hb_names.specs.Names.{Differ, IsFull, Name, place}
use Rattle.hb_tables.specs.declared.entry.Act.{Act}
use Rattle.hb_tables.specs.History.{key_of}
use Rattle.hb_eval.specs.declared.stop.Outcome.TheVariants as outcome
use Rattle.hb_eval.specs.declared.stop.Stop.TheVariants as stop
use Rattle.hb_eval.specs.Calls.{call_in}
use Rattle.hb_eval.specs.Runs.{Run, script_run}
use Rattle.hb_eval.specs.State.{tagged}
use Rattle.hb_eval.proofs.TurnLemmas.{tagged_append}
use Rattle.hb_ordered.specs.Parting.{AreFrees, FirstLacks, GoOn, Neither, Part, Parted, Parting, SecondLacks, StopsFull, read_with}
use Rattle.hb_ordered.specs.Sharing.{AreShared, IsShared, NotFull}
use Rattle.hb_ordered.proofs.AlongLemmas.{runs_part, untagged}
use Rattle.hb_ordered.proofs.NamesLemmas.{frees_part, shared_both}

-- the acts alone
abbrev pub plain : List (ℕ × Act) → List Act
plain l = map (λ e. e.1) l

-- each act has a tag of these
abbrev pub TagsAre : (ℕ → Type 0) → List (ℕ × Act) → Type 0
TagsAre ok l = AllByRecursion (λ (e : ℕ × Act). ok e.0) l

same_cut : (xs ys us vs : List (ℕ × Act)) → plain xs ≡ plain ys → xs ++ us ≡ ys ++ vs → (xs ≡ ys) × (us ≡ vs)
same_cut [] [] us vs m e = (refl, e)
same_cut [] (y ∷ ys) us vs m e = absurd (let none : [] ≡ y.1 ∷ plain ys = m in cc none)
same_cut (x ∷ xs) [] us vs m e = absurd (let none : x.1 ∷ plain xs ≡ [] = m in cc none)
same_cut (x ∷ xs) (y ∷ ys) us vs m e =
    let more : plain xs ≡ plain ys = cc m in
    let rest : xs ++ us ≡ ys ++ vs = cc e in
    let h : x ≡ y = cc e in
    let r = same_cut xs ys us vs more rest in
    (ap (λ z. z ∷ xs) h ∙ ap (λ l. y ∷ l) r.0, r.1)

-- an act that was read behind so many is the one at that place
head_is : (g n : ℕ) (rd A rest tail all : List (ℕ × Act)) (since P : List Act) (a : Act) → plain rd ++ since ≡ plain A ++ P → (rd ++ tagged g (since ++ a ∷ [])) ++ tail ≡ all → all ≡
    (A ++ tagged n P) ++ rest
    → (rd ++ tagged g since ≡ A ++ tagged n P) × ((g, a) ∷ tail ≡ rest)
head_is g n rd A rest tail all since P a m e f =
    let plains : plain (rd ++ tagged g since) ≡ plain (A ++ tagged n P) =
    map-append (λ (e : ℕ × Act). e.1) rd (tagged g since) ∙ ap (λ l. plain rd ++ l) (untagged g since) ∙ m
    ∙ ap (λ l. plain A ++ l) (sym (untagged n P)) ∙ sym (map-append (λ (e : ℕ × Act). e.1) A (tagged n P)) in
    let whole : (rd ++ tagged g since) ++ ((g, a) ∷ tail) ≡ (A ++ tagged n P) ++ rest =
    sym (append_assoc (rd ++ tagged g since) ((g, a) ∷ []) tail)
    ∙ ap (λ l. l ++ tail) (append_assoc rd (tagged g since) ((g, a) ∷ []) ∙ ap (λ l. rd ++ l) (sym (tagged_append g since (a ∷ [])))) ∙ e ∙ f in
    same_cut (rd ++ tagged g since) (A ++ tagged n P) ((g, a) ∷ tail) rest plains whole

-- acts with the turn's number, behind others that have lower ones, are of the turn
in_turn : (g n : ℕ) → g ≡ n → (rd A : List (ℕ × Act)) (since P : List Act) → TagsAre (λ i. i < n) A → rd ++ tagged g since ≡ A ++ tagged n P → (early : List Act) × (P ≡ early ++ since) ×
    (rd ≡ A ++ tagged n early)
in_turn g n is [] [] since P low e = ([], sym (untagged n P) ∙ ap (λ l. plain l) (sym e) ∙ untagged g since, refl)
in_turn g n is (d ∷ rd) [] since [] low e = absurd (cc e)
in_turn g n is (d ∷ rd) [] since (p ∷ P) low e =
    let rest : rd ++ tagged g since ≡ tagged n P = cc e in
    let h : d ≡ (n, p) = cc e in
    let r = in_turn g n is rd [] since P tt rest in
    (p ∷ r.0, ap (λ l. p ∷ l) r.1, ap (λ z. z ∷ rd) h ∙ ap (λ l. (n, p) ∷ l) r.2)
in_turn g n is [] (b ∷ A) [] P low e = absurd (cc e)
in_turn g n is [] (b ∷ A) (s ∷ since) P low e =
    let h : (g, s) ≡ b = cc e in
    let tag : g ≡ b.0 = ap (λ (z : ℕ × Act). z.0) h in
    let under = low.0 in
    absurd (omega (arith, is, tag, under))
in_turn g n is (d ∷ rd) (b ∷ A) since P low e =
    let rest : rd ++ tagged g since ≡ A ++ tagged n P = cc e in
    let h : d ≡ b = cc e in
    let r = in_turn g n is rd A since P low.1 rest in
    (r.0, r.1, ap (λ z. z ∷ rd) h ∙ ap (λ l. b ∷ l) r.2)

regroup : (n : ℕ) (A R : List (ℕ × Act)) (P X : List Act) → A ++ (tagged n (P ++ X) ++ R) ≡ (A ++ tagged n P) ++ (tagged n X ++ R)
regroup n A R P X = ap (λ l. A ++ (l ++ R)) (tagged_append n P X) ∙ ap (λ l. A ++ l) (append_assoc (tagged n P) (tagged n X) R) ∙ sym (append_assoc A (tagged n P) (tagged n X ++ R))

plain_cut : (n : ℕ) (A R : List (ℕ × Act)) (P X : List Act) → plain (A ++ (tagged n (P ++ X) ++ R)) ≡ (plain A ++ P) ++ (X ++ plain R)
plain_cut n A R P X =
    map-append (λ (e : ℕ × Act). e.1) A (tagged n (P ++ X) ++ R)
    ∙ ap (λ l. plain A ++ l) (map-append (λ (e : ℕ × Act). e.1) (tagged n (P ++ X)) R ∙ ap (λ l. l ++ plain R) (untagged n (P ++ X)) ∙ append_assoc P X (plain R))
    ∙ sym (append_assoc (plain A) P (X ++ plain R))

-- an act that is read behind these begins what is left
begins_rest : (g n : ℕ) (rd A rest all : List (ℕ × Act)) (P : List Act) (a : Act) → plain rd ≡ plain A ++ P → IsPrefix (rd ++ (g, a) ∷ []) all → all ≡ (A ++ tagged n P) ++ rest →
    (tail : List (ℕ × Act)) × ((g, a) ∷ tail ≡ rest)
begins_rest g n rd A rest all P a m pre f = (pre.0, (head_is g n rd A rest pre.0 all [] P a (append-nil (plain rd) ∙ m) pre.1 f).1)

-- the run stops with Full where so many expressions have begun, and this is left of the turn
abbrev pub FullIn : Run → (begun : ℕ) → (rest : List Act) → Type 0
FullIn r k rest = ((id : NodeId) × (r.outcome ≡ outcome.Stopped stop.Full id)) × (r.begun ≡ k) × AreFrees rest

full_in : (g k : ℕ) (rd : List (ℕ × Act)) (l rest more : List Act) (r : Run) → StopsFull g rd l r → g ≡ k → l ≡ rest ++ more → FullIn r k rest
full_in g k rd l rest more r h tag e = ((h.id, h.stops), h.begun_is ∙ tag, frees_part rest more (subst AreFrees e h.frees))

-- the first of the acts that such a run has left
first_of_full : (g : ℕ) (rd : List (ℕ × Act)) (a : Act) (l : List Act) (r : Run) → StopsFull g rd (a ∷ l) r → IsPrefix (rd ++ (g, a) ∷ []) r.acts
first_of_full g rd a l r h = (tagged g l, append_assoc rd ((g, a) ∷ []) (tagged g l) ∙ sym h.acts_are)

module _ (t : Table) (names others : List Name) (differ : Differ names) (differ' : Differ others) (block steps : ℕ) (r w : Run)
    (reads : script_run t names (call_in t names 4096) block steps (plain r.acts) ≡ Some r) (wreads : script_run t others (call_in t others 4096) block steps (plain w.acts) ≡ Some w)
    (A B R S : List (ℕ × Act)) (n m : ℕ) (before : plain A ≡ plain B) (low : TagsAre (λ i. i < n) A) (high : TagsAre (λ i. m < i) R) (over : TagsAre (λ i. n < i) S)
    (known : AreShared names others (plain A)) where
  -- the next acts of both are the same, wherever both go on
  abbrev pub OneNext : List Act → List Act → Type 0
  OneNext X Y = (P X1 Y1 early : List Act) (done first second : List Act) (p : Parting t names others done first second) → X ≡ P ++ p.a ∷ X1 → Y ≡ P ++ p.b ∷ Y1 → P ≡ early ++ p.since
      → plain p.state.read ≡ plain A ++ early → AreShared names others P → NotFull names others p.question p.a p.b → NotFull others names p.other p.b p.a → (p.a ≡ p.b) × IsShared names others p.a

  -- none of the runs stops in this turn for want of a name that the other list has
  abbrev pub NoFirst : List Act → List Act → Type 0
  NoFirst X Y = (P X1 Y1 : List Act) (k : ℕ) → (k ≡ n) ⊎ (k ≡ m) → X ≡ P ++ X1 → Y ≡ P ++ Y1 → AreShared names others P → FullIn r k X1 → (p : Name) (key : ℕ) → IsFull names p
      → place others p ≡ Some key → ⊥

  abbrev pub NoSecond : List Act → List Act → Type 0
  NoSecond X Y = (P X1 Y1 : List Act) (k : ℕ) → (k ≡ n) ⊎ (k ≡ m) → X ≡ P ++ X1 → Y ≡ P ++ Y1 → AreShared names others P → FullIn w k Y1 → (p : Name) (key : ℕ) → IsFull others p
      → place names p ≡ Some key → ⊥

  module _ (X0 Y0 : List Act) (next : OneNext X0 Y0) (no_first : NoFirst X0 Y0) (no_second : NoSecond X0 Y0) where
    module _ (P : List Act) (shared : AreShared names others P) where
      parts : (X Y : List Act) → r.acts ≡ A ++ (tagged n (P ++ X) ++ R) → w.acts ≡ B ++ (tagged m (P ++ Y) ++ S) → GoOn t names others (plain A ++ P) (X ++ plain R) (Y ++ plain S) r w
      parts X Y e f =
          runs_part t names others (plain A ++ P) (X ++ plain R) (Y ++ plain S) 4096 block steps r w differ differ' (shared_both names others (plain A) P known shared)
          (ap (λ l. script_run t names (call_in t names 4096) block steps l) (sym (ap plain e ∙ plain_cut n A R P X)) ∙ reads)
          (ap (λ l. script_run t others (call_in t others 4096) block steps l) (sym (ap plain f ∙ plain_cut m B S P Y ∙ ap (λ l. (l ++ P) ++ (Y ++ plain S)) (sym before))) ∙ wreads)

      left_is : (X : List Act) → r.acts ≡ A ++ (tagged n (P ++ X) ++ R) → (first second : List Act) (p : Parting t names others (plain A ++ P) first second) (pre : IsPrefix (read_with p p.a) r.acts)
          → (p.state.read ++ tagged p.state.begun p.since ≡ A ++ tagged n P) × ((p.state.begun, p.a) ∷ pre.0 ≡ tagged n X ++ R)
      left_is X e first second p pre = head_is p.state.begun n p.state.read A (tagged n X ++ R) pre.0 r.acts p.since P p.a p.read pre.1 (e ∙ regroup n A R P X)

      right_is : (Y : List Act) → w.acts ≡ B ++ (tagged m (P ++ Y) ++ S) → (first second : List Act) (p : Parting t names others (plain A ++ P) first second) (pre : IsPrefix (read_with p p.b) w.acts)
          → (p.state.read ++ tagged p.state.begun p.since ≡ B ++ tagged m P) × ((p.state.begun, p.b) ∷ pre.0 ≡ tagged m Y ++ S)
      right_is Y f first second p pre = head_is p.state.begun m p.state.read B (tagged m Y ++ S) pre.0 w.acts p.since P p.b (p.read ∙ ap (λ l. l ++ P) before) pre.1 (f ∙ regroup m B S P Y)

      -- an act that a run reads next has the tag of its turn, or of a later one
      left_tag : (X : List Act) → r.acts ≡ A ++ (tagged n (P ++ X) ++ R) → (g : ℕ) (rd : List (ℕ × Act)) (a : Act) → plain rd ≡ plain A ++ P → IsPrefix (rd ++ (g, a) ∷ []) r.acts
          → (tail : List (ℕ × Act)) × ((g, a) ∷ tail ≡ tagged n X ++ R)
      left_tag X e g rd a is pre = begins_rest g n rd A (tagged n X ++ R) r.acts P a is pre (e ∙ regroup n A R P X)

      right_tag : (Y : List Act) → w.acts ≡ B ++ (tagged m (P ++ Y) ++ S) → (g : ℕ) (rd : List (ℕ × Act)) (a : Act) → plain rd ≡ plain A ++ P → IsPrefix (rd ++ (g, a) ∷ []) w.acts
          → (tail : List (ℕ × Act)) × ((g, a) ∷ tail ≡ tagged m Y ++ S)
      right_tag Y f g rd a is pre = begins_rest g m rd B (tagged m Y ++ S) w.acts P a (is ∙ ap (λ l. l ++ P) before) pre (f ∙ regroup m B S P Y)

      tag_is : (g k : ℕ) (a x : Act) (tail rest : List (ℕ × Act)) → (g, a) ∷ tail ≡ (k, x) ∷ rest → g ≡ k
      tag_is g k a x tail rest e = let h : (g, a) ≡ (k, x) = cc e in ap (λ (z : ℕ × Act). z.0) h

      not_both : (g k : ℕ) (a : Act) (tail rest : List (ℕ × Act)) → (g, a) ∷ tail ≡ rest → TagsAre (λ i. k < i) rest → g ≡ k → ⊥
      not_both g k a tail rest e tags tag = let all : TagsAre (λ i. k < i) ((g, a) ∷ tail) = subst (TagsAre (λ i. k < i)) (sym e) tags in let more = all.0 in omega (arith, tag, more)

      not_second : (y : Act) (Y : List Act) → X0 ≡ P ++ [] → Y0 ≡ P ++ y ∷ Y → r.acts ≡ A ++ (tagged n (P ++ []) ++ R) → w.acts ≡ B ++ (tagged m (P ++ y ∷ Y) ++ S) → ⊥
      not_second y Y ex ey e f = go (parts [] (y ∷ Y) e f)
        where
          go : GoOn t names others (plain A ++ P) ([] ++ plain R) ((y ∷ Y) ++ plain S) r w → ⊥
          go (Neither none h same) = cc h
          go (Parted p) = not_both p.at.state.begun m p.at.a p.first_read.0 R (left_is [] e _ _ p.at p.first_read).1 high
              (tag_is p.at.state.begun m p.at.b y p.second_read.0 (tagged m Y ++ S) (right_is (y ∷ Y) f _ _ p.at p.second_read).1)
          go (FirstLacks l) =
              let tail = right_tag (y ∷ Y) f l.begun l.read l.b l.read_is l.goes_on in
              let tag = tag_is l.begun m l.b y tail.0 (tagged m Y ++ S) tail.1 in
              no_first P [] (y ∷ Y) m (inr refl) ex ey shared (full_in l.begun m l.read (plain R) [] (plain R) r l.stops tag refl) l.name l.key l.full l.has
          go (SecondLacks l) =
              let mine = left_tag [] e l.begun l.read l.b l.read_is l.goes_on in
              let tail = right_tag (y ∷ Y) f l.begun l.read y l.read_is (first_of_full l.begun l.read y (Y ++ plain S) w l.stops) in
              not_both l.begun m l.b mine.0 R mine.1 high (tag_is l.begun m y y tail.0 (tagged m Y ++ S) tail.1)

      not_first : (x : Act) (X : List Act) → X0 ≡ P ++ x ∷ X → Y0 ≡ P ++ [] → r.acts ≡ A ++ (tagged n (P ++ x ∷ X) ++ R) → w.acts ≡ B ++ (tagged m (P ++ []) ++ S) → ⊥
      not_first x X ex ey e f = go (parts (x ∷ X) [] e f)
        where
          go : GoOn t names others (plain A ++ P) ((x ∷ X) ++ plain R) ([] ++ plain S) r w → ⊥
          go (Neither h none same) = cc h
          go (Parted p) = not_both p.at.state.begun n p.at.b p.second_read.0 S (right_is [] f _ _ p.at p.second_read).1 over
              (tag_is p.at.state.begun n p.at.a x p.first_read.0 (tagged n X ++ R) (left_is (x ∷ X) e _ _ p.at p.first_read).1)
          go (FirstLacks l) =
              let others_tail = right_tag [] f l.begun l.read l.b l.read_is l.goes_on in
              let tail = left_tag (x ∷ X) e l.begun l.read x l.read_is (first_of_full l.begun l.read x (X ++ plain R) r l.stops) in
              not_both l.begun n l.b others_tail.0 S others_tail.1 over (tag_is l.begun n x x tail.0 (tagged n X ++ R) tail.1)
          go (SecondLacks l) =
              let tail = left_tag (x ∷ X) e l.begun l.read l.b l.read_is l.goes_on in
              let tag = tag_is l.begun n l.b x tail.0 (tagged n X ++ R) tail.1 in
              no_second P (x ∷ X) [] n (inl refl) ex ey shared (full_in l.begun n l.read (plain S) [] (plain S) w l.stops tag refl) l.name l.key l.full l.has

      same_next : (x y : Act) (X Y : List Act) → X0 ≡ P ++ x ∷ X → Y0 ≡ P ++ y ∷ Y → r.acts ≡ A ++ (tagged n (P ++ x ∷ X) ++ R) → w.acts ≡ B ++ (tagged m (P ++ y ∷ Y) ++ S)
          → (x ≡ y) × IsShared names others x
      same_next x y X Y ex ey e f = go (parts (x ∷ X) (y ∷ Y) e f)
        where
          both : (part : Part t names others (plain A ++ P) ((x ∷ X) ++ plain R) ((y ∷ Y) ++ plain S) r w) → (x ≡ y) × IsShared names others x
          both part =
              let p = part.at in
              let l = left_is (x ∷ X) e _ _ p part.first_read in
              let mine : (p.state.begun, p.a) ≡ (n, x) = (let h : (p.state.begun, p.a) ∷ part.first_read.0 ≡ (n, x) ∷ (tagged n X ++ R) = l.1 in cc h) in
              let tag : p.state.begun ≡ n = ap (λ (z : ℕ × Act). z.0) mine in
              let other_tag : p.state.begun ≡ m = tag_is p.state.begun m p.b y part.second_read.0 (tagged m Y ++ S) (right_is (y ∷ Y) f _ _ p part.second_read).1 in
              let is_a : p.a ≡ x = ap (λ (z : ℕ × Act). z.1) mine in
              let is_b : p.b ≡ y = (let h : y ∷ (Y ++ plain S) ≡ p.b ∷ p.behind_b = p.is_b in sym (cc h)) in
              let s = in_turn p.state.begun n tag p.state.read A p.since P low l.0 in
              let read : plain p.state.read ≡ plain A ++ s.0 = ap plain s.2 ∙ map-append (λ (e : ℕ × Act). e.1) A (tagged n s.0) ∙ ap (λ k. plain A ++ k) (untagged n s.0) in
              let xa : X0 ≡ P ++ p.a ∷ X = ex ∙ ap (λ z. P ++ z ∷ X) (sym is_a) in
              let yb : Y0 ≡ P ++ p.b ∷ Y = ey ∙ ap (λ z. P ++ z ∷ Y) (sym is_b) in
              let rd = p.state.read ++ tagged p.state.begun p.since in
              let stays : NotFull names others p.question p.a p.b = λ own q full has. no_first P (p.a ∷ X) (p.b ∷ Y) n (inl refl) xa yb shared
              (full_in p.state.begun n rd ((x ∷ X) ++ plain R) (p.a ∷ X) (plain R) r (part.first_stops own) tag (ap (λ z. z ∷ (X ++ plain R)) (sym is_a))) q (key_of p.b) full has in
              let stays' : NotFull others names p.other p.b p.a = λ own q full has. no_second P (p.a ∷ X) (p.b ∷ Y) m (inr refl) xa yb shared
              (full_in p.state.begun m rd ((y ∷ Y) ++ plain S) (p.b ∷ Y) (plain S) w (part.second_stops own) other_tag (ap (λ z. z ∷ (Y ++ plain S)) (sym is_b))) q (key_of p.a) full has in
              let one = next P X Y s.0 (plain A ++ P) ((x ∷ X) ++ plain R) ((y ∷ Y) ++ plain S) p xa yb s.1 read shared stays stays' in
              (sym is_a ∙ one.0 ∙ is_b, subst (IsShared names others) is_a one.1)

          go : GoOn t names others (plain A ++ P) ((x ∷ X) ++ plain R) ((y ∷ Y) ++ plain S) r w → (x ≡ y) × IsShared names others x
          go (Neither h none same) = absurd (cc h)
          go (Parted p) = both p
          go (FirstLacks l) =
              let tail = right_tag (y ∷ Y) f l.begun l.read l.b l.read_is l.goes_on in
              let tag = tag_is l.begun m l.b y tail.0 (tagged m Y ++ S) tail.1 in
              absurd (no_first P (x ∷ X) (y ∷ Y) m (inr refl) ex ey shared (full_in l.begun m l.read ((x ∷ X) ++ plain R) (x ∷ X) (plain R) r l.stops tag refl) l.name l.key l.full l.has)
          go (SecondLacks l) =
              let tail = left_tag (x ∷ X) e l.begun l.read l.b l.read_is l.goes_on in
              let tag = tag_is l.begun n l.b x tail.0 (tagged n X ++ R) tail.1 in
              absurd (no_second P (x ∷ X) (y ∷ Y) n (inl refl) ex ey shared (full_in l.begun n l.read ((y ∷ Y) ++ plain S) (y ∷ Y) (plain S) w l.stops tag refl) l.name l.key l.full l.has)

    same_acts : (P : List Act) → AreShared names others P → (X Y : List Act) → X0 ≡ P ++ X → Y0 ≡ P ++ Y → r.acts ≡ A ++ (tagged n (P ++ X) ++ R) → w.acts ≡ B ++ (tagged m (P ++ Y) ++ S)
        → (X ≡ Y) × AreShared names others X
    same_acts P shared [] [] ex ey e f = (refl, tt)
    same_acts P shared [] (y ∷ Y) ex ey e f = absurd (not_second P shared y Y ex ey e f)
    same_acts P shared (x ∷ X) [] ex ey e f = absurd (not_first P shared x X ex ey e f)
    same_acts P shared (x ∷ X) (y ∷ Y) ex ey e f =
        let one = same_next P shared x y X Y ex ey e f in
        let onward : P ++ x ∷ X ≡ (P ++ x ∷ []) ++ X = sym (append_assoc P (x ∷ []) X) in
        let across : P ++ y ∷ Y ≡ (P ++ x ∷ []) ++ Y = ap (λ z. P ++ z ∷ Y) (sym one.0) ∙ sym (append_assoc P (x ∷ []) Y) in
        let more = same_acts (P ++ x ∷ []) (shared_both names others P (x ∷ []) shared (one.1, tt)) X Y (ex ∙ onward) (ey ∙ across)
        (e ∙ ap (λ l. A ++ (tagged n l ++ R)) onward) (f ∙ ap (λ l. B ++ (tagged m l ++ S)) across) in
        (ap (λ z. z ∷ X) one.0 ∙ ap (λ l. y ∷ l) more.0, (one.1, more.1))

  -- where the next acts are the same wherever both go on, the turn's acts are
  pub one_turn : (X Y : List Act) → OneNext X Y → NoFirst X Y → NoSecond X Y → r.acts ≡ A ++ (tagged n X ++ R) → w.acts ≡ B ++ (tagged m Y ++ S) → (X ≡ Y) × AreShared names others X
  one_turn X Y next no_first no_second e f = same_acts X Y next no_first no_second [] tt X Y refl refl e f
