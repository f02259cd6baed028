-- Names as numbers: the numbers have the order of the names.
use Rattle.std.proofs.Common.{◌≡◌, ◌<◌, ◌≤◌, ◌+◌, ◌-◌, ◌/◌, ◌%◌, ◌++◌, ◌∷◌, ◌∙◌, ℕ, List, [], length, get_or, map}
use Rattle.std.proofs.Common.{false, refl, sym, ap, subst, inl, inr, arith, append_assoc}
use Rattle.std.specs.List.Sorted.{IsPermutation, IsSorted}
use Rattle.std.specs.declared.cmp.Ordering.{Ordering}
use Rattle.std.specs.declared.cmp.Ordering.TheVariants.{Less, Equal, Greater}
use Rattle.std.specs.Ordering.{MatchOrdering, is_lt, nat_cmp, ordering_then}
use Rattle.std.proofs.lemmas.Bool.{cases_lt}
use Rattle.std.proofs.lemmas.Cmp.{ranked}
use Rattle.std.proofs.lemmas.List.{get_or-append_right, get_or-map, get_or_append_left, length-append, length-map}
use Rattle.std.proofs.lemmas.List.{map_push}
use Rattle.std.proofs.lemmas.List.Sorted.{IsPermutation-append, IsPermutation-append_right, IsPermutation-map}
use Rattle.std.proofs.lemmas.List.Sorted.{IsPermutation-to_front}
use Rattle.std.proofs.lemmas.Map.Keys.{ge_from_not_lt}
use Rattle.gz_names.specs.Order.{name_cmp}
use Rattle.gz_names.specs.declared.names.Name.{Name}
use Rattle.gz_names.specs.declared.names.Name.TheVariants as name
use Rattle.slice_driver.specs.NameKeys.{names_at, wrapper_at}

-- two pairs of numbers, compared one after the other
pairs_up : (a b c d : ℕ) → a ≤ b → (a ≡ b → c ≤ d) → is_lt (ordering_then (nat_cmp b a) (nat_cmp d c)) ≡ false
pairs_up a b c d le tie = first (nat_cmp b a) (ranked b a (nat_cmp b a) refl)
  where
    second : (o : Ordering) → MatchOrdering o (d < c) (d ≡ c) (c < d) → c ≤ d → is_lt o ≡ false
    second Less lt up = absurd (omega (arith, lt, up))
    second Equal same up = refl
    second Greater more up = refl

    first : (o : Ordering) → MatchOrdering o (b < a) (b ≡ a) (a < b) → is_lt (ordering_then o (nat_cmp d c)) ≡ false
    first Less lt = absurd (omega (arith, lt, le))
    first Equal same = second (nat_cmp d c) (ranked d c (nat_cmp d c) refl) (tie (sym same))
    first Greater more = refl

cells_up : (a b : ℕ) → a ≤ b → is_lt (name_cmp (name.Cell b) (name.Cell a)) ≡ false
cells_up a b le = pairs_up 0 0 a b (omega arith) (λ same. le)

wrappers_up : (a b : ℕ) → a ≤ b → is_lt (name_cmp (wrapper_at b) (wrapper_at a)) ≡ false
wrappers_up a b le = pairs_up (a / 4294967296) (b / 4294967296) (a % 4294967296) (b % 4294967296)
    (omega (arith, le)) (λ same. omega (arith, le, same))

-- two names, told in other words
told : (x y v w : Name) → v ≡ x → w ≡ y → is_lt (name_cmp x y) ≡ false → is_lt (name_cmp v w) ≡ false
told x y v w same alike not_below = ap (λ (n : Name). is_lt (name_cmp n w)) same
    ∙ (ap (λ (n : Name). is_lt (name_cmp x n)) alike ∙ not_below)

-- numbers that ascend stand for names that ascend
named_sorted : (f : ℕ → Name) → ((a b : ℕ) → a ≤ b → is_lt (name_cmp (f b) (f a)) ≡ false) → (keys : List ℕ)
    → IsSorted nat_cmp keys → IsSorted name_cmp (map f keys)
named_sorted f up keys sorted = λ k d from below.
    let more : k + 1 < length keys = subst (λ (n : ℕ). k + 1 < n) (length-map keys f) below in
    told _ _ _ _ (get_or-map f keys (k + 1) 0 d more) (get_or-map f keys k 0 d (omega (arith, more)))
    (up _ _ (ge_from_not_lt _ _ (sorted k 0 from more)))

joined_sorted : (xs ys : List Name) → IsSorted name_cmp xs → IsSorted name_cmp ys
    → ((i j : ℕ) (d : Name) → i < length xs → j < length ys
    → is_lt (name_cmp (get_or ys j d) (get_or xs i d)) ≡ false)
    → IsSorted name_cmp (xs ++ ys)
joined_sorted xs ys first later between = λ k d from below.
    let n = length xs in
    let within : k + 1 < n + length ys = subst (λ (m : ℕ). k + 1 < m) (length-append xs ys) below in
    elim (cases_lt (k + 1) n) [
      | inl lt ↦ told _ _ _ _ (get_or_append_left xs ys d (k + 1) lt)
          (get_or_append_left xs ys d k (omega (arith, lt))) (first k d from lt)
      | inr ge ↦ elim (cases_lt k n) [
        | inl lt ↦ told _ _ _ _ (get_or-append_right xs ys n (k + 1) d refl ge) (get_or_append_left xs ys d k lt)
            (between k (k + 1 - n) d lt (omega (arith, within, ge)))
        | inr past ↦
            (let step : k + 1 - n ≡ k - n + 1 = omega (arith, past) in
            told _ _ _ _
            (get_or-append_right xs ys n (k + 1) d refl ge ∙ ap (λ (i : ℕ). get_or ys i d) step)
            (get_or-append_right xs ys n k d refl past)
            (later (k - n) d (omega arith) (omega (arith, within, past))))
      ]
    ]

pub names_sorted : (cells wrappers : List ℕ) → IsSorted nat_cmp cells → IsSorted nat_cmp wrappers
    → IsSorted name_cmp (names_at cells wrappers)
names_sorted cells wrappers first later =
    joined_sorted (map (λ n. name.Cell n) cells) (map wrapper_at wrappers)
    (named_sorted (λ n. name.Cell n) cells_up cells first) (named_sorted wrapper_at wrappers_up wrappers later)
    (λ i j d lt below. told _ _ _ _
    (get_or-map wrapper_at wrappers j 0 d (subst (λ (n : ℕ). j < n) (length-map wrappers wrapper_at) below))
    (get_or-map (λ n. name.Cell n) cells i 0 d (subst (λ (n : ℕ). i < n) (length-map cells (λ n. name.Cell n)) lt))
    refl)

pub names_moved : (cells placed wrappers set : List ℕ) → IsPermutation cells placed → IsPermutation wrappers set
    → IsPermutation (names_at cells wrappers) (names_at placed set)
names_moved cells placed wrappers set one other = IsPermutation-append _ _ _ _
    (IsPermutation-map (λ n. name.Cell n) cells placed one) (IsPermutation-map wrapper_at wrappers set other)

-- equal numbers stand for equal names
pub same_names : (cells placed wrappers set : List ℕ) → cells ≡ placed → wrappers ≡ set
    → names_at cells wrappers ≡ names_at placed set
same_names cells placed wrappers set one other = ap (λ (ks : List ℕ). names_at ks wrappers) one
    ∙ ap (λ (ks : List ℕ). names_at placed ks) other

-- a cell more
cell_added : (cells wrappers : List ℕ) (n : ℕ)
    → IsPermutation (names_at cells wrappers ++ name.Cell n ∷ []) (names_at (cells ++ n ∷ []) wrappers)
cell_added cells wrappers n =
    let xs = map (λ m. name.Cell m) cells in
    let ys = map wrapper_at wrappers in
    subst (λ (old : List Name). IsPermutation old (names_at (cells ++ n ∷ []) wrappers))
    (sym (append_assoc xs ys (name.Cell n ∷ [])))
    (subst (λ (new : List Name). IsPermutation (xs ++ (ys ++ name.Cell n ∷ [])) new)
    (sym (append_assoc xs (name.Cell n ∷ []) ys)
    ∙ ap (λ (zs : List Name). zs ++ ys) (sym (map_push (λ m. name.Cell m) cells n)))
    (IsPermutation-append_right xs (ys ++ name.Cell n ∷ []) (name.Cell n ∷ ys)
    (IsPermutation-to_front ys (name.Cell n))))

pub cell_pushed : (old new wrappers : List ℕ) (names : List Name) (x : Name) (n : ℕ) → names_at old wrappers ≡ names
    → x ≡ name.Cell n → new ≡ old ++ n ∷ [] → IsPermutation (names ++ x ∷ []) (names_at new wrappers)
cell_pushed old new wrappers names x n here is more =
    subst (λ (ks : List ℕ). IsPermutation (names ++ x ∷ []) (names_at ks wrappers)) (sym more)
    (subst (λ (y : Name). IsPermutation (names ++ y ∷ []) (names_at (old ++ n ∷ []) wrappers)) (sym is)
    (subst (λ (xs : List Name). IsPermutation (xs ++ name.Cell n ∷ []) (names_at (old ++ n ∷ []) wrappers)) here
    (cell_added old wrappers n)))
