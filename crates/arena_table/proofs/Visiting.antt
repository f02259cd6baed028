-- Walks that list the arenas of some zones, and walks that change them.
use Rattle.std.proofs.Common.{◌≡◌, ◌<◌, ◌≤◌, ◌+◌, ◌*◌, ◌^◌, ◌==◌, ℕ, zero, suc, Bool, true, false, if◌then◌else◌}
use Rattle.std.proofs.Common.{IsSomeAnd, List, [], ◌∷◌, ◌++◌, length, map, drop, Option, Some, None, slice_get, All}
use Rattle.std.proofs.Common.{refl, sym, ◌∙◌, ap, subst, arith, append_assoc, append-nil, length-append}
use Rattle.std.proofs.lemmas.List.Elements.{All-cons, All-head, All-tail}
use Rattle.std.specs.List.{range_with_len}
use Rattle.cell_bits.specs.declared.bits.Bits.{Bits}
use Rattle.cell_bits.specs.declared.jobs.Job.{Job}
use Rattle.arena_table.specs.Slots.{Arena, at_bits, change_at, alloc_word_of, bit_of}
use Rattle.arena_table.specs.Stored.{IsHeadOf}
use Rattle.arena_table.specs.Indexed.{IsOwnedBy, is_owned, in_zones, numbers_from}
use Rattle.arena_table.specs.Walks.{walk_rest}
use Rattle.arena_table.specs.Table.{in_these, jobs_from, no_bits}
use Rattle.arena_table.specs.declared.store.Head.{Head}
use Rattle.arena_table.specs.declared.walk.Walk.{Walk}
use Rattle.arena_table.proofs.Changing.{length-change_at}

-- all numbers of a list are below one
abbrev pub AreBelow : ℕ → List ℕ → Type 0
AreBelow n [] = Unit {0}
AreBelow n (a ∷ as') = (a < n) × AreBelow n as'

numbers-below : (word n m : ℕ) (xs : List Arena) → n + length xs ≡ m → AreBelow m (numbers_from word n xs)
numbers-below word n m [] e = tt
numbers-below word n m (x ∷ xs) e = by (in_zones word x.zone) (numbers-below word (suc n) m xs (omega arith))
  where
    by : (b : Bool) → AreBelow m (numbers_from word (suc n) xs)
        → AreBelow m (if b then n ∷ numbers_from word (suc n) xs else numbers_from word (suc n) xs)
    by true h = (let lt : n < m = omega arith in (lt, h))
    by false h = h

-- the job of an arena
abbrev job-of : ℕ → Option Arena → Job
job-of a None = record { arena = a; alloc_word = 0; bits = no_bits }
job-of a (Some x) = record { arena = a; alloc_word = alloc_word_of x.slots; bits = x.bits }

abbrev job-at : List Arena → ℕ → Job
job-at arenas a = job-of a (slice_get arenas a)

jobs-numbered : (word n : ℕ) (arenas xs : List Arena) → ((k : ℕ) → slice_get arenas (n + k) ≡ slice_get xs k)
    → map (job-at arenas) (numbers_from word n xs) ≡ jobs_from word n xs
jobs-numbered word n arenas [] h = refl
jobs-numbered word n arenas (x ∷ xs) h =
    by (in_zones word x.zone)
    (jobs-numbered word (suc n) arenas xs
    (λ k. ap (slice_get arenas) (let same : suc n + k ≡ n + suc k = omega arith in same) ∙ h (suc k)))
  where
    here : job-at arenas n ≡ record { arena = n; alloc_word = alloc_word_of x.slots; bits = x.bits }
    here = ap (job-of n) (ap (slice_get arenas) (let same : n ≡ n + 0 = omega arith in same) ∙ h 0)

    by : (b : Bool) → map (job-at arenas) (numbers_from word (suc n) xs) ≡ jobs_from word (suc n) xs
        → map (job-at arenas) (if b then n ∷ numbers_from word (suc n) xs else numbers_from word (suc n) xs)
        ≡ (if b then record { arena = n; alloc_word = alloc_word_of x.slots; bits = x.bits } ∷ jobs_from word (suc n) xs
        else jobs_from word (suc n) xs)
    by true r = ap (λ j. j ∷ map (job-at arenas) (numbers_from word (suc n) xs)) here
        ∙ ap (λ js. record { arena = n; alloc_word = alloc_word_of x.slots; bits = x.bits } ∷ js) r
    by false r = r

-- some jobs are listed, and the walk has the rest
pub record IsListing (arenas : List Arena) (word : ℕ) (jobs : List Job) (walk : Walk) : Type 0 where
  pub listed : jobs ++ map (job-at arenas) (walk_rest arenas walk) ≡ jobs_from word 0 arenas
  pub within : AreBelow (length arenas) (walk_rest arenas walk)
  pub below : (walk.base ≤ 2 ^ 32) × (walk.at ≤ 2 ^ 26)

pub IsListing-first : (arenas : List Arena) (word : ℕ) (jobs : List Job) (walk : Walk) → jobs ≡ []
    → walk_rest arenas walk ≡ numbers_from word 0 arenas → (walk.base ≤ 2 ^ 32) × (walk.at ≤ 2 ^ 26)
    → IsListing arenas word jobs walk
IsListing-first arenas word jobs walk none rest below = record {
  listed = ap (λ js. js ++ map (job-at arenas) (walk_rest arenas walk)) none
      ∙ (ap (map (job-at arenas)) rest
      ∙ jobs-numbered word 0 arenas arenas (λ k. ap (slice_get arenas) (let same : 0 + k ≡ k = omega arith in same)));
  within = subst (AreBelow (length arenas)) (sym rest) (numbers-below word 0 (length arenas) arenas (omega arith));
  below = below;
}

pub IsListing-within : (arenas : List Arena) (word : ℕ) (jobs : List Job) (walk next : Walk) (a : ℕ)
    → IsListing arenas word jobs walk → walk_rest arenas walk ≡ a ∷ walk_rest arenas next → a < length arenas
IsListing-within arenas word jobs walk next a h e = (subst (AreBelow (length arenas)) e h.within).0

pub IsListing-next : (arenas : List Arena) (word : ℕ) (jobs : List Job) (walk next : Walk) (a : ℕ) (head : Head)
    → IsListing arenas word jobs walk → walk_rest arenas walk ≡ a ∷ walk_rest arenas next → (next.base ≤ 2 ^ 32)
    × (next.at ≤ 2 ^ 26) → IsSomeAnd (slice_get arenas a) (λ x. IsHeadOf x head)
    → IsListing arenas word (jobs ++ record { arena = a; alloc_word = head.alloc_word; bits = head.bits } ∷ []) next
IsListing-next arenas word jobs walk next a head h e below is = record {
  listed = append_assoc jobs _ _
      ∙ (ap (λ j. jobs ++ j ∷ map (job-at arenas) (walk_rest arenas next)) (sym (by (slice_get arenas a) is))
      ∙ (ap (λ ns. jobs ++ map (job-at arenas) ns) (sym e) ∙ h.listed));
  within = (subst (AreBelow (length arenas)) e h.within).1;
  below = below;
}
  where
    by : (o : Option Arena) → IsSomeAnd o (λ x. IsHeadOf x head)
        → job-of a o ≡ record { arena = a; alloc_word = head.alloc_word; bits = head.bits }
    by None none = absurd none
    by (Some x) h = ap (λ w. record { arena = a; alloc_word = w; bits = x.bits }) h.alloc_word
        ∙ ap (λ (b : Bits). record { arena = a; alloc_word = head.alloc_word; bits = b }) h.bits

pub IsListing-all : (arenas : List Arena) (word : ℕ) (jobs : List Job) (walk : Walk) → IsListing arenas word jobs walk
    → walk_rest arenas walk ≡ [] → jobs ≡ jobs_from word 0 arenas
IsListing-all arenas word jobs walk h none = sym (append-nil jobs)
    ∙ (ap (λ ns. jobs ++ map (job-at arenas) ns) (sym none) ∙ h.listed)

pub rest-shorter : (arenas : List Arena) (walk next : Walk) (a : ℕ) → walk_rest arenas walk ≡ a ∷ walk_rest arenas next
    → length (walk_rest arenas next) < length (walk_rest arenas walk)
rest-shorter arenas walk next a e = (let long = ap length e in omega arith)

-- the arenas of some numbers are changed
abbrev changed-all : (Arena → Arena) → List ℕ → List Arena → List Arena
changed-all f [] xs = xs
changed-all f (a ∷ as') xs = changed-all f as' (change_at f xs a)

change_at-after : (f : Arena → Arena) (pre xs : List Arena) (x : Arena) → change_at f (pre ++ x ∷ xs) (length pre)
    ≡ (pre ++ f x ∷ []) ++ xs
change_at-after f [] xs x = refl
change_at-after f (p ∷ pre) xs x = ap (λ ys. p ∷ ys) (change_at-after f pre xs x)

changed-numbered : (f : Arena → Arena) (word n : ℕ) (pre xs : List Arena) → length pre ≡ n
    → changed-all f (numbers_from word n xs) (pre ++ xs) ≡ pre ++ in_these f word xs
changed-numbered f word n pre [] e = refl
changed-numbered f word n pre (x ∷ xs) e =
    by (in_zones word x.zone)
    (λ y. changed-numbered f word (suc n) (pre ++ y ∷ []) xs (omega (arith, length-append pre (y ∷ []))))
  where
    by : (b : Bool) → ((y : Arena) → changed-all f (numbers_from word (suc n) xs) ((pre ++ y ∷ []) ++ xs)
        ≡ (pre ++ y ∷ []) ++ in_these f word xs)
        → changed-all f (if b then n ∷ numbers_from word (suc n) xs else numbers_from word (suc n) xs) (pre ++ x ∷ xs)
        ≡ pre ++ (if b then f x else x) ∷ in_these f word xs
    by true rest = ap (λ i. changed-all f (numbers_from word (suc n) xs) (change_at f (pre ++ x ∷ xs) i)) (sym e)
        ∙ (ap (changed-all f (numbers_from word (suc n) xs)) (change_at-after f pre xs x)
        ∙ (rest (f x) ∙ append_assoc pre (f x ∷ []) (in_these f word xs)))
    by false rest = ap (changed-all f (numbers_from word (suc n) xs)) (sym (append_assoc pre (x ∷ []) xs))
        ∙ (rest x ∙ append_assoc pre (x ∷ []) (in_these f word xs))

-- a change that keeps the zone keeps the numbers
numbers-change : (f : Arena → Arena) (word n k a : ℕ) (xs : List Arena) → ((x : Arena) → (f x).zone ≡ x.zone)
    → numbers_from word n (drop k (change_at f xs a)) ≡ numbers_from word n (drop k xs)
numbers-change f word n zero a [] h = refl
numbers-change f word n (suc k) a [] h = refl
numbers-change f word n zero zero (x ∷ xs) h =
    ap (λ z. if in_zones word z then n ∷ numbers_from word (suc n) xs else numbers_from word (suc n) xs) (h x)
numbers-change f word n zero (suc a) (x ∷ xs) h =
    ap (λ ns. if in_zones word x.zone then n ∷ ns else ns) (numbers-change f word (suc n) 0 a xs h)
numbers-change f word n (suc k) zero (x ∷ xs) h = refl
numbers-change f word n (suc k) (suc a) (x ∷ xs) h = numbers-change f word n k a xs h

rest-change : (f : Arena → Arena) (xs : List Arena) (walk : Walk) (a : ℕ) → ((x : Arena) → (f x).zone ≡ x.zone)
    → walk_rest (change_at f xs a) walk ≡ walk_rest xs walk
rest-change f xs walk a h = ap (λ ns. at_bits walk.left (range_with_len walk.base 64) ++ ns)
    (numbers-change f walk.zones.bits (64 * walk.at) (64 * walk.at) a xs h)

zones-change : (f : Arena → Arena) (xs : List Arena) (a : ℕ) → ((x : Arena) → (f x).zone ≡ x.zone)
    → All (λ (x : Arena). x.zone ≤ 64) xs → All (λ (x : Arena). x.zone ≤ 64) (change_at f xs a)
zones-change f [] a h all = all
zones-change f (x ∷ xs) zero h all =
    All-cons (λ (x : Arena). x.zone ≤ 64) (f x) xs
    (subst (λ z. z ≤ 64) (sym (h x)) (All-head (λ (x : Arena). x.zone ≤ 64) x xs all))
    (All-tail (λ (x : Arena). x.zone ≤ 64) x xs all)
zones-change f (x ∷ xs) (suc a) h all =
    All-cons (λ (x : Arena). x.zone ≤ 64) x (change_at f xs a) (All-head (λ (x : Arena). x.zone ≤ 64) x xs all)
    (zones-change f xs a h (All-tail (λ (x : Arena). x.zone ≤ 64) x xs all))

owned-change : (f : Arena → Arena) (xs : List Arena) (a z b : ℕ) → ((x : Arena) → (f x).zone ≡ x.zone)
    → is_owned z (slice_get (change_at f xs a) b) ≡ is_owned z (slice_get xs b)
owned-change f [] a z b h = refl
owned-change f (x ∷ xs) zero z zero h = ap (λ y. y == z) (h x)
owned-change f (x ∷ xs) zero z (suc b) h = refl
owned-change f (x ∷ xs) (suc a) z zero h = refl
owned-change f (x ∷ xs) (suc a) z (suc b) h = owned-change f xs a z b h

pub IsOwnedBy-change : (f : Arena → Arena) (xs : List Arena) (owned : List (List ℕ)) (a : ℕ)
    → ((x : Arena) → (f x).zone ≡ x.zone) → IsOwnedBy xs owned → IsOwnedBy (change_at f xs a) owned
IsOwnedBy-change f xs owned a h o = record {
  zones = zones-change f xs a h o.zones;
  bits = λ z b lt. o.bits z b lt ∙ ap bit_of (sym (owned-change f xs a z b h));
}

-- some arenas are changed, and the walk has the rest
pub record IsChanging (f : Arena → Arena) (before arenas : List Arena) (sets : List (List ℕ)) (word : ℕ)
    (walk : Walk) : Type 0 where
  pub changed : changed-all f (walk_rest arenas walk) arenas ≡ in_these f word before
  pub owned : IsOwnedBy arenas sets
  pub within : AreBelow (length arenas) (walk_rest arenas walk)
  pub below : (walk.base ≤ 2 ^ 32) × (walk.at ≤ 2 ^ 26)

pub IsChanging-first : (f : Arena → Arena) (arenas : List Arena) (sets : List (List ℕ)) (word : ℕ) (walk : Walk)
    → IsOwnedBy arenas sets → walk_rest arenas walk ≡ numbers_from word 0 arenas → (walk.base ≤ 2 ^ 32)
    × (walk.at ≤ 2 ^ 26) → IsChanging f arenas arenas sets word walk
IsChanging-first f arenas sets word walk owned rest below = record {
  changed = ap (λ ns. changed-all f ns arenas) rest ∙ changed-numbered f word 0 [] arenas refl;
  owned = owned;
  within = subst (AreBelow (length arenas)) (sym rest) (numbers-below word 0 (length arenas) arenas (omega arith));
  below = below;
}

pub IsChanging-within : (f : Arena → Arena) (before arenas : List Arena) (sets : List (List ℕ)) (word : ℕ)
    (walk next : Walk) (a : ℕ) → IsChanging f before arenas sets word walk
    → walk_rest arenas walk ≡ a ∷ walk_rest arenas next → a < length arenas
IsChanging-within f before arenas sets word walk next a h e = (subst (AreBelow (length arenas)) e h.within).0

pub IsChanging-next : (f : Arena → Arena) (before arenas now : List Arena) (sets : List (List ℕ)) (word : ℕ)
    (walk next : Walk) (a : ℕ) → IsChanging f before arenas sets word walk → ((x : Arena) → (f x).zone ≡ x.zone)
    → walk_rest arenas walk ≡ a ∷ walk_rest arenas next → (next.base ≤ 2 ^ 32) × (next.at ≤ 2 ^ 26)
    → now ≡ change_at f arenas a → IsChanging f before now sets word next
IsChanging-next f before arenas now sets word walk next a h keeps e below is =
    subst (λ xs. IsChanging f before xs sets word next) (sym is) (record {
      changed = ap (λ ns. changed-all f ns (change_at f arenas a)) (rest-change f arenas next a keeps)
          ∙ (sym (ap (λ ns. changed-all f ns arenas) e) ∙ h.changed);
      owned = IsOwnedBy-change f arenas sets a keeps h.owned;
      within = subst (λ n. AreBelow n (walk_rest (change_at f arenas a) next)) (sym (length-change_at f arenas a))
          (subst (AreBelow (length arenas)) (sym (rest-change f arenas next a keeps))
          (subst (AreBelow (length arenas)) e h.within).1);
      below = below;
    })

pub IsChanging-all : (f : Arena → Arena) (before arenas : List Arena) (sets : List (List ℕ)) (word : ℕ) (walk : Walk)
    → IsChanging f before arenas sets word walk → walk_rest arenas walk ≡ [] → arenas ≡ in_these f word before
IsChanging-all f before arenas sets word walk h none = sym (ap (λ ns. changed-all f ns arenas) none) ∙ h.changed

pub rest-shorter_now : (f : Arena → Arena) (arenas now : List Arena) (walk next : Walk) (a : ℕ)
    → ((x : Arena) → (f x).zone ≡ x.zone) → walk_rest arenas walk ≡ a ∷ walk_rest arenas next
    → now ≡ change_at f arenas a → length (walk_rest now next) < length (walk_rest arenas walk)
rest-shorter_now f arenas now walk next a keeps e is =
    let same = ap length (ap (λ xs. walk_rest xs next) is ∙ rest-change f arenas next a keeps) in
    let long = ap length e in
    omega arith
