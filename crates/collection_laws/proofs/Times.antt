-- How often lists of names have a number, and the names that reports tell as freed.
use Rattle.std.proofs.Common.{◌≡◌, ℕ, ◌+◌, ◌⊎◌, inl, inr, List, [], ◌∷◌, ◌++◌, Bool, true, false, cond, refl, sym, ap}
use Rattle.std.proofs.Common.{subst, ◌∙◌, arith, Contains, append_assoc}
use Rattle.std.specs.List.{AllByRecursion}
use Rattle.std.specs.Ordering.{is_lt}
use Rattle.std.specs.Cmp.{tied_itself}
use Rattle.std.proofs.lemmas.List.Sums.{sum_by-append, sum_by-cons}
use Rattle.gz_names.specs.Order.{name_cmp, names_total, same_name}
use Rattle.gz_names.specs.declared.names.Name.{Name}
use Rattle.gz_names.specs.declared.names.Name.TheVariants.{Cell}
use Rattle.gz_names.specs.declared.replies.Report.{Report}
use Rattle.gz_names.specs.declared.replies.Report.TheVariants.{Started, Groups, Ended, Swept, Done, Stopped}
use Rattle.colour_defs.specs.Ends.{IsAscending}
use Rattle.colour_defs.proofs.Lists.{contains_cases, contains_head, contains_tail, nothing_in_none}
use Rattle.colour_defs.proofs.Names.{same_name-is, same_name-refl}
use Rattle.collection_laws.specs.Numbers.{freed_in, times_in}

times_head : (n : ℕ) (x : Name) (xs : List Name) (b : Bool) → same_name x (Cell n) ≡ b
    → times_in (x ∷ xs) n ≡ cond b 1 0 + times_in xs n
times_head n x xs b e =
    sum_by-cons (λ y. cond (same_name y (Cell n)) 1 0) x xs ∙ ap (λ t. cond t 1 0 + times_in xs n) e

pub times_append : (n : ℕ) (xs ys : List Name) → times_in (xs ++ ys) n ≡ times_in xs n + times_in ys n
times_append n xs ys = sum_by-append (λ y. cond (same_name y (Cell n)) 1 0) xs ys

pub times_cases : (n : ℕ) (xs : List Name) → (times_in xs n ≡ 0) ⊎ Contains xs (Cell n)
times_cases n [] = inl refl
times_cases n (x ∷ xs) = go (times_cases n xs) (same_name x (Cell n)) refl
  where
    go : (times_in xs n ≡ 0) ⊎ Contains xs (Cell n) → (b : Bool) → same_name x (Cell n) ≡ b
        → (times_in (x ∷ xs) n ≡ 0) ⊎ Contains (x ∷ xs) (Cell n)
    go rest true e = inr (subst (λ y. Contains (x ∷ xs) y) (same_name-is x (Cell n) e) (contains_head x xs))
    go (inl none) false e = inl (let more = times_head n x xs false e in omega (arith, more, none))
    go (inr there) false e = inr (contains_tail x xs (Cell n) there)

pub times_none : (n : ℕ) (xs : List Name) → (Contains xs (Cell n) → ⊥) → times_in xs n ≡ 0
times_none n xs none = elim (times_cases n xs) [ inl e ↦ e | inr there ↦ absurd (none there) ]

all_at : (P : Name → Type 0) (xs : List Name) → AllByRecursion P xs → (y : Name) → Contains xs y → P y
all_at P [] a y c = absurd (nothing_in_none y c)
all_at P (x ∷ xs) a y c = elim (contains_cases x xs y c) [ inl e ↦ subst P e a.0 | inr t ↦ all_at P xs a.1 y t ]

not_before : (n : ℕ) → is_lt (name_cmp (Cell n) (Cell n)) ≡ true → ⊥
not_before n e = cc (ap is_lt (tied_itself names_total (Cell n)), e)

-- an ascending list has each name that it has once
pub times_one : (n : ℕ) (xs : List Name) → IsAscending xs → Contains xs (Cell n) → times_in xs n ≡ 1
times_one n [] up there = absurd (nothing_in_none (Cell n) there)
times_one n (x ∷ xs) up there = go (times_one n xs up.1) (same_name x (Cell n)) refl
  where
    go : (Contains xs (Cell n) → times_in xs n ≡ 1) → (b : Bool) → same_name x (Cell n) ≡ b
        → times_in (x ∷ xs) n ≡ 1
    go rest true e =
        let is : x ≡ Cell n = same_name-is x (Cell n) e in
        let none : times_in xs n ≡ 0 = times_none n xs
        (λ again. not_before n (subst (λ y. is_lt (name_cmp y (Cell n)) ≡ true) is
        (all_at (λ y. is_lt (name_cmp x y) ≡ true) xs up.0 (Cell n) again))) in
        let more = times_head n x xs true e in
        omega (arith, more, none)
    go rest false e = elim (contains_cases x xs (Cell n) there) [
      | inl is ↦ absurd (cc (e, ap (λ y. same_name y (Cell n)) is, same_name-refl (Cell n)))
      | inr t ↦ let more = times_head n x xs false e in let one = rest t in omega (arith, more, one)
    ]

pub freed_append : (rs ss : List Report) → freed_in (rs ++ ss) ≡ freed_in rs ++ freed_in ss
freed_append [] ss = refl
freed_append (Started ∷ rs) ss = freed_append rs ss
freed_append (Groups groups ∷ rs) ss = freed_append rs ss
freed_append (Ended zones grays told ∷ rs) ss = freed_append rs ss
freed_append (Swept arena names ∷ rs) ss =
    ap (λ l. names ++ l) (freed_append rs ss) ∙ sym (append_assoc names (freed_in rs) (freed_in ss))
freed_append (Done ∷ rs) ss = freed_append rs ss
freed_append (Stopped zones ∷ rs) ss = freed_append rs ss

-- `done` tells nothing
pub freed_last : (r : Report) → freed_in (r ∷ Done ∷ []) ≡ freed_in (r ∷ [])
freed_last Started = refl
freed_last (Groups groups) = refl
freed_last (Ended zones grays told) = refl
freed_last (Swept arena names) = refl
freed_last Done = refl
freed_last (Stopped zones) = refl
