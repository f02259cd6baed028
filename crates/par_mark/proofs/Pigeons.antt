-- Different cells of arenas with 64 slots are few.
use Rattle.std.proofs.Common.{◌≡◌, ℕ, zero, suc, ◌+◌, ◌*◌, ◌<◌, ◌≤◌, List, [], ◌∷◌, Option, refl, ap, ◌∙◌, arith, All}
use Rattle.std.proofs.lemmas.List.Elements.{All-head, All-tail}
use mathlib.Core.Logic.{dite}
use native.Mathlib.Decide.{ℕ_discrete}
use Rattle.mark_words.specs.Sums.{weigh, only, times}
use Rattle.mark_words.proofs.Counts.{only-same}
use Rattle.mark_ahead.specs.Edges.{targets, degree}
use Rattle.par_mark.specs.Edges.{slots_sum, arenas_sum}
use Rattle.par_mark.proofs.Cells.{eight}
use Rattle.par_mark.proofs.Scanning.{weigh-one}

module _ (f g : ℕ × ℕ → ℕ) where
  slots-le : ((p : ℕ × ℕ) → f p ≤ g p) → (a m : ℕ) → slots_sum f a m ≤ slots_sum g a m
  slots-le le a zero = omega arith
  slots-le le a (suc m) = let r = slots-le le a m in let h = le (a, m) in omega arith

  arenas-le : ((p : ℕ × ℕ) → f p ≤ g p) → (m n : ℕ) → arenas_sum f m n ≤ arenas_sum g m n
  arenas-le le m zero = omega arith
  arenas-le le m (suc n) = let r = arenas-le le m n in let h = slots-le le n m in omega arith

  slots-add : (a m : ℕ) → slots_sum (λ p. f p + g p) a m ≡ slots_sum f a m + slots_sum g a m
  slots-add a zero = omega arith
  slots-add a (suc m) = let r = slots-add a m in omega arith

  arenas-add : (m n : ℕ) → arenas_sum (λ p. f p + g p) m n ≡ arenas_sum f m n + arenas_sum g m n
  arenas-add m zero = omega arith
  arenas-add m (suc n) = let r = arenas-add m n in let h = slots-add n m in omega arith

-- a cell counts in its arena, and so among all
slots-has : (f : ℕ × ℕ → ℕ) (a s m : ℕ) → s < m → f (a, s) ≤ slots_sum f a m
slots-has f a s zero lt = absurd (omega arith)
slots-has f a s (suc m) lt = dite (ℕ_discrete s m)
    (λ e. let h : f (a, s) ≡ f (a, m) = ap (λ (z : ℕ). f (a, z)) e in omega arith)
    (λ ne. let r = slots-has f a s m (omega arith) in omega arith)

arenas-has : (f : ℕ × ℕ → ℕ) (p : ℕ × ℕ) (m n : ℕ) → p.0 < n → p.1 < m → f p ≤ arenas_sum f m n
arenas-has f p m zero lt slot = absurd (omega arith)
arenas-has f p m (suc n) lt slot = dite (ℕ_discrete p.0 n)
    (λ e. let r = slots-has f n p.1 m slot in let h : f p ≡ f (n, p.1) = ap (λ (z : ℕ). f (z, p.1)) e in omega arith)
    (λ ne. let r = arenas-has f p m n (omega arith) slot in omega arith)

-- a number if another one isn't 0
abbrev if_any : ℕ → ℕ → ℕ
if_any zero n = 0
if_any (suc k) n = n

if_any-le : (k n : ℕ) → if_any k n ≤ n
if_any-le zero n = omega arith
if_any-le (suc k) n = omega arith

if_any-one : (n : ℕ) → if_any 1 n ≡ n
if_any-one n = refl

module _ (f : ℕ × ℕ → ℕ) where
  -- what a list weighs by the places in it that are this one
  abbrev share : ℕ × ℕ → List (ℕ × ℕ) → ℕ
  share c [] = 0
  share c (p ∷ ps) = if_any (only c p) (f c) + share c ps

  share-none : (c : ℕ × ℕ) (ps : List (ℕ × ℕ)) → times c ps ≡ 0 → share c ps ≡ 0
  share-none c [] e = omega arith
  share-none c (p ∷ ps) e =
      let z : if_any (only c p) (f c) ≡ 0 = ap (λ (k : ℕ). if_any k (f c)) (let o : only c p ≡ 0 = omega arith in o) in
      let r = share-none c ps (omega arith) in omega arith

  share-le : (c : ℕ × ℕ) (ps : List (ℕ × ℕ)) → times c ps ≤ 1 → share c ps ≤ f c
  share-le c [] le = omega arith
  share-le c (p ∷ ps) le = dite (ℕ_discrete (only c p) 0)
      (λ e. let z : if_any (only c p) (f c) ≡ 0 = ap (λ (k : ℕ). if_any k (f c)) e in
      let r = share-le c ps (omega arith) in omega arith)
      (λ ne. let b = if_any-le (only c p) (f c) in let r = share-none c ps (omega arith) in omega arith)

  module _ (m n : ℕ) where
    abbrev Inside : ℕ × ℕ → Type 0
    Inside p = (p.0 < n) × (p.1 < m)

    all_shares : (ps : List (ℕ × ℕ)) → All Inside ps → weigh f ps ≤ arenas_sum (λ c. share c ps) m n
    all_shares [] all = omega arith
    all_shares (p ∷ ps) all =
        let here = All-head Inside p ps all in
        let r = all_shares ps (All-tail Inside p ps all) in
        let a = arenas-add (λ c. if_any (only c p) (f c)) (λ c. share c ps) m n in
        let h = arenas-has (λ c. if_any (only c p) (f c)) p m n here.0 here.1 in
        let b : if_any (only p p) (f p) ≡ f p = ap (λ (k : ℕ). if_any k (f p)) (only-same p) ∙ if_any-one (f p) in
        omega arith

    -- different places weigh no more than all places together
    pub different_weigh : (ps : List (ℕ × ℕ)) → ((p : ℕ × ℕ) → times p ps ≤ 1) → All Inside ps
        → weigh f ps ≤ arenas_sum f m n
    different_weigh ps once all = let s = all_shares ps all in
        let l = arenas-le (λ c. share c ps) f (λ c. share-le c ps (once c)) m n in omega arith

slots-most : (f : ℕ × ℕ → ℕ) → ((p : ℕ × ℕ) → f p ≤ 8) → (a m : ℕ) → slots_sum f a m ≤ 8 * m
slots-most f le a zero = omega arith
slots-most f le a (suc m) = let r = slots-most f le a m in let h = le (a, m) in omega arith

arenas-most : (f : ℕ × ℕ → ℕ) → ((p : ℕ × ℕ) → f p ≤ 8) → (m n : ℕ) → m ≡ 64 → arenas_sum f m n ≤ 512 * n
arenas-most f le m zero e = omega arith
arenas-most f le m (suc n) e = let r = arenas-most f le m n e in let h = slots-most f le n m in omega arith

degree-most : (edge : ℕ × ℕ → ℕ → Option (ℕ × ℕ)) (p : ℕ × ℕ) → degree edge p ≤ 8
degree-most edge p = let e = eight edge p in let w = weigh-one (targets edge p) in omega arith

pub few_edges : (edge : ℕ × ℕ → ℕ → Option (ℕ × ℕ)) (n : ℕ) (ps : List (ℕ × ℕ)) → ((p : ℕ × ℕ) → times p ps ≤ 1)
    → All (λ p. (p.0 < n) × (p.1 < 64)) ps → weigh (degree edge) ps ≤ 512 * n
few_edges edge n ps once all = let w = different_weigh (degree edge) 64 n ps once all in
    let m = arenas-most (degree edge) (degree-most edge) 64 n refl in omega arith
