-- Sums over the views.
use Rattle.std.proofs.Common.{◌≡◌, ◌≢◌, ℕ, zero, suc, ◌+◌, ◌≤◌, List, [], ◌∷◌, ◌++◌, set, sym, ap, arith}
use mathlib.Core.Option.{some, some-injective, some-ne-none}
use lib.ListN.{get_elem?}
use Rattle.sweep_board.specs.declared.view.View.{View}
use Rattle.sweep_board.specs.Rule.{total}

module _ (f : View → ℕ) where
  -- the sum after one view changed
  pub total-set : (views : List View) (id : ℕ) (v w : View) → get_elem? views id ≡ some v
      → total f (set views id w) + f v ≡ total f views + f w
  total-set [] id v w at = absurd (some-ne-none v (sym at))
  total-set (x ∷ xs) zero v w at = let is : f x ≡ f v = ap f (some-injective x v at) in omega arith
  total-set (x ∷ xs) (suc id) v w at = let rest = total-set xs id v w at in omega arith

  -- one view's number is in the sum
  pub total-at : (views : List View) (id : ℕ) (v : View) → get_elem? views id ≡ some v → f v ≤ total f views
  total-at [] id v at = absurd (some-ne-none v (sym at))
  total-at (x ∷ xs) zero v at = let is : f x ≡ f v = ap f (some-injective x v at) in omega arith
  total-at (x ∷ xs) (suc id) v at = let rest = total-at xs id v at in omega arith

  -- and so are the numbers of two views together
  pub total-two : (views : List View) (a b : ℕ) (v u : View) → b ≢ a → get_elem? views a ≡ some v
      → get_elem? views b ≡ some u → f v + f u ≤ total f views
  total-two [] a b v u apart at there = absurd (some-ne-none v (sym at))
  total-two (x ∷ xs) zero zero v u apart at there = absurd (apart (λ i. zero))
  total-two (x ∷ xs) zero (suc b) v u apart at there = let is : f x ≡ f v = ap f (some-injective x v at) in let rest =
      total-at xs b u there in omega arith
  total-two (x ∷ xs) (suc a) zero v u apart at there = let is : f x ≡ f u = ap f (some-injective x u there) in
      let rest = total-at xs a v at in omega arith
  total-two (x ∷ xs) (suc a) (suc b) v u apart at there = let rest =
      total-two xs a b v u (λ i. apart (ap suc i)) at there in omega arith

  -- the sum with one view more
  pub total-snoc : (views : List View) (v : View) → total f (views ++ v ∷ []) ≡ total f views + f v
  total-snoc [] v = omega arith
  total-snoc (x ∷ xs) v = let rest = total-snoc xs v in omega arith

  -- the sum where no view has a number
  total-none : (views : List View) → ((id : ℕ) (v : View) → get_elem? views id ≡ some v → f v ≡ 0) → total f views ≡ 0
  total-none [] none = omega arith
  total-none (x ∷ xs) none =
      let here : f x ≡ 0 = none 0 x (λ i. some x) in
      let rest = total-none xs (λ id v at. none (suc id) v at) in omega arith

  -- the sum where one view alone has a number
  pub total-only : (views : List View) (id : ℕ) (v : View) → get_elem? views id ≡ some v
      → ((other : ℕ) (u : View) → other ≢ id → get_elem? views other ≡ some u → f u ≡ 0) → total f views ≡ f v
  total-only [] id v at none = absurd (some-ne-none v (sym at))
  total-only (x ∷ xs) zero v at none =
      let is : f x ≡ f v = ap f (some-injective x v at) in
      let rest = total-none xs (λ other u there. none (suc other) u (λ e. absurd (omega (arith, e))) there) in
      omega arith
  total-only (x ∷ xs) (suc id) v at none =
      let here : f x ≡ 0 = none 0 x (λ e. absurd (omega (arith, e))) (λ i. some x) in
      let rest = total-only xs id v at (λ other u ne there. none (suc other) u (λ e. ne (omega (arith, e))) there) in
      omega arith

-- a sum of lower numbers is lower
pub total-le : (f g : View → ℕ) (views : List View) → ((id : ℕ) (v : View) → get_elem? views id ≡ some v → f v ≤ g v)
    → total f views ≤ total g views
total-le f g [] each = omega arith
total-le f g (x ∷ xs) each = let here : f x ≤ g x = each 0 x (λ i. some x) in let rest =
    total-le f g xs (λ id v at. each (suc id) v at) in omega arith
