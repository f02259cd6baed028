-- A compaction leaves no choice: which cells move, and which arenas are given up, is determined.
use Rattle.std.proofs.Common.{◌≡◌, ◌∙◌, ◌⊎◌, ◌↔◌, inl, inr, ℕ, List, [], ◌∷◌, ◌++◌, drop, length, Some, Contains, refl}
use Rattle.std.proofs.Common.{sym, ap, subst, take, arith}
use Rattle.std.specs.FinMap as map
use Rattle.std.proofs.Math.Seq.{drop-append_seam, take-append_seam}
use Rattle.gz_names.specs.declared.names.Name.{Name}
use Rattle.colour_defs.specs.Compaction.{AreInOrder, AreMoved, Compacts, FillArenas, IsBefore, IsLowestFreeIn, Places}
use Rattle.colour_defs.specs.Compaction.{given_up_from}
use Rattle.colour_defs.specs.World.{World}
use Rattle.colour_defs.proofs.Lists.{nothing_in_none, contains_head, contains_tail, contains_cases}

pub never_before : (p : ℕ × ℕ) → IsBefore p p → ⊥
never_before p (inl less) = omega (arith, less)
never_before p (inr (same, less)) = omega (arith, less)

not_both : (p q : ℕ × ℕ) → IsBefore p q → IsBefore q p → ⊥
not_both p q (inl a) (inl b) = omega (arith, a, b)
not_both p q (inl a) (inr (e, b)) = omega (arith, a, e)
not_both p q (inr (e, a)) (inl b) = omega (arith, e, b)
not_both p q (inr (e, a)) (inr (f, b)) = omega (arith, a, b)

-- two lists of the same names, both in the order of their places
record AreSame (places : Places) (xs ys : List Name) : Type 0 where
  there : (x : Name) → Contains xs x → (p : ℕ × ℕ) × (map.get places x ≡ Some p)
  left : AreInOrder places xs
  right : AreInOrder places ys
  same : (x : Name) → Contains xs x ↔ Contains ys x

first_is : (places : Places) (x y : Name) (xs ys : List Name) → AreSame places (x ∷ xs) (y ∷ ys) → x ≡ y
first_is places x y xs ys s =
    go (contains_cases y ys x ((s.same x).0 (contains_head x xs)))
    (contains_cases x xs y ((s.same y).1 (contains_head y ys)))
  where
    go : (y ≡ x) ⊎ Contains ys x → (x ≡ y) ⊎ Contains xs y → x ≡ y
    go (inl e) other = sym e
    go (inr c) (inl e) = e
    go (inr c) (inr d) =
        let a = s.there x (contains_head x xs) in
        let b = s.there y (contains_tail x xs y d) in
        absurd (not_both a.0 b.0 (s.left.0 y a.0 b.0 d a.1 b.1) (s.right.0 x b.0 a.0 c b.1 a.1))

-- a name that comes behind another one is another one
behind : (places : Places) (x z : Name) (xs : List Name) (p : ℕ × ℕ) → AreInOrder places (x ∷ xs) → Contains xs z
    → map.get places x ≡ Some p → x ≡ z → ⊥
behind places x z xs p up c at e = never_before p (up.0 z p p c at (ap (map.get places) (sym e) ∙ at))

rest_is : (places : Places) (x y : Name) (xs ys : List Name) → x ≡ y → AreSame places (x ∷ xs) (y ∷ ys)
    → AreSame places xs ys
rest_is places x y xs ys e s =
    let a = s.there x (contains_head x xs) in record {
      there = λ z c. s.there z (contains_tail x xs z c);
      left = s.left.1;
      right = s.right.1;
      same = λ z. (
        λ c. elim (contains_cases y ys z ((s.same z).0 (contains_tail x xs z c))) [
          | inl f ↦ absurd (behind places x z xs a.0 s.left c a.1 (e ∙ f))
          | inr t ↦ t
        ],
        λ c. elim (contains_cases x xs z ((s.same z).1 (contains_tail y ys z c))) [
          | inl f ↦ absurd (behind places y z ys a.0 s.right c (ap (map.get places) (sym e) ∙ a.1) (sym e ∙ f))
          | inr t ↦ t
        ],
      );
    }

names_are : (places : Places) (xs ys : List Name) → AreSame places xs ys → xs ≡ ys
names_are places [] [] s = refl
names_are places [] (y ∷ ys) s = absurd (nothing_in_none y ((s.same y).1 (contains_head y ys)))
names_are places (x ∷ xs) [] s = absurd (nothing_in_none x ((s.same x).0 (contains_head x xs)))
names_are places (x ∷ xs) (y ∷ ys) s =
    let e = first_is places x y xs ys s in
    let rest = names_are places xs ys (rest_is places x y xs ys e s) in
    λ i. e i ∷ rest i

-- as many arenas are filled
filled_once : (cells a b : ℕ) → FillArenas cells a → FillArenas cells b → a ≡ b
filled_once cells a b f g = omega (arith, f.0, f.1, g.0, g.1)

-- a compaction, and another one of the same zone in the same world
record AreBoth (w : World) (zone : ℕ) : Type 0 where
  u : World
  v : World
  m : ℕ
  n : ℕ
  k : ℕ
  l : ℕ
  one : Compacts w zone m n u
  other : Compacts w zone k l v

module _ (w : World) (zone : ℕ) (both : AreBoth w zone) where
  kept_count : length both.one.kept ≡ length both.other.kept
  kept_count = filled_once _ (length both.one.kept) (length both.other.kept) both.one.few both.other.few

  arenas_are : both.one.kept ++ both.one.given_up ≡ both.other.kept ++ both.other.given_up
  arenas_are = sym both.one.arenas_are ∙ both.other.arenas_are

  given_is : both.one.given_up ≡ both.other.given_up
  given_is =
      sym (drop-append_seam both.one.kept both.one.given_up) ∙ (λ i. drop (kept_count i) (arenas_are i))
      ∙ drop-append_seam both.other.kept both.other.given_up

  movers_are : both.one.movers ≡ both.other.movers
  movers_are = names_are w.places both.one.movers both.other.movers (record {
    there = λ x h. (let a = (both.one.movers_are x).0 h in (a.0, a.1));
    left = both.one.in_order;
    right = both.other.in_order;
    same = λ x. (
      λ h. (let a = (both.one.movers_are x).0 h in
          (both.other.movers_are x).1 (a.0, a.1, subst (λ gs. Contains gs a.0.0) given_is a.2)),
      λ h. (let a = (both.other.movers_are x).0 h in
          (both.one.movers_are x).1 (a.0, a.1, subst (λ gs. Contains gs a.0.0) (sym given_is) a.2)),
    );
  })

pub determined : (w : World) (zone : ℕ) (u v : World) (m n k l : ℕ) → Compacts w zone m n u → Compacts w zone k l v
    → (m ≡ k) × (n ≡ l)
determined w zone u v m n k l c d =
    let both : AreBoth w zone = record { u = u; v = v; m = m; n = n; k = k; l = l; one = c; other = d } in (
      c.moved_is ∙ ap length (movers_are w zone both) ∙ sym d.moved_is,
      c.given_is ∙ ap length (given_is w zone both) ∙ sym d.given_is,
    )

-- the cells go to the same places
one_lowest : (arenas : List ℕ) (places : Places) (p q : ℕ × ℕ) → IsLowestFreeIn arenas places p
    → IsLowestFreeIn arenas places q → p ≡ q
one_lowest arenas places p q a b = go (a.lowest q b.free) (b.lowest p a.free)
  where
    go : (q ≡ p) ⊎ IsBefore p q → (p ≡ q) ⊎ IsBefore q p → p ≡ q
    go (inl e) other = sym e
    go (inr h) (inl e) = e
    go (inr h) (inr i) = absurd (not_both p q h i)

moved_once : (arenas : List ℕ) (xs : List Name) (old u v : Places) → AreMoved arenas xs old u → AreMoved arenas xs old v
    → u ≡ v
moved_once arenas [] old u v a b = a ∙ sym b
moved_once arenas (x ∷ xs) old u v (p, low, a) (q, least, b) =
    let same : p ≡ q = one_lowest arenas old p q low least in
    moved_once arenas xs (map.insert old x p) u v a
    (subst (λ r. AreMoved arenas xs (map.insert old x r) v) (sym same) b)

module _ (w : World) (zone : ℕ) (both : AreBoth w zone) where
  kept_are : both.one.kept ≡ both.other.kept
  kept_are = sym (take-append_seam both.one.kept both.one.given_up)
      ∙ (λ i. take (kept_count w zone both i) (arenas_are w zone both i))
      ∙ take-append_seam both.other.kept both.other.given_up

  places_are : both.u.places ≡ both.v.places
  places_are = moved_once both.other.kept both.other.movers w.places both.u.places both.v.places
      (subst (λ k. AreMoved k both.other.movers w.places both.u.places) kept_are
      (subst (λ m. AreMoved both.one.kept m w.places both.u.places) (movers_are w zone both) both.one.are_moved))
      both.other.are_moved

  worlds_are : both.u ≡ both.v
  worlds_are = both.one.world_is
      ∙ (λ i. record w { places = places_are i; owner = given_up_from 0 w.owner (given_is w zone both i) })
      ∙ sym both.other.world_is

pub determined_world : (w : World) (zone : ℕ) (u v : World) (m n k l : ℕ) → Compacts w zone m n u
    → Compacts w zone k l v → u ≡ v
determined_world w zone u v m n k l c d =
    worlds_are w zone (record { u = u; v = v; m = m; n = n; k = k; l = l; one = c; other = d })
