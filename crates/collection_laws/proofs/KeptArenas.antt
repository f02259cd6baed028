-- The arenas of a zone after a compaction of it: exactly those that it keeps.
use Rattle.std.proofs.Common.{◌≡◌, ◌<◌, ◌≤◌, ℕ, inl, inr, List, [], ◌∷◌, ◌++◌, refl, sym, ap, subst, ◌∙◌}
use Rattle.std.proofs.Common.{◌+◌, arith, Bool, true, false, not, cond, eqb, Option, Some, None, Contains}
use Rattle.std.specs.List.{list_any}
use Rattle.std.proofs.lemmas.List.Elements.{Contains-append_right}
use Rattle.colour_defs.specs.World.{World}
use Rattle.colour_defs.specs.Compaction.{Compacts, given_up_from}
use Rattle.colour_defs.specs.Ends.{arenas_from, zones_without}
use Rattle.colour_defs.proofs.Lists.{contains_cases, contains_head, contains_tail, nothing_in_none}
use Rattle.colour_defs.proofs.Membership.{among_from, among_to}

-- what stands in the list of a zone's arenas once some are given up
kept_from : (n : ℕ) (owner : List (Option ℕ)) (given zs : List ℕ) → arenas_from n (given_up_from n owner given) zs
    ≡ zones_without (arenas_from n owner zs) given
kept_from n [] given zs = refl
kept_from n (None ∷ owner) given zs = go (kept_from (n + 1) owner given zs) (list_any (eqb n) given)
  where
    go : arenas_from (n + 1) (given_up_from (n + 1) owner given) zs ≡ zones_without (arenas_from (n + 1) owner zs) given
        → (b : Bool) → arenas_from n (cond {A = Option ℕ} b None None ∷ given_up_from (n + 1) owner given) zs
        ≡ zones_without (arenas_from (n + 1) owner zs) given
    go rest true = rest
    go rest false = rest
kept_from n (Some z ∷ owner) given zs = go (kept_from (n + 1) owner given zs) (list_any (eqb n) given) refl
    (list_any (eqb z) zs) refl
  where
    go : arenas_from (n + 1) (given_up_from (n + 1) owner given) zs ≡ zones_without (arenas_from (n + 1) owner zs) given
        → (b : Bool) → list_any (eqb n) given ≡ b → (c : Bool) → list_any (eqb z) zs ≡ c
        → arenas_from n (cond b None (Some z) ∷ given_up_from (n + 1) owner given) zs
        ≡ zones_without (cond c (n ∷ arenas_from (n + 1) owner zs) (arenas_from (n + 1) owner zs)) given
    go rest true e true f =
        rest ∙ sym (ap (λ t. cond (not t) (n ∷ zones_without (arenas_from (n + 1) owner zs) given)
        (zones_without (arenas_from (n + 1) owner zs) given)) e)
    go rest true e false f = rest
    go rest false e true f =
        ap (λ t. cond t (n ∷ arenas_from (n + 1) (given_up_from (n + 1) owner given) zs)
        (arenas_from (n + 1) (given_up_from (n + 1) owner given) zs)) f
        ∙ (ap (λ l. n ∷ l) rest
        ∙ sym (ap (λ t. cond (not t) (n ∷ zones_without (arenas_from (n + 1) owner zs) given)
        (zones_without (arenas_from (n + 1) owner zs) given)) e))
    go rest false e false f =
        ap (λ t. cond t (n ∷ arenas_from (n + 1) (given_up_from (n + 1) owner given) zs)
        (arenas_from (n + 1) (given_up_from (n + 1) owner given) zs)) f ∙ rest

-- the list ascends
at_least : (n : ℕ) (owner : List (Option ℕ)) (zs : List ℕ) (b : ℕ) → Contains (arenas_from n owner zs) b → n ≤ b
at_least n [] zs b c = absurd (nothing_in_none b c)
at_least n (None ∷ owner) zs b c = let l = at_least (n + 1) owner zs b c in omega (arith, l)
at_least n (Some z ∷ owner) zs b c = go (λ h. at_least (n + 1) owner zs b h) (list_any (eqb z) zs) c
  where
    go : (Contains (arenas_from (n + 1) owner zs) b → n + 1 ≤ b) → (t : Bool)
        → Contains (cond t (n ∷ arenas_from (n + 1) owner zs) (arenas_from (n + 1) owner zs)) b → n ≤ b
    go rest true h = elim (contains_cases n (arenas_from (n + 1) owner zs) b h) [
      | inl e ↦ omega (arith, e)
      | inr r
          ↦ (let l = rest r in omega (arith, l))
    ]
    go rest false h = let l = rest h in omega (arith, l)

in_order : (n : ℕ) (owner : List (Option ℕ)) (zs xs ys : List ℕ) → arenas_from n owner zs ≡ xs ++ ys → (a b : ℕ)
    → Contains xs a → Contains ys b → a < b
in_order n owner zs [] ys e a b ca cb = absurd (nothing_in_none a ca)
in_order n [] zs (x ∷ xs) ys e a b ca cb = absurd (cc e)
in_order n (None ∷ owner) zs (x ∷ xs) ys e a b ca cb = in_order (n + 1) owner zs (x ∷ xs) ys e a b ca cb
in_order n (Some z ∷ owner) zs (x ∷ xs) ys e a b ca cb = go (λ us f cu. in_order (n + 1) owner zs us ys f a b cu cb)
    (list_any (eqb z) zs) e
  where
    go : ((us : List ℕ) → arenas_from (n + 1) owner zs ≡ us ++ ys → Contains us a → a < b) → (t : Bool)
        → cond t (n ∷ arenas_from (n + 1) owner zs) (arenas_from (n + 1) owner zs) ≡ x ∷ (xs ++ ys) → a < b
    go rest false f = rest (x ∷ xs) f ca
    go rest true f =
        let first : n ≡ x = cc f in
        let after : arenas_from (n + 1) owner zs ≡ xs ++ ys = cc f in
        elim (contains_cases x xs a ca) [
          | inl same ↦ (let l =
              at_least (n + 1) owner zs b (subst (λ q. Contains q b) (sym after) (Contains-append_right xs ys b cb)) in
              omega (arith, l, first, same))
          | inr t ↦ rest xs after t
        ]

without_all : (xs given : List ℕ) → ((a : ℕ) → Contains xs a → list_any (eqb a) given ≡ true)
    → zones_without xs given ≡ []
without_all [] given all = refl
without_all (x ∷ xs) given all = ap (λ t. cond (not t) (x ∷ zones_without xs given) (zones_without xs given))
    (all x (contains_head x xs)) ∙ without_all xs given (λ a c. all a (contains_tail x xs a c))

without_none : (xs ys given : List ℕ) → ((a : ℕ) → Contains xs a → list_any (eqb a) given ≡ false)
    → zones_without (xs ++ ys) given ≡ xs ++ zones_without ys given
without_none [] ys given none = refl
without_none (x ∷ xs) ys given none =
    ap (λ t. cond (not t) (x ∷ zones_without (xs ++ ys) given) (zones_without (xs ++ ys) given))
    (none x (contains_head x xs)) ∙ ap (λ l. x ∷ l) (without_none xs ys given (λ a c. none a (contains_tail x xs a c)))

-- so exactly the kept arenas are the zone's afterwards
pub owned_after : (w : World) (zone moved given : ℕ) (v : World) (c : Compacts w zone moved given v)
    → arenas_from 0 v.owner (zone ∷ []) ≡ c.kept ++ []
owned_after w zone moved given v c =
    ap (λ (z : World). arenas_from 0 z.owner (zone ∷ [])) c.world_is
    ∙ (kept_from 0 w.owner c.given_up (zone ∷ [])
    ∙ (ap (λ l. zones_without l c.given_up) c.arenas_are
    ∙ (without_none c.kept c.given_up c.given_up kept_stays
    ∙ ap (λ l. c.kept ++ l) (without_all c.given_up c.given_up (λ a h. among_from a c.given_up h)))))
  where
    kept_stays : (a : ℕ) → Contains c.kept a → list_any (eqb a) c.given_up ≡ false
    kept_stays a h = go (list_any (eqb a) c.given_up) refl
      where
        go : (t : Bool) → list_any (eqb a) c.given_up ≡ t → list_any (eqb a) c.given_up ≡ false
        go true e = absurd (let lt = in_order 0 w.owner (zone ∷ []) c.kept c.given_up c.arenas_are a a h
            (among_to a c.given_up e) in omega (arith, lt))
        go false e = e
