-- As an arena is swept, the judge stands for a world in which this came lawfully.
use Rattle.std.proofs.Common.{◌≡◌, ◌≢◌, ◌⊎◌, ◌↔◌, ◌∙◌, inl, inr, ℕ, Bool, true, false, cond, List, [], ◌∷◌}
use Rattle.std.proofs.Common.{Contains, ap, eqb, eqb-true, eq-eqb, not, refl, subst, sym}
use Rattle.std.specs.List.{filter}
use Rattle.gz_names.specs.declared.names.Name.{Name}
use Rattle.colour_defs.specs.Ends.{Lists}
use Rattle.colour_defs.specs.Lawful.{IsLawfulSweep, with_sweep}
use Rattle.colour_defs.specs.World.{World}
use Rattle.colour_defs.proofs.Lists.{contains_cases, contains_head, contains_tail, nothing_in_none}
use Rattle.judge.specs.Represents.{Represents}
use Rattle.judge.specs.Stages.{Shown, Sweeps}
use Rattle.judge.specs.Positions.{StandsIn}
use Rattle.judge.proofs.Sweeping.{represents_sweep}

-- what a test leaves of a list
pub kept_was : {X : Type 0} (t : X → Bool) (xs : List X) (x : X) → Contains (filter t xs) x
    → Contains xs x × (t x ≡ true)
kept_was t [] x c = absurd (nothing_in_none x c)
kept_was t (y ∷ ys) x c = go (λ h. kept_was t ys x h) (t y) refl c
  where
    go : (Contains (filter t ys) x → Contains ys x × (t x ≡ true)) → (b : Bool) → t y ≡ b
        → Contains (cond b (y ∷ filter t ys) (filter t ys)) x → Contains (y ∷ ys) x × (t x ≡ true)
    go rest true is c = elim (contains_cases y (filter t ys) x c) [
      | inl e ↦ (subst (λ z. Contains (y ∷ ys) z) e (contains_head y ys), ap t (sym e) ∙ is)
      | inr h ↦ let r = rest h in (contains_tail y ys x r.0, r.1)
    ]
    go rest false is c = let r = rest c in (contains_tail y ys x r.0, r.1)

pub kept_has : {X : Type 0} (t : X → Bool) (xs : List X) (x : X) → Contains xs x → t x ≡ true
    → Contains (filter t xs) x
kept_has t [] x c e = absurd (nothing_in_none x c)
kept_has t (y ∷ ys) x c e = go (λ h. kept_has t ys x h e) (t y) refl (contains_cases y ys x c)
  where
    go : (Contains ys x → Contains (filter t ys) x) → (b : Bool) → t y ≡ b → (y ≡ x) ⊎ Contains ys x
        → Contains (cond b (y ∷ filter t ys) (filter t ys)) x
    go rest true is (inl same) = subst (λ z. Contains (y ∷ filter t ys) z) same (contains_head y (filter t ys))
    go rest true is (inr h) = contains_tail y (filter t ys) x (rest h)
    go rest false is (inl same) = absurd (cc (is, e, ap t same))
    go rest false is (inr h) = rest h

pub lists_same : (P Q : Name → Type 0) (xs : List Name) → ((x : Name) → P x → Q x) → ((x : Name) → Q x → P x)
    → Lists P xs → Lists Q xs
lists_same P Q xs h k l =
    record { ascending = l.ascending; has = λ x. (λ c. h x ((l.has x).0 c), λ q. (l.has x).1 (k x q)) }

module _ (s t : Shown) (w : World) (f : StandsIn w.graph s w) (arena : ℕ) (freed : List Name)
    (sw : Sweeps s arena freed t) where
  abbrev pub swept_world : World
  swept_world = record w {
    out = sw.rest;
    white = filter (λ e. not (eqb e.1.0 arena)) w.white;
    collection = with_sweep w.collection;
  }

  other : (n : ℕ) → not (eqb n arena) ≡ true → n ≢ arena
  other n e same = go (eqb n arena) (eq-eqb n arena same) e
    where
      go : (b : Bool) → b ≡ true → not b ≡ true → ⊥
      go true a e = cc e
      go false a e = cc a

  of_other : (n : ℕ) → n ≢ arena → not (eqb n arena) ≡ true
  of_other n apart = go (eqb n arena) refl
    where
      go : (b : Bool) → eqb n arena ≡ b → not b ≡ true
      go true e = absurd (apart (eqb-true n arena e))
      go false e = refl

  white_left : (x : Name) (p : ℕ × ℕ)
      → Contains swept_world.white (x, p) ↔ (Contains w.white (x, p) × (p.0 ≢ arena))
  white_left x p = (
    λ c. let h = kept_was (λ e. not (eqb e.1.0 arena)) w.white (x, p) c in (h.0, other p.0 h.1),
    λ h. kept_has (λ e. not (eqb e.1.0 arena)) w.white (x, p) h.0 (of_other p.0 h.1),
  )

  first_out : w.out ≡ arena ∷ sw.rest
  first_out = f.represents.out_are ∙ sw.first

  pub swept_lawful : IsLawfulSweep w arena freed swept_world
  swept_lawful = record {
    rest = sw.rest;
    first = first_out;
    world_is = refl;
    freed_are = subst (λ xs. Lists (λ x. (slot : ℕ) × Contains w.white (x, (arena, slot))) xs) (sym sw.freed_are)
        (f.represents.white_are arena (subst (λ ns. Contains ns arena) (sym sw.first) (contains_head arena sw.rest)));
    white_are = white_left;
  }

  pub swept_represents : Represents w.graph t swept_world
  swept_represents = represents_sweep w.graph arena arena freed freed s t w swept_world f.represents sw swept_lawful
