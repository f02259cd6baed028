-- A group's end at which one cell is white, and the sweep that frees it.
use Rattle.std.proofs.Common.{◌≡◌, ℕ, ◌↔◌, List, [], ◌∷◌, Bool, true, false, cond, refl, sym, ap, subst, ◌∙◌, arith}
use Rattle.std.proofs.Common.{Some, None, Contains}
use Rattle.std.specs.FinMap as map
use Rattle.gz_names.specs.Order.{names_total, same_name}
use Rattle.gz_names.specs.declared.names.Name.{Name}
use Rattle.colour_defs.specs.World.{World, Collection}
use Rattle.colour_defs.specs.Ends.{IsWhiteOf}
use Rattle.colour_defs.specs.Lawful.{IsLawfulSweep, with_sweep}
use Rattle.colour_defs.proofs.Lists.{nothing_in_none, contains_head}
use Rattle.colour_defs.proofs.Names.{same_name-is, same_name-refl}
use Rattle.spec_rows.proofs.Places.{single, eq_same}

module _ (w : World) (k : Collection) (group : List ℕ) (d : Name) (p : ℕ × ℕ) (lies : map.get w.places d ≡ Some p)
    (white : IsWhiteOf w k group d) (only : (x : Name) → IsWhiteOf w k group x → d ≡ x) where
  pub after_remove : (x : Name) → map.get (map.remove w.places d) x ≡ cond (same_name x d) None (map.get w.places x)
  after_remove x = map.get-remove names_total w.places d x ∙ ap (λ b. cond b None (map.get w.places x)) (eq_same x d)

  pub one_gone : (x : Name) → IsWhiteOf w k group x → map.get (map.remove w.places d) x ≡ None
  one_gone x h = after_remove x
      ∙ ap (λ b. cond b None (map.get w.places x)) (ap (λ z. same_name z d) (sym (only x h)) ∙ same_name-refl d)

  pub others_stay : (x : Name) → (IsWhiteOf w k group x → ⊥) → map.get (map.remove w.places d) x ≡ map.get w.places x
  others_stay x n = after_remove x ∙ go (same_name x d) refl
    where
      go : (b : Bool) → same_name x d ≡ b → cond b None (map.get w.places x) ≡ map.get w.places x
      go true e = absurd (n (subst (λ z. IsWhiteOf w k group z) (sym (same_name-is x d e)) white))
      go false e = refl

  pub one_white : (x : Name) (q : ℕ × ℕ) → Contains {X = Name × (ℕ × ℕ)} ((d, p) ∷ []) (x, q)
      ↔ (IsWhiteOf w k group x × (map.get w.places x ≡ Some q))
  one_white x q = (
    (λ c. let e : ◌≡◌ {A = Name × (ℕ × ℕ)} (d, p) (x, q) = single (d, p) (x, q) c in
        subst (λ (z : Name × (ℕ × ℕ)). IsWhiteOf w k group z.0 × (map.get w.places z.0 ≡ Some z.1)) e (white, lies)),
    λ h. (let e : d ≡ x = only x h.0 in
        let f : ◌≡◌ {A = ℕ × ℕ} p q = cc (lies, ap (λ z. map.get w.places z) e, h.1) in
        (0, omega arith, λ i. (e i, f i))),
  )

pub sweep_of_one : (u : World) (d : Name) (slot : ℕ) → u.out ≡ 0 ∷ [] → u.white ≡ (d, (0, slot)) ∷ []
    → IsLawfulSweep u 0 (d ∷ []) (record u { out = []; white = []; collection = with_sweep u.collection })
sweep_of_one u d slot out white = record {
  rest = [];
  first = out;
  world_is = refl;
  freed_are = record {
    ascending = (tt, tt);
    has = λ x. (
      (λ c. (
        slot,
        subst (λ l. Contains l (x, (0, slot))) (sym white)
            (subst (λ z. Contains {X = Name × (ℕ × ℕ)} ((d, (0, slot)) ∷ []) (z, (0, slot))) (single d x c)
            (contains_head (d, (0, slot)) [])),
      )),
      λ h. let e = here x (0, h.0) h.1 in subst (λ z. Contains (d ∷ []) z) (ap (λ (q : Name × (ℕ × ℕ)). q.0) e)
          (contains_head d []),
    );
  };
  white_are = λ x p. (
    (λ c. absurd (nothing_in_none (x, p) c)),
    λ h. let e = here x p h.0 in
        absurd (h.1 (sym (ap (λ (q : Name × (ℕ × ℕ)). q.1.0) e))),
  );
}
  where
    here : (x : Name) (p : ℕ × ℕ) → Contains u.white (x, p) → ◌≡◌ {A = Name × (ℕ × ℕ)} (d, (0, slot)) (x, p)
    here x p c = single (d, (0, slot)) (x, p) (subst (λ l. Contains l (x, p)) white c)
