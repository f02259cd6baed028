-- Groups are added one after another.
use Rattle.std.proofs.Common.{◌≡◌, ◌⊎◌, ◌↔◌, ◌∙◌, ℕ, zero, suc, ◌+◌, ◌/◌, ◌^◌, ◌<◌, ◌≤◌, inl, inr, Bool, true}
use Rattle.std.proofs.Common.{false, List, [], ◌∷◌, ◌++◌, length, get_or, take, Contains, refl, subst, sym, arith}
use Rattle.std.specs.Prelude.{bit_and, nat_eq}
use Rattle.std.proofs.lemmas.List.{get_or-take, length-take-le, take_all, take_more}
use Rattle.std.proofs.lemmas.List.Elements.{Contains-append_left, Contains-get_or, Contains-push, Contains-push_cases}
use Rattle.std.proofs.lemmas.List.Quantifiers.{all_pairs_push}
use Rattle.gz_names.specs.Zones.{HasZone}
use Rattle.gz_names.specs.declared.zone_sets.ZoneSet.{ZoneSet}
use Rattle.gz_names.proofs.Words.{HasZone-below, HasZone-test}
use Rattle.colour_defs.proofs.Lists.{nothing_in_none}
use Rattle.judge.specs.Parts.{AreApart, AreParts, ArePartsSoFar, Fits}

-- a zone is in a set or not
has_or_not : (word z : ℕ) → z < 64 → HasZone word z ⊎ (HasZone word z → ⊥)
has_or_not word z below = go (nat_eq (bit_and (word / 2 ^ z) 1) 1) refl
  where
    go : (b : Bool) → nat_eq (bit_and (word / 2 ^ z) 1) 1 ≡ b → HasZone word z ⊎ (HasZone word z → ⊥)
    go true e = inl ((HasZone-test word z below).0 e)
    go false e = inr (λ h. let t = (HasZone-test word z below).1 h in cc (t, e))

-- what is not among the zones that are left out is there
pub within_of : (all some rest : ZoneSet) → ((z : ℕ) → HasZone rest.bits z → ⊥)
    → ((z : ℕ) → HasZone rest.bits z ↔ (HasZone some.bits z × ¬ HasZone all.bits z)) → (z : ℕ)
    → HasZone some.bits z → HasZone all.bits z
within_of all some rest none are z h = elim (has_or_not all.bits z (HasZone-below some.bits z h)) [
  | inl has ↦ has
  | inr lacks ↦ absurd (none z ((are z).1 (h, lacks)))
]

pub fits_of : (zones seen group twice other : ZoneSet) → (z : ℕ) × HasZone group.bits z
    → ((z : ℕ) → HasZone twice.bits z → ⊥) → ((z : ℕ) → HasZone other.bits z → ⊥)
    → ((z : ℕ) → HasZone twice.bits z ↔ (HasZone group.bits z × HasZone seen.bits z))
    → ((z : ℕ) → HasZone other.bits z ↔ (HasZone group.bits z × ¬ HasZone zones.bits z)) → Fits zones seen group
fits_of zones seen group twice other some none out both without = record {
  some = some;
  fresh = λ z g s. none z ((both z).1 (g, s));
  within = within_of zones group other out without;
}

pub parts_none : (zones seen : ZoneSet) → ((z : ℕ) → HasZone seen.bits z → ⊥) → ArePartsSoFar zones seen []
parts_none zones seen none = record {
  seen_are = λ z. (λ h. absurd (none z h), λ h. absurd (nothing_in_none h.0 h.1));
  only = λ g z c. absurd (nothing_in_none g c);
  full = λ g c. absurd (nothing_in_none g c);
  apart = λ i j d below within. absurd (omega arith);
}

pub parts_more : (zones seen more : ZoneSet) (groups : List ZoneSet) (i : ℕ) (d : ZoneSet) → i < length groups
    → ArePartsSoFar zones seen (take i groups) → Fits zones seen (get_or groups i d)
    → ((z : ℕ) → HasZone more.bits z ↔ (HasZone seen.bits z ⊎ HasZone (get_or groups i d).bits z))
    → ArePartsSoFar zones more (take (i + 1) groups)
parts_more zones seen more groups i d below so fits either =
    subst (λ gs. ArePartsSoFar zones more gs) (sym (take_more groups i d below))
    (pushed (take i groups) (get_or groups i d) so fits either)
  where
    pushed : (gs : List ZoneSet) (g : ZoneSet) → ArePartsSoFar zones seen gs → Fits zones seen g
        → ((z : ℕ) → HasZone more.bits z ↔ (HasZone seen.bits z ⊎ HasZone g.bits z))
        → ArePartsSoFar zones more (gs ++ g ∷ [])
    pushed gs g so fits either = record {
      seen_are = λ z. (
        λ h. elim ((either z).0 h) [
          | inl s ↦ (let r = (so.seen_are z).0 s in (r.0, Contains-append_left gs (g ∷ []) r.0 r.1, r.2))
          | inr n ↦ (g, Contains-push gs g, n)
        ],
        λ h. (either z).1 (elim (Contains-push_cases gs g h.0 h.1) [
          | inl o ↦ inl ((so.seen_are z).1 (h.0, o, h.2))
          | inr e ↦ inr (subst (λ (y : ZoneSet). HasZone y.bits z) (sym e) h.2)
        ]),
      );
      only = λ y z c h. elim (Contains-push_cases gs g y c) [
        | inl o ↦ so.only y z o h
        | inr e ↦ fits.within z (subst (λ (x : ZoneSet). HasZone x.bits z) (sym e) h)
      ];
      full = λ y c. elim (Contains-push_cases gs g y c) [
        | inl o ↦ so.full y o
        | inr e ↦ subst (λ (x : ZoneSet). (z : ℕ) × HasZone x.bits z) e fits.some
      ];
      apart = all_pairs_push AreApart gs g so.apart
          (λ k d lt z h n. fits.fresh z n ((so.seen_are z).1 (get_or gs k d, Contains-get_or gs k d lt, h)));
    }

pub parts_of : (zones seen rest : ZoneSet) (groups : List ZoneSet) (i : ℕ) → length groups ≤ i
    → ArePartsSoFar zones seen (take i groups) → ((z : ℕ) → HasZone rest.bits z → ⊥)
    → ((z : ℕ) → HasZone rest.bits z ↔ (HasZone zones.bits z × ¬ HasZone seen.bits z)) → AreParts zones groups
parts_of zones seen rest groups i le so none without =
    let all : ArePartsSoFar zones seen groups = subst (λ gs. ArePartsSoFar zones seen gs) (take_all i groups le) so in
    record {
      all = λ z h. (all.seen_are z).0 (within_of seen zones rest none without z h);
      only = all.only;
      full = all.full;
      apart = all.apart;
    }

-- a group that does not fit the groups before it, and a zone that is in no group
pub parts_not : (zones seen : ZoneSet) (groups : List ZoneSet) (i : ℕ) (d : ZoneSet) → i < length groups
    → ArePartsSoFar zones seen (take i groups) → (Fits zones seen (get_or groups i d) → ⊥) → AreParts zones groups → ⊥
parts_not zones seen groups i d below so none parts = none (record {
  some = parts.full (get_or groups i d) at;
  fresh = λ z h s. let r = (so.seen_are z).0 s in
      let few : length (take i groups) ≡ i = length-take-le i groups (omega arith) in
      let lt : r.1.0 < i = omega (arith, r.1.1, few) in
      parts.apart r.1.0 i r.0 lt below z
      (subst (λ (g : ZoneSet). HasZone g.bits z) (sym (sym (get_or-take i groups r.1.0 r.0 lt) ∙ r.1.2)) r.2)
      (subst (λ (g : ZoneSet). HasZone g.bits z) (same_default groups i d r.0 below) h);
  within = λ z h. parts.only (get_or groups i d) z at h;
})
  where
    at : Contains groups (get_or groups i d)
    at = Contains-get_or groups i d below

    same_default : (gs : List ZoneSet) (k : ℕ) (d e : ZoneSet) → k < length gs → get_or gs k d ≡ get_or gs k e
    same_default [] k d e lt = absurd (omega arith)
    same_default (x ∷ gs) zero d e lt = refl
    same_default (x ∷ gs) (suc k) d e lt = same_default gs k d e (omega arith)
