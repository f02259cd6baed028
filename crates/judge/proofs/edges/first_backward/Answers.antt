use Rattle.std.proofs.Common.{◌≡◌, ◌⊎◌, ◌↔◌, ◌∙◌, inl, inr, ℕ, zero, suc, ◌+◌, ◌<◌, List, [], ◌∷◌, ◌++◌, length, get_or}
use Rattle.std.proofs.Common.{take, sym, subst, arith}
use Rattle.std.proofs.lemmas.List.{get_or-take, length-take-le, take_more}
use Rattle.std.proofs.lemmas.List.Elements.{Contains-append_left, Contains-get_or, Contains-push, Contains-push_cases}
use Rattle.std.proofs.lemmas.List.Quantifiers.{all_pairs_push}
use Rattle.gz_names.specs.Zones.{HasZone}
use Rattle.gz_names.specs.declared.zone_sets.ZoneSet.{ZoneSet}
use Rattle.judge.specs.Edges.{AreForward, IsNoted, NoneLeads}
use Rattle.judge.proofs.ZoneEdges.{ForwardSoFar}
use Rattle.judge.proofs.edges.first_backward.Goals as goal

forward_more : (E : ℕ → ℕ → Type 0) (earlier more : ZoneSet) (groups : List ZoneSet) (i : ℕ) (d : ZoneSet)
    → i < length groups
    → ((a b : ℕ) → HasZone (get_or groups i d).bits a → HasZone earlier.bits b → E a b → ⊥)
    → ((z : ℕ) → HasZone more.bits z ↔ (HasZone earlier.bits z ⊎ HasZone (get_or groups i d).bits z))
    → ForwardSoFar E earlier (take i groups) → ForwardSoFar E more (take (i + 1) groups)
forward_more E earlier more groups i d below none either so =
    subst (λ gs. ForwardSoFar E more gs) (sym (take_more groups i d below))
    (pushed (take i groups) (get_or groups i d) none either so)
  where
    pushed : (gs : List ZoneSet) (g : ZoneSet) → ((a b : ℕ) → HasZone g.bits a → HasZone earlier.bits b → E a b → ⊥)
        → ((z : ℕ) → HasZone more.bits z ↔ (HasZone earlier.bits z ⊎ HasZone g.bits z)) → ForwardSoFar E earlier gs
        → ForwardSoFar E more (gs ++ g ∷ [])
    pushed gs g none either so = record {
      has = λ y z c h. elim (Contains-push_cases gs g y c) [
        | inl o ↦ (either z).1 (inl (so.has y z o h))
        | inr e ↦ (either z).1 (inr (subst (λ (x : ZoneSet). HasZone x.bits z) (sym e) h))
      ];
      of = λ z h. elim ((either z).0 h) [
        | inl o ↦ let r = so.of z o in (r.0, Contains-append_left gs (g ∷ []) r.0 r.1, r.2)
        | inr n ↦ (g, Contains-push gs g, n)
      ];
      forward = all_pairs_push (NoneLeads E) gs g so.forward
          (λ k e lt a b ha hb. none a b ha (so.has (get_or gs k e) b (Contains-get_or gs k e lt) hb));
    }

-- an edge leads from a group to an earlier one
forward_not : (E : ℕ → ℕ → Type 0) (earlier : ZoneSet) (groups : List ZoneSet) (i : ℕ) (d : ZoneSet) (a b : ℕ)
    → i < length groups → HasZone (get_or groups i d).bits a → HasZone earlier.bits b → E a b
    → ForwardSoFar E earlier (take i groups) → AreForward E groups → ⊥
forward_not E earlier groups i d a b below ha hb e so forward =
    let r = so.of b hb in
    let at = r.1 in
    let few : length (take i groups) ≡ i = length-take-le i groups (omega arith) in
    let lt : at.0 < i = omega (arith, at.1, few) in
    let same : get_or groups at.0 d ≡ r.0 =
    sym (get_or-take i groups at.0 d lt) ∙ get_or_any (take i groups) at.0 d r.0 at.1 at.2 in
    forward at.0 i d lt below a b ha (subst (λ (g : ZoneSet). HasZone g.bits b) (sym same) r.2) e
  where
    get_or_any : (gs : List ZoneSet) (k : ℕ) (d g : ZoneSet) → k < length gs → get_or gs k g ≡ g → get_or gs k d ≡ g
    get_or_any [] k d g lt e = absurd (omega arith)
    get_or_any (x ∷ gs) zero d g lt e = e
    get_or_any (x ∷ gs) (suc k) d g lt e = get_or_any gs k d g (omega arith) e

pub returns-in-Some-clause-some : goal.returns-in-Some-clause-some
returns-in-Some-clause-some c =
    let found = c.in-Some.ensures.some in
    forward_not (IsNoted c.args.edges.now) c.loop-group.earlier c.args.groups.now c.loop-group.group-index _
    c.in-Some.edge.0 c.in-Some.edge.1 c.loop-group-test.true found.0 found.1 found.2 c.loop-group.invariant

pub loop-group-preserved : goal.loop-group-preserved
loop-group-preserved c =
    forward_more (IsNoted c.args.edges.now) c.loop-group.earlier c.union-earlier.result c.args.groups.now
    c.loop-group.group-index _ c.loop-group-test.true c.in_default.ensures.none c.union-earlier.ensures
    c.loop-group.invariant
