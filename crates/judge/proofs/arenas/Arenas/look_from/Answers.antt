use Rattle.std.proofs.Common.{◌≡◌, ◌∙◌, ◌<◌, ◌≤◌, Some, ap, arith, get_or, length, refl, set, subst, sym}
use Rattle.std.specs.Prelude.{slice_get}
use Rattle.judge.specs.Slots.{owners_of, takens_of}
use Rattle.judge.proofs.Owners.{same_owner}
use Rattle.judge.proofs.Slots.{IsKept, IsWritten, flags_same, kept_lowest, kept_taken, or_set_most, set_owner}
use Rattle.judge.proofs.Slots.{set_taken, table_of, taken_here, written}
use Rattle.judge.proofs.arenas.Arenas.look_from.Goals as goal

pub invariant_of-self-in-Some-owner : goal.invariant_of-self-in-Some-owner
invariant_of-self-in-Some-owner c =
    let old = c.args.self.now in
    let was = c.in-Some.arena.now in
    let low = c.min.ensures in
    let few = c.min-arena.ensures in
    let below : c.arena.result < length old.arenas.items =
    (let v = c.in-Some.ensures.variant.0 refl in omega (arith, v, old.arenas.ok)) in
    let w : IsWritten old.arenas.items = record {
      number = c.arena.result;
      was = was;
      now = record was { taken = c.min-arena.result };
      at = c.in-Some.ensures.value;
    } in
    let k : IsKept (record (table_of old) { arenas = written old.arenas.items w }) =
    kept_taken (table_of old) w refl refl (λ s less. taken_here old.arenas.items old.lying c.arena.result was below
    c.in-Some.ensures.value old.kept.taken s (omega (arith, less, few))) old.kept in record {
      kept = kept_lowest (record (table_of old) { arenas = written old.arenas.items w }) c.index-index.result
          c.min.result (λ n less. k.full c.index-index.result n (omega (arith, less, low))) k;
    }

pub invariant_of-self-in_default-owner : goal.invariant_of-self-in_default-owner
invariant_of-self-in_default-owner c =
    let old = c.args.self.now in
    let was = c.in-Some.arena.now in
    let few = c.min-arena.ensures in
    let below : c.arena.result < length old.arenas.items =
    (let v = c.in-Some.ensures.variant.0 refl in omega (arith, v, old.arenas.ok)) in record {
      kept = kept_taken (table_of old) (record {
        number = c.arena.result;
        was = was;
        now = record was { taken = c.min-arena.result };
        at = c.in-Some.ensures.value;
      }) refl refl (λ s less. taken_here old.arenas.items old.lying c.arena.result was below
          c.in-Some.ensures.value old.kept.taken s (omega (arith, less, few))) old.kept;
    }

pub returns-in-Some-owner-clause-same : goal.returns-in-Some-owner-clause-same
returns-in-Some-owner-clause-same c = record {
  arenas = record {
    owners = same_owner c.args.self.now.arenas.items _ c.in-Some.arena.now _ c.in-Some.ensures.value refl;
    out = refl;
  };
  flags = flags_same c.args.self.now.arenas.items _ c.in-Some.arena.now _ c.in-Some.ensures.value refl;
  lying = refl;
}

pub returns-in_default-owner-clause-same : goal.returns-in_default-owner-clause-same
returns-in_default-owner-clause-same c = record {
  arenas = record {
    owners = same_owner c.args.self.now.arenas.items _ c.in-Some.arena.now _ c.in-Some.ensures.value refl;
    out = refl;
  };
  flags = flags_same c.args.self.now.arenas.items _ c.in-Some.arena.now _ c.in-Some.ensures.value refl;
  lying = refl;
}

pub returns-in-Some-owner-clause-taken : goal.returns-in-Some-owner-clause-taken
returns-in-Some-owner-clause-taken c = λ k at.
    let is = set_taken c.args.self.now.arenas.items c.arena.result _ k
    (ap (slice_get (takens_of (set c.args.self.now.arenas.items c.arena.result _))) c.arena.ensures ∙ at) in
    omega (arith, is, c.min-arena.ensures, c.slot.ensures.value)

pub returns-in_default-owner-clause-taken : goal.returns-in_default-owner-clause-taken
returns-in_default-owner-clause-taken c = λ k at.
    let is = set_taken c.args.self.now.arenas.items c.arena.result _ k
    (ap (slice_get (takens_of (set c.args.self.now.arenas.items c.arena.result _))) c.arena.ensures ∙ at) in
    omega (arith, is, c.min-arena.ensures, c.slot.ensures.value)

pub returns-in-Some-owner-clause-lowest : goal.returns-in-Some-owner-clause-lowest
returns-in-Some-owner-clause-lowest c = λ z at.
    let is = set_owner c.args.self.now.arenas.items c.arena.result _ (Some z)
    (ap (slice_get (owners_of (set c.args.self.now.arenas.items c.arena.result _))) c.arena.ensures ∙ at) in
    let zone : c.index-index.result ≡ z =
    c.index-index.ensures.value ∙ (let o = sym c.in-Some-owner.is ∙ is in cc o) in
    let most = or_set_most c.args.self.now.lowest c.index-index.result c.min.result in
    subst (λ y. get_or (set c.args.self.now.lowest c.index-index.result c.min.result) y 0 ≤ c.args.place.0) zone
    (omega (arith, most, c.min.ensures, c.arena-in-Some-owner.ensures))

pub returns-in_default-owner-clause-lowest : goal.returns-in_default-owner-clause-lowest
returns-in_default-owner-clause-lowest c = λ z at.
    let is = set_owner c.args.self.now.arenas.items c.arena.result _ (Some z)
    (ap (slice_get (owners_of (set c.args.self.now.arenas.items c.arena.result _))) c.arena.ensures ∙ at) in
    let none = c.in_default-owner.is in cc (none, is)
