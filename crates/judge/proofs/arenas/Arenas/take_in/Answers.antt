use Rattle.std.proofs.Common.{◌≡◌, ◌∙◌, ◌∷◌, ◌++◌, ◌-◌, ◌≤◌, [], ℕ, List, Contains, false, ap, arith, get_or, refl}
use Rattle.std.proofs.Common.{reverse}
use Rattle.std.proofs.Common.{subst, sym, take}
use Rattle.std.specs.Prelude.{slice_get}
use Rattle.std.proofs.lemmas.List.Elements.{Contains-append_right}
use Rattle.gz_names.specs.declared.numbers.Place.{Place}
use Rattle.colour_defs.proofs.Lists.{contains_head}
use Rattle.judge.specs.Arenas.{owners_in}
use Rattle.judge.proofs.Owners.{same_owner}
use Rattle.judge.proofs.Slots.{kept_in, out_there, popped_is, table_of}
use Rattle.judge.proofs.arenas.Arenas.take_in.Goals as goal

pub index_mut-requires : goal.index_mut-requires
index_mut-requires c =
    let mid = c.look_from.new.self in
    let n = c.in-Some.number in
    let left = c.pop.new.self.items in
    let some = c.in-Some.ensures.some in
    let popped : mid.out.items ≡ left ++ n ∷ [] = popped_is mid.out.items left n some.0
    (ap reverse c.look_from.ensures.same.arenas.out ∙ some.1)
    (c.pop.ensures.rest ∙ ap (λ k. take (k - 1) mid.out.items) mid.out.ok.0) in
    let there = out_there (table_of mid) n
    (subst (λ (ns : List ℕ). Contains ns n) (sym popped) (Contains-append_right left (n ∷ []) n (contains_head n [])))
    mid.kept in omega (arith, there, mid.arenas.ok)

pub invariant_of-self-2 : goal.invariant_of-self-2
invariant_of-self-2 c =
    let mid = c.look_from.new.self in
    let n = c.in-Some.number in
    let left = c.pop.new.self.items in
    let some = c.in-Some.ensures.some in
    let popped : mid.out.items ≡ left ++ n ∷ [] = popped_is mid.out.items left n some.0
    (ap reverse c.look_from.ensures.same.arenas.out ∙ some.1)
    (c.pop.ensures.rest ∙ ap (λ k. take (k - 1) mid.out.items) mid.out.ok.0) in
    let first : c.first_of.result.0 ≡ n = ap (λ (p : Place). p.0) c.first_of.ensures in record {
      kept = kept_in (table_of mid) (record {
        number = n;
        was = c.index_mut.result.now;
        now = record c.index_mut.result.now { is_out = false };
        at = c.index_mut.ensures.value;
      }) left refl refl refl popped
          (λ h. let t = c.is_listed.ensures.1 (subst (λ (ns : List ℕ). Contains ns n) (sym c.as_slice.ensures.value) h)
          in cc (t, c.if-is_listed.false))
          (λ z at. subst (λ k. get_or mid.lowest z 0 ≤ k) first
          (c.look_from.ensures.lowest z (ap (slice_get (owners_in mid)) first ∙ at)))
          mid.kept;
    }

pub returns-clause-owners : goal.returns-clause-owners
returns-clause-owners c =
    same_owner c.look_from.new.self.arenas.items c.in-Some.number c.index_mut.result.now _ c.index_mut.ensures.value
    refl ∙ c.look_from.ensures.same.arenas.owners
