use Rattle.std.proofs.Common.{inl, inr, Option, Some, None, arith, refl, subst, sym}
use Rattle.std.specs.Prelude.{IfNone, IfSome, SomeIff}
use Rattle.gz_names.specs.declared.numbers.Place.{Place}
use Rattle.judge.proofs.Owners.{same_owner}
use Rattle.judge.proofs.Slots.{at_least, flags_same, kept_taken, open_at, table_of, taken_here}
use Rattle.judge.proofs.arenas.Arenas.free_in.Goals as goal

if_none : {P A : Type 0} (o : Option Place) (p : Place) → SomeIff o P p → ((P → ⊥) → A) → IfNone o A
if_none None p is f = f is
if_none (Some q) p is f = tt

if_some : {P : Type 0} (Q : Place → Type 0) (o : Option Place) (p : Place) → SomeIff o P p → (P → Q p) → IfSome o Q
if_some Q None p is f = tt
if_some Q (Some q) p is f = subst Q (sym is.1) (f is.0)

pub invariant_of-self : goal.invariant_of-self
invariant_of-self c =
    let old = c.args.self.now in record {
      kept = kept_taken (table_of old) (record {
        number = c.args.arena;
        was = c.index_mut.result.now;
        now = record c.index_mut.result.now { taken = c.first_empty-slot.result };
        at = c.index_mut.ensures.value;
      }) refl refl (λ s less small e. elim (at_least s c.index.result.now.taken) [
        | inl past ↦ c.first_empty-slot.ensures.taken s past less e
        | inr before ↦ taken_here old.arenas.items old.lying c.args.arena c.index.result.now c.requires c.index.ensures
            old.kept.taken s before small e
      ]) old.kept;
    }

pub returns-clause-same : goal.returns-clause-same
returns-clause-same c = record {
  arenas = record {
    owners = same_owner c.args.self.now.arenas.items c.args.arena c.index_mut.result.now _ c.index_mut.ensures.value
        refl;
    out = refl;
  };
  flags = flags_same c.args.self.now.arenas.items c.args.arena c.index_mut.result.now _ c.index_mut.ensures.value refl;
  lying = refl;
}

pub returns-clause-none : goal.returns-clause-none
returns-clause-none c =
    let old = c.args.self.now in
    if_none c.new.result _ c.new.ensures (λ full o s small e. elim (at_least s c.index.result.now.taken) [
      | inl past ↦ elim (at_least s c.first_empty-slot.result) [
        | inl most ↦ full (omega arith)
        | inr less ↦ c.first_empty-slot.ensures.taken s past less e
      ]
      | inr before ↦ taken_here old.arenas.items old.lying c.args.arena c.index.result.now c.requires c.index.ensures
          old.kept.taken s before small e
    ])

pub returns-clause-some : goal.returns-clause-some
returns-clause-some c =
    let old = c.args.self.now in
    let o = c.is_open.ensures.0 c.if-not-is_open.false in
    if_some _ c.new.result (c.args.arena, c.first_empty-slot.result) c.new.ensures (λ below. (
      refl,
      below,
      open_at old.arenas.items c.args.arena c.args.zone c.index.result.now c.requires c.index.ensures o.0 o.1,
      c.first_empty-slot.ensures.empty below,
      λ s less e. elim (at_least s c.index.result.now.taken) [
        | inl past ↦ c.first_empty-slot.ensures.taken s past less e
        | inr before ↦ taken_here old.arenas.items old.lying c.args.arena c.index.result.now c.requires c.index.ensures
            old.kept.taken s before (omega arith) e
      ],
    ))
