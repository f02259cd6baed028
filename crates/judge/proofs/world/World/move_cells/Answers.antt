use Rattle.std.proofs.Common.{◌∙◌, ◌+◌, ◌∷◌, ℕ, List, Option, ap, drop, reverse, subst, sym}
use Rattle.std.specs.Map.Iter.{deref_pair}
use Rattle.std.proofs.lemmas.Map.Iter.{rest_more}
use Rattle.gz_names.specs.declared.names.Name.{Name}
use Rattle.gz_names.specs.declared.numbers.Place.{Place}
use Rattle.colour_defs.proofs.Lists.{contains_head}
use Rattle.judge.specs.Compaction.{GoTo, MayGo}
use Rattle.judge.specs.Stages.{Shown, shown}
use Rattle.judge.proofs.Packing.{drop_at, go_on}
use Rattle.judge.proofs.world.World.move_cells.Goals as goal

pub shift-requires : goal.shift-requires
shift-requires c =
    let old = c.loop-was.self in
    let p = c.in-Some-place_at.place in
    let left : List Place = drop (c.loop-was.next + 1) c.args.free.now in
    let es = rest_more deref_pair _ _ _ _ c.in-Some.is c.next.ensures.steps in
    let ps = drop_at c.args.free.now c.loop-was.next p c.in-Some-place_at.ensures in
    let may = subst (λ (xs : List (Place × Name)). MayGo old.places old.arenas xs (p ∷ left)) es
    (subst (λ (qs : List Place). MayGo old.places old.arenas c.loop-was.was-iterator qs) ps
    c.loop-was.invariant.may) in
    let free = may.free p (contains_head p left) in record {
      at = may.there c.in-Some.was.now c.in-Some.name.now (contains_head _ _);
      made = free.0;
      below = free.1;
      empty = free.2;
    }

pub loop-was-preserved : goal.loop-was-preserved
loop-was-preserved c =
    let old = c.loop-was.self in
    let cells = c.shift.new.places in
    let arenas = c.shift.new.arenas in
    let p = c.in-Some-place_at.place in
    let e : Place × Name = (c.in-Some.was.now, c.in-Some.name.now) in
    let rest : List (Place × Name) = c.next.new.self in
    let left : List Place = drop (c.loop-was.next + 1) c.args.free.now in
    let gone = c.in_ok-shift.ensures in
    let es = rest_more deref_pair _ _ _ _ c.in-Some.is c.next.ensures.steps in
    let ps = drop_at c.args.free.now c.loop-was.next p c.in-Some-place_at.ensures in
    let may = subst (λ (xs : List (Place × Name)). MayGo old.places old.arenas xs (p ∷ left)) es
    (subst (λ (qs : List Place). MayGo old.places old.arenas c.loop-was.was-iterator qs) ps
    c.loop-was.invariant.may) in record {
      same =
          ap (λ (os : List (Option ℕ)). record (shown old) {
            owners = os;
            out = reverse arenas.out.items;
            cells = cells;
          }) gone.arenas.owners
          ∙ ap (λ (ns : List ℕ). record (shown old) { out = reverse ns; cells = cells }) gone.arenas.out
          ∙ ap (λ (s : Shown). record s { cells = cells }) c.loop-was.invariant.same;
      so = λ after go. c.loop-was.invariant.so after
          (subst (λ (xs : List (Place × Name)). GoTo xs (drop c.loop-was.next c.args.free.now) old.places after)
          (sym es) (subst (λ (qs : List Place). GoTo (e ∷ rest) qs old.places after) (sym ps)
          (cells, gone.updates, go)));
      may = go_on old.places cells old.arenas arenas e rest p left
          (record { updates = gone.updates; arenas = gone.arenas; elsewhere = gone.elsewhere }) may;
    }
