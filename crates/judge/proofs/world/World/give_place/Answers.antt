use Rattle.std.proofs.Common.{◌∙◌, ℕ, List, Option, inl, refl, subst, sym}
use Rattle.std.proofs.lemmas.Result.{on_ok_weaker}
use Rattle.colour_defs.specs.World.{IsPlaceFor}
use Rattle.judge.specs.Stages.{shown}
use Rattle.judge.proofs.NewCells.{slots_as}
use Rattle.judge.proofs.Owners.{lies_same}
use Rattle.judge.proofs.Cells.{gives_found, gives_made, gives_nothing}
use Rattle.judge.proofs.world.World.give_place.Goals as goal

pub returns-then-is_present-clause-places : goal.returns-then-is_present-clause-places
returns-then-is_present-clause-places c =
    gives_found c.args.graph.now c.args.self.now.places c.args.name (c.is_present.ensures.0 c.if-is_present.true)

pub returns-in_default-clause-places : goal.returns-in_default-clause-places
returns-in_default-clause-places c =
    gives_nothing c.args.graph.now c.args.self.now.places c.args.name
    (λ z e. c.in_default.not-Some z (c.zone_of.ensures ∙ e))

pub returns-then-is_present-clause-lies : goal.returns-then-is_present-clause-lies
returns-then-is_present-clause-lies c = lies_same c.args.graph.now (shown c.args.self.now) _ refl refl

pub returns-in_default-clause-lies : goal.returns-in_default-clause-lies
returns-in_default-clause-lies c = lies_same c.args.graph.now (shown c.args.self.now) _ refl refl

pub returns-clause-lies : goal.returns-clause-lies
returns-clause-lies c =
    let old = c.args.self.now in
    on_ok_weaker c.lay.result (λ updates. inl (record {
      name = c.args.name;
      zone = c.in-Some.zone;
      place = c.in_ok-place.place;
      of = sym c.in-Some.ensures;
      fresh = λ h. let t = c.is_present.ensures.1 h in cc (t, c.if-is_present.false);
      updates = updates;
      lies = λ w laid. subst (λ (os : List (Option ℕ)). IsPlaceFor w c.in-Some.zone c.in_ok-place.place os)
          (sym c.lay.ensures.arenas.owners) (c.in_ok-place.ensures.place w
          (slots_as old.places old.arenas w old.laid laid.owners_are laid.out_is laid.places_are));
    })) c.lay.ensures.updates

pub returns-clause-places : goal.returns-clause-places
returns-clause-places c =
    on_ok_weaker c.lay.result (λ updates. gives_made c.args.graph.now c.args.self.now.places c.lay.new.places
    c.args.name c.in_ok-place.place (λ h. let t = c.is_present.ensures.1 h in cc (t, c.if-is_present.false)) updates)
    c.lay.ensures.updates
