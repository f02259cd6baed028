use Rattle.std.proofs.Common.{◌≡◌, ◌∙◌, ◌++◌, ℕ, List, [], Option, Some, filter, map, reverse, ap, subst, sym}
use Rattle.std.specs.Prelude.{IfSome}
use Rattle.std.proofs.lemmas.List.{append-nil}
use Rattle.gz_names.specs.Zones.{zones_in}
use Rattle.colour_defs.specs.Ends.{arenas_from}
use Rattle.judge.specs.Arenas.{owners_in}
use Rattle.judge.specs.Bounds.{tally_of}
use Rattle.judge.specs.Cells.{Cells, HasColours, LetsGo}
use Rattle.judge.specs.Former.{Releases}
use Rattle.judge.specs.Stages.{Ends, HasGroups, IsFirstGroup, Shown, Stage, shown, stage_of}
use Rattle.judge.specs.Walks.{CatchesUp, Walks, walks_of}
use Rattle.judge.specs.Weak.{AreUnwatched, if_present, is_watched}
use Rattle.judge.specs.Whites.{AreByArena}
use Rattle.judge.specs.declared.collection.GroupEnd.{GroupEnd}
use Rattle.judge.specs.declared.former.Former.{Former}
use Rattle.judge.specs.declared.weak.WeakNames.{WeakNames}
use Rattle.judge.proofs.Found.{colours_of, grays_of, told_of, whites_of}
use Rattle.judge.proofs.Reports.{not_ended}
use Rattle.judge.proofs.Results.{fault_known, none_is}
use Rattle.judge.proofs.checks.ended.Goals as goal

pub returns-then-is_same-clause-right : goal.returns-then-is_same-clause-right
returns-then-is_same-clause-right c =
    let end = c.in-Some.end in
    let before = c.args.world.now in
    let mid = c.group_end.new.self in
    let after = c.end_group.new.self in
    let same = c.in_ok-end.ensures.same in
    let places : mid.places ≡ before.places = ap (λ (s : Shown). s.cells) same in
    let former : mid.former ≡ before.former = ap (λ (s : Shown). s.former) same in
    let black : mid.black ≡ before.black = ap (λ (s : Shown). s.black) same in
    let first = subst (λ (o : Option GroupEnd). IfSome o (λ e. IsFirstGroup (stage_of before.phase) e.zones))
    c.in-Some.is c.in_ok-end.ensures.first in
    let found = subst (λ (o : Option GroupEnd). IfSome o (λ e. (b : Walks) × (a : Walks)
    × (walks_of before.phase ≡ Some b) × (walks_of mid.phase ≡ Some a) × CatchesUp before.former.graph b a
    × HasColours c.args.graph.now before.places a.black.names a.live.names e)) c.in-Some.is
    c.in_ok-end.ensures.colours in
    let goes = subst (λ (cells : Cells). LetsGo end.whites.items cells after.places) places
    c.in_ok-end_group.ensures.places in
    let settles = c.in_ok-end_group.ensures.settles in
    let owners : owners_in mid.arenas ≡ owners_in before.arenas = ap (λ (s : Shown). s.owners) same in
    let none : reverse mid.arenas.out.items ≡ [] = ap (λ (s : Shown). s.out) same ∙ c.requires.due.0 in
    let zones = zones_in end.zones in
    let whites = subst (λ (cells : Cells). AreByArena cells end.whites.items after.whites) places
    c.in_ok-end_group.ensures.whites in
    let walked = c.requires.sound.walks found.0 found.2 (subst HasGroups (sym first.3) tt) in (
      end.zones,
      end.grays.items,
      c.is_same.ensures.0 c.if-is_same.true ∙ c.as_slice.ensures.value ∙ c.in_ok-due.ensures,
      record {
        none_out = c.requires.due.0;
        ends = subst (λ (s : Stage). Ends s end.zones (stage_of after.phase)) (ap (λ (s : Shown). s.stage) same)
            c.in_ok-end_group.ensures.ends;
        walks = found.0;
        found = found.2;
        colours = colours_of c.args.graph.now before.places after.places before.former.graph found.0 found.1 end
            (record { black = walked.black; live = walked.live; caught = found.4 }) found.5 goes;
        owners_is = c.in_ok-end_group.ensures.owners ∙ owners;
        out_is = c.in_ok-end_group.ensures.out
            ∙ ap (λ (xs : List ℕ). arenas_from 0 (owners_in mid.arenas) zones ++ xs) none
            ∙ append-nil (arenas_from 0 (owners_in mid.arenas) zones)
            ∙ ap (λ (os : List (Option ℕ)). arenas_from 0 os zones) owners;
        whites_are = whites_of c.args.graph.now (shown before) found.0 found.1 end after.whites
            (record { black = walked.black; live = walked.live; caught = found.4 }) found.5 whites;
        goes_on = record {
          after = found.1;
          caught = found.4;
          left = λ h. let l = settles.left h in (l.0 ∙ found.3, l.1 ∙ former, l.2 ∙ black);
          over = λ n. let o = settles.over n in (
            subst (λ (f : Former). Releases f after.former) former o.0,
            o.1 found.1 found.3,
          );
        };
        tally_is = ap tally_of c.in_ok-end_group.ensures.tally ∙ ap (λ (s : Shown). s.tally) same;
        loses = record {
          slots_are = c.in_ok-end_group.ensures.slots
              ∙ ap (λ (s : Shown). map (if_present after.places) s.weak.slots) same;
          told_are = told_of c.args.graph.now (shown before) found.0 found.1 end after.told
              (record { black = walked.black; live = walked.live; caught = found.4 }) found.5
              (c.in_ok-end_group.ensures.told
              ∙ ap (λ (s : Shown). filter (is_watched s.weak) end.whites.items) same);
          watched_are = subst (λ (w : WeakNames). AreUnwatched w after.told after.weak)
              (ap (λ (s : Shown). s.weak) same) c.in_ok-end_group.ensures.watched;
        };
      },
    )

pub returns-clause-wrong : goal.returns-clause-wrong
returns-clause-wrong c =
    let end = c.in-Some.end in
    let before = c.args.world.now in
    let first = subst (λ (o : Option GroupEnd). IfSome o (λ e. IsFirstGroup (stage_of before.phase) e.zones))
    c.in-Some.is c.in_ok-end.ensures.first in
    let found = subst (λ (o : Option GroupEnd). IfSome o (λ e. (b : Walks) × (a : Walks)
    × (walks_of before.phase ≡ Some b) × (walks_of c.group_end.new.self.phase ≡ Some a)
    × CatchesUp before.former.graph b a × HasColours c.args.graph.now before.places a.black.names a.live.names e))
    c.in-Some.is c.in_ok-end.ensures.colours in
    let walked = c.requires.sound.walks found.0 found.2 (subst HasGroups (sym first.3) tt) in
    not_ended c.args.graph.now (shown before) c.args.line.now end
    (record {
      first = first;
      walks = found.0;
      found = found.2;
      grays = grays_of c.args.graph.now before.places before.former.graph found.0 found.1 end
          (record { black = walked.black; live = walked.live; caught = found.4 }) found.5;
    })
    (λ e. let same = c.is_same.ensures.1 (e ∙ sym (c.as_slice.ensures.value ∙ c.in_ok-due.ensures)) in
    cc (same, c.if-is_same.false))

pub returns-in_default-clause-wrong : goal.returns-in_default-clause-wrong
returns-in_default-clause-wrong c = fault_known c.none_due.result (λ group grays e may.
    none_is c.in_ok-end.field-0 c.in_default.is c.in_ok-end.ensures.none c.requires.due.1.0 c.requires.due.1.1)
